-- What a walk has is a list of entries. Here: what a function has on entry and leaves at its end, entry by entry.
--     past Δ Γ         Γ without its first entries, as many as Δ has
--     alive_each       a token for each lifetime
--     own_each         what each argument owns
--     last_each        what is said at last of each argument of which anything is said
--     Lists Γ R        the entries Γ together are R, both ways: `alive_listed`, `owns_listed`, `last_listed`
--     listed_both      and of two lists, one behind the other
--     apart, together  what a struct owns is taken apart into what its fields own, and put together
use mathlib.Core.Path.{◌≡◌}
use Prim.Native.Nat.{ℕ, zero, suc}
use mathlib.Core.List.{List, [], ◌∷◌, ◌++◌}
use seplogic.Ra.Ura.{Ura}
use mir.Val.{Val, vstruct}
use base.Logic.{SProp, ent, sep, emp, id⊢, via, snd∗, mono∗, mono_r, emp∗}
use base.Fml.{Fml, flft}
use types.Logic.{Logic, sem}
use contract.Lifetimes.{Lfts, Shares, toks}
use types.Kit.{Item, ‵, given, Goal, Step, step, ⋆, mean, push, pop, ++⊢, ⊢++, cut, use1, learn, ◌$◌}
use denote.Exit.{Exit, unchanged, leaves, Last, left}
use denote.Laws.{valss}
use denote.RattleType.{RattleType, Denots, Valss, owns}
use denote.Signature.{Slot, types_at}
use denote.Struct.At.{spelled}
use denote.Struct.Declared.{Declared, shape}
use denote.Struct.Field.{rows}
use denote.Struct.Laws.{Laws, spells}
use denote.Struct.Rest.{all_own, own_open, own_shut}
use denote.Struct.Struct.{Struct}
use denote.Struct.Values.{Values, intos}
use denote.Triple.End.{Kepts, Fins, lasts_of}

abbrev pub past {α} : {X : Type α} → List X → List X → List X
past [] Γ = Γ
past (i ∷ Δ) [] = []
past (i ∷ Δ) (j ∷ Γ) = past Δ Γ

module _ {M : Type 1} (𝓤 : Ura M) where
  abbrev pub alive_each : (n : ℕ) → Lfts n → Shares n → List (Item 𝓤)
  alive_each zero κs qs = []
  alive_each (suc n) κs qs = ‵ (flft κs.0 qs.0) ∷ alive_each n κs.1 qs.1

  abbrev pub own_each : (Rs : List RattleType) → Denots Rs → Valss Rs → List (Item 𝓤)
  own_each [] a vss = []
  own_each (R ∷ Rs) a vss = ‵ (R.own_val a.0 vss.0) ∷ own_each Rs a.1 vss.1

  abbrev with_last : {D : Type 0} (e : Exit D) (x : D) → Last e x → List (Item 𝓤) → List (Item 𝓤)
  with_last unchanged x l Γ = Γ
  with_last (leaves L says S see rest) x l Γ = ‵ (says x l) ∷ Γ

  abbrev pub last_each : {n : ℕ} (κs : Lfts n) (ss : List (Slot n)) (ks : Kepts ss) (a : Denots (types_at ss κs)) → Fins κs ss ks a → List (Item 𝓤)
  last_each κs [] ks a ws = []
  last_each κs (s ∷ ss) ks a ws = with_last ((s.row κs).exit ks.0) a.0 ws.0 (last_each κs ss ks.1 a.1 ws.1)

pub record Lists {M : Type 1} {𝓤 : Ura M} (𝓛 : Logic 𝓤) (Γ : List (Item 𝓤)) (R : SProp 𝓤) : Type 1 where
  pub into : ent 𝓤 (⋆ 𝓛 Γ) R
  pub out : ent 𝓤 R (⋆ 𝓛 Γ)

module _ {M : Type 1} {𝓤 : Ura M} (𝓛 : Logic 𝓤) where
  listed_none : Lists 𝓛 [] (emp 𝓤)
  listed_none = record { into = id⊢ 𝓤 (emp 𝓤); out = id⊢ 𝓤 (emp 𝓤) }

  listed_one : (i : Item 𝓤) {Γ : List (Item 𝓤)} {R : SProp 𝓤} → Lists 𝓛 Γ R → Lists 𝓛 (i ∷ Γ) (sep 𝓤 (mean 𝓛 i) R)
  listed_one i {Γ} l =
      let I = mean 𝓛 i in
      let each = sep 𝓤 I (⋆ 𝓛 Γ) in
      record { into = via 𝓤 each (pop 𝓛 i Γ) (mono_r 𝓤 I l.into); out = via 𝓤 each (mono_r 𝓤 I l.out) (push 𝓛 i Γ) }

  pub listed_both : {Γ Δ : List (Item 𝓤)} {R S : SProp 𝓤} → Lists 𝓛 Γ R → Lists 𝓛 Δ S → Lists 𝓛 (Γ ++ Δ) (sep 𝓤 R S)
  listed_both {Γ} {Δ} l m =
      let each = sep 𝓤 (⋆ 𝓛 Γ) (⋆ 𝓛 Δ) in
      record { into = via 𝓤 each (⊢++ 𝓛 Γ Δ) (mono∗ 𝓤 l.into m.into); out = via 𝓤 each (mono∗ 𝓤 l.out m.out) (++⊢ 𝓛 Γ Δ) }

  pub alive_listed : (n : ℕ) (κs : Lfts n) (qs : Shares n) → Lists 𝓛 (alive_each 𝓤 n κs qs) (toks 𝓛 n κs qs)
  alive_listed zero κs qs = listed_none
  alive_listed (suc n) κs qs = listed_one (‵ (flft κs.0 qs.0)) (alive_listed n κs.1 qs.1)

  pub owns_listed : (Rs : List RattleType) (a : Denots Rs) (vss : Valss Rs) → Lists 𝓛 (own_each 𝓤 Rs a vss) (sem 𝓛 (owns Rs a vss))
  owns_listed [] a vss = listed_none
  owns_listed (R ∷ Rs) a vss = listed_one (‵ (R.own_val a.0 vss.0)) (owns_listed Rs a.1 vss.1)

  with_listed : {D : Type 0} (e : Exit D) (x : D) (l : Last e x) {Γ : List (Item 𝓤)} {R : SProp 𝓤} → Lists 𝓛 Γ R
      → Lists 𝓛 (with_last 𝓤 e x l Γ) (sep 𝓤 (sem 𝓛 (left e x l)) R)
  with_listed unchanged x l {R = R} h = record { into = via 𝓤 R h.into (emp∗ 𝓤 R); out = via 𝓤 R (snd∗ 𝓤 (emp 𝓤) R) h.out }
  with_listed (leaves L says S see rest) x l h = listed_one (‵ (says x l)) h

  pub last_listed : {n : ℕ} (κs : Lfts n) (ss : List (Slot n)) (ks : Kepts ss) (a : Denots (types_at ss κs)) (ws : Fins κs ss ks a)
      → Lists 𝓛 (last_each 𝓤 κs ss ks a ws) (sem 𝓛 (lasts_of κs ss ks a ws))
  last_listed κs [] ks a ws = listed_none
  last_listed κs (s ∷ ss) ks a ws = with_listed ((s.row κs).exit ks.0) a.0 ws.0 (last_listed κs ss ks.1 a.1 ws.1)

-- ---- a struct
module _ (T : Declared) (L : Laws T) (x : Values T.parts) where
  -- what is spelled by its fields, and by itself
  abbrev each_value : Valss (rows T.parts)
  each_value = valss (rows T.parts) (spells T.parts L) (intos T.parts x)

  abbrev value : Val
  value = vstruct (spelled T.parts L x)

  abbrev Owns : Val → Fml
  Owns u = (Struct (shape T)).own_val (intos T.parts x) (u ∷ [])

  module _ {M : Type 1} {𝓤 : Ura M} {𝓛 : Logic 𝓤} {K : Type 0} {Γ : List (Item 𝓤)} {G : Goal 𝓤 𝓛.H} where
    pub apart : K → (u : Val) → Step K 𝓛 (own_each 𝓤 (rows T.parts) (intos T.parts x) each_value ++ Γ) G (‵ (Owns u) ∷ Γ) G
    apart t u = step (λ s.
        use1 𝓛 (given (u ∷ [] ≡ value ∷ []) (‵ (all_own T.parts L x))) (own_open 𝓛 T L x u) $ learn t (λ _.
        cut (‵ (all_own T.parts L x) ∷ []) (own_each 𝓤 (rows T.parts) (intos T.parts x) each_value) Γ
        (owns_listed 𝓛 (rows T.parts) (intos T.parts x) each_value).out $ s))

    pub together : K → Step K 𝓛 (‵ (Owns value) ∷ Γ) G (own_each 𝓤 (rows T.parts) (intos T.parts x) each_value ++ Γ) G
    together t =
        cut (own_each 𝓤 (rows T.parts) (intos T.parts x) each_value) (‵ (Owns value) ∷ []) Γ (via 𝓤 (sem 𝓛 (all_own T.parts L x))
        (owns_listed 𝓛 (rows T.parts) (intos T.parts x) each_value).into (own_shut 𝓛 T L x))
