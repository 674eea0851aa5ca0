-- Steps of a walk over whole locals, each at the local's entry n of the context.
--     laid, lies           a function's locals at their places; what they hold, the last first, as the context has it once they are allocated
--     local, field_of      a local is read, or field k of one that holds a struct
--     start_of, slice_of   where a slice begins that a local refers to, and the same with its count: so it is lent again
--     sets, sets_last      a local is assigned for the first time; one that holds something is assigned again, as the last statement of a turn
--     lands_in, lands_over     a call's result is stored in a local that holds nothing, or something
--     free_at, free_room   a local is freed, which holds something, or nothing
use mathlib.Core.Path.{◌≡◌, sym, subst}
use mathlib.Core.Option.{Option, none, some}
use Prim.Native.Nat.{ℕ, zero, ◌+◌}
use mathlib.Core.List.{List, [], ◌∷◌}
use lib.Dec.{T as Holds}
use seplogic.Ra.Ura.{Ura}
use mir.Syntax.{Sym, Ty, Tys, ty_struct, place, field, deref, copy, addr_of, aggregate, Rv as RValue, Local, local as typed-local, Body, seq, assign}
use mir.Val.{Val, Vals, vptr, vstruct, vnil, vcons, WT, has_ty}
use mir.Fields.{get_v, set_v}
use base.Logic.{ent, sep, id⊢, via, assoc', mono∗, mono_r}
use base.Fraction.{full_share}
use base.Fml.{Share, fat, froom, fdies}
use prog.Memory.{field_at}
use prog.Wp.{Heap, next, Env as Locals, Spot, spot_of, Calls, Loops}
use types.Logic.{Logic}
use types.Kit.{Item, ‵, nth, del, put, ⋆, mean, pull, Goal, prop, runs, lands, frees, Post, post, Step, step}
use types.Part.{Part, agg, whole, sub, look_in}
use types.Run.{Walks, Opd, Rv, load, addr, from, stop, hop, fld, look, init, store, and_then, no_more, assigns, assigns_last, land}

-- local i: its cell, its room, and that a value is of its type
module _ {M : Type 1} (𝓤 : Ura M) (H : Heap 𝓤) (E : Locals 𝓤 H) (i : ℕ) where
  abbrev cell : Share → Val → Item 𝓤
  cell q v = ‵ (fat q (spot_of 𝓤 H E i).0 (spot_of 𝓤 H E i).1 zero v)

  abbrev room : Item 𝓤
  room = ‵ (froom (spot_of 𝓤 H E i).0 (spot_of 𝓤 H E i).1 zero)

  abbrev Fits : Val → Type 0
  Fits v = Holds (has_ty (spot_of 𝓤 H E i).0 v) × WT v

module _ {M : Type 1} (𝓤 : Ura M) (H : Heap 𝓤) where
  abbrev pub laid : List Local → List ℕ → Locals 𝓤 H
  laid [] bs = []
  laid (l ∷ ls) [] = []
  laid (typed-local τ h ∷ ls) (b ∷ bs) = (τ, b) ∷ laid ls bs

  -- what a local holds, if anything
  abbrev held : Ty → ℕ → Option Val → Item 𝓤
  held τ b none = ‵ (froom τ b zero)
  held τ b (some v) = ‵ (fat full_share τ b zero v)

  abbrev pub lies : Locals 𝓤 H → List (Option Val) → List (Item 𝓤) → List (Item 𝓤)
  lies [] vs behind = behind
  lies (l ∷ E) [] behind = behind
  lies (l ∷ E) (v ∷ vs) behind = lies E vs (held l.0 l.1 v ∷ ‵ (fdies l.0 l.1) ∷ behind)

module _ {M : Type 1} {𝓤 : Ura M} {𝓛 : Logic 𝓤} {K : Type 0} {Γ : List (Item 𝓤)} {E : Locals 𝓤 𝓛.H} where
  open 𝓛 use {H}

  pub local : K → (n : ℕ) {q : Share} {i : ℕ} {v : Val} → nth 𝓛 n Γ ≡ cell 𝓤 H E i q v → Opd K 𝓛 Γ E (copy (place i [])) v
  local t n e = load t (from t (stop t)) (look t n e)

  pub field_of : K → (n k : ℕ) {q : Share} {i : ℕ} {ν : Sym} {τs : Tys} {b : ℕ} {vs : Vals} {τ : Ty} {d : ℕ}
      → nth 𝓛 n Γ ≡ ‵ (fat q (ty_struct ν τs) b zero (vstruct vs)) → spot_of 𝓤 H E i ≡ (ty_struct ν τs, b, zero) → field_at zero τs k ≡ some (τ, d)
      → Opd K 𝓛 Γ E (copy (place i (field k ∷ []))) (get_v vs k)
  field_of t n k {q} {i} {ν} {τs} {b} {vs} {τ} {d} e at f =
      let back : Val → Item 𝓤 = λ u. ‵ (fat q (ty_struct ν τs) b zero (vstruct (set_v vs k u))) in
      load t (from t (subst (λ (sp : Spot 𝓤 H). Walks K 𝓛 Γ E sp (field k ∷ []) (τ, b, zero + d)) (sym at) (fld t f (stop t))))
      (look_in t n (subst (λ (j : Item 𝓤). Part K 𝓛 j q τ b (zero + d) (get_v vs k) back) (sym e) (sub t k f (whole t))))

  pub start_of : K → (n : ℕ) {q : Share} {i : ℕ} {ν : Sym} {τs : Tys} {b : ℕ} {c o : ℕ} {vs : Vals} {τ τ' : Ty} {d : ℕ}
      → nth 𝓛 n Γ ≡ ‵ (fat q (ty_struct ν τs) b zero (vstruct (vcons (vptr c o) vs))) → spot_of 𝓤 H E i ≡ (ty_struct ν τs, b, zero)
      → field_at zero τs 0 ≡ some (τ, d) → Rv K 𝓛 Γ E (addr_of (place i (field 0 ∷ deref τ' ∷ []))) (vptr c o)
  start_of t n {q} {i} {ν} {τs} {b} {c} {o} {vs} {τ} {τ'} {d} e at f =
      let back : Val → Item 𝓤 = λ u. ‵ (fat q (ty_struct ν τs) b zero (vstruct (set_v (vcons (vptr c o) vs) 0 u))) in
      addr t (from t (subst (λ (sp : Spot 𝓤 H). Walks K 𝓛 Γ E sp (field 0 ∷ deref τ' ∷ []) (τ', c, o)) (sym at) (fld t f (hop t
      (look_in t n (subst (λ (j : Item 𝓤). Part K 𝓛 j q τ b (zero + d) (vptr c o) back) (sym e) (sub t 0 f (whole t)))) (stop t)))))

  pub slice_of : K → (m n : ℕ) {q r : Share} {p i : ℕ} {ν : Sym} {τs : Tys} {b : ℕ} {u : Val} {vs : Vals} {τ : Ty} {d : ℕ}
      → nth 𝓛 m Γ ≡ cell 𝓤 H E p r u
      → nth 𝓛 n Γ ≡ ‵ (fat q (ty_struct ν τs) b zero (vstruct vs)) → spot_of 𝓤 H E i ≡ (ty_struct ν τs, b, zero) → field_at zero τs 1 ≡ some (τ, d)
      → Rv K 𝓛 Γ E (aggregate (copy (place p []) ∷ copy (place i (field 1 ∷ [])) ∷ [])) (vstruct (vcons u (vcons (get_v vs 1) vnil)))
  slice_of t m n at_p e at f = agg t (and_then t (local t m at_p) (and_then t (field_of t n 1 e at f) (no_more t)))

  module _ {C : Calls 𝓤 H} {Λ : Loops 𝓤 H} {q : Post 𝓤 H} where
    pub sets : K → {i : ℕ} {rv : RValue} {rest : Body} {v : Val} → Rv K 𝓛 Γ E rv v → (n : ℕ) → nth 𝓛 n Γ ≡ room 𝓤 H E i → Fits 𝓤 H E i v
        → Step K 𝓛 (put 𝓛 n (cell 𝓤 H E i full_share v) Γ) (runs C Λ E rest q) Γ (runs C Λ E (seq (assign (place i []) rv) rest) q)
    sets t r n e wt = assigns t r (from t (stop t)) (init t n e wt)

    pub sets_last : K → {i : ℕ} {rv : RValue} {u v : Val} → Rv K 𝓛 Γ E rv v → (n : ℕ) → nth 𝓛 n Γ ≡ cell 𝓤 H E i full_share u → Fits 𝓤 H E i v
        → Step K 𝓛 (put 𝓛 n (cell 𝓤 H E i full_share v) Γ) (prop (post 𝓤 H q next)) Γ (runs C Λ E (assign (place i []) rv) q)
    sets_last t r n e wt = assigns_last t r (from t (stop t)) (store t n e wt)

    pub lands_in : K → {i : ℕ} {v : Val} {rest : Body} (n : ℕ) → nth 𝓛 n Γ ≡ room 𝓤 H E i → Fits 𝓤 H E i v
        → Step K 𝓛 (put 𝓛 n (cell 𝓤 H E i full_share v) Γ) (runs C Λ E rest q) Γ (lands C Λ E (place i []) v rest q)
    lands_in t n e wt = land t (from t (stop t)) (init t n e wt)

    pub lands_over : K → {i : ℕ} {u v : Val} {rest : Body} (n : ℕ) → nth 𝓛 n Γ ≡ cell 𝓤 H E i full_share u → Fits 𝓤 H E i v
        → Step K 𝓛 (put 𝓛 n (cell 𝓤 H E i full_share v) Γ) (runs C Λ E rest q) Γ (lands C Λ E (place i []) v rest q)
    lands_over t n e wt = land t (from t (stop t)) (store t n e wt)

  -- a local is freed whose entry, j, gives its room
  free_as : K → (n : ℕ) (j : Item 𝓤) {τ : Ty} {b : ℕ} {g : Goal 𝓤 H} → ent 𝓤 (mean 𝓛 j) (H.room τ b zero)
      → nth 𝓛 n Γ ≡ j → nth 𝓛 n (del 𝓛 n Γ) ≡ ‵ (fdies τ b)
      → Step K 𝓛 (del 𝓛 n (del 𝓛 n Γ)) (frees E g) Γ (frees ((τ, b) ∷ E) g)
  free_as t n j {τ} {b} gives held dies = step (λ s. record {
    prf =
        let others = ⋆ 𝓛 (del 𝓛 n Γ) in
        let rest = ⋆ 𝓛 (del 𝓛 n (del 𝓛 n Γ)) in
        let R = H.room τ b zero in
        let D = H.dies τ b in
        via 𝓤 (sep 𝓤 (mean 𝓛 j) others)
        (subst (λ (i : Item 𝓤). ent 𝓤 (⋆ 𝓛 Γ) (sep 𝓤 (mean 𝓛 i) others)) held (pull 𝓛 n Γ))
        (via 𝓤 (sep 𝓤 R (sep 𝓤 D rest))
        (mono∗ 𝓤 gives (subst (λ (i : Item 𝓤). ent 𝓤 others (sep 𝓤 (mean 𝓛 i) rest)) dies (pull 𝓛 n (del 𝓛 n Γ))))
        (via 𝓤 (sep 𝓤 (sep 𝓤 R D) rest) (assoc' 𝓤 R D rest) (mono_r 𝓤 (sep 𝓤 R D) s.prf)));
  })

  pub free_at : K → (n : ℕ) {τ : Ty} {b : ℕ} {v : Val} {g : Goal 𝓤 H}
      → nth 𝓛 n Γ ≡ ‵ (fat full_share τ b zero v) → nth 𝓛 n (del 𝓛 n Γ) ≡ ‵ (fdies τ b)
      → Step K 𝓛 (del 𝓛 n (del 𝓛 n Γ)) (frees E g) Γ (frees ((τ, b) ∷ E) g)
  free_at t n {τ} {b} {v} = free_as t n (‵ (fat full_share τ b zero v)) (𝓛.laws.at_room τ b zero v)

  pub free_room : K → (n : ℕ) {τ : Ty} {b : ℕ} {g : Goal 𝓤 H}
      → nth 𝓛 n Γ ≡ ‵ (froom τ b zero) → nth 𝓛 n (del 𝓛 n Γ) ≡ ‵ (fdies τ b)
      → Step K 𝓛 (del 𝓛 n (del 𝓛 n Γ)) (frees E g) Γ (frees ((τ, b) ∷ E) g)
  free_room t n {τ} {b} = free_as t n (‵ (froom τ b zero)) (id⊢ 𝓤 (H.room τ b zero))
