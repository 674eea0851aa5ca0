-- Walks of a function's code by hand: how such a walk begins, calls and ends. What a walk has is a list of entries: a token for each lifetime, what
-- each argument owns, and after a call what is said at last of each `&mut`.
--     Promise          a function's contract in plain facts: what it asks, if anything, and what it says of the result and of the parameters at exit
--     Keeps w P γ f    the function named f keeps its promise P, where the code calls it.   cites      a function that is proved does
--     Walk w P γ f     what is to be shown of the code f: from what the function has on entry it runs to what P promises
--     walked           a function whose code is walked keeps its promise
--     calls            a call of a function that keeps its promise: what it says is learned, at some last values of what it was lent
--     ends             the end of a walk, at a result and last values that the walk names
use mathlib.Core.Path.{◌≡◌, subst}
use mathlib.Core.List.{List, [], ◌∷◌, ◌++◌}
use seplogic.Ra.Ura.{Ura}
use mir.Syntax.{Fn, Place, Opd as Operand, Body, seq, call}
use mir.Val.{Val}
use base.Logic.{SProp, ent, sep, emp, id⊢, via, fst∗}
use base.Fml.{ftrue}
use prog.Wp.{Heap, Calls, Loops, WpFn, Closed, Env as Locals}
use prog.Routine.{Callee, Routine, Env}
use types.Logic.{sem}
use contract.Monad.{fact, fact_i}
use contract.Lifetimes.{Lfts, Shares, AllOutlive}
use contract.Running.{tables}
use types.Kit.{Item, ‵, raw, ◌⊛◌, some, later, prop, runs, lands, allocs, params', Post, at_ret, Seq, Go, ⋆, cut}
use types.Kit.{◌$◌, ◌∵◌, !, qed, by, move, keep, use1, split, join, pick, frame, await, updating, now as at_once, show, done}
use types.Run.{Opds, enter}
use denote.RattleType.{RattleType, mirs, flat}
use denote.Laws.{Typed, Is, Ises, Are, valss, shows, all_Typed}
use denote.Signature.{Signature, type_at, types_at}
use denote.Steps.{said, peeks, heard}
use denote.Triple.Bound.{Bound}
use denote.Triple.Entry.{Args, Vals, Res, alive, on_entry}
use denote.Triple.Clauses.{Ended, Clauses, Lasts, AtExit, at_exit, lasts, ensured, closing}
use denote.Triple.Spec.{Back, triple_of}
use denote.Triple.Statement.{Contract, Triple}
use denote.Triple.Table.{entered, framed, cited}
use denote.Triple.Call.{calls_from}
use denote.Triple.Walked.{says, needs}
use borrow.Fn.World.{World}
use Rattle.walks.proofs.Known.{Knowns, spelling, telling, lawfuls, W}
use Rattle.walks.proofs.Listed.{past, alive_each, own_each, last_each, Lists, listed_both, alive_listed, owns_listed, last_listed}

-- ---- what a contract asks
pub data Asked : Type 1 where
  nothing : Asked
  that : Type 0 → Asked

abbrev pub Met : Asked → Type 0
Met nothing = Unit {0}
Met (that φ) = φ

module _ {M : Type 1} (𝓤 : Ura M) where
  abbrev asking : Asked → SProp 𝓤
  asking nothing = emp 𝓤
  asking (that φ) = fact 𝓤 φ

  learned : (q : Asked) {R S : SProp 𝓤} → (Met q → ent 𝓤 R S) → ent 𝓤 (sep 𝓤 R (asking q)) S
  learned nothing {R} h = via 𝓤 R (fst∗ 𝓤 R (emp 𝓤)) (h tt)
  learned (that φ) {R} h = needs 𝓤 φ R h

  answered : (q : Asked) → Met q → ent 𝓤 (emp 𝓤) (asking q)
  answered nothing m = id⊢ 𝓤 (emp 𝓤)
  answered (that φ) m = fact_i 𝓤 φ (emp 𝓤) m

-- ---- contracts
pub record Promise : Type 2 where
  pub ended : Ended
  pub params : (κs : Lfts ended.signature.lifetimes) → Knowns (types_at ended.signature.params κs)
  pub asks : (κs : Lfts ended.signature.lifetimes) → Args ended.signature κs → Asked
  pub says : (κs : Lfts ended.signature.lifetimes) → Args ended.signature κs → Res ended.signature κs → AtExit ended κs → Type 0

module _ (P : Promise) where
  abbrev pub sig : Signature
  sig = P.ended.signature

  -- a call: the lifetimes, a share of each, that they meet the signature's bounds, and the arguments
  abbrev pub Call : Type 0
  Call = (κs : Lfts sig.lifetimes) × Shares sig.lifetimes × AllOutlive sig.lifetimes sig.outlives κs × Args sig κs

  module _ (x : Call) where
    abbrev pub rows : List RattleType
    rows = types_at sig.params x.0

    abbrev pub Result : RattleType
    Result = type_at sig.result x.0

    -- the arguments' machine values
    abbrev pub spelled : Vals sig x.0
    spelled = valss rows (spelling rows (P.params x.0)) x.3

    -- they are the arguments', and of their types
    abbrev pub AsSpelled : Type 0
    AsSpelled = Are rows (Ises rows) x.3 spelled

    abbrev pub OfTypes : Type 0
    OfTypes = Typed (mirs rows) (flat rows spelled)

    -- the last values of what is lent, and what the function says where they are ws
    abbrev pub Final : Type 0
    Final = Lasts P.ended x.0 x.3

    abbrev pub Says : Result.Denot → Final → Type 0
    Says r ws = P.says x.0 x.3 r (at_exit P.ended x.0 x.3 ws)

  abbrev clauses : {M : Type 1} (𝓤 : Ura M) → Clauses 𝓤 P.ended
  clauses 𝓤 κs a = record { ghost = Unit {0}; requires = λ _. asking 𝓤 (P.asks κs a); ensures = λ _ r e. fact 𝓤 (P.says κs a r e) }

-- ---- in a model
module _ (w : World) where
  open w use {𝓤, 𝓛, 𝓜, 𝓡}

  abbrev H : Heap 𝓤
  H = 𝓛.H

  module _ (γ : Env) where
    abbrev pub C : Calls 𝓤 H
    C = (tables 𝓤 H 𝓜 𝓡 γ).C

    abbrev pub Λ : Loops 𝓤 H
    Λ = (tables 𝓤 H 𝓜 𝓡 γ).Λ

  module _ (P : Promise) where
    abbrev kept : Contract 𝓤
    kept = triple_of 𝓛 (sig P) (closing 𝓛 P.ended (clauses P 𝓤))

    abbrev pub Keeps : Env → Callee → Type 1
    Keeps γ f = Triple 𝓤 (C γ f) kept

    pub cites : (γ : Env) (f : Callee) (r : Routine) → γ f ≡ r → Triple 𝓤 (𝓡.run r) kept → Keeps γ f
    cites γ = cited 𝓤 H kept 𝓜 𝓡 γ

    module _ (x : Call P) where
      abbrev tokens : List (Item 𝓤)
      tokens = alive_each 𝓤 (sig P).lifetimes x.0 x.1

      abbrev living : SProp 𝓤
      living = alive 𝓛 (sig P) x.0 x.1

      -- what the function has on entry
      abbrev pub brought : Vals (sig P) x.0 → List (Item 𝓤)
      brought vss = tokens ++ own_each 𝓤 (rows P x) x.3 vss

      abbrev entry : Vals (sig P) x.0 → SProp 𝓤
      entry = on_entry 𝓛 (sig P) x.0 x.1 x.3

      entry_listed : (vss : Vals (sig P) x.0) → Lists 𝓛 (brought vss) (entry vss)
      entry_listed vss = listed_both 𝓛 (alive_listed 𝓛 (sig P).lifetimes x.0 x.1) (owns_listed 𝓛 (rows P x) x.3 vss)

      -- what there is when it has ended: the tokens, and what is said of the arguments at last
      abbrev pub over : Final P x → List (Item 𝓤)
      over ws = tokens ++ last_each 𝓤 x.0 (sig P).params P.ended.kept x.3 ws

      abbrev left : Final P x → Item 𝓤
      left ws = ‵ (lasts P.ended x.0 x.3 ws)

      over-listed : (ws : Final P x) → Lists 𝓛 (over ws) (sep 𝓤 living (sem 𝓛 (lasts P.ended x.0 x.3 ws)))
      over-listed ws =
          listed_both 𝓛 (alive_listed 𝓛 (sig P).lifetimes x.0 x.1)
          (last_listed 𝓛 x.0 (sig P).params P.ended.kept x.3 ws)

      abbrev pub promised : Val → SProp 𝓤
      promised = kept.post ((x.0, x.1, x.2, x.3, spelled P x), tt)

    abbrev pub Walk : Env → Fn → Type 1
    Walk γ f = (x : Call P) → Met (P.asks x.0 x.3) → AsSpelled P x → OfTypes P x
        → Seq (Go {0}) (W w) (brought x (spelled P x))
        (allocs f.locals (λ E. params' E (flat (rows P x) (spelled P x)) (runs (C γ) (Λ γ) E f.body (at_ret E (promised x)))))

    pub walked : (γ : Env) (k : Callee) (f : Fn) → Closed 𝓤 H (C γ) (Λ γ) k f → Walk γ f → Triple 𝓤 (𝓡.run (γ k)) kept
    walked γ k f closed walk = entered 𝓤 H kept (C γ) (Λ γ) k f closed (λ y.
        let κs = y.0.0 in
        let x : Call P = (κs, y.0.1, y.0.2, y.0.3) in
        learned 𝓤 (P.asks κs y.0.3) (λ ok.
        said 𝓛 (sig P) κs y.0.1 (spelling (rows P x) (P.params κs)) (telling (rows P x) (P.params κs)) y.0.3
        (λ us. WpFn 𝓤 H (C γ) (Λ γ) f (flat (rows P x) us) (kept.post y)) y.0.4
        (λ are. via 𝓤 (⋆ 𝓛 (brought x (spelled P x))) (entry_listed x (spelled P x)).out
        (qed (W w) (brought x (spelled P x)) ∵ enter ! (C γ) (Λ γ) f _ _ $
        walk x ok are (all_Typed 𝓛 (rows P x) (lawfuls w (rows P x) (P.params κs)) y.0.3 (spelled P x) are)))))

    module _ {K : Type 0} {Γ : List (Item 𝓤)} where
      -- the context begins with the tokens, what is said at last, and what the result owns
      pub ends : K → (x : Call P) (v : Val) (r : (Result P x).Denot) (ws : Final P x)
          → over x ws ++ ‵ ((Result P x).own_val r (v ∷ [])) ∷ past (over x ws ++ ‵ ftrue ∷ []) Γ ≡ Γ → Says P x r ws → Seq K (W w) Γ (prop (promised x v))
      ends t x v r ws is e = subst (λ (Γ' : List (Item 𝓤)). Seq K (W w) Γ' (prop (promised x v))) is (
          let y : Bound 𝓛 (sig P) = (x.0, x.1, x.2, x.3, spelled P x) in
          cut (over x ws) ((raw (living x) ⊛ left x ws) ∷ []) _ (over-listed x ws).into $ split t $ updating t $ at_once t $
          show t (λ (r' : (Result P x).Denot). sep 𝓤 (Back 𝓛 (sig P) y v r') (ensured 𝓛 P.ended (clauses P 𝓤) x.0 x.3 tt r')) r $
          move t (0 ∷ 2 ∷ []) $ join t $ frame t $
          show t (λ (ws' : Final P x). sep 𝓤 (sem 𝓛 (lasts P.ended x.0 x.3 ws')) (fact 𝓤 (Says P x r ws'))) ws $
          says t e $ keep t (0 ∷ []) $ done t)

      -- the context begins with what the function is to have on entry; its operands are read with all of that as one entry
      pub calls : (γ : Env) → K → {f : Callee} → Keeps γ f → (x : Call P) (vss : Vals (sig P) x.0) → Met (P.asks x.0 x.3)
          → {E : Locals 𝓤 H} {xs : List Operand} {d : Place} {rest : Body} {q : Post 𝓤 H}
          → brought x vss ++ past (brought x vss) Γ ≡ Γ
          → Opds K (W w) (raw (entry x vss) ∷ past (brought x vss) Γ) E xs (flat (rows P x) vss)
          → ((u : Val) (r : (Result P x).Denot) (ws : Final P x) → Says P x r ws → Is (Result P x) r (u ∷ [])
          → Seq K (W w) (over x ws ++ ‵ ((Result P x).own_val r (u ∷ [])) ∷ past (brought x vss) Γ) (lands (C γ) (Λ γ) E d u rest q))
          → Seq K (W w) Γ (runs (C γ) (Λ γ) E (seq (call f xs d) rest) q)
      calls γ t {f} known x vss ok {E} {xs} {d} {rest} {q} is os k =
          subst (λ (Γ' : List (Item 𝓤)). Seq K (W w) Γ' (runs (C γ) (Λ γ) E (seq (call f xs d) rest) q)) is (
          let y : kept.Ghost = ((x.0, x.1, x.2, x.3, vss), tt) in
          cut (brought x vss) (raw (entry x vss) ∷ []) _ (entry_listed x vss).into $
          calls_from t (λ k vs. framed 𝓤 H 𝓜 (tables 𝓤 H 𝓜 𝓡 γ) k vs) (raw (entry x vss)) (kept.args y) (kept.post y)
          (via 𝓤 (kept.pre y) (qed (W w) (raw (entry x vss) ∷ []) ∵ frame ! $ by ! (answered 𝓤 (P.asks x.0 x.3) ok)) (known y)) os (λ u.
          use1 (W w) (later (some (λ (r : (Result P x).Denot). (raw (living x) ⊛ ‵ ((Result P x).own_val r (u ∷ [])))
          ⊛ some (λ (ws : Final P x). left x ws ⊛ raw (fact 𝓤 (Says P x r ws)))))) (id⊢ 𝓤 _) $
          await t tt $ pick t (λ r. split t $ move t (1 ∷ []) $ pick t (λ ws. split t $ move t (1 ∷ []) $
          heard t (Says P x r ws) (λ e. move t (1 ∷ []) $ split t $ move t (1 ∷ []) $
          peeks t (Result P x) (Is (Result P x)) (shows 𝓛 (Result P x)) r (u ∷ []) (λ is'. move t (1 ∷ 2 ∷ []) $ join t $
          cut ((raw (living x) ⊛ left x ws) ∷ []) (over x ws) _ (over-listed x ws).out $ k u r ws e is'))))))
