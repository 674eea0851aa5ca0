-- A `while` in a walk, with the rest of the function's body behind it up to the return.
--     turning      what a turn is to come to: at the head again, with fewer left; or out of the loop, and the rest runs
--     whiles       a loop whose every turn comes to that, and the rest behind it
--     tests        the test at a turn's beginning: the turn goes on, or the loop is left
--     turned       the turn is over: what is held is what is held at the head, with fewer left
use mathlib.Core.Bool.{Bool, not}
use mathlib.Core.WellFounded.InvImage
use Prim.Native.Nat.{ℕ, ◌<◌}
use mathlib.Core.List.{List}
use lib.Dec.{T as Holds}
use lib.WfN.{lt-wf_rel}
use mir.Syntax.{Opd as Operand, Body, skip, seq, cond, exit, block, loop}
use mir.Val.{Val, vbool}
use base.Logic.{SProp}
use prog.Routine.{Env}
use prog.Wp.{Heap, next, Env as Locals, Wp, at_return, after_seq, after_block, after_turn}
use contract.Running.{tables, tables_of}
use types.Kit.{Item, prop, runs, Post, post, any_q, at_ret, Seq, ◌$◌}
use types.Run.{Opd, first, branches, skips, jumps, blocks, loops, again, Below}
use borrow.Fn.World.{World}
use Rattle.walks.proofs.Known.{W}
use Rattle.walks.proofs.Walk.{C, Λ}

-- in w's model, under γ: how many are left, what is held at the head, the locals, the rest of the body, and what is promised of the result
module _ (w : World) (γ : Env) {X : Type 0} (left : X → ℕ) (I : X → List (Item w.𝓤)) (E : Locals w.𝓤 w.𝓛.H) (rest : Body) (P : Val → SProp w.𝓤) where
  open w use {𝓤, 𝓛, 𝓜, 𝓡}

  abbrev H : Heap 𝓤
  H = 𝓛.H

  abbrev Fewer : X → X → Type 0
  Fewer t' t = left t' < left t

  abbrev pub turning : X → Post 𝓤 H
  turning t = any_q (after_turn 𝓤 H (Below 𝓛 Fewer I t)
      (after_block 𝓤 H (after_seq 𝓤 H (Wp 𝓤 H (C w γ) (Λ w γ) E rest (at_return 𝓤 H E P)) (at_return 𝓤 H E P))))

  module _ {K : Type 0} where
    pub whiles : K → {b : Body} → ((t : X) → Seq K (W w) (I t) (runs (C w γ) (Λ w γ) E b (turning t)))
        → (t : X) → Seq K (W w) (I t) (runs (C w γ) (Λ w γ) E (seq (block (loop b)) rest) (at_ret E P))
    unfolding tables_of
    whiles k turn t =
        first k $ blocks k $ loops k (tables_of 𝓤 H 𝓜 (tables 𝓤 H 𝓜 𝓡 γ)) Fewer (InvImage.wf left lt-wf_rel.wf) I turn t

    module _ {Γ : List (Item 𝓤)} where
      pub tests : K → (t : X) {c : Operand} {y : Bool} {b : Body} → Opd K (W w) Γ E c (vbool y)
          → (Holds y → Seq K (W w) Γ (runs (C w γ) (Λ w γ) E b (turning t)))
          → (Holds (not y) → Seq K (W w) Γ (runs (C w γ) (Λ w γ) E rest (at_ret E P)))
          → Seq K (W w) Γ (runs (C w γ) (Λ w γ) E (seq (cond c skip (exit 1)) b) (turning t))
      unfolding after_turn
      tests k t o on out = first k $ branches k o (λ h. skips k $ record { prf = (on h).prf }) (λ h. jumps k $ record { prf = (out h).prf })

    pub turned : K → (t t' : X) → left t' < left t → Seq K (W w) (I t') (prop (post 𝓤 H (turning t) next))
    unfolding after_turn
    turned k t t' fewer = again k Fewer I t t' fewer
