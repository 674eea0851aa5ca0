-- A step taken in a table: what is done for it leaves the bits of what is used then.
use mathlib.Core.Bool.{Bool, true, false, cond}
use mathlib.Core.List.{List}
use mathlib.Core.Logic.{◌⊎◌, inl, inr}
use mathlib.Core.Path.{◌≡◌, refl, sym, ◌∙◌, ap, ap₂}
use Prim.Native.Nat.{ℕ, ◌%◌, ◌<◌}
use native.Mathlib.Omega.{arith}
use lib.Dec.{eqb}
use Rattle.graph.specs.Network.{Network, MateRule, edge, edge_count, mates}
use Rattle.graph.proofs.Truth.{true_or_false, eqb_eq}
use Rattle.ways.specs.Used.{Used, step_taken, Usable, StepFits}
use Rattle.numbers.specs.declared.Shape.{Shape}
use Rattle.forest.specs.Promise.{network_in, edge_scratch}
use Rattle.routes.specs.declared.uses.Use.{Use}
use Rattle.routes.specs.Inside.Lists.{bits_of, use_of, Linked, Listed}
use Rattle.routes.specs.Inside.Walks.{taken_use, mates_use, is_other_mate, UsesSet, MatesSet, StepDone}
use Rattle.routes.proofs.Frames.{edges_are, held_rule, only_trans, same-network}
use Rattle.routes.proofs.WalksUses.{uses_linked, uses_bits, other_mate, not_other_mate}
use Rattle.routes.proofs.UseBits.{same_bits}
use Rattle.routes.proofs.WalksTaken.{own_use, mate_use, other_use}

-- the bits of the step's edge are set, and then those of its other mates: the step is taken
pub step_done : {shape : Shape} {x s : ℕ} {old mid new : List ℕ} (used : Use) (left : Bool) (own others : Use)
    → bits_of used ≡ edge_scratch shape old s % 4 → left ≡ eqb (edge (network_in shape old) s).left x
    → own ≡ taken_use used left → others ≡ mates_use used
    → UsesSet shape (λ e. eqb s e) own old mid → MatesSet shape x s others mid new → StepDone shape x s old new
step_done {shape} {x} {s} {old} {mid} {new} used left own others used_is left_is own_is others_is v w =
    record { only = only_trans v.only w.only; taken = taken }
  where
    taken : (g : Network) (u : Used) → network_in shape old ≡ g → Listed shape g u old → Usable g u → StepFits g u x s
        → Listed shape g (step_taken u x s) new
    taken g u is listed usable fits = record { linked = uses_linked (is_other_mate g s) set g is_then linked; uses = uses }
      where
        is_then : network_in shape mid ≡ g
        is_then = same-network v.only ∙ is

        linked : Linked shape g (edge_count g) mid
        linked = uses_linked (λ e. eqb s e) v g is listed.linked

        set : UsesSet shape (is_other_mate g s) others mid new
        set = w.mates-set g is_then linked fits.at_end

        before : used ≡ use_of g u s
        before = same_bits (used_is ∙ listed.uses s fits.known)

        rule : MateRule g.rule
        rule = held_rule shape g old is

        own_then : own ≡ use_of g (step_taken u x s) s
        own_then =
            own_is ∙ ap₂ taken_use before (left_is ∙ ap (λ h. eqb (edge h s).left x) is) ∙ sym (own_use g rule u x s usable fits)

        others_then : (r : ℕ) → is_other_mate g s r ≡ true → others ≡ use_of g (step_taken u x s) r
        others_then r o = others_is ∙ ap mates_use before ∙ sym (mate_use g rule u x s usable fits r o)

        uses : (r : ℕ) → r < edge_count g → edge_scratch shape new r % 4 ≡ bits_of (use_of g (step_taken u x s) r)
        uses r h = uses_bits (is_other_mate g s) set r inside
            ∙ rw (uses_bits (λ e. eqb s e) v r inside) (go (true_or_false (eqb s r)) (true_or_false (mates g s r)))
          where
            inside : r < shape.edges
            inside = omega (arith, edges_are shape g old is)

            go : (eqb s r ≡ true) ⊎ (eqb s r ≡ false) → (mates g s r ≡ true) ⊎ (mates g s r ≡ false)
                → cond (is_other_mate g s r) (bits_of others) (cond (eqb s r) (bits_of own) (edge_scratch shape old r % 4))
                ≡ bits_of (use_of g (step_taken u x s) r)
            go (inl e) k = rw (not_other_mate g s r e, e, ← eqb_eq s r e) (ap bits_of own_then)
            go (inr n) (inl m) =
                let o = other_mate g s r n refl m in
                rw o (ap bits_of (others_then r o))
            go (inr n) (inr k) =
                rw (other_mate g s r n refl k, n) (listed.uses r h ∙ ap bits_of (sym (other_use g rule u x s usable fits r k)))
