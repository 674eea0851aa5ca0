-- How the other mates of an edge get their bits one after another, along the list of a vertex at which they all are.
use mathlib.Core.Bool.{true, false, not, ◌&&◌, ◌||◌, and-false, and-true}
use mathlib.Core.List.{List}
use mathlib.Core.Logic.{◌⊎◌, inl, inr, ⊎_elim}
use mathlib.Core.Path.{◌≡◌, sym, ◌∙◌}
use Prim.Native.Nat.{ℕ, suc, ◌≤◌, ◌<◌, min}
use native.Mathlib.Omega.{arith}
use lib.Dec.{eqb, leb}
use Rattle.graph.specs.Network.{Network, MateRule, edge, edge_count, touches, mates}
use Rattle.graph.proofs.Truth.{true_or_false, false_of_not, not_both, bool_ext, and_right, or_cases, or_left, or_right}
use Rattle.graph.proofs.Truth.{eqb_eq, eqb_ne, leb_le, le-leb}
use Rattle.graph.proofs.Ends.{touched_known}
use Rattle.ways.proofs.UsedSteps.{mates_touch}
use Rattle.numbers.specs.declared.Shape.{Shape}
use Rattle.forest.specs.Promise.{Holds, network_in, vertices_held, proper_held, vertex_scratch}
use Rattle.routes.specs.Inside.Frame.{head_column}
use Rattle.routes.specs.declared.uses.Use.{Use}
use Rattle.routes.specs.Inside.Lists.{last_at, Linked, entry_behind}
use Rattle.routes.specs.Inside.Walks.{UsesSet, is_other_mate}
use Rattle.routes.proofs.Frames.{edges_are, held_rule, same-network}
use Rattle.routes.proofs.ListsWords.{last_small, last_touches, none_from_last, entry_behind_is, first_entry_is}
use Rattle.routes.proofs.WalksUses.{uses_none, uses_same, uses_both, uses_linked}

-- another mate of an edge is at each of its ends
other_mate_touches : (g : Network) → MateRule g.rule → (s r x : ℕ) → touches (edge g s) x ≡ true → is_other_mate g s r ≡ true
    → touches (edge g r) x ≡ true
unfolding is_other_mate
other_mate_touches g rule s r x h m = mates_touch g rule s r x (and_right (not (eqb s r)) (mates g s r) m) h

-- the other mates from an entry on have their bits, and the entry is none or that of an edge at vertex x
pub record MatesFrom (shape : Shape) (g : Network) (x s : ℕ) (used : Use) (entry : ℕ) (old new : List ℕ) : Type 0 where
  pub at_end : (r : ℕ) → entry ≡ suc r → touches (edge g r) x ≡ true
  pub done : UsesSet shape (λ r. is_other_mate g s r && leb entry r) used old new

module _ (shape : Shape) (g : Network) (x s : ℕ) (used : Use) (old : List ℕ) (is : network_in shape old ≡ g)
    (at_end : touches (edge g s) x ≡ true) where
  -- no other mate lies between an entry and where it was looked for
  no_mate_above : (k r : ℕ) → last_at g x k ≤ r → r < k → is_other_mate g s r ≡ false
  no_mate_above k r h l = false_of_not (is_other_mate g s r) (λ m.
      not_both (other_mate_touches g (held_rule shape g old is) s r x at_end m) (none_from_last g x k r h l))

  -- at the list's head nothing is done
  pub mates_begin : Holds shape old → Linked shape g (edge_count g) old → s < shape.edges → (entry : ℕ)
      → entry ≡ min (vertex_scratch shape old head_column x) shape.edges → MatesFrom shape g x s used entry old old
  mates_begin holds w known entry e =
      record {
        at_end = λ r q. last_touches g x (edge_count g) r (sym first ∙ q);
        done = uses_none (λ r. is_other_mate g s r && leb entry r) old holds (λ r h. none r h (true_or_false (leb entry r)));
      }
    where
      inside : x < g.vertices
      inside = touched_known g (rw (← is) (proper_held shape old holds)) s x (rw (edges_are shape g old is) known) at_end

      first : entry ≡ last_at g x (edge_count g)
      first = e ∙ first_entry_is holds is w x (rw (← is, vertices_held shape old) at inside)

      none : (r : ℕ) → r < shape.edges → (leb entry r ≡ true) ⊎ (leb entry r ≡ false) → (is_other_mate g s r && leb entry r) ≡ false
      none r h (inl k) =
          rw (no_mate_above (edge_count g) r (omega (arith, first, leb_le entry r k)) (omega (arith, edges_are shape g old is)))
      none r h (inr n) = rw n (and-false (is_other_mate g s r))

  -- an edge of the list gets its bits if it is another mate, and the list goes on behind it
  pub mates_next : Linked shape g (edge_count g) old → (entry r : ℕ) (t new : List ℕ) → MatesFrom shape g x s used entry old t
      → entry ≡ suc r → r < shape.edges → UsesSet shape (λ e. eqb r e && is_other_mate (network_in shape t) s e) used t new
      → (behind : ℕ) → behind ≡ entry_behind shape new x r → MatesFrom shape g x s used behind old new
  mates_next w entry r t new m q known v behind e =
      record {
        at_end = λ i p. last_touches g x r i (sym next ∙ p);
        done =
            uses_same (λ i. is_other_mate g s i && leb entry i || eqb r i && is_other_mate g s i) (λ i. is_other_mate g s i && leb behind i)
            (λ i h. tests i (true_or_false (is_other_mate g s i)))
            (uses_both (λ i. is_other_mate g s i && leb entry i) (λ i. eqb r i && is_other_mate g s i) m.done step);
      }
    where
      is_then : network_in shape t ≡ g
      is_then = same-network m.done.only ∙ is

      step : UsesSet shape (λ i. eqb r i && is_other_mate g s i) used t new
      step = rw is_then at v

      linked : Linked shape g (edge_count g) new
      linked = uses_linked (λ i. eqb r i && is_other_mate g s i) step g is_then
          (uses_linked (λ i. is_other_mate g s i && leb entry i) m.done g is w)

      next : behind ≡ last_at g x r
      next = e ∙ entry_behind_is step.only.holds (same-network step.only ∙ is_then) linked x r
          (omega (arith, edges_are shape g old is)) (m.at_end r q)

      tests : (i : ℕ) → (is_other_mate g s i ≡ true) ⊎ (is_other_mate g s i ≡ false)
          → (is_other_mate g s i && leb entry i || eqb r i && is_other_mate g s i) ≡ (is_other_mate g s i && leb behind i)
      tests i (inl o) = rw (o, and-true (eqb r i)) (bool_ext (leb entry i || eqb r i) (leb behind i) down up)
        where
          below : behind ≤ r
          below = omega (arith, next, last_small g x r)

          down : (leb entry i || eqb r i) ≡ true → leb behind i ≡ true
          down d = le-leb behind i (⊎_elim (λ k. omega (arith, below, q, leb_le entry i k)) (λ k. omega (arith, below, eqb_eq r i k))
              (or_cases (leb entry i) (eqb r i) d))

          passed : leb behind i ≡ true → i < r → ⊥
          passed d l = not_both o (no_mate_above r i (omega (arith, next, leb_le behind i d)) l)

          up : leb behind i ≡ true → (leb entry i || eqb r i) ≡ true
          up d = ⊎_elim (λ k. or_right (leb entry i) k)
              (λ k. or_left (le-leb entry i (omega (arith, passed d, q, eqb_ne r i k))) (eqb r i)) (true_or_false (eqb r i))
      tests i (inr n) = rw (n, and-false (eqb r i))
