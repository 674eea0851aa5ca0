-- Laws of the vertices that an edge joins.
use mathlib.Core.Bool.{Bool, true, false, cond, ◌&&◌, ◌||◌, or_comm}
use mathlib.Core.Path.{◌≡◌, refl, sym, ◌∙◌}
use Prim.Native.Nat.{ℕ, ◌<◌}
use lib.Dec.{eqb}
use Rattle.graph.specs.Network.{Network, Edge, edge_between, Proper, edge, edge_count, touches, other_end, parallel}
use Rattle.graph.specs.Cycle.{joins}
use Rattle.graph.proofs.Truth.{or_right, and_both, eqb_eq, eqb_same, eqb_swap}
use Rattle.graph.proofs.Mates.{parallel_carries}
use Rattle.graph.proofs.Ends.{touches_left, touches_right}
use Rattle.graph.proofs.Walks.{joins-ends, joins_swap, joins_elim, joins_least}

-- whatever holds of two vertices, in whichever order, holds of the ends of an edge that joins them
pub joins_carries : (P : ℕ → ℕ → Type 0) → ((x y : ℕ) → P x y → P y x) → (e : Edge) (x y : ℕ) → joins e x y ≡ true
    → P x y → P e.left e.right
unfolding edge_between joins parallel
joins_carries P swap e x y h = parallel_carries P swap e (edge_between x y) h

-- an edge joins its ends in both orders
pub joins_back : (e : Edge) → joins e e.right e.left ≡ true
joins_back e = joins_swap e e.right e.left ∙ joins-ends e

-- an edge touches the vertices that it joins
pub joins-touches : (e : Edge) (x y : ℕ) → joins e x y ≡ true → touches e x ≡ true
joins-touches e = joins_elim (λ x y. touches e x ≡ true) e (touches_left e) (touches_right e)

-- and no third
pub touches_no_third : (e : Edge) (v x y : ℕ) → joins e x y ≡ true → touches e v ≡ true → (eqb x v || eqb y v) ≡ true
unfolding touches
touches_no_third e v x y j k =
    joins_elim (λ x y. (eqb x v || eqb y v) ≡ true) e k (or_comm (eqb e.right v) (eqb e.left v) ∙ k) x y j

-- an edge joins a vertex that it touches to its other end
pub touches-joins : (e : Edge) (c : ℕ) → touches e c ≡ true → joins e c (other_end e c) ≡ true
unfolding touches other_end
touches-joins e c t = go (eqb e.left c) refl
  where
    go : (b : Bool) → eqb e.left c ≡ b → joins e c (cond b e.right e.left) ≡ true
    go true k = rw (← eqb_eq e.left c k) (joins-ends e)
    go false k = rw (← eqb_eq e.right c (rw k at t)) (joins_back e)

-- the other end is the vertex to which it joins
pub joins_other : (e : Edge) (x y : ℕ) → joins e x y ≡ true → other_end e x ≡ y
unfolding other_end
joins_other e = joins_elim (λ x y. other_end e x ≡ y) e (rw eqb_same) (go (eqb e.left e.right) refl)
  where
    go : (b : Bool) → eqb e.left e.right ≡ b → cond b e.right e.left ≡ e.left
    go true k = sym (eqb_eq e.left e.right k)
    go false k = refl

-- the other end of the other end is the end itself
pub other_end_back : (e : Edge) (x : ℕ) → touches e x ≡ true → other_end e (other_end e x) ≡ x
other_end_back e x t = joins_other e (other_end e x) x (joins_swap e (other_end e x) x ∙ touches-joins e x t)

-- parallel edges join the same vertices
pub parallel-joins : (e f : Edge) → parallel e f ≡ true → (x y : ℕ) → joins e x y ≡ true → joins f x y ≡ true
unfolding parallel joins
parallel-joins e f p =
    joins_least (λ x y. joins f x y ≡ true) (λ x y k. joins_swap f y x ∙ k) e
    (joins_elim (λ x y. ((eqb x e.left && eqb y e.right) || (eqb x e.right && eqb y e.left)) ≡ true) e
    (joins-ends e)
    (or_right (eqb e.right e.left && eqb e.left e.right) (and_both (eqb_same e.right) (eqb_same e.left)))
    f.left f.right p)

-- no edge of a proper network joins a vertex to itself
pub joins-apart : (g : Network) → Proper g → (s : ℕ) → s < edge_count g
    → (x y : ℕ) → joins (edge g s) x y ≡ true → eqb x y ≡ false
joins-apart g ok s h =
    joins_least (λ x y. eqb x y ≡ false) (λ x y n. eqb_swap y x ∙ n) (edge g s) (ok.no_loop s h)
