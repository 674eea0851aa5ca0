-- Laws of an edge's two ends: which vertices it touches, and how it joins them.
use mathlib.Core.Bool.{Bool, true, false, cond, ◌&&◌, ◌||◌}
use mathlib.Core.Logic.{◌⊎◌, inl, inr, Equivalence}
use mathlib.Core.Path.{◌≡◌, refl, sym, ◌∙◌, subst}
use Prim.Native.Nat.{ℕ, ◌<◌}
use lib.Dec.{eqb}
use Rattle.graph.specs.Network.{Network, Edge, Loss, edge, edge_count, touches, other_end, nothing, without, joined, Proper}
use Rattle.graph.specs.Groups.{component}
use Rattle.graph.specs.Block.{link_at, link}
use Rattle.graph.proofs.Truth.{true_or_false, bool_ext, or_cases, or_left, or_right, or_neither, or_neither_left, or_neither_right, and_left, and_right, and_both, eqb_eq, eqb_same, eqb_swap}
use Rattle.graph.proofs.Joined.{joined_refl, joined_sym, joined_trans, joined_swap, joined-edge, joined_least}

-- joined vertices are joined to the same vertices
pub joined_from : (g : Network) (lost : Loss) (x y z : ℕ) → joined g lost x y ≡ true → joined g lost x z ≡ joined g lost y z
joined_from g lost x y z e =
    bool_ext (joined g lost x z) (joined g lost y z)
    (joined_trans g lost y x z (joined_sym g lost x y e))
    (joined_trans g lost x y z e)

-- and to it the same vertices are joined
pub joined_to : (g : Network) (lost : Loss) (x y z : ℕ) → joined g lost y z ≡ true → joined g lost x y ≡ joined g lost x z
joined_to g lost x y z e = joined_swap g lost x y ∙ joined_from g lost y z x e ∙ joined_swap g lost z x

-- an edge touches its left end
pub touches_left : (e : Edge) → touches e e.left ≡ true
unfolding touches
touches_left e = or_left (eqb_same e.left) (eqb e.right e.left)

-- and its right end
pub touches_right : (e : Edge) → touches e e.right ≡ true
unfolding touches
touches_right e = or_right (eqb e.left e.right) (eqb_same e.right)

-- an edge touches no other vertex
pub touches-ends : (e : Edge) (c : ℕ) → touches e c ≡ true → (e.left ≡ c) ⊎ (e.right ≡ c)
unfolding touches
touches-ends e c t = go (or_cases (eqb e.left c) (eqb e.right c) t)
  where
    go : (eqb e.left c ≡ true) ⊎ (eqb e.right c ≡ true) → (e.left ≡ c) ⊎ (e.right ≡ c)
    go (inl h) = inl (eqb_eq e.left c h)
    go (inr h) = inr (eqb_eq e.right c h)

-- a vertex that an edge touches is a vertex of the network
pub touched_known : (g : Network) → Proper g → (s x : ℕ) → s < edge_count g → touches (edge g s) x ≡ true → x < g.vertices
touched_known g r s x h t = go (touches-ends (edge g s) x t)
  where
    go : ((edge g s).left ≡ x) ⊎ ((edge g s).right ≡ x) → x < g.vertices
    go (inl q) = rw q at (r.left_known s h)
    go (inr q) = rw q at (r.right_known s h)

-- the other end is an end
pub other_end-touches : (e : Edge) (c : ℕ) → touches e (other_end e c) ≡ true
unfolding other_end
other_end-touches e c = go (eqb e.left c)
  where
    go : (b : Bool) → touches e (cond b e.right e.left) ≡ true
    go true = touches_right e
    go false = touches_left e

-- the other end is another vertex
pub other_end_differs : (e : Edge) (c : ℕ) → eqb e.left e.right ≡ false → eqb (other_end e c) c ≡ false
unfolding other_end
other_end_differs e c d = go (true_or_false (eqb e.left c))
  where
    go : (eqb e.left c ≡ true) ⊎ (eqb e.left c ≡ false) → eqb (cond (eqb e.left c) e.right e.left) c ≡ false
    go (inl h) = rw (h, ← eqb_eq e.left c h, eqb_swap e.right e.left) d
    go (inr h) = rw h h

-- at one of its ends, an edge leads from that end to the other
pub other_end_ways : (e : Edge) (c : ℕ) → touches e c ≡ true
    → ((e.left ≡ c) × (e.right ≡ other_end e c)) ⊎ ((e.right ≡ c) × (e.left ≡ other_end e c))
unfolding other_end touches
other_end_ways e c t = go (eqb e.left c) refl t
  where
    go : (b : Bool) → eqb e.left c ≡ b → (b || eqb e.right c) ≡ true
        → ((e.left ≡ c) × (e.right ≡ cond b e.right e.left)) ⊎ ((e.right ≡ c) × (e.left ≡ cond b e.right e.left))
    go true k t = inl (eqb_eq e.left c k, refl)
    go false k t = inr (eqb_eq e.right c t, refl)

-- an edge that is not lost joins any two of the vertices that it touches
pub ends-joined : (g : Network) (lost : Loss) (s x y : ℕ) → s < edge_count g → lost s ≡ false
    → touches (edge g s) x ≡ true → touches (edge g s) y ≡ true → joined g lost x y ≡ true
ends-joined g lost s x y h k t u = go (touches-ends (edge g s) x t) (touches-ends (edge g s) y u)
  where
    over : joined g lost (edge g s).left (edge g s).right ≡ true
    over = joined-edge g lost s h k

    go : ((edge g s).left ≡ x) ⊎ ((edge g s).right ≡ x) → ((edge g s).left ≡ y) ⊎ ((edge g s).right ≡ y)
        → joined g lost x y ≡ true
    go (inl p) (inl q) = rw (← p, ← q) (joined_refl g lost (edge g s).left)
    go (inl p) (inr q) = rw (← p, ← q) over
    go (inr p) (inl q) = rw (← p, ← q) (joined_sym g lost (edge g s).left (edge g s).right over)
    go (inr p) (inr q) = rw (← p, ← q) (joined_refl g lost (edge g s).right)

-- the vertices that an edge touches share a component
pub ends-component : (g : Network) (s x y : ℕ) → s < edge_count g
    → touches (edge g s) x ≡ true → touches (edge g s) y ≡ true → component g x y ≡ true
unfolding component nothing
ends-component g s x y h = ends-joined g nothing s x y h refl

-- without a third vertex c, an edge still joins any two of the vertices that it touches
pub ends-joined-without : (g : Network) (c s x y : ℕ) → s < edge_count g → eqb c x ≡ false → eqb c y ≡ false
    → touches (edge g s) x ≡ true → touches (edge g s) y ≡ true → joined g (without g c) x y ≡ true
unfolding without touches
ends-joined-without g c s x y h d f t u = go (touches-ends (edge g s) x t) (touches-ends (edge g s) y u)
  where
    stays : eqb (edge g s).left c ≡ false → eqb (edge g s).right c ≡ false → joined g (without g c) x y ≡ true
    stays l r = ends-joined g (without g c) s x y h (or_neither l r) t u

    go : ((edge g s).left ≡ x) ⊎ ((edge g s).right ≡ x) → ((edge g s).left ≡ y) ⊎ ((edge g s).right ≡ y)
        → joined g (without g c) x y ≡ true
    go (inl p) (inl q) = rw (← p, ← q) (joined_refl g (without g c) (edge g s).left)
    go (inl p) (inr q) = stays (rw p (eqb_swap x c ∙ d)) (rw q (eqb_swap y c ∙ f))
    go (inr p) (inl q) = stays (rw q (eqb_swap y c ∙ f)) (rw p (eqb_swap x c ∙ d))
    go (inr p) (inr q) = rw (← p, ← q) (joined_refl g (without g c) (edge g s).right)

-- without vertex c, vertex c is joined to itself alone
pub lost_vertex_alone : (g : Network) (c y : ℕ) → joined g (without g c) c y ≡ true → c ≡ y
unfolding without touches
lost_vertex_alone g c y e = go (joined_least (λ x y. eqb c x ≡ eqb c y) is_equivalence g (without g c) over c y e)
  where
    is_equivalence : Equivalence (λ x y. eqb c x ≡ eqb c y)
    is_equivalence = record { refl = λ x. refl; symm = λ x y p. sym p; trans = λ x y z p q. p ∙ q }

    away : (x : ℕ) → eqb x c ≡ false → eqb c x ≡ false
    away x k = eqb_swap c x ∙ k

    over : (s : ℕ) → s < edge_count g → without g c s ≡ false → eqb c (edge g s).left ≡ eqb c (edge g s).right
    over s h k =
        away (edge g s).left (or_neither_left (eqb (edge g s).left c) (eqb (edge g s).right c) k)
        ∙ sym (away (edge g s).right (or_neither_right (eqb (edge g s).left c) (eqb (edge g s).right c) k))

    go : eqb c c ≡ eqb c y → c ≡ y
    go p = eqb_eq c y (sym p ∙ eqb_same c)

-- two edges that meet at vertex c, with their other ends joined without c
pub record LinkedAt (g : Network) (c s t : ℕ) : Type 0 where
  pub first : touches (edge g s) c ≡ true
  pub second : touches (edge g t) c ≡ true
  pub others : joined g (without g c) (other_end (edge g s) c) (other_end (edge g t) c) ≡ true

-- what the test for a link at c says
pub linked_at : (g : Network) (c s t : ℕ) → link_at g c s t ≡ true → LinkedAt g c s t
unfolding link_at
linked_at g c s t e =
    let S = touches (edge g s) c in
    let T = touches (edge g t) c in
    let J = joined g (without g c) (other_end (edge g s) c) (other_end (edge g t) c) in
    record {
      first = and_left S T (and_left (S && T) J e);
      second = and_right S T (and_left (S && T) J e);
      others = and_right (S && T) J e;
    }

-- the order of the two edges does not matter
pub linked_swap : (g : Network) (c s t : ℕ) → LinkedAt g c s t → LinkedAt g c t s
linked_swap g c s t l =
    record { first = l.second; second = l.first; others = joined_sym g _ _ _ l.others }

-- such edges are linked
pub at_link : (g : Network) (c s t : ℕ) → LinkedAt g c s t → link g s t ≡ true
unfolding link link_at
at_link g c s t l = go (touches-ends (edge g s) c l.first)
  where
    here : link_at g c s t ≡ true
    here = and_both (and_both l.first l.second) l.others

    go : ((edge g s).left ≡ c) ⊎ ((edge g s).right ≡ c) → link g s t ≡ true
    go (inl p) = or_left (subst (λ d. link_at g d s t ≡ true) (sym p) here) (link_at g (edge g s).right s t)
    go (inr p) = or_right (link_at g (edge g s).left s t) (subst (λ d. link_at g d s t ≡ true) (sym p) here)

-- linked edges meet so at some vertex
pub link_at_lem : (g : Network) (s t : ℕ) → link g s t ≡ true → (c : ℕ) × LinkedAt g c s t
unfolding link
link_at_lem g s t e = go (or_cases (link_at g (edge g s).left s t) (link_at g (edge g s).right s t) e)
  where
    go : (link_at g (edge g s).left s t ≡ true) ⊎ (link_at g (edge g s).right s t ≡ true) → (c : ℕ) × LinkedAt g c s t
    go (inl k) = ((edge g s).left, linked_at g (edge g s).left s t k)
    go (inr k) = ((edge g s).right, linked_at g (edge g s).right s t k)

-- being linked is symmetric
pub link_sym : (g : Network) (s t : ℕ) → link g s t ≡ true → link g t s ≡ true
link_sym g s t e = let (c, l) = link_at_lem g s t e in at_link g c t s (linked_swap g c s t l)
