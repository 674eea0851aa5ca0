-- Walks: two vertices are joined exactly if a walk that crosses no lost edge leads from one to the other.
use mathlib.Core.Bool.{Bool, true, false, ◌&&◌, ◌||◌, or-false, or_comm, or_assoc}
use mathlib.Core.List.{List, [], ◌∷◌, ◌++◌}
use mathlib.Core.Logic.{Equivalence, ◌⊎◌, inl, inr}
use mathlib.Core.Path.{◌≡◌, refl, sym, ◌∙◌}
use Prim.Native.Nat.{ℕ, ◌<◌}
use lib.Dec.{eqb, ltb}
use Rattle.graph.specs.Network.{Network, Edge, Loss, edge, edge_count, nothing, joined}
use Rattle.graph.specs.Groups.{component}
use Rattle.graph.specs.Cycle.{Step, joins, leads, any_step}
use Rattle.graph.proofs.Truth.{or_cases, or_left, or_neither, or_neither_left, or_neither_right, and_left, and_right}
use Rattle.graph.proofs.Truth.{and_both, eqb_eq, eqb_same, eqb_swap, ltb_lt, lt-ltb}
use Rattle.graph.proofs.Joined.{joined_refl, joined_sym, joined_trans, joined-edge, joined_least}

-- the edge joins its two ends
pub joins-ends : (e : Edge) → joins e e.left e.right ≡ true
unfolding joins
joins-ends e = or_left (and_both (eqb_same e.left) (eqb_same e.right)) _

-- the two ways in which an edge joins two vertices
pub joins_ways : (e : Edge) (x y : ℕ) → joins e x y ≡ true
    → ((e.left ≡ x) × (e.right ≡ y)) ⊎ ((e.left ≡ y) × (e.right ≡ x))
unfolding joins
joins_ways e x y h = go (or_cases (eqb e.left x && eqb e.right y) (eqb e.left y && eqb e.right x) h)
  where
    both : (a b u v : ℕ) → (eqb a u && eqb b v) ≡ true → (a ≡ u) × (b ≡ v)
    both a b u v k = (eqb_eq a u (and_left (eqb a u) (eqb b v) k), eqb_eq b v (and_right (eqb a u) (eqb b v) k))

    go : ((eqb e.left x && eqb e.right y) ≡ true) ⊎ ((eqb e.left y && eqb e.right x) ≡ true)
        → ((e.left ≡ x) × (e.right ≡ y)) ⊎ ((e.left ≡ y) × (e.right ≡ x))
    go (inl k) = inl (both e.left e.right x y k)
    go (inr k) = inr (both e.left e.right y x k)

-- an edge joins two vertices in either direction
pub joins_swap : (e : Edge) (x y : ℕ) → joins e x y ≡ joins e y x
unfolding joins
joins_swap e x y = or_comm (eqb e.left x && eqb e.right y) (eqb e.left y && eqb e.right x)

-- what holds of the ends of an edge in both orders holds of any two vertices that it joins
pub joins_elim : (P : ℕ → ℕ → Type 0) (e : Edge) → P e.left e.right → P e.right e.left
    → (x y : ℕ) → joins e x y ≡ true → P x y
joins_elim P e f b x y j = go (joins_ways e x y j)
  where
    go : ((e.left ≡ x) × (e.right ≡ y)) ⊎ ((e.left ≡ y) × (e.right ≡ x)) → P x y
    go (inl (p, q)) = rw (← p, ← q) f
    go (inr (p, q)) = rw (← p, ← q) b

-- what holds of the ends of an edge, in whichever order, holds of any two vertices that it joins
pub joins_least : (R : ℕ → ℕ → Type 0) → ((x y : ℕ) → R x y → R y x) → (e : Edge) → R e.left e.right
    → (x y : ℕ) → joins e x y ≡ true → R x y
joins_least R turn e r = joins_elim R e r (turn e.left e.right r)

-- an edge that is not lost joins the vertices at its ends
pub joins-joined : (g : Network) (lost : Loss) (s : ℕ) → s < edge_count g → lost s ≡ false
    → (x y : ℕ) → joins (edge g s) x y ≡ true → joined g lost x y ≡ true
joins-joined g lost s h k = joins_least (λ x y. joined g lost x y ≡ true) (joined_sym g lost) (edge g s) (joined-edge g lost s h k)

-- what the first step of a walk says
pub record FirstStep (g : Network) (v : ℕ) (p : Step) (ps : List Step) (w : ℕ) : Type 0 where
  pub known : p.along < edge_count g
  pub over : joins (edge g p.along) v p.to ≡ true
  pub later : leads g p.to ps w ≡ true

-- a walk with a first step, taken apart
pub leads_first : (g : Network) (v : ℕ) (p : Step) (ps : List Step) (w : ℕ) → leads g v (p ∷ ps) w ≡ true → FirstStep g v p ps w
unfolding leads
leads_first g v p ps w e = record {
  known = ltb_lt p.along (edge_count g) (and_left known_test over_test both);
  over = and_right known_test over_test both;
  later = and_right (known_test && over_test) (leads g p.to ps w) e;
}
  where
    known_test : Bool
    known_test = ltb p.along (edge_count g)

    over_test : Bool
    over_test = joins (edge g p.along) v p.to

    both : (known_test && over_test) ≡ true
    both = and_left (known_test && over_test) (leads g p.to ps w) e

-- a walk put together from its first step and the later ones
pub first_leads : (g : Network) (v : ℕ) (p : Step) (ps : List Step) (w : ℕ) → FirstStep g v p ps w → leads g v (p ∷ ps) w ≡ true
unfolding leads
first_leads g v p ps w f = and_both (and_both (lt-ltb p.along (edge_count g) f.known) f.over) f.later

-- the empty walk leads from a vertex to itself, and nowhere else
pub leads_none : (g : Network) (v w : ℕ) → leads g v [] w ≡ eqb v w
unfolding leads
leads_none g v w = refl

-- a walk of one step
pub leads_one : (g : Network) (v s w : ℕ) → s < edge_count g → joins (edge g s) v w ≡ true
    → leads g v (record { along = s; to = w } ∷ []) w ≡ true
leads_one g v s w h k =
    first_leads g v (record { along = s; to = w }) [] w (record { known = h; over = k; later = leads_none g w w ∙ eqb_same w })

-- a walk, and a walk on from where it leads
pub leads-append : (g : Network) (ps qs : List Step) (u v w : ℕ)
    → leads g u ps v ≡ true → leads g v qs w ≡ true → leads g u (ps ++ qs) w ≡ true
leads-append g [] qs u v w e f = rw (eqb_eq u v (sym (leads_none g u v) ∙ e)) f
leads-append g (p ∷ ps) qs u v w e f = first_leads g u p (ps ++ qs) w (record {
  known = a.known;
  over = a.over;
  later = leads-append g ps qs p.to v w a.later f;
})
  where
    a : FirstStep g u p ps v
    a = leads_first g u p ps v e

-- the steps of a walk from v, backwards
unfoldable pub backwards : ℕ → List Step → List Step
backwards v [] = []
backwards v (p ∷ ps) = backwards p.to ps ++ record { along = p.along; to = v } ∷ []

-- a walk backwards leads back
pub leads_backwards : (g : Network) (ps : List Step) (v w : ℕ) → leads g v ps w ≡ true → leads g w (backwards v ps) v ≡ true
unfolding backwards
leads_backwards g [] v w e = leads_none g w v ∙ eqb_swap w v ∙ sym (leads_none g v w) ∙ e
leads_backwards g (p ∷ ps) v w e = leads-append g (backwards p.to ps) (q ∷ []) w p.to v (leads_backwards g ps p.to w a.later) last
  where
    a : FirstStep g v p ps w
    a = leads_first g v p ps w e

    q : Step
    q = record { along = p.along; to = v }

    last : leads g p.to (q ∷ []) v ≡ true
    last = leads_one g p.to p.along v a.known (joins_swap (edge g p.along) p.to v ∙ a.over)

-- some step of two walks one after the other passes the test exactly if some step of one of them does
pub any_step-append : (f : Step → Bool) (ps qs : List Step) → any_step f (ps ++ qs) ≡ (any_step f ps || any_step f qs)
unfolding any_step
any_step-append f [] qs = refl
any_step-append f (p ∷ ps) qs = rw (any_step-append f ps qs, or_assoc)

-- a walk crosses the same edges backwards
pub any_step_backwards : (f : ℕ → Bool) (ps : List Step) (v : ℕ)
    → any_step (λ p. f p.along) (backwards v ps) ≡ any_step (λ p. f p.along) ps
unfolding any_step backwards
any_step_backwards f [] v = refl
any_step_backwards f (p ∷ ps) v =
    any_step-append (λ p. f p.along) (backwards p.to ps) (record { along = p.along; to = v } ∷ [])
    ∙ rw (any_step_backwards f ps p.to, or-false) (or_comm (any_step (λ p. f p.along) ps) (f p.along))

-- a walk from v to w that crosses no lost edge
pub record Walk (g : Network) (lost : Loss) (v w : ℕ) : Type 0 where
  pub steps : List Step
  pub lead : leads g v steps w ≡ true
  pub avoid : any_step (λ p. lost p.along) steps ≡ false

-- every vertex has a walk to itself
pub walk_refl : (g : Network) (lost : Loss) (v : ℕ) → Walk g lost v v
unfolding any_step
walk_refl g lost v = record { steps = []; lead = leads_none g v v ∙ eqb_same v; avoid = refl }

-- a walk leads back
pub walk_sym : (g : Network) (lost : Loss) (v w : ℕ) → Walk g lost v w → Walk g lost w v
walk_sym g lost v w a = record {
  steps = backwards v a.steps;
  lead = leads_backwards g a.steps v w a.lead;
  avoid = any_step_backwards lost a.steps v ∙ a.avoid;
}

-- walks go on
pub walk_trans : (g : Network) (lost : Loss) (u v w : ℕ) → Walk g lost u v → Walk g lost v w → Walk g lost u w
walk_trans g lost u v w a b = record {
  steps = a.steps ++ b.steps;
  lead = leads-append g a.steps b.steps u v w a.lead b.lead;
  avoid = any_step-append (λ p. lost p.along) a.steps b.steps ∙ or_neither a.avoid b.avoid;
}

-- being joined by a walk is an equivalence
pub walk_equivalence : (g : Network) (lost : Loss) → Equivalence (Walk g lost)
walk_equivalence g lost = record { refl = walk_refl g lost; symm = walk_sym g lost; trans = walk_trans g lost }

-- along an edge that is not lost there is a walk
pub walk_edge : (g : Network) (lost : Loss) (s : ℕ) → s < edge_count g → lost s ≡ false → Walk g lost (edge g s).left (edge g s).right
unfolding any_step
walk_edge g lost s h k = record {
  steps = record { along = s; to = (edge g s).right } ∷ [];
  lead = leads_one g (edge g s).left s (edge g s).right h (joins-ends (edge g s));
  avoid = or_neither k refl;
}

-- joined vertices have a walk between them that crosses no lost edge
pub joined_walk : (g : Network) (lost : Loss) (v w : ℕ) → joined g lost v w ≡ true → Walk g lost v w
joined_walk g lost = joined_least (Walk g lost) (walk_equivalence g lost) g lost (walk_edge g lost)

-- a walk that crosses no lost edge joins
pub walk_joined : (g : Network) (lost : Loss) (ps : List Step) (v w : ℕ)
    → leads g v ps w ≡ true → any_step (λ p. lost p.along) ps ≡ false → joined g lost v w ≡ true
unfolding any_step
walk_joined g lost [] v w e a = rw (eqb_eq v w (sym (leads_none g v w) ∙ e)) (joined_refl g lost w)
walk_joined g lost (p ∷ ps) v w e a =
    joined_trans g lost v p.to w over (walk_joined g lost ps p.to w f.later (or_neither_right (lost p.along) _ a))
  where
    f : FirstStep g v p ps w
    f = leads_first g v p ps w e

    over : joined g lost v p.to ≡ true
    over = joins-joined g lost p.along f.known (or_neither_left (lost p.along) (any_step (λ p. lost p.along) ps) a) v p.to f.over

-- no step crosses an edge of nothing
pub nothing-crossed : (ps : List Step) → any_step (λ p. nothing p.along) ps ≡ false
unfolding any_step nothing
nothing-crossed [] = refl
nothing-crossed (p ∷ ps) = nothing-crossed ps

-- a walk leads to a vertex of the same component
pub leads-component : (g : Network) (ps : List Step) (v w : ℕ) → leads g v ps w ≡ true → component g v w ≡ true
unfolding component
leads-component g ps v w e = walk_joined g nothing ps v w e (nothing-crossed ps)

-- two vertices of one component have a walk between them
pub component_walk : (g : Network) (v w : ℕ) → component g v w ≡ true → Walk g nothing v w
unfolding component
component_walk g v w e = joined_walk g nothing v w e
