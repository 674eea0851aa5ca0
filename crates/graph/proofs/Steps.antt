-- Laws of the steps of a walk: tests of them, and the vertices that the walk comes by.
use mathlib.Core.Bool.{Bool, true, false, ◌||◌, or_assoc}
use mathlib.Core.List.{List, [], ◌∷◌, ◌++◌}
use mathlib.Core.Logic.{◌⊎◌, inl, inr}
use mathlib.Core.Path.{◌≡◌, refl, sym, ◌∙◌}
use Prim.Native.Nat.{ℕ}
use lib.Dec.{eqb}
use Rattle.graph.specs.Network.{Network, edge, touches, without, joined}
use Rattle.graph.specs.Cycle.{Step, leads, any_step}
use Rattle.graph.proofs.Truth.{false_of_not, not_both, or_left, or_right, or_cases, or_neither, or_neither_left, or_neither_right, eqb_same}
use Rattle.graph.proofs.Walks.{FirstStep, leads_first, any_step-append, walk_joined}
use Rattle.graph.proofs.Joins.{touches_no_third}

-- some step passes a test: it passes any weaker test
pub any_more : (f h : Step → Bool) → ((q : Step) → f q ≡ true → h q ≡ true)
    → (ps : List Step) → any_step f ps ≡ true → any_step h ps ≡ true
unfolding any_step
any_more f h w [] e = e
any_more f h w (p ∷ ps) e = go (or_cases (f p) (any_step f ps) e) (any_more f h w ps)
  where
    go : (f p ≡ true) ⊎ (any_step f ps ≡ true) → (any_step f ps ≡ true → any_step h ps ≡ true) → (h p || any_step h ps) ≡ true
    go (inl k) r = or_left (w p k) (any_step h ps)
    go (inr k) r = or_right (h p) (r k)

-- no step passes either of two tests
pub none_of_either : (f h : Step → Bool) (ps : List Step) → any_step f ps ≡ false → any_step h ps ≡ false
    → any_step (λ q. f q || h q) ps ≡ false
unfolding any_step
none_of_either f h [] a b = refl
none_of_either f h (p ∷ ps) a b =
    or_neither (or_neither (or_neither_left (f p) (any_step f ps) a) (or_neither_left (h p) (any_step h ps) b))
    (none_of_either f h ps (or_neither_right (f p) (any_step f ps) a) (or_neither_right (h p) (any_step h ps) b))

-- some step leads to vertex c
abbrev pub steps_to : ℕ → List Step → Bool
steps_to c ps = any_step (λ q. eqb q.to c) ps

-- the walk from vertex x comes by vertex v
abbrev pub visits : ℕ → List Step → ℕ → Bool
visits x ps v = eqb x v || steps_to v ps

-- two walks on end come by the vertices of the one and of the other
pub visits_append : (x : ℕ) (ps qs : List Step) (v : ℕ)
    → visits x (ps ++ qs) v ≡ (visits x ps v || any_step (λ q. eqb q.to v) qs)
visits_append x ps qs v =
    rw (any_step-append (λ q. eqb q.to v) ps qs)
    (sym (or_assoc (eqb x v) (any_step (λ q. eqb q.to v) ps) (any_step (λ q. eqb q.to v) qs)))

-- a walk comes by its start
pub visits_start : (x : ℕ) (ps : List Step) → visits x ps x ≡ true
visits_start x ps = or_left (eqb_same x) (any_step (λ q. eqb q.to x) ps)

-- a walk comes by its end
pub visits_end : (g : Network) (x : ℕ) (ps : List Step) (c : ℕ) → leads g x ps c ≡ true → visits x ps c ≡ true
unfolding leads any_step
visits_end g x [] c l = or_left l false
visits_end g x (p ∷ ps) c l = or_right (eqb x c) (visits_end g p.to ps c (leads_first g x p ps c l).later)

-- a walk comes by every vertex that its edges touch
pub visits_touched : (g : Network) (v x : ℕ) (ps : List Step) (c : ℕ) → leads g x ps c ≡ true
    → any_step (λ q. touches (edge g q.along) v) ps ≡ true → visits x ps v ≡ true
unfolding any_step
visits_touched g v x [] c l e = or_right (eqb x v) e
visits_touched g v x (p ∷ ps) c l e =
    let f = leads_first g x p ps c l in
    go (or_cases (touches (edge g p.along) v) (any_step (λ q. touches (edge g q.along) v) ps) e) f
    (visits_touched g v p.to ps c f.later)
  where
    go : (touches (edge g p.along) v ≡ true) ⊎ (any_step (λ q. touches (edge g q.along) v) ps ≡ true)
        → FirstStep g x p ps c
        → (any_step (λ q. touches (edge g q.along) v) ps ≡ true → visits p.to ps v ≡ true)
        → visits x (p ∷ ps) v ≡ true
    go (inl k) f r =
        sym (or_assoc (eqb x v) (eqb p.to v) (any_step (λ q. eqb q.to v) ps))
        ∙ or_left (touches_no_third (edge g p.along) v x p.to f.over k) (any_step (λ q. eqb q.to v) ps)
    go (inr k) f r = or_right (eqb x v) (r k)

-- a walk that does not come by v joins its start and its end without v
pub joined_around : (g : Network) (v x : ℕ) (ps : List Step) (c : ℕ) → leads g x ps c ≡ true
    → visits x ps v ≡ false → joined g (without g v) x c ≡ true
unfolding without
joined_around g v x ps c l n =
    walk_joined g (without g v) ps x c l
    (false_of_not (any_step (λ q. touches (edge g q.along) v) ps) (λ e. not_both (visits_touched g v x ps c l e) n))
