-- The way that a search finds from a vertex that it reaches: it leads to the goal over steps that may be taken, comes by no vertex twice,
-- and is read off the links step by step.
use mathlib.Core.Bool.{Bool, true, false, cond, or-false}
use mathlib.Core.List.{List, [], ◌∷◌}
use mathlib.Core.Logic.{⊎_elim}
use mathlib.Core.Path.{◌≡◌, refl, sym, ◌∙◌, subst₂}
use Prim.Native.Nat.{ℕ, suc, ◌<◌}
use native.Mathlib.Omega.{arith}
use lib.Dec.{eqb, ltb}
use lib.ListN.{length, length-map}
use Rattle.graph.specs.Lists.{is_in, distinct}
use Rattle.graph.specs.Network.{Network, Proper, edge, edge_count, touches, other_end}
use Rattle.graph.specs.Cycle.{Step, joins, leads}
use Rattle.graph.specs.Travel.{visited}
use Rattle.graph.proofs.Truth.{false_of_not, not_both, and_both, or_left, or_right, or_cases, eqb_eq, eqb_same, eq-eqb, lt-ltb}
use Rattle.graph.proofs.Members.{is_in_cases, distinct_cons, all_in_lem}
use Rattle.graph.proofs.Ends.{other_end-touches}
use Rattle.graph.proofs.Joins.{touches-joins, other_end_back}
use Rattle.graph.proofs.Walks.{joins_swap, first_leads, leads_none}
use Rattle.graph.proofs.Lengths.{distinct-length}
use Rattle.ways.specs.Search.{Allowed, Found, at_goal, all_allowed, linked, search, way_by, way, step_of, Fits, Orderly, starts, goes_further}
use Rattle.ways.proofs.SearchOrder.{reached_linked, reached_before, goal_in_order}
use Rattle.ways.proofs.SearchOrder.{Grown, same, more, grown_reached, turns_grow}
use Rattle.ways.proofs.SearchClosed.{search_orderly, reached_known}

module _ {g : Network} {y s : ℕ} {f : Found} (w : Fits g y s f) where
  -- a vertex that was reached is not the new one
  old_differs : (x : ℕ) → is_in x f.order ≡ true → eqb (other_end (edge g s) y) x ≡ false
  old_differs x e = false_of_not _ (λ q. not_both e (rw (eqb_eq (other_end (edge g s) y) x q) at w.new))

  -- the way from another vertex stays as it was
  other_way : (x : ℕ) → eqb (other_end (edge g s) y) x ≡ false → way_by (linked g y s f).links x ≡ way_by f.links x
  unfolding linked way_by
  other_way x d = rw d

  -- so does the way from one that was reached
  old_way : (x : ℕ) → is_in x f.order ≡ true → way_by (linked g y s f).links x ≡ way_by f.links x
  old_way x e = other_way x (old_differs x e)

  -- the way from the new vertex
  new_way : way_by (linked g y s f).links (other_end (edge g s) y) ≡ record { along = s; to = y } ∷ way_by f.links y
  unfolding linked way_by
  new_way = rw (eqb_same (other_end (edge g s) y))

  -- whatever holds of the way from the new vertex, and of the way from any other, holds of every way
  each_way : (P : ℕ → List Step → Type 0) → P (other_end (edge g s) y) (record { along = s; to = y } ∷ way_by f.links y)
      → ((x : ℕ) → is_in x f.order ≡ true → P x (way_by f.links x))
      → (x : ℕ) → is_in x (linked g y s f).order ≡ true → P x (way_by (linked g y s f).links x)
  each_way P n o x e = ⊎_elim
      (λ q. rw (eqb_eq x (other_end (edge g s) y) q, new_way) n)
      (λ k. rw (old_way x k) (o x k))
      (or_cases (eqb x (other_end (edge g s) y)) (is_in x f.order) (sym (reached_linked g y s f x) ∙ e))

  -- the new link's edge joins its ends
  link-joins : joins (edge g s) (other_end (edge g s) y) y ≡ true
  link-joins = joins_swap (edge g s) (other_end (edge g s) y) y ∙ touches-joins (edge g s) y w.at_end

  -- so the vertex to which it leads is its edge's other end
  link_back : other_end (edge g s) (other_end (edge g s) y) ≡ y
  link_back = other_end_back (edge g s) y w.at_end

-- the steps lead from vertex x to the goal, by vertices that are reached, and by none twice
pub record Leading (g : Network) (b : ℕ) (f : Found) (x : ℕ) (ps : List Step) : Type 0 where
  pub lead : leads g x ps b ≡ true
  pub within : (z : ℕ) → is_in z (visited x ps) ≡ true → is_in z f.order ≡ true
  pub differ : distinct (visited x ps) ≡ true

module _ {g : Network} {b : ℕ} where
  -- with one link more the ways still do so
  leading_linked : {y s : ℕ} {f : Found} → Fits g y s f
      → ((x : ℕ) → is_in x f.order ≡ true → Leading g b f x (way_by f.links x))
      → (x : ℕ) → is_in x (linked g y s f).order ≡ true → Leading g b (linked g y s f) x (way_by (linked g y s f).links x)
  unfolding visited
  leading_linked {y} {s} {f} w l = each_way w (Leading g b (linked g y s f)) new (λ x e. old x (l x e))
    where
      v : ℕ
      v = other_end (edge g s) y

      rest : Leading g b f y (way_by f.links y)
      rest = l y w.reached

      new : Leading g b (linked g y s f) v (record { along = s; to = y } ∷ way_by f.links y)
      new =
          record {
            lead =
                first_leads g v (record { along = s; to = y }) (way_by f.links y) b
                (record { known = w.known; over = link-joins w; later = rest.lead });
            within = λ z e. reached_linked g y s f z ∙ ⊎_elim
                (λ q. or_left (eq-eqb z v q) (is_in z f.order))
                (λ k. or_right (eqb z v) (rest.within z k))
                (is_in_cases z v (visited y (way_by f.links y)) e);
            differ =
                distinct_cons v (visited y (way_by f.links y)) (false_of_not _ (λ e. not_both (rest.within v e) w.new)) rest.differ;
          }

      old : (x : ℕ) {ps : List Step} → Leading g b f x ps → Leading g b (linked g y s f) x ps
      old x m = record { lead = m.lead; within = λ z e. reached_before g y s f z (m.within z e); differ = m.differ }

  -- the way by the links leads so
  pub way_leading : {f : Found} → Orderly g b f → (x : ℕ) → is_in x f.order ≡ true → Leading g b f x (way_by f.links x)
  unfolding at_goal way_by visited distinct is_in
  way_leading starts = λ x e. record {
    lead = leads_none g x b ∙ sym (or-false (eqb x b)) ∙ e;
    within = λ z k. rw (eqb_eq x b (sym (or-false (eqb x b)) ∙ e)) at k;
    differ = refl;
  }
  way_leading (goes_further y s w o) = leading_linked w (way_leading o)

  -- at the goal the way ends
  pub way-at_goal : {f : Found} → Orderly g b f → way_by f.links b ≡ []
  unfolding at_goal way_by
  way-at_goal starts = refl
  way-at_goal (goes_further y s w o) = old_way w b (goal_in_order o) ∙ way-at_goal o

-- as a search goes on, the way from a vertex that is reached stays as it is
pub grown_way : {g : Network} {allowed : Allowed} {f h : Found} → Grown g allowed f h → (x : ℕ) → is_in x f.order ≡ true
    → way_by h.links x ≡ way_by f.links x
grown_way same x e = refl
grown_way (more y s w a q) x e = old_way w x (grown_reached q x e) ∙ grown_way q x e

-- the way from vertex x goes on by edge s, to a vertex that is reached
pub record NextStep (g : Network) (f : Found) (x s : ℕ) : Type 0 where
  pub known : s < edge_count g
  pub at_end : touches (edge g s) x ≡ true
  pub reached : is_in (other_end (edge g s) x) f.order ≡ true
  pub goes_on : way_by f.links x ≡ record { along = s; to = other_end (edge g s) x } ∷ way_by f.links (other_end (edge g s) x)

module _ {g : Network} {y s : ℕ} {f : Found} (w : Fits g y s f) where
  -- the way from the new vertex goes on by the new link
  next_new : NextStep g (linked g y s f) (other_end (edge g s) y) s
  next_new = record {
    known = w.known;
    at_end = other_end-touches (edge g s) y;
    reached = rw (link_back w) (reached_before g y s f y w.reached);
    goes_on = rw (link_back w, old_way w y w.reached) (new_way w);
  }

  -- that from another vertex as before
  next_other : (x t : ℕ) → eqb (other_end (edge g s) y) x ≡ false → NextStep g f x t → NextStep g (linked g y s f) x t
  next_other x t d n = record {
    known = n.known;
    at_end = n.at_end;
    reached = reached_before g y s f (other_end (edge g t) x) n.reached;
    goes_on = rw (old_way w (other_end (edge g t) x) n.reached) (other_way w x d ∙ n.goes_on);
  }

  -- each way goes on by its vertex's step
  next_linked : (x t : ℕ) → (step_of f.links x ≡ suc t → NextStep g f x t)
      → step_of (linked g y s f).links x ≡ suc t → NextStep g (linked g y s f) x t
  unfolding linked step_of
  next_linked x t n = go (eqb (other_end (edge g s) y) x) refl
    where
      go : (c : Bool) → eqb (other_end (edge g s) y) x ≡ c → cond c (suc s) (step_of f.links x) ≡ suc t → NextStep g (linked g y s f) x t
      go true d e = subst₂ (NextStep g (linked g y s f)) (eqb_eq (other_end (edge g s) y) x d) (omega (arith, e)) next_new
      go false d e = next_other x t d (n e)

-- the way from a vertex goes on by its step
pub way_goes_on : {g : Network} {b : ℕ} {f : Found} → Orderly g b f → (x s : ℕ) → step_of f.links x ≡ suc s → NextStep g f x s
unfolding at_goal step_of
way_goes_on starts = λ x s e. absurd (omega (arith, e))
way_goes_on (goes_further y t w o) = λ x s. next_linked w x s (way_goes_on o x s)

-- every step of the ways is one that may be taken
ways_allowed : {g : Network} {allowed : Allowed} (b : ℕ) {f : Found} → Grown g allowed (at_goal b) f
    → (x : ℕ) → all_allowed allowed x (way_by f.links x) ≡ true
unfolding at_goal linked way_by all_allowed
ways_allowed b same = λ x. refl
ways_allowed {g} {allowed} b (more {h} y s w a q) = λ x. go x (eqb (other_end (edge g s) y) x) refl (ways_allowed b q)
  where
    step : Step
    step = record { along = s; to = y }

    go : (x : ℕ) (c : Bool) → eqb (other_end (edge g s) y) x ≡ c → ((x : ℕ) → all_allowed allowed x (way_by h.links x) ≡ true)
        → all_allowed allowed x (cond c (step ∷ way_by h.links y) (way_by h.links x)) ≡ true
    go x true d r = and_both (rw (eqb_eq (other_end (edge g s) y) x d) at a) (r y)
    go x false d r = r x

module _ (g : Network) (proper : Proper g) (allowed : Allowed) (b : ℕ) (known : b < g.vertices) (x : ℕ)
    (reached : is_in x (search g allowed b).order ≡ true) where
  -- the way that the search finds from it
  found : Leading g b (search g allowed b) x (way g allowed x b)
  unfolding way
  found = way_leading (search_orderly g allowed b) x reached

  -- the way from a vertex that is reached leads to the goal
  pub way-leads : leads g x (way g allowed x b) b ≡ true
  way-leads = found.lead

  -- over steps that may be taken
  pub way_allowed : all_allowed allowed x (way g allowed x b) ≡ true
  unfolding way search
  way_allowed = ways_allowed b (turns_grow g allowed g.vertices (at_goal b)) x

  -- by no vertex twice
  pub way-distinct : distinct (visited x (way g allowed x b)) ≡ true
  way-distinct = found.differ

  -- so it has fewer steps than there are vertices
  pub way_short : length (way g allowed x b) < g.vertices
  unfolding visited
  way_short =
      omega (
        arith,
        length-map (way g allowed x b) (λ p. p.to),
        distinct-length g.vertices (visited x (way g allowed x b)) way-distinct
            (all_in_lem (λ z. ltb z g.vertices) (visited x (way g allowed x b))
            (λ z e. lt-ltb z g.vertices (reached_known g proper allowed b known z (found.within z e)))),
      )
