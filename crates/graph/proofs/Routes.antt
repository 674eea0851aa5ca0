-- Laws of routes: a walk that comes by no vertex twice is one; its edges are known and differ; two routes that serve two vertices show
-- that the two share a bridge-block, and have together no more edges than the network.
use mathlib.Core.Bool.{Bool, true, false, not, ◌&&◌, false≢true}
use mathlib.Core.List.{List, [], ◌∷◌, ◌++◌, map}
use mathlib.Core.Logic.{◌⊎◌, inl, inr, ⊎_elim}
use mathlib.Core.Path.{◌≡◌, refl, ◌∙◌, ap}
use Prim.Native.Nat.{ℕ, ◌+◌, ◌≤◌, ◌<◌}
use native.Mathlib.Omega.{arith}
use lib.Dec.{eqb, ltb}
use lib.ListN.{length, length-append}
use Rattle.graph.specs.Lists.{all_in, is_in, distinct}
use Rattle.graph.specs.Network.{Network, Loss, MateRule, edge, edge_count, touches, other_end, mates, loss_of, joined}
use Rattle.graph.specs.Groups.{bridge_block}
use Rattle.graph.specs.Cycle.{Step, leads, any_step}
use Rattle.graph.specs.Travel.{visited}
use Rattle.graph.specs.Route.{steps_along, is_route, apart, Routes, serve}
use Rattle.graph.proofs.Truth.{true_or_false, false_of_not, not_both, not_of_false, false_of_not_true, and_left, and_right, and_both}
use Rattle.graph.proofs.Truth.{or_neither, or_neither_left, or_neither_right, eqb_swap, ltb_lt, lt-ltb}
use Rattle.graph.proofs.Members.{all_in_lem, all_in-append, each_in, distinct_append, is_in_cases, distinct_head, distinct_tail, distinct_cons}
use Rattle.graph.proofs.Mates.{mates_refl, mates_sym, mates_trans}
use Rattle.graph.proofs.Walks.{FirstStep, leads_first, walk_joined, leads-component}
use Rattle.graph.proofs.Joins.{joins-touches, joins_other, touches_no_third}
use Rattle.graph.proofs.BridgeBlock.{in_bridge_block}
use Rattle.graph.proofs.Lengths.{distinct-length}

-- the edges of a walk do not touch a vertex that it does not visit
pub unvisited_untouched : (g : Network) (x : ℕ) (ps : List Step) (v w : ℕ) → leads g v ps w ≡ true → is_in x (visited v ps) ≡ false
    → any_step (λ q. touches (edge g q.along) x) ps ≡ false
unfolding visited is_in any_step
unvisited_untouched g x [] v w l n = refl
unvisited_untouched g x (p ∷ ps) v w l n =
    or_neither (false_of_not (touches (edge g p.along) x) (λ t. not_both (touches_no_third (edge g p.along) x v p.to f.over t)
    (or_neither (eqb_swap v x ∙ or_neither_left (eqb x v) (is_in x (visited p.to ps)) n)
    (eqb_swap p.to x ∙ or_neither_left (eqb x p.to) _ there))))
    (unvisited_untouched g x ps p.to w f.later there)
  where
    f : FirstStep g v p ps w
    f = leads_first g v p ps w l

    there : is_in x (visited p.to ps) ≡ false
    there = or_neither_right (eqb x v) (is_in x (visited p.to ps)) n

module _ (g : Network) where
  -- the steps of a walk are those along its edges
  steps_along_edges : (ps : List Step) (a b : ℕ) → leads g a ps b ≡ true → steps_along g a (map (λ p. p.along) ps) ≡ ps
  unfolding steps_along
  steps_along_edges [] a b l = refl
  steps_along_edges (p ∷ ps) a b l =
      let f = leads_first g a p ps b l in
      rw (joins_other (edge g p.along) a p.to f.over, steps_along_edges ps p.to b f.later)

  -- a walk that comes by no vertex twice is a route
  pub walk_is_route : (ps : List Step) (a b : ℕ) → leads g a ps b ≡ true → distinct (visited a ps) ≡ true
      → is_route g a b (map (λ p. p.along) ps) ≡ true
  unfolding is_route
  walk_is_route ps a b l d = rw (steps_along_edges ps a b l) (and_both l d)

  -- a route leads
  route_leads : (a b : ℕ) (ss : List ℕ) → is_route g a b ss ≡ true → leads g a (steps_along g a ss) b ≡ true
  unfolding is_route
  route_leads a b ss r = and_left (leads g a (steps_along g a ss) b) (distinct (visited a (steps_along g a ss))) r

  -- no step along edges passes a test of its edge that none of the edges passes
  none_along : (f : ℕ → Bool) (ss : List ℕ) (a : ℕ) → all_in (λ s. not (f s)) ss ≡ true
      → any_step (λ p. f p.along) (steps_along g a ss) ≡ false
  unfolding any_step steps_along all_in
  none_along f [] a w = refl
  none_along f (s ∷ ss) a w = or_neither
      (false_of_not_true (f s) (and_left (not (f s)) (all_in (λ s. not (f s)) ss) w))
      (none_along f ss (other_end (edge g s) a) (and_right (not (f s)) (all_in (λ s. not (f s)) ss) w))

  -- and none of the edges passes a test that no step along them passes
  along_none : (f : ℕ → Bool) (ss : List ℕ) (a : ℕ) → any_step (λ p. f p.along) (steps_along g a ss) ≡ false
      → (s : ℕ) → is_in s ss ≡ true → f s ≡ false
  unfolding any_step steps_along is_in
  along_none f [] a n s i = absurd (false≢true i)
  along_none f (r ∷ ss) a n s i = ⊎_elim
      (λ q. ap f q ∙ or_neither_left (f r) _ n)
      (along_none f ss (other_end (edge g r) a) (or_neither_right (f r) _ n) s)
      (is_in_cases s r ss i)

  -- the edges of a walk are known
  walk_known : (ss : List ℕ) (a b : ℕ) → leads g a (steps_along g a ss) b ≡ true → all_in (λ s. ltb s (edge_count g)) ss ≡ true
  unfolding steps_along all_in
  walk_known [] a b l = refl
  walk_known (s ∷ ss) a b l =
      let f = leads_first g a (record { along = s; to = other_end (edge g s) a }) (steps_along g (other_end (edge g s) a) ss) b l in
      and_both (lt-ltb s (edge_count g) f.known) (walk_known ss (other_end (edge g s) a) b f.later)

  -- those of a walk that comes by no vertex twice differ
  walk_differ : (ss : List ℕ) (a b : ℕ) → leads g a (steps_along g a ss) b ≡ true → distinct (visited a (steps_along g a ss)) ≡ true
      → distinct ss ≡ true
  unfolding steps_along distinct visited
  walk_differ [] a b l d = refl
  walk_differ (s ∷ ss) a b l d = distinct_cons s ss
      (false_of_not (is_in s ss) (λ i. not_both
      (joins-touches (edge g s) a next f.over)
      (along_none (λ t. touches (edge g t) a) ss next
      (unvisited_untouched g a rest next b f.later (distinct_head a (visited next rest) d)) s i)))
      (walk_differ ss next b f.later (distinct_tail a (visited next rest) d))
    where
      next : ℕ
      next = other_end (edge g s) a

      rest : List Step
      rest = steps_along g next ss

      f : FirstStep g a (record { along = s; to = next }) rest b
      f = leads_first g a (record { along = s; to = next }) rest b l

  -- no two edges of a route are one
  pub route_differ : (a b : ℕ) (ss : List ℕ) → is_route g a b ss ≡ true → distinct ss ≡ true
  unfolding is_route
  route_differ a b ss r = walk_differ ss a b (route_leads a b ss r)
      (and_right (leads g a (steps_along g a ss) b) (distinct (visited a (steps_along g a ss))) r)

  -- every edge of a route is known
  pub route_known : (a b : ℕ) (ss : List ℕ) → is_route g a b ss ≡ true → (s : ℕ) → is_in s ss ≡ true → s < edge_count g
  route_known a b ss r s i =
      ltb_lt s (edge_count g) (each_in (λ s. ltb s (edge_count g)) ss (walk_known ss a b (route_leads a b ss r)) s i)

  -- a route no edge of which is lost joins its ends
  pub route_joined : (lost : Loss) (a b : ℕ) (ss : List ℕ) → is_route g a b ss ≡ true → all_in (λ s. not (lost s)) ss ≡ true
      → joined g lost a b ≡ true
  route_joined lost a b ss r n = walk_joined g lost (steps_along g a ss) a b (route_leads a b ss r) (none_along lost ss a n)

  -- lists are apart if no edge of one is a mate of an edge of the other
  pub apart_by : (ss ts : List ℕ) → ((s t : ℕ) → is_in s ss ≡ true → is_in t ts ≡ true → mates g s t ≡ false) → apart g ss ts ≡ true
  unfolding apart
  apart_by ss ts w = all_in_lem (λ s. all_in (λ t. not (mates g s t)) ts) ss (λ s i.
      all_in_lem (λ t. not (mates g s t)) ts (λ t k. not_of_false (w s t i k)))

  -- and only then
  pub apart-mates : (ss ts : List ℕ) → apart g ss ts ≡ true → (s t : ℕ) → is_in s ss ≡ true → is_in t ts ≡ true → mates g s t ≡ false
  unfolding apart
  apart-mates ss ts w s t i k = false_of_not_true (mates g s t)
      (each_in (λ t. not (mates g s t)) ts (each_in (λ s. all_in (λ t. not (mates g s t)) ts) ss w s i) t k)

  -- of two lists that are apart, the loss of an edge with its mates meets at most one
  pub apart_spared : MateRule g.rule → (ss ts : List ℕ) → apart g ss ts ≡ true → (s : ℕ)
      → all_in (λ t. not (mates g s t)) ss ≡ false → all_in (λ t. not (mates g s t)) ts ≡ true
  apart_spared rule ss ts w s met = all_in_lem (λ t. not (mates g s t)) ts (λ v k. not_of_false (false_of_not (mates g s v) (λ m.
      not_both (all_in_lem (λ t. not (mates g s t)) ss (λ t i. not_of_false (false_of_not (mates g s t) (λ n.
      not_both (mates_trans g rule t s v (mates_sym g rule s t n) m) (apart-mates ss ts w t v i k))))) met)))

module _ (g : Network) (a b : ℕ) (r : Routes) (e : serve g a b r ≡ true) where
  -- what two routes that serve are
  pub served : (is_route g a b r.first ≡ true) × (is_route g a b r.second ≡ true) × (apart g r.first r.second ≡ true)
  unfolding serve
  served =
      let A = is_route g a b r.first in
      let B = is_route g a b r.second in
      let C = apart g r.first r.second in
      (and_left A B (and_left (A && B) C e), and_right A B (and_left (A && B) C e), and_right (A && B) C e)

  -- two routes that serve two vertices have together no more edges than the network
  pub routes_short : length r.first + length r.second ≤ edge_count g
  routes_short = omega (
    arith,
    length-append r.first r.second,
    distinct-length (edge_count g) (r.first ++ r.second)
        (distinct_append r.first r.second (route_differ g a b r.first served.0) (route_differ g a b r.second served.1)
        (λ s i. false_of_not (is_in s r.second) (λ k.
        not_both (mates_refl g s) (apart-mates g r.first r.second served.2 s s i k))))
        (all_in-append (λ s. ltb s (edge_count g)) r.first r.second
        (walk_known g r.first a b (route_leads g a b r.first served.0))
        (walk_known g r.second a b (route_leads g a b r.second served.1))),
  )

-- two vertices that two routes serve share a bridge-block: the loss of an edge with its mates meets at most one of the two
pub served_share : (g : Network) → MateRule g.rule → (a b : ℕ) (r : Routes) → serve g a b r ≡ true → bridge_block g a b ≡ true
unfolding loss_of
served_share g rule a b r e = in_bridge_block g a b
    (leads-component g (steps_along g a r.first) a b (route_leads g a b r.first both.0))
    (λ s h. outlives s (true_or_false (all_in (λ t. not (mates g s t)) r.first)))
  where
    both : (is_route g a b r.first ≡ true) × (is_route g a b r.second ≡ true) × (apart g r.first r.second ≡ true)
    both = served g a b r e

    outlives : (s : ℕ) → (all_in (λ t. not (mates g s t)) r.first ≡ true) ⊎ (all_in (λ t. not (mates g s t)) r.first ≡ false)
        → joined g (mates g s) a b ≡ true
    outlives s (inl w) = route_joined g (mates g s) a b r.first both.0 w
    outlives s (inr w) =
        route_joined g (mates g s) a b r.second both.1 (apart_spared g rule r.first r.second both.2 s w)
