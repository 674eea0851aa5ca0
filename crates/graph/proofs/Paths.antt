-- Paths: walks that come by no vertex twice. They can be cut, and turned around.
use mathlib.Core.Bool.{true, false, not, false≢true, or-false}
use mathlib.Core.List.{List, [], ◌∷◌, ◌++◌}
use mathlib.Core.Logic.{◌⊎◌, inl, inr, ⊎_elim}
use mathlib.Core.Path.{◌≡◌, refl, sym, ◌∙◌, ap}
use Prim.Native.Nat.{ℕ}
use lib.Dec.{eqb}
use Rattle.graph.specs.Network.{Network, edge}
use Rattle.graph.specs.Cycle.{Step, leads, any_step, crosses}
use Rattle.graph.specs.BlockPath.{fresh}
use Rattle.graph.proofs.Truth.{false_of_not, not_both, and_left, and_right, and_both, or_left, or_right, or_cases}
use Rattle.graph.proofs.Truth.{false_of_not_true, not_of_false, eqb_eq}
use Rattle.graph.proofs.Walks.{joins_swap, FirstStep, leads_first, first_leads, any_step-append}
use Rattle.graph.proofs.Steps.{visits, visits_append, visits_start, visits_end}

-- a path does not come by its start again
pub fresh_start : (x : ℕ) (p : Step) (ps : List Step) → fresh x (p ∷ ps) ≡ true → visits p.to ps x ≡ false
unfolding fresh any_step
fresh_start x p ps f = false_of_not_true (visits p.to ps x) (and_left (not (visits p.to ps x)) (fresh p.to ps) f)

-- behind its first step a path is a path
pub fresh_rest : (x : ℕ) (p : Step) (ps : List Step) → fresh x (p ∷ ps) ≡ true → fresh p.to ps ≡ true
unfolding fresh any_step
fresh_rest x p ps f = and_right (not (visits p.to ps x)) (fresh p.to ps) f

-- a step from a new vertex makes a path longer
pub fresh_on : (x : ℕ) (p : Step) (ps : List Step) → visits p.to ps x ≡ false → fresh p.to ps ≡ true
    → fresh x (p ∷ ps) ≡ true
unfolding fresh any_step
fresh_on x p ps n f = and_both (not_of_false n) f

-- a path from x to c cut at vertex z: the front leads to z and the back from there, and they meet nowhere else
pub record Cut (g : Network) (x : ℕ) (ps : List Step) (c z : ℕ) : Type 0 where
  pub front : List Step
  pub back : List Step
  pub whole : front ++ back ≡ ps
  pub there : leads g x front z ≡ true
  pub onward : leads g z back c ≡ true
  pub front_fresh : fresh x front ≡ true
  pub back_fresh : fresh z back ≡ true
  pub apart : (v : ℕ) → visits x front v ≡ true → visits z back v ≡ true → v ≡ z

module _ {g : Network} {x : ℕ} {ps : List Step} {c z : ℕ} (k : Cut g x ps c z) where
  -- an edge that the path crosses is crossed by the front or by the back
  pub cut_crosses : (s : ℕ) → crosses s ps ≡ true → (crosses s k.front ≡ true) ⊎ (crosses s k.back ≡ true)
  unfolding crosses
  cut_crosses s e =
      or_cases (crosses s k.front) (crosses s k.back) (rw any_step-append at (rw (← k.whole) at e))

  -- the path comes by every vertex that the front comes by
  pub front_visits : (v : ℕ) → visits x k.front v ≡ true → visits x ps v ≡ true
  front_visits v e =
      rw (← k.whole, visits_append x k.front k.back v) (or_left e (any_step (λ q. eqb q.to v) k.back))

  -- and by every vertex that the back comes by
  pub back_visits : (v : ℕ) → visits z k.back v ≡ true → visits x ps v ≡ true
  back_visits v e = go (or_cases (eqb z v) (any_step (λ q. eqb q.to v) k.back) e)
    where
      go : (eqb z v ≡ true) ⊎ (any_step (λ q. eqb q.to v) k.back ≡ true) → visits x ps v ≡ true
      go (inl q) = front_visits v (rw (eqb_eq z v q) at (visits_end g x k.front z k.there))
      go (inr q) = rw (← k.whole, visits_append x k.front k.back v) (or_right (visits x k.front v) q)

cut_here : (g : Network) (x : ℕ) (ps : List Step) (c z : ℕ) → leads g x ps c ≡ true → fresh x ps ≡ true
    → eqb x z ≡ true → Cut g x ps c z
unfolding leads fresh any_step
cut_here g x ps c z l f q =
    record {
      front = [];
      back = ps;
      whole = refl;
      there = q;
      onward = rw (eqb_eq x z q) at l;
      front_fresh = refl;
      back_fresh = rw (eqb_eq x z q) at f;
      apart = λ v a b. sym (eqb_eq x v (sym (or-false (eqb x v)) ∙ a)) ∙ eqb_eq x z q;
    }

cut_later : (g : Network) (x : ℕ) (p : Step) (ps : List Step) (c z : ℕ) → FirstStep g x p ps c → fresh x (p ∷ ps) ≡ true
    → Cut g p.to ps c z → Cut g x (p ∷ ps) c z
unfolding any_step
cut_later g x p ps c z l f k =
    record {
      front = p ∷ k.front;
      back = k.back;
      whole = ap (λ qs. p ∷ qs) k.whole;
      there = first_leads g x p k.front z (record { known = l.known; over = l.over; later = k.there });
      onward = k.onward;
      front_fresh =
          fresh_on x p k.front (false_of_not (visits p.to k.front x) (λ e. never (front_visits k x e)))
          k.front_fresh;
      back_fresh = k.back_fresh;
      apart = λ v a b. go v b (or_cases (eqb x v) (visits p.to k.front v) a);
    }
  where
    never : visits p.to ps x ≡ true → ⊥
    never e = not_both e (fresh_start x p ps f)

    go : (v : ℕ) → visits z k.back v ≡ true → (eqb x v ≡ true) ⊎ (visits p.to k.front v ≡ true) → v ≡ z
    go v b (inl q) = absurd (never (rw (← eqb_eq x v q) at (back_visits k v b)))
    go v b (inr a) = k.apart v a b

-- a path can be cut at every vertex that it comes by
pub cut : (g : Network) (x : ℕ) (ps : List Step) (c z : ℕ) → leads g x ps c ≡ true → fresh x ps ≡ true
    → visits x ps z ≡ true → Cut g x ps c z
unfolding any_step
cut g x [] c z l f e = cut_here g x [] c z l f (sym (or-false (eqb x z)) ∙ e)
cut g x (p ∷ ps) c z l f e =
    let r = leads_first g x p ps c l in
    ⊎_elim (cut_here g x (p ∷ ps) c z l f)
    (λ k. cut_later g x p ps c z r f (cut g p.to ps c z r.later (fresh_rest x p ps f) k))
    (or_cases (eqb x z) (visits p.to ps z) e)

-- the path that goes back over one path from x and on over another
pub record BackAndOn (g : Network) (x : ℕ) (ps qs : List Step) (c d : ℕ) : Type 0 where
  pub steps : List Step
  pub lead : leads g c steps d ≡ true
  pub all_fresh : fresh c steps ≡ true
  pub visited : (v : ℕ) → visits c steps v ≡ true → (visits x ps v ≡ true) ⊎ (visits x qs v ≡ true)
  pub crossed : (s : ℕ) → (crosses s ps ≡ true) ⊎ (crosses s qs ≡ true) → crosses s steps ≡ true

longer_back : (g : Network) (x : ℕ) (p : Step) (ps qs : List Step) (c d : ℕ)
    → BackAndOn g p.to ps (record { along = p.along; to = x } ∷ qs) c d → BackAndOn g x (p ∷ ps) qs c d
unfolding any_step crosses
longer_back g x p ps qs c d k =
    record {
      steps = k.steps;
      lead = k.lead;
      all_fresh = k.all_fresh;
      visited = λ v e.
          ⊎_elim (λ a. inl (or_right (eqb x v) a)) (λ a. seen v (or_cases (eqb p.to v) (visits x qs v) a)) (k.visited v e);
      crossed = λ s.
          ⊎_elim (λ a. over s (or_cases (eqb p.along s) (crosses s ps) a))
          (λ a. k.crossed s (inr (or_right (eqb p.along s) a)));
    }
  where
    seen : (v : ℕ) → (eqb p.to v ≡ true) ⊎ (visits x qs v ≡ true) → (visits x (p ∷ ps) v ≡ true) ⊎ (visits x qs v ≡ true)
    seen v (inl a) = inl (or_right (eqb x v) (or_left a (any_step (λ q. eqb q.to v) ps)))
    seen v (inr a) = inr a

    over : (s : ℕ) → (eqb p.along s ≡ true) ⊎ (crosses s ps ≡ true) → crosses s k.steps ≡ true
    over s (inl a) = k.crossed s (inr (or_left a (crosses s qs)))
    over s (inr a) = k.crossed s (inl a)

-- two paths from x that meet nowhere else, the first turned around, make a path
pub back_and_on : (g : Network) (x : ℕ) (ps qs : List Step) (c d : ℕ) → leads g x ps c ≡ true → fresh x ps ≡ true
    → leads g x qs d ≡ true → fresh x qs ≡ true
    → ((v : ℕ) → visits x ps v ≡ true → visits x qs v ≡ true → v ≡ x)
    → BackAndOn g x ps qs c d
unfolding leads any_step crosses
back_and_on g x [] qs c d l f m k a =
    let q : x ≡ c = eqb_eq x c l in
    record {
      steps = qs;
      lead = rw q at m;
      all_fresh = rw q at k;
      visited = λ v e. inr (rw q e);
      crossed = λ s. ⊎_elim (λ e. absurd (false≢true e)) (λ e. e);
    }
back_and_on g x (p ∷ ps) qs c d l f m k a =
    let r = leads_first g x p ps c l in
    longer_back g x p ps qs c d
    (back_and_on g p.to ps (back ∷ qs) c d r.later (fresh_rest x p ps f)
    (first_leads g p.to back qs d
    (record { known = r.known; over = joins_swap (edge g p.along) p.to x ∙ r.over; later = m }))
    (fresh_on p.to back qs (false_of_not (visits x qs p.to) (λ e. never p.to (visits_start p.to ps) e)) k)
    (λ v e u. ⊎_elim (λ q. sym (eqb_eq p.to v q)) (λ q. absurd (never v e q)) (or_cases (eqb p.to v) (visits x qs v) u)))
  where
    back : Step
    back = record { along = p.along; to = x }

    never : (v : ℕ) → visits p.to ps v ≡ true → visits x qs v ≡ true → ⊥
    never v e u = not_both (rw (a v (or_right (eqb x v) e) u) at e) (fresh_start x p ps f)
