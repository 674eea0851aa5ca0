-- The models of climbing and joining, taken one step at a time: where a climb stays, where it goes on, how many of the left side's steps
-- are kept, and how the right side's steps are put behind them.
use Rattle.std.proofs.Common.{◌≡◌, ℕ, zero, suc, ◌+◌, ◌-◌, ◌<◌, ◌≤◌, Bool, true, false, cond, not, ◌&&◌, eqb, ltb, ◌≢◌, ◌⊎◌, List, sym, refl, ap, inl, inr, sub-one, arith}
use Rattle.graph.proofs.Truth.{true_or_false, true_of_not_false, and_left, eq-eqb, eqb_eq, ne_eqb, eqb_ne, ltb_lt, lt-ltb}
use Rattle.numbers.specs.declared.Limits.{Limits}
use Rattle.forest.specs.declared.climb.Trail.{Trail}
use Rattle.forest.specs.Inside.Climb.{up_of, above_edge, right_deeper, climbing, record_table, record_trail}
use Rattle.forest.specs.Inside.Climb.{Climbed, climb_from, climb_from_block, same_last, kept_left, join_one, join_from, reach}

cond_same : (b : Bool) (x : Climbed) → cond b x x ≡ x
cond_same true x = refl
cond_same false x = refl

-- writing down a step makes the two sides one step longer
pub recorded_steps : (r next : Trail) (v : ℕ) (right : Bool) → next ≡ record_trail r v right → next.left + next.right ≡ r.left + r.right + 1
unfolding record_trail
recorded_steps r next v true e = rw e (omega arith)
recorded_steps r next v false e = rw e (omega arith)

module _ (t : List ℕ) (limits : Limits) (r : Trail) where
  -- a climb with no steps left stays
  pub climb_none : (k : ℕ) → k ≡ 0 → climb_from k t limits r ≡ record { table = t; trail = r }
  unfolding climb_from
  climb_none k e = rw e

  -- a climb whose sides have met stays
  pub climb_met : (k : ℕ) → r.a.0 ≡ r.b.0 → climb_from k t limits r ≡ record { table = t; trail = r }
  unfolding climb_from
  climb_met zero e = refl
  climb_met (suc k) e = rw (eq-eqb r.a.0 r.b.0 e)

  -- a climb stays where the vertex to climb from is a root
  pub climb_root : (k : ℕ) → up_of t limits (climbing t limits r) ≡ 0 → climb_from k t limits r ≡ record { table = t; trail = r }
  unfolding climb_from
  climb_root zero e = refl
  climb_root (suc k) e = rw (eq-eqb (up_of t limits (climbing t limits r)) 0 e) (cond_same (eqb r.a.0 r.b.0) _)

  -- the vertex to climb from, by which side is the deeper one
  pub climbing_is : (right : Bool) → right ≡ right_deeper t limits r → climbing t limits r ≡ cond right r.b.0 r.a.0
  unfolding climbing
  climbing_is right d = rw d

  -- any other climb goes on with one step written down, along the edge above the vertex to climb from
  climb_suc : (k : ℕ) → r.a.0 ≢ r.b.0 → up_of t limits (climbing t limits r) ≢ 0 →
      climb_from (suc k) t limits r ≡
      climb_from k
      (record_table t limits r (up_of t limits (climbing t limits r) - 1) (above_edge t limits (up_of t limits (climbing t limits r) - 1)) (right_deeper t limits r))
      limits
      (record_trail r (above_edge t limits (up_of t limits (climbing t limits r) - 1)) (right_deeper t limits r))
  unfolding climb_from
  climb_suc k d n = rw (ne_eqb r.a.0 r.b.0 d, ne_eqb (up_of t limits (climbing t limits r)) 0 n)

  -- so it does what the climb from the block of that edge does
  pub climb_by_block : (k e : ℕ) → k ≢ 0 → r.a.0 ≢ r.b.0 → up_of t limits (climbing t limits r) ≡ e + 1 →
      climb_from k t limits r ≡ climb_from_block (k - 1) t limits r e (right_deeper t limits r)
  unfolding climb_from_block
  climb_by_block zero e z d up = absurd (z refl)
  climb_by_block (suc k) e z d up =
      let edge : up_of t limits (climbing t limits r) - 1 ≡ e = omega arith in
      rw (climb_suc k d (λ root. omega arith), sub-one (suc k), edge)

  -- it keeps no more steps than it has
  pub kept_most : (kept : ℕ) → kept ≡ kept_left t limits r → kept ≤ r.left
  unfolding kept_left
  kept_most kept e = rw e (go (same_last t limits r))
    where
      go : (b : Bool) → cond b (r.left - 1) r.left ≤ r.left
      go true = omega arith
      go false = omega arith

-- a climb of j + k steps is a climb of j steps and, from where that came, one of k
pub climb_add : (j k n : ℕ) (t : List ℕ) (limits : Limits) (r : Trail) → n ≡ j + k →
    climb_from n t limits r ≡ climb_from k (climb_from j t limits r).table limits (climb_from j t limits r).trail
climb_add zero k n t limits r h =
    let same : n ≡ k = omega arith in
    rw same (ap (λ (c : Climbed). climb_from k c.table limits c.trail) (sym (climb_none t limits r 0 refl)))
climb_add (suc j) k n t limits r h =
    let more : n ≡ suc (j + k) = omega arith in
    rw more (go (true_or_false (eqb r.a.0 r.b.0)) (true_or_false (eqb above 0)) (λ t₁ r₁. climb_add j k (j + k) t₁ limits r₁ refl))
  where
    above : ℕ
    above = up_of t limits (climbing t limits r)

    Goal : Type 0
    Goal = climb_from (suc (j + k)) t limits r ≡ climb_from k (climb_from (suc j) t limits r).table limits (climb_from (suc j) t limits r).trail

    stays : ((i : ℕ) → climb_from i t limits r ≡ record { table = t; trail = r }) → Goal
    stays stay = rw (stay (suc (j + k)), stay (suc j)) (sym (stay k))

    go : (eqb r.a.0 r.b.0 ≡ true) ⊎ (eqb r.a.0 r.b.0 ≡ false) → (eqb above 0 ≡ true) ⊎ (eqb above 0 ≡ false) →
        ((t₁ : List ℕ) (r₁ : Trail) → climb_from (j + k) t₁ limits r₁ ≡ climb_from k (climb_from j t₁ limits r₁).table limits (climb_from j t₁ limits r₁).trail) →
        Goal
    go (inl e) root fewer = stays (λ i. climb_met t limits r i (eqb_eq _ _ e))
    go (inr d) (inl z) fewer = stays (λ i. climb_root t limits r i (eqb_eq _ _ z))
    go (inr d) (inr z) fewer =
        rw (climb_suc t limits r (j + k) (eqb_ne _ _ d) (eqb_ne _ _ z), climb_suc t limits r j (eqb_ne _ _ d) (eqb_ne _ _ z))
        (fewer _ _)

-- so what is left of a climb after j of its steps comes to the same
pub climb_rest : (j n : ℕ) (t : List ℕ) (limits : Limits) (r : Trail) → j ≤ n →
    climb_from (n - j) (climb_from j t limits r).table limits (climb_from j t limits r).trail ≡ climb_from n t limits r
climb_rest j n t limits r h = sym (climb_add j (n - j) n t limits r (omega arith))

-- a climb that does not go on has no steps left, or its sides have met, and stays
pub climb_stays : (k : ℕ) (t : List ℕ) (limits : Limits) (r : Trail) → (ltb 0 k && not (eqb r.a.0 r.b.0)) ≡ false →
    climb_from k t limits r ≡ record { table = t; trail = r }
climb_stays zero t limits r e = climb_none t limits r 0 refl
climb_stays (suc k) t limits r e = climb_met t limits r (suc k) (eqb_eq _ _ (true_of_not_false _ (rw (lt-ltb 0 (suc k) (omega arith)) at e)))

-- a climb that goes on has steps left
pub steps_left_lem : (k : ℕ) (b : Bool) → (ltb 0 k && b) ≡ true → 0 < k
steps_left_lem k b e = ltb_lt 0 k (and_left _ _ e)

-- joining the steps of the right side that are left begins with the last of them
pub join_step : (right step : ℕ) (t : List ℕ) (limits : Limits) (kept : ℕ) → step < right
    → join_from (right - step) t limits (kept + step)
    ≡ join_from (right - (step + 1)) (join_one t limits (right - 1 - step) (kept + step)) limits (kept + (step + 1))
unfolding join_from
join_step right step t limits kept h =
    let one_more : right - step ≡ suc (right - (step + 1)) = omega arith in
    let last : right - 1 - step ≡ right - (step + 1) = omega arith in
    let next : kept + (step + 1) ≡ kept + step + 1 = omega arith in
    rw (one_more, last, next)

-- with none left the table stays
pub join_end : (right step : ℕ) (t : List ℕ) (limits : Limits) (kept : ℕ) → right ≤ step → join_from (right - step) t limits (kept + step) ≡ t
unfolding join_from
join_end right step t limits kept h = let none : right - step ≡ 0 = omega arith in rw none

-- a climb has room for so many steps at most
pub reach_most : (t : List ℕ) (limits : Limits) (a b n : ℕ) → n ≡ reach t limits a b → n ≤ 2147483648
unfolding reach
reach_most t limits a b n e = rw e (omega arith)
