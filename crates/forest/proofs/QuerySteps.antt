-- How the model of finding bridges goes on along a path: one step more, and no step left.
use Rattle.std.proofs.Common.{◌≡◌, ℕ, suc, ◌+◌, ◌-◌, ◌<◌, ◌≤◌, Bool, true, false, cond, List, add-one, arith}
use Rattle.numbers.specs.declared.Limits.{Limits}
use Rattle.forest.specs.Inside.Climb.{path_vertex}
use Rattle.forest.specs.Inside.Queries.{bridge_blocks_differ, find_table, find_count, find_from}

module _ (t : List ℕ) (limits : Limits) where
  -- the next step of the path is looked at, and then the rest
  pub find_step : (steps i count : ℕ) → i < steps
      → find_from t limits i (steps - i) count
      ≡ find_from (find_table t limits i count) limits (i + 1) (steps - (i + 1)) (find_count t limits i count)
  unfolding find_from
  find_step steps i count h =
      let e : steps - i ≡ suc (steps - (i + 1)) = omega arith in
      rw (e, add-one i)

  -- with no step left the answer is the table and the count at hand
  pub find_end : (steps i count : ℕ) → steps ≤ i → find_from t limits i (steps - i) count ≡ record { table = t; count = count }
  unfolding find_from
  find_end steps i count h = let none : steps - i ≡ 0 = omega arith in rw none

  -- a step adds at most one to the count
  pub find_count_bound : (i count : ℕ) → find_count t limits i count ≤ count + 1
  unfolding find_count
  find_count_bound i count = go (bridge_blocks_differ t limits (path_vertex t limits i) (path_vertex t limits (i + 1)))
    where
      go : (b : Bool) → cond b (suc count) count ≤ count + 1
      go true = omega arith
      go false = omega arith
