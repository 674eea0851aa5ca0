-- How many words a run uses, and what clearing them leaves.
use mathlib.Core.List.{List, ◌++◌}
use mathlib.Core.Path.{◌≡◌, ◌∙◌}
use Prim.Native.Nat.{ℕ, ◌+◌, ◌≤◌, min}
use native.Mathlib.Omega.{arith}
use lib.ListN.{length, length-append, length-drop, take, drop, replicate, length-replicate}
use lib.Seq.{drop-drop, drop-append_seam, length-take-le}
use Rattle.commands.specs.Entry.{work_needed, over}
use Rattle.numbers.specs.declared.Limits.{Limits}
use Rattle.forest.specs.Promise.{words_needed, words_needed_lem, SameBeyond}
use Rattle.run.specs.Promise.{capacities_of}

-- W, in the table's words: 64 more than it takes
pub work_is_words : (limits : Limits) → words_needed limits + 64 ≡ work_needed (capacities_of limits)
unfolding work_needed capacities_of
work_is_words limits = omega (arith, words_needed_lem limits)

-- the words that are cleared are as many as the run uses, and those beyond are as before
pub cleared_over : (limits : Limits) (old new : List ℕ) → SameBeyond limits old new
    → let count = work_needed (capacities_of limits) in
    count ≤ length old → replicate (min count (length new)) 0 ++ drop count new ≡ over (replicate count 0) old
unfolding over
cleared_over limits old new same long =
    let used = words_needed limits in
    let count = work_needed (capacities_of limits) in
    let split : used + 64 ≡ count = work_is_words limits in
    let all : min count (length new) ≡ count = omega (arith, same.as_long) in
    rw (
      all,
      length-replicate {A = ℕ} count 0,
      ← split,
      ← drop-drop 64 used new,
      ← drop-drop 64 used old,
      same.beyond,
    )

-- where only the table's own words are lent, those beyond are as before
pub own_lent : {limits : Limits} (old front : List ℕ) (own : ℕ) → own ≡ words_needed limits → own ≤ length old → length front ≡ length (take own old)
    → SameBeyond limits old (front ++ drop own old)
own_lent {limits} old front own e fits long =
    let all : length front ≡ own = long ∙ length-take-le own old fits in
    record {
      as_long = omega (arith, all, fits, length-append front (drop own old), length-drop own old);
      beyond = rw (← e) (rw (← all) (drop-append_seam front (drop (length front) old)));
    }
