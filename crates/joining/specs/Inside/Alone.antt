-- Each journal run alone, and what comes of both.
use Rattle.std.specs.Prelude.{true, cond, Result, Ok, Err, List, ◌≡◌, ℕ, ◌≤◌, ltb, length}
use Rattle.commands.specs.Bytes.{all_bytes}
use Rattle.commands.specs.Entry.{work_needed}
use Rattle.commands.specs.Join.{join_capacities, is_refused, counts_in, joined_work}
use Rattle.numbers.specs.declared.Limits.{Limits}
use Rattle.refusals.specs.declared.Refusal.{Refusal}
use Rattle.refusals.specs.declared.Refusal.TheVariants.{ShortBuffer, RefusedJournal}
use Rattle.joining.specs.declared.alone.Size.{Size}
use Rattle.joining.specs.declared.seams.Counts.{Counts}

-- The greatest capacities, as the table has them.
unfoldable pub greatest : Limits
greatest = record { vertices = 4096; edges = 8192 }

-- What comes of a journal that is run alone: the size of its network.
unfoldable pub alone_of : List ℕ → Result Size Refusal
alone_of journal =
    cond (is_refused journal) (Err RefusedJournal) (Ok (record { cabinets = (counts_in journal).cabinets; spans = (counts_in journal).spans }))

-- What comes of both: 17 where one is refused.
unfoldable pub both_of : Result Size Refusal → Result Size Refusal → Result Counts Refusal
both_of (Err refusal) two = Err refusal
both_of (Ok one) (Err refusal) = Err refusal
both_of (Ok one) (Ok two) = Ok (record { cabinets = one.cabinets; spans = one.spans; others = two.cabinets })

-- The same with a working table of this length: 2 where it is too short.
unfoldable pub counted_of : ℕ → List ℕ → List ℕ → Result Counts Refusal
counted_of work_length first second =
    cond (ltb work_length (work_needed join_capacities)) (Err ShortBuffer) (both_of (alone_of first) (alone_of second))

-- Both journals were run and the table was cleared behind them, or it is too short and as it was. What was run is bytes.
pub record CountsBoth (first second : List ℕ) (counted : Result Counts Refusal) (old new : List ℕ) : Type 0 where
  pub counts_are : counted ≡ counted_of (length old) first second
  pub work_is : new ≡ joined_work old
  pub are_bytes : work_needed join_capacities ≤ length old → (all_bytes first ≡ true) × (all_bytes second ≡ true)
