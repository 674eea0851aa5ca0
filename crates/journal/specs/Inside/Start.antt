-- How a call starts, before its journal is read, with a journal, a working table and a report of these lengths.
use Rattle.std.specs.Prelude.{Result, Ok, Err, ◌≡◌, ℕ}
use Rattle.std.proofs.Math.Option.{none, some}
use Rattle.commands.specs.Refusal.{Capacities, first_that_applies}
use Rattle.commands.specs.Entry.{start_lines}
use Rattle.numbers.specs.declared.Limits.{Limits}
use Rattle.refusals.specs.declared.Refusal.{Refusal}
use Rattle.refusals.specs.Causes.{cause_of}
use Rattle.run.specs.Promise.{capacities_of}

-- It begins, with these capacities as the limits, where no line of the start applies;
pub record StartsWith (caps : Capacities) (journal work report : ℕ) (limits : Limits) : Type 0 where
  pub none_applies : first_that_applies (start_lines caps journal work report) ≡ none
  pub limits_are : capacities_of limits ≡ caps

-- else it is refused by the first that does.
pub record StartRefused (caps : Capacities) (journal work report : ℕ) (refusal : Refusal) : Type 0 where
  pub applies : first_that_applies (start_lines caps journal work report) ≡ some (cause_of refusal)

abbrev pub Starts : Capacities → ℕ → ℕ → ℕ → Result Limits Refusal → Type 0
Starts caps journal work report (Ok limits) = StartsWith caps journal work report limits
Starts caps journal work report (Err refusal) = StartRefused caps journal work report refusal
