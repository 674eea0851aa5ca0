-- The forecast to the byte (request 11): how many answer bytes a run writes where there is ample room, by a run that writes none; and what a
-- run does with as much room, with less, or where it is refused.
use Rattle.std.specs.Prelude.{List, [], ◌≢◌, ◌≡◌, ℕ, ◌≤◌, ◌<◌, length, get_or}
use Rattle.std.proofs.Math.Option.{none, some}
use Rattle.commands.specs.Refusal.{Capacities, first_that_applies}
use Rattle.commands.specs.Run.{bytes_of_answers, place_after}
use Rattle.commands.specs.Entry.{Whole, refused_at_start, ran, whole_unless, Buffers, start_lines, work_needed, outcome}
use Rattle.commands.specs.Register.{register_rule, register_routes, register, ample_run}
use Rattle.commands.specs.Forecast.{Forecast, no_forecast}

-- The run that it makes, in a working table of this length: refused at the start as with a report of six numbers, or run with ample room.
unfoldable pub exact_run : Capacities → List ℕ → ℕ → Whole
exact_run caps journal work_length =
    whole_unless (first_that_applies (start_lines caps (length journal) work_length 6)) (ample_run register_routes caps journal)

-- What is told of a whole run, of a journal that ends at this place: the refusal with its place, which is 0 at the start, or how many bytes
-- its answers have.
unfoldable pub exact_of : ℕ → Whole → Forecast
exact_of end (refused_at_start r) = no_forecast r 0
exact_of end (ran run) =
    elim run.refusal [
      | some r ↦ no_forecast r (place_after run.accepted)
      | none ↦ record { number = 0; place = end; length = length (bytes_of_answers run.accepted) }
    ]

-- The forecast to the byte of a journal, in a working table of this length.
unfoldable pub exact_forecast : Capacities → List ℕ → ℕ → Forecast
exact_forecast caps journal work_length = exact_of (length journal) (exact_run caps journal work_length)

-- The working table on return: as after that run.
unfoldable pub exact_work : Capacities → List ℕ → List ℕ → List ℕ
exact_work caps journal work =
    (outcome register_rule caps (record { work = work; answers = []; report = [] }) (exact_run caps journal (length work))).buffers.work

-- Buffers with a working table of at least W numbers and a report of at least six, whatever they hold.
abbrev pub LongEnough : Capacities → Buffers → Type 0
LongEnough caps lent = (work_needed caps ≤ length lent.work) × (6 ≤ length lent.report)

-- So many bytes are what a run with these buffers takes: with as much room or more it is accepted, and reports that it wrote so many; with
-- less it meets 11.
pub record ToTheByte (caps : Capacities) (journal : List ℕ) (room : ℕ) (lent : Buffers) : Type 0 where
  pub accepted : room ≤ length lent.answers → (register caps journal lent).returned ≡ 0
  pub written : room ≤ length lent.answers → get_or (register caps journal lent).buffers.report 3 0 ≡ room
  pub meets_eleven : length lent.answers < room → (register caps journal lent).returned ≡ 11

-- A run with these buffers, unless it meets 11, is refused with this number, and beyond the numbers of the start reports this place.
pub record RefusedAlike (caps : Capacities) (journal : List ℕ) (number place : ℕ) (lent : Buffers) : Type 0 where
  pub same_number : (register caps journal lent).returned ≢ 11 → (register caps journal lent).returned ≡ number
  pub same_place : (register caps journal lent).returned ≢ 11 → 3 < number
      → get_or (register caps journal lent).buffers.report 1 0 ≡ place
