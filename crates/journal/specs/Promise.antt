-- What the entries promise, in every case and with nothing required of their caller.
use Rattle.std.specs.Prelude.{List, ◌↔◌, ◌⊎◌, ◌≢◌, ◌≡◌, ℕ, ◌≤◌, ◌<◌, length, take}
use Rattle.graph.specs.Route.{Serves}
use Rattle.commands.specs.Refusal.{Capacities}
use Rattle.commands.specs.Entry.{Buffers, whole_run, accepted_commands, over}
use Rattle.commands.specs.Register.{register_rule, register_routes, register}
use Rattle.commands.specs.WholeRun.{WholeRunClaim}
use Rattle.commands.specs.Forecast.{forecast, Suffices}
use Rattle.commands.specs.Exact.{exact_forecast, exact_work, LongEnough, ToTheByte, RefusedAlike}
use Rattle.commands.specs.Rewrite.{rewrite, AnsweredAsBefore}
use Rattle.commands.specs.Join.{Seam, join, joined_work, AnsweredJoined}

-- For these capacities, this journal and these buffers: the returned number and every buffer are those of the register, and the
-- whole-run claim holds of the accepted commands and of the answer buffer as it stands on return.
pub record RegisterPromise (caps : Capacities) (journal : List ℕ) (lent : Buffers) (returned : ℕ) (left : Buffers) : Type 0 where
  pub returned_is : returned ≡ (register caps journal lent).returned
  pub work_is : left.work ≡ (register caps journal lent).buffers.work
  pub answers_are : left.answers ≡ (register caps journal lent).buffers.answers
  pub report_is : left.report ≡ (register caps journal lent).buffers.report
  pub whole_run_lem : WholeRunClaim
      register_rule
      (accepted_commands (whole_run register_rule register_routes caps journal (length lent.work) (length lent.answers) (length lent.report)))
      left.answers
  -- which routes 0C is answered with is this register's choice, by which `register` is defined; a planner relies on this alone: they serve
  pub serves : Serves register_rule register_routes

-- For this journal: the returned number and the two numbers that are written are those of the forecast, and the length suffices.
pub record ForecastPromise (journal : List ℕ) (returned place room : ℕ) : Type 0 where
  pub returned_is : returned ≡ (forecast journal).number
  pub place_is : place ≡ (forecast journal).place
  pub length_is : room ≡ (forecast journal).length
  -- a run of a journal that it accepts never gives 11 with that much
  pub suffices : returned ≡ 0 → Suffices journal room
  -- a journal that it refuses with 4 or 5: it accepts the bytes before that place, and no run of the whole journal gives 11 with the
  -- length for these
  pub suffices_before : (returned ≡ 4) ⊎ (returned ≡ 5)
      → ((forecast (take place journal)).number ≡ 0) × Suffices journal (forecast (take place journal)).length

-- For these capacities, this journal and this working table: the returned number, the two numbers that are written and the table are those of
-- the forecast to the byte.
pub record ExactPromise (caps : Capacities) (journal table : List ℕ) (returned place room : ℕ) (left : List ℕ) : Type 0 where
  pub returned_is : returned ≡ (exact_forecast caps journal (length table)).number
  pub place_is : place ≡ (exact_forecast caps journal (length table)).place
  pub length_is : room ≡ (exact_forecast caps journal (length table)).length
  pub work_is : left ≡ exact_work caps journal table
  -- a run of a journal that it accepts, in any buffers that are long enough, is accepted with that much and writes so many bytes, and meets 11
  -- with less
  pub to_the_byte : returned ≡ 0 → (lent : Buffers) → LongEnough caps lent → ToTheByte caps journal room lent
  -- the forecast from the journal alone accepts it too, with no lesser length
  pub no_longer : returned ≡ 0 → ((forecast journal).number ≡ 0) × (room ≤ (forecast journal).length)
  -- a run of a journal that it refuses, but for a table that is too short, is refused alike if there is ample room
  pub refused_alike : returned ≢ 0 → returned ≢ 2 → (lent : Buffers) → LongEnough caps lent → RefusedAlike caps journal returned place lent
  -- of a journal that it refuses at a command it accepts the bytes before that place, and a run of the whole journal meets 11 exactly with less
  -- room than it gives for these
  pub room_before : 3 < returned
      → let before = exact_forecast caps (take place journal) (length table) in
      (before.number ≡ 0)
      × ((lent : Buffers) → LongEnough caps lent → ((register caps journal lent).returned ≡ 11) ↔ (length lent.answers < before.length))

-- For this journal and this output buffer: the returned number, the two numbers that are written and the buffer are those of the rewriting
-- into as much room. Where it is refused its result is empty: nothing is written.
pub record RewritePromise (journal lent : List ℕ) (returned place room : ℕ) (left : List ℕ) : Type 0 where
  pub returned_is : returned ≡ (rewrite (length lent) journal).number
  pub place_is : place ≡ (rewrite (length lent) journal).place
  pub length_is : room ≡ length (rewrite (length lent) journal).result
  pub output_is : left ≡ over (rewrite (length lent) journal).result lent
  -- the bytes that it leaves at the front of the buffer are answered as the journal was where spans of 02 have no mates
  pub answered_as_before : returned ≡ 0 → AnsweredAsBefore journal (take room left)
  -- and as much room is forecast for their answers as for the journal's
  pub same-forecast : returned ≡ 0 → forecast (take room left) ≡ record { number = 0; place = room; length = (forecast journal).length }

-- For these two journals, these seams, this working table and this output buffer: the returned number, the number that is written, the table
-- and the buffer are those of the joining into as much room. Where it is refused its result is empty: nothing is written.
pub record JoinPromise (first second : List ℕ) (seams : List Seam) (table lent : List ℕ) (returned room : ℕ) (left_table left : List ℕ) : Type 0 where
  pub returned_is : returned ≡ (join (length table) (length lent) first second seams).number
  pub length_is : room ≡ length (join (length table) (length lent) first second seams).result
  pub work_is : left_table ≡ joined_work table
  pub output_is : left ≡ over (join (length table) (length lent) first second seams).result lent
  -- the bytes that it leaves at the front of the buffer are answered by the first's own answers, then the second's, raised, then one for each
  -- seam
  pub answered_joined : returned ≡ 0 → AnsweredJoined first second seams (take room left)
