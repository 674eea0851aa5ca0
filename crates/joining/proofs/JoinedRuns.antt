-- What the entry of a run returns for a journal and for a result (request 9): with room that is forecast, by the run with ample room.
use mathlib.Core.Bool.{cond, false}
use mathlib.Core.List.{List}
use mathlib.Core.Option.{none, some}
use mathlib.Core.Path.{◌≡◌, ◌∙◌, ap}
use Prim.Native.Nat.{ℕ, ◌≤◌}
use lib.ListN.{length}
use Rattle.graph.specs.Route.{Choice, Serves}
use Rattle.naming.specs.State.{empty_state}
use Rattle.commands.specs.Refusal.{no_room, full, refusal_number}
use Rattle.commands.specs.Text.{text_of, commands_in}
use Rattle.commands.specs.Run.{Run}
use Rattle.commands.specs.Entry.{number_of, Buffers, entry_under}
use Rattle.commands.specs.Register.{register_rule, ample_run}
use Rattle.commands.specs.Forecast.{sufficient}
use Rattle.commands.specs.Join.{Seam, join_capacities, run_alone, is_refused, joined_bytes, fit_together}
use Rattle.commands.proofs.Returned.{WellStarted, returned_by_run, number_exactly}
use Rattle.commands.proofs.WholeRun.{register-mates}
use Rattle.commands.proofs.ForecastRoom.{never_without_room}
use Rattle.commands.proofs.Rewritten.{ample_whole}
use Rattle.joining.proofs.JoinedAnswers.{Joinable, joined_accepted_exactly, alone-accepted}

module _ (choice : Choice) (serves : Serves register_rule choice) (journal : List ℕ) (lent : Buffers)
    (started : WellStarted register_rule choice join_capacities journal lent)
    (room : sufficient (commands_in journal) ≤ length lent.answers) where
  -- It returns how the run with ample room ends.
  pub returned_alone : (entry_under register_rule choice join_capacities journal lent).returned ≡ number_of (run_alone choice journal).refusal
  unfolding run_alone ample_run refusal_number
  returned_alone =
      let returned = returned_by_run register_rule choice join_capacities journal lent started in
      let never = never_without_room register_rule register-mates choice serves join_capacities journal lent room in
      returned
      ∙ ap (λ (r : Run). number_of r.refusal)
      (ample_whole (length lent.answers) choice join_capacities (empty_state register_rule) (text_of journal) (λ cut.
      never (returned ∙ (number_exactly _ no_room).1 cut)))

  -- So a journal that is not refused alone is accepted.
  pub accepted_by_entry : is_refused journal ≡ false → (entry_under register_rule choice join_capacities journal lent).returned ≡ 0
  unfolding number_of
  accepted_by_entry e = returned_alone ∙ ap number_of (alone-accepted choice journal e)

-- And a result is accepted exactly if both networks with the seams fit, and else meets 9.
pub joined_returned : {first second : List ℕ} {xs : List Seam} → Joinable first second xs → (choice : Choice) → Serves register_rule choice → (lent : Buffers)
    → WellStarted register_rule choice join_capacities (joined_bytes first second xs) lent
    → sufficient (commands_in (joined_bytes first second xs)) ≤ length lent.answers
    → (entry_under register_rule choice join_capacities (joined_bytes first second xs) lent).returned
    ≡ number_of (cond (fit_together first second xs) none (some full))
joined_returned {first} {second} {xs} w choice serves lent started room =
    returned_alone choice serves (joined_bytes first second xs) lent started room ∙ ap number_of (joined_accepted_exactly w choice)
