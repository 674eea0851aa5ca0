-- The whole run without answers comes to what the definition's run reports.
use mathlib.Core.List.{List}
use mathlib.Core.Path.{◌≡◌, ◌∙◌}
use Prim.Native.Nat.{ℕ, ◌≤◌, ◌<◌}
use native.Mathlib.Nat.{zero-add}
use native.Mathlib.Omega.{arith}
use lib.ListN.{length}
use Rattle.naming.specs.State.{empty_state}
use Rattle.commands.specs.Text.{text_of}
use Rattle.commands.specs.Run.{bytes_of_answers, place_after}
use Rattle.commands.specs.Entry.{report_of, book_after}
use Rattle.commands.specs.Register.{register_rule, register_routes, ample_run}
use Rattle.commands.proofs.Place.{run_place_in_journal}
use Rattle.commands.proofs.ForecastRoom.{all_answers_fit}
use Rattle.commands.proofs.WholeRun.{register-mates, register_serves}
use Rattle.numbers.specs.declared.Limits.{Limits}
use Rattle.numbers.specs.declared.Shape.{Shape}
use Rattle.forest.specs.Promise.{SameBeyond, Begun}
use Rattle.step.specs.Promise.{capacities_of}
use Rattle.run.specs.declared.Progress.{Progress}
use Rattle.run.specs.Promise.{six_numbers, UnansweredPromise}
use Rattle.run.specs.Inside.Runs.{at_start, numbers_after}
use Rattle.run.specs.Inside.Unanswered.{all_left, without_answers}
use Rattle.run.proofs.Whole.{same_rule, begun_limits}

-- Its place is in the journal or at its end, and the bytes of all its answers fit 32 bits.
place_in_journal : (limits : Limits) (journal : List ℕ) → place_after (ample_run register_routes (capacities_of limits) journal).accepted ≤ length journal
unfolding ample_run
place_in_journal limits journal = run_place_in_journal register_routes (capacities_of limits) (empty_state register_rule) journal

whole_fits : (limits : Limits) (journal : List ℕ) → length journal ≤ 65536
    → length (bytes_of_answers (ample_run register_routes (capacities_of limits) journal).accepted) < 4294967296
unfolding ample_run
whole_fits limits journal short = all_answers_fit register_rule register-mates register_routes register_serves (capacities_of limits) journal short

-- The run of a journal, from a table.
module _ {limits : Limits} {t : List ℕ} (journal : List ℕ) (short : length journal ≤ 65536) {shape : Shape} (begun : Begun limits t shape) where
  -- the bytes of all its answers can be counted
  pub all_countable : (answers : List ℕ) → without_answers.Fits (at_start shape) journal t answers
  unfolding all_left ample_run text_of
  all_countable answers = rw (same_rule begun, begun_limits begun) (omega (arith, whole_fits limits journal short))

  -- what it will come to is what the whole run reports
  comes_to_whole : numbers_after (at_start shape) t (all_left (at_start shape) journal t)
      ≡ report_of register_rule (ample_run register_routes (capacities_of limits) journal)
  unfolding all_left numbers_after ample_run report_of book_after text_of empty_state
  comes_to_whole =
      let done = (ample_run register_routes (capacities_of limits) journal).accepted in
      rw (same_rule begun, begun_limits begun, zero-add (place_after done), zero-add (length done), zero-add (length (bytes_of_answers done)))

  -- the code has come to that
  pub unanswered_promised : {old new : List ℕ} → SameBeyond limits old new → {p : Progress}
      → six_numbers p ≡ numbers_after (at_start shape) t (all_left (at_start shape) journal t)
      → UnansweredPromise limits (ample_run register_routes (capacities_of limits) journal) p old new
  unfolding six_numbers report_of
  unanswered_promised beyond {p = p} come =
      let whole = ample_run register_routes (capacities_of limits) journal in
      let numbers : six_numbers p ≡ report_of register_rule whole = come ∙ comes_to_whole in
      let place : p.place ≡ place_after whole.accepted = cc numbers in
      let written : p.written ≡ length (bytes_of_answers whole.accepted) = cc numbers in
      record {
        numbers_are = numbers;
        same_beyond = beyond;
        place_fits = omega (arith, place, short, place_in_journal limits journal);
        written_fits = omega (arith, written, whole_fits limits journal short);
      }
