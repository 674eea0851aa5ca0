-- The whole run with answers comes to what the definition's run leaves behind.
use mathlib.Core.List.{List}
use mathlib.Core.Path.{◌≡◌, ◌∙◌, ap}
use Prim.Native.Nat.{ℕ, ◌≤◌}
use native.Mathlib.Nat.{sub-zero, zero-add}
use native.Mathlib.Omega.{arith}
use lib.ListN.{length}
use Rattle.naming.specs.State.{empty_state}
use Rattle.commands.specs.Text.{text_of}
use Rattle.commands.specs.Run.{bytes_of_answers, place_after}
use Rattle.commands.specs.Entry.{report_of, over, book_after}
use Rattle.commands.specs.Register.{register_rule, register_routes}
use Rattle.commands.proofs.Place.{place_within_journal}
use Rattle.commands.proofs.ForecastRoom.{run_answers_fit}
use Rattle.commands.proofs.WholeRun.{register-mates, register_serves}
use Rattle.numbers.specs.declared.Limits.{Limits}
use Rattle.numbers.specs.declared.Shape.{Shape}
use Rattle.forest.specs.Promise.{SameBeyond, Begun}
use Rattle.step.specs.Promise.{capacities_of}
use Rattle.run.specs.declared.Progress.{Progress}
use Rattle.run.specs.Promise.{whole_of, six_numbers, RunPromise}
use Rattle.run.specs.Inside.Runs.{at_start, written_behind, left_of, Behind, leaves, numbers_after, leaves_after, will_leave}
use Rattle.run.proofs.Whole.{same_rule, begun_limits}

-- The run of a journal, from a table and an answer buffer.
module _ {limits : Limits} {t : List ℕ} (journal old_answers : List ℕ) where
  -- what a run that begins will leave behind is what the whole run does
  will_leave_whole : {shape : Shape} → Begun limits t shape
      → will_leave (at_start shape) journal t old_answers
      ≡ record {
        numbers = report_of register_rule (whole_of (capacities_of limits) journal old_answers);
        answers = over (bytes_of_answers (whole_of (capacities_of limits) journal old_answers).accepted) old_answers;
      }
  unfolding leaves_after numbers_after left_of written_behind report_of book_after text_of empty_state
  will_leave_whole begun =
      let done = (whole_of (capacities_of limits) journal old_answers).accepted in
      rw (
        same_rule begun,
        begun_limits begun,
        sub-zero,
        zero-add (place_after done),
        zero-add (length done),
        zero-add (length (bytes_of_answers done)),
      )

  -- the code has come to that
  pub run_promised : length journal ≤ 65536 → {shape : Shape} → Begun limits t shape → {old new : List ℕ} → SameBeyond limits old new
      → {p : Progress} {answers new_answers : List ℕ}
      → leaves p answers ≡ will_leave (at_start shape) journal t old_answers
      → new_answers ≡ answers
      → RunPromise limits (whole_of (capacities_of limits) journal old_answers) p old new old_answers new_answers
  unfolding leaves six_numbers report_of capacities_of
  run_promised short begun beyond {p = p} come same =
      let whole = whole_of (capacities_of limits) journal old_answers in
      let left = come ∙ will_leave_whole begun in
      let numbers : six_numbers p ≡ report_of register_rule whole = ap (λ (b : Behind). b.numbers) left in
      let place : p.place ≡ place_after whole.accepted = cc numbers in
      let written : p.written ≡ length (bytes_of_answers whole.accepted) = cc numbers in
      let within = place_within_journal (length old_answers) register_routes (capacities_of limits) (empty_state register_rule) journal in
      let bound = run_answers_fit register_rule register-mates register_routes register_serves (capacities_of limits) journal short (length old_answers) in
      record {
        numbers_are = numbers;
        answers_are = same ∙ ap (λ (b : Behind). b.answers) left;
        same_beyond = beyond;
        place_fits = omega (arith, place, within);
        written_fits = omega (arith, written, bound);
      }
