-- What a run promises to the entry.
use Rattle.std.specs.Prelude.{List, [], ◌∷◌, ◌≡◌, ℕ, ◌<◌, length}
use Rattle.naming.specs.State.{empty_state}
use Rattle.commands.specs.Refusal.{Capacities}
use Rattle.commands.specs.Text.{text_of}
use Rattle.commands.specs.Run.{Run, run_within, bytes_of_answers}
use Rattle.commands.specs.Entry.{number_of, report_of, over}
use Rattle.commands.specs.Register.{register_rule, register_routes}
use Rattle.numbers.specs.declared.Limits.{Limits}
use Rattle.refusals.specs.Causes.{causes_of}
use Rattle.forest.specs.Promise.{SameBeyond}
use Rattle.run.specs.declared.Progress.{Progress}
unfoldable pub use Rattle.step.specs.Promise.{capacities_of}

-- The definition's run of a journal from an empty network, within the room of an answer buffer.
abbrev pub whole_of : Capacities → List ℕ → List ℕ → Run
whole_of caps journal answers = run_within (length answers) register_routes caps (empty_state register_rule) (text_of journal)

-- The six numbers of the report, of a run that has come so far.
unfoldable pub six_numbers : Progress → List ℕ
six_numbers p = number_of (causes_of p.refusal) ∷ p.place ∷ p.commands ∷ p.written ∷ p.shape.vertices ∷ p.shape.edges ∷ []

-- What the code has come to is what the definition's run reports and answers; the words beyond the table's are as before.
pub record RunPromise (limits : Limits) (run : Run) (p : Progress) (old new old_answers new_answers : List ℕ) : Type 0 where
  pub numbers_are : six_numbers p ≡ report_of register_rule run
  pub answers_are : new_answers ≡ over (bytes_of_answers run.accepted) old_answers
  pub same_beyond : SameBeyond limits old new
  pub place_fits : p.place < 4294967296
  pub written_fits : p.written < 4294967296

-- What the code has come to without answers is what the definition's run reports; the words beyond the table's are as before.
pub record UnansweredPromise (limits : Limits) (run : Run) (p : Progress) (old new : List ℕ) : Type 0 where
  pub numbers_are : six_numbers p ≡ report_of register_rule run
  pub same_beyond : SameBeyond limits old new
  pub place_fits : p.place < 4294967296
  pub written_fits : p.written < 4294967296
