-- One command of a run in code, refused or carried out: what the run is to come to stays the same, by any account of it.
use mathlib.Core.List.{List}
use mathlib.Core.Path.{◌≡◌, sym, ◌∙◌, ap}
use Prim.Native.Nat.{ℕ, ◌+◌, ◌<◌}
use native.Mathlib.Omega.{arith}
use lib.ListN.{length}
use Rattle.std.specs.Prelude.{Err}
use Rattle.std.proofs.Math.Option as Maybe
use Rattle.commands.specs.Command.{Command, command}
use Rattle.commands.specs.Answer.{answer_bytes}
use Rattle.commands.specs.Facts.{answer}
use Rattle.commands.specs.Refusal.{refusal_of}
use Rattle.commands.specs.Register.{register_routes}
use Rattle.commands.proofs.Steps.{for_byte, for_operands, for_command}
use Rattle.numbers.specs.declared.Shape.{Shape}
use Rattle.refusals.specs.declared.Refusal.{Refusal}
use Rattle.refusals.specs.Causes.{cause_of}
use Rattle.forest.specs.Promise.{state_of}
use Rattle.reading.specs.declared.read.Unread.{Unread}
use Rattle.reading.specs.declared.read.Unread.TheVariants as U
use Rattle.reading.specs.Inside.Reads.{reading_of, refused_as}
use Rattle.step.specs.declared.Reply.{Reply}
use Rattle.step.specs.Promise.{capacities_of, reply_size, shape_after, Carried, StepPromise}
use Rattle.step.proofs.Replies.{reply_counted}
use Rattle.run.specs.declared.Progress.{Progress}
use Rattle.run.specs.Inside.Runs.{going, refused_progress, one_further, Account, Underway, read_here, OneOn}
use Rattle.run.specs.Inside.Left.{RefusedHere}
use Rattle.run.specs.Inside.Course.{AtEnds}

-- the answer to a command that is carried out has as many bytes as its reply
pub size_is : {shape : Shape} {c : Command} {old new : List ℕ} {reply : Reply} → Carried shape c old new reply
    → length (answer_bytes (answer register_routes (state_of shape old) c)) ≡ reply_size reply
size_is {shape = shape} {new = new} {reply = reply} w =
    ap (λ a. length (answer_bytes a)) (sym w.answer_is) ∙ reply_counted (shape_after shape reply) new reply

-- What stands at the run's place is refused: nothing can be read there, or a command is refused for this cause.
module _ (p : Progress) (journal t : List ℕ) where
  unread_here : (unread : Unread) → read_here p journal ≡ reading_of (Err unread) → RefusedHere p journal t (cause_of (refused_as unread))
  unfolding reading_of
  unread_here U.BadByte reads = rw reads for_byte
  unread_here U.CutOperands reads = rw reads for_operands

  command_here : {c : Command} {width : ℕ} (refusal : Refusal) → read_here p journal ≡ command c width
      → refusal_of (capacities_of p.shape.limits) (state_of p.shape t) c ≡ Maybe.some (cause_of refusal)
      → RefusedHere p journal t (cause_of refusal)
  command_here refusal reads cause = rw reads (for_command cause)

-- The run at a command of the journal.
module _ {E : Type 0} {account : Account E} {p : Progress} {journal old answers : List ℕ} (under : Underway account p journal old answers) where
  -- By an account that holds where a run ends, what is refused ends it, where it so comes to what it was to come to:
  module _ (ends : AtEnds account) where
    abbrev Refused : Refusal → Type 0
    Refused refusal = account.here (refused_progress p refusal) answers ≡ account.later p journal old answers

    -- what cannot be read,
    pub unread_on : (unread : Unread) → read_here p journal ≡ reading_of (Err unread) → Refused (refused_as unread)
    unread_on unread reads = ends.at_refusal p journal old answers _ under.at_command (unread_here p journal old unread reads)

    -- and a step that is refused
    pub step_refused_on : {c : Command} {width : ℕ} {new : List ℕ} {refusal : Refusal} → read_here p journal ≡ command c width
        → StepPromise p.shape c old new (Err refusal) → Refused refusal
    step_refused_on reads w = ends.at_refusal p journal old answers _ under.at_command (command_here p journal old _ reads w.refused)

  -- A command that is carried out brings it further, where it is to come to the same from there.
  pub further_on_lem : {p' : Progress} {new new_answers : List ℕ} → account.later p' journal new new_answers ≡ account.later p journal old answers
      → p.place < p'.place → p'.commands ≡ p.commands + 1 → account.Fits p' journal new new_answers
      → OneOn account p p' journal old new answers new_answers
  further_on_lem later place commands fits =
      record {
        so_far =
            record { going = record { written_fits = fits; counted = omega (arith, commands, place, under.going.counted) }; will = later };
        is_further = place;
      }

-- that is, where the network has this size and the run has come so far in its journal
pub at_pace : {E : Type 0} {account : Account E} {p : Progress} {next shape : Shape} {place there commands written : ℕ}
    {journal old new answers new_answers : List ℕ}
    → shape ≡ next → place ≡ there → commands ≡ p.commands + 1
    → OneOn account p (one_further p next there written) journal old new answers new_answers
    → OneOn account p (going shape (record { place = place; commands = commands; written = written })) journal old new answers new_answers
at_pace same_shape same_place counted on = rw (same_shape, same_place, counted) on
