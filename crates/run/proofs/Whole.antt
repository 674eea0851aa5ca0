-- The whole run in code, from the empty network to its end, by any account of it.
use mathlib.Core.List.{List}
use mathlib.Core.Path.{◌≡◌, refl, ◌∙◌, ap}
use Prim.Native.Nat.{ℕ, ◌≤◌, ◌<◌}
use native.Mathlib.Omega.{arith}
use lib.ListN.{length}
use Rattle.std.specs.Prelude.{None, Ok}
use Rattle.naming.specs.State.{empty_state}
use Rattle.commands.specs.Register.{register_rule}
use Rattle.numbers.specs.declared.Limits.{Limits}
use Rattle.numbers.specs.declared.Shape.{Shape}
use Rattle.forest.specs.Promise.{table_rule_lem, state_of, Begun}
use Rattle.run.specs.declared.Progress.{Progress}
use Rattle.run.specs.Inside.Runs.{at_start, Account, Underway, SoFar, GoesOn}
use Rattle.run.specs.Inside.Course.{AtEnds}

-- the rule of mates of the networks in a table is the register's: an empty table holds the state at a run's start
pub same_rule : {limits : Limits} {t : List ℕ} {shape : Shape} → Begun limits t shape → state_of shape t ≡ empty_state register_rule
unfolding register_rule
same_rule b = b.state_is ∙ ap empty_state table_rule_lem

-- a run begins with the limits that it was given
pub begun_limits : {limits : Limits} {t : List ℕ} {shape : Shape} → Begun limits t shape → shape.limits ≡ limits
begun_limits b = ap (λ (s : Shape). s.limits) b.shape_is

-- The run of a journal.
module _ {E : Type 0} {account : Account E} {journal : List ℕ} where
  -- at the start all of the run is left
  pub starts : (shape : Shape) (t answers : List ℕ) → account.Fits (at_start shape) journal t answers
      → SoFar account (account.later (at_start shape) journal t answers) (at_start shape) journal t answers
  starts shape t answers fits = record { going = record { written_fits = fits; counted = omega arith }; will = refl }

  module _ {end : E} {p : Progress} {t answers : List ℕ} (far : SoFar account end p journal t answers) where
    -- it is at a command, where there is more of the journal
    pub underway : length journal ≤ 65536 → p.place < length journal → Underway account p journal t answers
    underway short more = record { going = far.going; at_command = more; short = short }

    -- a command further it is to come to the same end
    pub step_on : {p' : Progress} {new new_answers : List ℕ} → GoesOn account p journal t new answers new_answers (Ok p')
        → SoFar account end p' journal new new_answers
    step_on w = record { going = w.so_far.going; will = w.so_far.will ∙ far.will }

    -- and at the journal's end it has come to it
    pub ends_whole : AtEnds account → p.refusal ≡ None → length journal ≤ p.place → account.here p answers ≡ end
    ends_whole ends z past = ends.at_end p journal t answers z past ∙ far.will
