-- The table after commands that are carried out one after another.
use mathlib.Core.List.{List, [], ◌∷◌}
use mathlib.Core.Path.{◌≡◌, sym, ◌∙◌}
use Prim.Native.Nat.{ℕ}
use Rattle.naming.specs.Survey.{holding, kept_of}
use Rattle.naming.specs.State.{State, Agree, empty_state}
use Rattle.naming.proofs.Agree.{agree_both, agree_of_equal}
use Rattle.commands.specs.Command.{Command}
use Rattle.commands.specs.Facts.{after, state_after}
use Rattle.commands.specs.Surveys.{surveys_entered}
use Rattle.commands.proofs.Agree.{agree_after}
use Rattle.commands.proofs.Surveys.{kept_in_run}
use Rattle.numbers.specs.declared.Shape.{Shape}
use Rattle.forest.specs.Promise.{state_of, table_rule}
use Rattle.step.specs.declared.Reply.{Reply}
use Rattle.step.specs.Promise.{shape_after, Carried}

-- From one table to another, a command at a time.
pub data CarriedAll : Shape → List ℕ → List Command → Shape → List ℕ → Type 0 where
  none_left : {shape : Shape} {t : List ℕ} → CarriedAll shape t [] shape t
  one_carried : {shape end : Shape} {old mid new : List ℕ} {c : Command} {later : List Command} {reply : Reply}
      → Carried shape c old mid reply → CarriedAll (shape_after shape reply) mid later end new → CarriedAll shape old (c ∷ later) end new

-- the table holds a state that agrees with the one after them
pub carried_agree : {shape end : Shape} {old new : List ℕ} {cs : List Command} → CarriedAll shape old cs end new
    → (s : State) → Agree (state_of shape old) s → Agree (state_of end new) (state_after s cs)
unfolding state_after
carried_agree none_left s a = a
carried_agree (one_carried {c = c} w later) s a = carried_agree later (after s c) (agree_both w.agrees (agree_after a c))

-- so from an empty state the record that the table keeps of an edge is the one that the whole list of the 0D commands gives
pub kept_in_table : {shape end : Shape} {old new : List ℕ} {cs : List Command} → CarriedAll shape old cs end new
    → state_of shape old ≡ empty_state table_rule → (x : ℕ) → holding (state_of end new).surveys x ≡ kept_of x (surveys_entered cs)
kept_in_table {cs = cs} all empty x =
    (carried_agree all (empty_state table_rule) (agree_of_equal empty)).same_records x ∙ sym (kept_in_run table_rule cs x)
