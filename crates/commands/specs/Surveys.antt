-- The surveys of a run (request 6): the 0D commands among the accepted ones, and journals that differ only in their order.
use Rattle.std.specs.Prelude.{cond, ◌≡◌, ℕ, eqb, get_or}
use mathlib.Core.List.{List, [], ◌∷◌, Perm}
use Rattle.naming.specs.Survey.{Survey}
use Rattle.commands.specs.Field.{Field, cabinet, span, name, number, byte}
use Rattle.commands.specs.Command.{Command, command_byte}
use Rattle.commands.specs.Facts.{facts, operands_of}

-- The number in a field.
unfoldable pub number_in : Field → ℕ
number_in (cabinet n) = n
number_in (span n) = n
number_in (name kind n) = n
number_in (number n) = n
number_in (byte n) = n

-- Operand k of a command, counted from 0.
unfoldable pub operand_in : Command → ℕ → ℕ
operand_in c k = number_in (get_or (operands_of (facts c)) k (byte 0))

-- The record that a 0D enters: its operands are the span, the day and the metres.
unfoldable pub survey_of : Command → Survey
survey_of c = record { measured = operand_in c 0; day = operand_in c 1; metres = operand_in c 2 }

-- The records that the 0D commands among these enter, in their order. (`surveys_entered_lem`: they are the surveys of the state after them.)
unfoldable pub surveys_entered : List Command → List Survey
surveys_entered [] = []
surveys_entered (c ∷ later) =
    let rest = surveys_entered later in
    cond (eqb (command_byte c) 0x0D) (survey_of c ∷ rest) rest

-- The commands that are not 0D, in their order.
unfoldable pub without_surveys : List Command → List Command
without_surveys [] = []
without_surveys (c ∷ later) =
    let rest = without_surveys later in
    cond (eqb (command_byte c) 0x0D) rest (c ∷ rest)

-- Commands that differ only in the order of the 0D commands among them, which may stand anywhere among the others.
-- (`rearranged_length`: 0E of a span whose days differ is answered alike behind them. `rearranged_journals`: where the days of each span's
-- records differ, everything is.)
pub record Rearranged (commands commands' : List Command) : Type 0 where
  pub same_others : without_surveys commands ≡ without_surveys commands'
  pub same_surveys : Perm (surveys_entered commands) (surveys_entered commands')
