-- A journal as the commands that its bytes spell, whatever a run makes of them.
use Rattle.std.specs.Prelude.{List, [], ◌∷◌, ◌++◌, map, ℕ, zero, suc, ◌+◌}
use Rattle.std.proofs.Math.Option.{Option, none, some}
use Rattle.commands.specs.Command.{Command, unknown_byte, cut_off, command, read_command}
use Rattle.commands.specs.Facts.{command_bytes}
use Rattle.commands.specs.Refusal.{Refusal, bad_byte, cut_operands}

-- A command that was read, its place in the journal, and the number of its operands' bytes.
pub record Read : Type 0 where
  pub command : Command
  pub place : ℕ
  pub width : ℕ

-- The commands in order, up to the journal's end or to the first that cannot be read, with the refusal for that.
pub record Text : Type 0 where
  pub commands : List Read
  pub refusal : Option Refusal

-- No command, and what ends the text.
unfoldable pub ends_with : Option Refusal → Text
ends_with end = record { commands = []; refusal = end }

-- A command, and the text that follows it.
unfoldable pub followed_by : Read → Text → Text
followed_by r t = record { commands = r ∷ t.commands; refusal = t.refusal }

-- The text of the rest of a journal, from a place on: the first `operands` bytes belong to the command before them.
unfoldable pub text_from : ℕ → ℕ → List ℕ → Text
text_from place operands [] = ends_with none
text_from place (suc k) (byte ∷ bytes) = text_from (suc place) k bytes
text_from place zero (byte ∷ bytes) =
    elim (read_command byte bytes) [
      | unknown_byte ↦ ends_with (some bad_byte)
      | cut_off ↦ ends_with (some cut_operands)
      | command c width ↦ followed_by (record { command = c; place = place; width = width }) (text_from (suc place) width bytes)
    ]

unfoldable pub text_of : List ℕ → Text
text_of journal = text_from 0 0 journal

-- The commands of a journal.
abbrev pub commands_in : List ℕ → List Command
commands_in journal = map (λ r. r.command) (text_of journal).commands

-- The journal's bytes that the commands took: where what is behind them begins.
unfoldable pub place_behind : List Read → ℕ
place_behind [] = 0
place_behind (r ∷ later) = suc r.width + place_behind later

-- The bytes of commands, one after another.
unfoldable pub journal_bytes : List Command → List ℕ
journal_bytes [] = []
journal_bytes (c ∷ cs) = command_bytes c ++ journal_bytes cs
