-- What is passed over at a place of a journal: how the text goes on from there, and of a command its byte and its operands.
use mathlib.Core.List.{List}
use mathlib.Core.Option.{none, some}
use mathlib.Core.Path.{◌≡◌, sym, ◌∙◌}
use Prim.Native.Nat.{ℕ, ◌+◌, ◌≤◌, ◌<◌}
use lib.ListN.{length, get_or, drop}
use Rattle.commands.specs.Command.{command_byte}
use Rattle.commands.specs.Refusal.{bad_byte, cut_operands}
use Rattle.commands.specs.Text.{ends_with, followed_by}
use Rattle.commands.proofs.ReadFront.{byte_of_read}
use Rattle.commands.proofs.TextAt.{text_here, reading_here, text_at_unknown, text_at_cut_off, not_unknown, not_cut_off, text_at_command, operands_stand, whole_behind}
use Rattle.reading.specs.Inside.Reads.{Passing, no_command, cut_short, whole, pass_over}
use Rattle.reading.proofs.ReadSteps.{CommandPassed, command_passed, unknown_passed, cut_passed}

module _ (journal : List ℕ) (place : ℕ) (at_byte : place < length journal) where
  -- what is known there of the reading, the operands passed over
  abbrev pub passing_here : Passing
  passing_here = pass_over (get_or journal place 0) (reading_here journal place)

  -- an unknown byte ends the text
  pub text_at_no_command : no_command ≡ passing_here → text_here journal place ≡ ends_with (some bad_byte)
  text_at_no_command e = text_at_unknown journal place at_byte (unknown_passed _ _ e)

  -- and so do cut-off operands
  pub text_at_cut_short : cut_short ≡ passing_here → text_here journal place ≡ ends_with (some cut_operands)
  text_at_cut_short e = text_at_cut_off journal place at_byte (cut_passed _ _ e)

  -- so neither stands where it is read to its end
  pub no_unknown_passed : (text_here journal place).refusal ≡ none → no_command ≡ passing_here → ⊥
  no_unknown_passed read_on e = not_unknown journal place at_byte read_on (unknown_passed _ _ e)

  pub no_cut_passed : (text_here journal place).refusal ≡ none → cut_short ≡ passing_here → ⊥
  no_cut_passed read_on e = not_cut_off journal place at_byte read_on (cut_passed _ _ e)

  -- A command with this byte and so many bytes of operands.
  module _ (byte width : ℕ) (passed : whole byte width ≡ passing_here) where
    pub command_here : CommandPassed (get_or journal place 0) (reading_here journal place) byte width
    command_here = command_passed _ _ byte width passed

    -- the byte is its own
    pub its_own_byte : command_byte command_here.this ≡ byte
    its_own_byte =
        byte_of_read (get_or journal place 0) (drop (place + 1) journal) command_here.this width command_here.is_read
        ∙ sym command_here.its_byte

    -- its operands stand in the journal
    pub operands_here : place + 1 + width ≤ length journal
    operands_here = operands_stand journal place at_byte command_here.this width command_here.is_read

    -- and the text goes on behind them
    pub text_goes_on_behind : text_here journal place
        ≡ followed_by (record { command = command_here.this; place = place; width = width }) (text_here journal (place + 1 + width))
    text_goes_on_behind = text_at_command journal place at_byte command_here.this width command_here.is_read

    -- which is read to its end there, if it is here
    pub whole_behind_passed : (text_here journal place).refusal ≡ none → (text_here journal (place + 1 + width)).refusal ≡ none
    whole_behind_passed = whole_behind journal place at_byte command_here.this width command_here.is_read
