-- The text of a journal from a place on, by what is read at that place.
use mathlib.Core.List.{List, ◌∷◌}
use mathlib.Core.Option.{none, some}
use mathlib.Core.Path.{◌≡◌, sym, ◌∙◌, ap}
use Prim.Native.Nat.{ℕ, ◌+◌, ◌≤◌, ◌<◌}
use native.Mathlib.Numerals.{add-one}
use native.Mathlib.Omega.{arith}
use lib.ListN.{length, get_or, drop, length-drop, drop_of_length-le}
use lib.Seq.{drop-cons, drop-drop}
use Rattle.commands.specs.Command.{Command, Reading, unknown_byte, cut_off, command, read_command}
use Rattle.commands.specs.Refusal.{bad_byte, cut_operands}
use Rattle.commands.specs.Text.{Text, ends_with, followed_by, text_from}
use Rattle.commands.proofs.Cases.{impossible}
use Rattle.commands.proofs.Reading.{operands_fit}
use Rattle.commands.proofs.Steps.{text_ends, text_unknown, text_cut_off, text_goes_on}

module _ (journal : List ℕ) (place : ℕ) where
  -- the text from there on
  abbrev pub text_here : Text
  text_here = text_from place 0 (drop place journal)

  -- the byte there, and those behind it
  abbrev byte_here : ℕ
  byte_here = get_or journal place 0

  abbrev bytes_behind : List ℕ
  bytes_behind = drop (place + 1) journal

  -- what is read there
  abbrev pub reading_here : Reading
  reading_here = read_command byte_here bytes_behind

  -- at the journal's end there is no more
  pub text_at_end : length journal ≤ place → text_here ≡ ends_with none
  text_at_end h = rw (drop_of_length-le journal h) (text_ends place)

  module _ (at_byte : place < length journal) where
    begins_here : text_here ≡ text_from place 0 (byte_here ∷ bytes_behind)
    begins_here = rw (drop-cons journal place 0 at_byte, ← add-one place)

    -- an unknown byte ends the text
    pub text_at_unknown : reading_here ≡ unknown_byte → text_here ≡ ends_with (some bad_byte)
    text_at_unknown e = begins_here ∙ text_unknown place byte_here bytes_behind e

    -- and so do operands that are cut off
    pub text_at_cut_off : reading_here ≡ cut_off → text_here ≡ ends_with (some cut_operands)
    text_at_cut_off e = begins_here ∙ text_cut_off place byte_here bytes_behind e

    -- from where it is read to its end, a command stands
    pub not_unknown : text_here.refusal ≡ none → reading_here ≡ unknown_byte → ⊥
    unfolding ends_with
    not_unknown read_on e = impossible (cc (ap (λ t. t.refusal) (text_at_unknown e), read_on))

    pub not_cut_off : text_here.refusal ≡ none → reading_here ≡ cut_off → ⊥
    unfolding ends_with
    not_cut_off read_on e = impossible (cc (ap (λ t. t.refusal) (text_at_cut_off e), read_on))

    module _ (c : Command) (width : ℕ) (reads : reading_here ≡ command c width) where
      -- a command is followed by the text from behind its operands
      pub text_at_command : text_here
          ≡ followed_by (record { command = c; place = place; width = width }) (text_from (place + 1 + width) 0 (drop (place + 1 + width) journal))
      text_at_command = begins_here ∙ text_goes_on place byte_here bytes_behind reads ∙ rw (drop-drop width (place + 1) journal)

      -- which stand in the journal
      pub operands_stand : place + 1 + width ≤ length journal
      operands_stand = omega (arith, at_byte, simp length-drop at (operands_fit byte_here bytes_behind c width reads))

      -- and behind them it is read to its end, if it is here
      pub whole_behind : text_here.refusal ≡ none → (text_from (place + 1 + width) 0 (drop (place + 1 + width) journal)).refusal ≡ none
      unfolding followed_by
      whole_behind e = sym (ap (λ t. t.refusal) text_at_command) ∙ e
