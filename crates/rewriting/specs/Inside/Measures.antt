-- The length of a result, command by command.
use Rattle.std.specs.Prelude.{cond, List, ◌≡◌, ℕ, ◌+◌, ◌*◌, ◌≤◌, eqb, length, drop}
use Rattle.std.specs.Prelude as P
use Rattle.std.proofs.Math.Option.{none, some}
use Rattle.commands.specs.Text.{text_from, text_of, journal_bytes}
use Rattle.commands.specs.Rewrite.{rewrite_from, rewritten_bytes, first_duct_told}
use Rattle.reading.specs.Inside.Places.{reads_at, commands_at}
use Rattle.refusals.specs.declared.Refusal.TheVariants as R
use Rattle.refusals.specs.declared.RefusedAt.{RefusedAt}

-- The bytes that a command with this byte and so many bytes of operands has once it is rewritten: 0B takes two more than 02.
unfoldable pub size_of : ℕ → ℕ → ℕ
size_of byte width = cond (eqb byte 2) (3 + width) (1 + width)

-- What is measured of a journal: the length of the result, or the place of the first 0B, for which it is refused.
abbrev pub Measures : List ℕ → P.Result ℕ RefusedAt → Type 0
Measures journal (P.Ok n) = (first_duct_told (text_of journal).commands ≡ none) × (n ≡ length (rewritten_bytes journal))
Measures journal (P.Err refused) = (first_duct_told (text_of journal).commands ≡ some refused.place) × (refused.refusal ≡ R.DuctTold) × (refused.place ≤ length journal)

-- A journal that is measured up to a place, with so many spans and no 0B before it: what is left leads to its first 0B and to the length of
-- its result.
pub record MeasuredTo (journal : List ℕ) (so_far place : ℕ) : Type 0 where
  pub spans : ℕ
  pub in_journal : place ≤ length journal
  pub whole_here : (text_from place 0 (drop place journal)).refusal ≡ none
  pub same_told : first_duct_told (reads_at journal place) ≡ first_duct_told (text_of journal).commands
  pub same_length : so_far + length (journal_bytes (rewrite_from spans (commands_at journal place))) ≡ length (rewritten_bytes journal)
  pub few : so_far ≤ 3 * place
