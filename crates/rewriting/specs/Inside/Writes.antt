-- A result as it is written, command by command.
use Rattle.std.specs.Prelude.{cond, List, ◌∷◌, ◌++◌, ◌≡◌, ℕ, ◌+◌, ◌≤◌, eqb, length, drop}
use Rattle.std.proofs.Math.Option.{none}
use Rattle.std.proofs.lemmas.List.Edits.{sets}
use Rattle.std.proofs.Math.Seq.{slice}
use Rattle.commands.specs.Bytes.{two_bytes}
use Rattle.commands.specs.Text.{text_from, text_of, journal_bytes}
use Rattle.commands.specs.Rewrite.{rewrite_from, rewritten_bytes, first_duct_told}
use Rattle.reading.specs.Inside.Places.{reads_at, commands_at, Readable}

-- The spans before the command that follows one with this byte.
unfoldable pub spans_behind : ℕ → ℕ → ℕ
spans_behind byte spans = cond (eqb byte 2) (spans + 1) spans

-- The bytes of a command that stands at a place of the journal, rewritten, with so many spans before it: those of a 02 are 0B, its operands and a
-- duct of its own; those of any other are as they stand.
unfoldable pub rewritten_at : List ℕ → ℕ → ℕ → ℕ → ℕ → List ℕ
rewritten_at journal place byte width spans =
    cond
    (eqb byte 2)
    (0x0B ∷ slice (place + 1) (place + 1 + width) journal ++ two_bytes (spans + 1))
    (slice place (place + 1 + width) journal)

-- The result stored from the front on.
abbrev pub result_stored : List ℕ → List ℕ → List ℕ
result_stored journal lent = sets lent 0 (rewritten_bytes journal)

-- A journal that is read to its end and has no 0B, and the length of its result.
pub record Result (journal : List ℕ) (n : ℕ) : Type 0 where
  pub readable : Readable journal
  pub none_told : first_duct_told (text_of journal).commands ≡ none
  pub length_is : n ≡ length (rewritten_bytes journal)

-- The same, and there is room for the result.
pub record Writable (journal out : List ℕ) : Type 0 where
  pub readable : Readable journal
  pub none_told : first_duct_told (text_of journal).commands ≡ none
  pub room : length (rewritten_bytes journal) ≤ length out

-- A journal without 0B that is rewritten up to a place, with so many spans before it: with what is left stored too, the whole result is.
pub record WrittenTo (journal lent out : List ℕ) (spans at place : ℕ) : Type 0 where
  pub in_journal : place ≤ length journal
  pub whole_here : (text_from place 0 (drop place journal)).refusal ≡ none
  pub none_told_here : first_duct_told (reads_at journal place) ≡ none
  pub leads : sets out at (journal_bytes (rewrite_from spans (commands_at journal place))) ≡ result_stored journal lent
  pub few_spans : spans ≤ place
  pub room : at + length (journal_bytes (rewrite_from spans (commands_at journal place))) ≤ length out
  pub as_long : length out ≡ length lent
