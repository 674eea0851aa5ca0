-- A journal from a place on, and one that is read to its end.
use Rattle.std.specs.Prelude.{List, map, ◌≡◌, ℕ, ◌≤◌, length, drop}
use Rattle.std.proofs.Math.Option.{none}
use Rattle.commands.specs.Command.{Command}
use Rattle.commands.specs.Text.{Read, text_from, text_of}

-- The commands of a journal from a place on.
abbrev pub reads_at : List ℕ → ℕ → List Read
reads_at journal place = (text_from place 0 (drop place journal)).commands

abbrev pub commands_at : List ℕ → ℕ → List Command
commands_at journal place = map (λ r. r.command) (reads_at journal place)

-- A journal of at most 65,536 bytes that is read to its end.
pub record Readable (journal : List ℕ) : Type 0 where
  pub short : length journal ≤ 65536
  pub whole : (text_of journal).refusal ≡ none
