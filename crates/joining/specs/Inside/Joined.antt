-- Both journals as they are stored.
use Rattle.std.specs.Prelude.{cond, ◌||◌, Result, Ok, Err, List, ◌++◌, map, ℕ, ◌+◌, ◌*◌, ◌≤◌, ltb, length}
use Rattle.std.proofs.lemmas.List.Edits.{sets}
use Rattle.commands.specs.Text.{commands_in, journal_bytes}
use Rattle.commands.specs.Join.{raise_command}
use Rattle.reading.specs.Inside.Places.{Readable}
use Rattle.refusals.specs.declared.Refusal.{Refusal}
use Rattle.refusals.specs.declared.Refusal.TheVariants.{LongJoin}
use Rattle.joining.specs.declared.seams.Counts.{Counts}
use Rattle.joining.specs.Inside.Seams.{one_of}

-- Journals that can be stored: no longer than a journal may be, and the second is read to its end.
pub record Puttable (first second : List ℕ) : Type 0 where
  pub short : length first ≤ 65536
  pub readable : Readable second

-- The place behind what is stored, or a refusal; and the output buffer.
pub record Stored : Type 0 where
  pub place : Result ℕ Refusal
  pub out : List ℕ

-- Both stored from the front on, the second raised, where they and so many seams fit into a journal and into the buffer; else 19.
unfoldable pub put_journals : List ℕ → List ℕ → ℕ → Counts → List ℕ → Stored
put_journals first second seams c out =
    let front = length first + length second in
    let size = front + seams * 7 in
    cond
    (ltb 65536 size || ltb (length out) size)
    (record { place = Err LongJoin; out = out })
    (record {
      place = Ok front;
      out = sets out 0 (first ++ journal_bytes (map (raise_command (one_of c)) (commands_in second)));
    })
