-- A result that is written command by command: at the journal's start, behind each command and at its end.
use mathlib.Core.Bool.{true}
use mathlib.Core.List.{List, [], map}
use mathlib.Core.Logic.{◌≢◌}
use mathlib.Core.Path.{◌≡◌, refl, sym, ◌∙◌, ap}
use Prim.Native.Nat.{ℕ, ◌+◌, ◌≤◌, ◌<◌}
use native.Mathlib.Omega.{arith}
use lib.ListN.{length, length-append}
use lib.Seq.{sets, length-sets}
use Rattle.commands.specs.Bytes.{all_bytes}
use Rattle.commands.specs.Text.{ends_with, text_of, journal_bytes}
use Rattle.commands.specs.Rewrite.{rewrite_from, rewrite_commands}
use Rattle.commands.proofs.Cases.{impossible}
use Rattle.commands.proofs.TextAt.{text_at_end}
use Rattle.reading.specs.Inside.Reads.{whole}
use Rattle.reading.proofs.PassedAt.{passing_here, operands_here, whole_behind_passed}
use Rattle.storing.proofs.Sets.{sets_behind}
use Rattle.reading.specs.Inside.Places.{reads_at, commands_at}
use Rattle.rewriting.specs.Inside.Measures.{size_of}
use Rattle.rewriting.specs.Inside.Writes.{spans_behind, rewritten_at, result_stored, Writable, WrittenTo}
use Rattle.rewriting.proofs.Going.{told_here, not_told_here, bytes_go_on, size_stands, spans_at_most}

-- with room for its result, a journal is written up to its start
pub written_at_start : (journal lent : List ℕ) → Writable journal lent → WrittenTo journal lent lent 0 0 0
unfolding text_of rewrite_commands
written_at_start journal lent w =
    record {
      in_journal = omega arith;
      whole_here = w.readable.whole;
      none_told_here = w.none_told;
      leads = refl;
      few_spans = omega arith;
      room = omega (arith, w.room);
      as_long = refl;
    }

-- A journal that is written up to a place.
module _ {journal lent out : List ℕ} {spans at place : ℕ} (w : WrittenTo journal lent out spans at place) where
  -- at its end the whole result is stored
  pub written_to_end : length journal ≤ place → out ≡ result_stored journal lent
  unfolding ends_with rewrite_from journal_bytes
  written_to_end h =
      let nothing : reads_at journal place ≡ [] = ap (λ t. t.commands) (text_at_end journal place h) in
      sym (ap (λ l. sets out at (journal_bytes (rewrite_from spans (map (λ r. r.command) l)))) nothing) ∙ w.leads

  -- A command of a journal of bytes at that place.
  module _ (are : all_bytes journal ≡ true) (at_byte : place < length journal) (byte width : ℕ) (passed : whole byte width ≡ passing_here journal place at_byte) where
    -- it is no 0B
    other : byte ≢ 11
    other e = impossible (cc (told_here journal are place at_byte byte width passed e, w.none_told_here))

    abbrev here : List ℕ
    here = rewritten_at journal place byte width spans

    abbrev behind : List ℕ
    behind = journal_bytes (rewrite_from (spans_behind byte spans) (commands_at journal (place + 1 + width)))

    -- what is left is its bytes and those behind it
    left : length (journal_bytes (rewrite_from spans (commands_at journal place))) ≡ size_of byte width + length behind
    left =
        ap length (bytes_go_on journal are place at_byte byte width passed other spans)
        ∙ length-append here behind
        ∙ ap (λ n. n + length behind) (size_stands journal are place at_byte byte width passed spans)

    -- there is room for it
    pub room_here : at + size_of byte width ≤ length out
    room_here = omega (arith, w.room, left)

    -- and with its bytes stored, the journal is written up to the place behind it
    pub written_behind_lem : WrittenTo journal lent (sets out at here) (spans_behind byte spans) (at + size_of byte width) (place + 1 + width)
    written_behind_lem =
        record {
          in_journal = operands_here journal place at_byte byte width passed;
          whole_here = whole_behind_passed journal place at_byte byte width passed w.whole_here;
          none_told_here = sym (not_told_here journal are place at_byte byte width passed other) ∙ w.none_told_here;
          leads =
              sets_behind out at (at + size_of byte width) here behind (omega (arith, size_stands journal are place at_byte byte width passed spans))
              ∙ ap (sets out at) (sym (bytes_go_on journal are place at_byte byte width passed other spans))
              ∙ w.leads;
          few_spans = omega (arith, w.few_spans, spans_at_most byte spans);
          room = omega (arith, w.room, left, length-sets out at here);
          as_long = length-sets out at here ∙ w.as_long;
        }
