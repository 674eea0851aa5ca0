-- A journal that is measured command by command: at its start, at a 0B, behind any other command and at its end.
use mathlib.Core.Bool.{true}
use mathlib.Core.List.{List, [], map}
use mathlib.Core.Logic.{◌≢◌}
use mathlib.Core.Path.{◌≡◌, refl, sym, ◌∙◌, ap}
use Prim.Native.Nat.{ℕ, ◌+◌, ◌≤◌, ◌<◌}
use native.Mathlib.Omega.{arith}
use lib.ListN.{length, length-append}
use Rattle.commands.specs.Bytes.{all_bytes}
use Rattle.commands.specs.Text.{ends_with, text_of, journal_bytes}
use Rattle.commands.specs.Rewrite.{rewrite_from, rewrite_commands, first_duct_told}
use Rattle.commands.proofs.TextAt.{text_at_end}
use Rattle.reading.specs.Inside.Reads.{whole}
use Rattle.reading.specs.Inside.Places.{reads_at, commands_at, Readable}
use Rattle.reading.proofs.PassedAt.{passing_here, operands_here, whole_behind_passed}
use Rattle.std.specs.Prelude.{Ok, Err}
use Rattle.refusals.specs.declared.Refusal.TheVariants as R
use Rattle.rewriting.specs.Inside.Measures.{size_of, Measures, MeasuredTo}
use Rattle.rewriting.specs.Inside.Writes.{spans_behind, rewritten_at}
use Rattle.rewriting.proofs.Going.{told_here, not_told_here, bytes_go_on, size_stands, size_at_most}

-- a journal that is read to its end is measured up to its start
pub measured_at_start : (journal : List ℕ) → Readable journal → MeasuredTo journal 0 0
unfolding text_of rewrite_commands
measured_at_start journal r =
    record {
      spans = 0;
      in_journal = omega arith;
      whole_here = r.whole;
      same_told = refl;
      same_length = omega arith;
      few = omega arith;
    }

-- A journal that is measured up to a place.
module _ {journal : List ℕ} {so_far place : ℕ} (m : MeasuredTo journal so_far place) where
  -- at its end the measure is the result's length
  pub measured_to_end : length journal ≤ place → Measures journal (Ok so_far)
  unfolding ends_with first_duct_told rewrite_from journal_bytes
  measured_to_end h =
      let nothing : reads_at journal place ≡ [] = ap (λ t. t.commands) (text_at_end journal place h) in (
        sym m.same_told ∙ ap first_duct_told nothing,
        omega (arith, m.same_length, ap (λ l. length (journal_bytes (rewrite_from m.spans (map (λ r. r.command) l)))) nothing),
      )

  -- A command of a journal of bytes at that place.
  module _ (are : all_bytes journal ≡ true) (at_byte : place < length journal) (byte width : ℕ) (passed : whole byte width ≡ passing_here journal place at_byte) where
    -- a 0B is the first
    pub first_duct_told_lem : byte ≡ 11 → Measures journal (Err (record { refusal = R.DuctTold; place = place }))
    first_duct_told_lem e = (sym m.same_told ∙ told_here journal are place at_byte byte width passed e, refl, m.in_journal)

    -- behind any other the journal is measured with its size
    pub measured_behind : byte ≢ 11 → MeasuredTo journal (so_far + size_of byte width) (place + 1 + width)
    measured_behind other =
        let spans = m.spans in
        let here = rewritten_at journal place byte width spans in
        let behind = journal_bytes (rewrite_from (spans_behind byte spans) (commands_at journal (place + 1 + width))) in
        record {
          spans = spans_behind byte spans;
          in_journal = operands_here journal place at_byte byte width passed;
          whole_here = whole_behind_passed journal place at_byte byte width passed m.whole_here;
          same_told = sym (not_told_here journal are place at_byte byte width passed other) ∙ m.same_told;
          same_length =
              omega (
                arith,
                m.same_length,
                ap length (bytes_go_on journal are place at_byte byte width passed other spans),
                length-append here behind,
                size_stands journal are place at_byte byte width passed spans,
              );
          few = omega (arith, m.few, size_at_most byte width);
        }
