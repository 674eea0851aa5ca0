-- `write` stores command after command. The invariant: with what is left stored too, the whole result is. The measure is what is left of the
-- journal.
use mathlib.Core.Path.{◌∙◌, ap}
use native.Mathlib.Omega.{arith}
use Rattle.commands.proofs.Bytes.{bytes_by_place}
use Rattle.rewriting.proofs.Writing.{written_at_start, written_behind_lem}
use Rattle.rewriting.proofs.write.Goals as goal

pub loop-reader-init : goal.loop-reader-init
loop-reader-init c = record {
  same = ap (λ b. b.now) c.new-reader.ensures.0;
  bytes = rw c.new-reader.ensures.0 (bytes_by_place c.args.journal.now (λ i h. omega (arith, c.type_inv.journal i)));
  so_far =
      rw (c.new-reader.ensures.0, c.new-reader.ensures.1) (written_at_start c.args.journal.now c.args.out.now c.requires);
}

pub loop-reader-preserved : goal.loop-reader-preserved
loop-reader-preserved c =
    record {
      same = ap (λ b. b.now) c.further-reader.ensures.0 ∙ c.loop-reader.invariant.same;
      bytes = rw c.further-reader.ensures.0 c.loop-reader.invariant.bytes;
      so_far =
          rw (
            c.further-reader.ensures.0,
            c.further-reader.ensures.1,
            c.size_of-at.ensures,
            c.spans_behind-spans.ensures,
            c.put_command.ensures,
          )
          (written_behind_lem c.loop-reader.invariant.so_far c.loop-reader.invariant.bytes (omega arith) _ _ c.head_at-head.ensures);
    }
