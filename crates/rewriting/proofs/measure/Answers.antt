-- `measure` goes from command to command. The invariant: what is left leads to the first 0B and to the length of the result. The measure is what
-- is left of the journal.
use mathlib.Core.Path.{◌∙◌, ap}
use native.Mathlib.Omega.{arith}
use Rattle.commands.proofs.Bytes.{bytes_by_place}
use Rattle.rewriting.proofs.Measuring.{measured_at_start, measured_to_end, first_duct_told_lem, measured_behind}
use Rattle.rewriting.proofs.measure.Goals as goal

pub loop-reader-init : goal.loop-reader-init
loop-reader-init c = record {
  same = ap (λ b. b.now) c.new-reader.ensures.0;
  bytes = rw c.new-reader.ensures.0 (bytes_by_place c.args.journal.now (λ i h. omega (arith, c.type_inv.journal i)));
  so_far = rw (c.new-reader.ensures.0, c.new-reader.ensures.1) (measured_at_start c.args.journal.now c.requires);
}

pub returns-then-head-eq11 : goal.returns-then-head-eq11
returns-then-head-eq11 c =
    rw (← c.loop-reader.invariant.same)
    (first_duct_told_lem
    c.loop-reader.invariant.so_far
    c.loop-reader.invariant.bytes
    (omega arith)
    _
    _
    c.head_at-head.ensures
    (omega (arith, c.if-head-eq11.true)))

pub loop-reader-preserved : goal.loop-reader-preserved
loop-reader-preserved c =
    record {
      same = ap (λ b. b.now) c.further-reader.ensures.0 ∙ c.loop-reader.invariant.same;
      bytes = rw c.further-reader.ensures.0 c.loop-reader.invariant.bytes;
      so_far =
          rw (c.further-reader.ensures.0, c.further-reader.ensures.1, c.size_of-length.ensures)
          (measured_behind
          c.loop-reader.invariant.so_far
          c.loop-reader.invariant.bytes
          (omega arith)
          _
          _
          c.head_at-head.ensures
          (λ e. omega (arith, c.if-head-eq11.false)));
    }

pub returns : goal.returns
returns c = rw (← c.loop-reader.invariant.same) (measured_to_end c.loop-reader.invariant.so_far (omega arith))
