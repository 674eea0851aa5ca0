-- `scan` counts command by command, and what is left of the journal leads to its forecast.
use mathlib.Core.Path.{◌∙◌, ap}
use native.Mathlib.Omega.{arith}
use Rattle.forecast.proofs.Scanning.{nothing_counted, counted_at_start, counted_behind}
use Rattle.forecast.proofs.scan.Goals as goal

pub loop-reader-init : goal.loop-reader-init
loop-reader-init c = record {
  same = ap (λ b. b.now) c.new-reader.ensures.0;
  so_far =
      rw (c.new-reader.ensures.0, c.new-reader.ensures.1, nothing_counted _ c.default-tally.ensures)
      (counted_at_start c.args.journal.now c.requires);
}

pub loop-reader-preserved : goal.loop-reader-preserved
loop-reader-preserved c = record {
  same = ap (λ b. b.now) c.further-reader.ensures.0 ∙ c.loop-reader.invariant.same;
  so_far =
      rw (c.further-reader.ensures.0, c.further-reader.ensures.1, c.counted-tally.ensures)
      (counted_behind c.loop-reader.invariant.so_far (omega arith) _ _ c.in_ok-passed.ensures);
}
