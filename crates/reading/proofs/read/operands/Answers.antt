-- `read::operands` reads the operands one after another.
use Rattle.std.proofs.Common.{◌≢◌, ◌<◌, ◌+◌, ◌*◌, ◌∙◌, sym, length, arith, length-drop, length-set, get_or-set_other, get_or-set_same, below_more}
use Rattle.reading.proofs.ReadSteps.{operand_at}
use Rattle.reading.proofs.read.operands.Goals as goal

pub loop-k-preserved : goal.loop-k-preserved
loop-k-preserved g c = record {
  as_many = rw length-set c.loop-k.invariant.as_many;
  first =
      below_more _ _
      (λ i h. let ne : i ≢ c.loop-k.k = omega arith in rw get_or-set_other (c.loop-k.invariant.first i h))
      (let lt : c.loop-k.k < length c.loop-k.values = omega arith in
      rw get_or-set_same (c.operand.ensures ∙ sym (operand_at c.args.journal.now c.args.from c.loop-k.k (c.args.from + 2 * c.loop-k.k) (omega arith))));
}

pub returns : goal.returns
returns g c = record {
  there = omega (arith, length-drop c.args.from c.args.journal.now);
  each = λ i h. c.loop-k.invariant.first i (omega arith);
}
