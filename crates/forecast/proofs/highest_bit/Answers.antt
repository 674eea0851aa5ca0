-- `highest_bit` passes over the lower bytes of a number while more than one is left, and looks the one that is left up in the table.
use mathlib.Core.Path.{refl}
use native.Mathlib.Omega.{arith}
use Rattle.graph.specs.Below.{tabulate}
use Rattle.naming.specs.Log.{greatest, one_bit, highest_bit}
use Rattle.naming.proofs.Log.{highest_bit_at_most}
use Rattle.forecast.proofs.HighestBit.{entry_is, none_passed_over, one_more_passed_over}
use Rattle.forecast.proofs.highest_bit.Goals as goal

-- the rule over the whole table: `refl` computes L(0) to L(255)
pub loop-high-init : goal.loop-high-init
loop-high-init c = none_passed_over _ _ _ _ (unfold tabulate highest_bit greatest one_bit in refl) (omega arith) (omega arith)

pub overflow_add-below : goal.overflow_add-below
overflow_add-below c = record { fits = omega (arith, c.loop-high.invariant.place_is, highest_bit_at_most c.args.k 31 c.ranges.k.fits) }

pub loop-high-preserved : goal.loop-high-preserved
loop-high-preserved c = one_more_passed_over c.loop-high.invariant (omega arith) _ _ (omega arith) (omega arith)

pub returns : goal.returns
returns c =
    let last = c.loop-high in
    omega (arith, last.invariant.place_is, entry_is _ last.invariant.table_is last.high last.high (omega (arith, c.loop-high-test.false)) (omega arith))

-- so what is returned fits: L of a number of 32 bits is at most 31
pub overflow_add-result : goal.overflow_add-result
overflow_add-result c =
    let last = c.loop-high in
    let entry = entry_is _ last.invariant.table_is last.high last.high (omega (arith, c.loop-high-test.false)) (omega arith) in
    record { fits = omega (arith, last.invariant.place_is, entry, highest_bit_at_most c.args.k 31 c.ranges.k.fits) }
