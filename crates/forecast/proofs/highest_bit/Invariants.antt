use Rattle.forecast.proofs.HighestBit.{PassedOver}
use Rattle.forecast.proofs.highest_bit.Given as goal

abbrev pub invariant-loop-high : goal.invariant-loop-high
invariant-loop-high l = PassedOver l.k l.table l.high l.below

abbrev pub decreases-loop-high : goal.decreases-loop-high
decreases-loop-high l = l.high
