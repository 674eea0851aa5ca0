-- The seams before place i are good.
use Rattle.joining.proofs.SeamSteps.{LookedTo}
use Rattle.joining.proofs.seams.look_at.Given as goal

abbrev pub invariant-loop-i : goal.invariant-loop-i
invariant-loop-i l = LookedTo l.counts l.seams l.i
