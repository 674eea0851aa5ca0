-- The commands for the seams before place i are stored.
use Rattle.joining.proofs.SeamSteps.{StoredTo}
use Rattle.joining.proofs.seams.put_seams.Given as goal

abbrev pub invariant-loop-i : goal.invariant-loop-i
invariant-loop-i l = StoredTo l.counts l.seams l.initial.out l.front l.i l.at l.out
