-- `lists::build_lists` builds the lists. The loop's invariant: those of the edges below i are built.
use native.Mathlib.Omega.{arith}
use Rattle.std.proofs.Common.{rules}
use Rattle.routes.proofs.ListsSteps.{built_next}
use Rattle.routes.proofs.lists.build_lists.Goals as goal

pub loop-i-preserved : goal.loop-i-preserved
loop-i-preserved c =
    let now = c.loop-i in
    (built_next now.invariant.0 (omega arith) (rw now.invariant.1.shape at c.enter_edge.ensures.entered), search rules)
