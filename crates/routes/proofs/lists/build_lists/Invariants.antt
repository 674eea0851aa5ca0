use Rattle.forest.specs.Promise.{IsSame}
use Rattle.routes.proofs.ListsSteps.{BuiltBelow}
use Rattle.routes.proofs.lists.build_lists.Given as goal

abbrev pub invariant-loop-i : goal.invariant-loop-i
invariant-loop-i l = BuiltBelow l.initial.n.table.shape l.i l.initial.n.table.words.now l.n.table.words.now
    × IsSame l.initial.n.table l.n.table
