use Rattle.forest.specs.Promise.{IsSame}
use Rattle.routes.proofs.ListsSteps.{ClearedBelow}
use Rattle.routes.proofs.lists.clear_column.Given as goal

abbrev pub invariant-loop-i : goal.invariant-loop-i
invariant-loop-i l = ClearedBelow l.initial.n.table.shape l.column l.i l.initial.n.table.words.now l.n.table.words.now
    × IsSame l.initial.n.table l.n.table
