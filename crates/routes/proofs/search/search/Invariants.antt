use Rattle.forest.specs.Promise.{IsSame}
use Rattle.routes.proofs.SearchesTurns.{Turning}
use Rattle.routes.proofs.search.search.Given as goal

abbrev pub invariant-loop-i : goal.invariant-loop-i
invariant-loop-i l = Turning l.initial.n.table.shape l.allowance l.i l.initial.found l.initial.n.table.words.now l.n.table.words.now l.found
    × IsSame l.initial.n.table l.n.table
