use Rattle.forest.specs.Promise.{IsSame}
use Rattle.routes.specs.Inside.Lists.{entry_number}
use Rattle.routes.proofs.SearchesLooks.{Looking}
use Rattle.routes.proofs.search.look_all.Given as goal

abbrev pub invariant-loop-entry : goal.invariant-loop-entry
invariant-loop-entry l = Looking l.initial.n.table.shape l.allowance l.y.0 l.found l.initial.n.table.words.now l.n.table.words.now l.reached (entry_number l.entry)
    × IsSame l.initial.n.table l.n.table

abbrev pub decreases-loop-entry : goal.decreases-loop-entry
decreases-loop-entry l = entry_number l.entry
