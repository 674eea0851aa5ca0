-- `search::turn` sees all edges from the vertex that was reached i-th.
use native.Mathlib.Omega.{arith}
use Rattle.routes.proofs.SearchesTurns.{turn_looks, turn_stays}
use Rattle.routes.proofs.search.turn.Goals as goal

pub returns-then-i-found-clause-turned : goal.returns-then-i-found-clause-turned
returns-then-i-found-clause-turned c =
    turn_looks (omega (arith, c.if-i-found.true)) c.vertex_scratch-y.ensures
    c.look_all.ensures.looked

pub returns-clause-turned : goal.returns-clause-turned
returns-clause-turned c = turn_stays c.args.n.now.table.shape c.args.allowance c.args.i c.args.found c.args.n.now.table.words.now c.args.n.now.holds (omega (arith, c.if-i-found.false))
