-- `search::search` makes as many turns as there are vertices, or fewer where a is reached by then. The loop's invariant: the first i turns
-- are done.
use mathlib.Core.Path.{◌∙◌, ap}
use native.Mathlib.Omega.{arith}
use Rattle.std.proofs.Common.{rules}
use Rattle.routes.proofs.SearchesTurns.{turning_first, turning_next, turning_stops, turning_last}
use Rattle.routes.proofs.search.search.Goals as goal

pub loop-i-init : goal.loop-i-init
loop-i-init c =
    let begun = c.begin_search in
    (turning_first begun.new.n.table.shape c.args.allowance 1 begun.new.n.table.words.now begun.new.n.holds, search rules)

pub returns-then-vertex_scratch-ne0-clause-searched : goal.returns-then-vertex_scratch-ne0-clause-searched
returns-then-vertex_scratch-ne0-clause-searched c =
    let args = c.args in
    turning_stops c.args.n.now.table.shape args.allowance args.a.0 args.b.0 c.loop-i.i c.loop-i.found c.args.n.now.table.words.now
    c.begin_search.new.n.table.words.now c.loop-i.n.table.words.now c.begin_search.ensures.begun c.requires
    (rw c.begin_search.ensures.same.shape at c.loop-i.invariant.0)
    (omega (arith, ap (λ shape. shape.vertices) c.begin_search.ensures.same.shape)) c.vertex_scratch.result
    (rw (c.loop-i.invariant.1.shape ∙ c.begin_search.ensures.same.shape) at c.vertex_scratch.ensures) c.if-vertex_scratch-ne0.true

pub loop-i-preserved : goal.loop-i-preserved
loop-i-preserved c =
    let now = c.loop-i in
    (turning_next (omega arith) now.invariant.0 (rw now.invariant.1.shape at c.turn-found.ensures.turned), search rules)

pub returns-clause-searched : goal.returns-clause-searched
returns-clause-searched c =
    let args = c.args in
    turning_last c.args.n.now.table.shape args.allowance args.a.0 args.b.0 c.loop-i.i c.loop-i.found c.args.n.now.table.words.now
    c.begin_search.new.n.table.words.now c.loop-i.n.table.words.now c.begin_search.ensures.begun c.requires
    (rw c.begin_search.ensures.same.shape at c.loop-i.invariant.0)
    (omega (arith, ap (λ shape. shape.vertices) c.begin_search.ensures.same.shape))
