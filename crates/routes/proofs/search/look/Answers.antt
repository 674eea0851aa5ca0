-- `search::look` sees an edge from a vertex.
use mathlib.Core.Path.{sym, ◌∙◌, ap}
use Prim.Native.Nat.{◌%◌}
use Rattle.routes.specs.Inside.Searches.{may_step}
use Rattle.routes.proofs.SearchesLook.{look_reached, look_barred, look-linked}
use Rattle.routes.proofs.search.look.Goals as goal

pub returns-then-not-may_step-clause-looked : goal.returns-then-not-may_step-clause-looked
returns-then-not-may_step-clause-looked c =
    let args = c.args in
    look_barred c.args.n.now.table.shape c.args.n.now.table.words.now c.args.n.now.holds args.y.0 args.s.0 c.other_end-x.result.0
    c.ends_of-ends.result.left.0 c.ends_of-ends.result.right.0 c.requires (c.ends_of-ends.ensures.left, c.ends_of-ends.ensures.right)
    c.other_end-x.ensures args.allowance args.found _
    (sym (c.may_step.ensures ∙ ap (may_step args.allowance c.in_word-used.result) c.eq.ensures) ∙ c.if-not-may_step.true)
    (c.in_word-used.ensures ∙ ap (λ word. word % 4) c.edge_scratch.ensures)

pub returns-then-vertex_scratch-ne0-clause-looked : goal.returns-then-vertex_scratch-ne0-clause-looked
returns-then-vertex_scratch-ne0-clause-looked c =
    let args = c.args in
    look_reached c.args.n.now.table.shape c.args.n.now.table.words.now c.args.n.now.holds args.y.0 args.s.0 c.other_end-x.result.0
    c.ends_of-ends.result.left.0 c.ends_of-ends.result.right.0 c.requires (c.ends_of-ends.ensures.left, c.ends_of-ends.ensures.right)
    c.other_end-x.ensures args.allowance args.found
    c.vertex_scratch.result c.vertex_scratch.ensures c.if-vertex_scratch-ne0.true

pub returns-clause-looked : goal.returns-clause-looked
returns-clause-looked c =
    let args = c.args in
    look-linked c.args.n.now.table.shape c.args.n.now.table.words.now c.args.n.now.holds args.y.0 args.s.0 c.other_end-x.result.0
    c.ends_of-ends.result.left.0 c.ends_of-ends.result.right.0 c.requires (c.ends_of-ends.ensures.left, c.ends_of-ends.ensures.right)
    c.other_end-x.ensures args.allowance args.found
    c.vertex_scratch.result c.vertex_scratch.ensures c.in_word-used.result c.if-vertex_scratch-ne0.false
    (sym (c.may_step.ensures ∙ ap (may_step args.allowance c.in_word-used.result) c.eq.ensures) ∙ c.if-not-may_step.false)
    (c.in_word-used.ensures ∙ ap (λ word. word % 4) c.edge_scratch.ensures) c.reach.ensures.reached
