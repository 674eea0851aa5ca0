-- `lists::enter_edge` puts an edge at the head of the lists of its two ends.
use mathlib.Core.Path.{◌∙◌}
use Rattle.routes.proofs.ListsSteps.{edge-entered}
use Rattle.routes.proofs.lists.enter_edge.Goals as goal

pub returns-clause-entered : goal.returns-clause-entered
returns-clause-entered c =
    let same = c.set_edge_scratch.ensures.same.shape in
    edge-entered
    c.requires
    c.ends_of-ends.ensures.left
    c.ends_of-ends.ensures.right
    (rw (c.vertex_scratch-left.ensures, c.vertex_scratch-right.ensures))
    c.set_edge_scratch.ensures.stored
    (rw (c.to_word-entry.ensures, same) at c.set_vertex_scratch.ensures.stored)
    (rw (c.to_word-entry.ensures, c.set_vertex_scratch.ensures.same.shape ∙ same) at c.set_vertex_scratch-2.ensures.stored)
