-- `search::begin_search` leaves the goal alone reached.
use mathlib.Core.Path.{◌∙◌}
use Rattle.routes.proofs.SearchesStored.{begin_stores}
use Rattle.routes.proofs.search.begin_search.Goals as goal

pub returns-clause-begun : goal.returns-clause-begun
returns-clause-begun c =
    let same = c.clear_column.ensures.same.shape in
    begin_stores
    c.clear_column.ensures.cleared
    (rw same at c.set_vertex_scratch.ensures.stored)
    (rw (c.set_vertex_scratch.ensures.same.shape ∙ same) at c.set_vertex_scratch-2.ensures.stored)
