-- `search::reach` writes down that a vertex is reached.
use native.Mathlib.Omega.{arith}
use Rattle.routes.proofs.SearchesStored.{reach_stores}
use Rattle.routes.proofs.search.reach.Goals as goal

pub returns-then-found-n-clause-reached : goal.returns-then-found-n-clause-reached
returns-then-found-n-clause-reached c =
    reach_stores (omega arith) (omega arith) c.set_vertex_scratch.ensures.stored
    (rw c.set_vertex_scratch.ensures.same.shape at c.set_vertex_scratch-then-found-n.ensures.stored)
