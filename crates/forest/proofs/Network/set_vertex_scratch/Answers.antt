-- `set_vertex_scratch` stores a scratch word of a vertex.
use Rattle.forest.proofs.Operations.{stores_vertex_scratch}
use Rattle.forest.proofs.Network.set_vertex_scratch.Goals as goal

pub invariant_of-self : goal.invariant_of-self
invariant_of-self c = record { holds = rw (c.set_word.ensures.same.shape) (stores_vertex_scratch _ _ c.args.self.now.holds _ _ _ _ c.requires.0 c.requires.1 (rw c.vertex_area-area.ensures at c.set_word.ensures.words)).holds }

pub returns-clause-stored : goal.returns-clause-stored
returns-clause-stored c = stores_vertex_scratch _ _ c.args.self.now.holds _ _ _ _ c.requires.0 c.requires.1 (rw c.vertex_area-area.ensures at c.set_word.ensures.words)
