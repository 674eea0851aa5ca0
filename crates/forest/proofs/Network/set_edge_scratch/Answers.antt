-- `set_edge_scratch` stores the scratch word of an edge.
use Rattle.forest.proofs.Operations.{stores_edge_scratch}
use Rattle.forest.proofs.Network.set_edge_scratch.Goals as goal

pub invariant_of-self : goal.invariant_of-self
invariant_of-self c = record { holds = rw (c.set_word.ensures.same.shape) (stores_edge_scratch _ _ c.args.self.now.holds _ _ _ c.requires (rw c.edge_area-area.ensures at c.set_word.ensures.words)).holds }

pub returns-clause-stored : goal.returns-clause-stored
returns-clause-stored c = stores_edge_scratch _ _ c.args.self.now.holds _ _ _ c.requires (rw c.edge_area-area.ensures at c.set_word.ensures.words)
