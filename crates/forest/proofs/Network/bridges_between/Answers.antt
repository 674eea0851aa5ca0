-- `bridges_between` writes down the bridges between two vertices.
use Rattle.forest.proofs.Operations.{writes_bridges}
use Rattle.forest.proofs.Network.bridges_between.Goals as goal

pub invariant_of-self : goal.invariant_of-self
invariant_of-self c = record { holds = rw (c.find_bridges.ensures.same.shape) (writes_bridges _ _ c.args.self.now.holds _ _ _ _ c.requires.0 c.requires.1 c.requires.2 c.find_bridges.ensures.words c.find_bridges.ensures.count).holds }

pub returns-clause-written : goal.returns-clause-written
returns-clause-written c = writes_bridges _ _ c.args.self.now.holds _ _ _ _ c.requires.0 c.requires.1 c.requires.2 c.find_bridges.ensures.words c.find_bridges.ensures.count
