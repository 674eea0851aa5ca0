-- `cuts_between` writes down the cut vertices between two vertices.
use Rattle.forest.proofs.Operations.{writes_cuts}
use Rattle.forest.proofs.Network.cuts_between.Goals as goal

pub invariant_of-self : goal.invariant_of-self
invariant_of-self c = record { holds = rw (c.find_cuts.ensures.same.shape) (writes_cuts _ _ c.args.self.now.holds _ _ _ _ c.requires.0 c.requires.1 c.requires.2 c.find_cuts.ensures.words c.find_cuts.ensures.count).holds }

pub returns-clause-written : goal.returns-clause-written
returns-clause-written c = writes_cuts _ _ c.args.self.now.holds _ _ _ _ c.requires.0 c.requires.1 c.requires.2 c.find_cuts.ensures.words c.find_cuts.ensures.count
