-- `mark` does to the state what recording a mark does.
use Rattle.forest.proofs.Operations.{marks_vertex}
use Rattle.forest.proofs.Network.mark.Goals as goal

pub invariant_of-self : goal.invariant_of-self
invariant_of-self c = record { holds = rw (c.mark_vertex.ensures.same.shape) (marks_vertex _ _ c.args.self.now.holds _ _ c.requires.0 c.requires.1 c.mark_vertex.ensures.words).holds }

pub returns-clause-marked : goal.returns-clause-marked
returns-clause-marked c = marks_vertex _ _ c.args.self.now.holds _ _ c.requires.0 c.requires.1 c.mark_vertex.ensures.words
