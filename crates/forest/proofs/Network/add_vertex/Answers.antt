-- `add_vertex` does to the book what the naming book does for one vertex more.
use Rattle.std.proofs.Common.{arith}
use Rattle.forest.specs.Promise.{few_vertices}
use Rattle.forest.proofs.Operations.{adds_vertex}
use Rattle.forest.proofs.Network.add_vertex.Goals as goal

pub overflow_add-self : goal.overflow_add-self
overflow_add-self c = rw c.grow_vertex.ensures.same.shape (record { fits = omega (arith, few_vertices _ _ c.args.self.now.holds) })

pub invariant_of-self : goal.invariant_of-self
invariant_of-self c = record { holds = rw (c.grow_vertex.ensures.same.shape) (adds_vertex _ _ c.args.self.now.holds _ c.requires c.grow_vertex.ensures.words).holds }

pub returns-clause-added : goal.returns-clause-added
returns-clause-added c = adds_vertex _ _ c.args.self.now.holds _ c.requires c.grow_vertex.ensures.words
