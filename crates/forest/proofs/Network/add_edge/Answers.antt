-- `add_edge` does to the book what the naming book does for one edge more.
use Rattle.std.proofs.Common.{arith}
use Rattle.forest.specs.Promise.{few_edges}
use Rattle.forest.proofs.Operations.{adds_edge}
use Rattle.forest.proofs.Network.add_edge.Goals as goal

pub grow_edge-growth-requires : goal.grow_edge-growth-requires
grow_edge-growth-requires c = omega (arith, few_edges _ _ c.args.self.now.holds)

pub overflow_add-self : goal.overflow_add-self
overflow_add-self c = rw c.grow_edge-growth.ensures.same.shape (record { fits = omega (arith, few_edges _ _ c.args.self.now.holds) })

pub invariant_of-self : goal.invariant_of-self
invariant_of-self c = record { holds = rw (c.grow_edge-growth.ensures.same.shape) (adds_edge _ _ c.args.self.now.holds _ _ _ _ _ c.requires.0 c.requires.1 c.requires.2 c.requires.3 (omega (arith, c.well_formed)) c.grow_edge-growth.ensures.grown).holds }

pub returns-clause-added : goal.returns-clause-added
returns-clause-added c = adds_edge _ _ c.args.self.now.holds _ _ _ _ _ c.requires.0 c.requires.1 c.requires.2 c.requires.3 (omega (arith, c.well_formed)) c.grow_edge-growth.ensures.grown
