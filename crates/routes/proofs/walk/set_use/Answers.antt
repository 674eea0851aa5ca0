-- `walk::set_use` stores the two bits of an edge.
use mathlib.Core.Path.{ap₂}
use Prim.Native.Nat.{◌+◌, ◌*◌, ◌/◌}
use Rattle.routes.specs.Inside.Walks.{with_use}
use Rattle.routes.proofs.WalksUses.{use_stored}
use Rattle.routes.proofs.walk.set_use.Goals as goal

pub returns-clause-set : goal.returns-clause-set
unfolding with_use
returns-clause-set c =
    use_stored c.set_edge_scratch.ensures.stored (ap₂ (λ word bits. word / 4 * 4 + bits) c.edge_scratch-word.ensures c.from.ensures)
