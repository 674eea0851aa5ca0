use Rattle.forest.specs.Promise.{IsSame}
use mathlib.Core.Bool.{true}
use mathlib.Core.Path.{◌≡◌}
use Prim.Native.Nat.{◌≤◌}
use Rattle.graph.specs.Network.{Network, edge, edge_count, touches}
use Rattle.forest.specs.Promise.{network_in}
use Rattle.routes.specs.Inside.Frame.{Only, edges_only}
use Rattle.routes.specs.Inside.Lists.{entry_number, Linked}
use Rattle.routes.proofs.WalksMates.{MatesFrom}
use Rattle.routes.proofs.walk.set_mates_use.Given as goal

abbrev pub invariant-loop-entry : goal.invariant-loop-entry
invariant-loop-entry l = Only l.initial.n.table.shape edges_only l.initial.n.table.words.now l.n.table.words.now
    × (entry_number l.entry ≤ l.initial.n.table.shape.edges)
    × ((g : Network) → network_in l.initial.n.table.shape l.initial.n.table.words.now ≡ g → Linked l.initial.n.table.shape g (edge_count g) l.initial.n.table.words.now → touches (edge g l.s.0) l.x.0 ≡ true
    → MatesFrom l.initial.n.table.shape g l.x.0 l.s.0 l.used (entry_number l.entry) l.initial.n.table.words.now l.n.table.words.now)
    × IsSame l.initial.n.table l.n.table

abbrev pub decreases-loop-entry : goal.decreases-loop-entry
decreases-loop-entry l = entry_number l.entry
