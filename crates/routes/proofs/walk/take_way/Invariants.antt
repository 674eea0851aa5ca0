use Rattle.forest.specs.Promise.{IsSame}
use mathlib.Core.List.{List}
use mathlib.Core.Path.{◌≡◌}
use Prim.Native.Nat.{◌<◌}
use lib.ListN.{length}
use Rattle.graph.specs.Network.{Network}
use Rattle.graph.specs.Cycle.{Step}
use Rattle.ways.specs.Used.{Used, Usable, WayFits}
use Rattle.ways.specs.TwoRoutes.{edges_of}
use Rattle.forest.specs.Promise.{network_in}
use Rattle.routes.specs.Inside.Frame.{column_of, Only, edges_only, Written}
use Rattle.routes.specs.Inside.Lists.{Listed}
use Rattle.routes.proofs.WalksWay.{TakenTo}
use Rattle.routes.proofs.walk.take_way.Given as goal

abbrev pub invariant-loop-i : goal.invariant-loop-i
invariant-loop-i l = Only l.initial.n.table.shape edges_only l.initial.n.table.words.now l.n.table.words.now
    × ((g : Network) (u : Used) (ps : List Step) → network_in l.initial.n.table.shape l.initial.n.table.words.now ≡ g → Listed l.initial.n.table.shape g u l.initial.n.table.words.now → Usable g u → WayFits g u l.initial.x.0 ps
    → length ps < g.vertices → Written l.initial.n.table.shape (column_of l.route) l.count l.initial.n.table.words.now (edges_of ps) → TakenTo l.initial.n.table.shape g u l.initial.x.0 ps l.n.table.words.now l.x.0 l.i)
    × IsSame l.initial.n.table l.n.table
