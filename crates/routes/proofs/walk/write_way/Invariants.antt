use Rattle.forest.specs.Promise.{IsSame}
use mathlib.Core.Bool.{true}
use mathlib.Core.Path.{◌≡◌}
use Rattle.graph.specs.Lists.{is_in}
use Rattle.graph.specs.Network.{Network}
use Rattle.ways.specs.Search.{Found, Orderly}
use Rattle.forest.specs.Promise.{network_in}
use Rattle.routes.specs.Inside.Frame.{column_of, Only, column_only}
use Rattle.routes.specs.Inside.Searches.{NextIs}
use Rattle.routes.proofs.WalksWritten.{WrittenTo}
use Rattle.routes.proofs.walk.write_way.Given as goal

abbrev pub invariant-loop-i : goal.invariant-loop-i
invariant-loop-i l = Only l.initial.n.table.shape (column_only (column_of l.route)) l.initial.n.table.words.now l.n.table.words.now
    × ((g : Network) (f : Found) → network_in l.initial.n.table.shape l.initial.n.table.words.now ≡ g → Orderly g l.b.0 f → NextIs l.initial.n.table.shape l.b.0 f l.initial.n.table.words.now → is_in l.initial.x.0 f.order ≡ true
    → WrittenTo l.initial.n.table.shape (column_of l.route) l.initial.x.0 f l.n.table.words.now l.x.0 l.i)
    × IsSame l.initial.n.table l.n.table
