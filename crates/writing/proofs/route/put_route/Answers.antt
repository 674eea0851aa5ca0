-- `route::put_route` writes the count of a route's spans, and the spans.
use mathlib.Core.Path.{◌∙◌, ap}
use Prim.Native.Nat.{◌+◌}
use native.Mathlib.Omega.{arith}
use Rattle.std.proofs.Common.{rules}
use Rattle.commands.specs.Bytes.{two_bytes}
use Rattle.commands.specs.Field.{span}
use Rattle.commands.proofs.Bytes.{spans_in_two_bytes}
use Rattle.routes.specs.Promise.{edge_at}
use Rattle.writing.proofs.ItemSteps.{each_number}
use Rattle.writing.proofs.RouteSteps.{route_written}
use Rattle.writing.proofs.route.put_route.Goals as goal

pub returns-clause-stored : goal.returns-clause-stored
returns-clause-stored g c =
    let at = edge_at (g.T.Readable.shape c.args.t.now) (g.T.Readable.words c.args.t.now) c.args.route in
    c.put_items.ensures.stored (λ i. two_bytes (at i)) (λ i h x given. ap two_bytes (search rules))
    ∙ rw (each_number span spans_in_two_bytes at c.args.count, c.put_two.ensures)
    (route_written c.args.out.now c.args.from (c.args.from + 2) c.args.count at (omega arith))
