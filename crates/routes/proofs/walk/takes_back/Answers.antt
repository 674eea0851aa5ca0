-- `walk::takes_back` tells whether a way that is written down goes along a used edge.
use Prim.Native.Nat.{◌≤◌, ◌<◌}
use native.Mathlib.Omega.{arith}
use Rattle.std.proofs.Common.{rules, tests, refl}
use Rattle.std.proofs.lemmas.Iterator.{cases_from_any, YieldsList-from_range}
use Rattle.routes.specs.Promise.{edge_at}
use Rattle.routes.specs.Inside.Frame.{column_of}
use Rattle.routes.proofs.WalksBack.{any_told, bits_at}
use Rattle.routes.proofs.walk.takes_back.Goals as goal

pub returns : goal.returns
unfolding edge_at
returns c =
    let bits = bits_at c.args.t.now.shape (column_of c.args.route) c.args.t.now.words.now in
    any_told _ _ _ c.args.count c.any.result
    (cases_from_any _ _ _ (λ i. 2 ≤ bits i) (λ i. bits i < 2) c.any.ensures.ran (YieldsList-from_range 0 c.args.count c.args.count refl (omega arith))
    (λ x q k. search (rules, tests)) (λ x q k. search (rules, tests)))
