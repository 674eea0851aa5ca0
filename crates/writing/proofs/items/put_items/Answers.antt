-- `items::put_items` stores items one behind another. The loop's invariant: the first i of them are stored, and the next one goes behind them.
use mathlib.Core.Path.{◌≡◌, refl, ◌∙◌}
use Prim.Native.Nat.{◌+◌, ◌≤◌}
use native.Mathlib.Nat.{mul-le-mul_left}
use native.Mathlib.Omega.{arith}
use Rattle.writing.proofs.ItemSteps.{items_first, items_next}
use Rattle.writing.proofs.items.put_items.Goals as goal

pub loop-i-init : goal.loop-i-init
loop-i-init g c = record { place = omega arith; as_long = refl; stored = λ f given. items_first f _ _ _ }

pub put-requires : goal.put-requires
put-requires g c =
    let now = c.loop-i in
    omega (arith, now.invariant.place, now.invariant.as_long, c.requires.room, mul-le-mul_left g.T.Item.WIDTH (let h : now.i + 1 ≤ c.args.count = omega arith in h))

pub loop-i-preserved : goal.loop-i-preserved
loop-i-preserved g c =
    let now = c.loop-i in
    record {
      place = omega (arith, now.invariant.place, c.WIDTH-next.ensures);
      as_long = c.put.auto.out ∙ now.invariant.as_long;
      stored = λ f given.
          items_next f (now.invariant.stored f given) now.invariant.place
          (given now.i (omega arith) _ c.item.ensures) (g.met.T.Item.counted c.item.result) c.put.ensures;
    }

pub returns-clause-stored : goal.returns-clause-stored
returns-clause-stored g c = λ f given.
    let e : c.loop-i.i ≡ c.args.count = omega arith in
    rw e at (c.loop-i.invariant.stored f given).stored
