-- `exchange::with_exchange` counts the cabinets whose ring holds an exchange. The loop's invariant: those below i are counted.
use mathlib.Core.Path.{refl}
use Prim.Native.Nat.{◌+◌}
use native.Mathlib.Omega.{arith}
use Rattle.graph.specs.Below.{count}
use Rattle.naming.proofs.Count.{count_at_most}
use Rattle.step.proofs.Exchanges.{counted_next, all_counted}
use Rattle.step.proofs.exchange.with_exchange.Goals as goal

pub loop-i-init : goal.loop-i-init
unfolding count
loop-i-init c = refl

pub overflow_add-found : goal.overflow_add-found
overflow_add-found c =
    record {
      fits = omega (
        arith,
        counted_next _ _ _ _ c.loop-i.invariant c.ring_holds_exchange-held.ensures,
        count_at_most (c.loop-i.i + 1),
      );
    }

pub loop-i-preserved : goal.loop-i-preserved
loop-i-preserved c = rw c.from-found.ensures (counted_next _ _ _ _ c.loop-i.invariant c.ring_holds_exchange-held.ensures)

pub returns : goal.returns
returns c = all_counted _ _ _ _ (omega arith) c.loop-i.invariant
