use mathlib.Core.Path.{◌≡◌}
use Rattle.graph.specs.Below.{count}
use Rattle.commands.specs.Exchange.{ring_holds_exchange}
use Rattle.forest.specs.Promise.{state_of}
use Rattle.step.proofs.exchange.with_exchange.Given as goal

abbrev pub invariant-loop-i : goal.invariant-loop-i
invariant-loop-i l = l.found ≡ count l.i (ring_holds_exchange (state_of l.n.table.shape l.n.table.words.now))
