-- `exchange::ring_holds_exchange` finds whether a cabinet's ring holds an exchange.
use mathlib.Core.Path.{sym}
use Rattle.commands.proofs.Exchange.{holds_exchange_counted}
use Rattle.forest.specs.Promise.{state_of}
use Rattle.step.proofs.exchange.ring_holds_exchange.Goals as goal

pub returns : goal.returns
returns c = rw c.marks_with.ensures (sym (holds_exchange_counted (state_of c.args.n.now.table.shape c.args.n.now.table.words.now) c.args.a.0))
