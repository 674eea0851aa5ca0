-- `carry::holds_exchange` finds whether a cabinet's ring holds an exchange.
use Rattle.step.proofs.Carries.{asked_in, held_carried}
use Rattle.step.proofs.carry.holds_exchange.Goals as goal

pub returns : goal.returns
returns c = asked_in (held_carried c.args.n.now.holds c.ring_holds_exchange.ensures)
