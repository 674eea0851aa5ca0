-- `carry::is_sole` finds whether a span is sole between its ends.
use Rattle.step.proofs.Carries.{asked_in, sole_carried}
use Rattle.step.proofs.carry.is_sole.Goals as goal

pub returns : goal.returns
returns c = asked_in (sole_carried c.args.n.now.holds c.is_bridge.ensures)
