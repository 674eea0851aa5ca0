-- `carry::mark_exchange` marks a cabinet as an exchange.
use Rattle.step.proofs.Carries.{same_in, mark_carried}
use Rattle.step.proofs.carry.mark_exchange.Goals as goal

pub returns : goal.returns
returns c = same_in (mark_carried c.mark.ensures.marked) c.mark.ensures.same
