-- `carry::look_up` finds a cabinet's district, or its ring, by name and size.
use Rattle.step.proofs.Carries.{asked_in, group_carried}
use Rattle.step.proofs.carry.look_up.Goals as goal

pub returns : goal.returns
returns c = asked_in (group_carried _ _ c.args.n.now.holds c.group_of.ensures.name c.group_of.ensures.size)
