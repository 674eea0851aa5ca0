-- `carry::routes_between` finds two routes between two cabinets.
use Rattle.step.proofs.Carries.{same_in, routes_carried}
use Rattle.step.proofs.carry.routes_between.Goals as goal

pub returns : goal.returns
returns c = same_in (routes_carried c.find.ensures.found) c.find.ensures.same
