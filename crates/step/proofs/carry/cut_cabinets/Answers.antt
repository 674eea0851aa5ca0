-- `carry::cut_cabinets` lists the cut cabinets between two cabinets.
use Rattle.step.proofs.Carries.{same_in, cut_cabinets_carried}
use Rattle.step.specs.Promise.{item_at}
use Rattle.step.proofs.carry.cut_cabinets.Goals as goal

pub returns : goal.returns
unfolding item_at
returns c = same_in (cut_cabinets_carried c.cuts_between-count.ensures.written) c.cuts_between-count.ensures.same
