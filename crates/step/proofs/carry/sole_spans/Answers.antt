-- `carry::sole_spans` lists the sole spans between two cabinets.
use Rattle.step.proofs.Carries.{same_in, sole_spans_carried}
use Rattle.step.specs.Promise.{item_at}
use Rattle.step.proofs.carry.sole_spans.Goals as goal

pub returns : goal.returns
unfolding item_at
returns c = same_in (sole_spans_carried c.bridges_between-count.ensures.written) c.bridges_between-count.ensures.same
