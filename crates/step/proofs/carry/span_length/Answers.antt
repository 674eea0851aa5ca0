-- `carry::span_length` finds the length of a span.
use Rattle.step.proofs.Carries.{asked_in, length_carried}
use Rattle.step.proofs.carry.span_length.Goals as goal

pub returns : goal.returns
returns c = asked_in (length_carried c.args.n.now.holds c.length_of.ensures)
