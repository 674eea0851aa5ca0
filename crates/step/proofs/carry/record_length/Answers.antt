-- `carry::record_length` records a length of a span.
use Rattle.step.proofs.Carries.{same_in, survey_carried}
use Rattle.step.proofs.carry.record_length.Goals as goal

pub returns : goal.returns
returns c = same_in (survey_carried c.enter_survey.ensures.entered) c.enter_survey.ensures.same
