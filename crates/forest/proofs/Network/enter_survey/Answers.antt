-- `enter_survey` keeps what agrees with the list of surveys and this one.
use Rattle.std.proofs.Common.{arith}
use Rattle.forest.proofs.Operations.{enters_survey}
use Rattle.forest.proofs.Network.enter_survey.Goals as goal

pub invariant_of-self : goal.invariant_of-self
invariant_of-self c = record { holds = rw (c.keep_survey.ensures.same.shape) (enters_survey _ _ c.args.self.now.holds _ _ _ _ c.requires (omega (arith, c.well_formed)) c.keep_survey.ensures.words).holds }

pub returns-clause-entered : goal.returns-clause-entered
returns-clause-entered c = enters_survey _ _ c.args.self.now.holds _ _ _ _ c.requires (omega (arith, c.well_formed)) c.keep_survey.ensures.words
