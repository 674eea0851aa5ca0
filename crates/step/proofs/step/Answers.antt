-- `step` refuses a command for the first cause that is there, or carries it out.
use mathlib.Core.Path.{refl, sym, ◌∙◌}
use Rattle.std.proofs.lemmas.Result.{err_from_is_err_and}
use Rattle.step.proofs.Judgements.{judgement_passes}
use Rattle.step.proofs.Steps.{refused_step, done_step}
use Rattle.step.proofs.step.Goals as goal

pub returns-in_err-judge-clause-stepped : goal.returns-in_err-judge-clause-stepped
returns-in_err-judge-clause-stepped c =
    let p = err_from_is_err_and c.from_residual.result c.from_residual.ensures.1 in
    rw (p.1, p.2) (refused_step _ _ _ (sym c.in_err-judge.was ∙ c.judge.ensures))

pub returns-in_err-judge-clause-shape : goal.returns-in_err-judge-clause-shape
returns-in_err-judge-clause-shape c =
    let p = err_from_is_err_and c.from_residual.result c.from_residual.ensures.1 in
    rw p.1 refl

pub carry_out-requires : goal.carry_out-requires
carry_out-requires c = judgement_passes _ _ _ (sym c.judge.ensures ∙ c.in_ok-judge.was)

pub returns-clause-stepped : goal.returns-clause-stepped
returns-clause-stepped c = done_step _ _ _ (sym c.judge.ensures ∙ c.in_ok-judge.was) c.carry_out.ensures.carried
