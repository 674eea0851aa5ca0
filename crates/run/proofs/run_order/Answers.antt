-- `run_order` hands the command to the step, and its reply to what takes the answers.
use native.Mathlib.Omega.{arith}
use Rattle.std.proofs.lemmas.Result.{err_from_is_err_and}
use Rattle.commands.proofs.TextAt.{operands_stand}
use Rattle.reading.specs.Inside.Reads.{meaning}
use Rattle.run.specs.Inside.Further.{step_refused_on, at_pace}
use Rattle.run.proofs.run_order.Goals as goal

pub further-place-requires : goal.further-place-requires
further-place-requires g c =
    rw
    (c.new.ensures.0, c.new.ensures.1)
    (operands_stand
    c.args.journal.now
    c.args.pace.place
    c.requires.underway.at_command
    (meaning c.args.order)
    c.args.width
    c.requires.reads)

pub returns-in_err-reply-clause-goes_on : goal.returns-in_err-reply-clause-goes_on
returns-in_err-reply-clause-goes_on g c =
    let p = err_from_is_err_and c.from_residual.result c.from_residual.ensures.1 in
    rw (p.1, p.2) (step_refused_on c.requires.underway g.met.A.Answers.ends c.requires.reads c.in_err-reply.ensures.stepped)

pub take-requires : goal.take-requires
take-requires g c = g.met.A.Answers.can _ _ _ _ _ _ _ _ c.requires c.in_ok-reply.ensures.stepped

pub returns-in_err-written-clause-goes_on : goal.returns-in_err-written-clause-goes_on
returns-in_err-written-clause-goes_on g c =
    let p = err_from_is_err_and c.from_residual-in_err-written.result c.from_residual-in_err-written.ensures.1 in
    rw (p.1, p.2)
    (rw c.in_err-written.was at (g.met.A.Answers.goes_on _ _ _ _ _ _ _ _ _ _ c.requires c.in_ok-reply.ensures.stepped (rw c.in_ok-reply.ensures.shape at c.take.ensures)))

pub returns-clause-goes_on : goal.returns-clause-goes_on
returns-clause-goes_on g c =
    at_pace c.in_ok-reply.ensures.shape (omega (arith, c.further-place.ensures.1, c.new.ensures.1)) (omega arith)
    (rw c.in_ok-written.was at (g.met.A.Answers.goes_on _ _ _ _ _ _ _ _ _ _ c.requires c.in_ok-reply.ensures.stepped (rw c.in_ok-reply.ensures.shape at c.take.ensures)))
