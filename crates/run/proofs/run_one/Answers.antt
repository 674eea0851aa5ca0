-- `run_one` takes what stands at the run's place: it is refused as unread, or handed on.
use mathlib.Core.Path.{sym}
use Rattle.std.proofs.lemmas.Result.{err_from_is_err_and}
use Rattle.reading.specs.Inside.Reads.{reading_of}
use Rattle.run.specs.Inside.Further.{unread_on}
use Rattle.run.proofs.run_one.Goals as goal

pub returns-in_err-taken-clause-goes_on : goal.returns-in_err-taken-clause-goes_on
returns-in_err-taken-clause-goes_on g c =
    let p = err_from_is_err_and c.from_residual.result c.from_residual.ensures.1 in
    rw (p.1, p.2) (unread_on c.requires g.met.A.Answers.ends _ (rw (c.new.ensures.0, c.new.ensures.1) at (sym c.in_err-taken.ensures)))

pub run_order-requires : goal.run_order-requires
unfolding reading_of
run_order-requires g c = record { underway = c.requires; reads = rw (c.new.ensures.0, c.new.ensures.1, reading_of) at (sym c.in_ok-taken.ensures) }
