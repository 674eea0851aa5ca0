-- `run_from` takes one command after another. The loop's invariant: what is left of the run comes to what all of it was to come to. The measure
-- is what is left of the journal.
use mathlib.Core.Path.{refl, ◌∙◌}
use native.Mathlib.Omega.{arith}
use Rattle.run.proofs.Whole.{starts, underway, step_on, ends_whole}
use Rattle.run.proofs.run_from.Goals as goal

pub loop-pace-init : goal.loop-pace-init
loop-pace-init g c = record { so_far = starts _ _ _ c.requires.1; same = g.met.A.Answers.is_same _ }

pub run_one-requires : goal.run_one-requires
run_one-requires g c = underway c.loop-pace.invariant.so_far c.requires.0 c.loop-pace-test.true

pub loop-pace-preserved : goal.loop-pace-preserved
loop-pace-preserved g c =
    record {
      so_far = step_on c.loop-pace.invariant.so_far c.in-Ok.ensures.goes_on;
      same = g.met.A.Answers.still_same _ _ _ c.loop-pace.invariant.same c.in-Ok.ensures.same;
    }

pub returns-in-Err-clause-has_come : goal.returns-in-Err-clause-has_come
returns-in-Err-clause-has_come g c = rw c.end.ensures (c.in-Err.ensures.goes_on ∙ c.loop-pace.invariant.so_far.will)

pub returns-in-Err-clause-same : goal.returns-in-Err-clause-same
returns-in-Err-clause-same g c = g.met.A.Answers.still_same _ _ _ c.loop-pace.invariant.same c.in-Err.ensures.same

pub returns-clause-has_come : goal.returns-clause-has_come
returns-clause-has_come g c =
    rw c.end-2.ensures (ends_whole c.loop-pace.invariant.so_far g.met.A.Answers.ends refl (omega (arith, c.loop-pace-test.false)))

pub returns-clause-same : goal.returns-clause-same
returns-clause-same g c = c.loop-pace.invariant.same
