-- `count_both` refuses a table that is too short, and else runs both journals and clears it behind them.
use mathlib.Core.Path.{refl, ◌∙◌, ap}
use native.Mathlib.Omega.{arith}
use lib.ListN.{length}
use Rattle.std.proofs.Common.{Err}
use Rattle.std.proofs.lemmas.Result.{err_from_is_err_and}
use Rattle.joining.specs.Inside.Alone.{greatest, both_of}
use Rattle.joining.proofs.RunAlone.{work_enough, counted_short, counted_both}
use Rattle.joining.proofs.alone.count_both.Goals as goal

pub returns-then-work-needed : goal.returns-then-work-needed
unfolding greatest
returns-then-work-needed c =
    counted_short c.args.first.now c.args.second.now c.args.work.now c.work_needed-needed.ensures (omega (arith, c.if-work-needed.true))

pub run_alone-one-requires : goal.run_alone-one-requires
unfolding greatest
run_alone-one-requires c =
    work_enough c.work_needed-needed.result (length c.args.work.now) c.work_needed-needed.ensures (omega (arith, c.if-work-needed.false))

pub run_alone-two-requires : goal.run_alone-two-requires
unfolding greatest
run_alone-two-requires c =
    work_enough
    c.work_needed-needed.result
    (length c.run_alone-one.new.work)
    c.work_needed-needed.ensures
    (omega (arith, c.if-work-needed.false, c.run_alone-one.ensures.1.as_long))

pub returns-in_err-one : goal.returns-in_err-one
unfolding greatest both_of
returns-in_err-one c =
    let p = err_from_is_err_and c.from_residual.result c.from_residual.ensures.1 in
    counted_both
    c.args.first.now
    c.args.second.now
    c.args.work.now
    c.work_needed-needed.ensures
    (omega (arith, c.if-work-needed.false))
    c.run_alone-one.ensures
    c.run_alone-two.ensures
    c.clear.ensures
    (omega arith)
    (p.1 ∙ ap Err p.2 ∙ rw c.in_err-one.was refl)

pub returns-in_err-two : goal.returns-in_err-two
unfolding greatest both_of
returns-in_err-two c =
    let p = err_from_is_err_and c.from_residual-in_err-two.result c.from_residual-in_err-two.ensures.1 in
    counted_both
    c.args.first.now
    c.args.second.now
    c.args.work.now
    c.work_needed-needed.ensures
    (omega (arith, c.if-work-needed.false))
    c.run_alone-one.ensures
    c.run_alone-two.ensures
    c.clear.ensures
    (omega arith)
    (p.1 ∙ ap Err p.2 ∙ rw (c.in_ok-one.was, c.in_err-two.was) refl)

pub returns : goal.returns
unfolding greatest both_of
returns c =
    counted_both
    c.args.first.now
    c.args.second.now
    c.args.work.now
    c.work_needed-needed.ensures
    (omega (arith, c.if-work-needed.false))
    c.run_alone-one.ensures
    c.run_alone-two.ensures
    c.clear.ensures
    (omega arith)
    (rw (c.in_ok-one.was, c.in_ok-two.was) refl)
