-- `read::take_at` reads what stands at a place of the journal.
use native.Mathlib.Omega.{arith}
use lib.ListN.{get_or}
use Rattle.std.proofs.lemmas.Result.{err_from_is_err_and}
use Rattle.reading.specs.Inside.Reads.{OneOperand, TwoOperands, ThreeOperands, reading_of}
use Rattle.reading.proofs.ReadSteps.{width_one, width_two, width_three, operands_cut, operands_read}
use Rattle.reading.proofs.read.take_at.Goals as goal

pub returns-in_err-read-in-3-to-4 : goal.returns-in_err-read-in-3-to-4
returns-in_err-read-in-3-to-4 c =
    let byte = get_or c.args.journal.now c.args.at 0 in
    let k : OneOperand byte = grind arith in
    let p = err_from_is_err_and c.from_residual-in_err-read-in-3-to-4.result c.from_residual-in_err-read-in-3-to-4.ensures.1 in
    rw (p.1, p.2) (operands_cut byte 1 _ _ (width_one byte k) c.in_err-read-in-3-to-4.ensures)

pub returns-in_err-read-in-2 : goal.returns-in_err-read-in-2
returns-in_err-read-in-2 c =
    let byte = get_or c.args.journal.now c.args.at 0 in
    let k : TwoOperands byte = grind arith in
    let p = err_from_is_err_and c.from_residual-in_err-read-in-2.result c.from_residual-in_err-read-in-2.ensures.1 in
    rw (p.1, p.2) (operands_cut byte 2 _ _ (width_two byte k) c.in_err-read-in-2.ensures)

pub returns-in_err-read-in-11 : goal.returns-in_err-read-in-11
returns-in_err-read-in-11 c =
    let byte = get_or c.args.journal.now c.args.at 0 in
    let k : ThreeOperands byte = grind arith in
    let p = err_from_is_err_and c.from_residual.result c.from_residual.ensures.1 in
    rw (p.1, p.2) (operands_cut byte 3 _ _ (width_three byte k) c.in_err-read-in-11.ensures)

pub returns-in_ok-read-in-3-to-4 : goal.returns-in_ok-read-in-3-to-4
unfolding reading_of
returns-in_ok-read-in-3-to-4 c = operands_read _ 1 _ _ _ c.in_ok-read-in-3-to-4.ensures c.one_operand.ensures

pub returns-in_ok-read-in-2 : goal.returns-in_ok-read-in-2
unfolding reading_of
returns-in_ok-read-in-2 c = operands_read _ 2 _ _ _ c.in_ok-read-in-2.ensures c.two_operands.ensures

pub returns-in_ok-read-in-11 : goal.returns-in_ok-read-in-11
unfolding reading_of
returns-in_ok-read-in-11 c = operands_read _ 3 _ _ _ c.in_ok-read-in-11.ensures c.three_operands.ensures
