-- `count_answers` tells a start refusal, or the run without answers, with the table cleared behind it.
use Rattle.std.proofs.lemmas.Result.{err_from_is_err_and}
use lib.ListN.{length}
use Rattle.journal.proofs.EntryLaws.{run_asks, starts_begin}
use Rattle.journal.proofs.ExactLaws.{counts_at_start, counts_by_run}
use Rattle.journal.proofs.count_answers.Goals as goal

pub returns-in_err-limits : goal.returns-in_err-limits
returns-in_err-limits c =
    let p = err_from_is_err_and c.from_residual.result c.from_residual.ensures.1 in
    rw (p.1, p.2) (counts_at_start (record { cabinets = c.args.c; spans = c.args.s }) c.args.journal.now c.args.work.now c.in_err-limits.ensures)

pub run_unanswered-p-requires : goal.run_unanswered-p-requires
run_unanswered-p-requires c =
    run_asks _ (starts_begin c.args.journal.now (length c.args.work.now) 6 c.in_ok-limits.ensures)

pub told_of-requires : goal.told_of-requires
told_of-requires c =
    let ran = c.run_unanswered-p.ensures in
    (ran.place_fits, ran.written_fits)

pub returns : goal.returns
returns c =
    counts_by_run
    c.args.journal.now
    c.args.work.now
    c.in_ok-limits.ensures
    c.run_unanswered-p.ensures
    c.work_needed.ensures
    c.clear.ensures
    c.told_of.ensures
