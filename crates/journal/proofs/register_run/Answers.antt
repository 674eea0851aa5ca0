-- `register_run` leaves what the register leaves: a start refusal, or the run with the table cleared behind it and the report filled.
use native.Mathlib.Omega.{arith}
use lib.ListN.{length}
use Rattle.commands.proofs.Bytes.{bytes_by_place}
use Rattle.journal.proofs.EntryLaws.{promised_at_start, run_asks, starts_begin, promised_by_run}
use Rattle.journal.proofs.register_run.Goals as goal

pub returns-in-Err : goal.returns-in-Err
returns-in-Err c =
    promised_at_start
    (record { cabinets = c.args.c; spans = c.args.s })
    c.args.journal.now
    (bytes_by_place c.args.journal.now (λ i h. omega (arith, c.type_inv.journal i)))
    (record { work = c.args.work.now; answers = c.args.answers.now; report = c.args.report.now })
    c.in-Err.ensures
    c.into.ensures

pub run-p-requires : goal.run-p-requires
run-p-requires c =
    run_asks _ (starts_begin c.args.journal.now (length c.args.work.now) (length c.args.report.now) c.in-Ok.ensures)

pub fill_report-requires : goal.fill_report-requires
fill_report-requires c =
    let run = c.run-p.ensures in
    record {
      long = (starts_begin c.args.journal.now (length c.args.work.now) (length c.args.report.now) c.in-Ok.ensures).long_report;
      place_fits = run.place_fits;
      written_fits = run.written_fits;
    }

pub returns : goal.returns
returns c =
    promised_by_run
    c.args.journal.now
    (bytes_by_place c.args.journal.now (λ i h. omega (arith, c.type_inv.journal i)))
    (record { work = c.args.work.now; answers = c.args.answers.now; report = c.args.report.now })
    c.in-Ok.ensures
    c.run-p.ensures
    c.work_needed.ensures
    c.clear.ensures
    c.fill_report.ensures
    c.number_of.ensures
