-- The entry in code: refused at the start, or run, cleared and reported, it leaves what the register leaves.
use mathlib.Core.Bool.{true}
use mathlib.Core.List.{List, [], ◌++◌}
use mathlib.Core.Option.{Option, none}
use mathlib.Core.Path.{◌≡◌, sym, ◌∙◌, ap}
use Prim.Native.Nat.{ℕ, ◌≤◌, min}
use native.Mathlib.Omega.{arith}
use lib.Dec.{ltb}
use lib.ListN.{length, drop, replicate}
use Rattle.graph.proofs.Truth.{ltb_ge, or_neither_left, or_neither_right}
use Rattle.commands.specs.Bytes.{all_bytes}
use Rattle.commands.specs.Refusal.{Refusal, refusal_number, Capacities, first_that_applies}
use Rattle.commands.specs.Entry.{work_needed, short_buffers, start_lines, ran, whole_unless, whole_run, number_of, report_of, over, Buffers, Outcome, outcome, entry_under}
use Rattle.commands.specs.Register.{register_rule, register_routes, register}
use Rattle.commands.proofs.Start.{good_exactly, ran_exactly}
use Rattle.commands.proofs.WholeRun.{register_serves, register-whole_run}
use Rattle.numbers.specs.declared.Limits.{Limits}
use Rattle.forest.specs.Promise.{words_needed}
use Rattle.run.specs.declared.Progress.{Progress}
use Rattle.run.specs.Promise.{capacities_of, whole_of, six_numbers, RunPromise}
use Rattle.run.proofs.Needed.{work_is_words, cleared_over}
use Rattle.refusals.specs.declared.Refusal as R
use Rattle.refusals.specs.Causes.{cause_of, causes_of}
use Rattle.journal.specs.Inside.Start.{StartsWith, StartRefused}
use Rattle.journal.specs.Promise.{RegisterPromise}

-- what the register leaves is promised
promised : (caps : Capacities) (journal : List ℕ) → all_bytes journal ≡ true → (lent : Buffers) (returned : ℕ) (left : Buffers)
    → register caps journal lent ≡ record { returned = returned; buffers = left } → RegisterPromise caps journal lent returned left
promised caps journal are lent returned left e =
    record {
      returned_is = sym (ap (λ (o : Outcome). o.returned) e);
      work_is = sym (ap (λ (o : Outcome). o.buffers.work) e);
      answers_are = sym answers;
      report_is = sym (ap (λ (o : Outcome). o.buffers.report) e);
      whole_run_lem = rw answers at (register-whole_run caps journal are lent);
      serves = register_serves;
    }
  where
    answers : (register caps journal lent).buffers.answers ≡ left.answers
    answers = ap (λ (o : Outcome). o.buffers.answers) e

-- A start that is not refused.
pub record Begins (caps : Capacities) (journal_length work_length report_length : ℕ) : Type 0 where
  pub few_cabinets : caps.cabinets ≤ 4096
  pub few_spans : caps.spans ≤ 8192
  pub long_work : work_needed caps ≤ work_length
  pub long_report : 6 ≤ report_length
  pub short_journal : journal_length ≤ 65536

-- so what a run asks for is there
pub run_asks : (limits : Limits) {journal_length work_length report_length : ℕ} → Begins (capacities_of limits) journal_length work_length report_length
    → (limits.vertices ≤ 4096) × (limits.edges ≤ 8192) × (words_needed limits ≤ work_length) × (journal_length ≤ 65536)
unfolding capacities_of
run_asks limits b = (b.few_cabinets, b.few_spans, omega (arith, b.long_work, work_is_words limits), b.short_journal)

-- A journal, and the lengths of a working table and of a report.
module _ (caps : Capacities) (journal : List ℕ) (work_length report_length : ℕ) where
  -- the refusal at the start
  abbrev pub first_line : Option Refusal
  first_line = first_that_applies (start_lines caps (length journal) work_length report_length)

  -- where there is none the journal is run, within any answer buffer
  ran_whole : (answers : List ℕ) → first_line ≡ none
      → whole_run register_rule register_routes caps journal work_length (length answers) report_length ≡ ran (whole_of caps journal answers)
  unfolding whole_run whole_unless
  ran_whole answers e = rw e

  -- and the capacities and lengths are those that a run asks for
  pub begins : first_line ≡ none → Begins caps (length journal) work_length report_length
  unfolding short_buffers
  begins e =
      let well = (ran_exactly register_rule register_routes caps journal work_length 0 report_length).0 (ran_whole [] e) in
      let range = (good_exactly caps).0 well.good_capacities_lem in
      let work_short = ltb work_length (work_needed caps) in
      let report_short = ltb report_length 6 in
      record {
        few_cabinets = range.few_cabinets;
        few_spans = range.few_spans;
        long_work = ltb_ge _ _ (or_neither_left work_short report_short well.long_buffers);
        long_report = ltb_ge _ _ (or_neither_right work_short report_short well.long_buffers);
        short_journal = ltb_ge _ _ well.short_journal;
      }

-- so they are where a call starts with these limits
pub starts_begin : {caps : Capacities} {limits : Limits} (journal : List ℕ) (work_length report_length : ℕ)
    → StartsWith caps (length journal) work_length report_length limits → Begins (capacities_of limits) (length journal) work_length report_length
starts_begin {caps} journal work_length report_length started =
    rw started.limits_are (begins caps journal work_length report_length started.none_applies)

-- a refusal at the start leaves the buffers as they were lent
pub promised_at_start : (caps : Capacities) (journal : List ℕ) → all_bytes journal ≡ true → (lent : Buffers) {refusal : R.Refusal}
    → StartRefused caps (length journal) (length lent.work) (length lent.report) refusal → {number : ℕ} → number ≡ refusal_number (cause_of refusal)
    → RegisterPromise caps journal lent number lent
unfolding register entry_under whole_run whole_unless outcome
promised_at_start caps journal are lent started {number} e = promised caps journal are lent number lent (rw (started.applies, e))

-- a run that was cleared behind and reported leaves what the register leaves
pub promised_by_run : {caps : Capacities} {limits : Limits} (journal : List ℕ) → all_bytes journal ≡ true → (lent : Buffers)
    → StartsWith caps (length journal) (length lent.work) (length lent.report) limits
    → {p : Progress} {work new_work new_answers report : List ℕ}
    → RunPromise limits (whole_of (capacities_of limits) journal lent.answers) p lent.work work lent.answers new_answers
    → {needed : ℕ} → needed ≡ work_needed (capacities_of limits) → new_work ≡ replicate (min needed (length work)) 0 ++ drop needed work
    → report ≡ over (six_numbers p) lent.report
    → {number : ℕ} → number ≡ number_of (causes_of p.refusal)
    → RegisterPromise caps journal lent number (record { work = new_work; answers = new_answers; report = report })
unfolding register entry_under outcome report_of six_numbers
promised_by_run {caps} {limits} journal are lent started {p} {work} {new_work} {new_answers} {report} w long worked reported {number} told =
    let whole = whole_of (capacities_of limits) journal lent.answers in
    let refusal_is : number ≡ number_of whole.refusal = told ∙ cc w.numbers_are in
    let begun = starts_begin journal (length lent.work) (length lent.report) started in
    rw (← started.limits_are)
    (promised (capacities_of limits) journal are lent number (record { work = new_work; answers = new_answers; report = report })
    (rw (
      ran_whole (capacities_of limits) journal (length lent.work) (length lent.report) lent.answers (rw started.limits_are started.none_applies),
      worked,
      long,
      cleared_over limits lent.work work w.same_beyond begun.long_work,
      w.answers_are,
      reported,
      w.numbers_are,
      refusal_is,
    )))
