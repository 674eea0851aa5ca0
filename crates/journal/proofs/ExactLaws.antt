-- The entry that forecasts to the byte: its three numbers and the table are those of the forecast, by a run without answers.
use mathlib.Core.List.{List, ◌++◌}
use mathlib.Core.Option.{Option, none, some}
use mathlib.Core.Path.{◌≡◌, refl, sym, ◌∙◌, ap}
use Prim.Native.Nat.{ℕ, ◌<◌, min}
use native.Mathlib.Omega.{arith}
use lib.ListN.{length, drop, replicate}
use Rattle.commands.specs.Refusal.{Refusal, refusal_number, Capacities}
use Rattle.commands.specs.Run.{Run, bytes_of_answers, place_after}
use Rattle.commands.specs.Entry.{ran, whole_unless, work_needed, number_of, report_of, outcome}
use Rattle.commands.specs.Register.{register_rule, register_routes, ample_run}
use Rattle.commands.specs.Forecast.{no_forecast}
use Rattle.commands.specs.Forecast as Paper
use Rattle.commands.specs.Exact.{exact_run, exact_of, exact_forecast, exact_work}
use Rattle.commands.proofs.Place.{journal_is_read_whole}
use Rattle.commands.proofs.Table.{number_above_zero}
use Rattle.numbers.specs.declared.Limits.{Limits}
use Rattle.run.specs.declared.Progress.{Progress}
use Rattle.run.specs.Promise.{capacities_of, six_numbers, UnansweredPromise}
use Rattle.run.proofs.Needed.{cleared_over}
use Rattle.journal.specs.Promise.{ExactPromise}
use Rattle.journal.specs.Inside.Counted.{told_of, Counts}
use Rattle.std.specs.Prelude.{OnOk, Err}
use Rattle.std.specs.Prelude as P
use Rattle.refusals.specs.declared.Refusal as R
use Rattle.refusals.specs.declared.RefusedAt.{RefusedAt}
use Rattle.refusals.specs.Causes.{cause_of, causes_of}
use Rattle.forecast.specs.Promise.{foretold}
use Rattle.journal.specs.Inside.Start.{StartsWith, StartRefused}
use Rattle.journal.proofs.EntryLaws.{first_line, starts_begin}
use Rattle.journal.proofs.ForecastLaws.{end_fits}
use Rattle.journal.proofs.ExactRoom.{exact_to_the_byte, exact_refused_alike, exact_no_longer, exact_before}

-- What is told of a run that reports so is its refusal and the place, or, where it has read the whole journal, how many bytes its answers have.
told_exactly : (end : ℕ) (run : Run) (p : Progress) → six_numbers p ≡ report_of register_rule run
    → (run.refusal ≡ none → place_after run.accepted ≡ end)
    → foretold end (told_of p) ≡ exact_of end (ran run)
unfolding foretold told_of exact_of six_numbers report_of number_of no_forecast
told_exactly end run p numbers read = go run.refusal p.refusal refl refl
  where
    refusal_is : number_of (causes_of p.refusal) ≡ number_of run.refusal
    refusal_is = cc numbers

    place_is : p.place ≡ place_after run.accepted
    place_is = cc numbers

    go : (o : Option Refusal) (q : P.Option R.Refusal) → run.refusal ≡ o → p.refusal ≡ q → foretold end (told_of p) ≡ exact_of end (ran run)
    go none P.None d e =
        let written : p.written ≡ length (bytes_of_answers run.accepted) = cc numbers in
        rw (d, e, written)
    go (some r) (P.Some s) d e =
        let number : refusal_number (cause_of s) ≡ refusal_number r = rw (d, e) at refusal_is in
        rw (d, e, number, place_is)
    go none (P.Some s) d e =
        let number : refusal_number (cause_of s) ≡ 0 = rw (d, e) at refusal_is in
        absurd (omega (arith, number_above_zero (cause_of s)))
    go (some r) P.None d e =
        let number : 0 ≡ refusal_number r = rw (d, e) at refusal_is in
        absurd (omega (arith, number_above_zero r))

-- a run with ample room that is not refused has read the whole journal
read_whole : (caps : Capacities) (journal : List ℕ) → (ample_run register_routes caps journal).refusal ≡ none
    → place_after (ample_run register_routes caps journal).accepted ≡ length journal
unfolding ample_run
read_whole caps journal = journal_is_read_whole register_routes caps _ journal

-- A start that is refused is told with place 0, and the table is as it was.
pub counts_at_start : (caps : Capacities) (journal work : List ℕ) {refusal : R.Refusal} → StartRefused caps (length journal) (length work) 6 refusal
    → Counts caps journal (foretold (length journal) (Err (record { refusal = refusal; place = 0 }))) work work
unfolding foretold exact_forecast exact_work exact_of exact_run whole_unless outcome no_forecast
counts_at_start caps journal work started = record { told_is = rw started.applies; work_is = rw (started.applies, exact_work) }

-- Otherwise the run without answers is told, and the table cleared behind it.
pub counts_by_run : {caps : Capacities} {limits : Limits} (journal work : List ℕ) → StartsWith caps (length journal) (length work) 6 limits
    → {p : Progress} {between new : List ℕ} → UnansweredPromise limits (ample_run register_routes (capacities_of limits) journal) p work between
    → {needed : ℕ} → needed ≡ work_needed (capacities_of limits) → new ≡ replicate (min needed (length between)) 0 ++ drop needed between
    → {told : P.Result ℕ RefusedAt} → told ≡ told_of p
    → Counts caps journal (foretold (length journal) told) work new
unfolding exact_forecast exact_work exact_run whole_unless outcome
counts_by_run {limits = limits} journal work started {p = p} {between = between} w long cleared told =
    let caps = capacities_of limits in
    let none_applies : first_line caps journal (length work) 6 ≡ none = rw started.limits_are started.none_applies in
    rw (← started.limits_are)
    (record {
      told_is =
          ap (foretold (length journal)) told
          ∙ rw none_applies (told_exactly (length journal) (ample_run register_routes caps journal) p w.numbers_are (read_whole caps journal));
      work_is =
          cleared
          ∙ rw (long, none_applies, exact_work)
          (cleared_over limits work between w.same_beyond (starts_begin journal (length work) 6 started).long_work);
    })

-- so what is counted is promised
pub exact_promised : {caps : Capacities} {journal work left : List ℕ} {forecast : Paper.Forecast} → Counts caps journal forecast work left
    → {number place room : ℕ} → record { number = number; place = place; length = room } ≡ forecast
    → ExactPromise caps journal work number place room left
exact_promised {caps = caps} {journal = journal} {work = work} w {number = number} {place = place} {room = room} told_as =
    record {
      returned_is = returned;
      place_is = at;
      length_is = told;
      work_is = w.work_is;
      to_the_byte = λ accepted lent long. rw told (exact_to_the_byte caps journal (length work) (sym returned ∙ accepted) lent long);
      no_longer = λ accepted. rw told (exact_no_longer caps journal (length work) (sym returned ∙ accepted));
      refused_alike = λ refused not_two.
          rw (returned, at) (exact_refused_alike caps journal (length work) (λ e. not_two (returned ∙ e)));
      room_before = λ beyond.
          let before = exact_before caps journal (length work) (rw returned at beyond) in
          rw at (ap (λ (f : Paper.Forecast). f.number) before.0, before.1);
    }
  where
    returned : number ≡ (exact_forecast caps journal (length work)).number
    returned = ap (λ (f : Paper.Forecast). f.number) (told_as ∙ w.told_is)

    at : place ≡ (exact_forecast caps journal (length work)).place
    at = ap (λ (f : Paper.Forecast). f.place) (told_as ∙ w.told_is)

    told : room ≡ (exact_forecast caps journal (length work)).length
    told = ap (λ (f : Paper.Forecast). f.length) (told_as ∙ w.told_is)

-- what is counted is of a journal that the forecast accepts
pub counted_fits : {caps : Capacities} {journal work left : List ℕ} (told : P.Result ℕ RefusedAt)
    → Counts caps journal (foretold (length journal) told) work left → OnOk told (length journal < 4294967296)
counted_fits {caps} {journal} {work} told w =
    end_fits journal told (λ accepted. (exact_no_longer caps journal (length work) (sym (ap (λ (f : Paper.Forecast). f.number) w.told_is) ∙ accepted)).0)
