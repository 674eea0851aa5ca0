-- What comes with each number of the forecast to the byte: the place, the length and the working table.
use mathlib.Core.Bool.{true, false}
use mathlib.Core.List.{List, []}
use mathlib.Core.Logic.{◌⊎◌, inl, inr, ◌≢◌}
use mathlib.Core.Option.{Option, none, some}
use mathlib.Core.Path.{◌≡◌, refl, sym, ◌∙◌, ap, subst}
use Prim.Native.Nat.{ℕ, ◌≤◌, ◌<◌}
use native.Mathlib.Omega.{arith}
use lib.Dec.{ltb}
use lib.ListN.{length, replicate}
use Rattle.graph.proofs.Truth.{true_or_false, not_both, ltb_ge}
use Rattle.naming.specs.State.{empty_state}
use Rattle.commands.specs.Refusal.{Refusal, Capacities, first_that_applies}
use Rattle.commands.specs.Run.{Run, place_after}
use Rattle.commands.specs.Entry.{work_needed, good_capacities, start_lines, Whole, refused_at_start, ran, whole_unless, whole_run, over, Buffers, outcome, entry_under}
use Rattle.commands.specs.Register.{register_rule, register_routes, register, ample_run}
use Rattle.commands.specs.Forecast.{Forecast, no_forecast}
use Rattle.commands.specs.Exact.{exact_run, exact_of, exact_forecast, exact_work}
use Rattle.commands.proofs.Cases.{le_or_gt}
use Rattle.commands.proofs.Place.{run_place_in_journal}
use Rattle.commands.proofs.Start.{start_decides, refused_or_ran}
use Rattle.commands.proofs.WholeRun.{register-mates, register_serves}
use Rattle.commands.proofs.ForecastRoom.{all_answers_fit}
use Rattle.journal.proofs.ExactForecast.{ample, needed, Starts, short_table, starts_alike, exact_one_exactly, exact_two_exactly, exact_three_exactly, exact_nought_exactly}

-- capacities, a journal and the length of the working table
module _ (caps : Capacities) (journal : List ℕ) (n : ℕ) where
  -- a forecast that is refused at the start has place 0 and length 0
  pub exact_of_start : {r : Refusal} → exact_run caps journal n ≡ refused_at_start r → exact_forecast caps journal n ≡ no_forecast r 0
  unfolding exact_forecast exact_of
  exact_of_start e = rw e

  -- with none of the causes at the start the run is made
  pub exact_run-made : Starts caps journal n → exact_run caps journal n ≡ ran (ample caps journal)
  unfolding exact_run start_lines first_that_applies whole_unless
  exact_run-made w = rw (w.good_capacities_lem, w.long_buffers, w.short_journal)

  -- if it stops, the forecast has the place of the refused command, and length 0
  pub exact_of_stopped : {r : Refusal} → Starts caps journal n → (ample caps journal).refusal ≡ some r
      → exact_forecast caps journal n ≡ no_forecast r (place_after (ample caps journal).accepted)
  unfolding exact_forecast exact_of
  exact_of_stopped w e = rw (exact_run-made w, e, exact_of)

  -- if it does not, the journal's length, and the bytes that all answers take
  pub exact_of_whole : Starts caps journal n → (ample caps journal).refusal ≡ none
      → exact_forecast caps journal n ≡ record { number = 0; place = length journal; length = needed caps journal }
  unfolding exact_forecast exact_of
  exact_of_whole w e = rw (exact_run-made w, e, exact_of)

  -- then a number other than 0 is none of those at the start
  after_start : Starts caps journal n → (exact_forecast caps journal n).number ≢ 0 → 3 < (exact_forecast caps journal n).number
  after_start w refused =
      let not_one : (exact_forecast caps journal n).number ≢ 1 = λ e. not_both w.good_capacities_lem ((exact_one_exactly caps journal n).0 e) in
      let not_two : (exact_forecast caps journal n).number ≢ 2 = λ e. not_both ((exact_two_exactly caps journal n).0 e).1 long_table in
      let not_three : (exact_forecast caps journal n).number ≢ 3 = λ e. not_both ((exact_three_exactly caps journal n).0 e).1.1 short in
      omega arith
    where
      long_table : ltb n (work_needed caps) ≡ false
      long_table = sym (short_table caps journal n) ∙ w.long_buffers

      short : ltb 65536 (length journal) ≡ false
      short = w.short_journal

  -- the number is one of the start: 1, 2 or 3
  abbrev pub Early : Type 0
  Early = (0 < (exact_forecast caps journal n).number) × ((exact_forecast caps journal n).number ≤ 3)

  -- so it is, or there is none of the causes
  early_or_starts : Early ⊎ Starts caps journal n
  early_or_starts =
      go (true_or_false (good_capacities caps)) (true_or_false (ltb n (work_needed caps))) (true_or_false (ltb 65536 (length journal)))
    where
      early : (k : ℕ) → (exact_forecast caps journal n).number ≡ k → 0 < k → k ≤ 3 → Early ⊎ Starts caps journal n
      early k e above few = inl (omega arith, omega arith)

      go : (good_capacities caps ≡ true) ⊎ (good_capacities caps ≡ false)
          → (ltb n (work_needed caps) ≡ true) ⊎ (ltb n (work_needed caps) ≡ false)
          → (ltb 65536 (length journal) ≡ true) ⊎ (ltb 65536 (length journal) ≡ false)
          → Early ⊎ Starts caps journal n
      go (inr bad) t j = early 1 ((exact_one_exactly caps journal n).1 bad) (omega arith) (omega arith)
      go (inl good) (inl short) j = early 2 ((exact_two_exactly caps journal n).1 (good, short)) (omega arith) (omega arith)
      go (inl good) (inr fits) (inl long) = early 3 ((exact_three_exactly caps journal n).1 (good, (fits, long))) (omega arith) (omega arith)
      go (inl good) (inr fits) (inr short) =
          inr (record { good_capacities_lem = good; long_buffers = short_table caps journal n ∙ fits; short_journal = short })

  -- so there is none with any other number
  pub starts_unless_early : (Early → ⊥) → Starts caps journal n
  starts_unless_early not_early = go early_or_starts
    where
      go : Early ⊎ Starts caps journal n → Starts caps journal n
      go (inl early) = absurd (not_early early)
      go (inr w) = w

  pub starts_beyond : 3 < (exact_forecast caps journal n).number → Starts caps journal n
  starts_beyond beyond = starts_unless_early (λ early. omega (arith, beyond, early.1))

  -- and with one of these the forecast is refused at the start
  pub refused_early : Early → (r : Refusal) × (exact_run caps journal n ≡ refused_at_start r)
  unfolding exact_run whole_unless
  refused_early early = go (refused_or_ran register_rule register_routes caps journal n (needed caps journal) 6)
    where
      go : ((r : Refusal) × (whole_run register_rule register_routes caps journal n (needed caps journal) 6 ≡ refused_at_start r))
          ⊎ Starts caps journal n
          → (r : Refusal) × (exact_run caps journal n ≡ refused_at_start r)
      go (inl (r, e)) = (r, rw ((start_decides register_rule register_routes caps journal n (needed caps journal) 6 r).0 e) refl)
      go (inr w) = absurd (omega (arith, early.1, after_start w (λ e. omega (arith, early.0, e))))

  -- With 0 come the journal's length and the bytes that all answers take.
  pub exact_with_nought : (exact_forecast caps journal n).number ≡ 0
      → exact_forecast caps journal n ≡ record { number = 0; place = length journal; length = needed caps journal }
  exact_with_nought e = let (w, whole) = (exact_nought_exactly caps journal n).0 e in exact_of_whole w whole

  -- With 1, 2 and 3 come place 0 and length 0.
  pub exact_at_start_lem : Early → exact_forecast caps journal n ≡ record { number = (exact_forecast caps journal n).number; place = 0; length = 0 }
  unfolding no_forecast
  exact_at_start_lem early = rw (exact_of_start (refused_early early).1)

  -- With any other come the place where the run with ample room stops, and length 0.
  pub exact_stopped_lem : 3 < (exact_forecast caps journal n).number
      → exact_forecast caps journal n
      ≡ record { number = (exact_forecast caps journal n).number; place = place_after (ample caps journal).accepted; length = 0 }
  unfolding no_forecast
  exact_stopped_lem beyond = go (ample caps journal).refusal refl
    where
      go : (o : Option Refusal) → (ample caps journal).refusal ≡ o
          → exact_forecast caps journal n
          ≡ record { number = (exact_forecast caps journal n).number; place = place_after (ample caps journal).accepted; length = 0 }
      go (some r) e = rw (exact_of_stopped (starts_beyond beyond) e)
      go none e = absurd (omega (arith, beyond, (exact_nought_exactly caps journal n).1 (starts_beyond beyond, e)))

  -- what is so with each of these three is so of the forecast
  three_ways : (P : Forecast → Type 0)
      → ((exact_forecast caps journal n).number ≡ 0 → P (record { number = 0; place = length journal; length = needed caps journal }))
      → ((k : ℕ) → P (record { number = k; place = 0; length = 0 }))
      → ((k : ℕ) → 3 < (exact_forecast caps journal n).number
      → P (record { number = k; place = place_after (ample caps journal).accepted; length = 0 }))
      → P (exact_forecast caps journal n)
  three_ways P nought early late = go (le_or_gt (exact_forecast caps journal n).number 0) (le_or_gt (exact_forecast caps journal n).number 3)
    where
      go : ((exact_forecast caps journal n).number ≤ 0) ⊎ (0 < (exact_forecast caps journal n).number)
          → ((exact_forecast caps journal n).number ≤ 3) ⊎ (3 < (exact_forecast caps journal n).number)
          → P (exact_forecast caps journal n)
      go (inl none_above) h =
          let e : (exact_forecast caps journal n).number ≡ 0 = omega arith in
          subst P (sym (exact_with_nought e)) (nought e)
      go (inr above) (inl few) = subst P (sym (exact_at_start_lem (above, few))) (early _)
      go (inr above) (inr beyond) = subst P (sym (exact_stopped_lem beyond)) (late _ beyond)

  -- Its place is in the journal, or its end.
  pub exact_place_in_journal : (exact_forecast caps journal n).place ≤ length journal
  unfolding ample_run
  exact_place_in_journal =
      three_ways
      (λ f. f.place ≤ length journal)
      (λ e. omega arith)
      (λ k. omega arith)
      (λ k beyond. run_place_in_journal register_routes caps (empty_state register_rule) journal)

  -- Its place and its length fit 32 bits.
  pub exact_fits : ((exact_forecast caps journal n).place < 4294967296) × ((exact_forecast caps journal n).length < 4294967296)
  unfolding ample_run
  exact_fits =
      three_ways
      (λ f. (f.place < 4294967296) × (f.length < 4294967296))
      (λ e. (
        omega (arith, few ((exact_nought_exactly caps journal n).0 e).0),
        all_answers_fit register_rule register-mates register_routes register_serves caps journal (few ((exact_nought_exactly caps journal n).0 e).0),
      ))
      (λ k. (omega arith, omega arith))
      (λ k beyond. (
        omega (arith, few (starts_beyond beyond), run_place_in_journal register_routes caps (empty_state register_rule) journal),
        omega arith,
      ))
    where
      few : Starts caps journal n → length journal ≤ 65536
      few w = ltb_ge 65536 (length journal) w.short_journal

-- what becomes of the working table hangs on the start alone
table_after : (caps : Capacities) (o : Option Refusal) (run other : Run) (lent others : Buffers) → lent.work ≡ others.work
    → (outcome register_rule caps lent (whole_unless o run)).buffers.work ≡ (outcome register_rule caps others (whole_unless o other)).buffers.work
unfolding whole_unless outcome
table_after caps (some r) run other lent others e = e
table_after caps none run other lent others e = ap (over (replicate (work_needed caps) 0)) e

-- capacities, a journal and a working table
module _ (caps : Capacities) (journal work : List ℕ) where
  -- The working table ends as after a run with it, whatever the answer buffer.
  pub exact_work_as_run : (lent : Buffers) → lent.work ≡ work → 6 ≤ length lent.report
      → exact_work caps journal work ≡ (register caps journal lent).buffers.work
  unfolding exact_work exact_run register entry_under whole_run
  exact_work_as_run lent same long =
      let alike = starts_alike caps journal (length work) lent (ap (λ l. ltb (length l) (work_needed caps)) same) long in
      rw alike (table_after caps (first_that_applies (start_lines caps (length journal) (length work) 6)) _ _ _ _ (sym same))

  -- it is as the run that the forecast makes leaves it
  table_left : {w : Whole} → exact_run caps journal (length work) ≡ w
      → exact_work caps journal work ≡ (outcome register_rule caps (record { work = work; answers = []; report = [] }) w).buffers.work
  unfolding exact_work
  table_left e = ap (λ w. (outcome register_rule caps (record { work = work; answers = []; report = [] }) w).buffers.work) e

  -- With 1, 2 and 3 it is as before.
  pub exact_work-at_start : Early caps journal (length work) → exact_work caps journal work ≡ work
  unfolding outcome
  exact_work-at_start early = table_left (refused_early caps journal (length work) early).1

  -- Else its first W numbers are 0, and those beyond are as before.
  pub exact_work_cleared : (Early caps journal (length work) → ⊥) → exact_work caps journal work ≡ over (replicate (work_needed caps) 0) work
  unfolding outcome
  exact_work_cleared not_early =
      table_left (exact_run-made caps journal (length work) (starts_unless_early caps journal (length work) not_early))
