-- Rewriting: each number exactly for its cause, and the place and the result that come with it.
use mathlib.Core.Bool.{true, false, ◌||◌}
use mathlib.Core.List.{List, []}
use mathlib.Core.Logic.Iff
use mathlib.Core.Logic.{◌↔◌, ◌⊎◌, inl, inr, ◌≢◌}
use mathlib.Core.Option.{Option, none, some}
use mathlib.Core.Path.{◌≡◌, refl, sym, ◌∙◌, ap}
use Prim.Native.Nat.{ℕ, ◌≤◌, ◌<◌}
use native.Mathlib.Omega.{arith}
use lib.Dec.{ltb}
use lib.ListN.{length}
use Rattle.graph.proofs.Truth.{true_or_false, not_both, false_of_not, or_left, or_right, or_neither, ltb_lt, lt-ltb, ltb_ge, ge_ltb}
use Rattle.commands.specs.Command.{form}
use Rattle.commands.specs.Refusal.{Refusal, long_journal, refusal_number}
use Rattle.commands.specs.Text.{text_of, place_behind}
use Rattle.commands.specs.Ducts.{ductless_journal}
use Rattle.commands.specs.Forecast.{no_forecast, forecast}
use Rattle.commands.specs.Rewrite.{rewritten_bytes, not_rewritten, first_duct_told, result_within, rewrite_reads, rewrite_text, rewrite}
use Rattle.commands.proofs.Cases.{impossible}
use Rattle.commands.proofs.Reading.{is_command, width_of}
use Rattle.commands.proofs.Table.{number_above_zero}
use Rattle.commands.proofs.Placed.{Stands}
use Rattle.commands.proofs.FirstDuctTold.{FirstDuctTold, first_duct_told_none, first_duct_told_exactly, told_in_journal}
use Rattle.commands.proofs.ForecastExactly.{Short, forecast_of_long, forecast_of_stopped, forecast_of_whole, forecast_three_exactly, forecast_four_exactly, forecast_five_exactly, forecast_numbers}

-- a journal that is rewritten into so much room
module _ (room : ℕ) (journal : List ℕ) where
  -- a journal that is too long is refused at 0
  rewrite_of_long : ltb 65536 (length journal) ≡ true → rewrite room journal ≡ not_rewritten long_journal 0
  unfolding rewrite
  rewrite_of_long long = rw long

  -- another is refused as its text is, at the place where that ends
  rewrite_of_stopped : {r : Refusal} → Short journal → (text_of journal).refusal ≡ some r
      → rewrite room journal ≡ not_rewritten r (place_behind (text_of journal).commands)
  unfolding rewrite rewrite_text
  rewrite_of_stopped short e = rw (short, e, rewrite_text)

  -- or its commands are rewritten, if its text has no refusal
  rewrite_of_whole : Short journal → (text_of journal).refusal ≡ none
      → rewrite room journal ≡ rewrite_reads room (length journal) (text_of journal).commands
  unfolding rewrite rewrite_text
  rewrite_of_whole short e = rw (short, e, rewrite_text)

  -- A journal that the forecast refuses is refused alike: the same number, the same place, and no result.
  pub rewrite_as_forecast : (forecast journal).number ≢ 0
      → rewrite room journal ≡ record { number = (forecast journal).number; place = (forecast journal).place; result = [] }
  unfolding not_rewritten no_forecast
  rewrite_as_forecast refused = go (true_or_false (ltb 65536 (length journal))) (text_of journal).refusal refl
    where
      go : (ltb 65536 (length journal) ≡ true) ⊎ Short journal → (o : Option Refusal) → (text_of journal).refusal ≡ o
          → rewrite room journal ≡ record { number = (forecast journal).number; place = (forecast journal).place; result = [] }
      go (inl long) o e = rw (rewrite_of_long long, forecast_of_long journal long)
      go (inr short) (some r) e = rw (rewrite_of_stopped short e, forecast_of_stopped journal short e)
      go (inr short) none e = absurd (refused (rw (forecast_of_whole journal short e) refl))

  -- One that it accepts is rewritten as its commands are.
  pub rewrite_of_read : (forecast journal).number ≡ 0
      → rewrite room journal ≡ rewrite_reads room (length journal) (text_of journal).commands
  unfolding no_forecast
  rewrite_of_read accepted = go (true_or_false (ltb 65536 (length journal))) (text_of journal).refusal refl
    where
      go : (ltb 65536 (length journal) ≡ true) ⊎ Short journal → (o : Option Refusal) → (text_of journal).refusal ≡ o
          → rewrite room journal ≡ rewrite_reads room (length journal) (text_of journal).commands
      go (inl long) o e =
          absurd (omega (arith, number_above_zero long_journal, accepted, ap (λ f. f.number) (forecast_of_long journal long)))
      go (inr short) (some r) e =
          absurd (omega (arith, number_above_zero r, accepted, ap (λ f. f.number) (forecast_of_stopped journal short e)))
      go (inr short) none e = rewrite_of_whole short e

  -- the bytes of its commands rewritten are more than a journal may have, or more than the room
  abbrev pub TooLong : Type 0
  TooLong = (65536 < length (rewritten_bytes journal)) ⊎ (room < length (rewritten_bytes journal))

  -- or they are a journal that fits into the room
  abbrev pub Fits : Type 0
  Fits = (length (rewritten_bytes journal) ≤ 65536) × (length (rewritten_bytes journal) ≤ room)

  -- one of the two is so
  too_long_or_fits : TooLong ⊎ Fits
  too_long_or_fits = go (true_or_false (ltb 65536 (length (rewritten_bytes journal)))) (true_or_false (ltb room (length (rewritten_bytes journal))))
    where
      go : (ltb 65536 (length (rewritten_bytes journal)) ≡ true) ⊎ (ltb 65536 (length (rewritten_bytes journal)) ≡ false)
          → (ltb room (length (rewritten_bytes journal)) ≡ true) ⊎ (ltb room (length (rewritten_bytes journal)) ≡ false)
          → TooLong ⊎ Fits
      go (inl long) r = inl (inl (ltb_lt 65536 (length (rewritten_bytes journal)) long))
      go (inr short) (inl over) = inl (inr (ltb_lt room (length (rewritten_bytes journal)) over))
      go (inr short) (inr within) = inr (ltb_ge 65536 (length (rewritten_bytes journal)) short, ltb_ge room (length (rewritten_bytes journal)) within)

  -- how it is tested
  too_long_tests : TooLong → (ltb 65536 (length (rewritten_bytes journal)) || ltb room (length (rewritten_bytes journal))) ≡ true
  too_long_tests (inl long) = or_left (lt-ltb 65536 (length (rewritten_bytes journal)) long) _
  too_long_tests (inr over) = or_right (ltb 65536 (length (rewritten_bytes journal))) (lt-ltb room (length (rewritten_bytes journal)) over)

  -- a first 0B is refused with 15 where it stands
  pub rewrite_of_told : {place : ℕ} → (forecast journal).number ≡ 0 → first_duct_told (text_of journal).commands ≡ some place
      → rewrite room journal ≡ record { number = 15; place = place; result = [] }
  unfolding rewrite_reads not_rewritten refusal_number
  rewrite_of_told accepted e = rw (rewrite_of_read accepted, e, rewrite_reads)

  -- without one, a result that is too long is refused with 16 at place 0
  pub rewrite_of_too_long : (forecast journal).number ≡ 0 → first_duct_told (text_of journal).commands ≡ none → TooLong
      → rewrite room journal ≡ record { number = 16; place = 0; result = [] }
  unfolding rewrite_reads result_within not_rewritten refusal_number
  rewrite_of_too_long accepted e long = rw (rewrite_of_read accepted, e, rewrite_reads, too_long_tests long)

  -- and another is given, with the journal's length as the place
  pub rewrite_of_fitting : (forecast journal).number ≡ 0 → first_duct_told (text_of journal).commands ≡ none → Fits
      → rewrite room journal ≡ record { number = 0; place = length journal; result = rewritten_bytes journal }
  unfolding rewrite_reads result_within
  rewrite_of_fitting accepted e f =
      rw (rewrite_of_read accepted, e, rewrite_reads, or_neither (ge_ltb 65536 (length (rewritten_bytes journal)) f.0) (ge_ltb room (length (rewritten_bytes journal)) f.1))

  -- the ways in which rewriting ends, and the number of each
  data Ends : Type 0 where
    as_foretold : (forecast journal).number ≢ 0 → (forecast journal).number ≤ 5 → (rewrite room journal).number ≡ (forecast journal).number → Ends
    told_at : (place : ℕ) → (forecast journal).number ≡ 0 → first_duct_told (text_of journal).commands ≡ some place
        → (rewrite room journal).number ≡ 15 → Ends
    too_long : (forecast journal).number ≡ 0 → first_duct_told (text_of journal).commands ≡ none → TooLong → (rewrite room journal).number ≡ 16 → Ends
    given : (forecast journal).number ≡ 0 → first_duct_told (text_of journal).commands ≡ none → Fits → (rewrite room journal).number ≡ 0 → Ends

  -- it ends in one of these
  each_ends : Ends
  each_ends = go (forecast_numbers journal) (first_duct_told (text_of journal).commands) refl too_long_or_fits
    where
      refused : (forecast journal).number ≢ 0 → (forecast journal).number ≤ 5 → Ends
      refused not_nought few = as_foretold not_nought few (ap (λ r. r.number) (rewrite_as_forecast not_nought))

      go : ((forecast journal).number ≡ 0)
          ⊎ (((forecast journal).number ≡ 3) ⊎ (((forecast journal).number ≡ 4) ⊎ ((forecast journal).number ≡ 5)))
          → (o : Option ℕ) → first_duct_told (text_of journal).commands ≡ o → TooLong ⊎ Fits → Ends
      go (inl accepted) (some place) e l = told_at place accepted e (ap (λ r. r.number) (rewrite_of_told accepted e))
      go (inl accepted) none e (inl long) = too_long accepted e long (ap (λ r. r.number) (rewrite_of_too_long accepted e long))
      go (inl accepted) none e (inr fits) = given accepted e fits (ap (λ r. r.number) (rewrite_of_fitting accepted e fits))
      go (inr (inl three)) o e l = refused (λ nought. omega (arith, three, nought)) (omega (arith, three))
      go (inr (inr (inl four))) o e l = refused (λ nought. omega (arith, four, nought)) (omega (arith, four))
      go (inr (inr (inr five))) o e l = refused (λ nought. omega (arith, five, nought)) (omega (arith, five))

  -- a number from 1 to 14 is returned exactly if the forecast returns it
  rewrite_refused_exactly : (n : ℕ) → 0 < n → n < 15 → ((rewrite room journal).number ≡ n) ↔ ((forecast journal).number ≡ n)
  rewrite_refused_exactly n above few = (
    λ e. go e each_ends,
    λ e. ap (λ r. r.number) (rewrite_as_forecast (λ nought. omega (arith, above, e, nought))) ∙ e,
  )
    where
      go : (rewrite room journal).number ≡ n → Ends → (forecast journal).number ≡ n
      go e (as_foretold not_nought below is) = sym is ∙ e
      go e (told_at place accepted at is) = absurd (omega (arith, few, e, is))
      go e (too_long accepted untold long is) = absurd (omega (arith, few, e, is))
      go e (given accepted untold fits is) = absurd (omega (arith, above, e, is))

  -- 3: the journal is longer than 65,536 bytes
  pub rewrite_three_exactly : ((rewrite room journal).number ≡ 3) ↔ (ltb 65536 (length journal) ≡ true)
  rewrite_three_exactly = Iff.trans (rewrite_refused_exactly 3 (omega arith) (omega arith)) (forecast_three_exactly journal)

  -- 4: it is not too long, and where its text ends stands a byte that is no command's, whatever stands before it
  pub rewrite_four_exactly : ((rewrite room journal).number ≡ 4)
      ↔ (Short journal × Stands (place_behind (text_of journal).commands) journal (λ byte bytes. is_command byte ≡ false))
  rewrite_four_exactly = Iff.trans (rewrite_refused_exactly 4 (omega arith) (omega arith)) (forecast_four_exactly journal)

  -- 5: it is not too long, and where its text ends stands a command's byte whose operands are cut off by the journal's end
  pub rewrite_five_exactly : ((rewrite room journal).number ≡ 5)
      ↔ (Short journal
      × Stands
      (place_behind (text_of journal).commands)
      journal
      (λ byte bytes. (is_command byte ≡ true) × (length bytes < width_of (form byte))))
  rewrite_five_exactly = Iff.trans (rewrite_refused_exactly 5 (omega arith) (omega arith)) (forecast_five_exactly journal)

  -- no command of the journal is 0B exactly if no place of one is found
  untold_exactly : (first_duct_told (text_of journal).commands ≡ none) ↔ (ductless_journal journal ≡ true)
  unfolding ductless_journal
  untold_exactly = first_duct_told_none (text_of journal).commands

  -- 15: the forecast accepts the journal, and one of its commands is 0B, whatever the result's length
  pub rewrite_fifteen_exactly : ((rewrite room journal).number ≡ 15) ↔ (((forecast journal).number ≡ 0) × (ductless_journal journal ≡ false))
  rewrite_fifteen_exactly = (λ e. go e each_ends, λ f. back f.0 f.1 (first_duct_told (text_of journal).commands) refl)
    where
      go : (rewrite room journal).number ≡ 15 → Ends → ((forecast journal).number ≡ 0) × (ductless_journal journal ≡ false)
      go e (as_foretold not_nought below is) = absurd (omega (arith, e, is, below))
      go e (told_at place accepted at is) =
          (accepted, false_of_not (ductless_journal journal) (λ free. impossible (cc (untold_exactly.1 free))))
      go e (too_long accepted untold long is) = absurd (omega (arith, e, is))
      go e (given accepted untold fits is) = absurd (omega (arith, e, is))

      back : (forecast journal).number ≡ 0 → ductless_journal journal ≡ false → (o : Option ℕ)
          → first_duct_told (text_of journal).commands ≡ o → (rewrite room journal).number ≡ 15
      back accepted has (some place) at = ap (λ r. r.number) (rewrite_of_told accepted at)
      back accepted has none untold = absurd (not_both (untold_exactly.0 untold) has)

  -- 16: it accepts the journal, none of its commands is 0B, and the result is too long
  pub rewrite_sixteen_exactly : ((rewrite room journal).number ≡ 16)
      ↔ (((forecast journal).number ≡ 0) × ((ductless_journal journal ≡ true) × TooLong))
  rewrite_sixteen_exactly = (
    λ e. go e each_ends,
    λ f. ap (λ r. r.number) (rewrite_of_too_long f.0 (untold_exactly.1 f.1.0) f.1.1),
  )
    where
      go : (rewrite room journal).number ≡ 16 → Ends → ((forecast journal).number ≡ 0) × ((ductless_journal journal ≡ true) × TooLong)
      go e (as_foretold not_nought below is) = absurd (omega (arith, e, is, below))
      go e (told_at place accepted at is) = absurd (omega (arith, e, is))
      go e (too_long accepted untold long is) = (accepted, (untold_exactly.0 untold, long))
      go e (given accepted untold fits is) = absurd (omega (arith, e, is))

  -- 0: it accepts the journal, none of its commands is 0B, and the result is a journal that fits into the room
  pub rewrite_nought_exactly : ((rewrite room journal).number ≡ 0)
      ↔ (((forecast journal).number ≡ 0) × ((ductless_journal journal ≡ true) × Fits))
  rewrite_nought_exactly = (
    λ e. go e each_ends,
    λ f. ap (λ r. r.number) (rewrite_of_fitting f.0 (untold_exactly.1 f.1.0) f.1.1),
  )
    where
      go : (rewrite room journal).number ≡ 0 → Ends → ((forecast journal).number ≡ 0) × ((ductless_journal journal ≡ true) × Fits)
      go e (as_foretold not_nought below is) = absurd (not_nought (sym is ∙ e))
      go e (told_at place accepted at is) = absurd (omega (arith, e, is))
      go e (too_long accepted untold long is) = absurd (omega (arith, e, is))
      go e (given accepted untold fits is) = (accepted, (untold_exactly.0 untold, fits))

  -- It returns no other number.
  pub rewrite_numbers : ((rewrite room journal).number ≡ 0)
      ⊎ (((rewrite room journal).number ≡ 3)
      ⊎ (((rewrite room journal).number ≡ 4)
      ⊎ (((rewrite room journal).number ≡ 5) ⊎ (((rewrite room journal).number ≡ 15) ⊎ ((rewrite room journal).number ≡ 16)))))
  rewrite_numbers = go (forecast_numbers journal) each_ends
    where
      go : ((forecast journal).number ≡ 0)
          ⊎ (((forecast journal).number ≡ 3) ⊎ (((forecast journal).number ≡ 4) ⊎ ((forecast journal).number ≡ 5)))
          → Ends
          → ((rewrite room journal).number ≡ 0)
          ⊎ (((rewrite room journal).number ≡ 3)
          ⊎ (((rewrite room journal).number ≡ 4)
          ⊎ (((rewrite room journal).number ≡ 5) ⊎ (((rewrite room journal).number ≡ 15) ⊎ ((rewrite room journal).number ≡ 16)))))
      go (inl nought) (as_foretold not_nought below is) = absurd (not_nought nought)
      go (inr (inl three)) (as_foretold not_nought below is) = inr (inl (is ∙ three))
      go (inr (inr (inl four))) (as_foretold not_nought below is) = inr (inr (inl (is ∙ four)))
      go (inr (inr (inr five))) (as_foretold not_nought below is) = inr (inr (inr (inl (is ∙ five))))
      go n (told_at place accepted at is) = inr (inr (inr (inr (inl is))))
      go n (too_long accepted untold long is) = inr (inr (inr (inr (inr is))))
      go n (given accepted untold fits is) = inl is

  -- With 15 come the place of the first 0B, where that byte stands in the journal, and no result.
  pub rewrite_with_fifteen : (rewrite room journal).number ≡ 15
      → (place : ℕ)
      × ((FirstDuctTold (text_of journal).commands place × Stands place journal (λ byte bytes. byte ≡ 0x0B))
      × (rewrite room journal ≡ record { number = 15; place = place; result = [] }))
  rewrite_with_fifteen e = go (first_duct_told (text_of journal).commands) refl
    where
      accepted : (forecast journal).number ≡ 0
      accepted = (rewrite_fifteen_exactly.0 e).0

      go : (o : Option ℕ) → first_duct_told (text_of journal).commands ≡ o
          → (place : ℕ)
          × ((FirstDuctTold (text_of journal).commands place × Stands place journal (λ byte bytes. byte ≡ 0x0B))
          × (rewrite room journal ≡ record { number = 15; place = place; result = [] }))
      go (some place) at =
          (place, (((first_duct_told_exactly (text_of journal).commands place).0 at, told_in_journal journal place at), rewrite_of_told accepted at))
      go none untold = absurd (not_both (untold_exactly.0 untold) (rewrite_fifteen_exactly.0 e).1)

  -- With 16 come place 0 and no result.
  pub rewrite_with_sixteen : (rewrite room journal).number ≡ 16 → rewrite room journal ≡ record { number = 16; place = 0; result = [] }
  rewrite_with_sixteen e =
      let f = rewrite_sixteen_exactly.0 e in
      rewrite_of_too_long f.0 (untold_exactly.1 f.1.0) f.1.1

  -- With 0 come the journal's length and the bytes of its commands rewritten.
  pub rewrite_with_nought : (rewrite room journal).number ≡ 0
      → rewrite room journal ≡ record { number = 0; place = length journal; result = rewritten_bytes journal }
  rewrite_with_nought e =
      let f = rewrite_nought_exactly.0 e in
      rewrite_of_fitting f.0 (untold_exactly.1 f.1.0) f.1.1
