-- The forecast: each number exactly for its cause, the place and the length that come with it, and what it says of the journal's front.
use mathlib.Core.Bool.{Bool, true, false, cond}
use mathlib.Core.List.{List, map}
use mathlib.Core.Logic.Iff
use mathlib.Core.Logic.{◌↔◌, ◌⊎◌, inl, inr, ◌≢◌}
use mathlib.Core.Option.{Option, none, some}
use mathlib.Core.Path.{◌≡◌, refl, sym, ◌∙◌, ap}
use Prim.Native.Nat.{ℕ, ◌≤◌, ◌<◌}
use native.Mathlib.Omega.{arith}
use lib.Dec.{ltb}
use lib.ListN.{length, take}
use lib.Seq.{length-take-le}
use Rattle.graph.specs.Route.{Choice}
use Rattle.graph.proofs.Truth.{true_or_false, ltb_ge, ge_ltb}
use Rattle.naming.specs.State.{State}
use Rattle.commands.specs.Command.{form, Reading}
use Rattle.commands.specs.Refusal.{Refusal, long_journal, bad_byte, cut_operands, refusal_number, Capacities}
use Rattle.commands.specs.Text.{text_of, place_behind}
use Rattle.commands.specs.Run.{run_text, run_within, place_after}
use Rattle.commands.specs.Entry.{number_of}
use Rattle.commands.specs.Forecast.{sufficient, no_forecast, forecast_text, forecast}
use Rattle.commands.proofs.Cases.{impossible}
use Rattle.commands.proofs.Reading.{is_command, width_of}
use Rattle.commands.proofs.Table.{stage}
use Rattle.commands.proofs.Returned.{number_exactly, zero_exactly}
use Rattle.commands.proofs.Placed.{Stands}
use Rattle.commands.proofs.Place.{place_of_prefix, within_is_prefix}
use Rattle.commands.proofs.TextSteps.{Unreadable, bad_byte_lem, cut_operands_lem}
use Rattle.commands.proofs.ReadFront.{text_of_front}
use Rattle.commands.proofs.TextPlaces.{text_in_journal, text_read_whole, text_stops, text_stage, text_bad_byte_exactly, text_cut_operands_exactly}
use Rattle.commands.proofs.TextRun.{NotOfCommand, run_place_in_text, run_ends_as_text}

-- the refusal of a forecast: the journal is too long, or else that of its text
foreseen : Bool → Option Refusal → Option Refusal
foreseen long o = cond long (some long_journal) o

-- too long: so it is, whatever the text
foreseen_long : (long : Bool) (o : Option Refusal) → ((r : Refusal) → o ≡ some r → stage r ≡ 1)
    → (foreseen long o ≡ some long_journal) ↔ (long ≡ true)
unfolding foreseen stage
foreseen_long true o h = (λ e. refl, λ e. refl)
foreseen_long false o h = (λ e. absurd (omega (arith, h long_journal e)), λ e. impossible (cc))

-- anything else: the journal is not, and the text ends so
foreseen_otherwise : (long : Bool) (o end : Option Refusal) → end ≢ some long_journal
    → (foreseen long o ≡ end) ↔ ((long ≡ false) × (o ≡ end))
unfolding foreseen
foreseen_otherwise true o end n = (λ e. absurd (n (sym e)), λ e. impossible (cc))
foreseen_otherwise false o end n = (λ e. (refl, e), λ e. e.1)

-- a journal
module _ (journal : List ℕ) where
  -- it is at most 65,536 bytes long
  abbrev pub Short : Type 0
  Short = ltb 65536 (length journal) ≡ false

  -- a journal that is too long is refused at 0
  pub forecast_of_long : ltb 65536 (length journal) ≡ true → forecast journal ≡ no_forecast long_journal 0
  unfolding forecast
  forecast_of_long long = rw long

  -- another is refused as its text is, at the place where that ends
  pub forecast_of_stopped : {r : Refusal} → Short → (text_of journal).refusal ≡ some r
      → forecast journal ≡ no_forecast r (place_behind (text_of journal).commands)
  unfolding forecast forecast_text
  forecast_of_stopped short e = rw (short, e, forecast_text)

  -- or accepted, if its text has no refusal, at the journal's end and with the length for its commands
  pub forecast_of_whole : Short → (text_of journal).refusal ≡ none
      → forecast journal
      ≡ record { number = 0; place = length journal; length = sufficient (map (λ r. r.command) (text_of journal).commands) }
  unfolding forecast forecast_text
  forecast_of_whole short e = rw (short, e, forecast_text)

  -- either way its place is where the text ends
  pub forecast-place : Short → (forecast journal).place ≡ place_behind (text_of journal).commands
  unfolding no_forecast
  forecast-place short = go (text_of journal).refusal refl
    where
      go : (o : Option Refusal) → (text_of journal).refusal ≡ o → (forecast journal).place ≡ place_behind (text_of journal).commands
      go (some r) e = rw (forecast_of_stopped short e)
      go none e = rw (forecast_of_whole short e) (sym (text_read_whole journal e))

  -- the number is that of the refusal
  forecast-number : (forecast journal).number ≡ number_of (foreseen (ltb 65536 (length journal)) (text_of journal).refusal)
  unfolding foreseen no_forecast number_of
  forecast-number = go (true_or_false (ltb 65536 (length journal))) (text_of journal).refusal refl
    where
      go : (ltb 65536 (length journal) ≡ true) ⊎ (ltb 65536 (length journal) ≡ false) → (o : Option Refusal) → (text_of journal).refusal ≡ o
          → (forecast journal).number ≡ number_of (foreseen (ltb 65536 (length journal)) (text_of journal).refusal)
      go (inl long) o e = rw (forecast_of_long long, long)
      go (inr short) (some r) e = rw (forecast_of_stopped short e, short, e)
      go (inr short) none e = rw (forecast_of_whole short e, short, e)

  -- 3: the journal is longer than 65,536 bytes
  pub forecast_three_exactly : ((forecast journal).number ≡ 3) ↔ (ltb 65536 (length journal) ≡ true)
  unfolding refusal_number
  forecast_three_exactly =
      rw forecast-number (Iff.trans (number_exactly _ long_journal) (foreseen_long _ (text_of journal).refusal (text_stage journal)))

  -- the numbers of what cannot be read: the journal is not too long, and its text is refused so
  pub forecast_stopped_exactly : (r : Refusal) → stage r ≡ 1
      → ((forecast journal).number ≡ refusal_number r) ↔ (Short × ((text_of journal).refusal ≡ some r))
  unfolding stage
  forecast_stopped_exactly r h =
      rw forecast-number (Iff.trans (number_exactly _ r) (foreseen_otherwise _ (text_of journal).refusal (some r) not_long))
    where
      not_long : some r ≢ some long_journal
      not_long e = let same : r ≡ long_journal = cc in omega (arith, ap stage same)

  -- 4: it is not too long, and where its text ends stands a byte that is no command's (`known_bytes` says which are)
  pub forecast_four_exactly : ((forecast journal).number ≡ 4)
      ↔ (Short × Stands (place_behind (text_of journal).commands) journal (λ byte bytes. is_command byte ≡ false))
  unfolding refusal_number stage
  forecast_four_exactly = Iff.trans (forecast_stopped_exactly bad_byte refl) (Iff.and Iff.rfl (text_bad_byte_exactly journal))

  -- 5: it is not too long, and where its text ends stands a command's byte whose operands are cut off by the journal's end
  pub forecast_five_exactly : ((forecast journal).number ≡ 5)
      ↔ (Short
      × Stands
      (place_behind (text_of journal).commands)
      journal
      (λ byte bytes. (is_command byte ≡ true) × (length bytes < width_of (form byte))))
  unfolding refusal_number stage
  forecast_five_exactly = Iff.trans (forecast_stopped_exactly cut_operands refl) (Iff.and Iff.rfl (text_cut_operands_exactly journal))

  -- 0: it is not too long, and its text has no refusal
  pub forecast_nought_exactly : ((forecast journal).number ≡ 0) ↔ (Short × ((text_of journal).refusal ≡ none))
  forecast_nought_exactly =
      rw forecast-number (Iff.trans (zero_exactly _) (foreseen_otherwise _ (text_of journal).refusal none (λ e. impossible (cc))))

  -- it returns no other number
  pub forecast_numbers : ((forecast journal).number ≡ 0)
      ⊎ (((forecast journal).number ≡ 3) ⊎ (((forecast journal).number ≡ 4) ⊎ ((forecast journal).number ≡ 5)))
  unfolding refusal_number stage
  forecast_numbers = go (true_or_false (ltb 65536 (length journal))) (text_of journal).refusal refl
    where
      unread : Short → {read : Reading} {r : Refusal} → (text_of journal).refusal ≡ some r → Unreadable read r
          → ((forecast journal).number ≡ 4) ⊎ ((forecast journal).number ≡ 5)
      unread short e bad_byte_lem = inl ((forecast_stopped_exactly bad_byte refl).1 (short, e))
      unread short e cut_operands_lem = inr ((forecast_stopped_exactly cut_operands refl).1 (short, e))

      go : (ltb 65536 (length journal) ≡ true) ⊎ Short → (o : Option Refusal) → (text_of journal).refusal ≡ o
          → ((forecast journal).number ≡ 0)
          ⊎ (((forecast journal).number ≡ 3) ⊎ (((forecast journal).number ≡ 4) ⊎ ((forecast journal).number ≡ 5)))
      go (inl long) o e = inr (inl (forecast_three_exactly.1 long))
      go (inr short) (some r) e = inr (inr (unread short e (text_stops journal e).is_so))
      go (inr short) none e = inl (forecast_nought_exactly.1 (short, e))

  -- with 3 come place 0 and length 0
  pub forecast_with_three : (forecast journal).number ≡ 3 → forecast journal ≡ record { number = 3; place = 0; length = 0 }
  unfolding no_forecast refusal_number
  forecast_with_three e = forecast_of_long (forecast_three_exactly.0 e)

  -- with the number of what cannot be read come the place where the text ends, and length 0
  forecast_with-stop : (r : Refusal) → stage r ≡ 1 → (forecast journal).number ≡ refusal_number r
      → forecast journal ≡ no_forecast r (place_behind (text_of journal).commands)
  forecast_with-stop r h e = let (short, stopped) = (forecast_stopped_exactly r h).0 e in forecast_of_stopped short stopped

  -- so it is with 4
  pub forecast_with_four : (forecast journal).number ≡ 4
      → forecast journal ≡ record { number = 4; place = place_behind (text_of journal).commands; length = 0 }
  unfolding no_forecast refusal_number stage
  forecast_with_four = forecast_with-stop bad_byte refl

  -- and with 5
  pub forecast_with_five : (forecast journal).number ≡ 5
      → forecast journal ≡ record { number = 5; place = place_behind (text_of journal).commands; length = 0 }
  unfolding no_forecast refusal_number stage
  forecast_with_five = forecast_with-stop cut_operands refl

  -- with 0 come the journal's length and the length for its commands
  pub forecast_with_nought : (forecast journal).number ≡ 0
      → forecast journal
      ≡ record { number = 0; place = length journal; length = sufficient (map (λ r. r.command) (text_of journal).commands) }
  forecast_with_nought e = let (short, whole) = forecast_nought_exactly.0 e in forecast_of_whole short whole

-- The journal up to the place of the forecast, which is the whole journal if that is accepted, is accepted at that place, with the length
-- for the commands that were read.
pub forecast_of_front : (journal : List ℕ) → Short journal
    → forecast (take (forecast journal).place journal)
    ≡ record {
      number = 0;
      place = (forecast journal).place;
      length = sufficient (map (λ r. r.command) (text_of journal).commands);
    }
forecast_of_front journal short =
    let end = place_behind (text_of journal).commands in
    let front = take end journal in
    let size = length-take-le end journal (text_in_journal journal) in
    let text = text_of_front journal in
    let fits : length front ≤ 65536 = omega (arith, text_in_journal journal, ltb_ge 65536 (length journal) short) in
    rw
    (forecast-place journal short)
    (forecast_of_whole front (ge_ltb 65536 (length front) fits) (ap (λ t. t.refusal) text) ∙ rw (size, text) refl)

-- A run that ends where no command can be read, with 4 or 5: the forecast of the journal, if that is not too long, has the same number, and
-- its place is where the accepted commands end.
pub forecast_of_run : (choice : Choice) (caps : Capacities) (s : State) (journal : List ℕ) (r : Refusal) → Short journal → stage r ≡ 1
    → (run_text choice caps s (text_of journal)).refusal ≡ some r
    → forecast journal ≡ no_forecast r (place_after (run_text choice caps s (text_of journal)).accepted)
forecast_of_run choice caps s journal r short h e =
    let stopped : NotOfCommand (run_text choice caps s (text_of journal)).refusal = rw e (omega arith) in
    let (as_text, at_its_end) = run_ends_as_text choice caps s (text_of journal) stopped in
    rw at_its_end (forecast_of_stopped journal short (sym as_text ∙ e))

-- A run with any room stops no later in the journal than the place of the forecast.
pub run_place_in_forecast : (room : ℕ) (choice : Choice) (caps : Capacities) (s : State) (journal : List ℕ) → Short journal
    → place_after (run_within room choice caps s (text_of journal)).accepted ≤ (forecast journal).place
run_place_in_forecast room choice caps s journal short =
    rw
    (forecast-place journal short)
    (omega (
      arith,
      place_of_prefix _ _ (within_is_prefix room choice caps s journal),
      run_place_in_text choice caps s (text_of journal),
    ))
