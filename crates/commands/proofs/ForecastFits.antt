-- The length that is forecast fits 32 bits.
use mathlib.Core.Bool.{true, cond}
use mathlib.Core.List.{List, [], ◌∷◌, map}
use mathlib.Core.Logic.{◌⊎◌, inl, inr}
use mathlib.Core.Option.{Option, none, some}
use mathlib.Core.Path.{◌≡◌, refl}
use Prim.Native.Nat.{ℕ, suc, ◌+◌, ◌*◌, ◌≤◌, ◌<◌}
use native.Mathlib.Nat.{mul-le-mul}
use native.Mathlib.Omega.{arith}
use lib.Dec.{ltb}
use lib.ListN.{length}
use Rattle.graph.proofs.Truth.{true_or_false, ltb_ge}
use Rattle.naming.specs.Log.{highest_bit}
use Rattle.naming.proofs.Log.{highest_bit_at_most}
use Rattle.commands.specs.Facts.{Facts, adds_cabinet, adds_span, adds_nothing, facts, addition_of, addition}
use Rattle.commands.specs.Refusal.{Refusal}
use Rattle.commands.specs.Text.{Read, text_of, place_behind}
use Rattle.commands.specs.Forecast.{is_cabinet, is_span, count_adding, cabinet_commands, span_commands, longest_plain, plain_lengths, length_for, sufficient, no_forecast, forecast}
use Rattle.commands.proofs.Cases.{le_or_gt}
use Rattle.commands.proofs.TextSteps.{Spells, no_more, unreadable, one_more_lem, text_steps}
use Rattle.commands.proofs.TextPlaces.{text_in_journal}
use Rattle.commands.proofs.ForecastExactly.{Short, forecast_of_long, forecast_of_stopped, forecast_of_whole}
use Rattle.commands.proofs.PerByte.{Pays, command_pays}

-- the commands that were read pay for what they may add or be answered
abbrev AllPay : List Read → Type 0
AllPay [] = Unit
AllPay (r ∷ later) = Pays r.width (facts r.command) × AllPay later

-- so do those that bytes spell
spelled_pay : {journal : List ℕ} {rs : List Read} {end : Option Refusal} → Spells journal rs end → AllPay rs
spelled_pay no_more = tt
spelled_pay (unreadable u) = tt
spelled_pay (one_more_lem {byte = byte} {bytes = bytes} {r = r} e rest) = (command_pays byte bytes r.command r.width e, spelled_pay rest)

-- the bytes that a command takes if it is a question
unfoldable asking : ℕ → Facts → ℕ
asking width adds_cabinet = 0
asking width (adds_span e operands demands) = 0
asking width (adds_nothing q) = suc width

-- the bytes of all questions
unfoldable asked_bytes : List Read → ℕ
asked_bytes [] = 0
asked_bytes (r ∷ later) = asking r.width (facts r.command) + asked_bytes later

-- a cabinet command takes a byte and a span command at least five; the questions take the others
bytes_paid : (rs : List Read) → AllPay rs
    → let cs = map (λ r. r.command) rs in
    cabinet_commands cs + 5 * span_commands cs + asked_bytes rs ≤ place_behind rs
unfolding cabinet_commands span_commands count_adding asked_bytes place_behind addition
bytes_paid [] pay = omega arith
bytes_paid (r ∷ later) pay = go (facts r.command) pay.0 (bytes_paid later pay.1)
  where
    cabinets : ℕ
    cabinets = count_adding is_cabinet (map (λ r. r.command) later)

    spans : ℕ
    spans = count_adding is_span (map (λ r. r.command) later)

    go : (f : Facts) → Pays r.width f → cabinets + 5 * spans + asked_bytes later ≤ place_behind later
        → cond (is_cabinet (addition_of f)) (suc cabinets) cabinets
        + 5 * cond (is_span (addition_of f)) (suc spans) spans
        + (asking r.width f + asked_bytes later)
        ≤ suc r.width + place_behind later
    go adds_cabinet pays h = unfold is_cabinet is_span addition_of asking in omega arith
    go (adds_span e operands demands) pays h = unfold is_cabinet is_span addition_of asking in omega arith
    go (adds_nothing q) pays h = unfold is_cabinet is_span addition_of asking in omega arith

-- the greatest answers to the questions: 3 + c + s bytes for each byte of a question
asked_lengths : (c s : ℕ) (rs : List Read) → AllPay rs → plain_lengths c s (map (λ r. r.command) rs) ≤ (3 + c + s) * asked_bytes rs
unfolding plain_lengths asked_bytes
asked_lengths c s [] pay = omega arith
asked_lengths c s (r ∷ later) pay = go (facts r.command) pay.0 (asked_lengths c s later pay.1)
  where
    lengths : ℕ
    lengths = plain_lengths c s (map (λ r. r.command) later)

    go : (f : Facts) → Pays r.width f → lengths ≤ (3 + c + s) * asked_bytes later
        → longest_plain c s f + lengths ≤ (3 + c + s) * (asking r.width f + asked_bytes later)
    go adds_cabinet pays h = unfold longest_plain asking in omega arith
    go (adds_span e operands demands) pays h = unfold longest_plain asking in omega arith
    go (adds_nothing q) pays h = unfold longest_plain asking in omega (arith, pays c s)

-- (3 + m) times n is at most 2,147,680,256 where m and n together are at most 65,536
product_fits : (m n : ℕ) → m + n ≤ 65536 → (3 + m) * n ≤ 2147680256
product_fits m n h = go (le_or_gt m 32768)
  where
    go : (m ≤ 32768) ⊎ (32768 < m) → (3 + m) * n ≤ 2147680256
    go (inl k) = omega (arith, mul-le-mul {n₁ = 3 + m} {m₁ = n} {n₂ = 32771} {m₂ = 65536} (omega arith) (omega arith))
    go (inr k) = omega (arith, mul-le-mul {n₁ = 3 + m} {m₁ = n} {n₂ = 65539} {m₂ = 32768} (omega arith) (omega arith))

-- up to 65,536 the highest one bit has at most place 16
highest_bit_few : (k : ℕ) → k ≤ 65536 → highest_bit k ≤ 16
highest_bit_few k h = highest_bit_at_most k 16 (omega arith)

-- the length for commands that take at most 65,536 bytes fits
sufficient_fits : (rs : List Read) → AllPay rs → place_behind rs ≤ 65536 → sufficient (map (λ r. r.command) rs) < 4294967296
unfolding sufficient length_for
sufficient_fits rs pay short =
    omega (
      arith,
      paid,
      asked_lengths c s rs pay,
      product_fits (c + s) (asked_bytes rs) (omega (arith, paid)),
      mul-le-mul {n₁ = c} {m₁ = highest_bit c} {n₂ = 65536} {m₂ = 16} (omega (arith, paid)) (highest_bit_few c (omega (arith, paid))),
      mul-le-mul {n₁ = s} {m₁ = highest_bit s} {n₂ = 65536} {m₂ = 16} (omega (arith, paid)) (highest_bit_few s (omega (arith, paid))),
    )
  where
    c : ℕ
    c = cabinet_commands (map (λ r. r.command) rs)

    s : ℕ
    s = span_commands (map (λ r. r.command) rs)

    paid : c + 5 * s + asked_bytes rs ≤ place_behind rs
    paid = bytes_paid rs pay

-- so does that for the commands of a journal that is not too long
pub text_fits : (journal : List ℕ) → length journal ≤ 65536 → sufficient (map (λ r. r.command) (text_of journal).commands) < 4294967296
text_fits journal short =
    sufficient_fits (text_of journal).commands (spelled_pay (text_steps journal)) (omega (arith, text_in_journal journal))

-- the length that is forecast fits
pub forecast_fits : (journal : List ℕ) → (forecast journal).length < 4294967296
unfolding no_forecast
forecast_fits journal = go (true_or_false (ltb 65536 (length journal))) (text_of journal).refusal refl
  where
    go : (ltb 65536 (length journal) ≡ true) ⊎ Short journal → (o : Option Refusal) → (text_of journal).refusal ≡ o
        → (forecast journal).length < 4294967296
    go (inl long) o e = rw (forecast_of_long journal long) (omega arith)
    go (inr short) (some r) e = rw (forecast_of_stopped journal short e) (omega arith)
    go (inr short) none e =
        rw
        (forecast_of_whole journal short e)
        (text_fits journal (ltb_ge 65536 (length journal) short))
