-- How a rewriting ends, with what it returns and leaves: refused as the forecast is, at a 0B, or for its length; or with the result.
use mathlib.Core.List.{List, []}
use mathlib.Core.Logic.{◌⊎◌, inl, inr}
use mathlib.Core.Path.{◌≡◌, refl, sym, ◌∙◌, ap}
use Prim.Native.Nat.{ℕ, ◌≤◌, ◌<◌}
use native.Mathlib.Omega.{arith}
use lib.ListN.{length}
use Rattle.graph.proofs.Truth.{ltb_ge, ge_ltb}
use Rattle.commands.specs.Entry.{over}
use Rattle.std.specs.Prelude.{Ok, Err}
use Rattle.std.proofs.Math.Option.{some}
use Rattle.commands.specs.Refusal.{refusal_number}
use Rattle.commands.specs.Forecast.{no_forecast, forecast}
use Rattle.commands.specs.Text.{text_of}
use Rattle.commands.specs.Rewrite.{Rewriting, rewritten_bytes, rewrite, first_duct_told}
use Rattle.commands.proofs.Table.{number_above_zero}
use Rattle.commands.proofs.ForecastExactly.{forecast_nought_exactly}
use Rattle.commands.proofs.RewriteExactly.{TooLong, rewrite_as_forecast, rewrite_of_told, rewrite_of_too_long, rewrite_of_fitting}
use Rattle.storing.proofs.Sets.{sets_front}
use Rattle.refusals.specs.Causes.{cause_of}
use Rattle.refusals.specs.declared.Refusal.TheVariants as R
use Rattle.refusals.specs.declared.RefusedAt.{RefusedAt}
use Rattle.forecast.specs.Promise.{foretold}
use Rattle.rewriting.specs.Promise.{Rewrote}
use Rattle.reading.specs.Inside.Places.{Readable}
use Rattle.rewriting.specs.Inside.Writes.{result_stored, Result}

-- a journal that the forecast accepts is read to its end, and the other way round
pub readable : (journal : List ℕ) (n : ℕ) → foretold (length journal) (Ok n) ≡ forecast journal → Readable journal
unfolding foretold
readable journal n told =
    let (short, whole) = (forecast_nought_exactly journal).0 (sym (ap (λ f. f.number) told)) in
    record { short = ltb_ge 65536 (length journal) short; whole = whole }

accepted : {journal : List ℕ} → Readable journal → (forecast journal).number ≡ 0
accepted {journal} r = (forecast_nought_exactly journal).1 (ge_ltb 65536 (length journal) r.short, r.whole)

module _ {journal lent : List ℕ} where
  -- a refusal leaves the buffer as it was
  refused_with_lem : {number place : ℕ} → rewrite (length lent) journal ≡ record { number = number; place = place; result = [] }
      → {refused : RefusedAt} → refusal_number (cause_of refused.refusal) ≡ number → refused.place ≡ place → Rewrote journal lent lent (Err refused)
  unfolding over foretold no_forecast
  refused_with_lem e n p =
      record {
        number_is = n ∙ sym (ap (λ (q : Rewriting). q.number) e);
        place_is = p ∙ sym (ap (λ (q : Rewriting). q.place) e);
        length_is = sym (ap (λ (q : Rewriting). length q.result) e);
        output_is = sym (ap (λ (q : Rewriting). over q.result lent) e);
      }

  -- what the forecast refuses
  pub refused_as_foretold : (refused : RefusedAt) → foretold (length journal) (Err refused) ≡ forecast journal
      → Rewrote journal lent lent (Err refused)
  unfolding foretold no_forecast
  refused_as_foretold refused told =
      let n : refusal_number (cause_of refused.refusal) ≡ (forecast journal).number = ap (λ f. f.number) told in
      let p : refused.place ≡ (forecast journal).place = ap (λ f. f.place) told in
      refused_with_lem
      (rewrite_as_forecast (length lent) journal (λ z. omega (arith, number_above_zero (cause_of refused.refusal), n, z)))
      n
      p

  -- a 0B
  pub refused_as_told : (refused : RefusedAt) (n : ℕ) → foretold (length journal) (Ok n) ≡ forecast journal
      → (first_duct_told (text_of journal).commands ≡ some refused.place) × (refused.refusal ≡ R.DuctTold) → Rewrote journal lent lent (Err refused)
  unfolding refusal_number foretold
  refused_as_told refused n read told =
      refused_with_lem
      (rewrite_of_told (length lent) journal (sym (ap (λ f. f.number) read)) told.0)
      (ap (λ q. refusal_number (cause_of q)) told.1)
      refl

  module _ {n : ℕ} (result : Result journal n) where
    -- a result that is longer than a journal, or than the buffer
    pub refused_as_long : (65536 < n) ⊎ (length lent < n) → {refused : RefusedAt} → refused.refusal ≡ R.LongResult → refused.place ≡ 0
        → Rewrote journal lent lent (Err refused)
    unfolding refusal_number
    refused_as_long long e p =
        refused_with_lem
        (rewrite_of_too_long (length lent) journal (accepted result.readable) result.none_told (go long))
        (ap (λ q. refusal_number (cause_of q)) e)
        p
      where
        go : (65536 < n) ⊎ (length lent < n) → TooLong (length lent) journal
        go (inl h) = inl (omega (arith, h, result.length_is))
        go (inr h) = inr (omega (arith, h, result.length_is))

    -- any other is stored, and told with its length
    pub result_told : {left : List ℕ} → n ≤ 65536 → n ≤ length lent → left ≡ result_stored journal lent → {told : ℕ} → told ≡ n
        → Rewrote journal lent left (Ok told)
    unfolding foretold
    result_told fits room stored t =
        let long : length (rewritten_bytes journal) ≡ n = sym result.length_is in
        let given =
        rewrite_of_fitting (length lent) journal (accepted result.readable) result.none_told
        (omega (arith, fits, long), omega (arith, room, long)) in
        record {
          number_is = sym (ap (λ (q : Rewriting). q.number) given);
          place_is = sym (ap (λ (q : Rewriting). q.place) given);
          length_is = t ∙ result.length_is ∙ sym (ap (λ (q : Rewriting). length q.result) given);
          output_is =
              stored ∙ sets_front lent (rewritten_bytes journal) (omega (arith, room, long))
              ∙ sym (ap (λ (q : Rewriting). over q.result lent) given);
        }
