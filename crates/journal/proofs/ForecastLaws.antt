-- The forecast's entry: its three numbers are those of the forecast, whose length suffices.
use mathlib.Core.List.{List, map}
use mathlib.Core.Logic.{◌⊎◌, inl, inr}
use mathlib.Core.Path.{◌≡◌, refl, sym, ◌∙◌, ap}
use Prim.Native.Nat.{ℕ, ◌<◌}
use native.Mathlib.Omega.{arith}
use lib.ListN.{length}
use Rattle.commands.specs.Text.{text_of}
use Rattle.commands.specs.Register.{register_rule, register_routes, register}
use Rattle.commands.specs.Forecast.{sufficient, forecast, Suffices}
use Rattle.commands.specs.Forecast as Paper
use Rattle.commands.proofs.WholeRun.{register-mates, register_serves}
use Rattle.commands.proofs.ForecastExactly.{Short, forecast_four_exactly, forecast_five_exactly, forecast_nought_exactly, forecast_with_nought, forecast_of_front}
use Rattle.commands.proofs.ForecastRoom.{never_without_room}
use Rattle.std.specs.Prelude.{Result, Ok, Err, OnOk}
use Rattle.graph.proofs.Truth.{ltb_ge}
use Rattle.refusals.specs.declared.RefusedAt.{RefusedAt}
use Rattle.forecast.specs.Promise.{foretold}
use Rattle.journal.specs.Promise.{ForecastPromise}

module _ (journal : List ℕ) where
  -- the length for the commands that the journal spells
  abbrev length_for_text : ℕ
  length_for_text = sufficient (map (λ r. r.command) (text_of journal).commands)

  -- it suffices for every run of the journal
  text_suffices : (room : ℕ) → room ≡ length_for_text → Suffices journal room
  unfolding register
  text_suffices room e caps lent h = never_without_room register_rule register-mates register_routes register_serves caps journal lent (rw e at h)

  -- a journal that is refused with 4 or 5 is not too long
  short_if_unread : ((forecast journal).number ≡ 4) ⊎ ((forecast journal).number ≡ 5) → Short journal
  short_if_unread (inl e) = ((forecast_four_exactly journal).0 e).0
  short_if_unread (inr e) = ((forecast_five_exactly journal).0 e).0

  -- so what is forecast is promised
  pub forecast_promised : (returned place room : ℕ) → record { number = returned; place = place; length = room } ≡ forecast journal
      → ForecastPromise journal returned place room
  forecast_promised returned place room e =
      record {
        returned_is = number;
        place_is = at;
        length_is = ap (λ (f : Paper.Forecast). f.length) e;
        suffices = λ accepted.
            text_suffices room (ap (λ (f : Paper.Forecast). f.length) (e ∙ forecast_with_nought journal (sym number ∙ accepted)));
        suffices_before = λ unread.
            let front = forecast_of_front journal (short_if_unread (rw number at unread)) in
            rw at (ap (λ (f : Paper.Forecast). f.number) front, text_suffices _ (ap (λ (f : Paper.Forecast). f.length) front));
      }
    where
      number : returned ≡ (forecast journal).number
      number = ap (λ (f : Paper.Forecast). f.number) e

      at : place ≡ (forecast journal).place
      at = ap (λ (f : Paper.Forecast). f.place) e

  -- what is told of a journal that the forecast accepts can be told with the journal's end
  pub end_fits : (told : Result ℕ RefusedAt) → ((foretold (length journal) told).number ≡ 0 → (forecast journal).number ≡ 0)
      → OnOk told (length journal < 4294967296)
  unfolding foretold
  end_fits (Ok n) accepted = omega (arith, ltb_ge 65536 (length journal) ((forecast_nought_exactly journal).0 (accepted refl)).0)
  end_fits (Err refused) accepted = tt
