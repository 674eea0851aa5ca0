-- The entry that rewrites: its three numbers and the buffer are those of the rewriting, whose result is answered as the journal was.
use mathlib.Core.Bool.{true}
use mathlib.Core.List.{List}
use mathlib.Core.Path.{◌≡◌, sym, ◌∙◌, ap, subst}
use Prim.Native.Nat.{ℕ, ◌<◌}
use lib.ListN.{length, take, drop}
use lib.Seq.{take_at}
use Rattle.commands.specs.Bytes.{all_bytes}
use Rattle.commands.specs.Entry.{over}
use Rattle.commands.specs.Rewrite.{rewrite, AnsweredAsBefore}
use Rattle.commands.proofs.RewrittenText.{rewrite_answered}
use Rattle.commands.proofs.RewrittenRoom.{rewritten_forecast}
use Rattle.std.specs.Prelude.{Result, OnOk}
use Rattle.commands.specs.Forecast as Paper
use Rattle.commands.proofs.RewriteExactly.{rewrite_nought_exactly}
use Rattle.refusals.specs.declared.RefusedAt.{RefusedAt}
use Rattle.forecast.specs.Promise.{foretold}
use Rattle.rewriting.specs.Promise.{Rewrote}
use Rattle.journal.specs.Promise.{RewritePromise}
use Rattle.journal.proofs.ForecastLaws.{end_fits}

-- a list over the front of a buffer is the first of it
pub front_of_over : (front buffer : List ℕ) (n : ℕ) → length front ≡ n → take n (over front buffer) ≡ front
unfolding over
front_of_over front buffer n e = take_at front (drop (length front) buffer) n e

-- what is rewritten is of a journal that the forecast accepts
pub rewritten_fits : (journal : List ℕ) {lent left : List ℕ} (told : Result ℕ RefusedAt) → Rewrote journal lent left told
    → OnOk told (length journal < 4294967296)
rewritten_fits journal {lent} told w =
    end_fits journal told (λ accepted. ((rewrite_nought_exactly (length lent) journal).0 (sym w.number_is ∙ accepted)).0)

-- so what is rewritten is promised
pub rewrite_promised : (journal lent left : List ℕ) {told : Result ℕ RefusedAt} → all_bytes journal ≡ true → Rewrote journal lent left told
    → {number place room : ℕ} → record { number = number; place = place; length = room } ≡ foretold (length journal) told
    → RewritePromise journal lent number place room left
rewrite_promised journal lent left are w {number} {place} {room} told_as =
    record {
      returned_is = number_is;
      place_is = ap (λ (f : Paper.Forecast). f.place) told_as ∙ w.place_is;
      length_is = length_is;
      output_is = w.output_is;
      answered_as_before = λ accepted.
          subst (AnsweredAsBefore journal) (sym front) (rewrite_answered (length lent) journal are (sym number_is ∙ accepted));
      same-forecast = λ accepted.
          rw (front, length_is) (rewritten_forecast (length lent) journal are (sym number_is ∙ accepted));
    }
  where
    number_is : number ≡ (rewrite (length lent) journal).number
    number_is = ap (λ (f : Paper.Forecast). f.number) told_as ∙ w.number_is

    length_is : room ≡ length (rewrite (length lent) journal).result
    length_is = ap (λ (f : Paper.Forecast). f.length) told_as ∙ w.length_is

    -- the result stands at the front of the buffer
    front : take room left ≡ (rewrite (length lent) journal).result
    front = ap (take room) w.output_is ∙ front_of_over (rewrite (length lent) journal).result lent room (sym length_is)
