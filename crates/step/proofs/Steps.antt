-- A step: what the tests give decides whether the command is refused or carried out.
use mathlib.Core.List.{List}
use mathlib.Core.Path.{◌≡◌, sym, ◌∙◌, ap}
use Prim.Native.Nat.{ℕ}
use Rattle.std.specs.Prelude.{Ok, Err}
use Rattle.numbers.specs.declared.Shape.{Shape}
use Rattle.refusals.specs.declared.Refusal.{Refusal}
use Rattle.forest.specs.Promise.{same_beyond_refl}
use Rattle.reading.specs.declared.read.Order.{Order}
use Rattle.reading.specs.Inside.Reads.{meaning}
use Rattle.step.specs.declared.Reply.{Reply}
use Rattle.step.specs.Promise.{Carried, StepPromise}
use Rattle.step.specs.Inside.Judged.{judgement}
use Rattle.step.proofs.Judgements.{cause_met, judged}

module _ (shape : Shape) (order : Order) (t : List ℕ) where
  -- a test that refuses does so for the table's cause
  pub refused_step : {refusal : Refusal} → Err refusal ≡ judgement shape t order → StepPromise shape (meaning order) t t (Err refusal)
  refused_step e =
      record { refused = sym (judged shape t order) ∙ ap cause_met (sym e); same_beyond = same_beyond_refl shape.limits t }

  -- where all pass, the table gives none
  pub done_step : {new : List ℕ} {reply : Reply} → judgement shape t order ≡ Ok tt → Carried shape (meaning order) t new reply
      → StepPromise shape (meaning order) t new (Ok reply)
  done_step e carried = record { not_refused = sym (judged shape t order) ∙ ap cause_met e; carried = carried }
