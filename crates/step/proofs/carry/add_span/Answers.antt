-- `carry::add_span` adds a span.
use mathlib.Core.Path.{◌≡◌, refl, ◌∙◌, ap}
use native.Mathlib.Omega.{arith}
use Rattle.std.proofs.lemmas.Grind.{common_steps}
use Rattle.std.specs.Prelude.{Option, None, Some, unwrap_or}
use Rattle.numbers.specs.declared.Duct.{Duct}
use Rattle.step.specs.Inside.Asked.{duct_of}
use Rattle.step.proofs.Carries.{span_carried}
use Rattle.step.proofs.carry.add_span.Goals as goal

-- the duct that is told, or 0, is the one that the span lies in
duct_told : (duct : Option Duct) (nought : Duct) → nought.0 ≡ 0 → (unwrap_or duct nought).0 ≡ duct_of duct
unfolding duct_of
duct_told None nought e = e
duct_told (Some d) nought e = refl

pub returns : goal.returns
returns c =
    let lies : c.unwrap_or.result.0 ≡ duct_of c.args.duct = ap (λ (d : Duct). d.0) c.unwrap_or.ensures ∙ duct_told c.args.duct _ refl in
    record {
      carried = span_carried _ (rw lies at c.add_edge-growth.ensures.added) c.args.n.now.holds;
      shape = grind (arith, common_steps, c.add_edge-growth.ensures.shape);
      reference = c.add_edge-growth.ensures.reference;
    }
