-- `write_finding` writes the lists by closures, which give their items.
use mathlib.Core.Path.{◌≡◌, ◌∙◌, ap}
use lib.Seq.{sets}
use Rattle.std.proofs.Common.{rules}
use Rattle.step.specs.declared.Listed.TheVariants as L
use Rattle.step.specs.Promise.{item_at, finding_answer}
use Rattle.writing.proofs.WriteSteps.{spans_listed, cabinets_listed}
use Rattle.writing.proofs.write_finding.Goals as goal

pub returns-in-List-Spans-default : goal.returns-in-List-Spans-default
unfolding finding_answer item_at
returns-in-List-Spans-default g c =
    let at = item_at L.Spans (g.T.Readable.shape c.args.t.now) (g.T.Readable.words c.args.t.now) in
    let count = c.in-List-Spans-default.count in
    let listed : c.in-List-Spans-default.field-0 ≡ L.Spans = rw c.in-List-Spans-default.is at c.in-List-Spans-default.field-0-is in
    rw (c.in-List-Spans-default.is, listed)
    (c.write_list.ensures at (λ i h x given. search rules) ∙ ap (sets c.args.out.now 0) (spans_listed at count))

pub returns-in-List-Cabinets-default : goal.returns-in-List-Cabinets-default
unfolding finding_answer item_at
returns-in-List-Cabinets-default g c =
    let at = item_at L.Cabinets (g.T.Readable.shape c.args.t.now) (g.T.Readable.words c.args.t.now) in
    let count = c.in-List-Cabinets-default.count in
    let listed : c.in-List-Cabinets-default.field-0 ≡ L.Cabinets = rw c.in-List-Cabinets-default.is at c.in-List-Cabinets-default.field-0-is in
    rw (c.in-List-Cabinets-default.is, listed)
    (c.write_list-in-List-Cabinets-default.ensures at (λ i h x given. search rules) ∙ ap (sets c.args.out.now 0) (cabinets_listed at count))
