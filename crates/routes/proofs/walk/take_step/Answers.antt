-- `walk::take_step` takes a step: the two bits of its edge are stored, and then those of the edge's other mates.
use mathlib.Core.Path.{◌∙◌, ap}
use Prim.Native.Nat.{◌%◌}
use lib.Dec.{eqb}
use Rattle.routes.specs.Inside.Walks.{taken_use}
use Rattle.routes.proofs.WalksSteps.{step_done}
use Rattle.routes.proofs.walk.take_step.Goals as goal

pub returns-clause-taken : goal.returns-clause-taken
returns-clause-taken c =
    let x = c.args.x.0 in
    step_done c.in_word-used.result (eqb c.ends_of-ends.result.left.0 x)
    c.after_step.result c.of_mates_after_step.result
    (c.in_word-used.ensures ∙ ap (λ word. word % 4) c.edge_scratch.ensures)
    (ap (λ v. eqb v x) c.ends_of-ends.ensures.left)
    (c.after_step.ensures ∙ ap (taken_use c.in_word-used.result) c.eq.ensures)
    c.of_mates_after_step.ensures
    c.set_use.ensures.set
    (rw c.set_use.ensures.same.shape at c.set_mates_use.ensures.set)
