use Rattle.std.proofs.Common.{◌≡◌, ◌-◌, ◌<◌}
use Rattle.table.specs.Same.{IsSame}
use Rattle.forest.proofs.TreeSteps.{turn_all}
use Rattle.forest.proofs.tree.turn.Given as goal

-- turning what is left, from the table at hand, gives the whole answer
abbrev pub invariant-loop-step : goal.invariant-loop-step
invariant-loop-step l =
    (turn_all (l.fn.steps - l._step) l.t.words.now l.t.shape.limits l.s ≡ turn_all l.fn.steps l.initial.t.words.now l.initial.t.shape.limits l.initial.s)
    × (l.s.by.0 < 4294967295)
    × IsSame l.initial.t l.t
