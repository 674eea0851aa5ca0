use Rattle.std.proofs.Common.{◌≡◌, ◌+◌, ◌-◌}
use Rattle.table.specs.Same.{IsSame}
use Rattle.forest.specs.Inside.Climb.{join_from}
use Rattle.forest.proofs.climb.join.Given as goal

-- joining what is left to what is there gives the whole joined table
abbrev pub invariant-loop-step : goal.invariant-loop-step
invariant-loop-step l =
    (join_from (l.right - l.step) l.t.words.now l.t.shape.limits (l.kept + l.step)
    ≡ join_from l.right l.initial.t.words.now l.initial.t.shape.limits l.kept)
    × IsSame l.initial.t l.t
