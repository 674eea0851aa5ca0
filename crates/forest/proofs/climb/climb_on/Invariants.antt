use Rattle.std.proofs.Common.{◌≡◌, ◌+◌, ◌≤◌}
use Rattle.table.specs.Same.{IsSame}
use Rattle.forest.specs.Inside.Climb.{climb_from}
use Rattle.forest.proofs.climb.climb_on.Given as goal

-- climbing what is left from where the climb has come gives the whole climb
abbrev pub invariant-loop-some : goal.invariant-loop-some
invariant-loop-some l =
    (climb_from l.remaining l.t.words.now l.t.shape.limits l.r
    ≡ climb_from l.initial.remaining l.initial.t.words.now l.initial.t.shape.limits l.initial.r)
    × (l.r.left + l.r.right + l.remaining ≤ l.initial.r.left + l.initial.r.right + l.initial.remaining)
    × IsSame l.initial.t l.t

abbrev pub decreases-loop-some : goal.decreases-loop-some
decreases-loop-some l = l.remaining
