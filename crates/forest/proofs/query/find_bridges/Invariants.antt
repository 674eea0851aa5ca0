use Rattle.std.proofs.Common.{◌≡◌, ◌-◌, ◌≤◌}
use Rattle.table.specs.Same.{IsSame}
use Rattle.forest.specs.Inside.Climb.{climb_route}
use Rattle.forest.specs.Inside.Queries.{find_from, bridges_found}
use Rattle.forest.proofs.query.find_bridges.Given as goal

-- the steps left, from the table and the count at hand, give the whole answer
abbrev pub invariant-loop-i : goal.invariant-loop-i
invariant-loop-i l =
    let t = l.fn.t.words.now in
    let limits = l.fn.t.shape.limits in
    let steps = (climb_route t limits l.fn.a.0 l.fn.b.0).steps in
    (find_from l.t.words.now limits l.i (steps - l.i) l.count ≡ bridges_found t limits l.fn.a.0 l.fn.b.0)
    × (l.count ≤ l.i)
    × IsSame l.fn.t l.t
