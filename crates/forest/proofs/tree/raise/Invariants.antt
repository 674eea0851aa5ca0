use Rattle.std.proofs.Common.{◌≡◌, ◌-◌}
use Rattle.table.specs.Same.{IsSame}
use Rattle.forest.specs.Inside.Tree.{raise_from}
use Rattle.forest.proofs.tree.raise.Given as goal

-- raising the vertices left, from the table at hand, gives the whole answer
abbrev pub invariant-loop-i : goal.invariant-loop-i
invariant-loop-i l =
    (raise_from (l.changed - l.i) l.t.words.now l.t.shape.limits l.by l.i
    ≡ raise_from l.changed l.initial.t.words.now l.initial.t.shape.limits l.by 0)
    × IsSame l.initial.t l.t
