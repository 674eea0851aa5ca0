use Rattle.std.proofs.Common.{◌≡◌, ◌-◌}
use Rattle.table.specs.Inside.Merge.{absorb_from, absorb_listed}
use Rattle.table.specs.Same.{IsSame}
use Rattle.table.proofs.words.Table.absorb_all.Given as goal

abbrev pub invariant-loop-i : goal.invariant-loop-i
invariant-loop-i l =
    (absorb_from l.self.words.now l.area l.l l.w l.i (l.l.count - l.i) l.p ≡ absorb_listed l.initial.self.words.now l.area l.l l.w)
    × IsSame l.initial.self l.self
