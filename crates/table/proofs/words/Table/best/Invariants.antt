use Rattle.std.proofs.Common.{◌≡◌, ◌-◌}
use Rattle.table.specs.Inside.Merge.{items_from, best_over, best_listed}
use Rattle.table.proofs.words.Table.best.Given as goal

abbrev pub invariant-loop-i : goal.invariant-loop-i
invariant-loop-i l =
    best_over l.self.words.now l.area l.w (items_from l.self.words.now l.l l.i (l.l.count - l.i)) ≡ best_listed l.self.words.now l.area l.l
