use Rattle.std.proofs.Common.{◌≡◌, ◌-◌, ◌≤◌}
use Rattle.table.specs.Inside.Merge.{rename_from, rename_pass}
use Rattle.table.specs.Same.{IsSame}
use Rattle.table.proofs.words.Table.rename_pass.Given as goal

abbrev pub invariant-loop-x : goal.invariant-loop-x
invariant-loop-x l =
    (rename_from l.self.words.now l.area l.w l.x (l.fn.p.to - l.x) l.count ≡ rename_pass l.initial.self.words.now l.area l.w l.fn.p)
    × (l.count ≤ l.x)
    × IsSame l.initial.self l.self
