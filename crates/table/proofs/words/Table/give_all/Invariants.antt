use Rattle.std.proofs.Common.{◌≡◌, ◌-◌}
use Rattle.table.specs.Inside.Column
use Rattle.table.specs.Inside.Merge.{given_from}
use Rattle.table.specs.Same.{IsSame}
use Rattle.table.proofs.words.Table.give_all.Given as goal

abbrev pub invariant-loop-column : goal.invariant-loop-column
invariant-loop-column l =
    (given_from l.self.words.now l.area l.w l.name l.column (l.area.columns - l.column)
    ≡ given_from l.initial.self.words.now l.area l.w l.name Column.size (l.area.columns - Column.size))
    × IsSame l.initial.self l.self
