-- `read::pass_over` finds that the operands are cut off, or passes over them.
use mathlib.Core.Path.{sym, ◌∙◌}
use native.Mathlib.Omega.{arith}
use lib.ListN.{drop, length-drop}
use Rattle.reading.specs.Inside.Reads.{passing_of}
use Rattle.reading.proofs.ReadSteps.{passed_whole, passed_cut, entry_some}
use Rattle.reading.proofs.read.pass_over.Goals as goal

pub returns-then-journal-from : goal.returns-then-journal-from
unfolding passing_of
returns-then-journal-from c =
    sym
    (passed_cut c.args.byte (drop c.args.from c.args.journal.now) c.args.entry
    (c.requires.0 ∙ entry_some c.args.entry c.if-entry-eq-NONE.false)
    (omega (arith, length-drop c.args.from c.args.journal.now)))

pub returns : goal.returns
unfolding passing_of
returns c =
    sym
    (passed_whole c.args.byte (drop c.args.from c.args.journal.now) c.args.entry
    (c.requires.0 ∙ entry_some c.args.entry c.if-entry-eq-NONE.false)
    (omega (arith, length-drop c.args.from c.args.journal.now)))
