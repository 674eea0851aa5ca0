-- `run_alone` refuses a journal that is too long or whose run is refused, and else gives the size of its network.
use mathlib.Core.Path.{refl}
use native.Mathlib.Omega.{arith}
use lib.ListN.{length}
use Rattle.commands.proofs.Bytes.{bytes_by_place}
use Rattle.forest.specs.Promise.{same_beyond_refl}
use Rattle.joining.specs.Inside.Alone.{greatest}
use Rattle.joining.proofs.RunAlone.{words_enough, too_long_alone, beyond_alone, refused_alone, few_cabinets, few_spans, holds_alone}
use Rattle.joining.proofs.alone.run_alone.Goals as goal

pub returns-then-journal-gt-LONGEST : goal.returns-then-journal-gt-LONGEST
returns-then-journal-gt-LONGEST c =
    let bytes = bytes_by_place c.args.journal.now (λ i h. omega (arith, c.type_inv.journal i)) in
    (too_long_alone c.args.journal.now (omega (arith, c.if-journal-gt-LONGEST.true)), same_beyond_refl greatest c.args.work.now, bytes)

pub run_unanswered-p-requires : goal.run_unanswered-p-requires
unfolding greatest
run_unanswered-p-requires c =
    (omega arith, omega arith, words_enough (length c.args.work.now) c.requires, omega (arith, c.if-journal-gt-LONGEST.false))

pub returns-in-Some : goal.returns-in-Some
unfolding greatest
returns-in-Some c =
    let bytes = bytes_by_place c.args.journal.now (λ i h. omega (arith, c.type_inv.journal i)) in
    let journal = c.args.journal.now in
    let ran = c.run_unanswered-p.ensures in
    (refused_alone journal ran c.in-Some.is, beyond_alone journal ran, bytes)

pub overflow_cast-result : goal.overflow_cast-result
unfolding greatest
overflow_cast-result c = omega (arith, few_cabinets c.args.journal.now c.run_unanswered-p.ensures c.in-None.is)

pub overflow_cast-result-in-None : goal.overflow_cast-result-in-None
unfolding greatest
overflow_cast-result-in-None c = omega (arith, few_spans c.args.journal.now c.run_unanswered-p.ensures c.in-None.is)

pub returns-in-None : goal.returns-in-None
unfolding greatest
returns-in-None c =
    let bytes = bytes_by_place c.args.journal.now (λ i h. omega (arith, c.type_inv.journal i)) in
    let journal = c.args.journal.now in
    let ran = c.run_unanswered-p.ensures in (
      holds_alone journal ran c.in-None.is (omega (arith, c.if-journal-gt-LONGEST.false)) refl refl,
      beyond_alone journal ran,
      bytes,
    )
