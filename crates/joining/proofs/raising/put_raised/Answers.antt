-- `put_raised` stores command after command; where the journal is read to its end, one stands at each place.
use mathlib.Core.Path.{◌≡◌, ◌∙◌, ap}
use Prim.Native.Nat.{◌<◌}
use native.Mathlib.Omega.{arith}
use lib.ListN.{length}
use Rattle.commands.specs.Command.{command}
use Rattle.commands.proofs.Bytes.{bytes_by_place}
use Rattle.commands.proofs.TextAt.{reading_here}
use Rattle.reading.specs.Inside.Reads.{meaning, reading_of}
use Rattle.joining.specs.Inside.Seams.{one_of}
use Rattle.joining.proofs.Orders.{order_fits}
use Rattle.joining.proofs.Going.{never_unread, stands_whole, read_fits, room_raised, raised_on, raised_at_start, raisable_here, raised_behind, raised_to_end}
use Rattle.joining.proofs.raising.put_raised.Goals as goal

pub loop-reader-init : goal.loop-reader-init
loop-reader-init c = record {
  same = ap (λ b. b.now) c.new-reader.ensures.0;
  so_far = raised_at_start c.args.journal.now c.args.at (one_of c.args.by) c.args.out.now c.requires.0 c.new-reader.ensures.1;
}

pub returns-in_default : goal.returns-in_default
returns-in_default c =
    let here = c.loop-reader.invariant in
    absurd
    (never_unread c.args.journal.now c.loop-reader.reader.place (omega (arith, ap length here.same)) here.so_far.whole_here c.in_default.field-0
    (rw here.same at c.in_default.ensures))

pub raise-requires : goal.raise-requires
unfolding reading_of
raise-requires c =
    let here = c.loop-reader.invariant in
    let reads : command (meaning c.in-Ok.taken.command) c.in-Ok.taken.width ≡ reading_here c.args.journal.now c.loop-reader.reader.place =
    rw here.same at c.in-Ok.ensures in
    order_fits _
    (read_fits c.args.journal.now c.loop-reader.reader.place (omega (arith, ap length here.same)) _ _ reads
    (bytes_by_place c.args.journal.now (λ i h. omega (arith, c.type_inv.journal i))))

pub put_order-requires : goal.put_order-requires
unfolding reading_of
put_order-requires c =
    let here = c.loop-reader.invariant in
    let reads : command (meaning c.in-Ok.taken.command) c.in-Ok.taken.width ≡ reading_here c.args.journal.now c.loop-reader.reader.place =
    rw here.same at c.in-Ok.ensures in
    let inside : c.loop-reader.reader.place < length c.args.journal.now = omega (arith, ap length here.same) in
    rw c.raise.ensures
    (room_raised c.args.journal.now c.loop-reader.reader.place inside _ _ reads (one_of c.args.by)
    (raisable_here c.args.journal.now c.args.at (one_of c.args.by) here.so_far c.requires.0 inside c.requires.1))

pub further-reader-requires : goal.further-reader-requires
unfolding reading_of
further-reader-requires c =
    stands_whole c.loop-reader.reader.journal.now c.loop-reader.reader.place c.loop-reader-test.true (meaning c.in-Ok.taken.command) _ c.in-Ok.ensures

pub loop-reader-preserved : goal.loop-reader-preserved
unfolding reading_of
loop-reader-preserved c =
    let here = c.loop-reader.invariant in
    let reads : command (meaning c.in-Ok.taken.command) c.in-Ok.taken.width ≡ reading_here c.args.journal.now c.loop-reader.reader.place =
    rw here.same at c.in-Ok.ensures in
    let inside : c.loop-reader.reader.place < length c.args.journal.now = omega (arith, ap length here.same) in
    record {
      same = ap (λ b. b.now) c.further-reader.ensures.0 ∙ here.same;
      so_far =
          rw (c.further-reader.ensures.1, c.put_order.ensures, c.raise.ensures)
          (raised_behind c.args.journal.now c.args.at (one_of c.args.by) here.so_far
          (raised_on c.args.journal.now c.loop-reader.reader.place inside _ _ reads (one_of c.args.by)
          (raisable_here c.args.journal.now c.args.at (one_of c.args.by) here.so_far c.requires.0 inside c.requires.1)));
    }

pub returns : goal.returns
returns c =
    raised_to_end c.args.journal.now c.args.at (one_of c.args.by) c.loop-reader.invariant.so_far
    (omega (arith, ap length c.loop-reader.invariant.same))
