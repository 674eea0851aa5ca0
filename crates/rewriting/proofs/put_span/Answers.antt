-- `put_span` stores 0B, the operands and the duct, one behind another.
use native.Mathlib.Omega.{arith}
use Prim.Native.Nat.{◌+◌}
use lib.Seq.{slice, length-slice}
use Rattle.commands.specs.Bytes.{two_bytes}
use Rattle.storing.proofs.Sets.{stored_behind_one}
use Rattle.rewriting.proofs.put_span.Goals as goal

pub returns : goal.returns
returns c =
    let args = c.args in
    let from = args.reader.place + 1 in
    let journal = args.reader.journal.now in
    rw (c.put_two.ensures, c.copy.ensures, c.put_byte.ensures)
    (stored_behind_one
    args.out.now
    args.at
    (args.at + 1 + args.width)
    0x0B
    (slice from (from + args.width) journal)
    (two_bytes args.duct)
    (omega (arith, length-slice from (from + args.width) journal c.requires.0)))
