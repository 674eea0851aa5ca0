-- `put_journals` stores one journal behind the other.
use native.Mathlib.Omega.{arith}
use Rattle.joining.proofs.Both.{both_stored}
use Rattle.joining.proofs.joined.put_journals.Goals as goal

pub returns : goal.returns
returns c =
    both_stored
    c.args.first.now
    c.args.second.now
    c.args.seams
    c.args.counts
    c.args.out.now
    (omega (arith, c.if-size-gt-LONGEST.false))
    (omega (arith, c.if-out-size.false))
    c.copy.ensures
    c.put_raised.ensures
