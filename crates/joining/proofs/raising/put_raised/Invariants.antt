-- With what is left of the journal stored too, the whole of it is. The measure is how many bytes are left.
use mathlib.Core.Path.{◌≡◌}
use Prim.Native.Nat.{◌-◌}
use lib.ListN.{length}
use Rattle.joining.specs.Inside.Seams.{one_of}
use Rattle.joining.specs.Inside.Raising.{RaisedTo}
use Rattle.joining.proofs.raising.put_raised.Given as goal

abbrev pub invariant-loop-reader : goal.invariant-loop-reader
invariant-loop-reader l = record {
  same : l.reader.journal.now ≡ l.journal;
  so_far : RaisedTo l.journal l.at (one_of l.by) l.fn.out l.out l.reader.place;
}

abbrev pub decreases-loop-reader : goal.decreases-loop-reader
decreases-loop-reader l = length l.reader.journal.now - l.reader.place
