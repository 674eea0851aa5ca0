use Prim.Native.Nat.{◌-◌}
use mathlib.Core.Bool.{true}
use mathlib.Core.Path.{◌≡◌}
use lib.ListN.{length}
use Rattle.commands.specs.Bytes.{all_bytes}
use Rattle.rewriting.specs.Inside.Measures.{MeasuredTo}
use Rattle.rewriting.proofs.measure.Given as goal

abbrev pub invariant-loop-reader : goal.invariant-loop-reader
invariant-loop-reader l = record {
  same : l.reader.journal.now ≡ l.journal;
  bytes : all_bytes l.reader.journal.now ≡ true;
  so_far : MeasuredTo l.reader.journal.now l.length l.reader.place;
}

abbrev pub decreases-loop-reader : goal.decreases-loop-reader
decreases-loop-reader l = length l.reader.journal.now - l.reader.place
