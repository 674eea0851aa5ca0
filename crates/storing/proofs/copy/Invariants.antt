use mathlib.Core.Path.{◌≡◌}
use Prim.Native.Nat.{◌+◌}
use lib.ListN.{length}
use lib.Seq.{sets, slice}
use Rattle.storing.proofs.copy.Given as goal

-- with the bytes from the k-th on stored too, all are
abbrev pub invariant-loop-k : goal.invariant-loop-k
invariant-loop-k l = record {
  left : sets l.out (l.at + l.k) (slice (l.from + l.k) l.to l.source) ≡ sets l.fn.out l.at (slice l.from l.to l.source);
  as_long : length l.out ≡ length l.fn.out;
}
