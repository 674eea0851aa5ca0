-- With the numbers from the k-th on stored too, all are.
use mathlib.Core.List.{◌∷◌}
use mathlib.Core.Path.{◌≡◌}
use Prim.Native.Nat.{◌+◌, ◌*◌}
use lib.ListN.{drop, length}
use lib.Seq.{sets}
use Rattle.storing.specs.Numbers.{number_bytes}
use Rattle.storing.proofs.put_numbers.Given as goal

abbrev pub invariant-loop-k : goal.invariant-loop-k
invariant-loop-k l = record {
  left : sets l.out (l.at + 1 + 2 * l.k) (number_bytes (drop l.k l.numbers)) ≡ sets l.fn.out l.at (l.byte ∷ number_bytes l.numbers);
  as_long : length l.out ≡ length l.fn.out;
}
