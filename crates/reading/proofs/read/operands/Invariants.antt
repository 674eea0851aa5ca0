-- The loop of `read::operands` has read the first k operands.
use Rattle.std.proofs.Common.{◌≡◌, ◌<◌, ℕ, length, get_or, drop}
use Rattle.commands.specs.Command.{operand}
use Rattle.reading.proofs.read.operands.Given as goal

abbrev pub invariant-loop-k : goal.invariant-loop-k
invariant-loop-k g l = record {
  as_many : length l.values ≡ g.row.N;
  first : (i : ℕ) → i < l.k → get_or l.values i 0 ≡ operand (drop l.from l.journal) i;
}
