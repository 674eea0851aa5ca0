-- `fill` has added as many vertices as it has gone on, and may add as many as there is room for.
use Rattle.std.proofs.Common.{◌≡◌}
use Rattle.networks.proofs.fill.Given as goal

abbrev pub invariant-loop : goal.invariant-loop
invariant-loop l = record {
  added : l.n.table.shape.vertices ≡ l.counter;
  most : l.n.table.shape.limits.vertices ≡ l.end;
}
