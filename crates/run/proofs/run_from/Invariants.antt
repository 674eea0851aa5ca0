use lib.ListN.{length}
use Prim.Native.Nat.{◌-◌}
use Rattle.run.specs.Inside.Runs.{going, at_start, SoFar}
use Rattle.run.proofs.run_from.Given as goal

abbrev pub invariant-loop-pace : goal.invariant-loop-pace
invariant-loop-pace g l =
    let A = g.A.Answers in
    let n = l.fn.n.table in
    record {
      so_far :
          SoFar A.account (A.account.later (at_start n.shape) l.journal n.words.now (A.buffer l.fn.answers))
          (going l.n.table.shape l.pace) l.journal l.n.table.words.now (A.buffer l.answers);
      same : A.same l.fn.answers l.answers;
    }

abbrev pub decreases-loop-pace : goal.decreases-loop-pace
decreases-loop-pace g l = length l.journal - l.pace.place
