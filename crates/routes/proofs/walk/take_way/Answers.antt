-- `walk::take_way` takes a way that is written down. The loop's invariant: the first i steps are taken, and the rest from x
-- leaves what the whole way does.
use mathlib.Core.Path.{refl, ◌∙◌, ap}
use native.Mathlib.Omega.{arith}
use Rattle.forest.specs.Promise.{IsSame}
use Rattle.routes.specs.Promise.{edge_at}
use Rattle.routes.specs.Inside.Frame.{column_of}
use Rattle.routes.proofs.Frames.{column_known, only_trans}
use Rattle.routes.proofs.WalksWay.{Stepped, take_ends, take_goes_on, stepped_then, stepped_not}
use Rattle.routes.proofs.walk.take_way.Goals as goal
use Rattle.routes.proofs.walk.take_way.Goals.{then-s-n, else-s-n}

pub loop-i-preserved : goal.loop-i-preserved
unfolding edge_at
loop-i-preserved c =
    let now = c.loop-i in
    let same = now.invariant.2.shape in
    let went : Stepped c.args.n.now.table.shape c.loop-i.x.0 c.edge_at-s.result.0 c.loop-i.n.table.words.now c.if-s-n.n.table.words.now × IsSame c.loop-i.n.table c.if-s-n.n.table =
    elim c.if-s-n.branch [
      | then-s-n w ↦ (stepped_then (rw same at w.take_step.ensures.taken) (ap (λ n. n.table.words.now) w.n-is), rw w.n-is w.take_step.ensures.same)
      | else-s-n w ↦
          (stepped_not (rw same at now.n.holds) (rw same at w.if-s-n.false) (ap (λ n. n.table.words.now) w.n-is), rw w.n-is (record { shape = refl; words = refl }))
    ] in (
      only_trans now.invariant.0 went.0.only,
      λ g u ps is listed usable fits short written.
          take_goes_on (column_of c.args.route) c.args.count c.args.n.now.table.words.now written is short (column_known c.args.route) now.invariant.0
          (now.invariant.1 g u ps is listed usable fits short written) (omega arith)
          c.edge_at-s.result.0 (rw same at c.edge_at-s.ensures) went.0.done
          c.far_end-x.result.0 (rw (went.1.shape ∙ same) at c.far_end-x.ensures),
      record { shape = went.1.shape ∙ same; words = went.1.words ∙ now.invariant.2.words },
    )

pub returns-clause-taken : goal.returns-clause-taken
returns-clause-taken c =
    let now = c.loop-i in
    let args = c.args in
    record {
      only = now.invariant.0;
      taken = λ g u ps is listed usable fits short written.
          take_ends (column_of args.route) args.count c.args.n.now.table.words.now written (now.invariant.1 g u ps is listed usable fits short written)
          (omega arith);
    }
