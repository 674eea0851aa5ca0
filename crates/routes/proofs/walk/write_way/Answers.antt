-- `walk::write_way` writes down the edges of a way. The loop's invariant: the first i of them are written down, and the way
-- goes on from x.
use mathlib.Core.Path.{sym, ◌∙◌, ap}
use native.Mathlib.Omega.{arith}
use Rattle.std.proofs.Common.{rules}
use Rattle.graph.proofs.Truth.{eqb_eq, eqb_ne}
use Rattle.forest.specs.Promise.{vertices_held}
use Rattle.routes.specs.Inside.Frame.{column_of, column_only}
use Rattle.routes.proofs.Frames.{column_known, column_above, only_refl, only_trans, only_vertex}
use Rattle.routes.proofs.WalksWritten.{write_begins, write_ends, written_fits, write_goes_on, step_stands}
use Rattle.routes.proofs.walk.write_way.Goals as goal

pub loop-i-init : goal.loop-i-init
loop-i-init c = (
  only_refl c.args.n.now.table.shape (column_only (column_of c.args.route)) c.args.n.now.table.words.now c.args.n.now.holds,
  λ g f is o n e. write_begins c.args.n.now.table.words.now e,
  search rules,
)

pub returns-then-eq-clause-written : goal.returns-then-eq-clause-written
returns-then-eq-clause-written c =
    let now = c.loop-i in
    record {
      only = now.invariant.0;
      written = λ g f is o n e short. write_ends o (now.invariant.1 g f is o n e) (eqb_eq _ _ (sym c.eq.ensures ∙ c.if-eq.true));
    }

pub returns-in_default-clause-written : goal.returns-in_default-clause-written
returns-in_default-clause-written c =
    let now = c.loop-i in
    record {
      only = now.invariant.0;
      written = λ g f is o n e short.
          absurd (step_stands o (now.invariant.1 g f is o n e) c.args.n.now.table.words.now is n (column_above c.args.route) now.invariant.0
          (eqb_ne _ _ (sym c.eq.ensures ∙ c.if-eq.false))
          (sym (rw now.invariant.2.shape at c.vertex_scratch.ensures) ∙ c.in_default.ensures));
    }

pub loop-i-preserved : goal.loop-i-preserved
loop-i-preserved c =
    let now = c.loop-i in
    let same = now.invariant.2.shape in
    let stored = rw (c.column.ensures, same) at c.set_vertex_scratch.ensures.stored in (
      only_trans now.invariant.0 (only_vertex stored),
      λ g f is o n e.
          write_goes_on o (now.invariant.1 g f is o n e) c.args.n.now.table.words.now _ c.in-Some.s.0 is n (column_above c.args.route) (column_known c.args.route)
          (omega arith) now.invariant.0 (eqb_ne _ _ (sym c.eq.ensures ∙ c.if-eq.false))
          (omega (arith, c.in-Some.ensures.0, rw same at c.vertex_scratch.ensures)) stored
          c.far_end-x.result.0 (rw (c.set_vertex_scratch.ensures.same.shape ∙ same) at c.far_end-x.ensures),
      search rules,
    )

pub returns-clause-written : goal.returns-clause-written
returns-clause-written c =
    let now = c.loop-i in
    record {
      only = now.invariant.0;
      written = λ g f is o n e short.
          let fits = written_fits o (now.invariant.1 g f is o n e) in
          absurd (omega (arith, short, fits, ap (λ h. h.vertices) is, vertices_held c.args.n.now.table.shape c.args.n.now.table.words.now));
    }
