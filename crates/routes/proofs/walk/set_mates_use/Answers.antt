-- `walk::set_mates_use` stores the two bits of the other mates of an edge, along the list of one of its ends. The loop's invariant: those
-- from the entry on are stored.
use mathlib.Core.Path.{ap, ◌∙◌}
use Prim.Native.Nat.{◌<◌}
use native.Mathlib.Omega.{arith}
use Rattle.std.proofs.Common.{rules}
use Rattle.routes.specs.Inside.Frame.{edges_only}
use Rattle.routes.specs.Inside.Lists.{entry_number, entry_behind}
use Rattle.routes.proofs.Frames.{only_refl, only_trans}
use Rattle.routes.proofs.WalksMates.{mates_begin, mates_next}
use Rattle.routes.proofs.walk.set_mates_use.Goals as goal

pub loop-entry-init : goal.loop-entry-init
loop-entry-init c =
    let args = c.args in (
      only_refl c.args.n.now.table.shape edges_only c.args.n.now.table.words.now c.args.n.now.holds,
      omega (arith, c.first_entry-entry.ensures),
      λ g is w e. mates_begin c.args.n.now.table.shape g args.x.0 args.s.0 args.used c.args.n.now.table.words.now is e c.args.n.now.holds w c.requires
          _ c.first_entry-entry.ensures,
      search rules,
    )

pub loop-entry-preserved : goal.loop-entry-preserved
unfolding entry_behind
loop-entry-preserved c =
    let now = c.loop-entry in
    let args = c.args in
    let r = c.in-Some.r.0 in
    let same = now.invariant.3.shape in
    let done = rw same at c.set_mate_use.ensures.set in
    let known : r < c.args.n.now.table.shape.edges = omega (arith, now.invariant.1, ap entry_number c.in-Some.is) in (
      only_trans now.invariant.0 done.only,
      omega (arith, known, c.entry_behind-entry.ensures),
      λ g is w e. mates_next c.args.n.now.table.shape g args.x.0 args.s.0 args.used c.args.n.now.table.words.now is e w _ r
          now.n.table.words.now _ (now.invariant.2 g is w e) (ap entry_number c.in-Some.is) known
          done _ (rw (c.set_mate_use.ensures.same.shape ∙ same) at c.entry_behind-entry.ensures),
      search rules,
    )
