-- `search::look_all` sees all edges at a vertex. The loop's invariant: the edges from the entry on are left, and give with what was found
-- what all edges give.
use mathlib.Core.Path.{ap}
use Rattle.std.proofs.Common.{rules}
use Rattle.routes.specs.Inside.Lists.{entry_number}
use Rattle.routes.proofs.SearchesLooks.{looking_first, looking_next, looking_last}
use Rattle.routes.proofs.search.look_all.Goals as goal

pub loop-entry-init : goal.loop-entry-init
loop-entry-init c =
    (looking_first c.args.n.now.table.shape c.args.n.now.table.words.now c.args.n.now.holds c.args.allowance c.args.y.0 c.args.found _ c.first_entry-entry.ensures, search rules)

pub loop-entry-preserved : goal.loop-entry-preserved
loop-entry-preserved c =
    let now = c.loop-entry in (
      looking_next c.in-Some.s.0 now.invariant.0 (ap entry_number c.in-Some.is)
          (rw now.invariant.1.shape at c.entry_behind-entry.ensures) (rw now.invariant.1.shape at c.look-reached.ensures.looked),
      search rules,
    )

pub returns-clause-looked : goal.returns-clause-looked
returns-clause-looked c = looking_last c.loop-entry.invariant.0 (ap entry_number c.in_default.is)
