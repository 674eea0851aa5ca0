-- `find_way` is a search, and its way written down.
use Rattle.routes.proofs.Passes.{pass_written}
use Rattle.routes.proofs.find_way.Goals as goal

pub returns-clause-written : goal.returns-clause-written
returns-clause-written c =
    pass_written
    c.args.n.now.table.shape
    c.args.allowance
    c.args.a.0
    c.args.b.0
    c.args.n.now.table.words.now
    c.args.n.now.holds
    c.requires
    c.search.ensures.searched
    (rw c.search.ensures.same.shape at c.write_way.ensures.written)
