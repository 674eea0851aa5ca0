-- `find_and_take` is a search, and its way written down and taken.
use Rattle.routes.proofs.Passes.{pass_taken}
use Rattle.routes.proofs.find_and_take.Goals as goal

pub returns-clause-taken : goal.returns-clause-taken
returns-clause-taken c =
    pass_taken
    c.args.n.now.table.shape
    c.args.allowance
    c.args.a.0
    c.args.b.0
    c.args.n.now.table.words.now
    c.args.n.now.holds
    c.requires
    c.find_way-length.ensures.written
    (rw c.find_way-length.ensures.same.shape at c.take_way.ensures.taken)
