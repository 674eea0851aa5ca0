-- `register_join` tells what is joined.
use Rattle.journal.proofs.JoinLaws.{join_promised}
use Rattle.journal.proofs.register_join.Goals as goal

pub returns : goal.returns
returns c = join_promised c.args.first.now c.args.second.now c.args.seams.now c.join_into.ensures c.tell.ensures
