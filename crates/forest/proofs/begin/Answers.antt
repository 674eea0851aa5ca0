-- `begin` tells a size at which any words that are enough hold the empty book.
use Rattle.forest.proofs.EmptyTable.{begun}
use Rattle.forest.proofs.begin.Goals as goal

pub returns : goal.returns
returns c = begun c.args.limits c.args.words.now c.requires.2 c.requires.0 c.requires.1
