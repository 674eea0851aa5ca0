-- `exchange::share_with_exchange` gives the share of the cabinets whose ring holds an exchange.
use mathlib.Core.Path.{◌∙◌}
use native.Mathlib.Omega.{arith}
use Rattle.step.proofs.Exchanges.{few_with_exchange, share_of_counted}
use Rattle.step.proofs.exchange.share_with_exchange.Goals as goal

pub thousandths_of-requires : goal.thousandths_of-requires
thousandths_of-requires c = omega (arith, c.with_exchange.ensures, few_with_exchange c.args.n.now.table.shape c.args.n.now.table.words.now c.args.n.now.holds)

pub returns : goal.returns
returns c =
    c.thousandths_of.ensures
    ∙ share_of_counted c.args.n.now.table.shape c.args.n.now.table.words.now c.with_exchange.result c.with_exchange.ensures
