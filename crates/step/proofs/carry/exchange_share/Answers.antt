-- `carry::exchange_share` finds the share of the cabinets whose ring holds an exchange.
use Rattle.step.proofs.Carries.{asked_in, share_carried}
use Rattle.step.proofs.carry.exchange_share.Goals as goal

pub returns : goal.returns
returns c = asked_in (share_carried c.args.n.now.holds c.share_with_exchange.ensures)
