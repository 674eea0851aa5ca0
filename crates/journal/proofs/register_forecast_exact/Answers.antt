-- `register_forecast_exact` tells what is counted.
use Rattle.journal.proofs.ExactLaws.{exact_promised, counted_fits}
use Rattle.journal.proofs.register_forecast_exact.Goals as goal

pub tell_at-requires : goal.tell_at-requires
tell_at-requires c = counted_fits c.count_answers.result c.count_answers.ensures

pub returns : goal.returns
returns c = exact_promised c.count_answers.ensures c.tell_at.ensures
