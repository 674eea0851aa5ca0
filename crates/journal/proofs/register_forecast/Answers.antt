-- `register_forecast` tells what is forecast.
use mathlib.Core.Path.{sym, ◌∙◌, ap}
use Rattle.commands.specs.Forecast as Paper
use Rattle.journal.proofs.ForecastLaws.{forecast_promised, end_fits}
use Rattle.journal.proofs.register_forecast.Goals as goal

pub tell_at-requires : goal.tell_at-requires
tell_at-requires c =
    end_fits c.args.journal.now c.forecast_of.result (λ accepted. sym (ap (λ (f : Paper.Forecast). f.number) c.forecast_of.ensures) ∙ accepted)

pub returns : goal.returns
returns c = forecast_promised c.args.journal.now _ _ _ (c.tell_at.ensures ∙ c.forecast_of.ensures)
