-- What the forecast in code tells.
use Rattle.std.specs.Prelude.{Result, Ok, Err, ℕ}
use Rattle.commands.specs.Forecast.{no_forecast}
use Rattle.commands.specs.Forecast as Paper
use Rattle.refusals.specs.Causes.{cause_of}
use Rattle.refusals.specs.declared.RefusedAt.{RefusedAt}

-- The number, place and length of the paper, of a journal that is so long.
unfoldable pub foretold : ℕ → Result ℕ RefusedAt → Paper.Forecast
foretold end (Ok n) = record { number = 0; place = end; length = n }
foretold end (Err refused) = no_forecast (cause_of refused.refusal) refused.place
