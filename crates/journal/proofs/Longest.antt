-- The longest journals have these forecasts, rewritings and joinings, and other journals these forecasts to the byte: each table is computed at
-- once.
use mathlib.Core.List.{map}
use mathlib.Core.Path.{◌≡◌, refl}
use Rattle.commands.specs.Forecast.{forecast}
use Rattle.commands.specs.RouteHistories.{ladder_spans}
use Rattle.commands.specs.Calls.{foretold, rewrite_call, rewriting_of}
use Rattle.commands.specs.ExactHistories.{exact_call, foretold_exactly}
use Rattle.commands.specs.JoinHistories.{seam, join_call, joining_of}
use Rattle.commands.proofs.Computed.{computed}
use Rattle.journal.specs.Longest.{long_forecasts, beside_the_rung, long_exact_calls, long_rewritings, long_joins}

-- So much is forecast of each.
pub long_forecasts_shown : map (λ f. forecast f.journal) long_forecasts ≡ map (λ f. f.forecast) long_forecasts
unfolding computed foretold long_forecasts
long_forecasts_shown = refl

-- So much to the byte, and so the working table is left.
pub long_exact_calls_shown : map foretold_exactly long_exact_calls ≡ map (λ c. c.outcome) long_exact_calls
unfolding computed ladder_spans exact_call foretold_exactly beside_the_rung long_exact_calls
long_exact_calls_shown = refl

-- So each is rewritten.
pub long_rewritings_shown : map rewriting_of long_rewritings ≡ map (λ c. c.rewriting) long_rewritings
unfolding computed rewrite_call rewriting_of long_rewritings
long_rewritings_shown = refl

-- So each is joined.
pub long_joins_shown : map joining_of long_joins ≡ map (λ c. c.joining) long_joins
unfolding computed seam join_call joining_of long_joins
long_joins_shown = refl
