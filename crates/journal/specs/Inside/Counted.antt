-- The forecast to the byte in code.
use Rattle.std.specs.Prelude.{Result, Ok, Err, List, ◌≡◌, ℕ, length}
use Rattle.std.specs.Prelude as P
use Rattle.commands.specs.Refusal.{Capacities}
use Rattle.commands.specs.Forecast.{Forecast}
use Rattle.commands.specs.Exact.{exact_forecast, exact_work}
use Rattle.refusals.specs.declared.Refusal.{Refusal}
use Rattle.refusals.specs.declared.RefusedAt.{RefusedAt}
use Rattle.run.specs.declared.Progress.{Progress}

-- What is told of a refusal or of none, at this place and with so many bytes counted: the refusal and the place, or the bytes.
abbrev pub told_as : P.Option Refusal → ℕ → ℕ → Result ℕ RefusedAt
told_as P.None place written = Ok written
told_as (P.Some refusal) place written = Err (record { refusal = refusal; place = place })

-- What is told of a run that has come so far.
unfoldable pub told_of : Progress → Result ℕ RefusedAt
told_of p = told_as p.refusal p.place p.written

-- The bytes of the answers to a journal are counted over a working table, which is then cleared.
pub record Counts (caps : Capacities) (journal : List ℕ) (told : Forecast) (old new : List ℕ) : Type 0 where
  pub told_is : told ≡ exact_forecast caps journal (length old)
  pub work_is : new ≡ exact_work caps journal old
