-- Filling the report.
use Rattle.std.specs.Prelude.{List, ℕ, ◌≤◌, ◌<◌, length}
use Rattle.run.specs.declared.Progress.{Progress}

-- The report has room for the six numbers, and each fits a number of 32 bits.
pub record Reportable (p : Progress) (report : List ℕ) : Type 0 where
  pub long : 6 ≤ length report
  pub place_fits : p.place < 4294967296
  pub written_fits : p.written < 4294967296
