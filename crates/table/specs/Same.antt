-- What no store changes. Of a struct that is lent its caller knows afterwards only what is promised, so each function that stores promises
-- this too.
use Rattle.std.specs.Prelude.{◌≡◌}
use Rattle.table.specs.declared.words.Table.{Table}

-- The table has the caller's words still, and its shape.
pub record IsSame (old new : Table) : Type 0 where
  pub shape : new.shape ≡ old.shape
  pub words : new.words.ghost_name ≡ old.words.ghost_name
