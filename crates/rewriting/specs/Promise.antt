-- What rewriting in code tells and leaves.
use Rattle.std.specs.Prelude.{List, ◌≡◌, ℕ, length}
use Rattle.std.specs.Prelude as P
use Rattle.commands.specs.Entry.{over}
use Rattle.commands.specs.Rewrite.{rewrite}
use Rattle.refusals.specs.declared.RefusedAt.{RefusedAt}
use Rattle.forecast.specs.Promise.{foretold}

-- The number, the place and the length, told as those of a forecast are, are those of the rewriting into as much room as is lent, and its result
-- stands at the front of the buffer; the rest of the buffer is as before.
pub record Rewrote (journal lent left : List ℕ) (r : P.Result ℕ RefusedAt) : Type 0 where
  pub number_is : (foretold (length journal) r).number ≡ (rewrite (length lent) journal).number
  pub place_is : (foretold (length journal) r).place ≡ (rewrite (length lent) journal).place
  pub length_is : (foretold (length journal) r).length ≡ length (rewrite (length lent) journal).result
  pub output_is : left ≡ over (rewrite (length lent) journal).result lent
