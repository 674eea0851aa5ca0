-- What joining in code tells and leaves.
use Rattle.std.specs.Prelude.{Bool, true, Result, Ok, Err, List, map, ◌≡◌, ℕ, ◌≤◌, ltb, length}
use Rattle.graph.specs.Lists.{all_in}
use Rattle.commands.specs.Bytes.{all_bytes}
use Rattle.commands.specs.Refusal.{refusal_number}
use Rattle.commands.specs.Entry.{work_needed, over}
use Rattle.commands.specs.Join.{join_capacities, join, joined_work}
use Rattle.refusals.specs.declared.Refusal.{Refusal}
use Rattle.refusals.specs.Causes.{cause_of}
use Rattle.joining.specs.declared.seams.Seam.{Seam}
use Rattle.joining.specs.Promise.{seam_of}

-- The seams' ducts are numbers of two bytes.
unfoldable pub ducts_fit : List Seam → Bool
ducts_fit = all_in (λ x. ltb x.duct 65536)

-- The number that is returned of what joining gives, and the length of the result.
unfoldable pub tells_number : Result ℕ Refusal → ℕ
tells_number (Ok size) = 0
tells_number (Err refusal) = refusal_number (cause_of refusal)

unfoldable pub tells_length : Result ℕ Refusal → ℕ
tells_length (Ok size) = size
tells_length (Err refusal) = 0

-- For these two journals, these seams, this working table and this output buffer: the number, the length, the table and the buffer are those of
-- the joining into as much room. What was joined is bytes, and the seams' ducts are numbers of two bytes.
pub record Joined (first second : List ℕ) (seams : List Seam) (told : Result ℕ Refusal) (table left_table lent left : List ℕ) : Type 0 where
  pub number_is : tells_number told ≡ (join (length table) (length lent) first second (map seam_of seams)).number
  pub length_is : tells_length told ≡ length (join (length table) (length lent) first second (map seam_of seams)).result
  pub work_is : left_table ≡ joined_work table
  pub output_is : left ≡ over (join (length table) (length lent) first second (map seam_of seams)).result lent
  pub are_bytes : work_needed join_capacities ≤ length table → (all_bytes first ≡ true) × (all_bytes second ≡ true)
  pub ducts_fit_lem : tells_number told ≡ 0 → ducts_fit seams ≡ true
