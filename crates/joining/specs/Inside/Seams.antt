-- What the seams are looked at for, and the bytes of their commands.
use Rattle.std.specs.Prelude.{cond, Result, Ok, Err, List, map, ℕ, get_or}
use Rattle.graph.specs.Lists.{all_in}
use Rattle.commands.specs.Text.{journal_bytes}
use Rattle.commands.specs.Join as Join
use Rattle.commands.specs.Join.{good_seam, seam_command}
use Rattle.refusals.specs.declared.Refusal.{Refusal}
use Rattle.refusals.specs.declared.Refusal.TheVariants.{BadSeam}
use Rattle.joining.specs.declared.seams.Counts.{Counts}
use Rattle.joining.specs.declared.seams.Seam.{Seam}
unfoldable pub use Rattle.joining.specs.Promise.{seam_of}
unfoldable pub use Rattle.joining.specs.Told.{ducts_fit}

-- What the first network has, in the paper's words.
unfoldable pub one_of : Counts → Join.Counts
one_of c = record { cabinets = c.cabinets; spans = c.spans }

-- Seam i. Where there is none the value says nothing, and nothing depends on it.
unfoldable pub seam_at : List Seam → ℕ → Seam
seam_at seams i = get_or seams i (record { first = 0; second = 0; duct = 0 })

-- Seams that are looked at: all are good, or the join is refused with 18.
unfoldable pub look_at : Counts → List Seam → Result Unit Refusal
look_at c seams = cond (all_in (good_seam c.cabinets c.others) (map seam_of seams)) (Ok tt) (Err BadSeam)

-- The bytes of the seams' commands, in order.
unfoldable pub seam_bytes : Counts → List Seam → List ℕ
seam_bytes c seams = journal_bytes (map (seam_command (one_of c)) (map seam_of seams))
