-- The seams that a caller lends, in the paper's words.
use Rattle.commands.specs.Join as Join
use Rattle.joining.specs.declared.seams.Seam.{Seam}

unfoldable pub seam_of : Seam → Join.Seam
seam_of x = record { first = x.first; second = x.second; duct = x.duct }
