-- Ways in scratch words: written down from the steps of a search, and taken.
use Rattle.std.specs.Prelude.{Bool, true, not, cond, ◌&&◌, List, ◌≡◌, ℕ, ◌+◌, ◌*◌, ◌/◌, ◌<◌, eqb, length}
use Rattle.graph.specs.Lists.{is_in}
use Rattle.graph.specs.Network.{Network, edge, edge_count, touches, mates}
use Rattle.graph.specs.Cycle.{Step}
use Rattle.ways.specs.Search.{Found, way_by, Orderly}
use Rattle.ways.specs.Used.{Used, step_taken, way_taken, Usable, StepFits, WayFits}
use Rattle.ways.specs.TwoRoutes.{edges_of, none_back}
use Rattle.numbers.specs.declared.Shape.{Shape}
use Rattle.forest.specs.Promise.{network_in, edge_scratch}
use Rattle.routes.specs.Inside.Frame.{Only, edges_only, column_only, Written}
use Rattle.routes.specs.declared.uses.Use.{Use}
use Rattle.routes.specs.declared.uses.Use.TheVariants as U
use Rattle.routes.specs.Inside.Lists.{bits_of, used_along, Linked, Listed}
use Rattle.routes.specs.Inside.Searches.{NextIs}

-- The way from a to b is written down in a column, by the steps that a search has left.
pub record WayWritten (shape : Shape) (column a b : ℕ) (old new : List ℕ) (count : ℕ) : Type 0 where
  pub only : Only shape (column_only column) old new
  pub written : (g : Network) (f : Found) → network_in shape old ≡ g → Orderly g b f → NextIs shape b f old → is_in a f.order ≡ true
      → length (way_by f.links a) < g.vertices → Written shape column count new (edges_of (way_by f.links a))

-- The use of an edge when a step along it is taken, from its left end or from its right, and then that of its other mates.
unfoldable pub taken_use : Use → Bool → Use
taken_use U.Free left = used_along left
taken_use U.MateUsed left = U.Free
taken_use U.FromLeft left = U.Free
taken_use U.FromRight left = U.Free

unfoldable pub mates_use : Use → Use
mates_use U.Free = U.MateUsed
mates_use U.MateUsed = U.Free
mates_use U.FromLeft = U.Free
mates_use U.FromRight = U.Free

-- The word of an edge with other bits.
unfoldable pub with_use : ℕ → Use → ℕ
with_use word used = word / 4 * 4 + bits_of used

-- The words of the edges that pass the test get these bits.
pub record UsesSet (shape : Shape) (test : ℕ → Bool) (used : Use) (old new : List ℕ) : Type 0 where
  pub only : Only shape edges_only old new
  pub words : (r : ℕ) → r < shape.edges
      → edge_scratch shape new r ≡ cond (test r) (with_use (edge_scratch shape old r) used) (edge_scratch shape old r)

-- Edge r is a mate of edge s, and not s.
unfoldable pub is_other_mate : Network → ℕ → ℕ → Bool
is_other_mate g s r = not (eqb s r) && mates g s r

-- The other mates of edge s, of which vertex x is an end, get these bits.
pub record MatesSet (shape : Shape) (x s : ℕ) (used : Use) (old new : List ℕ) : Type 0 where
  pub only : Only shape edges_only old new
  pub mates-set : (g : Network) → network_in shape old ≡ g → Linked shape g (edge_count g) old → touches (edge g s) x ≡ true
      → UsesSet shape (is_other_mate g s) used old new

-- A step from x along s is taken.
pub record StepDone (shape : Shape) (x s : ℕ) (old new : List ℕ) : Type 0 where
  pub only : Only shape edges_only old new
  pub taken : (g : Network) (u : Used) → network_in shape old ≡ g → Listed shape g u old → Usable g u → StepFits g u x s
      → Listed shape g (step_taken u x s) new

-- A way from a that is written down is taken.
pub record WayDone (shape : Shape) (column a count : ℕ) (old new : List ℕ) : Type 0 where
  pub only : Only shape edges_only old new
  pub taken : (g : Network) (u : Used) (ps : List Step) → network_in shape old ≡ g → Listed shape g u old → Usable g u → WayFits g u a ps
      → length ps < g.vertices → Written shape column count old (edges_of ps) → Listed shape g (way_taken u a ps) new

-- Whether a way that is written down goes along a used edge.
pub record TakesBack (shape : Shape) (column count : ℕ) (t : List ℕ) (answer : Bool) : Type 0 where
  pub told : (g : Network) (u : Used) (ps : List Step) → Listed shape g u t
      → ((s : ℕ) → is_in s (edges_of ps) ≡ true → s < edge_count g) → Written shape column count t (edges_of ps)
      → answer ≡ not (none_back u ps)
