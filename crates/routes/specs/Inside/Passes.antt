-- A search, and what becomes of the way that it finds.
use Rattle.std.specs.Prelude.{true, false, ◌||◌, List, ◌≡◌, ℕ, eqb}
use Rattle.graph.specs.Lists.{is_in}
use Rattle.graph.specs.Network.{Network}
use Rattle.ways.specs.Search.{search, way}
use Rattle.ways.specs.Used.{Used, way_taken, Usable, WayFits}
use Rattle.ways.specs.TwoRoutes.{edges_of}
use Rattle.numbers.specs.declared.Shape.{Shape}
use Rattle.forest.specs.Promise.{network_in}
use Rattle.routes.specs.declared.search.Allowance.{Allowance}
use Rattle.routes.specs.Inside.Frame.{next_column, order_column, first_column, Free, Only, Written}
use Rattle.routes.specs.Inside.Lists.{Listed}
use Rattle.routes.specs.Inside.Searches.{allowed_by}

-- The columns of a search may change, and one more, and the words of edges or not.
unfoldable pub pass_only : ℕ → Free
pass_only column = record { column = λ j. eqb j next_column || eqb j order_column || eqb j column; edges = false }

unfoldable pub taken_only : Free
taken_only = record { column = λ j. eqb j next_column || eqb j order_column || eqb j first_column; edges = true }

-- The way from a to b, where a is reached, is written down.
pub record PassWritten (shape : Shape) (allowance : Allowance) (column a b : ℕ) (old new : List ℕ) (count : ℕ) : Type 0 where
  pub only : Only shape (pass_only column) old new
  pub written : (g : Network) (u : Used) → network_in shape old ≡ g → Listed shape g u old → Usable g u
      → is_in a (search g (allowed_by g u allowance) b).order ≡ true
      → Written shape column count new (edges_of (way g (allowed_by g u allowance) a b))

-- It is written down and taken.
pub record PassTaken (shape : Shape) (allowance : Allowance) (a b : ℕ) (old new : List ℕ) (count : ℕ) : Type 0 where
  pub only : Only shape taken_only old new
  pub written : (g : Network) (u : Used) → network_in shape old ≡ g → Listed shape g u old → Usable g u
      → is_in a (search g (allowed_by g u allowance) b).order ≡ true
      → Written shape first_column count new (edges_of (way g (allowed_by g u allowance) a b))
  pub taken : (g : Network) (u : Used) → network_in shape old ≡ g → Listed shape g u old → Usable g u
      → is_in a (search g (allowed_by g u allowance) b).order ≡ true → WayFits g u a (way g (allowed_by g u allowance) a b)
      → Listed shape g (way_taken u a (way g (allowed_by g u allowance) a b)) new
