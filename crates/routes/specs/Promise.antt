-- What a caller may say of the two routes that are written down in the table.
use Rattle.std.specs.Prelude.{List, ◌≡◌, ℕ}
use Rattle.graph.specs.Below.{tabulate}
use Rattle.ways.specs.TwoRoutes.{two_routes}
use Rattle.numbers.specs.declared.Shape.{Shape}
use Rattle.forest.specs.Promise.{Holds, state_of, network_in, SameBeyond, vertex_scratch}
use Rattle.routes.specs.declared.Route.{Route}
use Rattle.routes.specs.declared.Route.TheVariants as R
use Rattle.routes.specs.declared.Lengths.{Lengths}
use Rattle.routes.specs.Inside.Frame.{column_of}

-- Edge i of a route that is written down.
unfoldable pub edge_at : Shape → List ℕ → Route → ℕ → ℕ
edge_at shape t route i = vertex_scratch shape t (column_of route) i

-- The two routes between a and b are written down, edge by edge in travelling order. The state is as before.
pub record RoutesFound (shape : Shape) (a b : ℕ) (old new : List ℕ) (lengths : Lengths) : Type 0 where
  pub holds : Holds shape new
  pub state_is : state_of shape new ≡ state_of shape old
  pub first_is : tabulate lengths.first (edge_at shape new R.First) ≡ (two_routes (network_in shape old) a b).first
  pub second_is : tabulate lengths.second (edge_at shape new R.Second) ≡ (two_routes (network_in shape old) a b).second
  pub same_beyond : SameBeyond shape.limits old new
