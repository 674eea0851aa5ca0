-- Any number of routes between two vertices, any two of them apart.
use Rattle.std.specs.Prelude.{Bool, true, ◌&&◌, List, [], ◌∷◌, ◌≡◌, ℕ, length}
use Rattle.graph.specs.Lists.{all_in}
use Rattle.graph.specs.Network.{Network}
use Rattle.graph.specs.Route.{is_route, apart}

-- Any two of the lists are apart.
unfoldable pub all_apart : Network → List (List ℕ) → Bool
all_apart g [] = true
all_apart g (r ∷ rs) = all_in (apart g r) rs && all_apart g rs

-- k routes from a to b, any two of which are apart.
pub record RoutesApart (g : Network) (a b k : ℕ) : Type 0 where
  pub routes : List (List ℕ)
  pub many : length routes ≡ k
  pub all_routes : all_in (is_route g a b) routes ≡ true
  pub all_apart_lem : all_apart g routes ≡ true
