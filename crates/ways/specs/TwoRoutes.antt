-- The two routes that this register gives (request 5 leaves open which). A way is found and then a second, which may go back along steps of
-- the first. Where it does not, the two ways are the routes. Where it does, what is then used carries two routes, which are found along it
-- one after the other.
use Rattle.std.specs.Prelude.{Bool, true, not, cond, ◌&&◌, List, [], ◌∷◌, map, ℕ}
use Rattle.graph.specs.Network.{Network}
use Rattle.graph.specs.Cycle.{Step}
use Rattle.graph.specs.Route.{Routes, Choice}
use Rattle.ways.specs.Search.{way}
use Rattle.ways.specs.Used.{Used, unused, is_used, one_more, along_used, way_taken}

-- The edges of a way, in travelling order.
unfoldable pub edges_of : List Step → List ℕ
edges_of ps = map (λ p. p.along) ps

-- One way more from a to b, and what is used after it.
unfoldable pub way_more : Network → ℕ → ℕ → Used → List Step
way_more g a b u = way g (one_more g u) a b

unfoldable pub with_one_more : Network → ℕ → ℕ → Used → Used
with_one_more g a b u = way_taken u a (way_more g a b u)

-- None of the steps goes along an edge that is used.
unfoldable pub none_back : Used → List Step → Bool
none_back u [] = true
none_back u (p ∷ ps) = not (is_used u p.along) && none_back u ps

-- The way from a to b along used edges.
unfoldable pub way_used : Network → ℕ → ℕ → Used → List Step
way_used g a b u = way g (along_used u) a b

-- Two routes along used edges, the second along what the first leaves.
unfoldable pub routes_used : Network → ℕ → ℕ → Used → Routes
routes_used g a b u =
    let first = way_used g a b u in
    let second = way_used g a b (way_taken u a first) in
    record { first = edges_of first; second = edges_of second }

unfoldable pub two_routes : Choice
two_routes g a b =
    let one = way_more g a b unused in
    let used = with_one_more g a b unused in
    let two = way_more g a b used in
    cond
    (none_back used two)
    (record { first = edges_of one; second = edges_of two })
    (routes_used g a b (way_taken used a two))
