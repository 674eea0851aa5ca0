-- The network in which each set of mates is one edge (request 3 reads demand 2 so).
use Rattle.std.specs.Prelude.{List, map, ℕ, get_or}
use Rattle.graph.specs.Below.{count, listed}
use Rattle.graph.specs.Network.{Network, never, edge, edge_count}
use Rattle.graph.specs.Between.{least_mate}
use Rattle.graph.specs.Travel.{first_mate}

-- The least edge of each set of mates, rising.
unfoldable pub least_edges : Network → List ℕ
least_edges g = listed (edge_count g) (least_mate g)

-- Of each set of mates only the least edge is left, and no edge is lost with another. The edges that are left are numbered anew.
unfoldable pub reduced : Network → Network
reduced g = record { rule = never; vertices = g.vertices; edges = map (edge g) (least_edges g) }

-- The number in the reduced network of the edge that stands for edge s and its mates.
unfoldable pub reduced_number : Network → ℕ → ℕ
reduced_number g s = count (first_mate g s) (least_mate g)

-- The edge that edge k of the reduced network is.
unfoldable pub full_number : Network → ℕ → ℕ
full_number g k = get_or (least_edges g) k 0
