-- A network on which the second way goes back along a step of the first, and one with mates, on which it does not; the two routes that this
-- register gives there. How many ways are found there and on two other networks.
use Rattle.std.specs.Prelude.{Bool, not, ◌&&◌, List, [], ◌∷◌, ℕ, suc}
use Rattle.graph.specs.Network.{Network, one_duct, edge_between, edge_in_duct}
use Rattle.graph.specs.Route.{Routes}
use Rattle.ways.specs.WaysFound.{ways_found}

-- A ladder: 0-1-2-5 along edges 0 to 2, 0-3-4-5 along edges 3 to 5, and the rung 1-4, edge 6.
unfoldable pub ladder : Network
ladder =
    record {
      rule = one_duct;
      vertices = 6;
      edges =
          edge_between 0 1
          ∷ edge_between 1 2
          ∷ edge_between 2 5
          ∷ edge_between 0 3
          ∷ edge_between 3 4
          ∷ edge_between 4 5
          ∷ edge_between 1 4
          ∷ [];
    }

-- From 0 to 5 the routes are the two sides of the ladder. The first way found takes the rung, and the second goes back along it, so the
-- routes are found along what is then used.
unfoldable pub ladder_routes : Routes
ladder_routes = record { first = 3 ∷ 4 ∷ 5 ∷ []; second = 0 ∷ 1 ∷ 2 ∷ [] }

-- Edge 0, and edges 1 and 2 in one duct, between 0 and 1.
unfoldable pub beside_mates : Network
beside_mates =
    record { rule = one_duct; vertices = 2; edges = edge_between 0 1 ∷ edge_in_duct 0 1 7 ∷ edge_in_duct 1 0 7 ∷ [] }

-- Edge 0 is one route, and a mate the other: the two ways found, of which the second goes back along nothing.
unfoldable pub beside_mates_routes : Routes
beside_mates_routes = record { first = 2 ∷ []; second = 0 ∷ [] }

-- Four vertices, each with an edge to each other.
unfoldable pub all_joined : Network
all_joined =
    record {
      rule = one_duct;
      vertices = 4;
      edges =
          edge_between 0 1 ∷ edge_between 0 2 ∷ edge_between 0 3 ∷ edge_between 1 2 ∷ edge_between 1 3 ∷ edge_between 2 3 ∷ [];
    }

-- Two edges that share no vertex.
unfoldable pub two_apart : Network
two_apart = record { rule = one_duct; vertices = 4; edges = edge_between 0 1 ∷ edge_between 2 3 ∷ [] }

-- A network, two of its vertices, and how many ways are found from the one to the other.
pub record Counted : Type 0 where
  pub network : Network
  pub from : ℕ
  pub to : ℕ
  pub ways : ℕ

-- So many are found and no more.
unfoldable pub exactly_found : Counted → Bool
exactly_found c =
    ways_found c.network c.from c.to c.ways && not (ways_found c.network c.from c.to (suc c.ways))

unfoldable pub ways_counted : List Counted
ways_counted =
    record { network = two_apart; from = 0; to = 3; ways = 0 }
    ∷ record { network = two_apart; from = 0; to = 1; ways = 1 }
    ∷ record { network = ladder; from = 0; to = 5; ways = 2 }
    ∷ record { network = beside_mates; from = 0; to = 1; ways = 2 }
    ∷ record { network = all_joined; from = 0; to = 3; ways = 3 }
    ∷ []
