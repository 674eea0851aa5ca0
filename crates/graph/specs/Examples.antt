-- The networks of document 01's marked histories under its own rule, and some with ducts under the rule of request 7; their groups. Pairs of
-- routes (request 5), and which of them serve.
use Rattle.std.specs.Prelude.{Bool, true, false, List, [], ◌∷◌, map, ◌≡◌, refl, ℕ}
use Rattle.std.proofs.Math.Option.{Option, none, some}
use Rattle.graph.specs.Below
use Rattle.graph.specs.Labels
use Rattle.graph.specs.Network
use Rattle.graph.specs.Network.{edge_between as between, edge_in_duct as in_duct}
use Rattle.graph.specs.Groups
use Rattle.graph.specs.Block
use Rattle.graph.specs.Between
use Rattle.graph.specs.Reduced
use Rattle.graph.specs.Route

-- The groups of items below n: for each item the least item of its group.
unfoldable pub leasts : ℕ → (ℕ → ℕ → Bool) → List (Option ℕ)
leasts n groups = Below.tabulate n (λ x. Below.least_below n (groups x))

-- The groups of a network, which of its edges are bridges, and what lies between its vertices 0 and 2.
pub record Summary : Type 0 where
  pub components : List (Option ℕ)
  pub bridge_blocks : List (Option ℕ)
  pub blocks : List (Option ℕ)
  pub bridges : List Bool
  pub shared : Option ℕ
  pub bridges_there : List ℕ
  pub bridges_back : List ℕ
  pub cuts : List ℕ

unfoldable pub summary : Network.Network → Summary
summary g =
    record {
      components = leasts g.vertices (Groups.component g);
      bridge_blocks = leasts g.vertices (Groups.bridge_block g);
      blocks = leasts (Network.edge_count g) (Block.block g);
      bridges = Below.tabulate (Network.edge_count g) (Groups.bridge g);
      shared = Block.shared_block g 0 2;
      bridges_there = Between.bridges_between g 0 2;
      bridges_back = Between.bridges_between g 2 0;
      cuts = Between.cuts_between g 0 2;
    }

unfoldable pub network : ℕ → List Network.Edge → Network.Network
network n edges = record { rule = Network.never; vertices = n; edges = edges }

-- No edge; two edges between one pair; a chain; a triangle; two pairs of edges that meet; two such pairs in a loop.
unfoldable pub examples : List Network.Network
examples =
    network 3 []
    ∷ network 3 (between 0 1 ∷ between 0 1 ∷ [])
    ∷ network 3 (between 0 1 ∷ between 1 2 ∷ [])
    ∷ network 3 (between 0 1 ∷ between 1 2 ∷ between 2 0 ∷ [])
    ∷ network 3 (between 1 2 ∷ between 1 2 ∷ between 0 1 ∷ between 0 1 ∷ [])
    ∷ network 4 (between 0 1 ∷ between 0 1 ∷ between 2 3 ∷ between 2 3 ∷ between 1 2 ∷ between 0 3 ∷ [])
    ∷ []

unfoldable pub summaries : List Summary
summaries =
    record {
      components = some 0 ∷ some 1 ∷ some 2 ∷ [];
      bridge_blocks = some 0 ∷ some 1 ∷ some 2 ∷ [];
      blocks = [];
      bridges = [];
      shared = none;
      bridges_there = [];
      bridges_back = [];
      cuts = [];
    }
    ∷ record {
      components = some 0 ∷ some 0 ∷ some 2 ∷ [];
      bridge_blocks = some 0 ∷ some 0 ∷ some 2 ∷ [];
      blocks = some 0 ∷ some 0 ∷ [];
      bridges = false ∷ false ∷ [];
      shared = none;
      bridges_there = [];
      bridges_back = [];
      cuts = [];
    }
    ∷ record {
      components = some 0 ∷ some 0 ∷ some 0 ∷ [];
      bridge_blocks = some 0 ∷ some 1 ∷ some 2 ∷ [];
      blocks = some 0 ∷ some 1 ∷ [];
      bridges = true ∷ true ∷ [];
      shared = none;
      bridges_there = 0 ∷ 1 ∷ [];
      bridges_back = 1 ∷ 0 ∷ [];
      cuts = 1 ∷ [];
    }
    ∷ record {
      components = some 0 ∷ some 0 ∷ some 0 ∷ [];
      bridge_blocks = some 0 ∷ some 0 ∷ some 0 ∷ [];
      blocks = some 0 ∷ some 0 ∷ some 0 ∷ [];
      bridges = false ∷ false ∷ false ∷ [];
      shared = some 0;
      bridges_there = [];
      bridges_back = [];
      cuts = [];
    }
    ∷ record {
      components = some 0 ∷ some 0 ∷ some 0 ∷ [];
      bridge_blocks = some 0 ∷ some 0 ∷ some 0 ∷ [];
      blocks = some 0 ∷ some 0 ∷ some 2 ∷ some 2 ∷ [];
      bridges = false ∷ false ∷ false ∷ false ∷ [];
      shared = none;
      bridges_there = [];
      bridges_back = [];
      cuts = 1 ∷ [];
    }
    ∷ record {
      components = some 0 ∷ some 0 ∷ some 0 ∷ some 0 ∷ [];
      bridge_blocks = some 0 ∷ some 0 ∷ some 0 ∷ some 0 ∷ [];
      blocks = some 0 ∷ some 0 ∷ some 0 ∷ some 0 ∷ some 0 ∷ some 0 ∷ [];
      bridges = false ∷ false ∷ false ∷ false ∷ false ∷ false ∷ [];
      shared = some 0;
      bridges_there = [];
      bridges_back = [];
      cuts = [];
    }
    ∷ []

-- The definitions give these groups.
pub examples_have_their_groups : map summary examples ≡ summaries
unfolding summary examples summaries network between leasts Below.any_below Below.all_below Below.least_below Below.listed Below.tabulate Labels.relabel Labels.labels Labels.same Network.touches Network.other_end Network.never Network.edge_count Network.edge Network.mates Network.nothing Network.loss_of Network.without Network.kept Network.joined Groups.component Groups.parts Groups.bridge Groups.bridge_block Block.link_at Block.link Block.pairs_below Block.links Block.block Block.on_block Block.at_both Block.shared_block Between.insert Between.sort Between.least_mate Between.is_bridge_between Between.bridge_before Between.bridges_between Between.is_cut_between Between.cut_before Between.cuts_between
examples_have_their_groups = refl

-- The same for networks in which edges of one duct between the same two vertices are lost together, also where none is told.
unfoldable pub duct_network : ℕ → List Network.Edge → Network.Network
duct_network n edges = record { rule = Network.one_duct; vertices = n; edges = edges }

-- Two edges of one duct from either side; the same with an edge beside them for which none is told; two pairs of mates on a chain, of one
-- duct number; a loop around two mates; two edges with no duct told, and between the next two vertices one beside an edge in a duct.
unfoldable pub duct_examples : List Network.Network
duct_examples =
    duct_network 3 (in_duct 0 1 7 ∷ in_duct 1 0 7 ∷ [])
    ∷ duct_network 3 (in_duct 0 1 7 ∷ in_duct 1 0 7 ∷ between 0 1 ∷ [])
    ∷ duct_network 3 (in_duct 1 2 9 ∷ in_duct 0 1 9 ∷ in_duct 2 1 9 ∷ in_duct 0 1 9 ∷ [])
    ∷ duct_network 3 (in_duct 0 1 4 ∷ in_duct 0 1 4 ∷ between 1 2 ∷ between 2 0 ∷ [])
    ∷ duct_network 3 (between 0 1 ∷ between 1 0 ∷ between 1 2 ∷ in_duct 1 2 1 ∷ [])
    ∷ []

unfoldable pub duct_summaries : List Summary
duct_summaries =
    record {
      components = some 0 ∷ some 0 ∷ some 2 ∷ [];
      bridge_blocks = some 0 ∷ some 1 ∷ some 2 ∷ [];
      blocks = some 0 ∷ some 0 ∷ [];
      bridges = true ∷ true ∷ [];
      shared = none;
      bridges_there = [];
      bridges_back = [];
      cuts = [];
    }
    ∷ record {
      components = some 0 ∷ some 0 ∷ some 2 ∷ [];
      bridge_blocks = some 0 ∷ some 0 ∷ some 2 ∷ [];
      blocks = some 0 ∷ some 0 ∷ some 0 ∷ [];
      bridges = false ∷ false ∷ false ∷ [];
      shared = none;
      bridges_there = [];
      bridges_back = [];
      cuts = [];
    }
    ∷ record {
      components = some 0 ∷ some 0 ∷ some 0 ∷ [];
      bridge_blocks = some 0 ∷ some 1 ∷ some 2 ∷ [];
      blocks = some 0 ∷ some 1 ∷ some 0 ∷ some 1 ∷ [];
      bridges = true ∷ true ∷ true ∷ true ∷ [];
      shared = none;
      bridges_there = 1 ∷ 0 ∷ [];
      bridges_back = 0 ∷ 1 ∷ [];
      cuts = 1 ∷ [];
    }
    ∷ record {
      components = some 0 ∷ some 0 ∷ some 0 ∷ [];
      bridge_blocks = some 0 ∷ some 0 ∷ some 0 ∷ [];
      blocks = some 0 ∷ some 0 ∷ some 0 ∷ some 0 ∷ [];
      bridges = false ∷ false ∷ false ∷ false ∷ [];
      shared = some 0;
      bridges_there = [];
      bridges_back = [];
      cuts = [];
    }
    ∷ record {
      components = some 0 ∷ some 0 ∷ some 0 ∷ [];
      bridge_blocks = some 0 ∷ some 1 ∷ some 1 ∷ [];
      blocks = some 0 ∷ some 0 ∷ some 2 ∷ some 2 ∷ [];
      bridges = true ∷ true ∷ false ∷ false ∷ [];
      shared = none;
      bridges_there = 0 ∷ [];
      bridges_back = 0 ∷ [];
      cuts = 1 ∷ [];
    }
    ∷ []

-- The definitions give these groups.
pub duct_examples_have_their_groups : map summary duct_examples ≡ duct_summaries
unfolding summary duct_examples duct_summaries duct_network between in_duct leasts Below.any_below Below.all_below Below.least_below Below.listed Below.tabulate Labels.relabel Labels.labels Labels.same Network.touches Network.other_end Network.parallel Network.one_duct Network.edge_count Network.edge Network.mates Network.nothing Network.loss_of Network.without Network.kept Network.joined Groups.component Groups.parts Groups.bridge Groups.bridge_block Block.link_at Block.link Block.pairs_below Block.links Block.block Block.on_block Block.at_both Block.shared_block Between.insert Between.sort Between.least_mate Between.is_bridge_between Between.bridge_before Between.bridges_between Between.is_cut_between Between.cut_before Between.cuts_between
duct_examples_have_their_groups = refl

-- Each set of mates as one edge: of the third of these networks edges 0 and 1 are left.
pub reduced_example : Reduced.reduced (duct_network 3 (in_duct 1 2 9 ∷ in_duct 0 1 9 ∷ in_duct 2 1 9 ∷ in_duct 0 1 9 ∷ []))
    ≡ network 3 (in_duct 1 2 9 ∷ in_duct 0 1 9 ∷ [])
unfolding Reduced.reduced Reduced.least_edges duct_network network in_duct between Below.any_below Below.listed Network.parallel Network.one_duct Network.edge_count Network.edge Network.mates Between.least_mate
reduced_example = refl

-- Mates 0 and 1 and edge 2 between 0 and 1, two edges between 1 and 2 that are no mates, and two between 1 and 3.
unfoldable pub route_example : Network.Network
route_example =
    duct_network
    4
    (in_duct 0 1 7 ∷ in_duct 1 0 7 ∷ between 0 1 ∷ between 1 2 ∷ in_duct 1 2 1 ∷ in_duct 1 3 1 ∷ in_duct 3 1 2 ∷ [])

-- Two lists of edges offered as routes between two vertices.
pub record Offer : Type 0 where
  pub start : ℕ
  pub end : ℕ
  pub routes : Route.Routes

unfoldable pub offer : ℕ → ℕ → List ℕ → List ℕ → Offer
offer a b first second = record { start = a; end = b; routes = record { first = first; second = second } }

unfoldable pub serving : Offer → Bool
serving o = Route.serve route_example o.start o.end o.routes

-- Two that serve 0 and 2.
unfoldable pub offers_that_serve : List Offer
offers_that_serve = offer 0 2 (2 ∷ 3 ∷ []) (0 ∷ 4 ∷ []) ∷ offer 0 2 (1 ∷ 4 ∷ []) (2 ∷ 3 ∷ []) ∷ []

-- An edge in both, a mate in the other route, a route twice; edges in reverse order; a vertex twice: one on the way, the start, the end;
-- a route that ends too soon, one that begins elsewhere, an edge that is not there, and no edges.
unfoldable pub offers_that_do_not : List Offer
offers_that_do_not =
    offer 0 2 (2 ∷ 3 ∷ []) (0 ∷ 3 ∷ [])
    ∷ offer 0 2 (0 ∷ 3 ∷ []) (1 ∷ 4 ∷ [])
    ∷ offer 0 2 (2 ∷ 3 ∷ []) (2 ∷ 3 ∷ [])
    ∷ offer 0 2 (3 ∷ 2 ∷ []) (0 ∷ 4 ∷ [])
    ∷ offer 0 2 (2 ∷ 3 ∷ []) (4 ∷ 0 ∷ [])
    ∷ offer 0 2 (2 ∷ 5 ∷ 6 ∷ 3 ∷ []) (0 ∷ 4 ∷ [])
    ∷ offer 0 2 (0 ∷ 4 ∷ []) (2 ∷ 5 ∷ 6 ∷ 3 ∷ [])
    ∷ offer 1 2 (5 ∷ 6 ∷ 3 ∷ []) (4 ∷ [])
    ∷ offer 1 2 (4 ∷ []) (5 ∷ 6 ∷ 3 ∷ [])
    ∷ offer 0 1 (2 ∷ 5 ∷ 6 ∷ []) (0 ∷ [])
    ∷ offer 0 1 (0 ∷ []) (2 ∷ 5 ∷ 6 ∷ [])
    ∷ offer 0 2 (2 ∷ []) (0 ∷ 4 ∷ [])
    ∷ offer 0 2 (2 ∷ 3 ∷ []) (0 ∷ [])
    ∷ offer 0 2 (2 ∷ 3 ∷ []) (4 ∷ [])
    ∷ offer 0 2 (2 ∷ 3 ∷ []) (7 ∷ [])
    ∷ offer 0 2 [] []
    ∷ []
