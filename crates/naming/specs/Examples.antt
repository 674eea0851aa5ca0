-- The names in document 01's marked histories, and in one with mates (request 3).
use Rattle.std.specs.Prelude.{List, [], ◌∷◌, map, ◌≡◌, refl, ℕ}
use Rattle.graph.specs.Below
use Rattle.graph.specs.Labels
use Rattle.graph.specs.Network
use Rattle.graph.specs.Groups
use Rattle.graph.specs.Block
use Rattle.naming.specs.Rename
use Rattle.naming.specs.Book
use Rattle.naming.specs.Book.{Addition, vertex, edge}

-- The three lists of names in a book.
pub record Names : Type 0 where
  pub components : List ℕ
  pub bridge_blocks : List ℕ
  pub blocks : List ℕ

unfoldable pub names_after : Network.Rule → List Addition → Names
names_after rule additions =
    let b = Book.feed_all (Book.empty_book rule) additions in
    record { components = b.components; bridge_blocks = b.bridge_blocks; blocks = b.blocks }

unfoldable pub between : ℕ → ℕ → Addition
between x y = edge (Network.edge_between x y)

-- Nothing; a triangle; two edges between one pair; two pairs of edges that meet; two such pairs in a loop; a larger group joined to a
-- smaller one with a lesser name.
unfoldable pub examples : List (List Addition)
examples =
    []
    ∷ (vertex ∷ vertex ∷ vertex ∷ between 0 1 ∷ between 1 2 ∷ between 2 0 ∷ [])
    ∷ (vertex ∷ vertex ∷ between 0 1 ∷ between 0 1 ∷ [])
    ∷ (vertex ∷ vertex ∷ vertex ∷ between 1 2 ∷ between 1 2 ∷ between 0 1 ∷ between 0 1 ∷ [])
    ∷ (vertex
    ∷ vertex
    ∷ vertex
    ∷ vertex
    ∷ between 0 1
    ∷ between 0 1
    ∷ between 2 3
    ∷ between 2 3
    ∷ between 1 2
    ∷ between 0 3
    ∷ [])
    ∷ (vertex ∷ vertex ∷ vertex ∷ between 2 1 ∷ between 0 2 ∷ [])
    ∷ []

unfoldable pub names : List Names
names =
    record { components = []; bridge_blocks = []; blocks = [] }
    ∷ record { components = 0 ∷ 0 ∷ 0 ∷ []; bridge_blocks = 0 ∷ 0 ∷ 0 ∷ []; blocks = 0 ∷ 0 ∷ 0 ∷ [] }
    ∷ record { components = 0 ∷ 0 ∷ []; bridge_blocks = 0 ∷ 0 ∷ []; blocks = 0 ∷ 0 ∷ [] }
    ∷ record { components = 1 ∷ 1 ∷ 1 ∷ []; bridge_blocks = 1 ∷ 1 ∷ 1 ∷ []; blocks = 0 ∷ 0 ∷ 2 ∷ 2 ∷ [] }
    ∷ record {
      components = 0 ∷ 0 ∷ 0 ∷ 0 ∷ [];
      bridge_blocks = 0 ∷ 0 ∷ 0 ∷ 0 ∷ [];
      blocks = 0 ∷ 0 ∷ 0 ∷ 0 ∷ 0 ∷ 0 ∷ [];
    }
    ∷ record { components = 1 ∷ 1 ∷ 1 ∷ []; bridge_blocks = 0 ∷ 1 ∷ 2 ∷ []; blocks = 0 ∷ 1 ∷ [] }
    ∷ []

-- The naming book gives these names.
pub examples_have_their_names : map (names_after Network.never) examples ≡ names
unfolding names_after examples names between Below.any_below Below.all_below Below.count Below.listed Below.tabulate Labels.relabel Labels.labels Labels.same Network.edge_between Network.touches Network.other_end Network.never Network.edge_count Network.edge Network.add_vertex Network.add_edge Network.mates Network.nothing Network.loss_of Network.without Network.kept Network.joined Groups.component Groups.bridge_block Block.link_at Block.link Block.pairs_below Block.links Block.block Rename.size Rename.name_of Rename.better Rename.best_of Rename.candidate Rename.holds_several Rename.best_name Rename.rename Book.empty_book Book.enter_vertex Book.enter_edge Book.feed Book.feed_all
examples_have_their_names = refl

unfoldable pub in_duct : ℕ → ℕ → ℕ → Addition
in_duct x y d = edge (Network.edge_in_duct x y d)

-- Blocks are measured in single edges: two mates outweigh an edge with a lesser name, and give a loop of five edges their name.
pub mates_outweigh : names_after Network.one_duct (vertex ∷ vertex ∷ vertex ∷ vertex ∷ between 2 3 ∷ in_duct 0 1 5 ∷ in_duct 0 1 5 ∷ between 1 2 ∷ between 3 0 ∷ [])
    ≡ record { components = 0 ∷ 0 ∷ 0 ∷ 0 ∷ []; bridge_blocks = 0 ∷ 0 ∷ 0 ∷ 0 ∷ []; blocks = 1 ∷ 1 ∷ 1 ∷ 1 ∷ 1 ∷ [] }
unfolding names_after between in_duct Below.any_below Below.all_below Below.count Below.listed Below.tabulate Labels.relabel Labels.labels Labels.same Network.edge_between Network.edge_in_duct Network.touches Network.other_end Network.parallel Network.one_duct Network.edge_count Network.edge Network.add_vertex Network.add_edge Network.mates Network.nothing Network.loss_of Network.without Network.kept Network.joined Groups.component Groups.bridge_block Block.link_at Block.link Block.pairs_below Block.links Block.block Rename.size Rename.name_of Rename.better Rename.best_of Rename.candidate Rename.holds_several Rename.best_name Rename.rename Book.empty_book Book.enter_vertex Book.enter_edge Book.feed Book.feed_all
mates_outweigh = refl
