-- The naming book (document 01): the network and three lists of names, fed what each command adds. It knows nothing of a register's tables.
use Rattle.std.specs.Prelude.{List, [], ◌∷◌, ◌++◌, ℕ}
use Rattle.graph.specs.Network.{Network, Edge, Rule, edge_count, add_vertex, add_edge}
use Rattle.graph.specs.Groups.{component, bridge_block}
use Rattle.graph.specs.Block.{block}
use Rattle.naming.specs.Rename.{rename}

-- A component name and a bridge-block name for each vertex, a block name for each edge (document 01: district, ring and mesh names).
pub record Book : Type 0 where
  pub network : Network
  pub components : List ℕ
  pub bridge_blocks : List ℕ
  pub blocks : List ℕ

unfoldable pub empty_book : Rule → Book
empty_book rule =
    record {
      network = record { rule = rule; vertices = 0; edges = [] };
      components = [];
      bridge_blocks = [];
      blocks = [];
    }

-- The next vertex: both its names are its number.
unfoldable pub enter_vertex : Book → Book
enter_vertex b =
    let new = b.network.vertices in
    record {
      network = add_vertex b.network;
      components = b.components ++ new ∷ [];
      bridge_blocks = b.bridge_blocks ++ new ∷ [];
      blocks = b.blocks;
    }

-- The next edge: its block name is at first its number, and that block is its own. Then, kind by kind, the groups are taken without
-- the edge, its mates staying in, and with it.
unfoldable pub enter_edge : Book → Edge → Book
enter_edge b e =
    let g = b.network in
    let g' = add_edge g e in
    record {
      network = g';
      components = rename (component g) (component g') b.components;
      bridge_blocks = rename (bridge_block g) (bridge_block g') b.bridge_blocks;
      blocks = rename (block g) (block g') (b.blocks ++ edge_count g ∷ []);
    }

-- What a command adds to the network.
pub data Addition : Type 0 where
  vertex : Addition
  edge : Edge → Addition
  neither : Addition

unfoldable pub feed : Book → Addition → Book
feed b vertex = enter_vertex b
feed b (edge e) = enter_edge b e
feed b neither = b

unfoldable pub feed_all : Book → List Addition → Book
feed_all b [] = b
feed_all b (a ∷ later) = feed_all (feed b a) later
