-- When the words of a table are those of a network with its names and marks, and which naming book, marks and surveys they hold.
use Rattle.std.specs.Prelude.{◌≡◌, ℕ, zero, suc, ◌+◌, ◌*◌, ◌/◌, ◌%◌, ◌<◌, ◌≤◌, Bool, true, cond, ◌&&◌, ◌⊎◌, List, [], ◌∷◌, ◌++◌, length, ◌==◌, nat_lt}
use Rattle.std.proofs.Math.Option.{Option, none, some}
use Rattle.graph.specs.Below.{tabulate}
use Rattle.graph.specs.Network.{Network, Edge, edge_in_duct, Proper, edge, touches}
use Rattle.graph.specs.Groups.{component, bridge_block}
use Rattle.graph.specs.Block.{block, on_block}
use Rattle.naming.specs.Rename.{size}
use Rattle.naming.specs.Book.{Book}
use Rattle.naming.specs.Survey.{Survey}
use Rattle.naming.specs.BridgeNames.{BridgesNamed}
use Rattle.numbers.specs.declared.Limits.{Limits}
use Rattle.table.specs.Inside.Column
use Rattle.table.specs.Inside.Layout.{cell, vertex_area, bridge_block_area, edge_area}
use Rattle.table.specs.Inside.KindValid.{names_in, KindValid, Counts}
use Rattle.forest.specs.Rule.{table_rule}
use Rattle.forest.specs.Inside.Words.{duct_of}
use Rattle.forest.specs.Inside.Surveys.{is_surveyed, kept_day, kept_metres}
use Rattle.forest.specs.Inside.Climb.{up_of, depth_of, above_edge}

-- Edge s as it is stored: its two ends in one word, its duct in another.
unfoldable pub stored_edge : List ℕ → Limits → ℕ → Edge
stored_edge t limits s =
    let ends = cell t (edge_area limits) Column.ends s in
    edge_in_duct (ends / 65536) (ends % 65536) (duct_of t limits s)

-- The network of n vertices and m edges that the table holds.
unfoldable pub network_of : Limits → ℕ → ℕ → List ℕ → Network
network_of limits n m t = record { rule = table_rule; vertices = n; edges = tabulate m (stored_edge t limits) }

-- The naming book that the table holds.
unfoldable pub book_of : Limits → ℕ → ℕ → List ℕ → Book
book_of limits n m t =
    record {
      network = network_of limits n m t;
      components = names_in t (vertex_area limits) n;
      bridge_blocks = names_in t (bridge_block_area limits) n;
      blocks = names_in t (edge_area limits) m;
    }

-- Vertex x, one of n, is marked.
unfoldable pub marked_in : Limits → ℕ → List ℕ → ℕ → Bool
marked_in limits n t x = nat_lt x n && cell t (vertex_area limits) Column.mark x == 1

-- The survey of edge s that is kept, if one is.
unfoldable pub survey_kept : List ℕ → Limits → ℕ → Option Survey
survey_kept t limits s =
    cond (is_surveyed t limits s) (some (record { measured = s; day = kept_day t limits s; metres = kept_metres t limits s })) none

-- A list of surveys and behind it one more, if there is one.
unfoldable pub listed_behind : List Survey → Option Survey → List Survey
listed_behind surveys none = surveys
listed_behind surveys (some r) = surveys ++ r ∷ []

-- The surveys that are kept of the first m edges, by the edge's number.
unfoldable pub surveys_in : Limits → ℕ → List ℕ → List Survey
surveys_in limits zero t = []
surveys_in limits (suc m) t = listed_behind (surveys_in limits m t) (survey_kept t limits m)

-- Some edge of the block of edge e is the one above vertex x.
pub record HangsBelow (t : List ℕ) (limits : Limits) (g : Network) (e x : ℕ) : Type 0 where
  pub by : ℕ
  pub is_up : up_of t limits x ≡ suc by
  pub in_block : block g e by ≡ true

-- The block forest over a network of n vertices and m edges: each vertex hangs below at most one block, each block below one vertex.
pub record ForestValid (t : List ℕ) (limits : Limits) (n m : ℕ) (g : Network) : Type 0 where
  -- the edge above a vertex is an edge of a block that the vertex is on
  pub up_known : (x e : ℕ) → x < n → up_of t limits x ≡ suc e → e < m
  pub up_on : (x e : ℕ) → x < n → up_of t limits x ≡ suc e → on_block g e x ≡ true
  -- the vertex above a block is on it
  pub top_known : (e : ℕ) → e < m → above_edge t limits e < n
  pub top_on : (e : ℕ) → e < m → on_block g e (above_edge t limits e) ≡ true
  -- every vertex with an edge in a block is above the block or hangs below it
  pub covers : (e x : ℕ) → e < m → touches (edge g e) x ≡ true → (x ≡ above_edge t limits e) ⊎ HangsBelow t limits g e x
  -- depth falls on the way up, and is below the square of the component's size
  pub depth_falls : (x e : ℕ) → x < n → up_of t limits x ≡ suc e → depth_of t limits (above_edge t limits e) < depth_of t limits x
  pub depth_bound : (x : ℕ) → x < n → depth_of t limits x < size n (component g) x * size n (component g) x

-- The table is long enough, and holds the names, sizes and forest of its network, and the marks of each bridge-block.
pub record Valid (limits : Limits) (n m : ℕ) (t : List ℕ) : Type 0 where
  pub long : limits.vertices * Column.per_vertex + limits.edges * Column.per_edge ≤ length t
  pub small_vertices : limits.vertices ≤ 4096
  pub small_edges : limits.edges ≤ 8192
  pub vertices_fit : n ≤ limits.vertices
  pub edges_fit : m ≤ limits.edges
  pub proper : Proper (network_of limits n m t)
  pub components : KindValid t (vertex_area limits) n (component (network_of limits n m t))
  pub bridge_blocks_lem : KindValid t (bridge_block_area limits) n (bridge_block (network_of limits n m t))
  pub marks : Counts t (bridge_block_area limits) n (bridge_block (network_of limits n m t)) Column.mark_count (marked_in limits n t)
  pub blocks : KindValid t (edge_area limits) m (block (network_of limits n m t))
  pub forest : ForestValid t limits n m (network_of limits n m t)

-- The words are valid, and no bridge has a block name greater than its own number.
pub record Sound (limits : Limits) (n m : ℕ) (t : List ℕ) : Type 0 where
  pub valid : Valid limits n m t
  pub bridges_named : BridgesNamed (book_of limits n m t)
