-- What one vertex more, one edge more and a mark do to the table, step by step. An edge links two components, or condenses the path
-- between two vertices.
use Rattle.std.specs.Prelude.{◌≡◌, ℕ, zero, suc, ◌+◌, ◌-◌, ◌*◌, ◌%◌, ◌^◌, Bool, cond, ◌&&◌, List, Option, Some, None, ◌==◌, nat_eq}
use Rattle.numbers.specs.declared.Limits.{Limits}
use Rattle.table.specs.declared.words.Area.{Area}
use Rattle.table.specs.declared.merge.Listing.{Listing}
use Rattle.table.specs.Inside.Column
use Rattle.table.specs.Inside.Layout.{cell, put, vertex_area, bridge_block_area, edge_area}
use Rattle.table.specs.Inside.Merge.{name_in, size_in, range_in, best_listed, merge_listed, least_of}
use Rattle.forest.specs.declared.Growth.{Growth}
use Rattle.forest.specs.declared.tree.Turning.{Turning}
use Rattle.forest.specs.Inside.Words.{duct_of}
use Rattle.forest.specs.Inside.Climb.{up_of, depth_of, block_of, above_edge, path_edge, climb_table, climb_route}

-- A group of one item, named by its number.
unfoldable pub new_group : List ℕ → Area → ℕ → List ℕ
new_group t area x = put (put (put t area Column.name x x) area Column.size x 1) area Column.range x (x % 65536 * 65536 + x % 65536)

-- A new vertex is not marked, and its bridge-block, named by its number, has no marks.
unfoldable pub new_marks : List ℕ → Limits → ℕ → List ℕ
new_marks t limits x = put (put t (bridge_block_area limits) Column.mark_count x 0) (vertex_area limits) Column.mark x 0

-- One vertex more: a component, a bridge-block and a root by itself, not marked.
unfoldable pub vertex_table : List ℕ → Limits → ℕ → List ℕ
vertex_table t limits x =
    let groups = new_group (new_group t (vertex_area limits) x) (bridge_block_area limits) x in
    new_marks (put (put groups (vertex_area limits) Column.up x 0) (vertex_area limits) Column.depth x 0) limits x

-- A vertex marked: its bridge-block has one mark more.
unfoldable pub mark_table : List ℕ → Limits → ℕ → List ℕ
mark_table t limits x =
    let name = name_in t (bridge_block_area limits) x in
    let marks = cell t (bridge_block_area limits) Column.mark_count name in
    put (put t (bridge_block_area limits) Column.mark_count name ((marks + 1) % 2 ^ 32)) (vertex_area limits) Column.mark x 1

-- The depths of k changed vertices, from the one written down at place i on, raised.
unfoldable pub raise_from : ℕ → List ℕ → Limits → ℕ → ℕ → List ℕ
raise_from zero t limits by i = t
raise_from (suc k) t limits by i =
    let x = cell t (vertex_area limits) Column.changed i in
    raise_from k (put t (vertex_area limits) Column.depth x ((depth_of t limits x + by) % 2 ^ 32)) limits by (suc i)

-- Vertex x hung below the block of the edge that `up` names, at a depth.
unfoldable pub hung_vertex : List ℕ → Limits → ℕ → ℕ → ℕ → List ℕ
hung_vertex t limits x up depth = put (put t (vertex_area limits) Column.up x up) (vertex_area limits) Column.depth x depth

-- The block of edge e hung below vertex x.
unfoldable pub hung_block : List ℕ → Limits → ℕ → ℕ → List ℕ
hung_block t limits e x = put t (edge_area limits) Column.top (block_of t limits e) x

-- The way up from a vertex turned round, with at most so many steps: the vertex hangs below the block of the given edge, and each block
-- on the way below the vertex that hung below it.
unfoldable pub turn_from : ℕ → List ℕ → Limits → ℕ → ℕ → ℕ → List ℕ
turn_from zero t limits x up depth = t
turn_from (suc k) t limits x up depth =
    let above = up_of t limits x in
    let t₁ = hung_vertex t limits x up depth in
    let rest = turn_from k (hung_block t₁ limits (above - 1) x) limits (above_edge t₁ limits (above - 1)) above ((depth + 1) % 2 ^ 32) in
    cond (above == 0) t₁ rest

-- The table after one vertex of that way: unless it was a root, the block above it hangs below it.
unfoldable pub turned_table : List ℕ → Limits → Turning → List ℕ
turned_table t limits s =
    let above = up_of t limits s.at.0 in
    let t₁ = hung_vertex t limits s.at.0 (suc s.by.0) s.depth in
    cond (above == 0) t₁ (hung_block t₁ limits (above - 1) s.at.0)

-- The next vertex of that way, if this one was no root: the vertex above that block, which is to hang by the same edge.
unfoldable pub turned_next : List ℕ → Limits → Turning → Option Turning
turned_next t limits s =
    let above = up_of t limits s.at.0 in
    let t₁ = hung_vertex t limits s.at.0 (suc s.by.0) s.depth in
    cond
    (above == 0)
    None
    (Some (record {
      at = record { 0 = above_edge t₁ limits (above - 1) };
      by = record { 0 = above - 1 };
      depth = (s.depth + 1) % 2 ^ 32;
    }))

-- The listing of the vertices on the path, and of its edges.
unfoldable pub path_vertices : Limits → ℕ → Listing
path_vertices limits k = record { area = vertex_area limits; column = Column.path_vertex; count = k }

unfoldable pub path_edges : Limits → ℕ → Listing
path_edges limits k = record { area = vertex_area limits; column = Column.path_edge; count = k }

-- The two vertices that an edge joins, written down as the path's first vertices.
unfoldable pub list_ends : List ℕ → Limits → ℕ → ℕ → List ℕ
list_ends t limits a b = put (put t (vertex_area limits) Column.path_vertex 0 a) (vertex_area limits) Column.path_vertex 1 b

-- A table and what changed: items of each kind that changed their name, and the new edge's block name.
pub record Grown : Type 0 where
  pub table : List ℕ
  pub components : ℕ
  pub bridge_blocks : ℕ
  pub blocks : ℕ
  pub block : ℕ

-- The table and the result of one edge more, in the code's own struct.
pub record GrowsTo (table : List ℕ) (result : Growth) (grown : Grown) : Type 0 where
  pub table_is : table ≡ grown.table
  pub components_are : result.components ≡ grown.components
  pub bridge_blocks_are : result.bridge_blocks ≡ grown.bridge_blocks
  pub blocks_are : result.blocks ≡ grown.blocks
  pub block_is : result.block.0 ≡ grown.block

-- The component of u hung below v by the new edge e, where u is in the component that loses its name.
unfoldable pub hang_table : List ℕ → Limits → ℕ → ℕ → ℕ → ℕ → List ℕ
hang_table t limits e u v changed =
    let below = depth_of t limits u in
    let start = (depth_of t limits v + 1) % 2 ^ 32 in
    let raised = raise_from changed t limits ((start + below) % 2 ^ 32) 0 in
    let hung = put (new_group raised (edge_area limits) e) (edge_area limits) Column.top e v in
    turn_from (suc below) hung limits u (suc e) start

-- Two components linked by the new edge e.
unfoldable pub link_grown : List ℕ → Limits → ℕ → ℕ → ℕ → Grown
link_grown t limits e a b =
    let listed = list_ends t limits a b in
    let merged = merge_listed listed (vertex_area limits) (path_vertices limits 2) in
    let keeps = nat_eq (name_in t (vertex_area limits) a) (best_listed listed (vertex_area limits) (path_vertices limits 2)) in
    record {
      table = hang_table merged.table limits e (cond keeps b a) (cond keeps a b) merged.count;
      components = merged.count;
      bridge_blocks = 0;
      blocks = 0;
      block = e;
    }

-- The new edge e put into the block named w, below the vertex v.
unfoldable pub enter_block : List ℕ → Limits → ℕ → ℕ → ℕ → List ℕ
enter_block t limits e w v =
    let area = edge_area limits in
    put
    (put (put (put t area Column.name e w) area Column.size w ((size_in t area w + 1) % 2 ^ 32)) area Column.range w (least_of (range_in t area w) * 65536 + e % 65536))
    area
    Column.top
    w
    v

-- The path has one step, and the new edge e lies in the duct of the edge of that step.
unfoldable pub in_step_duct : List ℕ → Limits → ℕ → ℕ → Bool
in_step_duct t limits e steps = steps == 1 && duct_of t limits (path_edge t limits 0) == duct_of t limits e

-- How many of the path's vertices have their bridge-blocks merged: all, or only the first, which changes nothing, where the new edge lies in
-- the step's duct. (Then either the step's edge is a bridge and so, being parallel to e, a mate of it, or the path's two vertices share a
-- bridge-block already.)
unfoldable pub merged_vertices : List ℕ → Limits → ℕ → ℕ → ℕ
merged_vertices t limits e steps = cond (in_step_duct t limits e steps) 1 (steps + 1)

-- The path between a and b condensed by the new edge e.
unfoldable pub condense_grown : List ℕ → Limits → ℕ → ℕ → ℕ → Grown
condense_grown t limits e a b =
    let route = climb_route t limits a b in
    let climbed = climb_table t limits a b in
    let bridge_blocks = merge_listed climbed (bridge_block_area limits) (path_vertices limits (merged_vertices climbed limits e route.steps)) in
    let blocks = merge_listed bridge_blocks.table (edge_area limits) (path_edges limits route.steps) in
    let w = best_listed bridge_blocks.table (edge_area limits) (path_edges limits route.steps) in
    record {
      table = enter_block blocks.table limits e w route.top.0;
      components = 0;
      bridge_blocks = bridge_blocks.count;
      blocks = blocks.count;
      block = w;
    }

-- The new edge stored: its ends in one word, its duct in another.
unfoldable pub edge_table : List ℕ → Limits → ℕ → ℕ → ℕ → ℕ → List ℕ
edge_table t limits e a b d =
    put (put t (edge_area limits) Column.ends e (a % 65536 * 65536 + b % 65536)) (edge_area limits) Column.duct e d

-- One edge more: two components are linked, or the path is condensed.
unfoldable pub edge_grown : List ℕ → Limits → ℕ → ℕ → ℕ → ℕ → Grown
edge_grown t limits e a b d =
    let t₁ = edge_table t limits e a b d in
    cond
    (name_in t₁ (vertex_area limits) a == name_in t₁ (vertex_area limits) b)
    (condense_grown t₁ limits e a b)
    (link_grown t₁ limits e a b)
