-- What the questions read off the table, step by step.
use Rattle.std.specs.Prelude.{ℕ, zero, suc, ◌+◌, ◌-◌, ◌/◌, ◌%◌, Bool, cond, not, ◌&&◌, ◌||◌, List, Option, Some, None, ◌==◌}
use Rattle.graph.specs.Below.{tabulate}
use Rattle.numbers.specs.declared.Limits.{Limits}
use Rattle.table.specs.Inside.Column
use Rattle.table.specs.Inside.Layout.{cell, put, vertex_area, bridge_block_area, edge_area}
use Rattle.table.specs.Inside.Merge.{name_in}
use Rattle.numbers.specs.declared.Edge.{Edge}
use Rattle.forest.specs.Inside.Words.{duct_of}
use Rattle.forest.specs.Inside.Climb.{up_of, block_of, top_of, path_vertex, path_edge, climb_table, climb_route}

-- The bridge-block names of two vertices differ.
unfoldable pub bridge_blocks_differ : List ℕ → Limits → ℕ → ℕ → Bool
bridge_blocks_differ t limits x y = not (name_in t (bridge_block_area limits) x == name_in t (bridge_block_area limits) y)

-- The bridge-block names of an edge's two ends, which are kept in one word, differ.
unfoldable pub bridge_in : List ℕ → Limits → ℕ → Bool
bridge_in t limits s =
    let ends = cell t (edge_area limits) Column.ends s in
    bridge_blocks_differ t limits (ends / 65536) (ends % 65536)

-- Two numbers are two others, in this order.
unfoldable pub are_pair : ℕ → ℕ → ℕ → ℕ → Bool
are_pair left right x y = left == x && right == y

-- Two words with the ends of an edge each have the same ends, in either direction.
unfoldable pub ends_agree : ℕ → ℕ → Bool
ends_agree ends other =
    are_pair (ends / 65536) (ends % 65536) (other / 65536) (other % 65536)
    || are_pair (ends / 65536) (ends % 65536) (other % 65536) (other / 65536)

-- Two edges lie in one duct, between the same two vertices.
unfoldable pub lost_together : List ℕ → Limits → ℕ → ℕ → Bool
lost_together t limits s other =
    (duct_of t limits s == duct_of t limits other)
    && ends_agree (cell t (edge_area limits) Column.ends s) (cell t (edge_area limits) Column.ends other)

-- Vertex x hangs below a block, and y is the vertex above that block.
unfoldable pub hangs_from : List ℕ → Limits → ℕ → ℕ → Bool
hangs_from t limits x y =
    not (up_of t limits x == 0) && top_of t limits (block_of t limits (up_of t limits x - 1)) == y

-- Vertices x and y hang below one block.
unfoldable pub hang_together : List ℕ → Limits → ℕ → ℕ → Bool
hang_together t limits x y =
    not (up_of t limits x == 0)
    && not (up_of t limits y == 0)
    && block_of t limits (up_of t limits x - 1) == block_of t limits (up_of t limits y - 1)

-- The name of the block above a vertex.
unfoldable pub block_above : List ℕ → Limits → ℕ → ℕ
block_above t limits x = block_of t limits (up_of t limits x - 1)

-- Two vertices share a block if the blocks above them are one, or one of them is above the other's block.
unfoldable pub shared_in : List ℕ → Limits → ℕ → ℕ → Option Edge
shared_in t limits a b =
    cond
    (hang_together t limits a b)
    (Some (record { 0 = block_above t limits a }))
    (cond
    (hangs_from t limits a b)
    (Some (record { 0 = block_above t limits a }))
    (cond (hangs_from t limits b a) (Some (record { 0 = block_above t limits b })) None))

-- The first k bridges that are written down.
unfoldable pub bridges_written : Limits → ℕ → List ℕ → List ℕ
bridges_written limits k t = tabulate k (λ i. cell t (vertex_area limits) Column.right_edge i)

-- A table and how many bridges are written down.
pub record Found : Type 0 where
  pub table : List ℕ
  pub count : ℕ

-- The name of the block of step i of the path is written down where the vertices at its two sides are in different bridge-blocks.
unfoldable pub find_table : List ℕ → Limits → ℕ → ℕ → List ℕ
find_table t limits i count =
    cond
    (bridge_blocks_differ t limits (path_vertex t limits i) (path_vertex t limits (i + 1)))
    (put t (vertex_area limits) Column.right_edge count (block_of t limits (path_edge t limits i)))
    t

unfoldable pub find_count : List ℕ → Limits → ℕ → ℕ → ℕ
find_count t limits i count = cond (bridge_blocks_differ t limits (path_vertex t limits i) (path_vertex t limits (i + 1))) (suc count) count

-- The k steps from step i on.
unfoldable pub find_from : List ℕ → Limits → ℕ → ℕ → ℕ → Found
find_from t limits i zero count = record { table = t; count = count }
find_from t limits i (suc k) count = find_from (find_table t limits i count) limits (suc i) k (find_count t limits i count)

-- The bridges on the path from a to b.
unfoldable pub bridges_found : List ℕ → Limits → ℕ → ℕ → Found
bridges_found t limits a b = find_from (climb_table t limits a b) limits 0 (climb_route t limits a b).steps 0

-- How many vertices the path from a to b has between its ends.
unfoldable pub cuts_count : List ℕ → Limits → ℕ → ℕ → ℕ
cuts_count t limits a b = (climb_route t limits a b).steps - 1
