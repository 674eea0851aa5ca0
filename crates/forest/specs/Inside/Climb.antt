-- What climbing the block forest from two vertices does, step by step. Each vertex but a root has an edge of the block above it, and each
-- block has the vertex above it.
use Rattle.std.specs.Prelude.{ℕ, zero, suc, ◌+◌, ◌-◌, min, Bool, true, false, cond, not, ◌&&◌, List, ◌==◌, nat_lt}
use Rattle.numbers.specs.declared.Limits.{Limits}
use Rattle.table.specs.Inside.Column
use Rattle.table.specs.Inside.Layout.{cell, put, vertex_area, edge_area}
use Rattle.forest.specs.declared.climb.Trail.{Trail}
use Rattle.forest.specs.declared.climb.Route.{Route}

-- The columns of a vertex: 0 at a root, else one more than an edge of the block above; a number that falls on the way up.
abbrev pub up_of : List ℕ → Limits → ℕ → ℕ
up_of t limits x = cell t (vertex_area limits) Column.up x

abbrev pub depth_of : List ℕ → Limits → ℕ → ℕ
depth_of t limits x = cell t (vertex_area limits) Column.depth x

-- The block name of an edge, and the vertex above a named block.
abbrev pub block_of : List ℕ → Limits → ℕ → ℕ
block_of t limits e = cell t (edge_area limits) Column.name e

abbrev pub top_of : List ℕ → Limits → ℕ → ℕ
top_of t limits w = cell t (edge_area limits) Column.top w

-- The vertex above an edge's block.
unfoldable pub above_edge : List ℕ → Limits → ℕ → ℕ
above_edge t limits e = top_of t limits (block_of t limits e)

-- The path's vertices and edges, and those of the right side on the way up.
abbrev pub path_vertex : List ℕ → Limits → ℕ → ℕ
path_vertex t limits i = cell t (vertex_area limits) Column.path_vertex i

abbrev pub path_edge : List ℕ → Limits → ℕ → ℕ
path_edge t limits i = cell t (vertex_area limits) Column.path_edge i

abbrev pub right_vertex : List ℕ → Limits → ℕ → ℕ
right_vertex t limits i = cell t (vertex_area limits) Column.right_vertex i

abbrev pub right_edge : List ℕ → Limits → ℕ → ℕ
right_edge t limits i = cell t (vertex_area limits) Column.right_edge i

-- The right side is the deeper one.
unfoldable pub right_deeper : List ℕ → Limits → Trail → Bool
right_deeper t limits r = nat_lt (depth_of t limits r.a.0) (depth_of t limits r.b.0)

-- The vertex to climb from.
unfoldable pub climbing : List ℕ → Limits → Trail → ℕ
climbing t limits r = cond (right_deeper t limits r) r.b.0 r.a.0

-- A step on the right side is written down with the vertex that it leaves, one on the left side with the vertex that it reaches.
unfoldable pub record_table : List ℕ → Limits → Trail → ℕ → ℕ → Bool → List ℕ
record_table t limits r e v true =
    put (put t (vertex_area limits) Column.right_edge r.right e) (vertex_area limits) Column.right_vertex r.right r.b.0
record_table t limits r e v false =
    put (put t (vertex_area limits) Column.path_edge r.left e) (vertex_area limits) Column.path_vertex (r.left + 1) v

unfoldable pub record_trail : Trail → ℕ → Bool → Trail
record_trail r v true = record { a = r.a; b = record { 0 = v }; left = r.left; right = r.right + 1 }
record_trail r v false = record { a = record { 0 = v }; b = r.b; left = r.left + 1; right = r.right }

-- A table and a trail.
pub record Climbed : Type 0 where
  pub table : List ℕ
  pub trail : Trail

-- The climb from a trail, with so many steps left: always from the deeper side, until the sides meet.
unfoldable pub climb_from : ℕ → List ℕ → Limits → Trail → Climbed
climb_from zero t limits r = record { table = t; trail = r }
climb_from (suc k) t limits r =
    let above = up_of t limits (climbing t limits r) in
    let v = above_edge t limits (above - 1) in
    let right = right_deeper t limits r in
    let next = climb_from k (record_table t limits r (above - 1) v right) limits (record_trail r v right) in
    cond (r.a.0 == r.b.0) (record { table = t; trail = r })
    (cond (above == 0) (record { table = t; trail = r }) next)

-- How many steps of a climb nest in one another at most.
abbrev pub nested_most : ℕ
nested_most = 12

-- The climb that goes on from the block of an edge.
unfoldable pub climb_from_block : ℕ → List ℕ → Limits → Trail → ℕ → Bool → Climbed
climb_from_block k t limits r e right =
    let v = above_edge t limits e in
    climb_from k (record_table t limits r e v right) limits (record_trail r v right)

-- Both sides came up through one block: then the left side's last step is dropped.
unfoldable pub same_last : List ℕ → Limits → Trail → Bool
same_last t limits r =
    not (r.left == 0)
    && not (r.right == 0)
    && block_of t limits (path_edge t limits (r.left - 1)) == block_of t limits (right_edge t limits (r.right - 1))

unfoldable pub kept_left : List ℕ → Limits → Trail → ℕ
kept_left t limits r = cond (same_last t limits r) (r.left - 1) r.left

-- Step k of the right side, turned round, behind the first `at` steps of the path.
unfoldable pub join_one : List ℕ → Limits → ℕ → ℕ → List ℕ
join_one t limits k at =
    put (put t (vertex_area limits) Column.path_edge at (right_edge t limits k)) (vertex_area limits) Column.path_vertex (at + 1) (right_vertex t limits k)

-- The first k steps of the right side, the last of them first.
unfoldable pub join_from : ℕ → List ℕ → Limits → ℕ → List ℕ
join_from zero t limits at = t
join_from (suc k) t limits at = join_from k (join_one t limits k at) limits (at + 1)

-- How many steps the climb may take: the two depths, which fall.
unfoldable pub reach : List ℕ → Limits → ℕ → ℕ → ℕ
reach t limits a b = min (depth_of t limits a + depth_of t limits b) 2147483648

-- The climb from both ends, with the first end written down.
unfoldable pub climb_both : List ℕ → Limits → ℕ → ℕ → Climbed
climb_both t limits a b =
    let t₁ = put t (vertex_area limits) Column.path_vertex 0 a in
    climb_from (reach t₁ limits a b) t₁ limits (record { a = record { 0 = a }; b = record { 0 = b }; left = 0; right = 0 })

-- The table with the path from a to b in it.
unfoldable pub climb_table : List ℕ → Limits → ℕ → ℕ → List ℕ
climb_table t limits a b =
    let c = climb_both t limits a b in
    join_from c.trail.right c.table limits (kept_left c.table limits c.trail)

-- How many steps the path has, and the vertex where the sides met.
unfoldable pub climb_route : List ℕ → Limits → ℕ → ℕ → Route
climb_route t limits a b =
    let c = climb_both t limits a b in
    record { steps = kept_left c.table limits c.trail + c.trail.right; top = c.trail.a }
