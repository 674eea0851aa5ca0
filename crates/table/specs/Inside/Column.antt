-- The columns of the working table, each of which has a word for every item: their numbers stand here, and in the code once more
-- (src/words.rt).
use Rattle.std.specs.Prelude.{ℕ, ◌+◌}

-- How many columns the vertices have, and the edges: so many words each vertex takes, and each edge.
abbrev pub per_vertex : ℕ
per_vertex = 24

abbrev pub per_edge : ℕ
per_edge = 8

-- The columns of each kind of group: an item's name; by a name, the range of its group's items; the items that changed their name; by a
-- name, its group's size. From the size on, up to the last column of the kind, merging adds up what groups have.
abbrev pub name : ℕ
name = 0

abbrev pub range : ℕ
range = 1

abbrev pub changed : ℕ
changed = 2

abbrev pub size : ℕ
size = 3

-- Of bridge-blocks besides: by a name, how many of its group's vertices are marked.
abbrev pub mark_count : ℕ
mark_count = 4

-- How many columns components have, bridge-blocks, and blocks.
abbrev pub per_component : ℕ
per_component = 4

abbrev pub per_bridge_block : ℕ
per_bridge_block = 5

abbrev pub per_block : ℕ
per_block = 4

-- Components have the first columns of the vertices, bridge-blocks those behind them.
abbrev pub of_bridge_blocks : ℕ → ℕ
of_bridge_blocks c = per_component + c

-- The other columns of the edges, behind those of blocks: an edge's two ends; by a block's name, the vertex above it; an edge's duct, and in
-- the upper half of that word whether a survey of the edge is kept; the day and the metres of that survey.
abbrev pub ends : ℕ
ends = per_block

abbrev pub top : ℕ
top = ends + 1

abbrev pub duct : ℕ
duct = ends + 2

abbrev pub survey : ℕ
survey = ends + 3

-- The other columns of the vertices, behind those of bridge-blocks: the way up, the depth, the path's vertices and edges, those of its right
-- side, and whether the vertex is marked.
abbrev pub up : ℕ
up = of_bridge_blocks per_bridge_block

abbrev pub depth : ℕ
depth = up + 1

abbrev pub path_vertex : ℕ
path_vertex = up + 2

abbrev pub path_edge : ℕ
path_edge = up + 3

abbrev pub right_vertex : ℕ
right_vertex = up + 4

abbrev pub right_edge : ℕ
right_edge = up + 5

abbrev pub mark : ℕ
mark = up + 6
