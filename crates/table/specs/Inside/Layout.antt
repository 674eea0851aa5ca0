-- The words of the working table, laid out column by column: first the columns of the vertices, then those of the edges.
use Rattle.std.specs.Prelude.{ℕ, ◌+◌, ◌*◌, List, slice_index, slice_set}
use Rattle.numbers.specs.declared.Limits.{Limits}
use Rattle.table.specs.declared.words.Area.{Area}
use Rattle.table.specs.Inside.Column

-- The words of the vertices, of which the components have the first columns; those of the bridge-blocks among them; those of the edges, of
-- which the blocks have the first columns.
abbrev pub vertex_area : Limits → Area
vertex_area limits = record { base = 0; size = limits.vertices; columns = Column.per_component }

abbrev pub bridge_block_area : Limits → Area
bridge_block_area limits =
    record { base = limits.vertices * Column.per_component; size = limits.vertices; columns = Column.per_bridge_block }

abbrev pub edge_area : Limits → Area
edge_area limits = record { base = limits.vertices * Column.per_vertex; size = limits.edges; columns = Column.per_block }

-- Where the word of an item stands.
unfoldable pub place : Area → ℕ → ℕ → ℕ
place area column item = area.base + column * area.size + item

-- The word of an item in a column; 0 where the table has no such word.
unfoldable pub cell : List ℕ → Area → ℕ → ℕ → ℕ
cell t area column item = slice_index t (place area column item)

-- The table with that word stored; unchanged where the table has no such word.
unfoldable pub put : List ℕ → Area → ℕ → ℕ → ℕ → List ℕ
put t area column item value = slice_set t (place area column item) value
