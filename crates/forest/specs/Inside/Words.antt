-- The words of a kind of groups of vertices, and the duct of an edge.
use Rattle.std.specs.Prelude.{ℕ, ◌%◌, List}
use Rattle.numbers.specs.declared.Limits.{Limits}
use Rattle.table.specs.declared.words.Area.{Area}
use Rattle.table.specs.Inside.Column
use Rattle.table.specs.Inside.Layout.{cell, vertex_area, bridge_block_area, edge_area}
use Rattle.forest.specs.declared.VertexGroups.{VertexGroups}
use Rattle.forest.specs.declared.VertexGroups.TheVariants as G

abbrev pub group_area : Limits → VertexGroups → Area
group_area limits G.Components = vertex_area limits
group_area limits G.BridgeBlocks = bridge_block_area limits

-- The duct of edge s: the lower half of its word.
abbrev pub duct_of : List ℕ → Limits → ℕ → ℕ
duct_of t limits s = cell t (edge_area limits) Column.duct s % 65536
