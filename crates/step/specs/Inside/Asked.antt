-- The questions for a cabinet's groups, and the duct of a new span.
use Rattle.std.specs.Prelude.{Option, None, Some, ℕ}
use Rattle.commands.specs.Command.{Command, district_name, ring_name}
use Rattle.numbers.specs.declared.Duct.{Duct}
use Rattle.forest.specs.declared.VertexGroups.{VertexGroups}
use Rattle.forest.specs.declared.VertexGroups.TheVariants as G

-- 03 asks for the district and 04 for the ring.
unfoldable pub asks_group : VertexGroups → ℕ → Command
asks_group G.Components a = district_name a
asks_group G.BridgeBlocks a = ring_name a

-- The duct that a new span lies in; 0 where none is told.
unfoldable pub duct_of : Option Duct → ℕ
duct_of None = 0
duct_of (Some d) = d.0
