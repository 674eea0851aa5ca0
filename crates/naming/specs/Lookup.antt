-- The look-up of a group (document 02, request 8): its name and its size together.
use Rattle.std.specs.Prelude.{cond, List, ℕ}
use Rattle.graph.specs.Network.{Network}
use Rattle.graph.specs.Groups.{component, bridge_block}
use Rattle.naming.specs.Rename.{Grouping, size, name_of}
use Rattle.naming.specs.Book.{Book}
use Rattle.naming.specs.Total.{over_groups}

-- A group as it is told.
pub record Group : Type 0 where
  pub name : ℕ
  pub size : ℕ

-- The group of item x: its name, and how many of the items below n it has.
unfoldable pub group_of : ℕ → List ℕ → Grouping → ℕ → Group
group_of n names groups x = record { name = name_of names x; size = size n groups x }

-- The component of vertex x, and its bridge-block.
unfoldable pub component_of : Book → ℕ → Group
component_of b = group_of b.network.vertices b.components (component b.network)

unfoldable pub bridge_block_of : Book → ℕ → Group
bridge_block_of b = group_of b.network.vertices b.bridge_blocks (bridge_block b.network)

-- What f gives for the bridge-blocks of x's component, each counted once, at its first vertex, added up.
unfoldable pub over_bridge_blocks : Network → ℕ → (ℕ → ℕ) → ℕ
over_bridge_blocks g x f = over_groups g.vertices (bridge_block g) (λ y. cond (component g x y) (f y) 0)
