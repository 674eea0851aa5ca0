-- How the book names the blocks of bridges.
use Rattle.std.specs.Prelude.{true, ◌≡◌, ℕ, ◌≤◌, ◌<◌}
use Rattle.graph.specs.Network.{edge_count}
use Rattle.graph.specs.Groups.{bridge}
use Rattle.naming.specs.Rename.{name_of}
use Rattle.naming.specs.Book.{Book}

-- No bridge has a block name greater than its own number. (`bridge_named_by_least`: so that name is the least of the bridge and its mates.)
abbrev pub BridgesNamed : Book → Type 0
BridgesNamed b = (s : ℕ) → s < edge_count b.network → bridge b.network s ≡ true → name_of b.blocks s ≤ s
