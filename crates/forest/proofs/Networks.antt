-- The network that a table holds, and its groups.
use Rattle.std.proofs.Common.{◌≡◌, ℕ, ◌<◌, List, refl}
use Rattle.graph.specs.Below.{length_tabulate}
use Rattle.graph.specs.Network.{Network, edge_count, MateRule}
use Rattle.graph.specs.Groups.{component, bridge_block}
use Rattle.graph.specs.Block.{block}
use Rattle.graph.proofs.Ducts.{one_duct-mates}
use Rattle.graph.proofs.Mates.{component_refl, component_sym, component_trans}
use Rattle.graph.proofs.BridgeBlock.{bridge_block_refl, bridge_block_sym, bridge_block_trans}
use Rattle.graph.proofs.Block.{block_refl, block_sym, block_trans}
use Rattle.naming.specs.Book.{Book}
use Rattle.naming.specs.State.{State}
use Rattle.naming.proofs.Equivalent.{Equivalent}
use Rattle.naming.proofs.Listed.{tabulate_same}
use Rattle.numbers.specs.declared.Limits.{Limits}
use Rattle.forest.specs.Rule.{table_rule_lem}
use Rattle.forest.specs.Inside.Valid.{stored_edge, network_of}

-- components group the vertices
pub component_groups : (g : Network) → Equivalent (component g)
component_groups g = record { reflexive = component_refl g; symmetric = component_sym g; transitive = component_trans g }

-- so do bridge-blocks
pub bridge_block_groups : (g : Network) → Equivalent (bridge_block g)
bridge_block_groups g = record { reflexive = bridge_block_refl g; symmetric = bridge_block_sym g; transitive = bridge_block_trans g }

-- and blocks group the edges
pub block_groups : (g : Network) → Equivalent (block g)
block_groups g = record { reflexive = block_refl g; symmetric = block_sym g; transitive = block_trans g }

-- a table's network has as many edges as were entered
pub edge_count_lem : (limits : Limits) (n m : ℕ) (t : List ℕ) → edge_count (network_of limits n m t) ≡ m
unfolding edge_count network_of
edge_count_lem limits n m t = length_tabulate m (stored_edge t limits)

-- and as many vertices
pub vertex_count : (limits : Limits) (n m : ℕ) (t : List ℕ) → (network_of limits n m t).vertices ≡ n
unfolding network_of
vertex_count limits n m t = refl

-- The two tables agree on the edges below m.
abbrev pub SameEdges : Limits → ℕ → List ℕ → List ℕ → Type 0
SameEdges limits m t t' = (s : ℕ) → s < m → stored_edge t' limits s ≡ stored_edge t limits s

-- then they hold one network
pub network-same : (limits : Limits) (n m : ℕ) (t t' : List ℕ) → SameEdges limits m t t' → network_of limits n m t' ≡ network_of limits n m t
unfolding network_of
network-same limits n m t t' same = rw (tabulate_same m (stored_edge t' limits) (stored_edge t limits) same)

-- the table's rule is a rule of mates
pub network_rule : (limits : Limits) (n m : ℕ) (t : List ℕ) → MateRule (network_of limits n m t).rule
unfolding network_of
network_rule limits n m t = rw table_rule_lem one_duct-mates

-- two books with the same network and the same three lists of names are one
pub book_is : {b b' : Book} → b.network ≡ b'.network → b.components ≡ b'.components → b.bridge_blocks ≡ b'.bridge_blocks
    → b.blocks ≡ b'.blocks
    → b ≡ b'
book_is p q r s = λ i. record { network = p i; components = q i; bridge_blocks = r i; blocks = s i }

-- two states with the same book, the same marked vertices and the same surveys are one
pub state_is : {s s' : State} → s.book ≡ s'.book → ((x : ℕ) → s.marked x ≡ s'.marked x) → s.surveys ≡ s'.surveys → s ≡ s'
state_is p q r = λ i. record { book = p i; marked = λ x. q x i; surveys = r i }
