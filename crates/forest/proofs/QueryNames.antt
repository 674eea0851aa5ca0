-- Names and sizes: what the table says of a vertex or an edge is what the naming book and the network say.
use Rattle.std.proofs.Common.{◌≡◌, ℕ, ◌<◌, not, List, sym, ap, ◌∙◌}
use Rattle.graph.specs.Network.{Network, Edge, edge_between, edge_in_duct, edge, edge_count}
use Rattle.graph.specs.Groups.{bridge, bridge_block}
use Rattle.graph.proofs.BridgeBlock.{bridge_parts_bridge_blocks}
use Rattle.naming.specs.Rename.{size, name_of}
use Rattle.naming.proofs.Listed.{get_or-tabulate}
use Rattle.numbers.specs.declared.Limits.{Limits}
use Rattle.table.specs.Inside.Layout.{vertex_area, bridge_block_area, edge_area}
use Rattle.table.specs.Inside.Merge.{name_in, size_in}
use Rattle.table.proofs.KindNames.{name_in_list, same-group}
use Rattle.numbers.specs.declared.Shape.{Shape}
use Rattle.forest.specs.declared.VertexGroups.{VertexGroups}
use Rattle.forest.specs.declared.VertexGroups.TheVariants as G
use Rattle.forest.specs.Inside.Words.{group_area}
use Rattle.forest.specs.Inside.Held.{sound}
use Rattle.forest.specs.Inside.Valid.{stored_edge, network_of, book_of, Valid}
use Rattle.forest.specs.Inside.Queries.{bridge_blocks_differ, bridge_in}
use Rattle.forest.specs.Promise.{Holds, state_of, book_in, network_in, vertex_names, vertex_groups}
use Rattle.forest.proofs.Networks.{edge_count_lem, network_rule}

-- the name of a vertex is the one in the book's list
pub group_name : (shape : Shape) (t : List ℕ) (groups : VertexGroups) (x : ℕ) → x < shape.vertices
    → name_in t (group_area shape.limits groups) x ≡ name_of (vertex_names groups (book_in shape t)) x
unfolding state_of book_of
group_name shape t G.Components x h = sym (name_in_list t (vertex_area shape.limits) shape.vertices x h)
group_name shape t G.BridgeBlocks x h = sym (name_in_list t (bridge_block_area shape.limits) shape.vertices x h)

-- and so is that of an edge
pub block_name_lem : (shape : Shape) (t : List ℕ) (s : ℕ) → s < shape.edges
    → name_in t (edge_area shape.limits) s ≡ name_of (book_in shape t).blocks s
unfolding state_of book_of
block_name_lem shape t s h = sym (name_in_list t (edge_area shape.limits) shape.edges s h)

-- the size of the group of a vertex's name is that of its group
pub group_size_lem : (shape : Shape) (t : List ℕ) → Holds shape t → (groups : VertexGroups) (x : ℕ) → x < shape.vertices
    → size_in t (group_area shape.limits groups) (name_in t (group_area shape.limits groups) x)
    ≡ size shape.vertices (vertex_groups groups (network_in shape t)) x
unfolding Holds state_of book_of
group_size_lem shape t holds G.Components x h = (sound holds).valid.components.sized x h
group_size_lem shape t holds G.BridgeBlocks x h = (sound holds).valid.bridge_blocks_lem.sized x h

-- edge s of a table's network is the one that the table has stored
pub network-edge : (limits : Limits) (n m : ℕ) (t : List ℕ) (s : ℕ) → s < m → edge (network_of limits n m t) s ≡ stored_edge t limits s
unfolding edge network_of
network-edge limits n m t s h = get_or-tabulate m (stored_edge t limits) (edge_between 0 0) s h

module _ {limits : Limits} {n m : ℕ} {t : List ℕ} (valid : Valid limits n m t) where
  abbrev g : Network
  g = network_of limits n m t

  -- the bridge-block names of two vertices differ exactly if their bridge-blocks do
  pub bridge_blocks_differ_lem : (a b : ℕ) → a < n → b < n → bridge_blocks_differ t limits a b ≡ not (bridge_block g a b)
  unfolding bridge_blocks_differ
  bridge_blocks_differ_lem a b h l = ap not (sym (same-group valid.bridge_blocks_lem a b h l))

  -- an edge is a bridge exactly if the bridge-block names of its ends differ
  pub bridge_in_lem : (s : ℕ) → s < m → bridge_in t limits s ≡ bridge g s
  unfolding edge_in_duct bridge_in stored_edge network_of
  bridge_in_lem s h =
      ap (λ (e : Edge). bridge_blocks_differ t limits e.left e.right) (sym (network-edge limits n m t s h))
      ∙ bridge_blocks_differ_lem (edge g s).left (edge g s).right (valid.proper.left_known s known) (valid.proper.right_known s known)
      ∙ sym (bridge_parts_bridge_blocks g (network_rule limits n m t) s known)
    where
      known : s < edge_count g
      known = rw (edge_count_lem limits n m t) h

-- so is edge s of a shape's network
pub edge_held : (shape : Shape) (t : List ℕ) (s : ℕ) → s < shape.edges → edge (network_in shape t) s ≡ stored_edge t shape.limits s
unfolding state_of book_of
edge_held shape t s h = network-edge shape.limits shape.vertices shape.edges t s h
