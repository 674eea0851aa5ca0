-- The naming book names the components, bridge-blocks and blocks of its network, whatever is added.
use mathlib.Core.List.{List, [], ◌∷◌, ◌++◌}
use mathlib.Core.Path.{◌≡◌, refl, sym, ◌∙◌}
use Prim.Native.Nat.{ℕ, suc}
use native.Mathlib.Nat.{le_refl, not-suc-le-zero}
use native.Mathlib.Omega.{arith}
use lib.Dec.{eqb}
use Rattle.graph.specs.Network.{Network, Edge, Rule, MateRule, Proper, edge_count, add_vertex, add_edge}
use Rattle.graph.specs.Groups.{component, bridge_block}
use Rattle.graph.specs.Block.{block}
use Rattle.graph.proofs.Truth.{ne_eqb}
use Rattle.graph.proofs.Joined.{edge_count_more}
use Rattle.graph.proofs.Mates.{component_refl, component_sym, component_trans}
use Rattle.graph.proofs.BridgeBlock.{bridge_block_equivalence}
use Rattle.graph.proofs.VertexMore.{component_vertex_more, bridge_block_vertex_more, block_vertex_more, component-alone, bridge_block-alone, proper_vertex_more}
use Rattle.graph.proofs.Block.{block_equivalence}
use Rattle.graph.proofs.Grows.{block_next, component_grows, bridge_block_grows, block_grows}
use Rattle.naming.specs.Rename.{Grouping, rename}
use Rattle.naming.specs.Book.{Book, empty_book, enter_vertex, enter_edge}
use Rattle.naming.proofs.Equivalent.{Equivalent, Finer, equivalent_of}
use Rattle.naming.proofs.Naming.{Naming, naming_none}
use Rattle.naming.proofs.Advance.{Advance, advance_same, advance_new_item, advance_rename, advance_trans}

-- What the naming laws ask of a kind of groups in every network: how many items there are, and which share a group.
pub record GroupLaws (items : Network → ℕ) (groups : Network → Grouping) : Type 0 where
  -- the groups are those of an equivalence
  pub equivalent : (g : Network) → Equivalent (groups g)
  -- the number of the next item is alone
  pub next_alone : (g : Network) → Proper g → (x : ℕ) → groups g (items g) x ≡ eqb (items g) x
  -- one vertex more changes no group
  pub vertex_more : (g : Network) (x y : ℕ) → groups (add_vertex g) x y ≡ groups g x y
  -- with one edge more, what shared a group still does
  pub edge_more : (g : Network) (e : Edge) → MateRule g.rule → Finer (groups g) (groups (add_edge g e))

-- components, of vertices
pub component_laws : GroupLaws (λ g. g.vertices) component
component_laws =
    record {
      equivalent = λ g. record { reflexive = component_refl g; symmetric = component_sym g; transitive = component_trans g };
      next_alone = λ g proper x. component-alone g proper g.vertices x (le_refl _);
      vertex_more = component_vertex_more;
      edge_more = λ g e r. component_grows g e;
    }

-- bridge-blocks, of vertices
pub bridge_block_laws : GroupLaws (λ g. g.vertices) bridge_block
bridge_block_laws =
    record {
      equivalent = λ g. equivalent_of (bridge_block g) (bridge_block_equivalence g);
      next_alone = λ g proper x. bridge_block-alone g proper g.vertices x (le_refl _);
      vertex_more = bridge_block_vertex_more;
      edge_more = λ g e r. bridge_block_grows g e r;
    }

-- blocks, of edges
pub block_laws : GroupLaws edge_count block
block_laws =
    record {
      equivalent = λ g. equivalent_of (block g) (block_equivalence g);
      next_alone = λ g proper. block_next g;
      vertex_more = block_vertex_more;
      edge_more = λ g e r. block_grows g e;
    }

-- What becomes of the names of a kind of groups.
module _ {items : Network → ℕ} {groups : Network → Grouping} (laws : GroupLaws items groups) (g : Network) where
  -- where the next item comes, alone
  pub next_item_named : {names : List ℕ} → Proper g → Naming (items g) (groups g) names
      → Advance (items g) (suc (items g)) (groups g) (groups g) names (names ++ items g ∷ [])
  next_item_named proper named =
      advance_new_item
      (items g)
      (groups g)
      _
      named
      (laws.equivalent g)
      (λ x h. laws.next_alone g proper x ∙ ne_eqb (items g) x (omega arith))

  -- where a vertex comes that is no item of this kind
  pub vertex_passed : {n : ℕ} {names : List ℕ} → Naming n (groups g) names
      → Advance n n (groups g) (groups (add_vertex g)) names names
  vertex_passed named =
      advance_same _ (groups g) (groups (add_vertex g)) _ named (λ x y h k. sym (laws.vertex_more g x y))

  -- where an edge comes
  pub groups_joined : (e : Edge) → MateRule g.rule → {n : ℕ} {names : List ℕ} → Naming n (groups g) names
      → Advance n n (groups g) (groups (add_edge g e)) names (rename (groups g) (groups (add_edge g e)) names)
  groups_joined e r named =
      advance_rename
      _
      (groups g)
      (groups (add_edge g e))
      _
      named
      (laws.equivalent g)
      (laws.equivalent (add_edge g e))
      (laws.edge_more g e r)

-- The network is proper, its rule is one of mates, and each list names the groups of its kind.
pub record BookLaws (b : Book) : Type 0 where
  pub proper : Proper b.network
  pub mate_rule : MateRule b.network.rule
  pub components_named : Naming b.network.vertices (component b.network) b.components
  pub bridge_blocks_named : Naming b.network.vertices (bridge_block b.network) b.bridge_blocks
  pub blocks_named : Naming (edge_count b.network) (block b.network) b.blocks

-- What an addition does to the names of a kind: from one book to the next.
abbrev pub NamesAdvance : (Network → ℕ) → (Network → Grouping) → (Book → List ℕ) → Book → Book → Type 0
NamesAdvance items groups names b b' =
    Advance (items b.network) (items b'.network) (groups b.network) (groups b'.network) (names b) (names b')

-- What it does to the book: the laws hold after it, and the names of each kind advance.
pub record BookAdvances (b b' : Book) : Type 0 where
  pub proper : Proper b'.network
  pub mate_rule : MateRule b'.network.rule
  pub components_advance : NamesAdvance (λ g. g.vertices) component (λ b. b.components) b b'
  pub bridge_blocks_advance : NamesAdvance (λ g. g.vertices) bridge_block (λ b. b.bridge_blocks) b b'
  pub blocks_advance : NamesAdvance edge_count block (λ b. b.blocks) b b'

-- the laws hold after it
pub laws_after : {b b' : Book} → BookAdvances b b' → BookLaws b'
laws_after a =
    record {
      proper = a.proper;
      mate_rule = a.mate_rule;
      components_named = a.components_advance.named;
      bridge_blocks_named = a.bridge_blocks_advance.named;
      blocks_named = a.blocks_advance.named;
    }

-- an empty network is proper
pub empty_proper : (rule : Rule) → Proper (empty_book rule).network
unfolding empty_book edge_count
empty_proper rule =
    record {
      left_known = λ s h. absurd (not-suc-le-zero h);
      right_known = λ s h. absurd (not-suc-le-zero h);
      no_loop = λ s h. absurd (not-suc-le-zero h);
    }

-- an empty book keeps the laws
pub empty_book_laws : (rule : Rule) → MateRule rule → BookLaws (empty_book rule)
unfolding empty_book edge_count
empty_book_laws rule r =
    record {
      proper = empty_proper rule;
      mate_rule = r;
      components_named = naming_none (component (empty_book rule).network);
      bridge_blocks_named = naming_none (bridge_block (empty_book rule).network);
      blocks_named = naming_none (block (empty_book rule).network);
    }

module _ (b : Book) (laws : BookLaws b) where
  -- nothing added
  pub book_stays : BookAdvances b b
  book_stays =
      record {
        proper = laws.proper;
        mate_rule = laws.mate_rule;
        components_advance = advance_same _ _ _ _ laws.components_named (λ x y h k. refl);
        bridge_blocks_advance = advance_same _ _ _ _ laws.bridge_blocks_named (λ x y h k. refl);
        blocks_advance = advance_same _ _ _ _ laws.blocks_named (λ x y h k. refl);
      }

  -- a vertex added
  pub vertex_entered : BookAdvances b (enter_vertex b)
  unfolding enter_vertex add_vertex
  vertex_entered =
      record {
        proper = proper_vertex_more b.network laws.proper;
        mate_rule = laws.mate_rule;
        components_advance = new component_laws laws.components_named;
        bridge_blocks_advance = new bridge_block_laws laws.bridge_blocks_named;
        blocks_advance = unfold edge_count in vertex_passed block_laws b.network laws.blocks_named;
      }
    where
      n : ℕ
      n = b.network.vertices

      new : {groups : Network → Grouping} → GroupLaws (λ g. g.vertices) groups
          → {names : List ℕ}
          → Naming n (groups b.network) names
          → Advance n (suc n) (groups b.network) (groups (add_vertex b.network)) names (names ++ n ∷ [])
      new kind named =
          let item = next_item_named kind b.network laws.proper named in
          advance_trans item (vertex_passed kind b.network item.named)

  -- an edge added that leaves the network proper: between two different known vertices
  pub edge-entered : (e : Edge) → Proper (add_edge b.network e) → BookAdvances b (enter_edge b e)
  unfolding enter_edge
  edge-entered e proper =
      let item = next_item_named block_laws b.network laws.proper laws.blocks_named in
      record {
        proper = proper;
        mate_rule = unfold add_edge in laws.mate_rule;
        components_advance = unfold add_edge in groups_joined component_laws b.network e laws.mate_rule laws.components_named;
        bridge_blocks_advance =
            unfold add_edge in groups_joined bridge_block_laws b.network e laws.mate_rule laws.bridge_blocks_named;
        blocks_advance =
            rw
            (edge_count_more b.network e)
            (advance_trans item (groups_joined block_laws b.network e laws.mate_rule item.named));
      }
