-- Two books beside each other: what is fed to the second, raised, is fed to both, and leaves the first's names as they are.
use mathlib.Core.List.{List, [], ◌∷◌, ◌++◌, map, map-append, append_assoc}
use mathlib.Core.Path.{◌≡◌, refl, sym, ◌∙◌, ap}
use Prim.Native.Nat.{ℕ, ◌+◌}
use lib.ListN.{length}
use Rattle.graph.specs.Network.{Network, Edge, MateRule, Proper, edge_count, add_edge}
use Rattle.graph.specs.Groups.{component, bridge_block}
use Rattle.graph.specs.Block.{block}
use Rattle.graph.proofs.Mates.{component_swap}
use Rattle.graph.proofs.BridgeBlock.{bridge_block_swap}
use Rattle.graph.proofs.Block.{block_swap}
use Rattle.graph.proofs.SideBySide.{raise_edge, beside, Raises, Beside, count_beside, vertex_beside, edge_beside, component-apart, bridge_block-apart, block_apart, component_of_first, bridge_block_of_first, block_of_first, component_of_second, bridge_block_of_second, block_of_second}
use Rattle.naming.specs.Rename.{Grouping, rename}
use Rattle.naming.specs.Book.{Book, Addition, vertex, edge, neither, enter_vertex, enter_edge, feed}
use Rattle.naming.proofs.SideBySideNames.{names_behind, BesideGroups, rename_beside}
use Rattle.naming.proofs.Book.{BookLaws}

-- Book b behind book `one`: its vertices and edges, and their names, are raised.
unfoldable pub beside_book : Book → Book → Book
beside_book one b =
    record {
      network = beside one.network b.network;
      components = names_behind one.network.vertices one.components b.components;
      bridge_blocks = names_behind one.network.vertices one.bridge_blocks b.bridge_blocks;
      blocks = names_behind (edge_count one.network) one.blocks b.blocks;
    }

-- what is added, raised
unfoldable pub raise_addition : ℕ → Addition → Addition
raise_addition m vertex = vertex
raise_addition m (edge e) = edge (raise_edge m e)
raise_addition m neither = neither

-- a name more behind others
one_name_more : (m new : ℕ) (old names : List ℕ) → names_behind m old names ++ (m + new) ∷ [] ≡ names_behind m old (names ++ new ∷ [])
unfolding names_behind
one_name_more m new old names =
    append_assoc old (map (λ x. m + x) names) _ ∙ ap (λ l. old ++ l) (sym (map-append (λ x. m + x) names (new ∷ [])))

module _ {b g : Network} (w : Beside b g) (rule : MateRule b.rule) where
  -- the components of both
  pub components_beside : BesideGroups b.vertices g.vertices (component b) (component g) (component (beside b g))
  components_beside =
      record {
        of_first = component_of_first w rule;
        apart = λ x y h k. component-apart w rule x y h;
        apart_back = λ x y h k. component_swap (beside b g) (b.vertices + x) y ∙ component-apart w rule y x k;
        of_second = λ x y h k. component_of_second w rule x y;
      }

  -- the bridge-blocks
  pub bridge_blocks_beside : BesideGroups b.vertices g.vertices (bridge_block b) (bridge_block g) (bridge_block (beside b g))
  bridge_blocks_beside =
      record {
        of_first = bridge_block_of_first w rule;
        apart = λ x y h k. bridge_block-apart w rule x y h;
        apart_back = λ x y h k. bridge_block_swap (beside b g) (b.vertices + x) y ∙ bridge_block-apart w rule y x k;
        of_second = λ x y h k. bridge_block_of_second w rule x y;
      }

  -- the blocks, and behind them as many numbers of edges as may come
  pub blocks_beside : (n : ℕ) → BesideGroups (edge_count b) n (block b) (block g) (block (beside b g))
  blocks_beside n =
      record {
        of_first = block_of_first w rule;
        apart = λ s t h k. block_apart w s t h;
        apart_back = λ s t h k. block_swap (beside b g) (edge_count b + s) t ∙ block_apart w t s k;
        of_second = λ s t h k. block_of_second w rule s t;
      }

-- What is asked of two books: they keep the laws of naming, and their networks can stand beside each other.
pub record BesideBooks (one b : Book) : Type 0 where
  pub first_laws : BookLaws one
  pub second_laws : BookLaws b
  pub one_rule : b.network.rule ≡ one.network.rule
  pub raises : Raises one.network.rule

module _ {one b : Book} (w : BesideBooks one b) where
  abbrev pub networks : Beside one.network b.network
  networks =
      record {
        one_rule = w.one_rule;
        raises = w.raises;
        first_proper = w.first_laws.proper;
        second_proper = w.second_laws.proper;
      }

  abbrev m : ℕ
  m = one.network.vertices

  abbrev k : ℕ
  k = edge_count one.network

  -- a vertex more
  pub feed_vertex_beside : enter_vertex (beside_book one b) ≡ beside_book one (enter_vertex b)
  unfolding enter_vertex beside_book beside
  feed_vertex_beside = λ i. record {
    network = vertex_beside one.network b.network i;
    components = one_name_more m b.network.vertices one.components b.components i;
    bridge_blocks = one_name_more m b.network.vertices one.bridge_blocks b.bridge_blocks i;
    blocks = names_behind k one.blocks b.blocks;
  }

  -- an edge more
  pub feed_edge_beside : (e : Edge) → Proper (add_edge b.network e)
      → enter_edge (beside_book one b) (raise_edge m e) ≡ beside_book one (enter_edge b e)
  unfolding enter_edge beside_book
  feed_edge_beside e proper = λ i. record {
    network = after_is i;
    components =
        of_kind component one.components b.components w.first_laws.components_named.sized w.second_laws.components_named.sized
        (components_beside networks rule) (unfold add_edge in components_beside after rule) i;
    bridge_blocks =
        of_kind bridge_block one.bridge_blocks b.bridge_blocks w.first_laws.bridge_blocks_named.sized w.second_laws.bridge_blocks_named.sized
        (bridge_blocks_beside networks rule) (unfold add_edge in bridge_blocks_beside after rule) i;
    blocks = blocks_are i;
  }
    where
      g : Network
      g = b.network

      g' : Network
      g' = add_edge b.network e

      rule : MateRule one.network.rule
      rule = w.first_laws.mate_rule

      after : Beside one.network g'
      after =
          record {
            one_rule = unfold add_edge in w.one_rule;
            raises = w.raises;
            first_proper = w.first_laws.proper;
            second_proper = proper;
          }

      both : Network
      both = beside one.network g

      both' : Network
      both' = add_edge both (raise_edge m e)

      after_is : both' ≡ beside one.network g'
      after_is = edge_beside one.network g e

      -- the names of one kind of groups
      of_kind : (groups : Network → Grouping) {j n : ℕ} (old names : List ℕ) → length old ≡ j → length names ≡ n
          → BesideGroups j n (groups one.network) (groups g) (groups both)
          → BesideGroups j n (groups one.network) (groups g') (groups (beside one.network g'))
          → rename (groups both) (groups both') (names_behind j old names) ≡ names_behind j old (rename (groups g) (groups g') names)
      of_kind groups {j} old names as_old as_new before now =
          ap (λ (h : Network). rename (groups both) (groups h) (names_behind j old names)) after_is
          ∙ rename_beside old names as_old as_new before now

      names : List ℕ
      names = b.blocks ++ edge_count g ∷ []

      blocks_are : rename (block both) (block both') (names_behind k one.blocks b.blocks ++ edge_count both ∷ [])
          ≡ names_behind k one.blocks (rename (block g) (block g') names)
      blocks_are =
          ap (rename (block both) (block both'))
          (ap (λ (n : ℕ). names_behind k one.blocks b.blocks ++ n ∷ []) (count_beside one.network g)
          ∙ one_name_more k (edge_count g) one.blocks b.blocks)
          ∙ of_kind block one.blocks names w.first_laws.blocks_named.sized refl
          (blocks_beside networks rule (length names)) (blocks_beside after rule (length names))

  -- whatever is added
  pub feed_beside : (a : Addition) → Proper (feed b a).network → feed (beside_book one b) (raise_addition m a) ≡ beside_book one (feed b a)
  unfolding feed raise_addition
  feed_beside vertex proper = feed_vertex_beside
  feed_beside (edge e) proper = feed_edge_beside e (unfold enter_edge in proper)
  feed_beside neither proper = refl
