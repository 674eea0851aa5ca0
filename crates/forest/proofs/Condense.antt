-- One edge more within a component: the table stays valid, its naming book is the one with the edge entered, and what changed is written
-- down.
use Rattle.std.proofs.Common.{◌≡◌, ℕ, suc, List, [], ◌∷◌, ◌++◌, sym, refl, ap, ◌∙◌, le_refl, arith}
use Rattle.graph.specs.Network.{Network, edge_count, edge_in_duct}
use Rattle.graph.specs.Groups.{component, bridge_block}
use Rattle.graph.specs.Block.{block}
use Rattle.graph.proofs.EdgeMore.{component_edge_within}
use Rattle.naming.specs.Rename.{rename}
use Rattle.naming.specs.Book.{enter_edge}
use Rattle.table.specs.Inside.Column
use Rattle.table.specs.Inside.Layout.{vertex_area, bridge_block_area, edge_area}
use Rattle.table.specs.Inside.KindValid.{names_in, KindValid, Counts}
use Rattle.table.proofs.Cells.{cell-bridge_block}
use Rattle.forest.specs.Inside.Tree.{Grown, condense_grown}
use Rattle.forest.specs.Inside.Valid.{network_of, book_of, marked_in, ForestValid}
use Rattle.forest.proofs.Columns.{bridge_block_columns, block_columns, scratch, edge_columns}
use Rattle.forest.proofs.KindWords.{SameWords, names_same, kind_same, kind_agree}
use Rattle.forest.proofs.Networks.{edge_count_lem, book_is}
use Rattle.forest.proofs.NamesStay.{rename_stays}
use Rattle.forest.proofs.Frames.{Frame, same_components, same_bridge_blocks}
use Rattle.forest.proofs.MarkWords.{same_marked}
use Rattle.forest.proofs.EdgeToAdd.{EdgeToAdd, edge_of, before, after, Within, edge_stored, Grows, network_after_lem, surveys_with_edge, valid_with_edge}
use Rattle.forest.proofs.Beyond.{frame_beyond}
use Rattle.forest.proofs.Changes.{ChangesListed, changes_around, no_names-changed}
use Rattle.forest.proofs.CondenseTables.{bridge_blocks_law, blocks_law, block_words, bridge_block_words, behind_bridge_blocks, behind_stored, whole}
use Rattle.forest.proofs.CondenseTables.{enter_step, new_name, old_name, names_with_new, valid_with_new, marks_after_lem, forest_after}

module _ (new : EdgeToAdd) (within : Within new) where
  open new use {limits, n, m, t, valid, a, b}

  abbrev g : Network
  g = before new

  abbrev g' : Network
  g' = after new

  abbrev grown : Grown
  grown = condense_grown (edge_stored new) limits m a b

  abbrev t' : List ℕ
  t' = grown.table

  all : Frame limits (bridge_block_columns ++ scratch) (block_columns ++ edge_columns ++ Column.top ∷ []) t t'
  unfolding condense_grown
  all = whole new within

  -- the network has one edge more
  network_more : network_of limits n (suc m) t' ≡ g'
  unfolding condense_grown
  network_more = network_after_lem new (behind_stored new within) refl

  -- components
  component_words : SameWords t t' (vertex_area limits) n
  component_words = same_components all n valid.vertices_fit refl

  components : KindValid t' (vertex_area limits) n (component g')
  unfolding edge_in_duct
  components =
      kind_agree (λ x y h k. sym (component_edge_within g (edge_of new) within x y)) (kind_same component_words valid.components)

  component-names : names_in t' (vertex_area limits) n ≡ rename (component g) (component g') (names_in t (vertex_area limits) n)
  unfolding edge_in_duct
  component-names =
      names_same t t' (vertex_area limits) n component_words
      ∙ sym (rename_stays (component g) (component g') (names_in t (vertex_area limits) n)
      (λ x y h k. sym (component_edge_within g (edge_of new) within x y)))

  -- bridge-blocks
  bridge_blocks_lem : KindValid t' (bridge_block_area limits) n (bridge_block g')
  unfolding condense_grown
  bridge_blocks_lem =
      kind_same
      (same_bridge_blocks (behind_bridge_blocks new within) n valid.vertices_fit refl)
      (bridge_blocks_law new within).valid

  bridge_block-names : names_in t' (bridge_block_area limits) n ≡ rename (bridge_block g) (bridge_block g') (names_in t (bridge_block_area limits) n)
  unfolding condense_grown
  bridge_block-names =
      names_same _ t' (bridge_block_area limits) n
      (same_bridge_blocks (behind_bridge_blocks new within) n valid.vertices_fit refl)
      ∙ (bridge_blocks_law new within).names
      ∙ ap (rename (bridge_block g) (bridge_block g'))
      (names_same t _ (bridge_block_area limits) n (bridge_block_words new within))

  bridge_blocks_changed : ChangesListed (bridge_block_area limits) n n grown.bridge_blocks t t'
  unfolding condense_grown
  bridge_blocks_changed =
      changes_around (bridge_block_area limits) n n grown.bridge_blocks t _ _ t' (le_refl n) (bridge_blocks_law new within).changed
      (λ x h. bridge_block_words new within Column.name x refl h)
      (λ x h. same_bridge_blocks (behind_bridge_blocks new within) n valid.vertices_fit refl Column.name x refl h)
      (λ i h. cell-bridge_block limits t' Column.changed i
      ∙ (behind_bridge_blocks new within).vertex_word (Column.of_bridge_blocks Column.changed) i (omega arith) (omega (arith, (bridge_blocks_law new within).few, valid.vertices_fit)) refl
      ∙ sym (cell-bridge_block limits _ Column.changed i))

  marks : Counts t' (bridge_block_area limits) n (bridge_block g') Column.mark_count (marked_in limits n t')
  unfolding condense_grown
  marks = marks_after_lem new within

  -- blocks
  blocks_changed : ChangesListed (edge_area limits) m (suc m) grown.blocks t t'
  unfolding condense_grown
  blocks_changed =
      changes_around (edge_area limits) m (suc m) grown.blocks t _ _ t' (omega arith) (blocks_law new within).changed
      (λ s h. block_words new within Column.name s refl h)
      (old_name new within)
      (λ i h. (enter_step new within).edge_word Column.changed i (omega arith) (omega (arith, (blocks_law new within).few, new.room)) refl)

  block-names : names_in t' (edge_area limits) (suc m) ≡ rename (block g) (block g') (names_in t (edge_area limits) m ++ edge_count g ∷ [])
  unfolding condense_grown
  block-names =
      names_with_new new within
      ∙ ap (λ (c : ℕ). rename (block g) (block g') (names_in t (edge_area limits) m ++ c ∷ [])) (sym (edge_count_lem limits n m t))

  blocks : KindValid t' (edge_area limits) (suc m) (block g')
  unfolding condense_grown
  blocks = valid_with_new new within

  forest : ForestValid t' limits n (suc m) g'
  unfolding condense_grown
  forest = forest_after new within

  -- one edge more within a component
  pub condense_grows : Grows new (condense_grown (edge_stored new) limits m a b)
  unfolding condense_grown book_of enter_edge
  condense_grows =
      record {
        valid_after = valid_with_edge new network_more all.same_length components bridge_blocks_lem marks blocks forest;
        book_after_lem = book_is network_more component-names bridge_block-names block-names;
        marked_after = same_marked all n valid.vertices_fit refl;
        surveys_after_lem = surveys_with_edge new (behind_stored new within) refl;
        components = no_names-changed (vertex_area limits) n n t t' (le_refl n) (λ x h. component_words Column.name x refl h);
        bridge_blocks_lem = bridge_blocks_changed;
        blocks = blocks_changed;
        block-name = sym (new_name new within);
        same_beyond = frame_beyond all;
      }
