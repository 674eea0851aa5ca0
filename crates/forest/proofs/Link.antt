-- One edge more between two components: the table stays valid, its naming book is the one with the edge entered, and what changed is told.
use Rattle.std.proofs.Common.{◌≡◌, ℕ, suc, ◌<◌, true, List, [], ◌∷◌, ◌++◌, sym, refl, ap, ◌∙◌, le_refl, arith}
use Rattle.graph.specs.Network.{Network, Edge, edge_count, edge_in_duct}
use Rattle.graph.specs.Groups.{component, bridge_block}
use Rattle.graph.specs.Block.{block}
use Rattle.graph.proofs.EdgeMore.{block-edge_between}
use Rattle.graph.proofs.EdgeMoreBridges.{bridge_block-between}
use Rattle.naming.specs.Rename.{name_of, rename}
use Rattle.naming.specs.Book.{enter_edge}
use Rattle.naming.proofs.Naming.{name_of_old, name_of_new}
use Rattle.table.specs.Inside.Column
use Rattle.table.specs.Inside.Layout.{vertex_area, bridge_block_area, edge_area}
use Rattle.table.specs.Inside.Merge.{name_in}
use Rattle.table.specs.Inside.KindValid.{names_in, KindValid, Counts}
use Rattle.table.proofs.KindNames.{name_in_list}
use Rattle.forest.specs.Inside.Tree.{Grown, link_grown}
use Rattle.forest.specs.Inside.Valid.{network_of, book_of, marked_in, ForestValid}
use Rattle.forest.proofs.Columns.{among, within, group_columns, component_columns, edge_columns}
use Rattle.forest.proofs.KindWords.{SameWords, names_same, kind_same, kind_agree, counts_same}
use Rattle.forest.proofs.Networks.{network_rule, edge_count_lem, book_is}
use Rattle.forest.proofs.NamesStay.{rename_stays}
use Rattle.forest.proofs.Frames.{Frame, ◌then◌, same_components, same_bridge_blocks}
use Rattle.forest.proofs.MarkWords.{same_marks, same_marked}
use Rattle.forest.proofs.EdgeToAdd.{EdgeToAdd, edge_of, before, after, Apart, edge_stored, Grows, stored_frame, network_after_lem, surveys_with_edge, valid_with_edge}
use Rattle.forest.proofs.Beyond.{frame_beyond}
use Rattle.forest.proofs.Changes.{ChangesListed, changes_around, no_names-changed}
use Rattle.forest.proofs.LinkMerge.{ends_listed, merge, before_merge, law}
use Rattle.forest.proofs.LinkForest.{linked_forest, linked_frame, linked_blocks, linked-block-names}
use Rattle.forest.proofs.LinkTable.{merged_frame, linking}

module _ (new : EdgeToAdd) (apart : Apart new) where
  open new use {limits, n, m, t, valid, a, b}

  abbrev g : Network
  g = before new

  abbrev g' : Network
  g' = after new

  abbrev e : Edge
  e = edge_of new

  abbrev t₁ : List ℕ
  t₁ = edge_stored new

  abbrev t₂ : List ℕ
  t₂ = ends_listed new

  abbrev t₃ : List ℕ
  t₃ = (merge new).table

  abbrev grown : Grown
  grown = link_grown t₁ limits m a b

  abbrev t' : List ℕ
  t' = grown.table

  -- what the hanging stores, and all that is stored
  hang_step : (vs es : List ℕ) → among vs Column.up ≡ true → among vs Column.depth ≡ true
      → within group_columns es ≡ true → among es Column.top ≡ true
      → Frame limits vs es t₃ t'
  unfolding link_grown
  hang_step = linked_frame (linking new apart)

  abbrev vertex_columns : List ℕ
  vertex_columns = component_columns ++ Column.up ∷ Column.depth ∷ Column.path_vertex ∷ []

  from_stored : Frame limits vertex_columns (group_columns ++ Column.top ∷ []) t₁ t'
  from_stored =
      merged_frame new _ _ refl refl
      then hang_step _ _ refl refl refl refl

  whole : Frame limits vertex_columns (group_columns ++ edge_columns ++ Column.top ∷ []) t t'
  whole =
      stored_frame new _ _ refl
      then merged_frame new _ _ refl refl
      then hang_step _ _ refl refl refl refl

  -- the network has one edge more
  network_more : network_of limits n (suc m) t' ≡ g'
  network_more = network_after_lem new from_stored refl

  -- components
  after_merge : SameWords t₃ t' (vertex_area limits) n
  after_merge = same_components (hang_step (Column.up ∷ Column.depth ∷ []) (group_columns ++ Column.top ∷ []) refl refl refl refl) n valid.vertices_fit refl

  words_before : SameWords t t₂ (vertex_area limits) n
  words_before = same_components (before_merge new) n valid.vertices_fit refl

  components : KindValid t' (vertex_area limits) n (component g')
  components = kind_same after_merge (law new).valid

  component-names : names_in t' (vertex_area limits) n ≡ rename (component g) (component g') (names_in t (vertex_area limits) n)
  component-names =
      names_same t₃ t' (vertex_area limits) n after_merge
      ∙ (law new).names
      ∙ ap (rename (component g) (component g')) (names_same t t₂ (vertex_area limits) n words_before)

  components_changed : ChangesListed (vertex_area limits) n n grown.components t t'
  unfolding link_grown
  components_changed =
      changes_around (vertex_area limits) n n grown.components t t₂ t₃ t' (le_refl n) (law new).changed
      (λ x h. words_before Column.name x refl h)
      (λ x h. after_merge Column.name x refl h)
      (λ i h. (hang_step (Column.up ∷ Column.depth ∷ []) (group_columns ++ Column.top ∷ []) refl refl refl refl
      ).vertex_word Column.changed i (omega arith) (omega (arith, (law new).few, valid.vertices_fit)) refl)

  -- the marked vertices
  marked_stays : (x : ℕ) → marked_in limits n t' x ≡ marked_in limits n t x
  marked_stays = same_marked whole n valid.vertices_fit refl

  -- bridge-blocks
  same_bridge_block_words : SameWords t t' (bridge_block_area limits) n
  same_bridge_block_words = same_bridge_blocks whole n valid.vertices_fit refl

  bridge_blocks_agree : (x y : ℕ) → bridge_block g x y ≡ bridge_block g' x y
  unfolding edge_in_duct
  bridge_blocks_agree x y = sym (bridge_block-between g e (network_rule limits n m t) apart x y)

  bridge_blocks_named : KindValid t' (bridge_block_area limits) n (bridge_block g')
  bridge_blocks_named = kind_agree (λ x y h k. bridge_blocks_agree x y) (kind_same same_bridge_block_words valid.bridge_blocks_lem)

  marks : Counts t' (bridge_block_area limits) n (bridge_block g') Column.mark_count (marked_in limits n t')
  marks =
      counts_same
      valid.bridge_blocks_lem
      same_bridge_block_words
      (same_marks whole n valid.vertices_fit refl)
      (λ x y h k. bridge_blocks_agree x y)
      (λ x h. sym (marked_stays x))
      valid.marks

  bridge_block-names : names_in t' (bridge_block_area limits) n ≡ rename (bridge_block g) (bridge_block g') (names_in t (bridge_block_area limits) n)
  bridge_block-names =
      names_same t t' (bridge_block_area limits) n same_bridge_block_words
      ∙ sym (rename_stays (bridge_block g) (bridge_block g') (names_in t (bridge_block_area limits) n) (λ x y h k. bridge_blocks_agree x y))

  -- blocks
  blocks : KindValid t' (edge_area limits) (suc m) (block g')
  unfolding link_grown
  blocks = linked_blocks (linking new apart)

  names_more : names_in t' (edge_area limits) (suc m) ≡ names_in t (edge_area limits) m ++ m ∷ []
  unfolding link_grown
  names_more = linked-block-names (linking new apart)

  block-names : names_in t' (edge_area limits) (suc m) ≡ rename (block g) (block g') (names_in t (edge_area limits) m ++ edge_count g ∷ [])
  unfolding edge_in_duct
  block-names =
      names_more
      ∙ ap (λ (k : ℕ). names_in t (edge_area limits) m ++ k ∷ []) (sym (edge_count_lem limits n m t))
      ∙ sym
      (rename_stays
      (block g)
      (block g')
      (names_in t (edge_area limits) m ++ edge_count g ∷ [])
      (λ x y h k. sym (block-edge_between g e apart x y)))

  old_block : (s : ℕ) → s < m → name_in t' (edge_area limits) s ≡ name_in t (edge_area limits) s
  old_block s h =
      sym (name_in_list t' (edge_area limits) (suc m) s (omega arith))
      ∙ ap (λ l. name_of l s) names_more
      ∙ name_of_old (names_in t (edge_area limits) m) m s (rw valid.blocks.named.sized h)
      ∙ name_in_list t (edge_area limits) m s h

  new_block : name_in t' (edge_area limits) m ≡ m
  new_block =
      sym (name_in_list t' (edge_area limits) (suc m) m (omega arith))
      ∙ ap (λ l. name_of l m) names_more
      ∙ name_of_new (names_in t (edge_area limits) m) m m valid.blocks.named.sized

  forest : ForestValid t' limits n (suc m) g'
  unfolding link_grown
  forest = linked_forest (linking new apart)

  -- one edge more between two components
  pub link_grows : Grows new (link_grown (edge_stored new) limits m a b)
  unfolding link_grown book_of enter_edge
  link_grows =
      record {
        valid_after = valid_with_edge new network_more whole.same_length components bridge_blocks_named marks blocks forest;
        book_after_lem = book_is network_more component-names bridge_block-names block-names;
        marked_after = marked_stays;
        surveys_after_lem = surveys_with_edge new from_stored refl;
        components = components_changed;
        bridge_blocks_lem =
            no_names-changed (bridge_block_area limits) n n t t' (le_refl n) (λ x h. same_bridge_block_words Column.name x refl h);
        blocks = no_names-changed (edge_area limits) m (suc m) t t' (omega arith) old_block;
        block-name = sym new_block;
        same_beyond = frame_beyond whole;
      }
