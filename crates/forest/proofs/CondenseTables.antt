-- The tables on the way of condensing: the path written down, the bridge-blocks merged, the blocks merged, the new edge entered.
use Rattle.std.proofs.Common.{◌≡◌, ℕ, suc, ◌<◌, Bool, false, List, [], ◌∷◌, ◌++◌, sym, refl, ap, ◌∙◌, subst, arith}
use Rattle.graph.specs.Network.{Network}
use Rattle.graph.specs.Groups.{bridge_block}
use Rattle.graph.specs.Block.{block}
use Rattle.graph.proofs.Truth.{not_both}
use Rattle.naming.specs.Rename.{rename}
use Rattle.naming.proofs.Listed.{tabulate_same}
use Rattle.naming.proofs.Merge.{in_merged}
use Rattle.table.specs.Inside.Column
use Rattle.table.specs.Inside.Layout.{bridge_block_area, edge_area}
use Rattle.table.specs.Inside.Merge.{Renamed, name_in, best_listed, merge_listed}
use Rattle.table.specs.Inside.KindValid.{names_in, KindValid, Counts}
use Rattle.table.proofs.Cells.{HasColumns}
use Rattle.table.proofs.MergeLaw.{MergedTo, merged_whole}
use Rattle.table.proofs.KindNames.{name_known, one_group}
use Rattle.forest.specs.declared.climb.Route.{Route}
use Rattle.forest.specs.Inside.Climb.{top_of, above_edge, climb_table, climb_route}
use Rattle.forest.specs.Inside.Tree.{path_vertices, path_edges, merged_vertices, enter_block}
use Rattle.forest.specs.Inside.Valid.{network_of, marked_in, ForestValid, Valid}
use Rattle.forest.proofs.Columns.{group_columns, bridge_block_columns, block_columns, scratch, edge_columns}
use Rattle.forest.proofs.KindWords.{SameWords, names_same, kind_same, counts_same}
use Rattle.forest.proofs.Networks.{network-same, block_groups}
use Rattle.forest.proofs.Frames.{Frame, ◌then◌, same_bridge_blocks, same_blocks, same_edges, frame_more}
use Rattle.forest.proofs.MarkWords.{same_marks, same_marked}
use Rattle.forest.proofs.EdgeToAdd.{EdgeToAdd, before, after, Within, edge_stored, stored_frame, stored_old}
use Rattle.forest.proofs.ClimbLaw.{Climbs, climb_law}
use Rattle.forest.proofs.ValidFrame.{valid_kept}
use Rattle.forest.proofs.CondenseFrames.{frame_merge_bridge_blocks, frame_merge_blocks}
use Rattle.forest.proofs.CondensePath.{edges_of, vertices_of, PathWritten, path_kept}
use Rattle.forest.proofs.CondenseBridgeBlocks.{bridge_blocks_merged}
use Rattle.forest.proofs.CondenseBlocks.{blocks_merged, with_new, blocks_names, blocks_valid}
use Rattle.forest.proofs.CondenseEnter.{frame_enter, enter_name, enter_name_old, enter_top, enter_top_old}
use Rattle.forest.proofs.CondenseForest.{PathTop, Lifted, forest_condensed}
use Rattle.forest.proofs.CondenseTop.{path_top}

module _ (new : EdgeToAdd) (within : Within new) where
  open new use {limits, n, m, t, valid, room, a, b, a_known, b_known, differ}

  abbrev g : Network
  g = before new

  abbrev g' : Network
  g' = after new

  abbrev t₁ : List ℕ
  t₁ = edge_stored new

  abbrev r : Route
  r = climb_route t₁ limits a b

  abbrev k : ℕ
  k = r.steps

  abbrev v : ℕ
  v = r.top.0

  abbrev t₂ : List ℕ
  t₂ = climb_table t₁ limits a b

  abbrev renamed_vertices : Renamed
  renamed_vertices = merge_listed t₂ (bridge_block_area limits) (path_vertices limits (merged_vertices t₂ limits m k))

  abbrev t₃ : List ℕ
  t₃ = renamed_vertices.table

  abbrev blocks : Renamed
  blocks = merge_listed t₃ (edge_area limits) (path_edges limits k)

  abbrev w : ℕ
  w = best_listed t₃ (edge_area limits) (path_edges limits k)

  abbrev t₄ : List ℕ
  t₄ = blocks.table

  abbrev t₅ : List ℕ
  t₅ = enter_block t₄ limits m w v

  valid₁ : Valid limits n m t₁
  valid₁ = valid_kept valid (stored_frame new _ _ refl) (stored_old new)

  same-network : network_of limits n m t₁ ≡ g
  same-network = network-same limits n m t t₁ (stored_old new)

  -- the path written down
  climbs : Climbs limits n m t₁ g a b t₂ r
  climbs =
      subst (λ (h : Network). Climbs limits n m t₁ h a b t₂ r) same-network
      (climb_law limits n m t₁ valid₁ a b a_known b_known (rw same-network within))

  -- up to the path no name changes
  to_path : Frame limits scratch edge_columns t t₂
  to_path = stored_frame new _ _ refl then frame_more climbs.frame refl refl

  written₂ : PathWritten new t₂ k
  written₂ =
      record {
        as_long = to_path.same_length;
        start = climbs.start;
        path = climbs.path;
        some = climbs.some differ;
        few = climbs.few;
        vertices_known = climbs.vertices_known;
        edges_known = climbs.edges_known;
      }

  -- no word of a bridge-block changes before the bridge-blocks are merged
  pub bridge_block_words : SameWords t t₂ (bridge_block_area limits) n
  bridge_block_words = same_bridge_blocks to_path n valid.vertices_fit refl

  -- bridge-blocks of the path's vertices merged
  pub bridge_blocks_law : MergedTo t₂ (bridge_block_area limits) n (bridge_block g) (bridge_block g') (vertices_of t₂ limits (merged_vertices t₂ limits m k))
      (best_listed t₂ (bridge_block_area limits) (path_vertices limits (merged_vertices t₂ limits m k))) t₃ renamed_vertices.count
  bridge_blocks_law =
      bridge_blocks_merged written₂ (same_edges climbs.frame (suc m) room refl) (kind_same bridge_block_words valid.bridge_blocks_lem)

  bridge_blocks_step : Frame limits bridge_block_columns [] t₂ t₃
  bridge_blocks_step = frame_merge_bridge_blocks limits bridge_blocks_law.kept

  stored_to_bridge_blocks : Frame limits (bridge_block_columns ++ scratch) [] t₁ t₃
  stored_to_bridge_blocks = frame_more climbs.frame refl refl then frame_more bridge_blocks_step refl refl

  to_bridge_blocks : Frame limits (bridge_block_columns ++ scratch) edge_columns t t₃
  to_bridge_blocks = stored_frame new _ _ refl then frame_more stored_to_bridge_blocks refl refl

  -- no word of a block changes before the blocks are merged
  pub block_words : SameWords t t₃ (edge_area limits) m
  block_words = same_blocks to_bridge_blocks m valid.edges_fit refl

  valid₃ : KindValid t₃ (edge_area limits) m (block g)
  valid₃ = kind_same block_words valid.blocks

  written₃ : PathWritten new t₃ k
  written₃ = path_kept written₂ bridge_blocks_step refl refl

  columns₃ : HasColumns t₃ (edge_area limits) Column.per_edge
  columns₃ = omega (arith, to_bridge_blocks.same_length, valid.long)

  -- the blocks of the path's edges merged
  pub blocks_law : MergedTo t₃ (edge_area limits) m (block g) (block g') (edges_of t₃ limits k) w t₄ blocks.count
  blocks_law = blocks_merged written₃ valid₃

  blocks_step : Frame limits [] block_columns t₃ t₄
  blocks_step = frame_merge_blocks limits blocks_law.kept

  columns₄ : HasColumns t₄ (edge_area limits) Column.per_edge
  columns₄ = rw blocks_step.same_length columns₃

  -- the new edge entered
  pub enter_step : Frame limits [] (group_columns ++ Column.top ∷ []) t₄ t₅
  enter_step = frame_enter t₄ limits m w v columns₄ room blocks_law.known

  -- the new edge has the winning name
  pub new_name : name_in t₅ (edge_area limits) m ≡ w
  new_name = enter_name t₄ limits m w v columns₄ room blocks_law.known

  -- an old edge has the name that merging left
  pub old_name : (x : ℕ) → x < m → name_in t₅ (edge_area limits) x ≡ name_in t₄ (edge_area limits) x
  old_name = enter_name_old t₄ limits m w v columns₄ room blocks_law.known

  -- the names of the blocks are those that naming gives
  pub names_with_new : names_in t₅ (edge_area limits) (suc m) ≡ rename (block g) (block g') (names_in t (edge_area limits) m ++ m ∷ [])
  names_with_new =
      blocks_names written₃ valid₃ v
      ∙ ap (λ (l : List ℕ). rename (block g) (block g') (l ++ m ∷ [])) (names_same t t₃ (edge_area limits) m block_words)

  -- the words of the blocks are valid
  pub valid_with_new : KindValid t₅ (edge_area limits) (suc m) (block g')
  valid_with_new = blocks_valid written₃ valid₃ v

  -- what changes after the bridge-blocks are merged
  pub behind_bridge_blocks : Frame limits [] (block_columns ++ Column.top ∷ []) t₃ t₅
  behind_bridge_blocks = frame_more blocks_step refl refl then frame_more enter_step refl refl

  -- what changes after the edge is stored
  pub behind_stored : Frame limits (bridge_block_columns ++ scratch) (block_columns ++ Column.top ∷ []) t₁ t₅
  behind_stored = frame_more stored_to_bridge_blocks refl refl then frame_more behind_bridge_blocks refl refl

  -- all that changes
  pub whole : Frame limits (bridge_block_columns ++ scratch) (block_columns ++ edge_columns ++ Column.top ∷ []) t t₅
  whole = stored_frame new _ _ refl then frame_more behind_stored refl refl

  -- up to the path no bridge-block's marks change
  marks_before : Counts t₂ (bridge_block_area limits) n (bridge_block g) Column.mark_count (marked_in limits n t)
  marks_before =
      counts_same
      valid.bridge_blocks_lem
      bridge_block_words
      (same_marks to_path n valid.vertices_fit refl)
      (λ x y h k. refl)
      (λ x h. refl)
      valid.marks

  -- merging adds them up, after it none changes, and the marked vertices are the same
  pub marks_after_lem : Counts t₅ (bridge_block_area limits) n (bridge_block g') Column.mark_count (marked_in limits n t₅)
  marks_after_lem =
      counts_same
      bridge_blocks_law.valid
      (same_bridge_blocks behind_bridge_blocks n valid.vertices_fit refl)
      (same_marks behind_bridge_blocks n valid.vertices_fit refl)
      (λ x y h k. refl)
      (λ x h. sym (same_marked whole n valid.vertices_fit refl x))
      (bridge_blocks_law.counts Column.mark_count (marked_in limits n t) marks_before)

  -- the edges in blocks of the path
  abbrev on : ℕ → Bool
  on = in_merged (block g) (edges_of t₃ limits k)

  edges_same : edges_of t₃ limits k ≡ edges_of t₂ limits k
  edges_same =
      tabulate_same k _ _
      (λ i h. bridge_blocks_step.vertex_word Column.path_edge i (omega arith) (omega (arith, written₂.few, valid.vertices_fit)) refl)

  top : PathTop t₁ limits n m g on a b v
  top =
      subst (λ (is : List ℕ). PathTop t₁ limits n m g (in_merged (block g) is) a b v) (sym edges_same)
      (path_top limits n m t₁ t₂ g a b r (rw same-network at valid₁.blocks) climbs written₂.some)

  top_is : top_of t₅ limits w ≡ v
  top_is = enter_top t₄ limits m w v columns₄ room blocks_law.known

  to_blocks : Frame limits (bridge_block_columns ++ scratch) block_columns t₁ t₄
  to_blocks = frame_more stored_to_bridge_blocks refl refl then frame_more blocks_step refl refl

  lifted : Lifted t₁ t₅ limits n m on v
  unfolding above_edge
  lifted =
      record {
        up_same = λ x h. behind_stored.vertex_word Column.up x (omega arith) (omega (arith, valid.vertices_fit)) refl;
        depth_same = λ x h. behind_stored.vertex_word Column.depth x (omega arith) (omega (arith, valid.vertices_fit)) refl;
        above_new = ap (top_of t₅ limits) new_name ∙ top_is;
        above_on = λ x h o. ap (top_of t₅ limits) (old_name x h ∙ blocks_law.taken x h o) ∙ top_is;
        above_off = λ x h o.
            ap (top_of t₅ limits) (old_name x h ∙ blocks_law.stays x h o)
            ∙ enter_top_old t₄ limits m w v columns₄ room blocks_law.known (name_in t₃ (edge_area limits) x) (wide x h) (other x h o)
            ∙ to_blocks.edge_word Column.top (name_in t₃ (edge_area limits) x) (omega arith) (wide x h) refl
            ∙ ap (top_of t₁ limits) (same_name x h);
      }
    where
      wide : (x : ℕ) → x < m → name_in t₃ (edge_area limits) x < limits.edges
      wide x h = omega (arith, name_known valid₃ x h)

      other : (x : ℕ) → x < m → on x ≡ false → w ≡ name_in t₃ (edge_area limits) x → ⊥
      other x h o q =
          not_both
          (merged_whole (block g) (block_groups g) (edges_of t₃ limits k) w x blocks_law.among
          (one_group valid₃ w x blocks_law.known h (blocks_law.self ∙ q)))
          o

      same_name : (x : ℕ) → x < m → name_in t₃ (edge_area limits) x ≡ name_in t₁ (edge_area limits) x
      same_name x h = stored_to_bridge_blocks.edge_word Column.name x (omega arith) (omega arith) refl

  -- the block forest is valid
  pub forest_after : ForestValid t₅ limits n (suc m) g'
  forest_after =
      forest_condensed new within t₁ t₅ on v (subst (λ (h : Network). ForestValid t₁ limits n m h) same-network valid₁.forest)
      top lifted (with_new written₃ valid₃)
