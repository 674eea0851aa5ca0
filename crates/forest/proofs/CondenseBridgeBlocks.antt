-- Condensing merges bridge-blocks of vertices on the path, as one edge more between its ends does.
use Rattle.std.proofs.Common.{◌≡◌, ℕ, suc, ◌<◌, List, refl, subst, arith}
use Rattle.graph.specs.Groups.{bridge_block}
use Rattle.numbers.specs.declared.Limits.{Limits}
use Rattle.table.specs.Inside.Layout.{place, bridge_block_area}
use Rattle.table.specs.Inside.Merge.{best_listed, merge_listed}
use Rattle.table.specs.Inside.KindValid.{KindValid}
use Rattle.table.proofs.MergeKept.{ListedOutside}
use Rattle.table.proofs.MergeLaw.{MergedTo}
use Rattle.forest.specs.Inside.Climb.{path_vertex}
use Rattle.forest.specs.Inside.Tree.{path_vertices, merged_vertices}
use Rattle.forest.proofs.Networks.{SameEdges, bridge_block_groups}
use Rattle.forest.proofs.EdgeToAdd.{EdgeToAdd, before, after, edge_stored}
use Rattle.forest.proofs.CondenseMerge.{listed_items, merge_listed_lem}
use Rattle.forest.proofs.Values.{entry}
use Rattle.forest.proofs.CondensePath.{vertices_of, PathWritten}
use Rattle.forest.proofs.CondenseMates.{bridge_blocks_merge, merged_some, merged_most}

module _ (limits : Limits) (t : List ℕ) (j : ℕ) where
  vertices_listed : listed_items t (path_vertices limits j) ≡ vertices_of t limits j
  unfolding path_vertices
  vertices_listed = refl

  vertices_some : 0 < j → 0 < (path_vertices limits j).count
  unfolding path_vertices
  vertices_some h = h

  -- the path is not written in the columns of the bridge-blocks
  vertices_outside : ListedOutside (bridge_block_area limits) (path_vertices limits j)
  unfolding path_vertices place
  vertices_outside i h from below = omega arith

module _ {new : EdgeToAdd} {t : List ℕ} {k : ℕ} (w : PathWritten new t k)
    (kept : SameEdges new.limits (suc new.m) (edge_stored new) t)
    (named : KindValid t (bridge_block_area new.limits) new.n (bridge_block (before new))) where
  open new use {limits, n, m, valid}

  -- How many of the path's vertices are taken.
  abbrev j : ℕ
  j = merged_vertices t limits m k

  -- the bridge-blocks merged
  pub bridge_blocks_merged : MergedTo t (bridge_block_area limits) n (bridge_block (before new)) (bridge_block (after new))
      (vertices_of t limits (merged_vertices t limits m k)) (best_listed t (bridge_block_area limits) (path_vertices limits (merged_vertices t limits m k)))
      (merge_listed t (bridge_block_area limits) (path_vertices limits (merged_vertices t limits m k))).table
      (merge_listed t (bridge_block_area limits) (path_vertices limits (merged_vertices t limits m k))).count
  bridge_blocks_merged =
      subst
      (λ (is : List ℕ). MergedTo t (bridge_block_area limits) n (bridge_block (before new)) (bridge_block (after new)) is
      (best_listed t (bridge_block_area limits) (path_vertices limits j))
      (merge_listed t (bridge_block_area limits) (path_vertices limits j)).table
      (merge_listed t (bridge_block_area limits) (path_vertices limits j)).count)
      (vertices_listed limits t j)
      (merge_listed_lem t (bridge_block_area limits) n (omega (arith, w.as_long, valid.long)) valid.vertices_fit
      (omega (arith, valid.vertices_fit, valid.small_vertices)) (bridge_block (before new)) (bridge_block (after new))
      (bridge_block_groups (before new)) (bridge_block_groups (after new)) named
      (path_vertices limits j) (vertices_outside limits t j) (vertices_some limits t j (merged_some t limits m k))
      (λ z i.
      let v = entry j (λ i. path_vertex t limits i) z (rw (vertices_listed limits t j) at i) in
      rw v.is (w.vertices_known v.at (omega (arith, v.below, merged_most t limits m k))))
      (λ x y h l. rw (vertices_listed limits t j) (bridge_blocks_merge w kept x y)))
