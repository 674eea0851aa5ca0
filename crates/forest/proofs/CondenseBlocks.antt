-- Condensing merges the blocks of the edges on the path and puts the new edge into them, as one edge more between its ends does.
use Rattle.std.proofs.Common.{◌≡◌, ℕ, suc, ◌<◌, Bool, true, false, ◌&&◌, ◌||◌, eqb, ◌⊎◌, List, [], ◌∷◌, ◌++◌, length, sym, refl, ◌∙◌, subst, ap₂, inl, inr, arith, length-append, ext_get_or}
use mathlib.Core.List.{Memᴰ}
use Rattle.graph.specs.Network.{Network}
use Rattle.graph.specs.Block.{block}
use Rattle.graph.proofs.Truth.{true_or_false, bool_ext, or_left, or_right, and_both, eqb_eq, eq-eqb}
use Rattle.graph.proofs.Below.{below_or_last}
use Rattle.graph.proofs.Block.{block_refl, block_sym, block_trans}
use Rattle.naming.specs.Rename.{name_of, candidate, best_of, rename}
use Rattle.naming.proofs.Rename.{length_rename}
use Rattle.naming.proofs.Merge.{in_merged, Merges}
use Rattle.table.specs.declared.words.Area.{Area}
use Rattle.numbers.specs.declared.Limits.{Limits}
use Rattle.table.specs.declared.merge.Listing.{Listing}
use Rattle.table.specs.Inside.Column
use Rattle.table.specs.Inside.Layout.{place, edge_area}
use Rattle.table.specs.Inside.Merge.{name_in, item_of, best_listed, merge_listed}
use Rattle.table.specs.Inside.KindValid.{names_in, KindValid}
use Rattle.table.proofs.Cells.{HasColumns}
use Rattle.table.proofs.MergeKept.{ListedOutside}
use Rattle.table.proofs.MergeBest.{best_listed_lem}
use Rattle.table.proofs.MergeLaw.{MergedTo}
use Rattle.table.proofs.KindNames.{name_in_list, length-names, one_name, one_group}
use Rattle.forest.specs.Inside.Climb.{path_edge}
use Rattle.forest.specs.Inside.Tree.{path_edges, enter_block}
use Rattle.forest.proofs.Networks.{block_groups}
use Rattle.forest.proofs.EdgeToAdd.{EdgeToAdd, before, after, number-apart}
use Rattle.forest.proofs.Values.{entry}
use Rattle.forest.proofs.CondenseMerge.{listed_items, later_items, items_first, items_are, merge_listed_lem, joined_best, joined_stays, joined-named}
use Rattle.forest.proofs.CondensePath.{edges_of, PathWritten, blocks_merge, merged_old}
use Rattle.forest.proofs.CondenseEnter.{enter_name, enter_name_old, kind_enter}

module _ (limits : Limits) (t : List ℕ) (k : ℕ) where
  edges_listed : listed_items t (path_edges limits k) ≡ edges_of t limits k
  unfolding path_edges
  edges_listed = refl

  edges_some : 0 < k → 0 < (path_edges limits k).count
  unfolding path_edges
  edges_some h = h

  -- the path is not written in the columns of the blocks
  edges_outside : k < limits.vertices → ListedOutside (edge_area limits) (path_edges limits k)
  unfolding path_edges place
  edges_outside few i h from below = omega arith

module _ {new : EdgeToAdd} {t : List ℕ} {k : ℕ} (p : PathWritten new t k) (valid : KindValid t (edge_area new.limits) new.m (block (before new))) where
  open new use {limits, m, room}

  abbrev g : Network
  g = before new

  abbrev area : Area
  area = edge_area limits

  abbrev l : Listing
  l = path_edges limits k

  abbrev g' : Network
  g' = after new

  abbrev w : ℕ
  w = best_listed t (edge_area limits) (path_edges limits k)

  abbrev t₄ : List ℕ
  t₄ = (merge_listed t (edge_area limits) (path_edges limits k)).table

  columns : HasColumns t (edge_area limits) Column.per_edge
  columns = omega (arith, p.as_long, new.valid.long)

  small : m < 65536
  small = omega (arith, room, new.valid.small_edges)

  known : (z : ℕ) → Memᴰ z (edges_of t limits k) → z < m
  known z i = let j = entry k (λ i. path_edge t limits i) z i in rw j.is (p.edges_known j.at j.below)

  -- the blocks merged, of the old edges
  pub blocks_merged : MergedTo t (edge_area limits) m (block g) (block (after new)) (edges_of t limits k)
      (best_listed t (edge_area limits) (path_edges limits k)) (merge_listed t (edge_area limits) (path_edges limits k)).table
      (merge_listed t (edge_area limits) (path_edges limits k)).count
  blocks_merged =
      subst
      (λ (is : List ℕ). MergedTo t area m (block g) (block g') is w t₄ (merge_listed t (edge_area limits) (path_edges limits k)).count)
      (edges_listed limits t k)
      (merge_listed_lem t area m (omega arith) (omega arith) small (block g) (block g') (block_groups g) (block_groups g') valid l
      (edges_outside limits t k (omega (arith, p.few, new.valid.vertices_fit))) (edges_some limits t k p.some)
      (λ z i. known z (rw (edges_listed limits t k) at i))
      (λ s u h j.
      rw (edges_listed limits t k)
      (blocks_merge p s u ∙ ap₂ (λ c d. block g s u || (c && d)) (merged_old p s h) (merged_old p u j))))

  -- the new edge is in the merged blocks
  new_in : in_merged (block g) (m ∷ edges_of t limits k) m ≡ true
  unfolding in_merged
  new_in = or_left (block_refl g m) (in_merged (block g) (edges_of t limits k) m)

  -- what is in the merged blocks shares a block with the new edge
  pub with_new : (s : ℕ) → in_merged (block g) (edges_of t limits k) s ≡ true → block (after new) m s ≡ true
  unfolding in_merged
  with_new s i = blocks_merge p m s ∙ or_right (block g m s) (and_both new_in (or_right (block g m s) i))

  -- the winner keeps its name
  pub winner_self : name_in (merge_listed t (edge_area limits) (path_edges limits k)).table (edge_area limits) (best_listed t (edge_area limits) (path_edges limits k))
      ≡ best_listed t (edge_area limits) (path_edges limits k)
  winner_self = blocks_merged.taken w blocks_merged.known blocks_merged.among

  -- an old edge shares a block with the new edge exactly if it has the winner's name
  pub joins_by_name : (x : ℕ) → x < m
      → block (after new) m x
      ≡ eqb (name_in (merge_listed t (edge_area limits) (path_edges limits k)).table (edge_area limits) x) (best_listed t (edge_area limits) (path_edges limits k))
  joins_by_name x h =
      bool_ext (block g' m x) (eqb (name_in t₄ area x) w)
      (λ j. eq-eqb (name_in t₄ area x) w
      (one_name o.valid x w h o.known (block_trans g' x m w (block_sym g' m x j) (with_new w o.among)) ∙ winner_self))
      (λ q. block_trans g' m w x (with_new w o.among)
      (one_group o.valid w x o.known h (winner_self ∙ sym (eqb_eq (name_in t₄ area x) w q))))
    where
      o : MergedTo t area m (block g) (block g') (edges_of t limits k) w t₄ (merge_listed t (edge_area limits) (path_edges limits k)).count
      o = blocks_merged

  first_items : edges_of t limits k ≡ item_of t l 0 ∷ later_items t l
  first_items = sym (edges_listed limits t k) ∙ items_first t l (edges_some limits t k p.some)

  small_items : (z : ℕ) → Memᴰ z (item_of t l 0 ∷ later_items t l) → z < m
  small_items z i = known z (rw first_items i)

  merges_new : Merges (suc m) (block g) (block g') (m ∷ item_of t l 0 ∷ later_items t l)
  merges_new s u h j =
      subst
      (λ (is : List ℕ). block g' s u ≡ (block g s u || (in_merged (block g) (m ∷ is) s && in_merged (block g) (m ∷ is) u)))
      first_items
      (blocks_merge p s u)

  best_is : w ≡ (best_of (candidate (block g) (names_in t area m)) (candidate (block g) (names_in t area m) (item_of t l 0)) (later_items t l)).name
  best_is =
      best_listed_lem t area m (block g) valid l (item_of t l 0) (later_items t l) (items_are t l (edges_some limits t k p.some)) small_items

  module _ (v : ℕ) where
    abbrev t₅ : List ℕ
    t₅ = enter_block t₄ limits m w v

    abbrev renamed : List ℕ
    renamed = rename (block g) (block g') (names_in t area m ++ m ∷ [])

    has : HasColumns t₄ area Column.per_edge
    has = rw blocks_merged.kept.same_length columns

    in_new : (x : ℕ) (c : Bool) → in_merged (block g) (m ∷ edges_of t limits k) x ≡ c → in_merged (block g) (m ∷ item_of t l 0 ∷ later_items t l) x ≡ c
    in_new x c i = subst (λ (is : List ℕ). in_merged (block g) (m ∷ is) x ≡ c) first_items i

    best_after : (x : ℕ) → x < suc m → in_merged (block g) (m ∷ edges_of t limits k) x ≡ true → w ≡ name_of renamed x
    best_after x h i =
        best_is
        ∙ sym (joined_best m (block g) (block g') (names_in t area m) valid.named (block_groups g) (block_groups g') (number-apart new)
        (item_of t l 0) (later_items t l) small_items merges_new x h (in_new x true i))

    name-after : (x : ℕ) → x < suc m → name_in t₅ area x ≡ name_of renamed x
    name-after x h = go (below_or_last m x h)
      where
        old : x < m → (in_merged (block g) (edges_of t limits k) x ≡ true) ⊎ (in_merged (block g) (edges_of t limits k) x ≡ false)
            → name_in t₄ area x ≡ name_of renamed x
        old j (inl i) = blocks_merged.taken x j i ∙ best_after x h (merged_old p x j ∙ i)
        old j (inr i) =
            blocks_merged.stays x j i
            ∙ sym (name_in_list t area m x j)
            ∙ sym (joined_stays m (block g) (block g') (names_in t area m) valid.named (block_groups g) (block_groups g') (number-apart new)
            (item_of t l 0) (later_items t l) small_items merges_new x j (in_new x false (merged_old p x j ∙ i)))

        go : (x < m) ⊎ (x ≡ m) → name_in t₅ area x ≡ name_of renamed x
        go (inl j) =
            enter_name_old t₄ limits m w v has room blocks_merged.known x j
            ∙ old j (true_or_false (in_merged (block g) (edges_of t limits k) x))
        go (inr q) =
            subst (λ (y : ℕ). name_in t₅ area y ≡ name_of renamed y) (sym q)
            (enter_name t₄ limits m w v has room blocks_merged.known ∙ best_after m (omega arith) new_in)

    -- the names with the new edge are those that naming gives
    pub blocks_names : names_in (enter_block (merge_listed t (edge_area limits) (path_edges limits k)).table limits m (best_listed t (edge_area limits) (path_edges limits k)) v) (edge_area limits) (suc m)
        ≡ rename (block g) (block (after new)) (names_in t (edge_area limits) m ++ m ∷ [])
    unfolding name_of
    blocks_names =
        ext_get_or 0 (names_in t₅ area (suc m)) renamed (length-names t₅ area (suc m) ∙ sym longer)
        (λ x h. let j = rw (length-names t₅ area (suc m)) at h in name_in_list t₅ area (suc m) x j ∙ name-after x j)
      where
        longer : length renamed ≡ suc m
        longer =
            length_rename (block g) (block g') (names_in t area m ++ m ∷ [])
            ∙ length-append (names_in t area m) (m ∷ [])
            ∙ (rw (length-names t area m) (omega arith))

    -- the words of the blocks are valid with the new edge
    pub blocks_valid : KindValid (enter_block (merge_listed t (edge_area limits) (path_edges limits k)).table limits m (best_listed t (edge_area limits) (path_edges limits k)) v) (edge_area limits) (suc m)
        (block (after new))
    blocks_valid =
        kind_enter t₄ limits m w v has room blocks_merged.known small (block g') (block_groups g') blocks_merged.valid winner_self joins_by_name
        (rw blocks_names
        (joined-named m (block g) (block g') (names_in t area m) valid.named (block_groups g) (block_groups g') (number-apart new)
        (item_of t l 0) (later_items t l) small_items merges_new))
