-- The words of marks: which vertices are marked, and how many marks the bridge-blocks have.
use Rattle.std.proofs.Common.{◌≡◌, ℕ, suc, ◌<◌, ◌≤◌, true, false, eqb, ltb, ◌⊎◌, List, sym, refl, ap, ◌∙◌, inl, inr, le_refl, arith}
use Rattle.graph.proofs.Truth.{true_or_false, ltb_lt, lt-ltb, ltb_ge, ge_ltb}
use Rattle.graph.proofs.Below.{below_or_last}
use Rattle.numbers.specs.declared.Limits.{Limits}
use Rattle.table.specs.Inside.Column
use Rattle.table.specs.Inside.Layout.{cell, put, vertex_area, bridge_block_area}
use Rattle.table.proofs.Cells.{HasColumns, length-put, cell-put-same, cell_put_other_column, cell_put_other_item, cell_put_elsewhere, cell-bridge_block, put-bridge_block}
use Rattle.forest.specs.Inside.Valid.{marked_in}
use Rattle.forest.proofs.Columns.{among, within, mark_columns, within_among}
use Rattle.forest.proofs.Frames.{Frame, ◌then◌, frame_vertex}

-- one of n vertices is marked if its word is 1
pub marked_known : (limits : Limits) (n : ℕ) (t : List ℕ) (x : ℕ) → x < n
    → marked_in limits n t x ≡ eqb (cell t (vertex_area limits) Column.mark x) 1
unfolding marked_in
marked_known limits n t x h = rw (lt-ltb x n h)

-- no other vertex is marked
pub marked_unknown : (limits : Limits) (n : ℕ) (t : List ℕ) (x : ℕ) → n ≤ x → marked_in limits n t x ≡ false
unfolding marked_in
marked_unknown limits n t x h = rw (ge_ltb x n h)

-- whether a vertex is marked depends on its word alone, and on that only if it is one of n
pub marked_same : (limits : Limits) (n : ℕ) (t t' : List ℕ) (x : ℕ)
    → (x < n → cell t' (vertex_area limits) Column.mark x ≡ cell t (vertex_area limits) Column.mark x)
    → marked_in limits n t' x ≡ marked_in limits n t x
marked_same limits n t t' x f = go (true_or_false (ltb x n))
  where
    go : (ltb x n ≡ true) ⊎ (ltb x n ≡ false) → marked_in limits n t' x ≡ marked_in limits n t x
    go (inl l) =
        let h = ltb_lt x n l in
        marked_known limits n t' x h ∙ ap (λ (w : ℕ). eqb w 1) (f h) ∙ sym (marked_known limits n t x h)
    go (inr l) =
        let h = ltb_ge x n l in
        marked_unknown limits n t' x h ∙ sym (marked_unknown limits n t x h)

-- one vertex more, whose word is 0, is not marked
pub marked_more : (limits : Limits) (n : ℕ) (t : List ℕ) (x : ℕ) → cell t (vertex_area limits) Column.mark n ≡ 0
    → marked_in limits (suc n) t x ≡ marked_in limits n t x
marked_more limits n t x none = go (true_or_false (ltb x (suc n)))
  where
    known : (x < n) ⊎ (x ≡ n) → marked_in limits (suc n) t x ≡ marked_in limits n t x
    known (inl l) = marked_known limits (suc n) t x (omega arith) ∙ sym (marked_known limits n t x l)
    known (inr q) =
        rw q
        (marked_known limits (suc n) t n (omega arith)
        ∙ ap (λ (w : ℕ). eqb w 1) none
        ∙ sym (marked_unknown limits n t n (le_refl n)))

    unknown : suc n ≤ x → marked_in limits (suc n) t x ≡ marked_in limits n t x
    unknown h = marked_unknown limits (suc n) t x h ∙ sym (marked_unknown limits n t x (omega arith))

    go : (ltb x (suc n) ≡ true) ⊎ (ltb x (suc n) ≡ false) → marked_in limits (suc n) t x ≡ marked_in limits n t x
    go (inl l) = known (below_or_last n x (ltb_lt x (suc n) l))
    go (inr l) = unknown (ltb_ge x (suc n) l)

module _ {limits : Limits} {vs es : List ℕ} {t t' : List ℕ} (f : Frame limits vs es t t') where
  -- the marks that bridge-blocks have stay where their column is not listed
  pub same_marks : (n : ℕ) → n ≤ limits.vertices → among vs (Column.of_bridge_blocks Column.mark_count) ≡ false
      → (x : ℕ) → x < n → cell t' (bridge_block_area limits) Column.mark_count x ≡ cell t (bridge_block_area limits) Column.mark_count x
  same_marks n h o x l =
      cell-bridge_block limits t' Column.mark_count x
      ∙ f.vertex_word (Column.of_bridge_blocks Column.mark_count) x (omega arith) (omega arith) o
      ∙ sym (cell-bridge_block limits t Column.mark_count x)

  -- so do the marked vertices
  pub same_marked : (n : ℕ) → n ≤ limits.vertices → among vs Column.mark ≡ false
      → (x : ℕ) → marked_in limits n t' x ≡ marked_in limits n t x
  same_marked n h o x = marked_same limits n t t' x (λ l. f.vertex_word Column.mark x (omega arith) (omega arith) o)

-- The table with k stored as the marks of the bridge-block named w, and v as the mark of vertex x.
abbrev pub marks_stored : Limits → List ℕ → ℕ → ℕ → ℕ → ℕ → List ℕ
marks_stored limits t w k x v = put (put t (bridge_block_area limits) Column.mark_count w k) (vertex_area limits) Column.mark x v

module _ (limits : Limits) (t : List ℕ) (w k x v : ℕ) (h : w < limits.vertices) (l : x < limits.vertices) where
  abbrev t₁ : List ℕ
  t₁ = put t (bridge_block_area limits) Column.mark_count w k

  abbrev t' : List ℕ
  t' = marks_stored limits t w k x v

  -- the first store leaves the other words of vertices
  first_other : (c y : ℕ) → y < limits.vertices → (Column.of_bridge_blocks Column.mark_count ≡ c → ⊥)
      → cell t₁ (vertex_area limits) c y ≡ cell t (vertex_area limits) c y
  first_other c y m d =
      rw (put-bridge_block limits t Column.mark_count w k)
      (cell_put_other_column t (vertex_area limits) (Column.of_bridge_blocks Column.mark_count) w k c y h m d)

  -- the second store leaves the marks of bridge-blocks
  second_marks : (y : ℕ) → y < limits.vertices
      → cell t' (bridge_block_area limits) Column.mark_count y ≡ cell t₁ (bridge_block_area limits) Column.mark_count y
  second_marks y m =
      cell-bridge_block limits t' Column.mark_count y
      ∙ cell_put_other_column t₁ (vertex_area limits) Column.mark x v (Column.of_bridge_blocks Column.mark_count) y l m (λ e. omega arith)
      ∙ sym (cell-bridge_block limits t₁ Column.mark_count y)

  -- the two tables differ in the columns of marks alone
  pub frame_marks : (vs es : List ℕ) → within mark_columns vs ≡ true → Frame limits vs es t (marks_stored limits t w k x v)
  frame_marks vs es m =
      rw (put-bridge_block limits t Column.mark_count w k)
      (frame_vertex limits vs es t (Column.of_bridge_blocks Column.mark_count) w k (omega arith) h
      (within_among mark_columns vs m (Column.of_bridge_blocks Column.mark_count) refl)
      then frame_vertex limits vs es _ Column.mark x v (omega arith) l (within_among mark_columns vs m Column.mark refl))

  -- all words of other vertices stay
  pub marks_elsewhere : (c y : ℕ) → y < limits.vertices → (w ≡ y → ⊥) → (x ≡ y → ⊥)
      → cell (marks_stored limits t w k x v) (vertex_area limits) c y ≡ cell t (vertex_area limits) c y
  marks_elsewhere c y m d e =
      cell_put_elsewhere t₁ (vertex_area limits) Column.mark x v c y l m e
      ∙ (rw (put-bridge_block limits t Column.mark_count w k)
      (cell_put_elsewhere t (vertex_area limits) (Column.of_bridge_blocks Column.mark_count) w k c y h m d))

  -- another bridge-block has the marks that it had
  pub other_marks : (y : ℕ) → y < limits.vertices → (w ≡ y → ⊥)
      → cell (marks_stored limits t w k x v) (bridge_block_area limits) Column.mark_count y ≡ cell t (bridge_block_area limits) Column.mark_count y
  other_marks y m d = second_marks y m ∙ cell_put_other_item t (bridge_block_area limits) Column.mark_count w k y d

  -- another vertex has the mark that it had
  pub other_mark : (y : ℕ) → y < limits.vertices → (x ≡ y → ⊥)
      → cell (marks_stored limits t w k x v) (vertex_area limits) Column.mark y ≡ cell t (vertex_area limits) Column.mark y
  other_mark y m d =
      cell_put_other_item t₁ (vertex_area limits) Column.mark x v y d ∙ first_other Column.mark y m (λ e. omega arith)

  module _ (has : HasColumns t (vertex_area limits) Column.per_vertex) where
    -- what is stored is read
    pub stored_marks : cell (marks_stored limits t w k x v) (bridge_block_area limits) Column.mark_count w ≡ k
    stored_marks =
        second_marks w h ∙ cell-put-same t (bridge_block_area limits) Column.per_bridge_block Column.mark_count w k (omega arith) (omega arith) h

    pub stored_mark : cell (marks_stored limits t w k x v) (vertex_area limits) Column.mark x ≡ v
    stored_mark =
        cell-put-same t₁ (vertex_area limits) Column.per_vertex Column.mark x v
        (rw (length-put t (bridge_block_area limits) Column.mark_count w k) has)
        (omega arith)
        l
