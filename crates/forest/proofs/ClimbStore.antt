-- Steps stored in the table and read back: those of the path, and those of the right side turned round.
use Rattle.std.proofs.Common.{◌≡◌, ℕ, zero, suc, ◌+◌, ◌<◌, ◌≤◌, ◌≢◌, List, [], ◌∷◌, ◌++◌, sym, refl, ap, ◌∙◌, ap₂, add-one, arith}
use Rattle.graph.specs.Below.{tabulate}
use Rattle.graph.specs.Cycle.{Step}
use Rattle.naming.proofs.Listed.{tabulate_same}
use Rattle.numbers.specs.declared.Limits.{Limits}
use Rattle.table.specs.Inside.Column
use Rattle.table.specs.Inside.Layout.{cell, put, vertex_area}
use Rattle.table.proofs.Cells.{HasColumns, length-put, cell-put-same, cell_put_other_column, cell_put_other_item}
use Rattle.forest.specs.Inside.Climb.{path_vertex, path_edge, right_vertex, right_edge}
use Rattle.forest.specs.Inside.Route.{step_at, steps_of}

-- The first k steps of the right side, turned round: the last of them first, each to the vertex that it left.
unfoldable pub turned_steps : List ℕ → Limits → ℕ → List Step
turned_steps t limits zero = []
turned_steps t limits (suc k) = record { along = right_edge t limits k; to = right_vertex t limits k } ∷ turned_steps t limits k

-- one step more is one step behind the others
pub steps_more : (t : List ℕ) (limits : Limits) (k : ℕ) → steps_of t limits (suc k) ≡ steps_of t limits k ++ step_at t limits k ∷ []
unfolding steps_of tabulate
steps_more t limits k = refl

-- the steps are the same where edges and vertices are
pub steps_same : (t t' : List ℕ) (limits : Limits) (k : ℕ)
    → ((i : ℕ) → i < k → path_edge t' limits i ≡ path_edge t limits i)
    → ((i : ℕ) → i < k → path_vertex t' limits (suc i) ≡ path_vertex t limits (suc i))
    → steps_of t' limits k ≡ steps_of t limits k
unfolding steps_of step_at
steps_same t t' limits k f h = tabulate_same k _ _ (λ i l. λ j. record { along = f i l j; to = h i l j })

turned_same : (t t' : List ℕ) (limits : Limits) (k : ℕ)
    → ((i : ℕ) → i < k → right_edge t' limits i ≡ right_edge t limits i)
    → ((i : ℕ) → i < k → right_vertex t' limits i ≡ right_vertex t limits i)
    → turned_steps t' limits k ≡ turned_steps t limits k
unfolding turned_steps
turned_same t t' limits zero f h = refl
turned_same t t' limits (suc k) f h =
    rw (f k (omega arith), h k (omega arith), turned_same t t' limits k (λ i l. f i (omega arith)) (λ i l. h i (omega arith)))

-- A step stored behind the first `at` steps of the path.
abbrev pub left_store : List ℕ → Limits → ℕ → ℕ → ℕ → List ℕ
left_store t limits at e v = put (put t (vertex_area limits) Column.path_edge at e) (vertex_area limits) Column.path_vertex (at + 1) v

-- A step stored behind the first `at` steps of the right side.
abbrev pub right_store : List ℕ → Limits → ℕ → ℕ → ℕ → List ℕ
right_store t limits at e y = put (put t (vertex_area limits) Column.right_edge at e) (vertex_area limits) Column.right_vertex at y

-- two stores, one column apart, read in a third column
other_columns_lem : (t : List ℕ) (limits : Limits) (c x e d y v k i : ℕ) → x < limits.vertices → y < limits.vertices → i < limits.vertices
    → c ≢ k → d ≢ k
    → cell (put (put t (vertex_area limits) c x e) (vertex_area limits) d y v) (vertex_area limits) k i ≡ cell t (vertex_area limits) k i
other_columns_lem t limits c x e d y v k i h l j p q =
    cell_put_other_column (put t (vertex_area limits) c x e) (vertex_area limits) d y v k i l j q
    ∙ cell_put_other_column t (vertex_area limits) c x e k i h j p

-- two stores in different columns, read in the first, at the item stored and at another
first_column_lem : (t : List ℕ) (limits : Limits) (c x e d y v : ℕ) → HasColumns t (vertex_area limits) Column.per_vertex → c < Column.per_vertex
    → x < limits.vertices → y < limits.vertices → d ≢ c
    → cell (put (put t (vertex_area limits) c x e) (vertex_area limits) d y v) (vertex_area limits) c x ≡ e
first_column_lem t limits c x e d y v long k h l q =
    cell_put_other_column (put t (vertex_area limits) c x e) (vertex_area limits) d y v c x l h q
    ∙ cell-put-same t (vertex_area limits) Column.per_vertex c x e long k h

first_column_other : (t : List ℕ) (limits : Limits) (c x e d y v i : ℕ) → y < limits.vertices → i < limits.vertices → d ≢ c → x ≢ i
    → cell (put (put t (vertex_area limits) c x e) (vertex_area limits) d y v) (vertex_area limits) c i ≡ cell t (vertex_area limits) c i
first_column_other t limits c x e d y v i l j q z =
    cell_put_other_column (put t (vertex_area limits) c x e) (vertex_area limits) d y v c i l j q
    ∙ cell_put_other_item t (vertex_area limits) c x e i z

-- and in the second
second_column : (t : List ℕ) (limits : Limits) (c x e d y v : ℕ) → HasColumns t (vertex_area limits) Column.per_vertex → d < Column.per_vertex → y < limits.vertices
    → cell (put (put t (vertex_area limits) c x e) (vertex_area limits) d y v) (vertex_area limits) d y ≡ v
second_column t limits c x e d y v long k l =
    cell-put-same (put t (vertex_area limits) c x e) (vertex_area limits) Column.per_vertex d y v (rw (length-put t (vertex_area limits) c x e) long) k l

second_column_other : (t : List ℕ) (limits : Limits) (c x e d y v i : ℕ) → x < limits.vertices → i < limits.vertices → c ≢ d → y ≢ i
    → cell (put (put t (vertex_area limits) c x e) (vertex_area limits) d y v) (vertex_area limits) d i ≡ cell t (vertex_area limits) d i
second_column_other t limits c x e d y v i h j p z =
    cell_put_other_item (put t (vertex_area limits) c x e) (vertex_area limits) d y v i z
    ∙ cell_put_other_column t (vertex_area limits) c x e d i h j p

module _ (t : List ℕ) (limits : Limits) (at e v : ℕ) (long : HasColumns t (vertex_area limits) Column.per_vertex) where
  -- the path has one step more
  pub left_store_steps : at + 1 < limits.vertices
      → steps_of (left_store t limits at e v) limits (at + 1) ≡ steps_of t limits at ++ record { along = e; to = v } ∷ []
  unfolding step_at
  left_store_steps h =
      ap (steps_of t' limits) (add-one at)
      ∙ steps_more t' limits at
      ∙ ap₂ (λ (ps : List Step) (p : Step). ps ++ p ∷ []) before (λ i. record { along = edge i; to = vertex i })
    where
      t' : List ℕ
      t' = left_store t limits at e v

      before : steps_of t' limits at ≡ steps_of t limits at
      before =
          steps_same t t' limits at
          (λ i l. first_column_other t limits Column.path_edge at e Column.path_vertex (at + 1) v i h (omega arith) (λ z. omega arith) (λ z. omega arith))
          (λ i l. second_column_other t limits Column.path_edge at e Column.path_vertex (at + 1) v (suc i) (omega arith) (omega arith) (λ z. omega arith) (λ z. omega arith))

      edge : path_edge t' limits at ≡ e
      edge = first_column_lem t limits Column.path_edge at e Column.path_vertex (at + 1) v long (omega arith) (omega arith) h (λ z. omega arith)

      vertex : path_vertex t' limits (suc at) ≡ v
      vertex = ap (path_vertex t' limits) (sym (add-one at)) ∙ second_column t limits Column.path_edge at e Column.path_vertex (at + 1) v long (omega arith) h

  -- its first vertex stays
  pub left_store_start : at + 1 < limits.vertices → path_vertex (left_store t limits at e v) limits 0 ≡ path_vertex t limits 0
  left_store_start h =
      second_column_other t limits Column.path_edge at e Column.path_vertex (at + 1) v 0 (omega arith) (omega arith) (λ z. omega arith) (λ z. omega arith)

  -- the right side stays
  pub left_store_turned : (k : ℕ) → at + 1 < limits.vertices → k ≤ limits.vertices
      → turned_steps (left_store t limits at e v) limits k ≡ turned_steps t limits k
  left_store_turned k h l =
      turned_same t (left_store t limits at e v) limits k
      (λ i j. other_columns_lem t limits Column.path_edge at e Column.path_vertex (at + 1) v Column.right_edge i (omega arith) h (omega arith) (λ z. omega arith) (λ z. omega arith))
      (λ i j. other_columns_lem t limits Column.path_edge at e Column.path_vertex (at + 1) v Column.right_vertex i (omega arith) h (omega arith) (λ z. omega arith) (λ z. omega arith))

  -- the right side has one step more
  pub right_store_turned : at < limits.vertices
      → turned_steps (right_store t limits at e v) limits (at + 1) ≡ record { along = e; to = v } ∷ turned_steps t limits at
  unfolding turned_steps
  right_store_turned h = rw add-one (ap₂ (λ (p : Step) (ps : List Step). p ∷ ps) (λ i. record { along = edge i; to = vertex i }) before)
    where
      t' : List ℕ
      t' = right_store t limits at e v

      before : turned_steps t' limits at ≡ turned_steps t limits at
      before =
          turned_same t t' limits at
          (λ i l. first_column_other t limits Column.right_edge at e Column.right_vertex at v i h (omega arith) (λ z. omega arith) (λ z. omega arith))
          (λ i l. second_column_other t limits Column.right_edge at e Column.right_vertex at v i h (omega arith) (λ z. omega arith) (λ z. omega arith))

      edge : right_edge t' limits at ≡ e
      edge = first_column_lem t limits Column.right_edge at e Column.right_vertex at v long (omega arith) h h (λ z. omega arith)

      vertex : right_vertex t' limits at ≡ v
      vertex = second_column t limits Column.right_edge at e Column.right_vertex at v long (omega arith) h

  -- the path stays
  pub right_store_steps : (k : ℕ) → at < limits.vertices → k < limits.vertices → steps_of (right_store t limits at e v) limits k ≡ steps_of t limits k
  right_store_steps k h l =
      steps_same t (right_store t limits at e v) limits k
      (λ i j. other_columns_lem t limits Column.right_edge at e Column.right_vertex at v Column.path_edge i h h (omega arith) (λ z. omega arith) (λ z. omega arith))
      (λ i j. other_columns_lem t limits Column.right_edge at e Column.right_vertex at v Column.path_vertex (suc i) h h (omega arith) (λ z. omega arith) (λ z. omega arith))

  -- and its first vertex
  pub right_store_start : at < limits.vertices → path_vertex (right_store t limits at e v) limits 0 ≡ path_vertex t limits 0
  right_store_start h = other_columns_lem t limits Column.right_edge at e Column.right_vertex at v Column.path_vertex 0 h h (omega arith) (λ z. omega arith) (λ z. omega arith)
