-- What raising the depths of the changed vertices leaves in the table.
use Rattle.std.proofs.Common.{◌≡◌, ℕ, zero, suc, ◌+◌, ◌%◌, ◌^◌, ◌<◌, ◌≤◌, Bool, true, false, cond, ◌&&◌, ◌||◌, eqb, ltb, ◌⊎◌, List, length, sym, refl, ap, ◌∙◌, inl, inr, arith}
use Rattle.graph.specs.Below.{listed, tabulate, length_tabulate}
use Rattle.graph.specs.Lists.{is_in, distinct}
use Rattle.graph.proofs.Truth.{true_or_false, eqb_eq, eqb_ne, eqb_same, and_left, ltb_lt, lt-ltb}
use Rattle.graph.proofs.Members.{is_in_head, is_in_tail, distinct_head, distinct_tail, is_in-listed, distinct-listed}
use Rattle.graph.proofs.Lengths.{length-listed}
use Rattle.numbers.specs.declared.Limits.{Limits}
use Rattle.table.specs.Inside.Column
use Rattle.table.specs.Inside.Layout.{cell, put, vertex_area}
use Rattle.table.proofs.Cells.{HasColumns, length-put, cell-put-same, cell_put_other_column, cell_put_other_item}
use Rattle.table.specs.declared.merge.Listing.{Listing}
use Rattle.table.specs.Inside.Merge.{items_from}
use Rattle.forest.specs.Inside.Climb.{depth_of}
use Rattle.forest.specs.Inside.Tree.{raise_from}
use Rattle.forest.proofs.Columns.{among}
use Rattle.forest.proofs.Frames.{Frame, ◌then◌, frame_none, frame_vertex}
use Rattle.forest.proofs.Values.{items_same, items_tabulate}

-- The listing of the changed vertices.
abbrev pub changed_vertices : Limits → ℕ → Listing
changed_vertices limits count = record { area = vertex_area limits; column = Column.changed; count = count }

module _ (limits : Limits) (by count : ℕ) where
  -- The changed vertices from place i on, k of them.
  abbrev changed_from : List ℕ → ℕ → ℕ → List ℕ
  changed_from t i k = items_from t (changed_vertices limits count) i k

  -- a stored depth leaves them
  changed_stay : (t : List ℕ) (x v i k : ℕ) → x < limits.vertices → i + k ≤ limits.vertices
      → changed_from (put t (vertex_area limits) Column.depth x v) i k ≡ changed_from t i k
  changed_stay t x v i k h room =
      items_same _ _ _ i k (λ j l. cell_put_other_column t (vertex_area limits) Column.depth x v Column.changed j h (omega arith) (λ e. omega arith))

  abbrev raised_to : List ℕ → ℕ → ℕ
  raised_to t x = (depth_of t limits x + by) % 2 ^ 32

  abbrev raised_one : List ℕ → ℕ → List ℕ
  raised_one t x = put t (vertex_area limits) Column.depth x (raised_to t x)

  -- raising leaves all words but depths
  raise_frame : (vs es : List ℕ) → among vs Column.depth ≡ true → (k : ℕ) (t : List ℕ) (i : ℕ) → i + k ≤ limits.vertices
      → ((x : ℕ) → is_in x (changed_from t i k) ≡ true → x < limits.vertices)
      → Frame limits vs es t (raise_from k t limits by i)
  unfolding raise_from items_from
  raise_frame vs es p zero t i room small = frame_none
  raise_frame vs es p (suc k) t i room small =
      let x = cell t (vertex_area limits) Column.changed i in
      let h = small x (is_in_head x _) in
      frame_vertex limits vs es t Column.depth x (raised_to t x) (omega arith) h p
      then raise_frame vs es p k (raised_one t x) (suc i) (omega arith)
      (λ y q. small y (is_in_tail y x _ (rw (changed_stay t x (raised_to t x) (suc i) k h (omega arith)) at q)))

  one_step : (t : List ℕ) (x y : ℕ) (l : List ℕ) → HasColumns t (vertex_area limits) Column.per_vertex → x < limits.vertices → is_in x l ≡ false
      → cond (is_in y l) (raised_to (raised_one t x) y) (depth_of (raised_one t x) limits y)
      ≡ cond (eqb y x || is_in y l) (raised_to t y) (depth_of t limits y)
  one_step t x y l has h out = go (true_or_false (eqb y x))
    where
      go : (eqb y x ≡ true) ⊎ (eqb y x ≡ false)
          → cond (is_in y l) (raised_to (raised_one t x) y) (depth_of (raised_one t x) limits y)
          ≡ cond (eqb y x || is_in y l) (raised_to t y) (depth_of t limits y)
      go (inl q) =
          rw
          (eqb_eq y x q, eqb_same x, out)
          (cell-put-same t (vertex_area limits) Column.per_vertex Column.depth x (raised_to t x) has (omega arith) h)
      go (inr q) =
          rw
          (q, cell_put_other_item t (vertex_area limits) Column.depth x (raised_to t x) y (λ e. eqb_ne y x q (sym e)))

  -- raising adds to the depths of the changed vertices, which differ, and to no other
  raise_depth : (k : ℕ) (t : List ℕ) (i : ℕ) → HasColumns t (vertex_area limits) Column.per_vertex → i + k ≤ limits.vertices
      → ((x : ℕ) → is_in x (changed_from t i k) ≡ true → x < limits.vertices)
      → distinct (changed_from t i k) ≡ true
      → (y : ℕ)
      → depth_of (raise_from k t limits by i) limits y
      ≡ cond (is_in y (changed_from t i k)) ((depth_of t limits y + by) % 2 ^ 32) (depth_of t limits y)
  unfolding raise_from items_from is_in
  raise_depth zero t i has room small apart y = refl
  raise_depth (suc k) t i has room small apart y =
      let x = cell t (vertex_area limits) Column.changed i in
      let h = small x (is_in_head x (changed_from t (suc i) k)) in
      let stay = changed_stay t x (raised_to t x) (suc i) k h (omega arith) in
      raise_depth k (raised_one t x) (suc i) (rw (length-put t (vertex_area limits) Column.depth x (raised_to t x)) has) (omega arith)
      (λ z q. small z (is_in_tail z x (changed_from t (suc i) k) (rw stay at q)))
      (rw stay (distinct_tail x (changed_from t (suc i) k) apart))
      y
      ∙ rw stay (one_step t x y (changed_from t (suc i) k) has h (distinct_head x (changed_from t (suc i) k) apart))

  -- so it is where the changed vertices are those below n that pass a test
  module _ (n : ℕ) (t : List ℕ) (p : ℕ → Bool) (has : HasColumns t (vertex_area limits) Column.per_vertex) (fits : n ≤ limits.vertices)
      (changed : tabulate count (cell t (vertex_area limits) Column.changed) ≡ listed n p) where
    all : changed_from t 0 count ≡ listed n p
    all = items_tabulate t (changed_vertices limits count) count ∙ changed

    room : 0 + count ≤ limits.vertices
    room = omega (arith, length-listed n p, sym (length_tabulate count (cell t (vertex_area limits) Column.changed)) ∙ ap length changed)

    small : (x : ℕ) → is_in x (changed_from t 0 count) ≡ true → x < limits.vertices
    small x q = omega (arith, ltb_lt x n (and_left (ltb x n) (p x) (sym (is_in-listed n p x) ∙ (rw all at q))))

    -- all words but depths stay
    pub raised_frame : (vs es : List ℕ) → among vs Column.depth ≡ true → Frame limits vs es t (raise_from count t limits by 0)
    raised_frame vs es q = raise_frame vs es q count t 0 room small

    -- the depths of those that pass are raised, and no other
    pub raised_depth : (x : ℕ) → x < n
        → depth_of (raise_from count t limits by 0) limits x ≡ cond (p x) ((depth_of t limits x + by) % 2 ^ 32) (depth_of t limits x)
    raised_depth x h =
        raise_depth count t 0 has room small (ap distinct all ∙ distinct-listed n p) x
        ∙ ap (λ b. cond b ((depth_of t limits x + by) % 2 ^ 32) (depth_of t limits x))
        (ap (is_in x) all ∙ is_in-listed n p x ∙ ap (λ b. b && p x) (lt-ltb x n h))
