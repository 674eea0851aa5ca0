-- The new edge put into a block: the words that change, and that the words of the kind stay valid with one item more.
use Rattle.std.proofs.Common.{◌≡◌, ℕ, suc, ◌+◌, ◌*◌, ◌/◌, ◌%◌, ◌^◌, ◌<◌, ◌≤◌, true, false, eqb, ◌⊎◌, List, [], ◌∷◌, ◌++◌, length, sym, refl, ◌∙◌, inl, inr, le_refl, mod-eq_of_lt, arith}
use lib.Arith.{digits_div, digits_mod}
use Rattle.graph.proofs.Truth.{true_or_false, eqb_eq, eqb_ne, eq-eqb}
use Rattle.graph.proofs.Below.{below_or_last}
use Rattle.naming.specs.Rename.{Grouping, size}
use Rattle.naming.specs.Naming.{Naming}
use Rattle.naming.proofs.Count.{count_last_in}
use Rattle.naming.proofs.Equivalent.{Equivalent, group_swap, size_same, size_others, size_at_most}
use Rattle.table.specs.declared.words.Area.{Area}
use Rattle.numbers.specs.declared.Limits.{Limits}
use Rattle.table.specs.Inside.Column
use Rattle.table.specs.Inside.Layout.{put, edge_area}
use Rattle.table.specs.Inside.Merge.{name_in, size_in, range_in, least_of, greatest_of}
use Rattle.table.specs.Inside.KindValid.{names_in, KindValid}
use Rattle.table.proofs.Cells.{HasColumns, length-put, cell-put-same, cell_put_other_column, cell_put_other_item}
use Rattle.table.proofs.KindNames.{name_known}
use Rattle.forest.specs.Inside.Climb.{top_of}
use Rattle.forest.specs.Inside.Tree.{enter_block}
use Rattle.forest.proofs.Columns.{group_columns}
use Rattle.forest.proofs.Frames.{Frame, ◌then◌, frame_edge}

-- an item more in a group makes it larger by one
size-one_more : (n : ℕ) (groups : Grouping) (x : ℕ) → groups x n ≡ true → size (suc n) groups x ≡ suc (size n groups x)
unfolding size
size-one_more n groups x e = count_last_in n (groups x) e

module _ (t : List ℕ) (limits : Limits) (m w v : ℕ) (has : HasColumns t (edge_area limits) Column.per_edge) (room : m < limits.edges) (known : w < m) where
  abbrev area : Area
  area = edge_area limits

  abbrev t' : List ℕ
  t' = enter_block t limits m w v

  -- The size and the range that are stored.
  abbrev larger : ℕ
  larger = (size_in t (edge_area limits) w + 1) % 2 ^ 32

  abbrev wider : ℕ
  wider = least_of (range_in t (edge_area limits) w) * 65536 + m % 65536

  t₁ : List ℕ
  t₁ = put t area Column.name m w

  t₂ : List ℕ
  t₂ = put t₁ area Column.size w larger

  t₃ : List ℕ
  t₃ = put t₂ area Column.range w wider

  entered : enter_block t limits m w v ≡ put t₃ area Column.top w v
  unfolding enter_block t₁ t₂ t₃
  entered = refl

  wide : w < limits.edges
  wide = omega arith

  same_length : (length t₁ ≡ length t) × (length t₂ ≡ length t) × (length t₃ ≡ length t)
  unfolding t₁ t₂ t₃
  same_length = (
    length-put t area Column.name m w,
    length-put t₁ area Column.size w larger ∙ length-put t area Column.name m w,
    length-put t₂ area Column.range w wider ∙ length-put t₁ area Column.size w larger ∙ length-put t area Column.name m w,
  )

  -- the columns in which words change
  pub frame_enter : Frame limits [] (group_columns ++ Column.top ∷ []) t (enter_block t limits m w v)
  unfolding t₁ t₂ t₃
  frame_enter =
      rw entered
      (frame_edge limits [] _ t Column.name m w (omega arith) room refl
      then frame_edge limits [] _ t₁ Column.size w larger (omega arith) wide refl
      then frame_edge limits [] _ t₂ Column.range w wider (omega arith) wide refl
      then frame_edge limits [] _ t₃ Column.top w v (omega arith) wide refl)

  name_before : (x : ℕ) → x < limits.edges → name_in t' area x ≡ name_in t₁ area x
  unfolding t₂ t₃
  name_before x h =
      rw entered
      (cell_put_other_column t₃ area Column.top w v Column.name x wide h (λ e. omega arith)
      ∙ cell_put_other_column t₂ area Column.range w wider Column.name x wide h (λ e. omega arith)
      ∙ cell_put_other_column t₁ area Column.size w larger Column.name x wide h (λ e. omega arith))

  -- the new edge has the block's name
  pub enter_name : name_in (enter_block t limits m w v) (edge_area limits) m ≡ w
  unfolding t₁
  enter_name = name_before m room ∙ cell-put-same t area Column.per_edge Column.name m w has (omega arith) room

  -- every other edge keeps its name
  pub enter_name_old : (x : ℕ) → x < m → name_in (enter_block t limits m w v) (edge_area limits) x ≡ name_in t (edge_area limits) x
  unfolding t₁
  enter_name_old x h = name_before x (omega arith) ∙ cell_put_other_item t area Column.name m w x (λ e. omega arith)

  size_before : (x : ℕ) → x < limits.edges → size_in t' area x ≡ size_in t₂ area x
  unfolding t₃
  size_before x h =
      rw entered
      (cell_put_other_column t₃ area Column.top w v Column.size x wide h (λ e. omega arith)
      ∙ cell_put_other_column t₂ area Column.range w wider Column.size x wide h (λ e. omega arith))

  size_is : size_in t' area w ≡ larger
  unfolding t₂
  size_is = size_before w wide ∙ cell-put-same t₁ area Column.per_edge Column.size w larger (rw same_length.0 has) (omega arith) wide

  size_old : (x : ℕ) → x < limits.edges → (w ≡ x → ⊥) → size_in t' area x ≡ size_in t area x
  unfolding t₁ t₂
  size_old x h d =
      size_before x h
      ∙ cell_put_other_item t₁ area Column.size w larger x d
      ∙ cell_put_other_column t area Column.name m w Column.size x room h (λ e. omega arith)

  range_is : range_in t' area w ≡ wider
  unfolding t₃
  range_is =
      rw entered
      (cell_put_other_column t₃ area Column.top w v Column.range w wide wide (λ e. omega arith)
      ∙ cell-put-same t₂ area Column.per_edge Column.range w wider (rw same_length.1 has) (omega arith) wide)

  range_old : (x : ℕ) → x < limits.edges → (w ≡ x → ⊥) → range_in t' area x ≡ range_in t area x
  unfolding t₁ t₂ t₃
  range_old x h d =
      rw entered
      (cell_put_other_column t₃ area Column.top w v Column.range x wide h (λ e. omega arith)
      ∙ cell_put_other_item t₂ area Column.range w wider x d
      ∙ cell_put_other_column t₁ area Column.size w larger Column.range x wide h (λ e. omega arith)
      ∙ cell_put_other_column t area Column.name m w Column.range x room h (λ e. omega arith))

  -- the block hangs below the given vertex
  pub enter_top : top_of (enter_block t limits m w v) limits w ≡ v
  enter_top = rw entered (cell-put-same t₃ area Column.per_edge Column.top w v (rw same_length.2 has) (omega arith) wide)

  -- every other block hangs where it hung
  pub enter_top_old : (x : ℕ) → x < limits.edges → (w ≡ x → ⊥) → top_of (enter_block t limits m w v) limits x ≡ top_of t limits x
  unfolding t₁ t₂ t₃
  enter_top_old x h d =
      rw entered
      (cell_put_other_item t₃ area Column.top w v x d
      ∙ cell_put_other_column t₂ area Column.range w wider Column.top x wide h (λ e. omega arith)
      ∙ cell_put_other_column t₁ area Column.size w larger Column.top x wide h (λ e. omega arith)
      ∙ cell_put_other_column t area Column.name m w Column.top x room h (λ e. omega arith))

  module _ (small : m < 65536) (groups : Grouping) (e : Equivalent groups) (valid : KindValid t (edge_area limits) m groups)
      (self : name_in t (edge_area limits) w ≡ w) (joins : (x : ℕ) → x < m → groups m x ≡ eqb (name_in t (edge_area limits) x) w)
      (named : Naming (suc m) groups (names_in (enter_block t limits m w v) (edge_area limits) (suc m))) where
    with_winner : groups m w ≡ true
    with_winner = joins w known ∙ eq-eqb (name_in t area w) w self

    winner_size : larger ≡ size (suc m) groups w
    winner_size =
        mod-eq_of_lt (omega (arith, size_at_most m groups w, before))
        ∙ sym (size-one_more m groups w (group_swap groups e w m ∙ with_winner) ∙ (omega (arith, before)))
      where
        before : size_in t area w ≡ size m groups w
        before = rw self at (valid.sized w known)

    least_is : least_of wider ≡ least_of (range_in t area w)
    unfolding least_of
    least_is = rw (mod-eq_of_lt small) (digits_div (range_in t area w / 65536) small)

    greatest_is : greatest_of wider ≡ m
    unfolding greatest_of
    greatest_is = rw (mod-eq_of_lt small) (digits_mod (least_of (range_in t area w)) small)

    winner_least : least_of (range_in t area w) ≤ w
    winner_least = rw self at (valid.from_least w known)

    -- an item is in the winning block, or keeps its name and the words of its name
    data Sort (x : ℕ) : Type 0 where
      winner : name_in t' area x ≡ w → groups x w ≡ true → least_of (range_in t area w) ≤ x → Sort x
      other : x < m → name_in t' area x ≡ name_in t area x → (w ≡ name_in t area x → ⊥) → groups x m ≡ false → Sort x

    sort : (x : ℕ) → x < suc m → Sort x
    sort x h = go (below_or_last m x h)
      where
        old : x < m → (eqb (name_in t area x) w ≡ true) ⊎ (eqb (name_in t area x) w ≡ false) → Sort x
        old l (inl q) =
            let is = eqb_eq (name_in t area x) w q in
            winner (enter_name_old x l ∙ is)
            (e.transitive x m w (e.symmetric m x (joins x l ∙ q)) with_winner)
            (rw is at (valid.from_least x l))
        old l (inr q) =
            other l (enter_name_old x l) (λ d. eqb_ne (name_in t area x) w q (sym d)) (group_swap groups e x m ∙ joins x l ∙ q)

        go : (x < m) ⊎ (x ≡ m) → Sort x
        go (inl l) = old l (true_or_false (eqb (name_in t area x) w))
        go (inr q) =
            rw q (winner enter_name with_winner (omega (arith, winner_least)))

    -- the words of the blocks stay valid with the new edge
    pub kind_enter : KindValid (enter_block t limits m w v) (edge_area limits) (suc m) groups
    kind_enter =
        record {
          named = named;
          sized = λ x h. sized x (sort x h);
          from_least = λ x h. least x (sort x h);
          to_greatest = λ x h. greatest x h (sort x h);
          range_known = λ x h. ends x (sort x h);
        }
      where
        wide_name : (x : ℕ) → x < m → name_in t area x < limits.edges
        wide_name x l = omega (arith, name_known valid x l)

        sized : (x : ℕ) → Sort x → size_in t' area (name_in t' area x) ≡ size (suc m) groups x
        sized x (winner q g l) = rw q (size_is ∙ winner_size ∙ sym (size_same (suc m) groups e x w g))
        sized x (other l q d g) = rw q (size_old (name_in t area x) (wide_name x l) d ∙ valid.sized x l ∙ sym (size_others m groups x g))

        least : (x : ℕ) → Sort x → least_of (range_in t' area (name_in t' area x)) ≤ x
        least x (winner q g l) = rw (q, range_is, least_is) l
        least x (other l q d g) = rw (q, range_old (name_in t area x) (wide_name x l) d) (valid.from_least x l)

        greatest : (x : ℕ) → x < suc m → Sort x → x ≤ greatest_of (range_in t' area (name_in t' area x))
        greatest x h (winner q g l) = rw (q, range_is, greatest_is) (omega arith)
        greatest x h (other l q d g) = rw (q, range_old (name_in t area x) (wide_name x l) d) (valid.to_greatest x l)

        ends : (x : ℕ) → Sort x → greatest_of (range_in t' area (name_in t' area x)) < suc m
        ends x (winner q g l) = rw (q, range_is, greatest_is) (le_refl (suc m))
        ends x (other l q d g) = rw (q, range_old (name_in t area x) (wide_name x l) d) (omega (arith, valid.range_known x l))
