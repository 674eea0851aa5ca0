-- Linking two components, the names: which of the two keeps its name, and which vertices change theirs.
use Rattle.std.proofs.Common.{◌≡◌, ℕ, ◌<◌, ◌≤◌, Bool, true, false, cond, ◌&&◌, ◌||◌, ltb, leb, ◌⊎◌, List, [], ◌∷◌, sym, refl, ◌∙◌, ap₂, inl, inr, ⊎_elim, arith}
use mathlib.Core.Bool.{or-false}
use mathlib.Core.List.Memᴰ
use mathlib.Core.List.{Memᴰ}
use Rattle.graph.specs.Network.{Network, edge_in_duct, add_edge}
use Rattle.graph.specs.Groups.{component}
use Rattle.graph.proofs.Truth.{bool_ext, or_left, or_right, or_cases, and_left, and_right, and_both, ltb_lt, ltb_ge}
use Rattle.graph.proofs.Mates.{component_sym, component_trans}
use Rattle.graph.proofs.EdgeMore.{component_edge_more}
use Rattle.naming.proofs.Merge.{in_merged, Merges}
use Rattle.table.specs.declared.words.Area.{Area}
use Rattle.table.specs.Inside.Column
use Rattle.table.specs.Inside.Layout.{place, put, vertex_area}
use Rattle.table.specs.Inside.Merge.{Renamed, size_in, item_of, items_from, better_name, best_listed, merge_listed}
use Rattle.table.proofs.Cells.{HasColumns, length-put, cell-put-same, cell_put_other_item}
use Rattle.table.proofs.MergeKept.{ListedOutside}
use Rattle.table.proofs.MergeLaw.{MergedTo, merge_law}
use Rattle.forest.specs.Inside.Tree.{path_vertices, list_ends}
use Rattle.forest.proofs.Columns.{among, edge_columns}
use Rattle.forest.proofs.KindWords.{kind_same}
use Rattle.forest.proofs.Networks.{component_groups}
use Rattle.forest.proofs.EdgeToAdd.{EdgeToAdd, before, after, edge_stored, stored_frame}
use Rattle.forest.proofs.Frames.{Frame, ◌then◌, frame_vertex, same_components}

-- Item x is in the group of a or of b.
abbrev pub in_either : Network → ℕ → ℕ → ℕ → Bool
in_either g a b x = component g a x || (component g b x || false)

-- it is in one of the two
pub either_cases : (g : Network) (a b x : ℕ) → in_either g a b x ≡ true → (component g a x ≡ true) ⊎ (component g b x ≡ true)
either_cases g a b x q = ⊎_elim inl (λ k. inr (sym (or-false (component g b x)) ∙ k)) (or_cases (component g a x) (component g b x || false) q)

-- the two components that one edge more makes one
pub component_merges : (n : ℕ) (g : Network) (a b d : ℕ)
    → Merges n (component g) (component (add_edge g (edge_in_duct a b d))) (a ∷ b ∷ [])
unfolding edge_in_duct in_merged
component_merges n g a b d x y h k =
    component_edge_more g (edge_in_duct a b d) x y
    ∙ bool_ext
    (C x y || (C x a && C b y) || (C x b && C a y))
    (C x y || (in_either g a b x && in_either g a b y))
    (λ q. down (or_cases (C x y || (C x a && C b y)) (C x b && C a y) q))
    (λ q. up (or_cases (C x y) (in_either g a b x && in_either g a b y) q))
  where
    C : ℕ → ℕ → Bool
    C = component g

    in_a : (z : ℕ) → C a z ≡ true → in_either g a b z ≡ true
    in_a z q = or_left q (C b z || false)

    in_b : (z : ℕ) → C b z ≡ true → in_either g a b z ≡ true
    in_b z q = or_right (C a z) (or_left q false)

    within : (C x y ≡ true) ⊎ ((C x a && C b y) ≡ true) → (C x y || (in_either g a b x && in_either g a b y)) ≡ true
    within (inl q) = or_left q (in_either g a b x && in_either g a b y)
    within (inr q) =
        or_right (C x y) (and_both (in_a x (component_sym g x a (and_left (C x a) (C b y) q))) (in_b y (and_right (C x a) (C b y) q)))

    down : ((C x y || (C x a && C b y)) ≡ true) ⊎ ((C x b && C a y) ≡ true) → (C x y || (in_either g a b x && in_either g a b y)) ≡ true
    down (inl q) = within (or_cases (C x y) (C x a && C b y) q)
    down (inr q) =
        or_right (C x y) (and_both (in_b x (component_sym g x b (and_left (C x b) (C a y) q))) (in_a y (and_right (C x b) (C a y) q)))

    across : (C a x ≡ true) ⊎ (C b x ≡ true) → (C a y ≡ true) ⊎ (C b y ≡ true) → (C x y || (C x a && C b y) || (C x b && C a y)) ≡ true
    across (inl p) (inl q) = or_left (or_left (component_trans g x a y (component_sym g a x p) q) (C x a && C b y)) (C x b && C a y)
    across (inl p) (inr q) = or_left (or_right (C x y) (and_both (component_sym g a x p) q)) (C x b && C a y)
    across (inr p) (inl q) = or_right (C x y || (C x a && C b y)) (and_both (component_sym g b x p) q)
    across (inr p) (inr q) = or_left (or_left (component_trans g x b y (component_sym g b x p) q) (C x a && C b y)) (C x b && C a y)

    up : (C x y ≡ true) ⊎ ((in_either g a b x && in_either g a b y) ≡ true) → (C x y || (C x a && C b y) || (C x b && C a y)) ≡ true
    up (inl q) = or_left (or_left q (C x a && C b y)) (C x b && C a y)
    up (inr q) =
        across
        (either_cases g a b x (and_left (in_either g a b x) (in_either g a b y) q))
        (either_cases g a b y (and_right (in_either g a b x) (in_either g a b y) q))

-- the better of two names is that of a group that is no smaller
pub better_cases : (t : List ℕ) (area : Area) (p q : ℕ)
    → ((better_name t area p q ≡ p) × (size_in t area q ≤ size_in t area p)) ⊎ ((better_name t area p q ≡ q) × (size_in t area p ≤ size_in t area q))
unfolding better_name
better_cases t area p q =
    go (ltb j i) refl (ltb i j) refl (leb p q)
  where
    i : ℕ
    i = size_in t area p

    j : ℕ
    j = size_in t area q

    go : (x : Bool) → ltb j i ≡ x → (y : Bool) → ltb i j ≡ y → (z : Bool)
        → ((cond x p (cond y q (cond z p q)) ≡ p) × (j ≤ i)) ⊎ ((cond x p (cond y q (cond z p q)) ≡ q) × (i ≤ j))
    go true e y f z = inl (refl, omega (arith, ltb_lt j i e))
    go false e true f z = inr (refl, omega (arith, ltb_lt i j f))
    go false e false f true = inl (refl, ltb_ge i j f)
    go false e false f false = inr (refl, ltb_ge j i e)

module _ (new : EdgeToAdd) where
  open new use {limits, n, m, t, valid, a, b, d, a_known, b_known, differ}

  abbrev g : Network
  g = before new

  abbrev t₁ : List ℕ
  t₁ = edge_stored new

  -- The table with the two ends written down as well.
  abbrev pub ends_listed : List ℕ
  ends_listed = list_ends t₁ limits a b

  -- The merge of their two components, and the name that it keeps.
  abbrev pub merge : Renamed
  merge = merge_listed ends_listed (vertex_area limits) (path_vertices limits 2)

  abbrev pub kept_name : ℕ
  kept_name = best_listed ends_listed (vertex_area limits) (path_vertices limits 2)

  two : 2 ≤ limits.vertices
  two = omega (arith, valid.vertices_fit, differ)

  -- writing the two vertices down
  pub listed_frame : (vs es : List ℕ) → among vs Column.path_vertex ≡ true → Frame limits vs es t₁ ends_listed
  unfolding list_ends
  listed_frame vs es q =
      frame_vertex limits vs es t₁ Column.path_vertex 0 a (omega arith) (omega (arith, two)) q
      then frame_vertex limits vs es _ Column.path_vertex 1 b (omega arith) (omega (arith, two)) q

  -- both leave the words of groups and of the forest
  pub before_merge : Frame limits (Column.path_vertex ∷ []) edge_columns t ends_listed
  before_merge = stored_frame new _ _ refl then listed_frame _ _ refl

  long₁ : HasColumns t₁ (vertex_area limits) Column.per_vertex
  long₁ = omega (arith, (stored_frame new [] edge_columns refl).same_length, valid.long)

  -- the first vertex written down
  pub first_item : item_of ends_listed (path_vertices limits 2) 0 ≡ a
  unfolding path_vertices list_ends
  first_item =
      cell_put_other_item _ (vertex_area limits) Column.path_vertex 1 b 0 (λ q. omega arith)
      ∙ cell-put-same t₁ (vertex_area limits) Column.per_vertex Column.path_vertex 0 a long₁ (omega arith) (omega (arith, two))

  -- the second
  pub second_item : item_of ends_listed (path_vertices limits 2) 1 ≡ b
  unfolding path_vertices list_ends
  second_item =
      cell-put-same
      (put t₁ (vertex_area limits) Column.path_vertex 0 a)
      (vertex_area limits)
      Column.per_vertex
      Column.path_vertex
      1
      b
      (rw (length-put t₁ (vertex_area limits) Column.path_vertex 0 a) long₁)
      (omega arith)
      (omega (arith, two))

  items : items_from ends_listed (path_vertices limits 2) 0 2 ≡ a ∷ b ∷ []
  unfolding items_from
  items = ap₂ (λ x y. x ∷ y ∷ []) first_item second_item

  below : (z : ℕ) → Memᴰ z (a ∷ b ∷ []) → z < n
  below z q =
      ⊎_elim
      (λ (k : z ≡ a). rw k a_known)
      (λ (k : Memᴰ z (b ∷ [])). rw (Memᴰ.eq_of_singleton k) b_known)
      (Memᴰ.cases_cons q)

  outside : ListedOutside (vertex_area limits) (path_vertices limits 2)
  unfolding path_vertices place
  outside i h l k = omega arith

  -- what the merge of the two components leaves
  pub law : MergedTo ends_listed (vertex_area limits) n (component (before new)) (component (after new)) (a ∷ b ∷ []) kept_name merge.table merge.count
  unfolding path_vertices
  law =
      merge_law
      ends_listed
      (vertex_area limits)
      n
      (omega (arith, before_merge.same_length, valid.long))
      valid.vertices_fit
      (omega (arith, valid.vertices_fit, valid.small_vertices))
      (component g)
      _
      (component_groups g)
      (component_groups _)
      (kind_same (same_components before_merge n valid.vertices_fit refl) valid.components)
      (path_vertices limits 2)
      outside
      a
      (b ∷ [])
      items
      below
      (component_merges n g a b d)
