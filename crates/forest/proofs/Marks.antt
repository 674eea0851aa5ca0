-- Marking a vertex: the table stays valid, and holds the state with that mark. And what the words of marks tell.
use Rattle.std.proofs.Common.{◌≡◌, ℕ, suc, ◌+◌, ◌%◌, ◌^◌, ◌<◌, true, false, cond, ◌&&◌, ◌||◌, eqb, ◌⊎◌, List, [], sym, refl, ap, ◌∙◌, inl, inr, arith}
use Rattle.graph.specs.Network.{Network}
use Rattle.graph.specs.Groups.{bridge_block}
use Rattle.graph.proofs.Truth.{true_or_false, not_both, eqb_eq, eqb_ne}
use Rattle.graph.proofs.Below.{count_same}
use Rattle.naming.specs.BridgeNames.{BridgesNamed}
use Rattle.naming.specs.State.{marks_after, surveys_after, after_recording, marks_with}
use Rattle.naming.proofs.Count.{count_at_most, count_with}
use Rattle.numbers.specs.declared.Limits.{Limits}
use Rattle.table.specs.Inside.Column
use Rattle.table.specs.Inside.Layout.{cell, vertex_area, bridge_block_area}
use Rattle.table.specs.Inside.Merge.{name_in}
use Rattle.table.specs.Inside.KindValid.{passing, Counts}
use Rattle.table.proofs.Cells.{HasColumns}
use Rattle.table.proofs.KindNames.{name_known, one_name, one_group}
use Rattle.numbers.specs.declared.Shape.{Shape}
use Rattle.forest.specs.Inside.Tree.{mark_table}
use Rattle.forest.specs.Inside.Held.{sound}
use Rattle.forest.specs.Inside.Valid.{network_of, book_of, marked_in, Valid}
use Rattle.forest.specs.Promise.{Holds, state_of, VertexMarked}
use Rattle.forest.proofs.Columns.{mark_columns}
use Rattle.forest.proofs.Beyond.{frame_beyond}
use Rattle.forest.proofs.Networks.{SameEdges, state_is}
use Rattle.forest.proofs.Frames.{Frame, frame_more, same_bridge_blocks, same_edges}
use Rattle.forest.proofs.MarkWords.{marked_known, marked_same, marks_stored, frame_marks, other_marks, other_mark, stored_marks, stored_mark}
use Rattle.forest.proofs.KeptSurveys.{same_surveys}
use Rattle.forest.proofs.ValidFrame.{valid_with_marks, same_book}

module _ (limits : Limits) (n m : ℕ) (t : List ℕ) (valid : Valid limits n m t) (x : ℕ) (known : x < n)
    (fresh : marked_in limits n t x ≡ false) where
  abbrev g : Network
  g = network_of limits n m t

  -- the name of its bridge-block, and the marks that this has
  abbrev w : ℕ
  w = name_in t (bridge_block_area limits) x

  abbrev k : ℕ
  k = cell t (bridge_block_area limits) Column.mark_count w

  abbrev t' : List ℕ
  t' = mark_table t limits x

  name_fits : w < limits.vertices
  name_fits = omega (arith, name_known valid.bridge_blocks_lem x known, valid.vertices_fit)

  vertex_fits : x < limits.vertices
  vertex_fits = omega (arith, valid.vertices_fit)

  has : HasColumns t (vertex_area limits) Column.per_vertex
  has = omega (arith, valid.long)

  -- a bridge-block has at most as many marks as there are vertices, so one more does not wrap
  no_wrap : (k + 1) % 2 ^ 32 ≡ suc k
  no_wrap =
      omega (
        arith,
        valid.marks.counted x known,
        count_at_most n (λ y. bridge_block g x y && marked_in limits n t y),
        valid.vertices_fit,
        valid.small_vertices,
      )

  stored : marks_stored limits t w (suc k) x 1 ≡ t'
  unfolding mark_table
  stored = rw no_wrap

  frame : Frame limits mark_columns [] t t'
  frame = rw (sym stored) (frame_marks limits t w (suc k) x 1 name_fits vertex_fits mark_columns [] refl)

  -- this vertex is marked, and every other as before
  marked_after : (y : ℕ) → marked_in limits n t' y ≡ (eqb y x || marked_in limits n t y)
  marked_after y = go (true_or_false (eqb y x))
    where
      this_word : cell t' (vertex_area limits) Column.mark x ≡ 1
      this_word = rw (sym stored) (stored_mark limits t w (suc k) x 1 name_fits vertex_fits has)

      other_word : (x ≡ y → ⊥) → y < n → cell t' (vertex_area limits) Column.mark y ≡ cell t (vertex_area limits) Column.mark y
      other_word d l =
          rw (sym stored) (other_mark limits t w (suc k) x 1 name_fits vertex_fits y (omega (arith, valid.vertices_fit)) d)

      go : (eqb y x ≡ true) ⊎ (eqb y x ≡ false) → marked_in limits n t' y ≡ (eqb y x || marked_in limits n t y)
      go (inl e) = rw (e, eqb_eq y x e) (marked_known limits n t' x known ∙ ap (λ (v : ℕ). eqb v 1) this_word)
      go (inr e) = rw e (marked_same limits n t t' y (other_word (λ q. eqb_ne y x e (sym q))))

  -- the name of a vertex's bridge-block, and how many marked vertices that had
  abbrev name : ℕ → ℕ
  name z = name_in t (bridge_block_area limits) z

  abbrev old : ℕ → ℕ
  old z = passing n (bridge_block g) (marked_in limits n t) z

  -- the bridge-block of the new mark has one mark more, and every other as many as before
  marks_at : (z : ℕ) → z < n → cell t' (bridge_block_area limits) Column.mark_count (name z) ≡ cond (bridge_block g z x) (suc (old z)) (old z)
  marks_at z h = go (true_or_false (bridge_block g z x))
    where
      this_word : cell t' (bridge_block_area limits) Column.mark_count w ≡ suc k
      this_word = rw (sym stored) (stored_marks limits t w (suc k) x 1 name_fits vertex_fits has)

      fits : name z < limits.vertices
      fits = omega (arith, name_known valid.bridge_blocks_lem z h, valid.vertices_fit)

      other_word : (w ≡ name z → ⊥)
          → cell t' (bridge_block_area limits) Column.mark_count (name z) ≡ cell t (bridge_block_area limits) Column.mark_count (name z)
      other_word d = rw (sym stored) (other_marks limits t w (suc k) x 1 name_fits vertex_fits (name z) fits d)

      go : (bridge_block g z x ≡ true) ⊎ (bridge_block g z x ≡ false)
          → cell t' (bridge_block_area limits) Column.mark_count (name z) ≡ cond (bridge_block g z x) (suc (old z)) (old z)
      go (inl b) =
          let same : name z ≡ w = one_name valid.bridge_blocks_lem z x h known b in
          rw b
          (ap (cell t' (bridge_block_area limits) Column.mark_count) same
          ∙ this_word
          ∙ ap (λ (v : ℕ). suc (cell t (bridge_block_area limits) Column.mark_count v)) (sym same)
          ∙ ap suc (valid.marks.counted z h))
      go (inr b) =
          rw b
          (other_word (λ q. not_both (one_group valid.bridge_blocks_lem z x h known (sym q)) b)
          ∙ valid.marks.counted z h)

  marks : Counts t' (bridge_block_area limits) n (bridge_block g) Column.mark_count (marked_in limits n t')
  marks =
      record {
        added_up = omega arith;
        of_kind = omega arith;
        counted = λ z h.
            ap (cell t' (bridge_block_area limits) Column.mark_count) (same_bridge_blocks frame n valid.vertices_fit refl Column.name z refl h)
            ∙ marks_at z h
            ∙ sym (count_with n (bridge_block g z) (marked_in limits n t) x known fresh)
            ∙ count_same n _ _ (λ y l. ap (λ b. bridge_block g z y && b) (sym (marked_after y)));
      }

  edges : SameEdges limits m t t'
  edges = same_edges frame m valid.edges_fit refl

  book : book_of limits n m t' ≡ book_of limits n m t
  book = same_book valid (frame_more frame refl refl) edges

  -- marking the vertex keeps the promise
  pub vertex_marked : BridgesNamed (book_of limits n m t) → VertexMarked (record { limits = limits; vertices = n; edges = m }) x t (mark_table t limits x)
  unfolding Holds state_of after_recording marks_after surveys_after
  vertex_marked named =
      record {
        holds = ∣ record { valid = valid_with_marks valid (frame_more frame refl refl) edges marks; bridges_named = rw book named } ∣₁;
        state_is = state_is book marked_after (same_surveys frame m valid.edges_fit refl);
        same_beyond = frame_beyond frame;
      }

-- the marks that a vertex's bridge-block has, by its name, are those of the vertices in it
pub marks_are : (shape : Shape) (t : List ℕ) → Holds shape t → (x : ℕ) → x < shape.vertices
    → cell t (bridge_block_area shape.limits) Column.mark_count (name_in t (bridge_block_area shape.limits) x) ≡ marks_with (state_of shape t) x
unfolding Holds state_of book_of network_of marks_with
marks_are shape t holds x h = (sound holds).valid.marks.counted x h

-- a vertex is marked if its word is 1
pub marked_is : (shape : Shape) (t : List ℕ) (x : ℕ) → x < shape.vertices
    → eqb (cell t (vertex_area shape.limits) Column.mark x) 1 ≡ (state_of shape t).marked x
unfolding state_of
marked_is shape t x h = sym (marked_known shape.limits shape.vertices t x h)
