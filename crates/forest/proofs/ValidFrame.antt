-- A table stays valid where no word that matters changes; where only the words of a path change, it also holds the same state.
use Rattle.std.proofs.Common.{◌≡◌, ℕ, ◌<◌, List, [], ◌∷◌, ◌++◌, sym, refl, ◌∙◌, inl, inr, ⊎_elim, arith}
use Rattle.graph.specs.Below.{tabulate}
use Rattle.graph.specs.Network.{Network}
use Rattle.graph.specs.Groups.{bridge_block}
use Rattle.graph.proofs.Ends.{touched_known}
use Rattle.numbers.specs.declared.Limits.{Limits}
use Rattle.table.specs.Inside.Column
use Rattle.table.specs.Inside.Layout.{vertex_area, bridge_block_area, edge_area}
use Rattle.table.specs.Inside.KindValid.{Counts}
use Rattle.table.proofs.KindNames.{name_known}
use Rattle.forest.specs.Inside.Climb.{up_of, depth_of, above_edge}
use Rattle.forest.specs.Inside.Held.{sound}
use Rattle.forest.specs.Inside.Valid.{network_of, book_of, marked_in, HangsBelow, ForestValid, Valid}
use Rattle.numbers.specs.declared.Shape.{Shape}
use Rattle.forest.specs.Promise.{Holds, state_of, ListWritten}
use Rattle.forest.proofs.Columns.{scratch, mark_columns, edge_columns}
use Rattle.forest.proofs.KindWords.{names_same, kind_same, counts_same}
use Rattle.forest.proofs.Networks.{SameEdges, edge_count_lem, network-same, book_is, state_is}
use Rattle.forest.proofs.Frames.{Frame, frame_more, same_components, same_bridge_blocks, same_blocks, same_above, same_edges}
use Rattle.forest.proofs.MarkWords.{same_marks, same_marked}
use Rattle.forest.proofs.KeptSurveys.{same_surveys}
use Rattle.forest.proofs.ClimbTable.{Scratched}
use Rattle.forest.proofs.Beyond.{frame_beyond}

-- Only scratch columns and those of marks and surveys change, and the words of edges that are not entered yet.
module _ {limits : Limits} {n m : ℕ} {t t' : List ℕ} (valid : Valid limits n m t)
    (f : Frame limits (mark_columns ++ Column.changed ∷ Column.of_bridge_blocks Column.changed ∷ scratch)
    (Column.changed ∷ Column.survey ∷ edge_columns) t t')
    (edges : SameEdges limits m t t') where
  abbrev g : Network
  g = network_of limits n m t

  same-network : network_of limits n m t' ≡ network_of limits n m t
  same-network = network-same limits n m t t' edges

  known : (x : ℕ) → x < n → x < limits.vertices
  known x h = omega (arith, valid.vertices_fit)

  up_same : (x : ℕ) → x < n → up_of t' limits x ≡ up_of t limits x
  up_same x h = f.vertex_word Column.up x (omega arith) (known x h) refl

  depth_same : (x : ℕ) → x < n → depth_of t' limits x ≡ depth_of t limits x
  depth_same x h = f.vertex_word Column.depth x (omega arith) (known x h) refl

  above_same : (e : ℕ) → e < m → above_edge t' limits e ≡ above_edge t limits e
  above_same e h =
      same_above f e (omega (arith, valid.edges_fit)) (omega (arith, valid.edges_fit, name_known valid.blocks e h)) refl refl

  hangs : (e x : ℕ) → x < n → HangsBelow t limits g e x → HangsBelow t' limits g e x
  hangs e x h b = record { by = b.by; is_up = up_same x h ∙ b.is_up; in_block = b.in_block }

  forest_kept : ForestValid t' limits n m (network_of limits n m t)
  unfolding network_of
  forest_kept =
      record {
        up_known = λ x e h u. o.up_known x e h (sym (up_same x h) ∙ u);
        up_on = λ x e h u. o.up_on x e h (sym (up_same x h) ∙ u);
        top_known = λ e h. rw (above_same e h) (o.top_known e h);
        top_on = λ e h. rw (above_same e h) (o.top_on e h);
        covers = λ e x h k.
            ⊎_elim
            (λ q. inl (q ∙ sym (above_same e h)))
            (λ b. inr (hangs e x (touched_known g valid.proper e x (rw (edge_count_lem limits n m t) h) k) b))
            (o.covers e x h k);
        depth_falls = λ x e h u.
            let u' = sym (up_same x h) ∙ u in
            let k = o.up_known x e h u' in
            rw (above_same e k, depth_same (above_edge t limits e) (o.top_known e k), depth_same x h) (o.depth_falls x e h u');
        depth_bound = λ x h. rw (depth_same x h) (o.depth_bound x h);
      }
    where
      o : ForestValid t limits n m g
      o = valid.forest

  -- then a table stays valid if it counts its marks
  pub valid_with_marks : Counts t' (bridge_block_area limits) n (bridge_block g) Column.mark_count (marked_in limits n t') → Valid limits n m t'
  valid_with_marks marks =
      record {
        long = rw f.same_length valid.long;
        small_vertices = valid.small_vertices;
        small_edges = valid.small_edges;
        vertices_fit = valid.vertices_fit;
        edges_fit = valid.edges_fit;
        proper = rw same-network valid.proper;
        components = rw same-network (kind_same (same_components f n valid.vertices_fit refl) valid.components);
        bridge_blocks_lem = rw same-network (kind_same (same_bridge_blocks f n valid.vertices_fit refl) valid.bridge_blocks_lem);
        marks = rw same-network marks;
        blocks = rw same-network (kind_same (same_blocks f m valid.edges_fit refl) valid.blocks);
        forest = rw same-network forest_kept;
      }

  -- and holds the same book
  pub same_book : book_of limits n m t' ≡ book_of limits n m t
  unfolding book_of
  same_book =
      book_is
      same-network
      (names_same t t' (vertex_area limits) n (same_components f n valid.vertices_fit refl))
      (names_same t t' (bridge_block_area limits) n (same_bridge_blocks f n valid.vertices_fit refl))
      (names_same t t' (edge_area limits) m (same_blocks f m valid.edges_fit refl))

-- Only scratch columns and those of surveys change, and the words of edges that are not entered yet: a table stays valid.
pub valid_kept : {limits : Limits} {n m : ℕ} {t t' : List ℕ} → Valid limits n m t
    → Frame limits (Column.changed ∷ Column.of_bridge_blocks Column.changed ∷ scratch) (Column.changed ∷ Column.survey ∷ edge_columns) t t'
    → SameEdges limits m t t'
    → Valid limits n m t'
valid_kept {limits} {n} {m} {t} {t'} valid f edges =
    valid_with_marks valid (frame_more f refl refl) edges
    (counts_same
    valid.bridge_blocks_lem
    (same_bridge_blocks f n valid.vertices_fit refl)
    (same_marks f n valid.vertices_fit refl)
    (λ x y h k. refl)
    (λ x h. sym (same_marked f n valid.vertices_fit refl x))
    valid.marks)

-- Only scratch words change: those of a path, and those of changed edges.
abbrev pub ScratchOnly : Limits → List ℕ → List ℕ → Type 0
ScratchOnly limits t t' = Frame limits scratch (Column.changed ∷ []) t t'

pub path_only : {limits : Limits} {t t' : List ℕ} → Scratched limits t t' → ScratchOnly limits t t'
path_only f = frame_more f refl refl

module _ {limits : Limits} {n m : ℕ} {t t' : List ℕ} (valid : Valid limits n m t) (f : ScratchOnly limits t t') where
  edges_kept : SameEdges limits m t t'
  edges_kept = same_edges f m valid.edges_fit refl

  -- the network is the same
  pub frame_network : network_of limits n m t' ≡ network_of limits n m t
  frame_network = network-same limits n m t t' edges_kept

  -- the other table is valid too
  pub frame_valid : Valid limits n m t'
  frame_valid = valid_kept valid (frame_more f refl refl) edges_kept

  -- and holds the same book
  pub frame_book : book_of limits n m t' ≡ book_of limits n m t
  frame_book = same_book valid (frame_more f refl refl) edges_kept

-- Of a shape: what the table holds is as before.
module _ (shape : Shape) {t t' : List ℕ} (holds : Holds shape t) (f : ScratchOnly shape.limits t t') where
  pub scratch_holds : Holds shape t'
  unfolding Holds
  scratch_holds =
      let s = sound holds in
      ∣ record { valid = frame_valid s.valid f; bridges_named = rw (frame_book s.valid f) s.bridges_named } ∣₁

  pub scratch_state : state_of shape t' ≡ state_of shape t
  unfolding Holds state_of
  scratch_state =
      let valid = (sound holds).valid in
      state_is
      (frame_book valid f)
      (same_marked f shape.vertices valid.vertices_fit refl)
      (same_surveys f shape.edges valid.edges_fit refl)

  -- so a list is written down there
  pub list_written : (at : ℕ → ℕ) (count : ℕ) (list : List ℕ) → tabulate count at ≡ list → ListWritten shape t t' at count list
  list_written at count list e =
      record { holds = scratch_holds; state_is = scratch_state; is_list = e; same_beyond = frame_beyond f }
