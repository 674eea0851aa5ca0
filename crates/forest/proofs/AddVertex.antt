-- One vertex more: the table stays valid, and its naming book is the one with the vertex entered; no mark changes.
use Rattle.std.proofs.Common.{◌≡◌, ℕ, suc, ◌*◌, ◌<◌, ◌≤◌, true, false, ◌⊎◌, List, [], ◌∷◌, ◌++◌, map, sym, refl, ap, ◌∙◌, inl, inr, ⊎_elim, le_refl, mul-pos, add-one, arith}
use Rattle.graph.specs.Network.{Network, add_vertex, edge, edge_count, touches, without, joined}
use Rattle.graph.specs.Groups.{component, bridge_block}
use Rattle.graph.specs.Block.{block, links, link, link_at, on_block}
use Rattle.graph.proofs.Truth.{ne_eqb}
use Rattle.graph.proofs.Below.{below_or_last}
use Rattle.graph.proofs.Mates.{component_swap}
use Rattle.graph.proofs.Ends.{touched_known}
use Rattle.graph.proofs.VertexMore.{component_vertex_more, bridge_block_vertex_more, block_vertex_more, component-alone, bridge_block-alone, proper_vertex_more}
use Rattle.naming.specs.Rename.{size}
use Rattle.naming.specs.Book.{enter_vertex, feed}
use Rattle.naming.specs.BridgeNames.{BridgesNamed}
use Rattle.naming.specs.State.{after_addition}
use Rattle.naming.proofs.BridgeNames.{bridges_named_vertex}
use Rattle.naming.proofs.Listed.{tabulate_same}
use Rattle.naming.proofs.Equivalent.{size_agree, size_others, size_positive}
use Rattle.numbers.specs.declared.Limits.{Limits}
use Rattle.table.specs.Inside.Column
use Rattle.table.specs.Inside.Layout.{cell, put, vertex_area, bridge_block_area, edge_area}
use Rattle.table.specs.Inside.Merge.{name_in}
use Rattle.table.specs.Inside.KindValid.{names_in, KindValid, Counts}
use Rattle.table.proofs.Cells.{HasColumns, length-put, cell-put-same, cell_put_other_column, cell_put_elsewhere, cell-bridge_block}
use Rattle.table.proofs.MergeKept.{HasKind}
use Rattle.table.proofs.KindNames.{name_known}
use Rattle.forest.specs.Inside.Climb.{up_of, depth_of, above_edge}
use Rattle.forest.specs.Inside.Tree.{new_group, new_marks, vertex_table}
use Rattle.forest.specs.Inside.Valid.{stored_edge, network_of, book_of, marked_in, HangsBelow, ForestValid, Valid}
use Rattle.forest.specs.Promise.{Holds, state_of, VertexAdded}
use Rattle.forest.proofs.Columns.{among, within, group_columns, mark_columns}
use Rattle.forest.proofs.Beyond.{frame_beyond}
use Rattle.forest.proofs.KindWords.{SameWords, names_same, kind_same, kind_agree, kind_new, names_new, new_group_other, new_group-name, counts_new}
use Rattle.forest.proofs.Networks.{component_groups, bridge_block_groups, edge_count_lem, vertex_count, book_is, state_is}
use Rattle.forest.proofs.Frames.{Frame, ◌then◌, frame_more, frame_vertex, frame_component, frame_bridge_block, same_components, same_bridge_blocks, same_blocks, same_above, same_edges}
use Rattle.forest.proofs.KeptSurveys.{same_surveys}
use Rattle.forest.proofs.MarkWords.{marked_unknown, marked_same, marked_more, marks_stored, frame_marks, marks_elsewhere, stored_marks, stored_mark}

-- one vertex more changes no edge, and no vertex is on another block
edge_vertex_more : (g : Network) (e : ℕ) → edge (add_vertex g) e ≡ edge g e
unfolding edge add_vertex
edge_vertex_more g e = refl

on_block_vertex_more : (g : Network) (e x : ℕ) → on_block (add_vertex g) e x ≡ on_block g e x
unfolding on_block block links link link_at without joined edge edge_count add_vertex
on_block_vertex_more g e x = refl

square_positive : {a : ℕ} → 1 ≤ a → 0 < a * a
square_positive {a} h = mul-pos h h

module _ (limits : Limits) (n m : ℕ) (t : List ℕ) (valid : Valid limits n m t) (room : n < limits.vertices) where
  t₁ : List ℕ
  t₁ = new_group t (vertex_area limits) n

  t₂ : List ℕ
  t₂ = new_group t₁ (bridge_block_area limits) n

  t₃ : List ℕ
  t₃ = put t₂ (vertex_area limits) Column.up n 0

  t₄ : List ℕ
  t₄ = put t₃ (vertex_area limits) Column.depth n 0

  abbrev t' : List ℕ
  t' = vertex_table t limits n

  component_step : (vs es : List ℕ) → within group_columns vs ≡ true → Frame limits vs es t t₁
  unfolding t₁
  component_step vs es = frame_component limits vs es t n room

  bridge_block_step : (vs es : List ℕ) → within (map Column.of_bridge_blocks group_columns) vs ≡ true → Frame limits vs es t₁ t₂
  unfolding t₂
  bridge_block_step vs es = frame_bridge_block limits vs es t₁ n room

  forest_step : (vs es : List ℕ) → among vs Column.up ≡ true → among vs Column.depth ≡ true → Frame limits vs es t₂ t₄
  unfolding t₃ t₄
  forest_step vs es p q =
      frame_vertex limits vs es t₂ Column.up n 0 (omega arith) room p then frame_vertex limits vs es t₃ Column.depth n 0 (omega arith) room q

  marks_stored_lem : marks_stored limits t₄ n 0 n 0 ≡ t'
  unfolding vertex_table new_marks t₁ t₂ t₃ t₄
  marks_stored_lem = refl

  marks_step : (vs es : List ℕ) → within mark_columns vs ≡ true → Frame limits vs es t₄ t'
  marks_step = rw (sym marks_stored_lem) (frame_marks limits t₄ n 0 n 0 room room)

  -- what is stored behind the groups
  abbrev other_columns : List ℕ
  other_columns = Column.up ∷ Column.depth ∷ mark_columns

  behind_groups : (vs : List ℕ) → within other_columns vs ≡ true → Frame limits vs [] t₂ t'
  behind_groups vs w = frame_more (forest_step other_columns [] refl refl then marks_step other_columns [] refl) w refl

  abbrev columns : List ℕ
  columns = group_columns ++ map Column.of_bridge_blocks group_columns ++ other_columns

  whole : Frame limits columns [] t t'
  whole =
      component_step columns [] refl then bridge_block_step columns [] refl then behind_groups columns refl

  abbrev g : Network
  g = network_of limits n m t

  network_more : network_of limits (suc n) m t' ≡ add_vertex g
  unfolding network_of add_vertex
  network_more = rw (tabulate_same m (stored_edge t' limits) (stored_edge t limits) (same_edges whole m valid.edges_fit refl))

  -- the new vertex is a component by itself
  component-apart : (x : ℕ) → x < n → component (add_vertex g) n x ≡ false
  component-apart x h =
      component_vertex_more g n x
      ∙ component-alone g valid.proper n x (omega (arith, vertex_count limits n m t))
      ∙ ne_eqb n x (λ e. omega arith)

  -- and a bridge-block by itself
  bridge_block-apart : (x : ℕ) → x < n → bridge_block (add_vertex g) n x ≡ false
  bridge_block-apart x h =
      bridge_block_vertex_more g n x
      ∙ bridge_block-alone g valid.proper n x (omega (arith, vertex_count limits n m t))
      ∙ ne_eqb n x (λ e. omega arith)

  -- components, bridge-blocks and blocks
  component_first : KindValid t₁ (vertex_area limits) (suc n) (component (add_vertex g))
  unfolding t₁
  component_first =
      kind_new
      (omega (arith, valid.long))
      room
      (omega (arith, valid.small_vertices))
      (λ x y h k. sym (component_vertex_more g x y))
      (λ x h. component-apart x h)
      (component_groups (add_vertex g))
      valid.components

  after_components : SameWords t₁ t' (vertex_area limits) (suc n)
  after_components =
      same_components
      (bridge_block_step (map Column.of_bridge_blocks group_columns ++ other_columns) [] refl then behind_groups _ refl)
      (suc n)
      room
      refl

  component-names : names_in t₁ (vertex_area limits) (suc n) ≡ names_in t (vertex_area limits) n ++ n ∷ []
  unfolding t₁
  component-names = names_new t (vertex_area limits) n (omega (arith, valid.long)) room

  components : KindValid t' (vertex_area limits) (suc n) (component (add_vertex g))
  components =
      kind_same
      after_components
      component_first

  before_bridge_blocks : SameWords t t₁ (bridge_block_area limits) n
  before_bridge_blocks =
      same_bridge_blocks (component_step group_columns [] refl) n valid.vertices_fit refl

  after_bridge_blocks : SameWords t₂ t' (bridge_block_area limits) (suc n)
  after_bridge_blocks = same_bridge_blocks (behind_groups other_columns refl) (suc n) room refl

  has_bridge_blocks : HasKind t₁ (bridge_block_area limits)
  has_bridge_blocks = omega (arith, valid.long, (component_step group_columns [] refl).same_length)

  bridge_block-names : names_in t₂ (bridge_block_area limits) (suc n) ≡ names_in t₁ (bridge_block_area limits) n ++ n ∷ []
  unfolding t₂
  bridge_block-names = names_new t₁ (bridge_block_area limits) n has_bridge_blocks room

  bridge_block_first : KindValid t₂ (bridge_block_area limits) (suc n) (bridge_block (add_vertex g))
  unfolding t₂
  bridge_block_first =
      kind_new
      has_bridge_blocks
      room
      (omega (arith, valid.small_vertices))
      (λ x y h k. sym (bridge_block_vertex_more g x y))
      bridge_block-apart
      (bridge_block_groups (add_vertex g))
      (kind_same before_bridge_blocks valid.bridge_blocks_lem)

  bridge_blocks_named : KindValid t' (bridge_block_area limits) (suc n) (bridge_block (add_vertex g))
  bridge_blocks_named =
      kind_same
      after_bridge_blocks
      bridge_block_first

  blocks : KindValid t' (edge_area limits) m (block (add_vertex g))
  blocks =
      kind_agree
      (λ x y h k. sym (block_vertex_more g x y))
      (kind_same (same_blocks whole m valid.edges_fit refl) valid.blocks)

  groups_step : Frame limits (group_columns ++ map Column.of_bridge_blocks group_columns) [] t t₂
  groups_step = component_step _ _ refl then bridge_block_step _ _ refl

  -- the words of an old vertex stay
  old_word : (c x : ℕ) → c < Column.per_vertex → x < n → among (group_columns ++ map Column.of_bridge_blocks group_columns) c ≡ false
      → cell t' (vertex_area limits) c x ≡ cell t (vertex_area limits) c x
  unfolding t₃ t₄
  old_word c x h l o =
      rw (sym marks_stored_lem) (marks_elsewhere limits t₄ n 0 n 0 room room c x (omega arith) (λ e. omega arith) (λ e. omega arith))
      ∙ cell_put_elsewhere t₃ (vertex_area limits) Column.depth n 0 c x room (omega arith) (λ e. omega arith)
      ∙ cell_put_elsewhere t₂ (vertex_area limits) Column.up n 0 c x room (omega arith) (λ e. omega arith)
      ∙ groups_step.vertex_word c x h (omega arith) o

  has : HasColumns t₂ (vertex_area limits) Column.per_vertex
  has = omega (arith, groups_step.same_length, valid.long)

  -- the new vertex is a root of depth 0
  new_up : up_of t' limits n ≡ 0
  unfolding t₃ t₄
  new_up =
      (marks_step mark_columns [] refl).vertex_word Column.up n (omega arith) room refl
      ∙ cell_put_other_column t₃ (vertex_area limits) Column.depth n 0 Column.up n room room (λ e. omega arith)
      ∙ cell-put-same t₂ (vertex_area limits) Column.per_vertex Column.up n 0 has (omega arith) room

  new_depth : depth_of t' limits n ≡ 0
  unfolding t₃ t₄
  new_depth =
      (marks_step mark_columns [] refl).vertex_word Column.depth n (omega arith) room refl
      ∙ cell-put-same t₃ (vertex_area limits) Column.per_vertex Column.depth n 0 (rw (length-put t₂ (vertex_area limits) Column.up n 0) has) (omega arith) room

  above : (e : ℕ) → e < m → above_edge t' limits e ≡ above_edge t limits e
  above e h =
      same_above whole e (omega (arith, valid.edges_fit))
      (omega (arith, valid.edges_fit, name_known valid.blocks e h)) refl refl

  old_size : (x : ℕ) → x < n → size (suc n) (component (add_vertex g)) x ≡ size n (component g) x
  old_size x h =
      size_others n (component (add_vertex g)) x (component_swap (add_vertex g) x n ∙ component-apart x h)
      ∙ size_agree n (component (add_vertex g)) (component g) x (λ y l. component_vertex_more g x y)

  up_old : (x e : ℕ) → x < suc n → up_of t' limits x ≡ suc e → (x < n) × (up_of t limits x ≡ suc e)
  up_old x e h u = go (below_or_last n x h)
    where
      go : (x < n) ⊎ (x ≡ n) → (x < n) × (up_of t limits x ≡ suc e)
      go (inl l) = (l, sym (old_word Column.up x (omega arith) l refl) ∙ u)
      go (inr q) = absurd (omega (arith, sym (ap (up_of t' limits) q) ∙ u, new_up))

  top_old : (e : ℕ) → e < m → above_edge t limits e < n
  top_old e h = valid.forest.top_known e h

  hangs : (e x : ℕ) → x < n → HangsBelow t limits g e x → HangsBelow t' limits (add_vertex g) e x
  hangs e x l b =
      record {
        by = b.by;
        is_up = old_word Column.up x (omega arith) l refl ∙ b.is_up;
        in_block = block_vertex_more g e b.by ∙ b.in_block;
      }

  forest : ForestValid t' limits (suc n) m (add_vertex g)
  unfolding network_of
  forest =
      record {
        up_known = λ x e h u. let o = up_old x e h u in valid.forest.up_known x e o.0 o.1;
        up_on = λ x e h u. let o = up_old x e h u in on_block_vertex_more g e x ∙ valid.forest.up_on x e o.0 o.1;
        top_known = λ e h. rw (above e h) (omega (arith, top_old e h));
        top_on = λ e h. rw (above e h) (on_block_vertex_more g e (above_edge t limits e) ∙ valid.forest.top_on e h);
        covers = λ e x h k. covers e x h (rw (edge_vertex_more g e) at k);
        depth_falls = λ x e h u. let o = up_old x e h u in falls x e o.0 o.1;
        depth_bound = λ x h. bound x (below_or_last n x h);
      }
    where
      covers : (e x : ℕ) → e < m → touches (edge g e) x ≡ true → (x ≡ above_edge t' limits e) ⊎ HangsBelow t' limits (add_vertex g) e x
      covers e x h k =
          ⊎_elim
          (λ q. inl (q ∙ sym (above e h)))
          (λ b. inr (hangs e x (touched_known g valid.proper e x (rw (edge_count_lem limits n m t) h) k) b))
          (valid.forest.covers e x h k)

      falls : (x e : ℕ) → x < n → up_of t limits x ≡ suc e → depth_of t' limits (above_edge t' limits e) < depth_of t' limits x
      falls x e l u =
          let h = valid.forest.up_known x e l u in
          rw
          (above e h, old_word Column.depth (above_edge t limits e) (omega arith) (top_old e h) refl, old_word Column.depth x (omega arith) l refl)
          (valid.forest.depth_falls x e l u)

      bound : (x : ℕ) → (x < n) ⊎ (x ≡ n)
          → depth_of t' limits x < size (suc n) (component (add_vertex g)) x * size (suc n) (component (add_vertex g)) x
      bound x (inl l) = rw (old_word Column.depth x (omega arith) l refl, old_size x l) (valid.forest.depth_bound x l)
      bound x (inr q) = rw (q, new_depth) (square_positive (size_positive (suc n) (component (add_vertex g)) (component_groups (add_vertex g)) n (omega arith)))

  has_marks : HasColumns t₄ (vertex_area limits) Column.per_vertex
  has_marks = rw (forest_step other_columns [] refl refl).same_length has

  -- the new vertex is not marked, and an old one is as before
  mark_word : cell t' (vertex_area limits) Column.mark n ≡ 0
  mark_word = rw (sym marks_stored_lem) (stored_mark limits t₄ n 0 n 0 room room has_marks)

  marked_after : (x : ℕ) → marked_in limits (suc n) t' x ≡ marked_in limits n t x
  marked_after x =
      marked_more limits n t' x mark_word ∙ marked_same limits n t t' x (λ h. old_word Column.mark x (omega arith) h refl)

  -- so its bridge-block has no marks, and the others have as many as before
  old_bridge_block : (x : ℕ) → x < n → name_in t' (bridge_block_area limits) x ≡ name_in t (bridge_block_area limits) x
  unfolding t₂
  old_bridge_block x h =
      after_bridge_blocks Column.name x refl (omega arith)
      ∙ new_group_other t₁ (bridge_block_area limits) n Column.name x room (omega arith) (λ e. omega arith)
      ∙ before_bridge_blocks Column.name x refl h

  new_bridge_block : name_in t' (bridge_block_area limits) n ≡ n
  unfolding t₂
  new_bridge_block =
      after_bridge_blocks Column.name n refl (omega arith)
      ∙ new_group-name t₁ (bridge_block_area limits) n has_bridge_blocks room

  old_marks : (x : ℕ) → x < n → cell t' (bridge_block_area limits) Column.mark_count x ≡ cell t (bridge_block_area limits) Column.mark_count x
  old_marks x h =
      cell-bridge_block limits t' Column.mark_count x
      ∙ old_word (Column.of_bridge_blocks Column.mark_count) x (omega arith) h refl
      ∙ sym (cell-bridge_block limits t Column.mark_count x)

  marks : Counts t' (bridge_block_area limits) (suc n) (bridge_block (add_vertex g)) Column.mark_count (marked_in limits (suc n) t')
  marks =
      counts_new
      valid.bridge_blocks_lem
      old_bridge_block
      old_marks
      new_bridge_block
      (rw (sym marks_stored_lem) (stored_marks limits t₄ n 0 n 0 room room has_marks))
      (λ x y h k. sym (bridge_block_vertex_more g x y))
      bridge_block-apart
      (λ x h. sym (marked_after x))
      (marked_after n ∙ marked_unknown limits n t n (le_refl n))
      valid.marks

  book : book_of limits (suc n) m t' ≡ enter_vertex (book_of limits n m t)
  unfolding book_of enter_vertex network_of
  book =
      book_is
      network_more
      (names_same t₁ t' (vertex_area limits) (suc n) after_components
      ∙ component-names)
      (names_same t₂ t' (bridge_block_area limits) (suc n) after_bridge_blocks
      ∙ bridge_block-names
      ∙ ap (λ (l : List ℕ). l ++ n ∷ []) (names_same t t₁ (bridge_block_area limits) n before_bridge_blocks))
      (names_same t t' (edge_area limits) m (same_blocks whole m valid.edges_fit refl))

  valid_after : Valid limits (suc n) m t'
  valid_after =
      record {
        long = rw whole.same_length valid.long;
        small_vertices = valid.small_vertices;
        small_edges = valid.small_edges;
        vertices_fit = room;
        edges_fit = valid.edges_fit;
        proper = rw network_more (proper_vertex_more g valid.proper);
        components = rw network_more components;
        bridge_blocks_lem = rw network_more bridge_blocks_named;
        marks = rw network_more marks;
        blocks = rw network_more blocks;
        forest = rw network_more forest;
      }

  -- one vertex more keeps the promise
  pub vertex_added : BridgesNamed (book_of limits n m t) → VertexAdded (record { limits = limits; vertices = n; edges = m }) t (vertex_table t limits n)
  unfolding Holds state_of after_addition feed
  vertex_added named =
      record {
        holds = rw add-one (∣ record { valid = valid_after; bridges_named = rw book (bridges_named_vertex (book_of limits n m t) named) } ∣₁);
        state_is = rw add-one (state_is book marked_after (same_surveys whole m valid.edges_fit refl));
        same_beyond = frame_beyond whole;
      }
