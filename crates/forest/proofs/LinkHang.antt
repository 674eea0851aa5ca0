-- Linking two components, the table: what raising the depths and entering the new edge as a block leaves, before the way up is turned.
use Rattle.std.proofs.Common.{◌≡◌, ℕ, suc, ◌+◌, ◌*◌, ◌%◌, ◌^◌, ◌<◌, ◌≤◌, true, false, cond, ◌⊎◌, List, [], ◌∷◌, ◌++◌, length, sym, refl, ap, ◌∙◌, mod-eq_of_lt, arith}
use Rattle.graph.specs.Below.{listed, tabulate}
use Rattle.graph.specs.Network.{Network, Edge, add_edge, touches, edge_in_duct}
use Rattle.graph.specs.Groups.{component}
use Rattle.graph.specs.Block.{block}
use Rattle.graph.proofs.EdgeMore.{block-edge_between}
use Rattle.naming.specs.Rename.{size}
use Rattle.table.specs.Inside.Column
use Rattle.table.specs.Inside.Layout.{cell, put, vertex_area, edge_area}
use Rattle.table.specs.Inside.KindValid.{names_in, KindValid}
use Rattle.table.proofs.Cells.{HasColumns, cell-put-same, cell_put_other_column, cell_put_elsewhere}
use Rattle.table.proofs.KindNames.{name_known}
use Rattle.forest.specs.Inside.Climb.{up_of, depth_of, block_of, above_edge}
use Rattle.forest.specs.Inside.Tree.{new_group, raise_from}
use Rattle.forest.proofs.Columns.{among, within, group_columns, component_columns, edge_columns}
use Rattle.forest.proofs.KindWords.{SameWords, names_same, kind_same, kind_new, names_new, new_group-name, new_group_other}
use Rattle.forest.proofs.Networks.{block_groups}
use Rattle.forest.proofs.Frames.{Frame, ◌then◌, frame_edge, frame_block, same_blocks}
use Rattle.forest.proofs.EdgeToAdd.{EdgeToAdd, edge_of, before, after, Apart, number-apart}
use Rattle.forest.proofs.Raise.{raised_frame, raised_depth}
use Rattle.forest.proofs.LinkDepth.{raised_below, kept_below, after_fits}

-- Table t₃ is the given table with the new edge stored, whose ends are the vertices u and v of two components, and with the vertices of
-- u's component written down as changed.
pub record Linking (new : EdgeToAdd) (t₃ : List ℕ) (count u v : ℕ) : Type 0 where
  pub apart : Apart new
  pub frame : Frame new.limits (component_columns ++ Column.path_vertex ∷ []) edge_columns new.t t₃
  pub changed : tabulate count (cell t₃ (vertex_area new.limits) Column.changed) ≡ listed new.n (component (before new) u)
  pub at_loser : touches (edge_of new) u ≡ true
  pub at_winner : touches (edge_of new) v ≡ true
  pub ends : (y : ℕ) → touches (edge_of new) y ≡ true → (y ≡ u) ⊎ (y ≡ v)
  pub loser_known : u < new.n
  pub winner_known : v < new.n
  pub parted : component (before new) u v ≡ false
  pub met : component (after new) u v ≡ true
  pub smaller : size new.n (component (before new)) u ≤ size new.n (component (before new)) v

module _ {new : EdgeToAdd} {t₃ : List ℕ} {count u v : ℕ} (k : Linking new t₃ count u v) where
  open new use {limits, n, m, t, valid, room}

  abbrev g : Network
  g = before new

  abbrev e : Edge
  e = edge_of new

  abbrev depth : ℕ → ℕ
  depth x = depth_of t limits x

  -- by how much the depths are raised
  abbrev pub by : ℕ
  by = suc (depth_of t limits v) + depth_of t limits u

  small : n < 65536
  small = omega (arith, valid.vertices_fit, valid.small_vertices)

  -- raised depths are below the square of the component's size
  pub raised_bound : (x : ℕ) → x < n → component g u x ≡ true
      → depth_of t limits x + by < size n (component (add_edge g e)) x * size n (component (add_edge g e)) x
  raised_bound = raised_below g e n small depth valid.forest.depth_bound u v k.loser_known k.winner_known k.parted k.met k.smaller

  -- so are those that stay
  pub kept_bound : (x : ℕ) → x < n → depth_of t limits x < size n (component (add_edge g e)) x * size n (component (add_edge g e)) x
  kept_bound = kept_below g e n small depth valid.forest.depth_bound u v k.loser_known k.winner_known k.parted k.met k.smaller

  fits : (x : ℕ) → size n (component (add_edge g e)) x * size n (component (add_edge g e)) x < 2 ^ 32
  fits = after_fits g e n small depth valid.forest.depth_bound u v k.loser_known k.winner_known k.parted k.met k.smaller

  -- raised depths fit a word
  pub raised_fits : (x : ℕ) → x < n → component g u x ≡ true → depth_of t limits x + by < 2 ^ 32
  raised_fits x h q = omega (arith, raised_bound x h q, fits x)

  -- the words that the table t₃ has from t
  pub word₃ : (c x : ℕ) → c < Column.per_vertex → x < n → among (component_columns ++ Column.path_vertex ∷ []) c ≡ false → cell t₃ (vertex_area limits) c x ≡ cell t (vertex_area limits) c x
  word₃ c x h l o = k.frame.vertex_word c x h (omega (arith, valid.vertices_fit)) o

  -- The table with the depths raised.
  unfoldable pub raised : List ℕ
  raised = raise_from count t₃ limits by 0

  -- Then with the new edge as a block by itself.
  unfoldable pub grouped : List ℕ
  grouped = new_group raised (edge_area limits) m

  -- And then with that block below v.
  unfoldable pub hung : List ℕ
  hung = put grouped (edge_area limits) Column.top m v

  long₃ : limits.vertices * Column.per_vertex + limits.edges * Column.per_edge ≤ length t₃
  long₃ = omega (arith, k.frame.same_length, valid.long)

  raise_step : (vs es : List ℕ) → among vs Column.depth ≡ true → Frame limits vs es t₃ raised
  unfolding raised
  raise_step = raised_frame limits by count n t₃ (component g u) (omega (arith, long₃)) valid.vertices_fit k.changed

  group_step : (vs es : List ℕ) → within group_columns es ≡ true → Frame limits vs es raised grouped
  unfolding grouped
  group_step vs es = frame_block limits vs es raised m room

  top_step : (vs es : List ℕ) → among es Column.top ≡ true → Frame limits vs es grouped hung
  unfolding hung
  top_step vs es = frame_edge limits vs es grouped Column.top m v (omega arith) room

  -- what is stored so far
  pub hung_frame : (vs es : List ℕ) → among vs Column.depth ≡ true → within group_columns es ≡ true → among es Column.top ≡ true
      → Frame limits vs es t₃ hung
  hung_frame vs es p q o = raise_step vs es p then group_step vs es q then top_step vs es o

  -- the depths
  raised_by : (x : ℕ) → x < n → depth_of raised limits x ≡ cond (component g u x) ((depth_of t limits x + by) % 2 ^ 32) (depth_of t limits x)
  unfolding raised
  raised_by x h =
      raised_depth limits by count n t₃ (component g u) (omega (arith, long₃)) valid.vertices_fit k.changed x h
      ∙ ap (λ j. cond (component g u x) ((j + by) % 2 ^ 32) j) (word₃ Column.depth x (omega arith) h refl)

  hung_depth : (x : ℕ) → x < n → depth_of hung limits x ≡ depth_of raised limits x
  hung_depth x h =
      (group_step [] (group_columns ++ Column.top ∷ []) refl then top_step _ _ refl).vertex_word Column.depth x (omega arith) (omega (arith, valid.vertices_fit)) refl

  -- of u's component they are raised
  pub depth_raised : (x : ℕ) → x < n → component g u x ≡ true → depth_of hung limits x ≡ depth_of t limits x + by
  depth_raised x h q =
      hung_depth x h
      ∙ raised_by x h
      ∙ ap (λ b. cond b ((depth_of t limits x + by) % 2 ^ 32) (depth_of t limits x)) q
      ∙ mod-eq_of_lt (raised_fits x h q)

  -- all others stay
  pub depth-kept : (x : ℕ) → x < n → component g u x ≡ false → depth_of hung limits x ≡ depth_of t limits x
  depth-kept x h q =
      hung_depth x h ∙ raised_by x h ∙ ap (λ b. cond b ((depth_of t limits x + by) % 2 ^ 32) (depth_of t limits x)) q

  -- the ways up stay
  pub up_kept : (x : ℕ) → x < n → up_of hung limits x ≡ up_of t limits x
  up_kept x h =
      (hung_frame (Column.depth ∷ []) (group_columns ++ Column.top ∷ []) refl refl refl).vertex_word Column.up x (omega arith) (omega (arith, valid.vertices_fit)) refl
      ∙ word₃ Column.up x (omega arith) h refl

  has_blocks : HasColumns raised (edge_area limits) Column.per_edge
  has_blocks = omega (arith, long₃, (raise_step (Column.depth ∷ []) [] refl).same_length)

  -- an old edge's block and the vertex above it stay
  old_edge : (c s : ℕ) → c < Column.per_edge → s < m → among edge_columns c ≡ false → cell hung (edge_area limits) c s ≡ cell t (edge_area limits) c s
  unfolding hung grouped
  old_edge c s h l o =
      cell_put_elsewhere grouped (edge_area limits) Column.top m v c s room l' (λ q. omega arith)
      ∙ new_group_other raised (edge_area limits) m c s room l' (λ q. omega arith)
      ∙ (raise_step (Column.depth ∷ []) [] refl).edge_word c s h l' refl
      ∙ k.frame.edge_word c s h l' o
    where
      l' : s < limits.edges
      l' = omega (arith, room)

  -- the vertex above an old edge's block stays
  pub above_kept : (s : ℕ) → s < m → above_edge hung limits s ≡ above_edge t limits s
  unfolding above_edge
  above_kept s h =
      ap (cell hung (edge_area limits) Column.top) (old_edge Column.name s (omega arith) h refl)
      ∙ old_edge Column.top (block_of t limits s) (omega arith) (name_known valid.blocks s h) refl

  -- the new edge is a block below v
  pub above_new : above_edge hung limits m ≡ v
  unfolding above_edge hung grouped
  above_new =
      ap
      (cell hung (edge_area limits) Column.top)
      (cell_put_other_column grouped (edge_area limits) Column.top m v Column.name m room room (λ q. omega arith)
      ∙ new_group-name raised (edge_area limits) m (omega (arith, has_blocks)) room)
      ∙ cell-put-same
      grouped
      (edge_area limits)
      Column.per_edge
      Column.top
      m
      v
      (omega (arith, has_blocks, (group_step [] group_columns refl).same_length))
      (omega arith)
      room

  same_before : SameWords t raised (edge_area limits) m
  same_before c s h l =
      same_blocks (raise_step (Column.depth ∷ []) [] refl) m valid.edges_fit refl c s h l
      ∙ same_blocks k.frame m valid.edges_fit refl c s h l

  same_after : SameWords grouped hung (edge_area limits) (suc m)
  same_after = same_blocks (top_step [] (Column.top ∷ []) refl) (suc m) room refl

  -- the new edge is a block alone
  pub new_alone : (s : ℕ) → s < m → block (add_edge g e) m s ≡ false
  unfolding edge_in_duct
  new_alone s h = block-edge_between g e k.apart m s ∙ number-apart new s h

  new_block : KindValid grouped (edge_area limits) (suc m) (block (add_edge g e))
  unfolding edge_in_duct grouped
  new_block =
      kind_new
      (omega (arith, has_blocks))
      room
      (omega (arith, room, valid.small_edges))
      (λ x y h l. sym (block-edge_between g e k.apart x y))
      new_alone
      (block_groups (add_edge g e))
      (kind_same same_before valid.blocks)

  -- the words of blocks are valid with the new one
  pub blocks : KindValid hung (edge_area limits) (suc m) (block (add_edge g e))
  blocks = kind_same same_after new_block

  grouped_names : names_in grouped (edge_area limits) (suc m) ≡ names_in raised (edge_area limits) m ++ m ∷ []
  unfolding grouped
  grouped_names = names_new raised (edge_area limits) m (omega (arith, has_blocks)) room

  -- and their names are the old ones and its number
  pub block-names : names_in hung (edge_area limits) (suc m) ≡ names_in t (edge_area limits) m ++ m ∷ []
  block-names =
      names_same grouped hung (edge_area limits) (suc m) same_after
      ∙ grouped_names
      ∙ ap (λ (l : List ℕ). l ++ m ∷ []) (names_same t raised (edge_area limits) m same_before)
