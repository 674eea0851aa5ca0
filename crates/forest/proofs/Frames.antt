-- Tables that differ in some columns only.
use Rattle.std.proofs.Common.{◌≡◌, ℕ, ◌+◌, ◌*◌, ◌/◌, ◌%◌, ◌<◌, ◌≤◌, true, false, List, map, length, get_or, sym, refl, ap, ◌∙◌, ap₂, mul-le-mul_right, arith}
use Rattle.graph.specs.Network.{edge_in_duct}
use Rattle.numbers.specs.declared.Limits.{Limits}
use Rattle.table.specs.Inside.Column
use Rattle.table.specs.Inside.Layout.{place, cell, put, vertex_area, bridge_block_area, edge_area}
use Rattle.table.proofs.Cells.{length-put, cell_put_other_column, get_or-put_outside, cell_edge_after_vertex, cell_vertex_after_edge, cell-bridge_block, put-bridge_block}
use Rattle.table.proofs.MergeKept.{Kept}
use Rattle.forest.specs.Inside.Climb.{block_of, above_edge}
use Rattle.forest.specs.Inside.Tree.{new_group}
use Rattle.forest.specs.Inside.Valid.{stored_edge}
use Rattle.forest.proofs.Columns.{among, within, apart, group_columns, component_columns, edge_columns, other_column, outside_less, behind_columns, each_among, within_among, apart_among, among_map}
use Rattle.forest.proofs.KindWords.{SameWords}
use Rattle.forest.proofs.Networks.{SameEdges}

-- The second table has the words of the first, but for the listed columns of vertices and of edges.
pub record Frame (limits : Limits) (vs es : List ℕ) (t t' : List ℕ) : Type 0 where
  pub same_length : length t' ≡ length t
  pub vertex_word : (c x : ℕ) → c < Column.per_vertex → x < limits.vertices → among vs c ≡ false
      → cell t' (vertex_area limits) c x ≡ cell t (vertex_area limits) c x
  pub edge_word : (d s : ℕ) → d < Column.per_edge → s < limits.edges → among es d ≡ false
      → cell t' (edge_area limits) d s ≡ cell t (edge_area limits) d s
  pub beyond : (p : ℕ) → limits.vertices * Column.per_vertex + limits.edges * Column.per_edge ≤ p → get_or t' p 0 ≡ get_or t p 0

module _ {limits : Limits} {vs es : List ℕ} where
  -- nothing stored
  pub frame_none : {t : List ℕ} → Frame limits vs es t t
  frame_none =
      record {
        same_length = refl;
        vertex_word = λ c x h l o. refl;
        edge_word = λ d s h l o. refl;
        beyond = λ p h. refl;
      }

  infixl 60 ◌then◌
  -- one after another
  pub ◌then◌ : {t t' t'' : List ℕ} → Frame limits vs es t t' → Frame limits vs es t' t'' → Frame limits vs es t t''
  ◌then◌ f g =
      record {
        same_length = g.same_length ∙ f.same_length;
        vertex_word = λ c x h l o. g.vertex_word c x h l o ∙ f.vertex_word c x h l o;
        edge_word = λ d s h l o. g.edge_word d s h l o ∙ f.edge_word d s h l o;
        beyond = λ p h. g.beyond p h ∙ f.beyond p h;
      }

-- a frame of some columns is one of more
pub frame_more : {limits : Limits} {vs es vs' es' : List ℕ} {t t' : List ℕ} → Frame limits vs es t t'
    → within vs vs' ≡ true → within es es' ≡ true → Frame limits vs' es' t t'
frame_more {limits} {vs} {es} {vs'} {es'} f p q =
    record {
      same_length = f.same_length;
      vertex_word = λ c x h l o. f.vertex_word c x h l (outside_less vs vs' c p o);
      edge_word = λ d s h l o. f.edge_word d s h l (outside_less es es' d q o);
      beyond = f.beyond;
    }

-- a word stored for a vertex
pub frame_vertex : (limits : Limits) (vs es : List ℕ) (t : List ℕ) (c x v : ℕ) → c < Column.per_vertex → x < limits.vertices → among vs c ≡ true
    → Frame limits vs es t (put t (vertex_area limits) c x v)
frame_vertex limits vs es t c x v h l m =
    record {
      same_length = length-put t (vertex_area limits) c x v;
      vertex_word = λ d y k i o. cell_put_other_column t (vertex_area limits) c x v d y l i (other_column vs c d m o);
      edge_word = λ d s k i o. cell_edge_after_vertex limits t c x v d s h l;
      beyond = λ p k.
          get_or-put_outside t (vertex_area limits) Column.per_vertex c x v p h l (λ i j. omega arith);
    }

-- a word stored for an edge
pub frame_edge : (limits : Limits) (vs es : List ℕ) (t : List ℕ) (d s v : ℕ) → d < Column.per_edge → s < limits.edges → among es d ≡ true
    → Frame limits vs es t (put t (edge_area limits) d s v)
frame_edge limits vs es t d s v h l m =
    record {
      same_length = length-put t (edge_area limits) d s v;
      vertex_word = λ c x k i o. cell_vertex_after_edge limits t d s v c x k i;
      edge_word = λ c y k i o. cell_put_other_column t (edge_area limits) d s v c y l i (other_column es d c m o);
      beyond = λ p k.
          get_or-put_outside t (edge_area limits) Column.per_edge d s v p h l (λ i j. omega arith);
    }

-- a new component of one vertex
pub frame_component : (limits : Limits) (vs es : List ℕ) (t : List ℕ) (x : ℕ) → x < limits.vertices
    → within group_columns vs ≡ true
    → Frame limits vs es t (new_group t (vertex_area limits) x)
unfolding new_group
frame_component limits vs es t x l w =
    word t Column.name x (omega arith) refl then word _ Column.size 1 (omega arith) refl then word _ Column.range _ (omega arith) refl
  where
    word : (t : List ℕ) (c v : ℕ) → c < Column.per_vertex → among group_columns c ≡ true → Frame limits vs es t (put t (vertex_area limits) c x v)
    word t c v h m = frame_vertex limits vs es t c x v h l (within_among group_columns vs w c m)

-- a new bridge-block of one vertex
pub frame_bridge_block : (limits : Limits) (vs es : List ℕ) (t : List ℕ) (x : ℕ) → x < limits.vertices
    → within (map Column.of_bridge_blocks group_columns) vs ≡ true
    → Frame limits vs es t (new_group t (bridge_block_area limits) x)
unfolding new_group
frame_bridge_block limits vs es t x l w =
    word t Column.name x (omega arith) refl then word _ Column.size 1 (omega arith) refl then word _ Column.range _ (omega arith) refl
  where
    word : (t : List ℕ) (c v : ℕ) → Column.of_bridge_blocks c < Column.per_vertex → among group_columns c ≡ true
        → Frame limits vs es t (put t (bridge_block_area limits) c x v)
    word t c v h m =
        rw (put-bridge_block limits t c x v)
        (frame_vertex limits vs es t (Column.of_bridge_blocks c) x v h l
        (within_among (map Column.of_bridge_blocks group_columns) vs w (Column.of_bridge_blocks c) (among_map Column.of_bridge_blocks group_columns c m)))

-- a new block of one edge
pub frame_block : (limits : Limits) (vs es : List ℕ) (t : List ℕ) (s : ℕ) → s < limits.edges
    → within group_columns es ≡ true
    → Frame limits vs es t (new_group t (edge_area limits) s)
unfolding new_group
frame_block limits vs es t s l w =
    word t Column.name s (omega arith) refl then word _ Column.size 1 (omega arith) refl then word _ Column.range _ (omega arith) refl
  where
    word : (t : List ℕ) (c v : ℕ) → c < Column.per_edge → among group_columns c ≡ true → Frame limits vs es t (put t (edge_area limits) c s v)
    word t c v h m = frame_edge limits vs es t c s v h l (within_among group_columns es w c m)

-- a merge of components stores in their columns alone
pub frame_merge : (limits : Limits) (vs es : List ℕ) (t t' : List ℕ) → Kept (vertex_area limits) t t'
    → within component_columns vs ≡ true
    → Frame limits vs es t t'
unfolding cell place
frame_merge limits vs es t t' k w =
    record {
      same_length = k.same_length;
      vertex_word = λ c x h l o. k.outside _ (λ i j. omega (arith, mul-le-mul_right limits.vertices (behind c o)));
      edge_word = λ d y h l o. k.outside _ (λ i j. omega arith);
      beyond = λ z h. k.outside z (λ i j. omega arith);
    }
  where
    behind : (c : ℕ) → among vs c ≡ false → Column.per_component ≤ c
    behind c o = behind_columns 0 Column.per_component c (outside_less component_columns vs c w o) (omega arith)

module _ {limits : Limits} {vs es : List ℕ} {t t' : List ℕ} (f : Frame limits vs es t t') where
  -- components keep their words where their columns are not listed
  pub same_components : (n : ℕ) → n ≤ limits.vertices → apart group_columns vs ≡ true
      → SameWords t t' (vertex_area limits) n
  same_components n h a c x l k =
      f.vertex_word c x (each_among (λ c. c < Column.per_vertex) group_columns (omega arith) c l) (omega arith) (apart_among group_columns vs a c l)

  -- so do bridge-blocks
  pub same_bridge_blocks : (n : ℕ) → n ≤ limits.vertices → apart (map Column.of_bridge_blocks group_columns) vs ≡ true
      → SameWords t t' (bridge_block_area limits) n
  same_bridge_blocks n h a c x l k =
      cell-bridge_block limits t' c x
      ∙ f.vertex_word (Column.of_bridge_blocks c) x
      (each_among (λ c. Column.of_bridge_blocks c < Column.per_vertex) group_columns (omega arith) c l)
      (omega arith)
      (apart_among (map Column.of_bridge_blocks group_columns) vs a (Column.of_bridge_blocks c) (among_map Column.of_bridge_blocks group_columns c l))
      ∙ sym (cell-bridge_block limits t c x)

  -- and blocks
  pub same_blocks : (m : ℕ) → m ≤ limits.edges → apart group_columns es ≡ true
      → SameWords t t' (edge_area limits) m
  same_blocks m h a c x l k =
      f.edge_word c x (each_among (λ c. c < Column.per_edge) group_columns (omega arith) c l) (omega arith) (apart_among group_columns es a c l)

  -- the vertex above an edge's block stays
  pub same_above : (e : ℕ) → e < limits.edges → block_of t limits e < limits.edges → among es Column.name ≡ false → among es Column.top ≡ false
      → above_edge t' limits e ≡ above_edge t limits e
  unfolding above_edge
  same_above e h l p q =
      ap (cell t' (edge_area limits) Column.top) (f.edge_word Column.name e (omega arith) h p)
      ∙ f.edge_word Column.top (block_of t limits e) (omega arith) l q

  -- the edges stay
  pub same_edges : (m : ℕ) → m ≤ limits.edges → apart edge_columns es ≡ true → SameEdges limits m t t'
  unfolding stored_edge
  same_edges m h a s k =
      ap₂ (λ (e d : ℕ). edge_in_duct (e / 65536) (e % 65536) (d % 65536))
      (word Column.ends (omega arith) refl)
      (word Column.duct (omega arith) refl)
    where
      word : (d : ℕ) → d < Column.per_edge → among edge_columns d ≡ true → cell t' (edge_area limits) d s ≡ cell t (edge_area limits) d s
      word d l i = f.edge_word d s l (omega arith) (apart_among edge_columns es a d i)
