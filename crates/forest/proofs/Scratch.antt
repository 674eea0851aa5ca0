-- A store into a scratch word keeps all that the table holds, and every other scratch word.
use Rattle.std.proofs.Common.{◌≡◌, ℕ, zero, suc, ◌+◌, ◌*◌, ◌<◌, ◌≤◌, true, false, eqb, ◌⊎◌, List, [], ◌∷◌, length, sym, refl, inl, inr, arith}
use Rattle.graph.proofs.Truth.{true_or_false, eqb_eq, eqb_ne}
use Rattle.numbers.specs.declared.Limits.{Limits}
use Rattle.table.specs.Inside.Column
use Rattle.table.specs.Inside.Layout.{cell, put, vertex_area, edge_area}
use Rattle.table.proofs.Cells.{cell-put-same, cell_put_other_column, cell_put_other_item, cell_edge_after_vertex, cell_vertex_after_edge}
use Rattle.numbers.specs.declared.Shape.{Shape}
use Rattle.forest.specs.Inside.Held.{sound}
use Rattle.forest.specs.Promise.{scratch_words, Holds, vertex_scratch, edge_scratch, VertexScratchStored, EdgeScratchStored}
use Rattle.forest.proofs.Columns.{among, scratch}
use Rattle.forest.proofs.Beyond.{frame_beyond}
use Rattle.forest.proofs.Frames.{frame_vertex, frame_edge}
use Rattle.forest.proofs.ValidFrame.{ScratchOnly, scratch_holds, scratch_state}

-- the scratch words of a vertex stand in the scratch columns
scratch_column : (k : ℕ) → k < scratch_words → among scratch (Column.path_vertex + k) ≡ true
scratch_column zero h = refl
scratch_column (suc zero) h = refl
scratch_column (suc (suc zero)) h = refl
scratch_column (suc (suc (suc zero))) h = refl
scratch_column (suc (suc (suc (suc k)))) h = absurd (omega arith)

-- a table of a shape is long enough
long_enough : (shape : Shape) (t : List ℕ) → Holds shape t → shape.limits.vertices * Column.per_vertex + shape.limits.edges * Column.per_edge ≤ length t
unfolding Holds
long_enough shape t holds = (sound holds).valid.long

module _ (shape : Shape) (t : List ℕ) (holds : Holds shape t) where
  abbrev limits : Limits
  limits = shape.limits

  pub vertex_scratch_stored : (k x v : ℕ) → k < scratch_words → x < limits.vertices
      → VertexScratchStored shape k x v t (put t (vertex_area limits) (Column.path_vertex + k) x v)
  unfolding vertex_scratch edge_scratch
  vertex_scratch_stored k x v h l =
      record {
        holds = scratch_holds shape holds frame;
        state_is = scratch_state shape holds frame;
        stored = cell-put-same t (vertex_area limits) Column.per_vertex (Column.path_vertex + k) x v (omega (arith, long_enough shape t holds)) (omega arith) l;
        other_words = λ j y i m d. other j y m d (true_or_false (eqb j k));
        edge_words = λ s i. cell_edge_after_vertex limits t (Column.path_vertex + k) x v Column.changed s (omega arith) l;
        same_beyond = frame_beyond frame;
      }
    where
      frame : ScratchOnly limits t (put t (vertex_area limits) (Column.path_vertex + k) x v)
      frame = frame_vertex limits scratch (Column.changed ∷ []) t (Column.path_vertex + k) x v (omega arith) l (scratch_column k h)

      other : (j y : ℕ) → y < limits.vertices → (j ≡ k → y ≡ x → ⊥) → (eqb j k ≡ true) ⊎ (eqb j k ≡ false)
          → cell (put t (vertex_area limits) (Column.path_vertex + k) x v) (vertex_area limits) (Column.path_vertex + j) y ≡ cell t (vertex_area limits) (Column.path_vertex + j) y
      other j y m d (inl e) =
          let same : j ≡ k = eqb_eq j k e in
          rw same (cell_put_other_item t (vertex_area limits) (Column.path_vertex + k) x v y (λ q. d same (sym q)))
      other j y m d (inr e) =
          cell_put_other_column t (vertex_area limits) (Column.path_vertex + k) x v (Column.path_vertex + j) y l m (λ q. eqb_ne j k e (omega arith))

  pub edge_scratch_stored : (s v : ℕ) → s < limits.edges → EdgeScratchStored shape s v t (put t (edge_area limits) Column.changed s v)
  unfolding vertex_scratch edge_scratch
  edge_scratch_stored s v l =
      record {
        holds = scratch_holds shape holds frame;
        state_is = scratch_state shape holds frame;
        stored = cell-put-same t (edge_area limits) Column.per_edge Column.changed s v (omega (arith, long_enough shape t holds)) (omega arith) l;
        other_words = λ r i d. cell_put_other_item t (edge_area limits) Column.changed s v r (λ q. d (sym q));
        vertex_words = λ j y i m. cell_vertex_after_edge limits t Column.changed s v (Column.path_vertex + j) y (omega arith) m;
        same_beyond = frame_beyond frame;
      }
    where
      frame : ScratchOnly limits t (put t (edge_area limits) Column.changed s v)
      frame = frame_edge limits scratch (Column.changed ∷ []) t Column.changed s v (omega arith) l refl
