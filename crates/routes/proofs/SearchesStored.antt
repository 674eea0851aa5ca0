-- Stores into the two columns of a search: the goal alone is reached, and then one vertex more.
use mathlib.Core.Bool.{cond}
use mathlib.Core.List.{List}
use mathlib.Core.Path.{◌≡◌, ◌∙◌, ap}
use Prim.Native.Nat.{ℕ, suc}
use native.Mathlib.Omega.{arith}
use lib.Dec.{eqb}
use Rattle.graph.proofs.Truth.{or_neither_left, or_neither_right}
use Rattle.numbers.specs.declared.Shape.{Shape}
use Rattle.forest.specs.Promise.{VertexScratchStored}
use Rattle.routes.specs.Inside.Frame.{next_column, order_column, Only, search_only, column_only, ColumnCleared}
use Rattle.routes.specs.Inside.Searches.{Reached, Begun}
use Rattle.routes.proofs.Frames.{only_trans, only_wider, only_vertex, stored_there, stored_elsewhere}

-- a store into one of the two columns changes nothing else
next_only : {shape : Shape} {x value : ℕ} {old new : List ℕ} → VertexScratchStored shape next_column x value old new
    → Only shape search_only old new
unfolding search_only column_only
next_only v = only_wider (λ j e. or_neither_left (eqb j next_column) (eqb j order_column) e) (λ e. e) (only_vertex v)

order_only : {shape : Shape} {x value : ℕ} {old new : List ℕ} → VertexScratchStored shape order_column x value old new
    → Only shape search_only old new
unfolding search_only column_only
order_only v = only_wider (λ j e. or_neither_right (eqb j next_column) (eqb j order_column) e) (λ e. e) (only_vertex v)

-- the step of a vertex and its place in the order are stored
pub reach_stores : {shape : Shape} {x s found word more : ℕ} {old mid new : List ℕ} → word ≡ suc s → more ≡ suc found
    → VertexScratchStored shape next_column x word old mid → VertexScratchStored shape order_column found x mid new
    → Reached shape x s found old new more
reach_stores {shape} {x} {s} {found} {old = old} {mid = mid} {new = new} p q v w =
    record {
      only = only_trans (next_only v) (order_only w);
      one_more_lem = λ h. q;
      next_is = λ h y l. stored_elsewhere w next_column (omega arith) (λ e. omega arith) y l ∙ rw p at (stored_there v (omega arith) y l);
      order_is = λ h i l. stored_there w (omega arith) i l
          ∙ ap (cond (eqb i found) x) (stored_elsewhere v order_column (omega arith) (λ e. omega arith) i l);
    }

-- the steps are cleared, and the goal is stored
pub begin_stores : {shape : Shape} {b : ℕ} {old t mid new : List ℕ} → ColumnCleared shape next_column old t
    → VertexScratchStored shape next_column b 1 t mid → VertexScratchStored shape order_column 0 b mid new → Begun shape b old new
unfolding search_only column_only
begin_stores {b = b} w v o =
    record {
      only = only_trans
          (only_wider (λ j e. or_neither_left (eqb j next_column) (eqb j order_column) e) (λ e. e) w.only)
          (only_trans (next_only v) (order_only o));
      goal_next = λ x l.
          stored_elsewhere o next_column (omega arith) (λ e. omega arith) x l
          ∙ stored_there v (omega arith) x l
          ∙ ap (cond (eqb x b) 1) (w.cleared x l);
      goal_first = o.stored;
    }
