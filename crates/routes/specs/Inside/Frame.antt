-- The scratch words of a search, and what a function leaves as it was.
use Rattle.std.specs.Prelude.{Bool, true, false, ◌||◌, List, ◌≡◌, ℕ, ◌<◌, eqb}
use Rattle.graph.specs.Below.{tabulate}
use Rattle.numbers.specs.declared.Shape.{Shape}
use Rattle.routes.specs.declared.Route.{Route}
use Rattle.routes.specs.declared.Route.TheVariants as R
use Rattle.forest.specs.Promise.{Holds, state_of, SameBeyond, scratch_words, vertex_scratch, edge_scratch}

-- The columns of the vertices' scratch words: the first entry of a vertex's list of edges; its step towards the goal; the vertices in the
-- order in which they were reached, and then the second route; the first route.
abbrev pub head_column : ℕ
head_column = 0

abbrev pub next_column : ℕ
next_column = 1

abbrev pub order_column : ℕ
order_column = 2

abbrev pub first_column : ℕ
first_column = 3

-- The column of a route.
abbrev pub column_of : Route → ℕ
column_of R.First = first_column
column_of R.Second = order_column

-- Which scratch words may change: columns of the vertices, and whether those of the edges.
pub record Free : Type 0 where
  pub column : ℕ → Bool
  pub edges : Bool

-- Nothing changes but the scratch words that may: the table holds the same state, and the words beyond the table's are as before.
pub record Only (shape : Shape) (free : Free) (old new : List ℕ) : Type 0 where
  pub holds : Holds shape new
  pub state_is : state_of shape new ≡ state_of shape old
  pub same_beyond : SameBeyond shape.limits old new
  pub columns : (j x : ℕ) → j < scratch_words → free.column j ≡ false → x < shape.limits.vertices
      → vertex_scratch shape new j x ≡ vertex_scratch shape old j x
  pub edge_words : free.edges ≡ false → (s : ℕ) → s < shape.limits.edges → edge_scratch shape new s ≡ edge_scratch shape old s

-- The edges' words alone may change; one column alone; the two columns of a search; these and one more.
unfoldable pub edges_only : Free
edges_only = record { column = λ j. false; edges = true }

unfoldable pub column_only : ℕ → Free
column_only k = record { column = λ j. eqb j k; edges = false }

unfoldable pub search_only : Free
search_only = record { column = λ j. eqb j next_column || eqb j order_column; edges = false }

-- The words of a column are 0 at every vertex.
pub record ColumnCleared (shape : Shape) (column : ℕ) (old new : List ℕ) : Type 0 where
  pub only : Only shape (column_only column) old new
  pub cleared : (x : ℕ) → x < shape.vertices → vertex_scratch shape new column x ≡ 0

-- The first count words of a column are the list.
abbrev pub Written : Shape → ℕ → ℕ → List ℕ → List ℕ → Type 0
Written shape column count t list = tabulate count (vertex_scratch shape t column) ≡ list
