-- The lists of the edges at each vertex, as they stand in scratch words. An entry is 1 + an edge, or 0 at a list's end.
use Rattle.std.specs.Prelude.{Option, None, Some, Bool, true, false, cond, List, ◌≡◌, ℕ, zero, suc, ◌+◌, ◌*◌, ◌/◌, ◌%◌, ◌<◌, min, eqb, ltb}
use Rattle.graph.specs.Network.{Network, edge, edge_count, touches, other_end}
use Rattle.ways.specs.Used.{Used, is_used, mate_used, unused}
use Rattle.numbers.specs.declared.Shape.{Shape}
use Rattle.numbers.specs.declared.Edge.{Edge}
use Rattle.routes.specs.declared.uses.Use.{Use}
use Rattle.routes.specs.declared.uses.Use.TheVariants as U
use Rattle.forest.specs.Promise.{network_in, vertex_scratch, edge_scratch}
use Rattle.routes.specs.Inside.Frame.{head_column, Free, Only}

-- The number of an entry.
abbrev pub entry_number : Option Edge → ℕ
entry_number None = 0
entry_number (Some s) = suc s.0

-- The entry of the last edge below k at vertex x.
unfoldable pub last_at : Network → ℕ → ℕ → ℕ
last_at g x zero = 0
last_at g x (suc s) = cond (touches (edge g s) x) (suc s) (last_at g x s)

-- The entries behind edge s in the lists of its two ends, in one number.
unfoldable pub entries_of : Network → ℕ → ℕ
entries_of g s = last_at g (edge g s).left s * 16384 + last_at g (edge g s).right s

-- The lists of the edges below k stand in the scratch words: the heads with the vertices, the other entries above the two lowest bits of the
-- edges' words.
pub record Linked (shape : Shape) (g : Network) (k : ℕ) (t : List ℕ) : Type 0 where
  pub heads : (x : ℕ) → x < shape.vertices → vertex_scratch shape t head_column x ≡ last_at g x k
  pub entries : (s : ℕ) → s < k → edge_scratch shape t s / 4 ≡ entries_of g s

-- The two bits for the use of an edge.
abbrev pub bits_of : Use → ℕ
bits_of U.Free = 0
bits_of U.MateUsed = 1
bits_of U.FromLeft = 2
bits_of U.FromRight = 3

-- The use of an edge: no mate of it is used, or a mate but not the edge is, or it is used from its left end, or from its right.
unfoldable pub used_along : Bool → Use
used_along left = cond left U.FromLeft U.FromRight

unfoldable pub use_of : Network → Used → ℕ → Use
use_of g u s = cond (is_used u s) (used_along (eqb (u s) (suc (edge g s).left))) (cond (mate_used g u s) U.MateUsed U.Free)

-- The lists of all edges stand in the scratch words, with the use of each edge.
pub record Listed (shape : Shape) (g : Network) (u : Used) (t : List ℕ) : Type 0 where
  pub linked : Linked shape g (edge_count g) t
  pub uses : (s : ℕ) → s < edge_count g → edge_scratch shape t s % 4 ≡ bits_of (use_of g u s)

-- The words of edges and the heads may change.
unfoldable pub lists_only : Free
lists_only = record { column = λ j. eqb j head_column; edges = true }

-- Edge s is put at the head of the lists of its ends, and takes what stood there, cut to 14 bits.
pub record EdgeEntered (shape : Shape) (s : ℕ) (old new : List ℕ) : Type 0 where
  pub only : Only shape lists_only old new
  pub word_is : let e = edge (network_in shape old) s in
      edge_scratch shape new s
      ≡ vertex_scratch shape old head_column e.left % 16384 * 65536 + vertex_scratch shape old head_column e.right % 16384 * 4
  pub other_words : (r : ℕ) → r < shape.edges → eqb r s ≡ false → edge_scratch shape new r ≡ edge_scratch shape old r
  pub heads : (x : ℕ) → x < shape.vertices
      → vertex_scratch shape new head_column x
      ≡ cond (touches (edge (network_in shape old) s) x) (suc s) (vertex_scratch shape old head_column x)

-- All lists are built, and no edge is used.
pub record ListsBuilt (shape : Shape) (old new : List ℕ) : Type 0 where
  pub only : Only shape lists_only old new
  pub listed : Listed shape (network_in shape old) unused new

-- The vertex to which a step from x along edge s leads; x where there is no such edge.
unfoldable pub far_end : Network → ℕ → ℕ → ℕ
far_end g s x = cond (ltb s (edge_count g)) (other_end (edge g s) x) x

-- The entry behind edge s in the list of vertex x, or s where that is less.
unfoldable pub entry_behind : Shape → List ℕ → ℕ → ℕ → ℕ
entry_behind shape t x s =
    let entries = edge_scratch shape t s / 4 in
    min (cond (eqb (edge (network_in shape t) s).left x) (entries / 16384) (entries % 16384)) s
