-- What turning a way up leaves in the table.
use Rattle.std.proofs.Common.{◌≡◌, ℕ, zero, suc, ◌+◌, ◌*◌, ◌%◌, ◌^◌, ◌<◌, ◌≤◌, true, false, List, [], ◌∷◌, length, sym, refl, ap, ◌∙◌, sub-one, arith}
use lib.Dec.{eqb-suc-zero}
use Rattle.graph.specs.Network.{Network}
use Rattle.graph.specs.Block.{block}
use Rattle.graph.proofs.Truth.{not_both}
use Rattle.numbers.specs.declared.Limits.{Limits}
use Rattle.table.specs.Inside.Column
use Rattle.table.specs.Inside.Layout.{cell, put, vertex_area, edge_area}
use Rattle.table.specs.Inside.KindValid.{KindValid}
use Rattle.table.proofs.Cells.{length-put, cell-put-same, cell_put_other_column, cell_put_other_item, cell_vertex_after_edge, cell_put_elsewhere}
use Rattle.table.proofs.KindNames.{name_known, one_name, one_group}
use Rattle.forest.specs.Inside.Climb.{up_of, depth_of, block_of, above_edge}
use Rattle.forest.specs.Inside.Tree.{turn_from, hung_vertex, hung_block}
use Rattle.forest.specs.Inside.Valid.{ForestValid}
use Rattle.forest.proofs.Columns.{among}
use Rattle.forest.proofs.KindWords.{kind_same}
use Rattle.forest.proofs.Frames.{Frame, ◌then◌, frame_vertex, frame_edge, same_blocks, same_above}
use Rattle.forest.proofs.Turn.{Dangling, HungAnew, hangs}
use Rattle.forest.proofs.TurnSteps.{Way, way_deep, turn-ends, turn_goes_on, way_goes_on}

-- at a root, turning hangs it and ends
turn_root : (k : ℕ) (t : List ℕ) (limits : Limits) (x up depth : ℕ) → up_of t limits x ≡ 0
    → turn_from (suc k) t limits x up depth ≡ hung_vertex t limits x up depth
unfolding turn_from
turn_root k t limits x up depth u = rw u

-- elsewhere, it goes on with the vertex above
turn_step : (k : ℕ) (t : List ℕ) (limits : Limits) (x up depth r : ℕ) → up_of t limits x ≡ suc r
    → turn_from (suc k) t limits x up depth
    ≡ turn_from k (hung_block (hung_vertex t limits x up depth) limits r x) limits (above_edge (hung_vertex t limits x up depth) limits r) (suc r) ((depth + 1) % 2 ^ 32)
unfolding turn_from
turn_step k t limits x up depth r u = rw (u, sub-one (suc r), eqb-suc-zero r)

-- What turning leaves: a valid forest, and all other words as they were.
pub record Turned (limits : Limits) (n m : ℕ) (g : Network) (t t' : List ℕ) : Type 0 where
  pub forest : ForestValid t' limits n m g
  pub frame : (vs es : List ℕ) → among vs Column.up ≡ true → among vs Column.depth ≡ true → among es Column.top ≡ true → Frame limits vs es t t'

module _ (limits : Limits) (n m : ℕ) (g : Network) (vertices_fit : n ≤ limits.vertices) (edges_fit : m ≤ limits.edges) where
  module _ (t : List ℕ) (long : limits.vertices * Column.per_vertex + limits.edges * Column.per_edge ≤ length t) (blocks : KindValid t (edge_area limits) m (block g))
      (x s d : ℕ) (h : x < n) where
    abbrev t₁ : List ℕ
    t₁ = hung_vertex t limits x (suc s) d

    fits : x < limits.vertices
    fits = omega arith

    frame₁ : (vs es : List ℕ) → among vs Column.up ≡ true → among vs Column.depth ≡ true → Frame limits vs es t t₁
    unfolding hung_vertex
    frame₁ vs es p q =
        frame_vertex limits vs es t Column.up x (suc s) (omega arith) fits p then frame_vertex limits vs es _ Column.depth x d (omega arith) fits q

    above₁ : (e : ℕ) → e < m → above_edge t₁ limits e ≡ above_edge t limits e
    above₁ e l = same_above (frame₁ (Column.up ∷ Column.depth ∷ []) [] refl refl) e (omega arith) (omega (arith, name_known blocks e l)) refl refl

    up_here₁ : up_of t₁ limits x ≡ suc s
    unfolding hung_vertex
    up_here₁ =
        cell_put_other_column _ (vertex_area limits) Column.depth x d Column.up x fits fits (λ e. omega arith)
        ∙ cell-put-same t (vertex_area limits) Column.per_vertex Column.up x (suc s) (omega arith) (omega arith) fits

    depth_here₁ : depth_of t₁ limits x ≡ d
    unfolding hung_vertex
    depth_here₁ =
        cell-put-same
        (put t (vertex_area limits) Column.up x (suc s))
        (vertex_area limits)
        Column.per_vertex
        Column.depth
        x
        d
        (omega (arith, length-put t (vertex_area limits) Column.up x (suc s)))
        (omega arith)
        fits

    else₁ : (c y : ℕ) → y < n → (x ≡ y → ⊥) → cell t₁ (vertex_area limits) c y ≡ cell t (vertex_area limits) c y
    unfolding hung_vertex
    else₁ c y l q =
        cell_put_elsewhere _ (vertex_area limits) Column.depth x d c y fits (omega arith) q
        ∙ cell_put_elsewhere t (vertex_area limits) Column.up x (suc s) c y fits (omega arith) q

    hung_root : up_of t limits x ≡ 0 → HungAnew t t₁ limits n m g x s d
    unfolding hangs
    hung_root u =
        record {
          up_here = up_here₁;
          up_else = else₁ Column.up;
          depth_here = depth_here₁;
          depth_else = else₁ Column.depth;
          above_here = λ e l q. absurd (not_both q (ap (λ k. hangs g k e) u));
          above_else = λ e l q. above₁ e l;
        }

    module _ (r : ℕ) (l : r < m) (u : up_of t limits x ≡ suc r) where
      abbrev t₂ : List ℕ
      t₂ = hung_block (hung_vertex t limits x (suc s) d) limits r x

      block₁ : (e : ℕ) → e < m → block_of t₁ limits e ≡ block_of t limits e
      block₁ e k = (frame₁ (Column.up ∷ Column.depth ∷ []) [] refl refl).edge_word Column.name e (omega arith) (omega arith) refl

      block_fits : block_of t₁ limits r < limits.edges
      block_fits = omega (arith, block₁ r l, name_known blocks r l)

      frame₂ : (vs es : List ℕ) → among vs Column.up ≡ true → among vs Column.depth ≡ true → among es Column.top ≡ true → Frame limits vs es t t₂
      unfolding hung_block
      frame₂ vs es p q o =
          frame₁ vs es p q then frame_edge limits vs es t₁ Column.top (block_of t₁ limits r) x (omega arith) block_fits o

      block₂ : (e : ℕ) → e < m → block_of t₂ limits e ≡ block_of t limits e
      block₂ e k = (frame₂ (Column.up ∷ Column.depth ∷ []) (Column.top ∷ []) refl refl refl).edge_word Column.name e (omega arith) (omega arith) refl

      vertex₂ : (c y : ℕ) → c < Column.per_vertex → y < n → cell t₂ (vertex_area limits) c y ≡ cell t₁ (vertex_area limits) c y
      unfolding hung_block
      vertex₂ c y i k = cell_vertex_after_edge limits t₁ Column.top (block_of t₁ limits r) x c y i (omega arith)

      moved_top : (e : ℕ) → e < m → block g e r ≡ true → above_edge t₂ limits e ≡ x
      unfolding hung_block above_edge
      moved_top e k b =
          ap (cell t₂ (edge_area limits) Column.top) (block₂ e k ∙ one_name blocks e r k l b ∙ sym (block₁ r l))
          ∙ cell-put-same
          t₁
          (edge_area limits)
          Column.per_edge
          Column.top
          (block_of t₁ limits r)
          x
          (omega (arith, (frame₁ (Column.up ∷ Column.depth ∷ []) [] refl refl).same_length))
          (omega arith)
          block_fits

      other_top : (e : ℕ) → e < m → block g e r ≡ false → above_edge t₂ limits e ≡ above_edge t limits e
      unfolding hung_block above_edge
      other_top e k b =
          ap (cell t₂ (edge_area limits) Column.top) (block₂ e k)
          ∙ cell_put_other_item
          t₁
          (edge_area limits)
          Column.top
          (block_of t₁ limits r)
          x
          (block_of t limits e)
          (λ q. not_both (one_group blocks e r k l (sym (sym (block₁ r l) ∙ q))) b)
          ∙ (frame₁ (Column.up ∷ Column.depth ∷ []) [] refl refl).edge_word Column.top (block_of t limits e) (omega arith) (omega (arith, name_known blocks e k)) refl

      hung_step : HungAnew t t₂ limits n m g x s d
      unfolding hangs
      hung_step =
          record {
            up_here = vertex₂ Column.up x (omega arith) h ∙ up_here₁;
            up_else = λ y k q. vertex₂ Column.up y (omega arith) k ∙ else₁ Column.up y k q;
            depth_here = vertex₂ Column.depth x (omega arith) h ∙ depth_here₁;
            depth_else = λ y k q. vertex₂ Column.depth y (omega arith) k ∙ else₁ Column.depth y k q;
            above_here = λ e k q. moved_top e k (sym (ap (λ v. hangs g v e) u) ∙ q);
            above_else = λ e k q. other_top e k (sym (ap (λ v. hangs g v e) u) ∙ q);
          }

  -- Turning with k steps left a way up from a vertex that dangles leaves a valid forest.
  abbrev pub Turns : ℕ → Type 0
  Turns k =
      (t : List ℕ) → limits.vertices * Column.per_vertex + limits.edges * Column.per_edge ≤ length t → KindValid t (edge_area limits) m (block g)
      → (x s d low : ℕ)
      → Dangling t limits n m g x s d
      → Way t limits low k x
      → d + k ≤ suc low
      → low < 2 ^ 32
      → Turned limits n m g t (turn_from k t limits x (suc s) d)

  step : (k : ℕ) → Turns k → Turns (suc k)
  step k later t long blocks x s d low f way room small = go (up_of t limits x) refl
    where
      h : x < n
      h = f.vertex_known

      go : (u : ℕ) → up_of t limits x ≡ u → Turned limits n m g t (turn_from (suc k) t limits x (suc s) d)
      go zero u =
          rw
          (turn_root k t limits x (suc s) d u)
          record {
            forest = turn-ends f (hung_root t long blocks x s d h u) u;
            frame = λ vs es p q o. frame₁ t long blocks x s d h vs es p q;
          }
      go (suc r) u = rw (turn_step k t limits x (suc s) d r u, above₁ t long blocks x s d h r l, next_depth) (join rest)
        where
          l : r < m
          l = f.forest.up_known x r h u

          t₂ : List ℕ
          t₂ = hung_block (hung_vertex t limits x (suc s) d) limits r x

          next_depth : (d + 1) % 2 ^ 32 ≡ suc d
          next_depth = omega (arith, way_deep t limits low k (above_edge t limits r) (way.1 r u))

          moved : HungAnew t t₂ limits n m g x s d
          moved = hung_step t long blocks x s d h r l u

          rest : Turned limits n m g t₂ (turn_from k t₂ limits (above_edge t limits r) (suc r) (suc d))
          rest =
              later
              t₂
              (omega (arith, frame.same_length))
              (kind_same (same_blocks frame m edges_fit refl) blocks)
              (above_edge t limits r)
              r
              (suc d)
              low
              (turn_goes_on f moved r low k u (way.1 r u) (omega arith))
              (way_goes_on f moved r low k u (way.1 r u) (omega arith))
              (omega arith)
              small
            where
              frame : Frame limits (Column.up ∷ Column.depth ∷ []) (Column.top ∷ []) t t₂
              frame = frame₂ t long blocks x s d h r l u _ _ refl refl refl

          join : Turned limits n m g t₂ (turn_from k t₂ limits (above_edge t limits r) (suc r) (suc d))
              → Turned limits n m g t (turn_from k t₂ limits (above_edge t limits r) (suc r) (suc d))
          join z =
              record {
                forest = z.forest;
                frame = λ vs es p q o. frame₂ t long blocks x s d h r l u vs es p q o then z.frame vs es p q o;
              }

  -- so it is with any number of steps left
  pub turned : (k : ℕ) → Turns k
  turned zero = λ t long blocks x s d low f way room small. absurd way
  turned (suc k) = step k (turned k)
