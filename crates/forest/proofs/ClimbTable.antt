-- What the climb leaves in the table: the steps of the left side in the path's columns, those of the right side in their own.
use Rattle.std.proofs.Common.{◌≡◌, ℕ, zero, suc, ◌+◌, ◌<◌, ◌≤◌, ◌≢◌, List, [], ◌∷◌, ◌++◌, length, sym, refl, ap, ◌∙◌, append_assoc, append-nil, add-zero, sub-one, arith, length-append}
use lib.Dec.{eqb-suc-zero}
use Rattle.graph.specs.Network.{Network}
use Rattle.graph.specs.Cycle.{Step}
use Rattle.graph.proofs.Truth.{ne_eqb, lt-ltb, ge_ltb}
use Rattle.numbers.specs.declared.Limits.{Limits}
use Rattle.table.specs.Inside.Column
use Rattle.table.specs.Inside.Layout.{vertex_area}
use Rattle.table.proofs.Cells.{HasColumns}
use Rattle.table.proofs.KindNames.{name_known}
use Rattle.forest.specs.declared.climb.Trail.{Trail}
use Rattle.forest.specs.Inside.Climb.{up_of, depth_of, above_edge, path_vertex, right_deeper, climbing, record_table, record_trail, Climbed, climb_from}
use Rattle.forest.specs.Inside.Route.{steps_of}
use Rattle.forest.proofs.Columns.{scratch}
use Rattle.forest.proofs.Frames.{Frame, frame_none, frame_vertex, ◌then◌, same_above}
use Rattle.forest.proofs.Roots.{BlockForest}
use Rattle.forest.proofs.ClimbWays.{Climb, met, left, right, Hung, up_steps, down_steps, hung_above, hung_edge}
use Rattle.forest.proofs.ClimbStore.{turned_steps, left_store, right_store, left_store_steps, left_store_start, left_store_turned}
use Rattle.forest.proofs.ClimbStore.{right_store_turned, right_store_steps, right_store_start}
use Rattle.forest.proofs.ClimbSteps.{climb_met}

-- The second table differs from the first at most in those columns.
abbrev pub Scratched : Limits → List ℕ → List ℕ → Type 0
Scratched limits t t' = Frame limits scratch [] t t'

-- ways up stay
pub up_kept : (limits : Limits) (t t' : List ℕ) → Scratched limits t t' → (x : ℕ) → x < limits.vertices → up_of t' limits x ≡ up_of t limits x
up_kept limits t t' f x h = f.vertex_word Column.up x (omega arith) h refl

-- depths stay
pub depth-kept : (limits : Limits) (t t' : List ℕ) → Scratched limits t t' → (x : ℕ) → x < limits.vertices
    → depth_of t' limits x ≡ depth_of t limits x
depth-kept limits t t' f x h = f.vertex_word Column.depth x (omega arith) h refl

-- a table as long as one with all columns of the vertices has them too
pub columns_kept : (limits : Limits) (t t' : List ℕ) → Scratched limits t t' → HasColumns t (vertex_area limits) Column.per_vertex
    → HasColumns t' (vertex_area limits) Column.per_vertex
columns_kept limits t t' f h = rw f.same_length h

-- a step stored on the left
pub left_scratched : (limits : Limits) (t : List ℕ) (at e v : ℕ) → at + 1 < limits.vertices → Scratched limits t (left_store t limits at e v)
left_scratched limits t at e v h =
    frame_vertex limits scratch [] t Column.path_edge at e (omega arith) (omega arith) refl
    then frame_vertex limits scratch [] _ Column.path_vertex (at + 1) v (omega arith) h refl

-- a step stored on the right
pub right_scratched : (limits : Limits) (t : List ℕ) (at e y : ℕ) → at < limits.vertices → Scratched limits t (right_store t limits at e y)
right_scratched limits t at e y h =
    frame_vertex limits scratch [] t Column.right_edge at e (omega arith) h refl then frame_vertex limits scratch [] _ Column.right_vertex at y (omega arith) h refl

-- a step of the left side
climb_left : (k : ℕ) (t : List ℕ) (limits : Limits) (r : Trail) (e v : ℕ) → r.a.0 ≢ r.b.0
    → depth_of t limits r.b.0 ≤ depth_of t limits r.a.0 → up_of t limits r.a.0 ≡ suc e → above_edge t limits e ≡ v
    → climb_from (suc k) t limits r
    ≡ climb_from k (left_store t limits r.left e v) limits (record { a = record { 0 = v }; b = r.b; left = r.left + 1; right = r.right })
unfolding climb_from climbing right_deeper record_table record_trail
climb_left k t limits r e v d l p q =
    rw (ne_eqb r.a.0 r.b.0 d, ge_ltb (depth_of t limits r.a.0) (depth_of t limits r.b.0) l, p, eqb-suc-zero e, sub-one (suc e), q)

-- a step of the right side
climb_right : (k : ℕ) (t : List ℕ) (limits : Limits) (r : Trail) (e v : ℕ) → r.a.0 ≢ r.b.0
    → depth_of t limits r.a.0 < depth_of t limits r.b.0 → up_of t limits r.b.0 ≡ suc e → above_edge t limits e ≡ v
    → climb_from (suc k) t limits r
    ≡ climb_from k (right_store t limits r.right e r.b.0) limits (record { a = r.a; b = record { 0 = v }; left = r.left; right = r.right + 1 })
unfolding climb_from climbing right_deeper record_table record_trail
climb_right k t limits r e v d l p q =
    rw (ne_eqb r.a.0 r.b.0 d, lt-ltb (depth_of t limits r.a.0) (depth_of t limits r.b.0) l, p, eqb-suc-zero e, sub-one (suc e), q)

-- What a climb leaves of a table and a trail: the steps of each side behind those that were there.
pub record Leaves (limits : Limits) (t : List ℕ) (r : Trail) (ups downs : List Step) (v : ℕ) (c : Climbed) : Type 0 where
  pub frame : Scratched limits t c.table
  pub start : path_vertex c.table limits 0 ≡ path_vertex t limits 0
  pub at_top : c.trail.a.0 ≡ v
  pub left_count : c.trail.left ≡ r.left + length ups
  pub right_count : c.trail.right ≡ r.right + length downs
  pub ups_stored : steps_of c.table limits c.trail.left ≡ steps_of t limits r.left ++ ups
  pub downs_stored : turned_steps c.table limits c.trail.right ≡ downs ++ turned_steps t limits r.right

leaves_none : (limits : Limits) (t : List ℕ) (r : Trail) → Leaves limits t r [] [] r.a.0 (record { table = t; trail = r })
leaves_none limits t r =
    record {
      frame = frame_none;
      start = refl;
      at_top = refl;
      left_count = sym (add-zero _);
      right_count = sym (add-zero _);
      ups_stored = sym (append-nil _);
      downs_stored = refl;
    }

module _ (limits : Limits) (t : List ℕ) (r : Trail) (ups downs : List Step) (v e u : ℕ) (c : Climbed) (long : HasColumns t (vertex_area limits) Column.per_vertex) where
  -- a step of the left side, and then the rest
  leaves_left : r.left + 1 < limits.vertices → r.right ≤ limits.vertices
      → Leaves limits (left_store t limits r.left e u) (record { a = record { 0 = u }; b = r.b; left = r.left + 1; right = r.right }) ups downs v c
      → Leaves limits t r (record { along = e; to = u } ∷ ups) downs v c
  leaves_left h k l =
      record {
        frame = left_scratched limits t r.left e u h then l.frame;
        start = l.start ∙ left_store_start t limits r.left e u long h;
        at_top = l.at_top;
        left_count = l.left_count ∙ omega arith;
        right_count = l.right_count;
        ups_stored =
            l.ups_stored
            ∙ ap (λ ps. ps ++ ups) (left_store_steps t limits r.left e u long h)
            ∙ append_assoc (steps_of t limits r.left) (record { along = e; to = u } ∷ []) ups;
        downs_stored = l.downs_stored ∙ ap (λ ps. downs ++ ps) (left_store_turned t limits r.left e u long r.right h k);
      }

  -- a step of the right side, and then the rest
  leaves_right : r.right < limits.vertices → r.left < limits.vertices
      → Leaves limits (right_store t limits r.right e r.b.0) (record { a = r.a; b = record { 0 = u }; left = r.left; right = r.right + 1 }) ups downs v c
      → Leaves limits t r ups (downs ++ record { along = e; to = r.b.0 } ∷ []) v c
  leaves_right h k l =
      record {
        frame = right_scratched limits t r.right e r.b.0 h then l.frame;
        start = l.start ∙ right_store_start t limits r.right e r.b.0 long h;
        at_top = l.at_top;
        left_count = l.left_count;
        right_count = l.right_count ∙ omega (arith, length-append downs (record { along = e; to = r.b.0 } ∷ []));
        ups_stored = l.ups_stored ∙ ap (λ ps. ps ++ ups) (right_store_steps t limits r.right e r.b.0 long r.left h k);
        downs_stored =
            l.downs_stored
            ∙ ap (λ ps. downs ++ ps) (right_store_turned t limits r.right e r.b.0 long h)
            ∙ sym (append_assoc downs (record { along = e; to = r.b.0 } ∷ []) (turned_steps t limits r.right));
      }

module _ (t₀ : List ℕ) (limits : Limits) (n m : ℕ) (g : Network) (w : BlockForest t₀ limits n m g)
    (fits : n ≤ limits.vertices) (edges_fit : m ≤ limits.edges) where
  -- the vertex above a vertex's block stays
  above_kept : (t : List ℕ) → Scratched limits t₀ t → (e x v : ℕ) → Hung t₀ limits n e x v → above_edge t limits e ≡ v
  above_kept t f e x v h =
      same_above f e (omega (arith, hung_edge t₀ limits n m g w e x v h))
      (omega (arith, name_known w.blocks e (hung_edge t₀ limits n m g w e x v h))) refl refl
      ∙ h.above_is

  -- with enough steps left and enough room, the climb leaves its steps in the table
  pub climb_leaves : {x y v : ℕ} (c : Climb t₀ limits n x y v) (k : ℕ) (t : List ℕ) (r : Trail) → Scratched limits t₀ t
      → r.a.0 ≡ x → r.b.0 ≡ y → x < n → y < n
      → length (up_steps t₀ limits n c) + length (down_steps t₀ limits n c) ≤ k
      → r.left + length (up_steps t₀ limits n c) < limits.vertices
      → r.right + length (down_steps t₀ limits n c) ≤ limits.vertices
      → HasColumns t (vertex_area limits) Column.per_vertex
      → Leaves limits t r (up_steps t₀ limits n c) (down_steps t₀ limits n c) v (climb_from k t limits r)
  unfolding up_steps down_steps
  climb_leaves met k t r f a b h l enough lroom rroom long =
      rw (climb_met t limits r k (a ∙ sym b), ← a) (leaves_none limits t r)
  climb_leaves (left e d q s c) zero t r f a b h l enough lroom rroom long = absurd (omega arith)
  climb_leaves (left {x} {y} {v} e d q s c) (suc k) t r f a b h l enough lroom rroom long =
      rw (climb_left k t limits r e u differ deeper
      (ap (up_of t limits) a ∙ up_kept limits t₀ t f x (omega arith) ∙ s.is_up) (above_kept t f e x u s))
      (leaves_left limits t r (up_steps t₀ limits n c) (down_steps t₀ limits n c) v e u _ long (omega arith) (omega arith)
      (climb_leaves c k (left_store t limits r.left e u) _ (f then stored) refl b (hung_above t₀ limits n m g w e x u s) l
      (omega arith) (omega arith) (omega arith) (columns_kept limits t _ stored long)))
    where
      u : ℕ
      u = above_edge t₀ limits e

      differ : r.a.0 ≢ r.b.0
      differ z = d (sym a ∙ z ∙ b)

      deeper : depth_of t limits r.b.0 ≤ depth_of t limits r.a.0
      deeper = rw (a, b, depth-kept limits t₀ t f x (omega arith), depth-kept limits t₀ t f y (omega arith)) q

      stored : Scratched limits t (left_store t limits r.left e u)
      stored = left_scratched limits t r.left e u (omega arith)
  climb_leaves (right {y = y} e q s c) zero t r f a b h l enough lroom rroom long =
      absurd (omega (arith, length-append (down_steps t₀ limits n c) (record { along = e; to = y } ∷ [])))
  climb_leaves (right {x} {y} {v} e q s c) (suc k) t r f a b h l enough lroom rroom long =
      rw (
        climb_right k t limits r e u differ deeper
            (ap (up_of t limits) b ∙ up_kept limits t₀ t f y (omega arith) ∙ s.is_up) (above_kept t f e y u s),
        ← b,
      )
      (leaves_right limits t r (up_steps t₀ limits n c) (down_steps t₀ limits n c) v e u _ long (omega (arith, more)) (omega arith)
      (climb_leaves c k (right_store t limits r.right e r.b.0) _ (f then stored) a refl h (hung_above t₀ limits n m g w e y u s)
      (omega (arith, more)) (omega arith) (omega (arith, more)) (columns_kept limits t _ stored long)))
    where
      u : ℕ
      u = above_edge t₀ limits e

      more : length (down_steps t₀ limits n c ++ record { along = e; to = y } ∷ []) ≡ length (down_steps t₀ limits n c) + 1
      more = length-append (down_steps t₀ limits n c) (record { along = e; to = y } ∷ [])

      deeper : depth_of t limits r.a.0 < depth_of t limits r.b.0
      deeper = rw (a, b, depth-kept limits t₀ t f x (omega arith), depth-kept limits t₀ t f y (omega arith)) q

      differ : r.a.0 ≢ r.b.0
      differ z = omega (arith, deeper, ap (depth_of t limits) z)

      stored : Scratched limits t (right_store t limits r.right e r.b.0)
      stored = right_scratched limits t r.right e r.b.0 (omega (arith, more))
