-- The climb of the model: both sides stand in the table, and there was room and reach for them.
use Rattle.std.proofs.Common.{◌≡◌, ℕ, ◌+◌, ◌<◌, ◌≤◌, List, [], ◌++◌, length, sym, refl, ◌∙◌, subst, ap₂, append-nil, arith, length-append}
use Rattle.graph.specs.Below.{tabulate}
use Rattle.graph.specs.Network.{Network}
use Rattle.graph.specs.Cycle.{Step}
use Rattle.numbers.specs.declared.Limits.{Limits}
use Rattle.table.specs.Inside.Column
use Rattle.table.specs.Inside.Layout.{put, vertex_area}
use Rattle.table.proofs.Cells.{HasColumns, cell-put-same}
use Rattle.forest.specs.declared.climb.Trail.{Trail}
use Rattle.forest.specs.Inside.Climb.{Climbed, path_vertex, reach, climb_from, climb_both}
use Rattle.forest.specs.Inside.Route.{steps_of}
use Rattle.forest.proofs.Columns.{scratch}
use Rattle.forest.proofs.Frames.{frame_vertex, ◌then◌}
use Rattle.forest.proofs.Roots.{BlockForest}
use Rattle.forest.proofs.ClimbLists.{Each, each_map, each_append, Fresh, fresh_short}
use Rattle.forest.proofs.ClimbWays.{Climb, Rises, Falls, up_steps, down_steps, up_rises, down_falls, rises_cost, falls_cost, climb_fresh}
use Rattle.forest.proofs.ClimbPath.{Known, rises_known, falls_known, rises_top}
use Rattle.forest.proofs.ClimbStore.{turned_steps}
use Rattle.forest.proofs.ClimbTable.{Scratched, depth-kept, columns_kept, Leaves, climb_leaves}

-- The two sides of a climb as they stand in the table, before they are joined.
pub record Sides (t : List ℕ) (limits : Limits) (n : ℕ) (a b v : ℕ) (c : Climbed) : Type 0 where
  pub frame : Scratched limits t c.table
  pub start : path_vertex c.table limits 0 ≡ a
  pub at_top : c.trail.a.0 ≡ v
  pub top_known : v < n
  pub few : c.trail.left + c.trail.right < n
  pub rises : Rises t limits n a (steps_of c.table limits c.trail.left) v
  pub falls : Falls t limits n v (turned_steps c.table limits c.trail.right) b
  pub differ : Fresh a (steps_of c.table limits c.trail.left ++ turned_steps c.table limits c.trail.right)

module _ (t : List ℕ) (limits : Limits) (n m : ℕ) (g : Network) (w : BlockForest t limits n m g)
    (fits : n ≤ limits.vertices) (edges_fit : m ≤ limits.edges) (small : limits.vertices < 65536)
    (long : HasColumns t (vertex_area limits) Column.per_vertex) (a b : ℕ) (a_known : a < n) (b_known : b < n) where
  -- a climb has fewer steps than there are vertices
  climb_short : {v : ℕ} (c : Climb t limits n a b v) → length (up_steps t limits n c) + length (down_steps t limits n c) < n
  climb_short {v} c =
      omega (arith, length-append ups downs, fresh_short n a (ups ++ downs) (climb_fresh t limits n m g w c) a_known known)
    where
      ups : List Step
      ups = up_steps t limits n c

      downs : List Step
      downs = down_steps t limits n c

      known : Each (λ p. p.to < n) (ups ++ downs)
      known =
          each_map (λ p k. k.to_known) (ups ++ downs)
          (each_append (Known n m) ups downs
          (rises_known t limits n m g w a ups v (up_rises t limits n c)) (falls_known t limits n m g w v downs b (down_falls t limits n c)))

  -- the climb of the model leaves both sides in the table
  pub climb_sides : {v : ℕ} → Climb t limits n a b v → Sides t limits n a b v (climb_both t limits a b)
  unfolding climb_both reach steps_of tabulate turned_steps
  climb_sides {v} c =
      record {
        frame = first then l.frame;
        start = l.start ∙ cell-put-same t (vertex_area limits) Column.per_vertex Column.path_vertex 0 a long (omega arith) (omega arith);
        at_top = l.at_top;
        top_known = rises_top t limits n m g w a (up_steps t limits n c) v a_known (up_rises t limits n c);
        few = omega (arith, l.left_count, l.right_count, climb_short c);
        rises = subst (λ ps. Rises t limits n a ps v) (sym l.ups_stored) (up_rises t limits n c);
        falls = subst (λ ps. Falls t limits n v ps b) (sym downs_are) (down_falls t limits n c);
        differ = subst (Fresh a) (sym (ap₂ ◌++◌ l.ups_stored downs_are)) (climb_fresh t limits n m g w c);
      }
    where
      t₁ : List ℕ
      t₁ = put t (vertex_area limits) Column.path_vertex 0 a

      r₀ : Trail
      r₀ = record { a = record { 0 = a }; b = record { 0 = b }; left = 0; right = 0 }

      ups : List Step
      ups = up_steps t limits n c

      downs : List Step
      downs = down_steps t limits n c

      first : Scratched limits t t₁
      first = frame_vertex limits scratch [] t Column.path_vertex 0 a (omega arith) (omega arith) refl

      enough : length ups + length downs ≤ reach t₁ limits a b
      enough =
          omega (
            arith,
            climb_short c,
            rises_cost t limits n m g w a ups v (up_rises t limits n c),
            falls_cost t limits n m g w v downs b (down_falls t limits n c),
            depth-kept limits t t₁ first a (omega arith),
            depth-kept limits t t₁ first b (omega arith),
          )

      l : Leaves limits t₁ r₀ ups downs v (climb_from (reach t₁ limits a b) t₁ limits r₀)
      l =
          climb_leaves t limits n m g w fits edges_fit c (reach t₁ limits a b) t₁ r₀ first refl refl a_known b_known enough
          (omega (arith, climb_short c)) (omega (arith, climb_short c)) (columns_kept limits t t₁ first long)

      downs_are : turned_steps (climb_from (reach t₁ limits a b) t₁ limits r₀).table limits (climb_from (reach t₁ limits a b) t₁ limits r₀).trail.right ≡ downs
      downs_are = l.downs_stored ∙ append-nil downs
