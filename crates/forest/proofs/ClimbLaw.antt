-- The law of the climb: it leaves a block path between two vertices of one component, and gives the vertex that the path lies below.
use Rattle.std.proofs.Common.{◌≡◌, ℕ, zero, suc, ◌+◌, ◌-◌, ◌<◌, ◌≤◌, Bool, true, false, cond, ◌≢◌, ◌⊎◌, List, [], ◌∷◌, ◌++◌, length, sym, ap, ◌∙◌, subst, inl, inr, not-suc-le-zero, arith}
use mathlib.Core.List.{Memᴰ}
use Rattle.graph.specs.Below.{tabulate, length_tabulate}
use Rattle.graph.specs.Network.{Network}
use Rattle.graph.specs.Groups.{component}
use Rattle.graph.specs.Cycle.{Step}
use Rattle.graph.specs.Block.{block, on_block}
use Rattle.graph.specs.BlockPath.{BlockPath, blocks_lead}
use Rattle.graph.proofs.Truth.{eqb_eq}
use Rattle.graph.proofs.Below.{below_or_last}
use Rattle.numbers.specs.declared.Limits.{Limits}
use Rattle.table.specs.Inside.Column
use Rattle.table.specs.Inside.Layout.{vertex_area}
use Rattle.table.proofs.Cells.{HasColumns}
use Rattle.forest.specs.declared.climb.Route.{Route}
use Rattle.forest.specs.Inside.Climb.{Climbed, depth_of, above_edge, path_vertex, path_edge, same_last, kept_left, climb_both, join_from, climb_table, climb_route}
use Rattle.forest.specs.Inside.Route.{step_at, steps_of}
use Rattle.forest.specs.Inside.Valid.{Valid, HangsBelow, network_of}
use Rattle.forest.proofs.Frames.{◌then◌}
use Rattle.forest.proofs.Roots.{BlockForest, block_forest}
use Rattle.forest.proofs.ClimbLists.{Each, each_first, each_second}
use Rattle.forest.proofs.ClimbWays.{Climb, climb_exists}
use Rattle.forest.proofs.ClimbPath.{Known}
use Rattle.forest.proofs.ClimbTop.{Hooked, Under, Reaches}
use Rattle.forest.proofs.ClimbStore.{steps_more}
use Rattle.forest.proofs.ClimbTable.{Scratched, columns_kept}
use Rattle.forest.proofs.ClimbJoin.{Joins, join-leaves, last_same, kept_of, PathBelow, sides_path}
use Rattle.forest.proofs.ClimbSides.{Sides, climb_sides}
use Rattle.forest.proofs.Values.{entry, Entry}

-- Vertex x hangs below an edge in the block of one of the path's first k edges.
pub record HangsBelowPath (t : List ℕ) (limits : Limits) (g : Network) (t' : List ℕ) (k x : ℕ) : Type 0 where
  pub at : ℕ
  pub before : at < k
  pub hangs : HangsBelow t limits g (path_edge t' limits at) x

-- One of the path's first k edges has v right above its block.
pub record BlockBelow (t : List ℕ) (limits : Limits) (g : Network) (t' : List ℕ) (k v : ℕ) : Type 0 where
  pub at : ℕ
  pub before : at < k
  pub above_is : above_edge t limits (path_edge t' limits at) ≡ v
  pub is_on : on_block g (path_edge t' limits at) v ≡ true

-- What a climb from a to b leaves of the table t: the path in t', and the vertex that it lies below.
pub record Climbs (limits : Limits) (n m : ℕ) (t : List ℕ) (g : Network) (a b : ℕ) (t' : List ℕ) (r : Route) : Type 0 where
  -- only the columns of the path and of the right side change
  pub frame : Scratched limits t t'
  -- the path
  pub start : path_vertex t' limits 0 ≡ a
  pub few : r.steps < n
  pub path : BlockPath g a (steps_of t' limits r.steps) b
  pub some : a ≢ b → 0 < r.steps
  pub edges_known : (i : ℕ) → i < r.steps → path_edge t' limits i < m
  pub vertices_known : (i : ℕ) → i ≤ r.steps → path_vertex t' limits i < n
  -- the vertex that it lies below
  pub top_known : r.top.0 < n
  pub top-block : 0 < r.steps → BlockBelow t limits g t' r.steps r.top.0
  pub edge_below : (i : ℕ) → i < r.steps
      → (above_edge t limits (path_edge t' limits i) ≡ r.top.0) ⊎ HangsBelowPath t limits g t' r.steps (above_edge t limits (path_edge t' limits i))
  pub edge_deep : (i : ℕ) → i < r.steps → depth_of t limits r.top.0 ≤ depth_of t limits (above_edge t limits (path_edge t' limits i))
  pub first_below : (a ≡ r.top.0) ⊎ HangsBelowPath t limits g t' r.steps a
  pub last_below : (b ≡ r.top.0) ⊎ HangsBelowPath t limits g t' r.steps b

-- what holds of every step holds of each step by its number
each_at : (P : Step → Type 0) (t : List ℕ) (limits : Limits) (k : ℕ) → Each P (steps_of t limits k) → (i : ℕ) → i < k → P (step_at t limits i)
each_at P t limits zero w i h = absurd (not-suc-le-zero h)
each_at P t limits (suc k) w i h = go (each_at P t limits k (each_first P (steps_of t limits k) (step_at t limits k ∷ []) all) i) (below_or_last k i h)
  where
    all : Each P (steps_of t limits k ++ step_at t limits k ∷ [])
    all = subst (Each P) (steps_more t limits k) w

    go : (i < k → P (step_at t limits i)) → (i < k) ⊎ (i ≡ k) → P (step_at t limits i)
    go ih (inl l) = ih l
    go ih (inr e) = rw e (each_second P (steps_of t limits k) (step_at t limits k ∷ []) all).0

-- there are as many steps as were read
steps_count : (t : List ℕ) (limits : Limits) (k : ℕ) → length (steps_of t limits k) ≡ k
unfolding steps_of
steps_count t limits k = length_tabulate k (step_at t limits)

-- a block path with no step leads nowhere
path_some : (g : Network) (t : List ℕ) (limits : Limits) (k a b : ℕ) → BlockPath g a (steps_of t limits k) b → a ≢ b → 0 < k
unfolding steps_of tabulate blocks_lead
path_some g t limits zero a b p d = absurd (d (eqb_eq a b p.lead))
path_some g t limits (suc k) a b p d = omega arith

-- a step among the first k has a number
numbered : (t : List ℕ) (limits : Limits) (k : ℕ) (p : Step) → Memᴰ p (steps_of t limits k) → Entry Step k (step_at t limits) p
unfolding steps_of
numbered t limits k p m = entry k (step_at t limits) p m

module _ (t : List ℕ) (limits : Limits) (g : Network) (t' : List ℕ) (k : ℕ) where
  hangs_below_path : (x : ℕ) → Hooked t limits g (steps_of t' limits k) x → HangsBelowPath t limits g t' k x
  unfolding step_at
  hangs_below_path x h =
      let e = numbered t' limits k h.within.step h.within.member in
      record {
        at = e.at;
        before = e.below;
        hangs = record { by = h.by; is_up = h.is_up; in_block = subst (λ (p : Step). block g p.along h.by ≡ true) e.is h.within.in_block };
      }

  below_path : (v x : ℕ) → Under t limits g (steps_of t' limits k) v x → (x ≡ v) ⊎ HangsBelowPath t limits g t' k x
  below_path v x u = go u.below
    where
      go : (x ≡ v) ⊎ Hooked t limits g (steps_of t' limits k) x → (x ≡ v) ⊎ HangsBelowPath t limits g t' k x
      go (inl e) = inl e
      go (inr h) = inr (hangs_below_path x h)

-- what is known of a path as a list of steps, said of the table that holds it
path_climbs : (limits : Limits) (n m : ℕ) (t : List ℕ) (g : Network) → BlockForest t limits n m g → (a b : ℕ) (t' : List ℕ) (r : Route)
    → Scratched limits t t' → path_vertex t' limits 0 ≡ a → a < n → r.steps < n → r.top.0 < n
    → PathBelow t limits n m g (steps_of t' limits r.steps) a b r.top.0
    → Climbs limits n m t g a b t' r
unfolding step_at
path_climbs limits n m t g w a b t' r f s a_known few top p =
    record {
      frame = f;
      start = s;
      few = few;
      path = p.is_path;
      some = path_some g t' limits k a b p.is_path;
      edges_known = edges;
      vertices_known = vertices;
      top_known = top;
      top-block = λ h. reach h p.topped.reached;
      edge_below = λ i h. below_path t limits g t' k v (above_edge t limits (path_edge t' limits i)) (under i h);
      edge_deep = λ i h. (under i h).deep;
      first_below = below_path t limits g t' k v a p.topped.start;
      last_below = below_path t limits g t' k v b p.topped.stop;
    }
  where
    k : ℕ
    k = r.steps

    v : ℕ
    v = r.top.0

    edges : (i : ℕ) → i < k → path_edge t' limits i < m
    edges i h = (each_at (Known n m) t' limits k p.known i h).along_known

    vertices : (i : ℕ) → i ≤ k → path_vertex t' limits i < n
    vertices zero h = rw s a_known
    vertices (suc i) h = (each_at (Known n m) t' limits k p.known i h).to_known

    under : (i : ℕ) → i < k → Under t limits g (steps_of t' limits k) v (above_edge t limits (path_edge t' limits i))
    under i h = each_at (λ q. Under t limits g (steps_of t' limits k) v (above_edge t limits q.along)) t' limits k p.topped.each i h

    reach : 0 < k → (steps_of t' limits k ≡ []) ⊎ Reaches t limits (steps_of t' limits k) v → BlockBelow t limits g t' k v
    reach h (inl e) = absurd (omega (arith, steps_count t' limits k, ap length e))
    reach h (inr q) =
        let e = numbered t' limits k q.step q.member in
        let above : above_edge t limits (path_edge t' limits e.at) ≡ v = ap (λ (u : Step). above_edge t limits u.along) (sym e.is) ∙ q.above_is in
        record {
          at = e.at;
          before = e.below;
          above_is = above;
          is_on = rw above at (w.forest.top_on (path_edge t' limits e.at) (edges e.at e.below));
        }

-- at most all steps of the left side are kept
kept_bound : (t : List ℕ) (limits : Limits) (l r : ℕ) → kept_of t limits l r ≤ l
kept_bound t limits l r = go (last_same t limits l r)
  where
    go : (q : Bool) → cond q (l - 1) l ≤ l
    go true = omega arith
    go false = omega arith

-- the two sides of a climb, joined
sides_climb : (limits : Limits) (n m : ℕ) (t : List ℕ) (g : Network) → BlockForest t limits n m g → n ≤ limits.vertices → m ≤ limits.edges
    → HasColumns t (vertex_area limits) Column.per_vertex → (a b v : ℕ) → a < n → (c : Climbed) → Sides t limits n a b v c
    → let kept = kept_left c.table limits c.trail in
    Climbs limits n m t g a b (join_from c.trail.right c.table limits kept) (record { steps = kept + c.trail.right; top = c.trail.a })
unfolding kept_left same_last
sides_climb limits n m t g w fits edges_fit long a b v a_known c s =
    path_climbs limits n m t g w a b t₂ _ (s.frame then j.frame) (j.start ∙ s.start) a_known (omega (arith, bound, s.few))
    (rw s.at_top s.top_known)
    (rw s.at_top
    (subst (λ path. PathBelow t limits n m g path a b v) (sym j.stored)
    (sides_path t limits n m g w edges_fit t₁ s.frame a v b c.trail.left right s.rises s.falls s.differ)))
  where
    t₁ : List ℕ
    t₁ = c.table

    right : ℕ
    right = c.trail.right

    kept : ℕ
    kept = kept_of t₁ limits c.trail.left right

    bound : kept ≤ c.trail.left
    bound = kept_bound t₁ limits c.trail.left right

    t₂ : List ℕ
    t₂ = join_from right t₁ limits kept

    j : Joins limits t₁ right kept t₂
    j = join-leaves limits right t₁ kept (omega (arith, bound, s.few)) (columns_kept limits t t₁ s.frame long)

-- In a valid table, the climb from a to b in one component leaves a block path from a to b, below the vertex that it gives.
pub climb_law : (limits : Limits) (n m : ℕ) (t : List ℕ) → Valid limits n m t → (a b : ℕ) → a < n → b < n
    → component (network_of limits n m t) a b ≡ true
    → Climbs limits n m t (network_of limits n m t) a b (climb_table t limits a b) (climb_route t limits a b)
unfolding climb_table climb_route
climb_law limits n m t w a b h l j = go (climb_exists t limits n m g f a b h l j)
  where
    g : Network
    g = network_of limits n m t

    f : BlockForest t limits n m g
    f = block_forest limits n m t w

    long : HasColumns t (vertex_area limits) Column.per_vertex
    long = omega (arith, w.long)

    go : ((v : ℕ) × Climb t limits n a b v) → Climbs limits n m t g a b (climb_table t limits a b) (climb_route t limits a b)
    go (v, c) =
        sides_climb limits n m t g f w.vertices_fit w.edges_fit long a b v h (climb_both t limits a b)
        (climb_sides t limits n m g f w.vertices_fit w.edges_fit (omega (arith, w.small_vertices)) long a b h l c)
