-- How the models of growing the forest go on, one vertex more and none left; and how many steps a path has at most.
use Rattle.std.proofs.Common.{◌≡◌, ℕ, zero, suc, ◌+◌, ◌-◌, ◌%◌, ◌^◌, ◌<◌, ◌≤◌, Bool, true, false, cond, eqb, ◌⊎◌, List, refl, inl, inr, ap, ◌∙◌, add-one, arith}
use Rattle.std.specs.Prelude as P
use Rattle.numbers.specs.declared.Limits.{Limits}
use Rattle.table.specs.Inside.Column
use Rattle.table.specs.Inside.Layout.{cell, put, vertex_area}
use Rattle.forest.specs.declared.tree.Turning.{Turning}
use Rattle.forest.specs.declared.climb.Trail.{Trail}
use Rattle.forest.specs.Inside.Climb.{up_of, depth_of, above_edge, right_deeper, climbing, record_table, record_trail, Climbed, climb_from}
use Rattle.forest.specs.Inside.Climb.{kept_left, reach, climb_both, climb_route}
use Rattle.forest.specs.Inside.Tree.{raise_from, turn_from, turned_table, turned_next}
use Rattle.graph.proofs.Truth.{true_or_false, eqb_ne}
use Rattle.forest.proofs.ClimbSteps.{recorded_steps, kept_most, reach_most}

-- the next changed vertex is raised, and then the rest
pub raise_step : (t : List ℕ) (limits : Limits) (by i n : ℕ) → i < n
    → raise_from (n - i) t limits by i
    ≡ (let x = cell t (vertex_area limits) Column.changed i in
    raise_from (n - (i + 1)) (put t (vertex_area limits) Column.depth x ((depth_of t limits x + by) % 2 ^ 32)) limits by (i + 1))
unfolding raise_from
raise_step t limits by i n h = let e : n - i ≡ suc (n - (i + 1)) = omega arith in rw (e, add-one i)

-- with no vertex left the table stays
pub raise_end : (t : List ℕ) (limits : Limits) (by i n : ℕ) → n ≤ i → raise_from (n - i) t limits by i ≡ t
unfolding raise_from
raise_end t limits by i n h = let e : n - i ≡ 0 = omega arith in rw e

-- the way up turned round from a vertex, with so many steps left
abbrev pub turn_all : ℕ → List ℕ → Limits → Turning → List ℕ
turn_all k t limits s = turn_from k t limits s.at.0 (suc s.by.0) s.depth

-- the way up turned round from the next vertex, if there is one
abbrev pub turn_rest : ℕ → List ℕ → Limits → P.Option Turning → List ℕ
turn_rest k t limits P.None = t
turn_rest k t limits (P.Some next) = turn_all k t limits next

-- one vertex turned, and then the rest: nothing where the vertex was a root
pub turn_step : (k : ℕ) (t : List ℕ) (limits : Limits) (s : Turning)
    → turn_all (suc k) t limits s ≡ turn_rest k (turned_table t limits s) limits (turned_next t limits s)
unfolding turn_from turned_table turned_next
turn_step k t limits s = go (true_or_false (eqb (up_of t limits s.at.0) 0))
  where
    go : (eqb (up_of t limits s.at.0) 0 ≡ true) ⊎ (eqb (up_of t limits s.at.0) 0 ≡ false)
        → turn_all (suc k) t limits s ≡ turn_rest k (turned_table t limits s) limits (turned_next t limits s)
    go (inl root) = rw root refl
    go (inr q) = let above : suc (up_of t limits s.at.0 - 1) ≡ up_of t limits s.at.0 = omega (arith, eqb_ne _ _ q) in rw (q, above) refl

-- the same, step by step, of a vertex that is no root
pub turn_on : (steps step : ℕ) (t : List ℕ) (limits : Limits) (s next : Turning) → step < steps → turned_next t limits s ≡ P.Some next
    → turn_all (steps - step) t limits s ≡ turn_all (steps - (step + 1)) (turned_table t limits s) limits next
turn_on steps step t limits s next h e =
    let rest = steps - (step + 1) in
    let one_more : steps - step ≡ suc rest = omega arith in
    rw one_more (turn_step rest t limits s ∙ ap (turn_rest rest (turned_table t limits s) limits) e)

-- and of a root, behind which nothing is left
pub turn_root : (steps step : ℕ) (t : List ℕ) (limits : Limits) (s : Turning) → step < steps → turned_next t limits s ≡ P.None
    → turn_all (steps - step) t limits s ≡ turned_table t limits s
turn_root steps step t limits s h e =
    let rest = steps - (step + 1) in
    let one_more : steps - step ≡ suc rest = omega arith in
    rw one_more (turn_step rest t limits s ∙ ap (turn_rest rest (turned_table t limits s) limits) e)

-- with no step left the table stays
pub turn_end : (steps step : ℕ) (t : List ℕ) (limits : Limits) (s : Turning) → steps ≤ step → turn_all (steps - step) t limits s ≡ t
unfolding turn_from
turn_end steps step t limits s h = let none : steps - step ≡ 0 = omega arith in rw none

-- how many steps both sides of a trail have made
abbrev steps_of : Trail → ℕ
steps_of r = r.left + r.right

fewer : (b₁ b₂ : Bool) (x y : Climbed) (n : ℕ) → steps_of x.trail ≤ n → steps_of y.trail ≤ n
    → steps_of (cond b₁ x (cond b₂ x y)).trail ≤ n
fewer true b₂ x y n h k = h
fewer false true x y n h k = h
fewer false false x y n h k = k

-- a climb makes no more steps than it has left
climbed_most : (k : ℕ) (t : List ℕ) (limits : Limits) (r : Trail) → steps_of (climb_from k t limits r).trail ≤ steps_of r + k
unfolding climb_from
climbed_most zero t limits r = omega arith
climbed_most (suc k) t limits r =
    let e = up_of t limits (climbing t limits r) - 1 in
    let v = above_edge t limits e in
    let right = right_deeper t limits r in
    let next = record_trail r v right in
    let one = recorded_steps r next v right refl in
    let rest = climbed_most k (record_table t limits r e v right) limits next in
    fewer (eqb r.a.0 r.b.0) (eqb (up_of t limits (climbing t limits r)) 0) _ _ (steps_of r + suc k) (omega arith) (omega arith)

-- so a path has room for one vertex more than it has steps
pub route_most : (t : List ℕ) (limits : Limits) (a b : ℕ) → (climb_route t limits a b).steps ≤ 2147483648
unfolding climb_route climb_both
route_most t limits a b =
    let t₁ = put t (vertex_area limits) Column.path_vertex 0 a in
    let k = reach t₁ limits a b in
    let r : Trail = record { a = record { 0 = a }; b = record { 0 = b }; left = 0; right = 0 } in
    let c = climb_from k t₁ limits r in
    let most = climbed_most k t₁ limits r in
    let kept = kept_most c.table limits c.trail (kept_left c.table limits c.trail) refl in
    let reached = reach_most t₁ limits a b k refl in
    omega arith
