-- The path that is written down: which bridge-blocks one edge more between its ends makes one, those of all its vertices, or none where
-- the new edge lies in the duct of the path's only step.
use Rattle.std.proofs.Common.{◌≡◌, ℕ, suc, ◌+◌, ◌<◌, ◌≤◌, Bool, true, false, cond, ◌&&◌, ◌||◌, eqb, ◌⊎◌, List, [], ◌∷◌, map, length, get_or, sym, ap, ◌∙◌, subst, ap₂, inl, inr, ⊎_elim, add-one, arith}
use mathlib.Core.Bool.{or-false}
use Rattle.graph.specs.Below.{tabulate, length_tabulate}
use Rattle.graph.specs.Network.{Network, Edge, edge_in_duct, parallel, Rule, one_duct, edge}
use Rattle.graph.specs.Groups.{bridge_block}
use Rattle.graph.specs.Cycle.{Step}
use Rattle.graph.specs.BlockPath.{BlockPath}
use Rattle.graph.proofs.Truth.{true_or_false, not_both, bool_ext, false_of_not, and_left, and_right, and_both, or_cases, or_left, eqb_eq, eq-eqb}
use Rattle.graph.proofs.Ducts.{one_duct_lem, in_one_duct}
use Rattle.graph.proofs.EdgeMoreBridgeBlocks.{on_bridge_blocks}
use Rattle.graph.proofs.MateMore.{bridge_block_step_mate, bridge_block_edge_path}
use Rattle.naming.specs.Rename.{Grouping}
use Rattle.naming.proofs.Equivalent.{Equivalent}
use Rattle.naming.proofs.Listed.{tabulate_first, map_tabulate}
use Rattle.naming.proofs.Merge.{in_merged}
use Rattle.numbers.specs.declared.Limits.{Limits}
use Rattle.forest.specs.Rule.{table_rule_lem}
use Rattle.forest.specs.Inside.Words.{duct_of}
use Rattle.forest.specs.Inside.Climb.{path_vertex, path_edge}
use Rattle.forest.specs.Inside.Route.{step_at, steps_of}
use Rattle.forest.specs.Inside.Tree.{in_step_duct, merged_vertices}
use Rattle.forest.specs.Inside.Valid.{stored_edge, network_of}
use Rattle.forest.proofs.Networks.{SameEdges, network_rule, bridge_block_groups}
use Rattle.forest.proofs.EdgeToAdd.{EdgeToAdd, edge_of, before, after, edge_stored, stored_old, stored_new}
use Rattle.forest.proofs.Values.{in_merged_steps}
use Rattle.forest.proofs.QueryNames.{network-edge}
use Rattle.forest.proofs.CondensePath.{vertices_of, PathWritten}

-- merging one group changes nothing
merge_one : (groups : Grouping) → Equivalent groups → (z x y : ℕ)
    → (groups x y || (in_merged groups (z ∷ []) x && in_merged groups (z ∷ []) y)) ≡ groups x y
unfolding in_merged
merge_one groups e z x y =
    bool_ext (groups x y || ((groups z x || false) && (groups z y || false))) (groups x y)
    (λ q. ⊎_elim (λ k. k) within (or_cases (groups x y) ((groups z x || false) && (groups z y || false)) q))
    (λ q. or_left q ((groups z x || false) && (groups z y || false)))
  where
    within : ((groups z x || false) && (groups z y || false)) ≡ true → groups x y ≡ true
    within q =
        e.transitive x z y
        (e.symmetric z x (sym (or-false (groups z x)) ∙ and_left (groups z x || false) (groups z y || false) q))
        (sym (or-false (groups z y)) ∙ and_right (groups z x || false) (groups z y || false) q)

module _ {new : EdgeToAdd} {t : List ℕ} {k : ℕ} (w : PathWritten new t k)
    (kept : SameEdges new.limits (suc new.m) (edge_stored new) t) where
  open new use {limits, n, m, valid, a, b, d}

  abbrev g : Network
  g = before new

  abbrev steps : List Step
  steps = steps_of t limits k

  -- The edge of the path's first step.
  abbrev first : ℕ
  first = path_edge t limits 0

  -- the rule of mates is that of ducts
  rule_is : (before new).rule ≡ one_duct
  unfolding network_of
  rule_is = table_rule_lem

  -- the table has the new edge's duct, and that of the path's first edge
  duct_new : duct_of t limits m ≡ d
  unfolding stored_edge edge_in_duct
  duct_new = ap (λ (e : Edge). e.duct) (kept m (omega arith) ∙ stored_new new)

  duct_first : duct_of t limits first ≡ (edge g first).duct
  unfolding stored_edge edge_in_duct
  duct_first =
      ap (λ (e : Edge). e.duct)
      (kept first (omega (arith, known)) ∙ stored_old new first known ∙ sym (network-edge limits n m new.t first known))
    where
      known : first < m
      known = w.edges_known 0 w.some

  -- so what the code tests is told by the network's edges
  step_duct_is : in_step_duct t limits m k ≡ (eqb k 1 && eqb (edge g first).duct d)
  unfolding in_step_duct
  step_duct_is = rw (duct_new, duct_first)

  -- where the test holds, the path has one step, whose edge lies in the new edge's duct
  step_duct_parts : in_step_duct t limits m k ≡ true → (k ≡ 1) × ((edge g first).duct ≡ d)
  step_duct_parts j = (
    eqb_eq k 1 (and_left (eqb k 1) (eqb (edge g first).duct d) both),
    eqb_eq (edge g first).duct d (and_right (eqb k 1) (eqb (edge g first).duct d) both),
  )
    where
      both : (eqb k 1 && eqb (edge g first).duct d) ≡ true
      both = sym step_duct_is ∙ j

  -- so that edge is a mate of the new one wherever it is parallel to it
  step_duct_mate : in_step_duct t limits m k ≡ true → parallel (edge g first) (edge_of new) ≡ true → g.rule (edge g first) (edge_of new) ≡ true
  unfolding edge_in_duct
  step_duct_mate j p =
      subst (λ (r : Rule). r (edge g first) (edge_of new) ≡ true) (sym rule_is)
      (in_one_duct (edge g first) (edge_of new) (step_duct_parts j).1 p)

  -- where it does not, the edge of the path's only step is no mate of it
  step_duct_none : in_step_duct t limits m k ≡ false → k ≡ 1 → g.rule (edge g first) (edge_of new) ≡ false
  unfolding edge_in_duct
  step_duct_none j one =
      false_of_not (g.rule (edge g first) (edge_of new))
      (λ r.
      let c = one_duct_lem (edge g first) (edge_of new) (subst (λ (r : Rule). r (edge g first) (edge_of new) ≡ true) rule_is r) in
      not_both (step_duct_is ∙ and_both (eq-eqb k 1 one) (eq-eqb (edge g first).duct d c.0)) j)

  -- the vertices of the path
  vertices_are : a ∷ map (λ p. p.to) steps ≡ vertices_of t limits (suc k)
  unfolding steps_of step_at
  vertices_are =
      ap₂ ◌∷◌ (sym w.start) (map_tabulate (λ (p : Step). p.to) k _)
      ∙ sym (tabulate_first k (λ i. path_vertex t limits i))

  -- a vertex is in the bridge-block of a vertex of the path
  on_bridge_blocks_merged : (x : ℕ) → on_bridge_blocks g a steps x ≡ in_merged (bridge_block g) (vertices_of t limits (suc k)) x
  unfolding on_bridge_blocks in_merged
  on_bridge_blocks_merged x =
      ap (λ (c : Bool). bridge_block g a x || c) (sym (in_merged_steps (bridge_block g) (λ p. p.to) steps x))
      ∙ ap (λ (l : List ℕ). in_merged (bridge_block g) l x) vertices_are

  -- a path of one step is its first step
  one_step_path : k ≡ 1 → BlockPath g a (step_at t limits 0 ∷ []) b
  unfolding steps_of tabulate
  one_step_path one = subst (λ (j : ℕ). BlockPath g a (steps_of t limits j) b) one w.path

  -- and a list of one step is that of the first
  only_step : (p : Step) → steps ≡ p ∷ [] → (k ≡ 1) × (first ≡ p.along)
  unfolding steps_of step_at tabulate
  only_step p q = (one, ap (λ (l : List Step). (get_or l 0 p).along) (subst (λ (j : ℕ). steps_of t limits j ≡ p ∷ []) one q))
    where
      one : k ≡ 1
      one = sym (length_tabulate k (step_at t limits)) ∙ ap length q

  -- With one edge more between its ends, the bridge-blocks of the path's first j vertices become one.
  abbrev Merged : ℕ → ℕ → ℕ → Type 0
  Merged j x y =
      bridge_block (after new) x y
      ≡ (bridge_block g x y || (in_merged (bridge_block g) (vertices_of t limits j) x && in_merged (bridge_block g) (vertices_of t limits j) y))

  -- where the test holds, the first vertex is all that is merged, which changes nothing
  none_merge : in_step_duct t limits m k ≡ true → (x y : ℕ) → Merged 1 x y
  unfolding edge_in_duct step_at tabulate
  none_merge j x y =
      bridge_block_step_mate g (edge_of new) valid.proper (network_rule limits n m new.t) (one_step_path (step_duct_parts j).0) (step_duct_mate j) x y
      ∙ sym (merge_one (bridge_block g) (bridge_block_groups g) (path_vertex t limits 0) x y)

  -- where it does not, all vertices are
  all_merge : in_step_duct t limits m k ≡ false → (x y : ℕ) → Merged (suc k) x y
  unfolding edge_in_duct
  all_merge j x y =
      bridge_block_edge_path g (edge_of new) valid.proper (network_rule limits n m new.t) w.path
      (λ p q.
      let s = only_step p q in
      subst (λ (f : ℕ). g.rule (edge g f) (edge_of new) ≡ false) s.1 (step_duct_none j s.0))
      x y
      ∙ ap₂ (λ c d. bridge_block g x y || (c && d)) (on_bridge_blocks_merged x) (on_bridge_blocks_merged y)

  -- so the bridge-blocks of as many vertices become one as the code takes
  pub bridge_blocks_merge : (x y : ℕ)
      → bridge_block (after new) x y
      ≡ (bridge_block (before new) x y
      || (in_merged (bridge_block (before new)) (vertices_of t limits (merged_vertices t limits m k)) x
      && in_merged (bridge_block (before new)) (vertices_of t limits (merged_vertices t limits m k)) y))
  unfolding merged_vertices
  bridge_blocks_merge x y = go (true_or_false (in_step_duct t limits m k))
    where
      go : (in_step_duct t limits m k ≡ true) ⊎ (in_step_duct t limits m k ≡ false) → Merged (cond (in_step_duct t limits m k) 1 (k + 1)) x y
      go (inl j) = rw j (none_merge j x y)
      go (inr j) = rw (j, add-one) (all_merge j x y)

-- at least one vertex is taken
pub merged_some : (t : List ℕ) (limits : Limits) (e k : ℕ) → 0 < merged_vertices t limits e k
unfolding merged_vertices
merged_some t limits e k = go (in_step_duct t limits e k)
  where
    go : (b : Bool) → 0 < cond b 1 (k + 1)
    go true = omega arith
    go false = omega arith

-- and none that the path does not have
pub merged_most : (t : List ℕ) (limits : Limits) (e k : ℕ) → merged_vertices t limits e k ≤ k + 1
unfolding merged_vertices
merged_most t limits e k = go (in_step_duct t limits e k)
  where
    go : (b : Bool) → cond b 1 (k + 1) ≤ k + 1
    go true = omega arith
    go false = omega arith
