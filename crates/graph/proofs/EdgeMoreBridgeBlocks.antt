-- One edge more within a component and without a mate: the bridge-blocks of the vertices of a block path between its ends become
-- one, and no other changes.
use mathlib.Core.Bool.{Bool, true, false, ◌&&◌, ◌||◌, false≢true}
use mathlib.Core.List.{List, [], ◌∷◌}
use mathlib.Core.Logic.{◌⊎◌, inl, inr, ⊎_elim}
use mathlib.Core.Path.{◌≡◌, refl, sym, ◌∙◌, ap, subst}
use Prim.Native.Nat.{ℕ, ◌<◌}
use lib.Dec.{eqb}
use Rattle.graph.specs.Lists.{is_in}
use Rattle.graph.specs.Network.{Network, Edge, MateRule, Proper, edge, edge_count, add_edge, nothing, loss_of, joined}
use Rattle.graph.specs.Groups.{component, bridge, bridge_block}
use Rattle.graph.specs.Cycle.{Step, any_step}
use Rattle.graph.specs.Travel.{first_mate}
use Rattle.graph.specs.BlockPath.{BlockPath}
use Rattle.graph.proofs.Truth.{true_or_false, bool_ext, true_of_not_false, or_left, or_right, or_cases, eqb_eq}
use Rattle.graph.proofs.Gathered.{gathered, gathered_ways, gathered_before, gathered_both, gathered_equivalence}
use Rattle.graph.proofs.Labels.{merged, before, across, merged_true}
use Rattle.graph.proofs.Joined.{joined_refl, joined_sym, joined_trans, joined_old, joined_least, each_edge_more, old_or_new}
use Rattle.graph.proofs.Steps.{any_more, steps_to}
use Rattle.graph.proofs.Losses.{AtEnd, joined_or_at_ends}
use Rattle.graph.proofs.BridgeBlock.{in_bridge_block, bridge_block_refl, bridge_block_sym, bridge_block_trans}
use Rattle.graph.proofs.BridgeBlock.{bridge_block_equivalence, bridge_block_is_joined_off_bridges, bridge_parts_bridge_blocks}
use Rattle.graph.proofs.BlockPath.{steps_to_next, steps_to_later, end_on_path, path_component}
use Rattle.graph.proofs.MateEdges.{mates-joins}
use Rattle.graph.proofs.Joins.{joins_carries}
use Rattle.graph.proofs.Travel.{first_mate_lem}
use Rattle.graph.proofs.PathCuts.{joined_through_path}
use Rattle.graph.proofs.PathBridges.{path_bridges, PathBridge, in_path_bridges, loss_parts_path}
use Rattle.graph.proofs.Grows.{bridge_block_grows}
use Rattle.graph.proofs.MateLoss.{NoMate}
use Rattle.graph.proofs.EdgeMoreBridges.{rule_more, loss_kept, loss_new, bridge_old_within}

-- vertex x lies in the bridge-block of a vertex of the path from a
unfoldable pub on_bridge_blocks : Network → ℕ → List Step → ℕ → Bool
on_bridge_blocks g a ps x = bridge_block g a x || any_step (λ p. bridge_block g p.to x) ps

-- a vertex of the path, and that x lies in its bridge-block
pub record OnBridgeBlocks (g : Network) (a : ℕ) (ps : List Step) (x : ℕ) : Type 0 where
  pub vertex : ℕ
  pub on_path_lem : (a ≡ vertex) ⊎ (steps_to vertex ps ≡ true)
  pub shares : bridge_block g vertex x ≡ true

-- some step leads to a vertex that passes the test
some_visited : (f : ℕ → Bool) (ps : List Step) → any_step (λ p. f p.to) ps ≡ true
    → (v : ℕ) × (steps_to v ps ≡ true) × (f v ≡ true)
unfolding any_step
some_visited f [] e = absurd (false≢true e)
some_visited f (p ∷ ps) e = go (or_cases (f p.to) (any_step (λ q. f q.to) ps) e) (some_visited f ps)
  where
    go : (f p.to ≡ true) ⊎ (any_step (λ q. f q.to) ps ≡ true)
        → (any_step (λ q. f q.to) ps ≡ true → (v : ℕ) × (steps_to v ps ≡ true) × (f v ≡ true))
        → (v : ℕ) × (steps_to v (p ∷ ps) ≡ true) × (f v ≡ true)
    go (inl k) r = (p.to, steps_to_next p.to p ps refl, k)
    go (inr k) r = let w = r k in (w.0, steps_to_later w.0 p ps w.1, w.2)

module _ (g : Network) (a : ℕ) (ps : List Step) where
  -- where x lies in the bridge-block of a vertex of the path, here is one
  pub on_bridge_blocks_lem : (x : ℕ) → on_bridge_blocks g a ps x ≡ true → OnBridgeBlocks g a ps x
  unfolding on_bridge_blocks
  on_bridge_blocks_lem x e =
      ⊎_elim (λ k. record { vertex = a; on_path_lem = inl refl; shares = k })
      (λ k. let w = some_visited (λ v. bridge_block g v x) ps k in record { vertex = w.0; on_path_lem = inr w.1; shares = w.2 })
      (or_cases (bridge_block g a x) (any_step (λ p. bridge_block g p.to x) ps) e)

  -- what lies in the bridge-block of a vertex of the path lies on the path's bridge-blocks
  pub bridge_blocks_on : (x : ℕ) → OnBridgeBlocks g a ps x → on_bridge_blocks g a ps x ≡ true
  unfolding on_bridge_blocks
  bridge_blocks_on x r = ⊎_elim
      (λ q. or_left (subst (λ v. bridge_block g v x ≡ true) (sym q) r.shares) (any_step (λ p. bridge_block g p.to x) ps))
      (λ w. or_right (bridge_block g a x) (any_more (λ p. eqb p.to r.vertex) (λ p. bridge_block g p.to x)
      (λ p q. rw (eqb_eq p.to r.vertex q) r.shares) ps w))
      r.on_path_lem

  -- a vertex of the path lies on the path's bridge-blocks
  path_on_bridge_blocks : (x : ℕ) → (a ≡ x) ⊎ (steps_to x ps ≡ true) → on_bridge_blocks g a ps x ≡ true
  path_on_bridge_blocks x w = bridge_blocks_on x (record { vertex = x; on_path_lem = w; shares = bridge_block_refl g x })

  -- whole bridge-blocks lie on the path's bridge-blocks
  pub bridge_blocks_whole : (x y : ℕ) → bridge_block g x y ≡ true → on_bridge_blocks g a ps x ≡ true → on_bridge_blocks g a ps y ≡ true
  bridge_blocks_whole x y e h =
      let r = on_bridge_blocks_lem x h in
      bridge_blocks_on y (record { vertex = r.vertex; on_path_lem = r.on_path_lem; shares = bridge_block_trans g r.vertex x y r.shares e })

-- whichever edge is lost, of three vertices of one component two stay joined
two_of_three : (g : Network) → MateRule g.rule → (s a b c : ℕ) → component g a b ≡ true → component g a c ≡ true
    → (joined g (loss_of g s) a b ≡ true) ⊎ ((joined g (loss_of g s) a c ≡ true) ⊎ (joined g (loss_of g s) b c ≡ true))
unfolding loss_of component
two_of_three g rule s a b c e f = go (at b e) (at c f)
  where
    J : ℕ → ℕ → Bool
    J = joined g (loss_of g s)

    End : ℕ → Type 0
    End = AtEnd g (loss_of g s) s

    at : (y : ℕ) → component g a y ≡ true → (J a y ≡ true) ⊎ (End a × End y)
    at = joined_or_at_ends g rule (loss_of g s) nothing s (λ t k l. l) a

    meet : (x y z : ℕ) → J x z ≡ true → J y z ≡ true → J x y ≡ true
    meet x y z i j = joined_trans g (loss_of g s) x z y i (joined_sym g (loss_of g s) y z j)

    pick : End a → End b → End c → (J a b ≡ true) ⊎ ((J a c ≡ true) ⊎ (J b c ≡ true))
    pick (inl i) (inl j) k = inl (meet a b (edge g s).left i j)
    pick (inr i) (inr j) k = inl (meet a b (edge g s).right i j)
    pick (inl i) (inr j) (inl k) = inr (inl (meet a c (edge g s).left i k))
    pick (inl i) (inr j) (inr k) = inr (inr (meet b c (edge g s).right j k))
    pick (inr i) (inl j) (inl k) = inr (inr (meet b c (edge g s).left j k))
    pick (inr i) (inl j) (inr k) = inr (inl (meet a c (edge g s).right i k))

    go : (J a b ≡ true) ⊎ (End a × End b) → (J a c ≡ true) ⊎ (End a × End c)
        → (J a b ≡ true) ⊎ ((J a c ≡ true) ⊎ (J b c ≡ true))
    go (inl j) k = inl j
    go (inr p) (inl j) = inr (inl j)
    go (inr p) (inr q) = pick p.0 p.1 q.1

module _ (g : Network) (e : Edge) (proper : Proper g) (rule : MateRule g.rule)
    (none : NoMate g e) where
  -- two vertices share a bridge-block after if they share a component and, whichever old edge is lost, are joined were the ends of
  -- the new edge joined
  in_bridge_block_more : (x y : ℕ) → component g x y ≡ true
      → ((s : ℕ) → s < edge_count g → merged (joined g (loss_of g s)) e.left e.right x y ≡ true)
      → bridge_block (add_edge g e) x y ≡ true
  unfolding component
  in_bridge_block_more x y c w =
      in_bridge_block (add_edge g e) x y (joined_old g e nothing x y c) (λ s h. each s (old_or_new g e s h))
    where
      each : (s : ℕ) → (s < edge_count g) ⊎ (s ≡ edge_count g) → joined (add_edge g e) (loss_of (add_edge g e) s) x y ≡ true
      each s (inl h) = loss_kept g e s x y h (none s h) ∙ w s h
      each s (inr q) = rw q (loss_new g e rule none x y ∙ c)

  module _ {ps : List Step} (path : BlockPath g e.left ps e.right) where
    visited-component : (v : ℕ) → steps_to v ps ≡ true → component g e.left v ≡ true
    unfolding component
    visited-component = joined_through_path g proper path nothing (path_component path)

    -- whichever edge is lost, a vertex of the path is joined to one of its ends
    near_end : (s v : ℕ) → steps_to v ps ≡ true
        → (joined g (loss_of g s) e.left v ≡ true) ⊎ (joined g (loss_of g s) e.right v ≡ true)
    near_end s v w =
        ⊎_elim (λ j. inl (joined_through_path g proper path (loss_of g s) j v w)) (λ k. k)
        (two_of_three g rule s e.left e.right v (path_component path) (visited-component v w))

    -- every vertex of the path shares a bridge-block with its start after
    bridge_blocks_meet : (v : ℕ) → (e.left ≡ v) ⊎ (steps_to v ps ≡ true) → bridge_block (add_edge g e) e.left v ≡ true
    bridge_blocks_meet v (inl q) =
        subst (λ u. bridge_block (add_edge g e) e.left u ≡ true) q (bridge_block_refl (add_edge g e) e.left)
    bridge_blocks_meet v (inr w) = in_bridge_block_more e.left v (visited-component v w)
        (λ s h. merged_true (joined g (loss_of g s)) e.left e.right e.left v
        (⊎_elim before (across (joined_refl g (loss_of g s) e.left)) (near_end s v w)))

    on_bridge_blocks_meet : (x : ℕ) → on_bridge_blocks g e.left ps x ≡ true → bridge_block (add_edge g e) e.left x ≡ true
    on_bridge_blocks_meet x h =
        let r = on_bridge_blocks_lem g e.left ps x h in
        bridge_block_trans (add_edge g e) e.left r.vertex x (bridge_blocks_meet r.vertex r.on_path_lem)
        (bridge_block_grows g e rule r.vertex x r.shares)

    -- an edge whose loss parts the ends of the path has both its ends on the path
    parting_edge_on_bridge_blocks : (t : ℕ) → joined g (loss_of g t) e.left e.right ≡ false
        → (on_bridge_blocks g e.left ps (edge g t).left ≡ true) × (on_bridge_blocks g e.left ps (edge g t).right ≡ true)
    parting_edge_on_bridge_blocks t n =
        joins_carries (λ x y. (on_bridge_blocks g e.left ps x ≡ true) × (on_bridge_blocks g e.left ps y ≡ true)) (λ x y k. (k.1, k.0)) (edge g t)
        q.start q.end (mates-joins g rule (first_mate g t) t (first_mate_lem g t) q.start q.end q.over)
        (path_on_bridge_blocks g e.left ps q.start q.on_start, path_on_bridge_blocks g e.left ps q.end (inr q.on_end))
      where
        q : PathBridge g e.left ps e.right (first_mate g t)
        q = in_path_bridges g proper rule path (first_mate g t)
            (true_of_not_false (is_in (first_mate g t) (path_bridges g e.left ps)) (sym (loss_parts_path g proper rule path t) ∙ n))

    -- the bridge-blocks of the vertices of a block path between the new edge's ends become one, and no other changes
    pub bridge_block_edge_within : (x y : ℕ)
        → bridge_block (add_edge g e) x y ≡ (bridge_block g x y || (on_bridge_blocks g e.left ps x && on_bridge_blocks g e.left ps y))
    bridge_block_edge_within x y = bool_ext (bridge_block (add_edge g e) x y) (gathered (bridge_block g) on x y)
        (λ b. joined_least (λ u v. gathered (bridge_block g) on u v ≡ true)
        (gathered_equivalence (bridge_block g) on (bridge_block_equivalence g) (bridge_blocks_whole g e.left ps))
        (add_edge g e) (bridge (add_edge g e)) (each_edge_more P g e old new) x y
        (sym (bridge_block_is_joined_off_bridges (add_edge g e) (rule_more g e rule) x y) ∙ b))
        (λ k. ⊎_elim (bridge_block_grows g e rule x y)
        (λ h. bridge_block_trans (add_edge g e) x e.left y (bridge_block_sym (add_edge g e) e.left x (on_bridge_blocks_meet x h.0))
        (on_bridge_blocks_meet y h.1))
        (gathered_ways (bridge_block g) on x y k))
      where
        on : ℕ → Bool
        on = on_bridge_blocks g e.left ps

        P : ℕ → Edge → Type 0
        P t f = bridge (add_edge g e) t ≡ false → gathered (bridge_block g) on f.left f.right ≡ true

        new : P (edge_count g) e
        new n = gathered_both (bridge_block g) on e.left e.right
            (path_on_bridge_blocks g e.left ps e.left (inl refl)) (path_on_bridge_blocks g e.left ps e.right (end_on_path path))

        old : (t : ℕ) → t < edge_count g → P t (edge g t)
        old t h n = ⊎_elim
            (λ b. let k = parting_edge_on_bridge_blocks t (sym (ap (λ c. c && joined g (loss_of g t) e.left e.right) b)
            ∙ sym (bridge_old_within g e rule (path_component path) none t h) ∙ n) in
            gathered_both (bridge_block g) on (edge g t).left (edge g t).right k.0 k.1)
            (λ b. gathered_before (bridge_block g) on (edge g t).left (edge g t).right
            (true_of_not_false (bridge_block g (edge g t).left (edge g t).right) (sym (bridge_parts_bridge_blocks g rule t h) ∙ b)))
            (true_or_false (bridge g t))
