-- One edge more that may have mates: with a mate it joins the mate's block, and what becomes of the bridge-blocks is told by a block path
-- between its ends.
use mathlib.Core.Bool.{Bool, true, false, ◌&&◌, ◌||◌, or-false}
use mathlib.Core.List.{List, [], ◌∷◌}
use mathlib.Core.Logic.{◌⊎◌, inl, inr, ⊎_elim}
use mathlib.Core.Path.{◌≡◌, refl, sym, ◌∙◌, ap, ap₂, subst}
use Prim.Native.Nat.{ℕ, ◌<◌}
use lib.Dec.{eqb}
use Rattle.graph.specs.Below.{any_below}
use Rattle.graph.specs.Network.{Network, Edge, edge, edge_count, add_edge, Proper, MateRule, touches, parallel, without}
use Rattle.graph.specs.Groups.{bridge, bridge_block}
use Rattle.graph.specs.Cycle.{Step, joins, any_step}
use Rattle.graph.specs.Block.{block, on_block}
use Rattle.graph.specs.BlockPath.{BlockPath}
use Rattle.graph.proofs.Truth.{true_or_false, not_both, false_of_not, not_of_false, bool_ext, or_neither, eq-eqb, eqb_swap}
use Rattle.graph.proofs.Below.{Below, none_below, some_below}
use Rattle.graph.proofs.Gathered.{gathered, gathered_ways, gathered_before}
use Rattle.graph.proofs.Walks.{joins-joined}
use Rattle.graph.proofs.Joins.{joins-apart, touches_no_third}
use Rattle.graph.proofs.Ducts.{parallel_sym, parallel_trans}
use Rattle.graph.proofs.Mates.{mates_cases}
use Rattle.graph.proofs.MateLoss.{NoMate}
use Rattle.graph.proofs.Links.{parallel_edges_share_block}
use Rattle.graph.proofs.Ends.{touches_left, touches_right}
use Rattle.graph.proofs.LoneEdge.{lone_edge}
use Rattle.graph.proofs.Steps.{steps_to}
use Rattle.graph.proofs.BridgeBlock.{bridge_block_refl, bridge_block_sym, bridge_block_trans}
use Rattle.graph.proofs.BlockVertices.{end_on_block}
use Rattle.graph.proofs.BlockPath.{Onward, onward, stays, one_step, steps_to_first, steps_to_next, steps_to_none, start_fresh, visited_differs, end_visited, path_parts_at_vertex}
use Rattle.graph.proofs.BridgeVertices.{on_bridge_joins, bridge_of_block_vertices}
use Rattle.graph.proofs.EdgeMoreBlocks.{joins_path, new_ends_differ, block_edge_within}
use Rattle.graph.proofs.EdgeMoreBridges.{mate_joins, bridge_block_mate}
use Rattle.graph.proofs.EdgeMoreBridgeBlocks.{on_bridge_blocks, on_bridge_blocks_lem, bridge_block_edge_within}

-- edge s is the new edge or in the block of t
abbrev pub joins_mate : Network → ℕ → ℕ → Bool
joins_mate g t s = eqb s (edge_count g) || block g t s

-- the path through the block of t alone joins that block
joins_one_step : (g : Network) (t b s : ℕ) → joins_path g (record { along = t; to = b } ∷ []) s ≡ joins_mate g t s
unfolding joins_path any_step
joins_one_step g t b s = ap (λ z. eqb s (edge_count g) || z) (or-false (block g t s))

-- a new edge with a mate joins the mate's block, and no other block changes
pub block_edge_mate : (g : Network) (e : Edge) → Proper g → Proper (add_edge g e) → MateRule g.rule
    → (t : ℕ) → t < edge_count g → g.rule (edge g t) e ≡ true → (s u : ℕ)
    → block (add_edge g e) s u ≡ (block g s u || (joins_mate g t s && joins_mate g t u))
block_edge_mate g e r r' rule t h m s u =
    block_edge_within g e r r' (one_step g t e.left e.right h ends.0 ends.1 (new_ends_differ g e r r')) s u
    ∙ ap₂ (λ x y. block g s u || (x && y)) (joins_one_step g t e.right s) (joins_one_step g t e.right u)
  where
    ends : (on_block g t e.left ≡ true) × (on_block g t e.right ≡ true)
    ends =
        mate_joins g e rule t h m (λ x y. (on_block g t x ≡ true) × (on_block g t y ≡ true)) (λ x y k. (k.1, k.0))
        (end_on_block g t _ h (touches_left (edge g t)), end_on_block g t _ h (touches_right (edge g t)))

module _ (g : Network) (e : Edge) (proper : Proper g) (rule : MateRule g.rule) where
  -- an old edge that is a mate of the new one, or that there is none
  mate_or_none : Below (edge_count g) (λ s. g.rule (edge g s) e) ⊎ NoMate g e
  mate_or_none = ⊎_elim
      (λ k. inl (some_below (edge_count g) (λ s. g.rule (edge g s) e) k))
      (λ n. inr (none_below (edge_count g) (λ s. g.rule (edge g s) e) n))
      (true_or_false (any_below (edge_count g) (λ s. g.rule (edge g s) e)))

  -- a mate joins the ends of the new edge
  mate_over : (s : ℕ) → g.rule (edge g s) e ≡ true → joins (edge g s) e.left e.right ≡ true
  unfolding parallel joins
  mate_over s m = rule.only_parallel (edge g s) e m

  -- no edge joins the ends of a path with more than one step
  long_path_no_edge : {p q : Step} {ps : List Step} → BlockPath g e.left (p ∷ q ∷ ps) e.right → (s : ℕ) → s < edge_count g
      → joins (edge g s) e.left e.right ≡ true → ⊥
  unfolding without
  long_path_no_edge {p} {q} {ps} path s h j =
      not_both
      (joins-joined g (without g p.to) s h misses e.left e.right j)
      (path_parts_at_vertex g proper path p.to (steps_to_next p.to p (q ∷ ps) refl) before_end)
    where
      o : Onward g e.left p (q ∷ ps) e.right
      o = onward path

      end_differs : eqb e.right p.to ≡ false
      end_differs = visited_differs e.right p.to (q ∷ ps) (end_visited o.rest) (start_fresh o.rest)

      before_end : eqb p.to e.right ≡ false
      before_end = eqb_swap p.to e.right ∙ end_differs

      misses : touches (edge g s) p.to ≡ false
      misses =
          false_of_not (touches (edge g s) p.to)
          (λ c. not_both (touches_no_third (edge g s) p.to e.left e.right j c) (or_neither o.away end_differs))

  -- the path has one step
  module _ {p : Step} (path : BlockPath g e.left (p ∷ []) e.right) where
    o : Onward g e.left p [] e.right
    o = onward path

    on_end : on_block g p.along e.right ≡ true
    on_end = rw (stays o.rest) at o.on_end

    apart : eqb e.left e.right ≡ false
    apart = rw (stays o.rest) at o.away

    -- where its ends lie in different bridge-blocks, its edge is a bridge that joins them
    step_bridge : bridge_block g e.left e.right ≡ false → bridge g p.along ≡ true
    step_bridge n =
        bridge_of_block_vertices g proper rule p.along o.known e.left e.right o.on_start on_end apart ∙ not_of_false n

    step_parallel : bridge_block g e.left e.right ≡ false → parallel (edge g p.along) e ≡ true
    unfolding parallel joins
    step_parallel n =
        on_bridge_joins g proper rule p.along o.known (step_bridge n) e.left e.right o.on_start on_end apart

    -- then it is a mate of the new edge if any old edge is
    step_mate : bridge_block g e.left e.right ≡ false → (s : ℕ) → s < edge_count g → g.rule (edge g s) e ≡ true
        → g.rule (edge g p.along) e ≡ true
    step_mate n s h m =
        ⊎_elim (λ q. subst (λ (u : ℕ). g.rule (edge g u) e ≡ true) (sym q) m)
        (λ k. rule.transitive (edge g p.along) (edge g s) e k m)
        (mates_cases g p.along s (lone_edge g proper rule p.along s o.known h (step_bridge n)
        (parallel_edges_share_block g p.along s o.known h
        (parallel_trans (edge g p.along) e (edge g s) (step_parallel n) (parallel_sym (edge g s) e (rule.only_parallel (edge g s) e m))))))

    -- where its ends share a bridge-block, making the bridge-blocks on it one changes none
    step_within : bridge_block g e.left e.right ≡ true → (x y : ℕ)
        → gathered (bridge_block g) (on_bridge_blocks g e.left (p ∷ [])) x y ≡ bridge_block g x y
    step_within w x y =
        bool_ext (gathered (bridge_block g) on x y) (bridge_block g x y)
        (λ k. ⊎_elim (λ q. q)
        (λ h. bridge_block_trans g x e.left y (bridge_block_sym g e.left x (with_start x h.0)) (with_start y h.1))
        (gathered_ways (bridge_block g) on x y k))
        (gathered_before (bridge_block g) on x y)
      where
        on : ℕ → Bool
        on = on_bridge_blocks g e.left (p ∷ [])

        visited : (v : ℕ) → (p.to ≡ v) ⊎ (steps_to v [] ≡ true) → bridge_block g e.left v ≡ true
        visited v (inl q) = subst (λ (u : ℕ). bridge_block g e.left u ≡ true) (sym (stays o.rest) ∙ q) w
        visited v (inr k) = absurd (not_both k (steps_to_none v))

        with_start : (z : ℕ) → on z ≡ true → bridge_block g e.left z ≡ true
        with_start z h =
            let r = on_bridge_blocks_lem g e.left (p ∷ []) z h in
            bridge_block_trans g e.left r.vertex z
            (⊎_elim
            (λ q. subst (λ (u : ℕ). bridge_block g e.left u ≡ true) q (bridge_block_refl g e.left))
            (λ k. visited r.vertex (steps_to_first r.vertex p [] k))
            r.on_path_lem)
            r.shares

    -- no bridge-block changes if the edge of the step is a mate of the new one wherever it is parallel to it
    pub bridge_block_step_mate : (parallel (edge g p.along) e ≡ true → g.rule (edge g p.along) e ≡ true) → (x y : ℕ)
        → bridge_block (add_edge g e) x y ≡ bridge_block g x y
    bridge_block_step_mate mate x y = ⊎_elim
        (λ w. ⊎_elim
        (λ s. bridge_block_mate g e rule s.at s.below s.passes x y)
        (λ none. bridge_block_edge_within g e proper rule none path x y ∙ step_within w x y)
        mate_or_none)
        (λ n. bridge_block_mate g e rule p.along o.known (mate (step_parallel n)) x y)
        (true_or_false (bridge_block g e.left e.right))

  -- else the bridge-blocks on a block path between the new edge's ends become one, and no other changes
  pub bridge_block_edge_path : {ps : List Step} → BlockPath g e.left ps e.right
      → ((p : Step) → ps ≡ p ∷ [] → g.rule (edge g p.along) e ≡ false) → (x y : ℕ)
      → bridge_block (add_edge g e) x y ≡ (bridge_block g x y || (on_bridge_blocks g e.left ps x && on_bridge_blocks g e.left ps y))
  bridge_block_edge_path {ps} path no_mate x y =
      ⊎_elim (λ s. with_mate ps path no_mate s) (λ none. bridge_block_edge_within g e proper rule none path x y) mate_or_none
    where
      with_mate : (ps : List Step) → BlockPath g e.left ps e.right
          → ((p : Step) → ps ≡ p ∷ [] → g.rule (edge g p.along) e ≡ false) → Below (edge_count g) (λ s. g.rule (edge g s) e)
          → bridge_block (add_edge g e) x y ≡ gathered (bridge_block g) (on_bridge_blocks g e.left ps) x y
      with_mate [] path no_mate s =
          absurd (not_both (eq-eqb e.left e.right (stays path)) (joins-apart g proper s.at s.below e.left e.right (mate_over s.at s.passes)))
      with_mate (p ∷ []) path no_mate s = ⊎_elim
          (λ w. bridge_block_mate g e rule s.at s.below s.passes x y ∙ sym (step_within path w x y))
          (λ n. absurd (not_both (step_mate path n s.at s.below s.passes) (no_mate p refl)))
          (true_or_false (bridge_block g e.left e.right))
      with_mate (p ∷ q ∷ ps) path no_mate s = absurd (long_path_no_edge path s.at s.below (mate_over s.at s.passes))
