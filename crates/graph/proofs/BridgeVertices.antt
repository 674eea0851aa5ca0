-- Bridges and bridge-blocks among the vertices of a block: a block is a bridge exactly if its vertices lie in different bridge-blocks.
use mathlib.Core.Bool.{true, false, not}
use mathlib.Core.Logic.{◌⊎◌, inl, inr, ⊎_elim}
use mathlib.Core.Path.{◌≡◌, refl, sym, ◌∙◌, ap}
use Prim.Native.Nat.{ℕ, ◌<◌}
use lib.Dec.{eqb}
use Rattle.graph.specs.Network.{Network, MateRule, Proper, edge, edge_count, touches, other_end, mates, loss_of, joined}
use Rattle.graph.specs.Groups.{bridge, bridge_block}
use Rattle.graph.specs.Cycle.{joins}
use Rattle.graph.specs.Block.{block, on_block}
use Rattle.graph.proofs.Truth.{true_or_false, not_both, bool_ext, not_of_true, true_of_not_false, or_cases, eqb_eq}
use Rattle.graph.proofs.Joined.{joined_swap, joined_less_lost, joined_same_loss}
use Rattle.graph.proofs.Walks.{joins_least}
use Rattle.graph.proofs.Joins.{joins-touches, touches_no_third, touches-joins}
use Rattle.graph.proofs.Mates.{mates_sym, mates_carry, loss_of-mates}
use Rattle.graph.proofs.MateEdges.{mates-joins}
use Rattle.graph.proofs.BridgeBlock.{bridge_block_swap, bridge_block_is_joined_off_bridges, bridge_parts_bridge_blocks}
use Rattle.graph.proofs.Block.{block_sym}
use Rattle.graph.proofs.LoneEdge.{lone_edge}
use Rattle.graph.proofs.BlockVertices.{on_block_lem, block_vertices_joined_within}

-- mates are bridges together
pub bridge-mates : (g : Network) → MateRule g.rule → (s t : ℕ) → mates g s t ≡ true → bridge g s ≡ bridge g t
unfolding bridge
bridge-mates g rule s t m =
    ap not
    (joined_same_loss g (loss_of g s) (loss_of g t) (λ u h. loss_of-mates g rule s t m u) (edge g s).left (edge g s).right
    ∙ mates_carry g rule (λ x y. joined g (loss_of g t) x y ≡ joined g (loss_of g t) (edge g t).left (edge g t).right)
    (λ x y q. joined_swap g (loss_of g t) y x ∙ q) s t m refl)

module _ (g : Network) (proper : Proper g) (rule : MateRule g.rule) where
  -- edges of one block are bridges together
  pub bridge-same-block : (s t : ℕ) → s < edge_count g → t < edge_count g → block g s t ≡ true → bridge g s ≡ bridge g t
  bridge-same-block s t h k e =
      bool_ext (bridge g s) (bridge g t) (over s t h k e) (over t s k h (block_sym g s t e))
    where
      over : (s t : ℕ) → s < edge_count g → t < edge_count g → block g s t ≡ true → bridge g s ≡ true → bridge g t ≡ true
      over s t h k e b = sym (bridge-mates g rule s t (lone_edge g proper rule s t h k b e)) ∙ b

  module _ (s : ℕ) (h : s < edge_count g) where
    -- a vertex on the block of a bridge is an end of the bridge
    pub on_bridge_end : bridge g s ≡ true → (x : ℕ) → on_block g s x ≡ true → touches (edge g s) x ≡ true
    on_bridge_end b x e =
        let o = on_block_lem g s x e in
        joins-touches (edge g s) x (other_end (edge g o.by) x)
        (mates-joins g rule o.by s (mates_sym g rule s o.by (lone_edge g proper rule s o.by h o.known b o.within))
        x (other_end (edge g o.by) x) (touches-joins (edge g o.by) x o.at))

    -- two vertices on the block of a bridge are its two ends
    pub on_bridge_joins : bridge g s ≡ true → (x y : ℕ) → on_block g s x ≡ true → on_block g s y ≡ true → eqb x y ≡ false
        → joins (edge g s) x y ≡ true
    on_bridge_joins b x y e f d = go (or_cases (eqb x y) (eqb z y) (touches_no_third (edge g s) y x z j (on_bridge_end b y f)))
      where
        z : ℕ
        z = other_end (edge g s) x

        j : joins (edge g s) x z ≡ true
        j = touches-joins (edge g s) x (on_bridge_end b x e)

        go : (eqb x y ≡ true) ⊎ (eqb z y ≡ true) → joins (edge g s) x y ≡ true
        go (inl q) = absurd (not_both q d)
        go (inr q) = rw (eqb_eq z y q) at j

    -- the vertices on the block of an edge that is no bridge share a bridge-block
    pub block_within_bridge_block : bridge g s ≡ false → (x y : ℕ) → on_block g s x ≡ true → on_block g s y ≡ true
        → bridge_block g x y ≡ true
    block_within_bridge_block b x y e f =
        bridge_block_is_joined_off_bridges g rule x y
        ∙ joined_less_lost g (λ t. not (block g s t)) (bridge g)
        (λ t k n. sym (bridge-same-block s t h k (true_of_not_false (block g s t) n)) ∙ b)
        x y (block_vertices_joined_within g s x y e f)

    -- an edge is a bridge exactly if two different vertices on its block lie in different bridge-blocks
    pub bridge_of_block_vertices : (x y : ℕ) → on_block g s x ≡ true → on_block g s y ≡ true → eqb x y ≡ false
        → bridge g s ≡ not (bridge_block g x y)
    bridge_of_block_vertices x y e f d = ⊎_elim
        (λ b. joins_least (λ u v. bridge g s ≡ not (bridge_block g u v)) (λ u v q. q ∙ ap not (bridge_block_swap g u v))
        (edge g s) (bridge_parts_bridge_blocks g rule s h) x y (on_bridge_joins b x y e f d))
        (λ b. b ∙ sym (not_of_true (block_within_bridge_block b x y e f)))
        (true_or_false (bridge g s))
