-- Vertices outlive k losses exactly if they are (k + 1)-edge-connected, in the words of document 000, in the network in which each set of
-- mates is one edge; and in the network itself, where no edge is lost with another.
use mathlib.Core.Bool.{true, false, ◌||◌}
use mathlib.Core.List.{List, [], ◌∷◌}
use mathlib.Core.Logic.Iff
use mathlib.Core.Logic.{◌⊎◌, inl, inr, ◌↔◌}
use mathlib.Core.Path.{◌≡◌, refl, sym, ◌∙◌, ap, ap₂}
use Prim.Native.Nat.{ℕ, suc, ◌<◌, ◌≤◌}
use native.Mathlib.Omega.{arith}
use lib.Dec.{eqb, ltb}
use lib.ListN.{length}
use Rattle.graph.specs.Lists.{is_in}
use Rattle.graph.specs.Network.{Network, MateRule, never, edge_count, nothing, mates-never}
use Rattle.graph.specs.Groups.{component, bridge_block, outlive_two}
use Rattle.graph.specs.EdgeConnected.{EdgeConnected, loss_of_all, OnlyEdges, Outlives}
use Rattle.graph.specs.Reduced.{reduced}
use Rattle.graph.proofs.Truth.{true_or_false, eqb_swap, ne_eqb, ltb_lt, ltb_ge}
use Rattle.graph.proofs.Joined.{joined_same_loss}
use Rattle.graph.proofs.Outlives.{only_edges_nil, only_edges_cons, component_exactly, bridge_block_exactly, outlive_two_exactly}
use Rattle.graph.proofs.ImageLosses.{outlives_image}
use Rattle.graph.proofs.Reduced.{reduced-never, reduced_image}

-- the edges among the numbers of a list
record EdgesAmong (g : Network) (removed : List ℕ) : Type 0 where
  edges : List ℕ
  few : length edges ≤ length removed
  known : OnlyEdges g edges
  same : (s : ℕ) → s < edge_count g → is_in s edges ≡ is_in s removed

-- every list has them
edges_among : (g : Network) (removed : List ℕ) → EdgesAmong g removed
unfolding is_in
edges_among g [] = record { edges = []; few = omega arith; known = only_edges_nil g; same = λ s h. refl }
edges_among g (r ∷ rs) = go (edges_among g rs) (true_or_false (ltb r (edge_count g)))
  where
    go : EdgesAmong g rs → (ltb r (edge_count g) ≡ true) ⊎ (ltb r (edge_count g) ≡ false) → EdgesAmong g (r ∷ rs)
    go w (inl e) =
        record {
          edges = r ∷ w.edges;
          few = omega (arith, w.few);
          known = only_edges_cons g r w.edges (ltb_lt r (edge_count g) e) w.known;
          same = λ s h. ap (λ b. eqb s r || b) (w.same s h);
        }
    go w (inr e) =
        let l = ltb_ge r (edge_count g) e in
        record {
          edges = w.edges;
          few = omega (arith, w.few);
          known = w.known;
          same = λ s h. w.same s h ∙ sym (ap (λ b. b || is_in s rs) (ne_eqb s r (λ q. omega (arith, q, h, l))));
        }

module _ (g : Network) (none : g.rule ≡ never) where
  -- where no edge is lost with another, the loss of a list's edges is that of what is in the list
  lost_in_list : (ss : List ℕ) (t : ℕ) → loss_of_all g ss t ≡ is_in t ss
  unfolding loss_of_all nothing is_in
  lost_in_list [] t = refl
  lost_in_list (s ∷ ss) t = ap₂ ◌||◌ (mates-never g none s t ∙ eqb_swap s t) (lost_in_list ss t)

  -- so to outlive k losses is to be (k + 1)-edge-connected
  pub outlives_edge_connected : (k x y : ℕ) → Outlives k g x y ↔ EdgeConnected (suc k) g x y
  outlives_edge_connected k x y = (
    λ w removed l.
        let a = edges_among g removed in
        joined_same_loss g _ _ (λ s h. sym (lost_in_list a.edges s ∙ a.same s h)) x y
        ∙ w a.edges (omega (arith, a.few, l)) a.known,
    λ w ss l known. joined_same_loss g _ _ (λ s h. lost_in_list ss s) x y ∙ w ss (omega (arith, l)),
  )

  -- vertices share a component exactly if they are 1-edge-connected,
  pub component_edge_connected : (x y : ℕ) → (component g x y ≡ true) ↔ EdgeConnected 1 g x y
  component_edge_connected x y = Iff.trans (component_exactly g x y) (outlives_edge_connected 0 x y)

  -- a bridge-block exactly if they are 2-edge-connected,
  pub bridge_block_edge_connected : (x y : ℕ) → (bridge_block g x y ≡ true) ↔ EdgeConnected 2 g x y
  bridge_block_edge_connected x y = Iff.trans (bridge_block_exactly g x y) (outlives_edge_connected 1 x y)

  -- and outlive two losses exactly if they are 3-edge-connected
  pub outlive_two_edge_connected : (x y : ℕ) → (outlive_two g x y ≡ true) ↔ EdgeConnected 3 g x y
  outlive_two_edge_connected x y = Iff.trans (outlive_two_exactly g x y) (outlives_edge_connected 2 x y)

module _ (g : Network) (rule : MateRule g.rule) where
  -- under any rule of mates, to outlive k losses is to be (k + 1)-edge-connected where each set of mates is one edge
  pub outlives_reduced : (k x y : ℕ) → Outlives k g x y ↔ EdgeConnected (suc k) (reduced g) x y
  outlives_reduced k x y =
      Iff.trans (outlives_image (reduced_image g rule) rule k x y) (outlives_edge_connected (reduced g) (reduced-never g) k x y)

  -- so vertices share a component exactly if they are 1-edge-connected there,
  pub one_edge_connected_reduced : (x y : ℕ) → (component g x y ≡ true) ↔ EdgeConnected 1 (reduced g) x y
  one_edge_connected_reduced x y = Iff.trans (component_exactly g x y) (outlives_reduced 0 x y)

  -- a bridge-block exactly if they are 2-edge-connected there,
  pub two_edge_connected_reduced : (x y : ℕ) → (bridge_block g x y ≡ true) ↔ EdgeConnected 2 (reduced g) x y
  two_edge_connected_reduced x y = Iff.trans (bridge_block_exactly g x y) (outlives_reduced 1 x y)

  -- and outlive two losses exactly if they are 3-edge-connected there
  pub three_edge_connected_reduced : (x y : ℕ) → (outlive_two g x y ≡ true) ↔ EdgeConnected 3 (reduced g) x y
  three_edge_connected_reduced x y = Iff.trans (outlive_two_exactly g x y) (outlives_reduced 2 x y)
