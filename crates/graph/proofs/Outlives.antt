-- Laws of the loss of several edges. Two vertices share a component, share a bridge-block or are in one class of those that outlive two
-- losses exactly if they outlive no loss, one loss, or two.
use mathlib.Core.Bool.{true, ◌||◌, false≢true, or-false}
use mathlib.Core.List.{List, [], ◌∷◌}
use mathlib.Core.Logic.{◌↔◌, ⊎_elim}
use mathlib.Core.Path.{◌≡◌, sym, ◌∙◌, ap}
use Prim.Native.Nat.{ℕ, ◌<◌, ◌≤◌}
use native.Mathlib.Omega.{arith}
use Rattle.graph.specs.Lists.{is_in}
use Rattle.graph.specs.Network.{Network, edge_count, mates, nothing, loss_of, joined}
use Rattle.graph.specs.Groups.{component, bridge_block, loss_of_both, outlive_two}
use Rattle.graph.specs.EdgeConnected.{loss_of_all, OnlyEdges, Outlives}
use Rattle.graph.proofs.Truth.{or_left, or_right}
use Rattle.graph.proofs.Members.{is_in_head, is_in_tail, is_in_cases}
use Rattle.graph.proofs.Joined.{joined_same_loss}
use Rattle.graph.proofs.BridgeBlock.{bridge_block-component, bridge_block_lasts, in_bridge_block}
use Rattle.graph.proofs.TwoLosses.{outlive_two-component, outlive_two_lasts, in_two_loss_class, outlive_two-bridge_block}

-- what outlives more losses outlives fewer
pub fewer_losses : (g : Network) (x y j k : ℕ) → j ≤ k → Outlives k g x y → Outlives j g x y
fewer_losses g x y j k h w ss few = w ss (omega arith)

-- a list without numbers holds edges only
pub only_edges_nil : (g : Network) → OnlyEdges g []
unfolding is_in
only_edges_nil g s e = absurd (false≢true e)

-- so does a list with an edge before others
pub only_edges_cons : (g : Network) (s : ℕ) (ss : List ℕ) → s < edge_count g → OnlyEdges g ss → OnlyEdges g (s ∷ ss)
only_edges_cons g s ss h k t e = ⊎_elim (λ q. rw q h) (k t) (is_in_cases t s ss e)

-- an edge is lost with each edge of a list that it is a mate of
pub lost_with : (g : Network) (ss : List ℕ) (s t : ℕ) → is_in s ss ≡ true → mates g s t ≡ true → loss_of_all g ss t ≡ true
unfolding loss_of_all is_in
lost_with g [] s t i m = absurd (false≢true i)
lost_with g (r ∷ ss) s t i m =
    ⊎_elim (λ q. or_left (rw q at m) (loss_of_all g ss t)) (λ k. or_right (mates g r t) (lost_with g ss s t k m)) (is_in_cases s r ss i)

module _ (g : Network) (x y : ℕ) where
  -- the loss of a list of one edge is the loss of that edge
  joined_loss_of_one : (s : ℕ) → joined g (loss_of_all g (s ∷ [])) x y ≡ joined g (loss_of g s) x y
  unfolding loss_of_all nothing loss_of
  joined_loss_of_one s = joined_same_loss g (loss_of_all g (s ∷ [])) (mates g s) (λ t h. or-false (mates g s t)) x y

  -- the loss of a list of two edges is the loss of both
  joined_loss_of_two : (s t : ℕ) → joined g (loss_of_all g (s ∷ t ∷ [])) x y ≡ joined g (loss_of_both g s t) x y
  unfolding loss_of_all loss_of_both nothing loss_of
  joined_loss_of_two s t =
      joined_same_loss g (loss_of_all g (s ∷ t ∷ [])) (loss_of_both g s t) (λ r h. ap (λ b. mates g s r || b) (or-false (mates g t r))) x y

  -- vertices share a component exactly if they are joined after no loss
  pub component_exactly : (component g x y ≡ true) ↔ Outlives 0 g x y
  unfolding component loss_of_all
  component_exactly = (all, λ w. w [] (omega arith) (only_edges_nil g))
    where
      all : component g x y ≡ true → Outlives 0 g x y
      all e [] h k = e
      all e (s ∷ ss) h k = absurd (omega arith)

  -- vertices share a bridge-block exactly if they outlive one loss
  pub bridge_block_exactly : (bridge_block g x y ≡ true) ↔ Outlives 1 g x y
  bridge_block_exactly = (
    all,
    λ w. in_bridge_block g x y (component_exactly.1 (fewer_losses g x y 0 1 (omega arith) w))
        (λ s h. sym (joined_loss_of_one s) ∙ w (s ∷ []) (omega arith) (only_edges_cons g s [] h (only_edges_nil g))),
  )
    where
      all : bridge_block g x y ≡ true → Outlives 1 g x y
      all e [] h k = component_exactly.0 (bridge_block-component g x y e) [] (omega arith) k
      all e (s ∷ []) h k = joined_loss_of_one s ∙ bridge_block_lasts g x y e s (k s (is_in_head s []))
      all e (s ∷ t ∷ ss) h k = absurd (omega arith)

  -- vertices outlive two losses exactly if no loss of at most two edges, each with its mates, parts them
  pub outlive_two_exactly : (outlive_two g x y ≡ true) ↔ Outlives 2 g x y
  outlive_two_exactly = (
    all,
    λ w. in_two_loss_class g x y (component_exactly.1 (fewer_losses g x y 0 2 (omega arith) w))
        (λ s t h k.
        sym (joined_loss_of_two s t)
        ∙ w (s ∷ t ∷ []) (omega arith) (only_edges_cons g s (t ∷ []) h (only_edges_cons g t [] k (only_edges_nil g)))),
  )
    where
      all : outlive_two g x y ≡ true → Outlives 2 g x y
      all e [] h k = component_exactly.0 (outlive_two-component g x y e) [] (omega arith) k
      all e (s ∷ []) h k = bridge_block_exactly.0 (outlive_two-bridge_block g x y e) (s ∷ []) (omega arith) k
      all e (s ∷ t ∷ []) h k =
          joined_loss_of_two s t
          ∙ outlive_two_lasts g x y e s t (k s (is_in_head s (t ∷ []))) (k t (is_in_tail t s (t ∷ []) (is_in_head t [])))
      all e (s ∷ t ∷ r ∷ ss) h k = absurd (omega arith)
