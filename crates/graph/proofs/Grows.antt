-- One edge more: whatever shared a group still does, and until it is there its number is alone.
use mathlib.Core.Bool.{true, false}
use mathlib.Core.Logic.{◌⊎◌, inl, inr}
use mathlib.Core.Path.{◌≡◌, ◌∙◌, ap}
use Prim.Native.Nat.{ℕ, ◌<◌}
use native.Mathlib.Omega.{arith}
use lib.Dec.{eqb}
use Rattle.graph.specs.Below.{any_below}
use Rattle.graph.specs.Network.{Network, Edge, MateRule, edge, edge_count, add_edge, touches, mates, nothing, loss_of, without, joined}
use Rattle.graph.specs.Groups.{component, bridge, bridge_block}
use Rattle.graph.specs.Block.{block, link, on_block}
use Rattle.graph.proofs.Truth.{true_or_false, false_of_not, not_of_false, false_of_not_true, not_both, bool_ext, eqb_eq, eq-eqb}
use Rattle.graph.proofs.Below.{none_below, some_below, Below}
use Rattle.graph.proofs.Joined.{joined_less_lost, joined_same_loss, edge_count_more, edge_old, old_or_new, joined_old}
use Rattle.graph.proofs.Mates.{loss_of-mates}
use Rattle.graph.proofs.MateLoss.{joined_loss_old}
use Rattle.graph.proofs.BridgeBlock.{bridge_block-component, bridge_block_lasts, in_bridge_block}
use Rattle.graph.proofs.Ends.{LinkedAt, at_link, link_at_lem}
use Rattle.graph.proofs.Block.{block_equivalence, block_refl, link-block, block_least, block_below}
use Rattle.graph.proofs.BlockVertices.{on_block_lem, block_on}

-- an old edge is an edge of the network with one more
pub old_below : (g : Network) (e : Edge) (s : ℕ) → s < edge_count g → s < edge_count (add_edge g e)
old_below g e s h = omega (arith, edge_count_more g e)

-- and so is the new one
pub new_below : (g : Network) (e : Edge) → edge_count g < edge_count (add_edge g e)
new_below g e = omega (arith, edge_count_more g e)

module _ (g : Network) (e : Edge) where
  -- what shared a component still does
  pub component_grows : (x y : ℕ) → component g x y ≡ true → component (add_edge g e) x y ≡ true
  unfolding component
  component_grows = joined_old g e nothing

  -- what outlived the loss of an old edge still does
  pub loss_grows : (s x y : ℕ) → s < edge_count g → joined g (loss_of g s) x y ≡ true
      → joined (add_edge g e) (loss_of (add_edge g e) s) x y ≡ true
  loss_grows s x y h j = joined_old g e (loss_of (add_edge g e) s) x y (joined_loss_old g e s x y h ∙ j)

  -- a bridge was one before the edge was there
  pub bridge_before_lem : (s : ℕ) → s < edge_count g → bridge (add_edge g e) s ≡ true → bridge g s ≡ true
  unfolding bridge
  bridge_before_lem s h b =
      not_of_false (false_of_not (joined g (loss_of g s) (edge g s).left (edge g s).right) (λ j.
      not_both (loss_grows s (edge g s).left (edge g s).right h j)
      (rw (edge_old g e s h) at (false_of_not_true (joined (add_edge g e) (loss_of (add_edge g e) s) (edge (add_edge g e) s).left (edge (add_edge g e) s).right) b))))

  -- what outlived the loss of every old edge outlives that of the new one: it is the loss of an old mate's, or of nothing old
  loss_of_new : MateRule g.rule → (x y : ℕ) → component g x y ≡ true
      → ((s : ℕ) → s < edge_count g → joined g (loss_of g s) x y ≡ true)
      → joined (add_edge g e) (loss_of (add_edge g e) (edge_count g)) x y ≡ true
  unfolding loss_of component nothing add_edge
  loss_of_new r x y c w = go (true_or_false (any_below (edge_count g) (mates (add_edge g e) (edge_count g))))
    where
      old_mate : Below (edge_count g) (mates (add_edge g e) (edge_count g))
          → joined (add_edge g e) (loss_of (add_edge g e) (edge_count g)) x y ≡ true
      old_mate t =
          joined_same_loss
          (add_edge g e)
          (loss_of (add_edge g e) (edge_count g))
          (loss_of (add_edge g e) t.at)
          (λ u h. loss_of-mates (add_edge g e) r (edge_count g) t.at t.passes u)
          x
          y
          ∙ loss_grows t.at x y t.below (w t.at t.below)

      go : (any_below (edge_count g) (mates (add_edge g e) (edge_count g)) ≡ true)
          ⊎ (any_below (edge_count g) (mates (add_edge g e) (edge_count g)) ≡ false)
          → joined (add_edge g e) (loss_of (add_edge g e) (edge_count g)) x y ≡ true
      go (inl m) = old_mate (some_below (edge_count g) (mates (add_edge g e) (edge_count g)) m)
      go (inr n) =
          joined_old g e (mates (add_edge g e) (edge_count g)) x y
          (joined_less_lost g nothing (mates (add_edge g e) (edge_count g))
          (λ s h k. none_below (edge_count g) (mates (add_edge g e) (edge_count g)) n s h) x y c)

  -- what shared a bridge-block still does
  pub bridge_block_grows : MateRule g.rule → (x y : ℕ) → bridge_block g x y ≡ true → bridge_block (add_edge g e) x y ≡ true
  bridge_block_grows r x y b =
      in_bridge_block (add_edge g e) x y (component_grows x y c) (λ s h. each s (old_or_new g e s h))
    where
      c : component g x y ≡ true
      c = bridge_block-component g x y b

      each : (s : ℕ) → (s < edge_count g) ⊎ (s ≡ edge_count g) → joined (add_edge g e) (loss_of (add_edge g e) s) x y ≡ true
      each s (inl h) = loss_grows s x y h (bridge_block_lasts g x y b s h)
      each s (inr q) = rw q (loss_of_new r x y c (bridge_block_lasts g x y b))

-- without a vertex, the old edges join as before
pub joined_without_old : (g : Network) (e : Edge) (c x y : ℕ)
    → joined g (without (add_edge g e) c) x y ≡ joined g (without g c) x y
unfolding without
joined_without_old g e c =
    joined_same_loss g (without (add_edge g e) c) (without g c) (λ s h. ap (λ f. touches f c) (edge_old g e s h))

-- what was joined without a vertex stays so
pub joined_without_grows : (g : Network) (e : Edge) (c x y : ℕ) → joined g (without g c) x y ≡ true
    → joined (add_edge g e) (without (add_edge g e) c) x y ≡ true
joined_without_grows g e c x y j = joined_old g e (without (add_edge g e) c) x y (joined_without_old g e c x y ∙ j)

link_grows : (g : Network) (e : Edge) (s t : ℕ) → s < edge_count g → t < edge_count g → link g s t ≡ true
    → link (add_edge g e) s t ≡ true
link_grows g e s t h k l = let (c, m) = link_at_lem g s t l in at_link (add_edge g e) c s t (go c m)
  where
    go : (c : ℕ) → LinkedAt g c s t → LinkedAt (add_edge g e) c s t
    go c m =
        record {
          first = rw (edge_old g e s h) m.first;
          second = rw (edge_old g e t k) m.second;
          others = rw (edge_old g e s h, edge_old g e t k) (joined_without_grows g e c _ _ m.others);
        }

-- what shared a block still does
pub block_grows : (g : Network) (e : Edge) (s t : ℕ) → block g s t ≡ true → block (add_edge g e) s t ≡ true
block_grows g e =
    block_least
    (λ s t. block (add_edge g e) s t ≡ true)
    (block_equivalence (add_edge g e))
    g
    (λ s t h k l. link-block (add_edge g e) s t (old_below g e s h) (old_below g e t k) (link_grows g e s t h k l))

-- what was on a block still is
pub on_block_grows : (g : Network) (e : Edge) (s x : ℕ) → on_block g s x ≡ true → on_block (add_edge g e) s x ≡ true
on_block_grows g e s x o =
    let b = on_block_lem g s x o in
    block_on (add_edge g e) s b.by x (old_below g e b.by b.known) (block_grows g e s b.by b.within)
    (rw (edge_old g e b.by b.known) b.at)

-- the next edge's number is a block alone
pub block_next : (g : Network) (t : ℕ) → block g (edge_count g) t ≡ eqb (edge_count g) t
block_next g t =
    bool_ext (block g (edge_count g) t) (eqb (edge_count g) t)
    (λ b. go (block_below g (edge_count g) t b))
    (λ q. rw (← eqb_eq (edge_count g) t q) (block_refl g (edge_count g)))
  where
    go : (edge_count g ≡ t) ⊎ ((edge_count g < edge_count g) × (t < edge_count g)) → eqb (edge_count g) t ≡ true
    go (inl q) = eq-eqb (edge_count g) t q
    go (inr k) = absurd (omega arith)
