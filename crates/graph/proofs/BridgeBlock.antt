-- Laws of bridge-blocks: they are what is joined by the edges that are no bridges.
use mathlib.Core.Bool.{true, false, not, ◌&&◌}
use mathlib.Core.Logic.{◌⊎◌, inl, inr, ⊎_elim, Equivalence}
use mathlib.Core.Path.{◌≡◌, refl, ◌∙◌, ap}
use Prim.Native.Nat.{ℕ, zero, suc, ◌<◌, ◌≤◌}
use native.Mathlib.Omega.{arith}
use Rattle.graph.specs.Below.{any_below, all_below}
use Rattle.graph.specs.Network.{Network, Loss, MateRule, edge, edge_count, mates, nothing, loss_of, joined}
use Rattle.graph.specs.Groups.{component, bridge, bridge_block}
use Rattle.graph.proofs.Truth.{true_or_false, false_of_not, not_both, bool_ext, not_of_false, not_of_true, false_of_not_true}
use Rattle.graph.proofs.Truth.{true_of_not_false, and_left, and_right, and_both, or_cases, or_neither, or_neither_right}
use Rattle.graph.proofs.Below.{any_below_lem, all_below_lem, each_below}
use Rattle.graph.proofs.Joined.{joined_refl, joined_sym, joined_trans, joined-edge, joined_least, joined_less_lost, joined_same_loss, joined_equivalence}
use Rattle.graph.proofs.Mates.{mates_refl, loss_of-mates, joined-component, component_refl, component_sym, component_trans}
use Rattle.graph.proofs.Losses.{AtEnd, joined_or_at_ends}

-- vertices of one bridge-block share a component
pub bridge_block-component : (g : Network) (x y : ℕ) → bridge_block g x y ≡ true → component g x y ≡ true
unfolding bridge_block
bridge_block-component g x y e = and_left (component g x y) (all_below (edge_count g) (λ s. joined g (loss_of g s) x y)) e

-- vertices of one bridge-block stay joined whichever edge is lost
pub bridge_block_lasts : (g : Network) (x y : ℕ) → bridge_block g x y ≡ true
    → (s : ℕ) → s < edge_count g → joined g (loss_of g s) x y ≡ true
unfolding bridge_block
bridge_block_lasts g x y e = each_below (edge_count g) (λ s. joined g (loss_of g s) x y)
    (and_right (component g x y) (all_below (edge_count g) (λ s. joined g (loss_of g s) x y)) e)

-- vertices that share a component and stay joined whichever edge is lost share a bridge-block
pub in_bridge_block : (g : Network) (x y : ℕ) → component g x y ≡ true
    → ((s : ℕ) → s < edge_count g → joined g (loss_of g s) x y ≡ true) → bridge_block g x y ≡ true
unfolding bridge_block
in_bridge_block g x y e w = and_both e (all_below_lem (edge_count g) (λ s. joined g (loss_of g s) x y) w)

-- a vertex shares its own bridge-block
pub bridge_block_refl : (g : Network) (x : ℕ) → bridge_block g x x ≡ true
bridge_block_refl g x = in_bridge_block g x x (component_refl g x) (λ s h. joined_refl g (loss_of g s) x)

-- sharing a bridge-block is symmetric
pub bridge_block_sym : (g : Network) (x y : ℕ) → bridge_block g x y ≡ true → bridge_block g y x ≡ true
bridge_block_sym g x y e = in_bridge_block g y x (component_sym g x y (bridge_block-component g x y e))
    (λ s h. joined_sym g (loss_of g s) x y (bridge_block_lasts g x y e s h))

-- sharing a bridge-block is transitive
pub bridge_block_trans : (g : Network) (x y z : ℕ)
    → bridge_block g x y ≡ true → bridge_block g y z ≡ true → bridge_block g x z ≡ true
bridge_block_trans g x y z e f = in_bridge_block g x z
    (component_trans g x y z (bridge_block-component g x y e) (bridge_block-component g y z f))
    (λ s h. joined_trans g (loss_of g s) x y z (bridge_block_lasts g x y e s h) (bridge_block_lasts g y z f s h))

-- sharing a bridge-block is an equivalence
pub bridge_block_equivalence : (g : Network) → Equivalence (λ x y. bridge_block g x y ≡ true)
bridge_block_equivalence g = record { refl = bridge_block_refl g; symm = bridge_block_sym g; trans = bridge_block_trans g }

-- sharing a bridge-block is the same from either vertex
pub bridge_block_swap : (g : Network) (x y : ℕ) → bridge_block g x y ≡ bridge_block g y x
bridge_block_swap g x y = bool_ext (bridge_block g x y) (bridge_block g y x) (bridge_block_sym g x y) (bridge_block_sym g y x)

-- an edge whose ends stay joined without it is no bridge
pub no_bridge : (g : Network) (s : ℕ) → joined g (loss_of g s) (edge g s).left (edge g s).right ≡ true → bridge g s ≡ false
unfolding bridge
no_bridge g s e = not_of_true e

-- the ends of an edge that is no bridge stay joined without it
pub no_bridge_joined : (g : Network) (s : ℕ) → bridge g s ≡ false → joined g (loss_of g s) (edge g s).left (edge g s).right ≡ true
unfolding bridge
no_bridge_joined g s e = true_of_not_false (joined g (loss_of g s) (edge g s).left (edge g s).right) e

-- the mates of bridges below k
early : Network → ℕ → Loss
early g k s = any_below k (λ t. bridge g t && mates g t s)

module _ (g : Network) (r : MateRule g.rule) where
  -- losing the mates of one bridge more parts no bridge-block
  one_bridge_more : (x y k : ℕ) → joined g (loss_of g k) x y ≡ true
      → joined g (early g k) x y ≡ true → joined g (early g (suc k)) x y ≡ true
  unfolding early any_below loss_of bridge
  one_bridge_more x y k e j = go (true_or_false (bridge g k))
    where
      lost : Loss
      lost = early g (suc k)

      a : ℕ
      a = (edge g k).left

      b : ℕ
      b = (edge g k).right

      new : (s : ℕ) → early g k s ≡ false → lost s ≡ true → (bridge g k && mates g k s) ≡ true
      new s f l = ⊎_elim (λ q. absurd (not_both q f)) (λ q. q) (or_cases (early g k s) (bridge g k && mates g k s) l)

      more : bridge g k ≡ true → (u v : ℕ) → joined g lost u v ≡ true → joined g (mates g k) u v ≡ true
      more q = joined_less_lost g lost (mates g k) (λ s h l. rw q at (or_neither_right (early g k s) (bridge g k && mates g k s) l))

      apart : bridge g k ≡ true → (u v : ℕ) → joined g (mates g k) u v ≡ true → joined g lost u a ≡ true → joined g lost v b ≡ true → ⊥
      apart q u v i p p' = not_both
          (joined_trans g (mates g k) a u b (joined_sym g (mates g k) u a (more q u a p))
          (joined_trans g (mates g k) u v b i (more q v b p')))
          (false_of_not_true (joined g (mates g k) a b) q)

      meet : bridge g k ≡ true → AtEnd g lost k x → AtEnd g lost k y → joined g lost x y ≡ true
      meet q (inl p) (inl p') = joined_trans g lost x a y p (joined_sym g lost y a p')
      meet q (inl p) (inr p') = absurd (apart q x y e p p')
      meet q (inr p) (inl p') = absurd (apart q y x (joined_sym g (mates g k) x y e) p' p)
      meet q (inr p) (inr p') = joined_trans g lost x b y p (joined_sym g lost y b p')

      go : (bridge g k ≡ true) ⊎ (bridge g k ≡ false) → joined g lost x y ≡ true
      go (inl q) = ⊎_elim (λ i. i) (λ p. meet q p.0 p.1)
          (joined_or_at_ends g r lost (early g k) k (λ s f l. and_right (bridge g k) (mates g k s) (new s f l)) x y j)
      go (inr q) = joined_less_lost g (early g k) lost (λ s h f. or_neither f (ap (λ c. c && mates g k s) q)) x y j

  bridges_lost : (x y : ℕ) → bridge_block g x y ≡ true → (k : ℕ) → k ≤ edge_count g → joined g (early g k) x y ≡ true
  unfolding early any_below component
  bridges_lost x y e zero h = joined_less_lost g nothing (early g 0) (λ s i f. refl) x y (bridge_block-component g x y e)
  bridges_lost x y e (suc k) h =
      one_bridge_more x y k (bridge_block_lasts g x y e k h) (bridges_lost x y e k (omega arith))

  -- the bridge-blocks are what is joined by the edges that are no bridges
  pub bridge_block_is_joined_off_bridges : (x y : ℕ) → bridge_block g x y ≡ joined g (bridge g) x y
  unfolding early loss_of
  bridge_block_is_joined_off_bridges x y = bool_ext (bridge_block g x y) (joined g (bridge g) x y)
      (λ e. joined_less_lost g (early g (edge_count g)) (bridge g)
      (λ s h f. false_of_not (bridge g s) (λ b. not_both
      (any_below_lem (edge_count g) (λ t. bridge g t && mates g t s) s h (and_both b (mates_refl g s))) f))
      x y (bridges_lost x y e (edge_count g) (omega arith)))
      (λ e. in_bridge_block g x y (joined-component g (bridge g) x y e) (λ s h.
      joined_least (λ u v. joined g (loss_of g s) u v ≡ true) (joined_equivalence g (loss_of g s)) g (bridge g)
      (λ t i f. kept s t i f (true_or_false (loss_of g s t))) x y e))
    where
      kept : (s t : ℕ) → t < edge_count g → bridge g t ≡ false → (loss_of g s t ≡ true) ⊎ (loss_of g s t ≡ false)
          → joined g (loss_of g s) (edge g t).left (edge g t).right ≡ true
      kept s t i f (inl m) = joined_same_loss g (loss_of g s) (loss_of g t) (λ u q. loss_of-mates g r s t m u)
          (edge g t).left (edge g t).right ∙ no_bridge_joined g t f
      kept s t i f (inr m) = joined-edge g (loss_of g s) t i m

  -- an edge is a bridge exactly if its ends share no bridge-block
  pub bridge_parts_bridge_blocks : (s : ℕ) → s < edge_count g → bridge g s ≡ not (bridge_block g (edge g s).left (edge g s).right)
  bridge_parts_bridge_blocks s h = bool_ext (bridge g s) (not (bridge_block g (edge g s).left (edge g s).right))
      (λ b. not_of_false (false_of_not (bridge_block g (edge g s).left (edge g s).right) (λ e.
      not_both b (no_bridge g s (bridge_block_lasts g (edge g s).left (edge g s).right e s h)))))
      (λ n. ⊎_elim (λ b. b) (λ f. absurd (not_both
      (bridge_block_is_joined_off_bridges (edge g s).left (edge g s).right ∙ joined-edge g (bridge g) s h f)
      (false_of_not_true (bridge_block g (edge g s).left (edge g s).right) n))) (true_or_false (bridge g s)))
