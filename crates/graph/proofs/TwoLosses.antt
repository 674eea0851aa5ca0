-- Laws of the classes that outlive two losses: they are classes, each within one bridge-block.
use mathlib.Core.Bool.{true}
use mathlib.Core.Logic.{Equivalence}
use mathlib.Core.Path.{◌≡◌}
use Prim.Native.Nat.{ℕ, ◌<◌}
use Rattle.graph.specs.Below.{all_below}
use Rattle.graph.specs.Network.{Network, edge_count, loss_of, joined}
use Rattle.graph.specs.Groups.{component, bridge_block, loss_of_both, outlive_two}
use Rattle.graph.proofs.Truth.{bool_ext, and_left, and_right, and_both, or_neither_left}
use Rattle.graph.proofs.Below.{all_below_lem, each_below}
use Rattle.graph.proofs.Joined.{joined_refl, joined_sym, joined_trans, joined_less_lost}
use Rattle.graph.proofs.Mates.{component_refl, component_sym, component_trans}
use Rattle.graph.proofs.BridgeBlock.{in_bridge_block}

-- vertices that outlive two losses share a component
pub outlive_two-component : (g : Network) (x y : ℕ) → outlive_two g x y ≡ true → component g x y ≡ true
unfolding outlive_two
outlive_two-component g x y e = and_left (component g x y) _ e

-- and stay joined whichever two edges are lost
pub outlive_two_lasts : (g : Network) (x y : ℕ) → outlive_two g x y ≡ true
    → (s t : ℕ) → s < edge_count g → t < edge_count g → joined g (loss_of_both g s t) x y ≡ true
unfolding outlive_two
outlive_two_lasts g x y e s t h k =
    each_below (edge_count g) (λ t. joined g (loss_of_both g s t) x y)
    (each_below (edge_count g) (λ s. all_below (edge_count g) (λ t. joined g (loss_of_both g s t) x y))
    (and_right (component g x y) _ e) s h) t k

-- vertices that share a component and stay joined whichever two edges are lost outlive two losses
pub in_two_loss_class : (g : Network) (x y : ℕ) → component g x y ≡ true
    → ((s t : ℕ) → s < edge_count g → t < edge_count g → joined g (loss_of_both g s t) x y ≡ true) → outlive_two g x y ≡ true
unfolding outlive_two
in_two_loss_class g x y e w =
    and_both e
    (all_below_lem (edge_count g) (λ s. all_below (edge_count g) (λ t. joined g (loss_of_both g s t) x y)) (λ s h.
    all_below_lem (edge_count g) (λ t. joined g (loss_of_both g s t) x y) (λ t k. w s t h k)))

-- a vertex outlives two losses with itself
pub outlive_two_refl : (g : Network) (x : ℕ) → outlive_two g x x ≡ true
outlive_two_refl g x = in_two_loss_class g x x (component_refl g x) (λ s t h k. joined_refl g (loss_of_both g s t) x)

-- to outlive two losses is symmetric
pub outlive_two_sym : (g : Network) (x y : ℕ) → outlive_two g x y ≡ true → outlive_two g y x ≡ true
outlive_two_sym g x y e =
    in_two_loss_class g y x (component_sym g x y (outlive_two-component g x y e))
    (λ s t h k. joined_sym g (loss_of_both g s t) x y (outlive_two_lasts g x y e s t h k))

-- to outlive two losses is transitive
pub outlive_two_trans : (g : Network) (x y z : ℕ) → outlive_two g x y ≡ true → outlive_two g y z ≡ true → outlive_two g x z ≡ true
outlive_two_trans g x y z e f =
    in_two_loss_class g x z (component_trans g x y z (outlive_two-component g x y e) (outlive_two-component g y z f))
    (λ s t h k.
    joined_trans g (loss_of_both g s t) x y z (outlive_two_lasts g x y e s t h k) (outlive_two_lasts g y z f s t h k))

-- so vertices that outlive two losses with each other fall into classes
pub outlive_two_equivalence : (g : Network) → Equivalence (λ x y. outlive_two g x y ≡ true)
outlive_two_equivalence g = record { refl = outlive_two_refl g; symm = outlive_two_sym g; trans = outlive_two_trans g }

-- to outlive two losses is the same from either vertex
pub outlive_two_swap : (g : Network) (x y : ℕ) → outlive_two g x y ≡ outlive_two g y x
outlive_two_swap g x y = bool_ext (outlive_two g x y) (outlive_two g y x) (outlive_two_sym g x y) (outlive_two_sym g y x)

-- each class lies within one bridge-block: the two edges that are lost may be one
pub outlive_two-bridge_block : (g : Network) (x y : ℕ) → outlive_two g x y ≡ true → bridge_block g x y ≡ true
unfolding loss_of_both
outlive_two-bridge_block g x y e =
    in_bridge_block g x y (outlive_two-component g x y e) (λ s h.
    joined_less_lost g (loss_of_both g s s) (loss_of g s) (λ r k f. or_neither_left (loss_of g s r) (loss_of g s r) f) x y
    (outlive_two_lasts g x y e s s h h))
