-- Laws of mates, the edges that are lost together, and of components.
use mathlib.Core.Bool.{true, ◌&&◌}
use mathlib.Core.Logic.{◌⊎◌, inl, inr, ⊎_elim}
use mathlib.Core.Path.{◌≡◌, refl, sym, subst, subst₂}
use Prim.Native.Nat.{ℕ}
use lib.Dec.{eqb}
use Rattle.graph.specs.Network.{Network, Edge, Loss, MateRule, edge, parallel, mates, nothing, loss_of, joined}
use Rattle.graph.specs.Groups.{component}
use Rattle.graph.proofs.Truth.{bool_ext, and_left, and_right, or_left, or_right, or_cases, eqb_eq, eqb_same}
use Rattle.graph.proofs.Joined.{joined_refl, joined_sym, joined_trans, joined_swap, joined_less_lost}

-- whatever holds of a parallel edge's two ends, in whichever order, holds of the edge's own
pub parallel_carries : (P : ℕ → ℕ → Type 0) → ((x y : ℕ) → P x y → P y x) → (e f : Edge) → parallel e f ≡ true
    → P f.left f.right → P e.left e.right
unfolding parallel
parallel_carries P swap e f h p =
    go (or_cases (eqb e.left f.left && eqb e.right f.right) (eqb e.left f.right && eqb e.right f.left) h)
  where
    two : (x y : ℕ) → (eqb e.left x && eqb e.right y) ≡ true → P x y → P e.left e.right
    two x y k = subst₂ P
        (sym (eqb_eq e.left x (and_left (eqb e.left x) (eqb e.right y) k)))
        (sym (eqb_eq e.right y (and_right (eqb e.left x) (eqb e.right y) k)))

    go : ((eqb e.left f.left && eqb e.right f.right) ≡ true) ⊎ ((eqb e.left f.right && eqb e.right f.left) ≡ true)
        → P e.left e.right
    go (inl k) = two f.left f.right k p
    go (inr k) = two f.right f.left k (swap f.left f.right p)

-- every edge is its own mate
pub mates_refl : (g : Network) (s : ℕ) → mates g s s ≡ true
unfolding mates
mates_refl g s = or_left (eqb_same s) (g.rule (edge g s) (edge g s))

-- mates are one edge, or the rule has them lost together
pub mates_cases : (g : Network) (s t : ℕ) → mates g s t ≡ true → (s ≡ t) ⊎ (g.rule (edge g s) (edge g t) ≡ true)
unfolding mates
mates_cases g s t e = ⊎_elim (λ q. inl (eqb_eq s t q)) inr (or_cases (eqb s t) (g.rule (edge g s) (edge g t)) e)

-- the rule makes mates
pub rule_mates : (g : Network) (s t : ℕ) → g.rule (edge g s) (edge g t) ≡ true → mates g s t ≡ true
unfolding mates
rule_mates g s t e = or_right (eqb s t) e

module _ (g : Network) (r : MateRule g.rule) where
  -- being mates is symmetric
  pub mates_sym : (s t : ℕ) → mates g s t ≡ true → mates g t s ≡ true
  mates_sym s t h =
      ⊎_elim (λ q. rw q (mates_refl g t)) (λ k. rule_mates g t s (r.symmetric (edge g s) (edge g t) k)) (mates_cases g s t h)

  -- whether two edges are mates does not depend on their order
  pub mates_swap : (s t : ℕ) → mates g s t ≡ mates g t s
  mates_swap s t = bool_ext (mates g s t) (mates g t s) (mates_sym s t) (mates_sym t s)

  -- being mates is transitive
  pub mates_trans : (s t u : ℕ) → mates g s t ≡ true → mates g t u ≡ true → mates g s u ≡ true
  mates_trans s t u h k = go (mates_cases g s t h) (mates_cases g t u k)
    where
      go : (s ≡ t) ⊎ (g.rule (edge g s) (edge g t) ≡ true) → (t ≡ u) ⊎ (g.rule (edge g t) (edge g u) ≡ true) → mates g s u ≡ true
      go (inl q) e = rw q k
      go (inr e) (inl q) = rw q at h
      go (inr e) (inr f) = rule_mates g s u (r.transitive (edge g s) (edge g t) (edge g u) e f)

  -- the loss of an edge and that of its mate are one
  pub loss_of-mates : (s t : ℕ) → mates g s t ≡ true → (u : ℕ) → loss_of g s u ≡ loss_of g t u
  unfolding loss_of
  loss_of-mates s t h u =
      bool_ext (mates g s u) (mates g t u) (mates_trans t s u (mates_sym s t h)) (mates_trans s t u h)

  -- the loss of an edge takes mates together
  pub mates-lost_together : (s t u : ℕ) → mates g t u ≡ true → loss_of g s t ≡ loss_of g s u
  unfolding loss_of
  mates-lost_together s t u h =
      bool_ext (mates g s t) (mates g s u) (λ k. mates_trans s t u k h) (λ k. mates_trans s u t k (mates_sym t u h))

  -- whatever holds of a mate's two ends, in whichever order, holds of the edge's own
  pub mates_carry : (P : ℕ → ℕ → Type 0) → ((x y : ℕ) → P x y → P y x) → (s t : ℕ) → mates g s t ≡ true
      → P (edge g t).left (edge g t).right → P (edge g s).left (edge g s).right
  mates_carry P swap s t h p =
      ⊎_elim (λ q. subst (λ u. P (edge g u).left (edge g u).right) (sym q) p)
      (λ e. parallel_carries P swap (edge g s) (edge g t) (r.only_parallel (edge g s) (edge g t) e) p)
      (mates_cases g s t h)

-- a vertex shares its own component
pub component_refl : (g : Network) (x : ℕ) → component g x x ≡ true
unfolding component
component_refl g x = joined_refl g nothing x

-- sharing a component is symmetric
pub component_sym : (g : Network) (x y : ℕ) → component g x y ≡ true → component g y x ≡ true
unfolding component
component_sym g x y e = joined_sym g nothing x y e

-- sharing a component is transitive
pub component_trans : (g : Network) (x y z : ℕ) → component g x y ≡ true → component g y z ≡ true → component g x z ≡ true
unfolding component
component_trans g x y z e f = joined_trans g nothing x y z e f

-- sharing a component is the same from either vertex
pub component_swap : (g : Network) (x y : ℕ) → component g x y ≡ component g y x
unfolding component
component_swap g x y = joined_swap g nothing x y

-- vertices that are joined, whatever is lost, share a component
pub joined-component : (g : Network) (lost : Loss) (x y : ℕ) → joined g lost x y ≡ true → component g x y ≡ true
unfolding component nothing
joined-component g lost x y e = joined_less_lost g lost nothing (λ s h k. refl) x y e
