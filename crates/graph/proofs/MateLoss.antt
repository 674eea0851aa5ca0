-- The loss of an edge's mates: what it would take to undo it, and what it becomes with one edge more.
use mathlib.Core.Bool.{true, false, ◌||◌}
use mathlib.Core.Logic.{◌⊎◌, inl, inr}
use mathlib.Core.Path.{◌≡◌, ap₂}
use Prim.Native.Nat.{ℕ, ◌<◌}
use native.Mathlib.Omega.{arith}
use lib.Dec.{eqb}
use Rattle.graph.specs.Network.{Network, Edge, Loss, edge, edge_count, add_edge, MateRule, mates, loss_of, joined}
use Rattle.graph.proofs.Truth.{true_or_false, ne_eqb}
use Rattle.graph.proofs.Labels.{merged, merged_before, merged_here}
use Rattle.graph.proofs.Mates.{mates_sym, mates_carry}
use Rattle.graph.proofs.Joined.{edge_old, edge_new, joined_refl, joined-edge, joined_least, joined_same_loss, merged_equivalence}

module _ (g : Network) (rule : MateRule g.rule) where
  -- whatever is joined is joined with the mates of s lost, were the ends of s joined
  pub loss_merged : (s : ℕ) (lost : Loss) (x y : ℕ) → joined g lost x y ≡ true
      → merged (joined g (loss_of g s)) (edge g s).left (edge g s).right x y ≡ true
  unfolding loss_of
  loss_merged s lost = joined_least R (merged_equivalence g (loss_of g s) _ _) g lost (λ t h k. go t h (true_or_false (mates g s t)))
    where
      R : ℕ → ℕ → Type 0
      R x y = merged (joined g (loss_of g s)) (edge g s).left (edge g s).right x y ≡ true

      go : (t : ℕ) → t < edge_count g → (mates g s t ≡ true) ⊎ (mates g s t ≡ false) → R (edge g t).left (edge g t).right
      go t h (inl e) =
          mates_carry g rule R (merged_equivalence g (loss_of g s) _ _).symm t s (mates_sym g rule s t e)
          (merged_here (joined g (loss_of g s)) (joined_refl g _) _ _)
      go t h (inr e) = merged_before (joined g (loss_of g s)) _ _ (joined-edge g (loss_of g s) t h e)

-- mates among the old edges stay as they were
pub mates_old : (g : Network) (e : Edge) (s t : ℕ) → s < edge_count g → t < edge_count g → mates (add_edge g e) s t ≡ mates g s t
unfolding mates add_edge
mates_old g e s t h k = ap₂ (λ f i. eqb s t || g.rule f i) (edge_old g e s h) (edge_old g e t k)

-- an old edge is a mate of the new one where the rule says so
pub mates_new : (g : Network) (e : Edge) (s : ℕ) → s < edge_count g → mates (add_edge g e) s (edge_count g) ≡ g.rule (edge g s) e
unfolding mates add_edge
mates_new g e s h = ap₂ ◌||◌ (ne_eqb s (edge_count g) (λ q. omega arith)) (ap₂ g.rule (edge_old g e s h) (edge_new g e))

-- no old edge is a mate of the new one
abbrev pub NoMate : Network → Edge → Type 0
NoMate g e = (s : ℕ) → s < edge_count g → g.rule (edge g s) e ≡ false

-- with the mates of an old edge lost, the old edges join as before
pub joined_loss_old : (g : Network) (e : Edge) (s x y : ℕ) → s < edge_count g
    → joined g (loss_of (add_edge g e) s) x y ≡ joined g (loss_of g s) x y
unfolding loss_of
joined_loss_old g e s x y h = joined_same_loss g (loss_of (add_edge g e) s) (loss_of g s) (λ t k. mates_old g e s t h k) x y
