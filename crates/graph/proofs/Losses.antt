-- Two losses compared: what one leaves joined, in terms of the other.
use mathlib.Core.Bool.{true, false}
use mathlib.Core.Logic.{◌⊎◌, inl, inr, Equivalence}
use mathlib.Core.Path.{◌≡◌}
use Prim.Native.Nat.{ℕ, ◌<◌}
use Rattle.graph.specs.Network.{Network, Loss, MateRule, edge, edge_count, mates, joined}
use Rattle.graph.proofs.Truth.{true_or_false}
use Rattle.graph.proofs.Joined.{joined_refl, joined_sym, joined_trans, joined-edge, joined_least}
use Rattle.graph.proofs.Mates.{mates_sym, mates_carry}

-- What is joined to a is so with another loss too, if that other one loses no edge that is joined to a.
pub joined_stays : (g : Network) (lost other : Loss) (a : ℕ)
    → ((s : ℕ) → s < edge_count g → lost s ≡ false → joined g lost a (edge g s).left ≡ true → other s ≡ false)
    → (x : ℕ) → joined g lost a x ≡ true → joined g other a x ≡ true
joined_stays g lost other a w x e = (joined_least R eqv g lost each a x e).1 (joined_refl g lost a)
  where
    R : ℕ → ℕ → Type 0
    R y z = (joined g lost y z ≡ true) × (joined g lost a y ≡ true → joined g other y z ≡ true)

    eqv : Equivalence R
    eqv = record {
      refl = λ y. (joined_refl g lost y, λ k. joined_refl g other y);
      symm = λ y z p. (
        joined_sym g lost y z p.0,
        λ k. joined_sym g other y z (p.1 (joined_trans g lost a z y k (joined_sym g lost y z p.0))),
      );
      trans = λ x y z p q. (
        joined_trans g lost x y z p.0 q.0,
        λ k. joined_trans g other x y z (p.1 k) (q.1 (joined_trans g lost a x y k p.0)),
      );
    }

    each : (s : ℕ) → s < edge_count g → lost s ≡ false → R (edge g s).left (edge g s).right
    each s h k = (joined-edge g lost s h k, λ i. joined-edge g other s h (w s h k i))

-- Where more is lost, two vertices stay joined, or else each of them has any property that spreads over joined vertices and that
-- the ends of the further lost edges have.
pub joined_or_near : (P : ℕ → Type 0) (g : Network) (lost less : Loss)
    → ((x y : ℕ) → joined g lost x y ≡ true → P x → P y)
    → ((s : ℕ) → s < edge_count g → less s ≡ false → lost s ≡ true → P (edge g s).left × P (edge g s).right)
    → (x y : ℕ) → joined g less x y ≡ true → (joined g lost x y ≡ true) ⊎ (P x × P y)
joined_or_near P g lost less spread ends = joined_least R eqv g less (λ s h k. each s h k (true_or_false (lost s)))
  where
    R : ℕ → ℕ → Type 0
    R y z = (joined g lost y z ≡ true) ⊎ (P y × P z)

    sym_r : (y z : ℕ) → R y z → R z y
    sym_r y z (inl e) = inl (joined_sym g lost y z e)
    sym_r y z (inr p) = inr (p.1, p.0)

    trans_r : (x y z : ℕ) → R x y → R y z → R x z
    trans_r x y z (inl e) (inl f) = inl (joined_trans g lost x y z e f)
    trans_r x y z (inl e) (inr q) = inr (spread y x (joined_sym g lost x y e) q.0, q.1)
    trans_r x y z (inr p) (inl f) = inr (p.0, spread y z f p.1)
    trans_r x y z (inr p) (inr q) = inr (p.0, q.1)

    eqv : Equivalence R
    eqv = record { refl = λ y. inl (joined_refl g lost y); symm = sym_r; trans = trans_r }

    each : (s : ℕ) → s < edge_count g → less s ≡ false → (lost s ≡ true) ⊎ (lost s ≡ false) → R (edge g s).left (edge g s).right
    each s h k (inl e) = inr (ends s h k e)
    each s h k (inr e) = inl (joined-edge g lost s h e)

-- Vertex x is joined to an end of edge k.
abbrev pub AtEnd : Network → Loss → ℕ → ℕ → Type 0
AtEnd g lost k x = (joined g lost x (edge g k).left ≡ true) ⊎ (joined g lost x (edge g k).right ≡ true)

-- Where only mates of edge k are lost further, two vertices stay joined, or each of them is joined to an end of k.
pub joined_or_at_ends : (g : Network) → MateRule g.rule → (lost less : Loss) (k : ℕ)
    → ((s : ℕ) → less s ≡ false → lost s ≡ true → mates g k s ≡ true)
    → (x y : ℕ) → joined g less x y ≡ true → (joined g lost x y ≡ true) ⊎ (AtEnd g lost k x × AtEnd g lost k y)
joined_or_at_ends g r lost less k w = joined_or_near (AtEnd g lost k) g lost less spread (λ s h f l.
    mates_carry g r (λ u v. AtEnd g lost k u × AtEnd g lost k v) (λ u v p. (p.1, p.0)) s k (mates_sym g r k s (w s f l))
    (inl (joined_refl g lost (edge g k).left), inr (joined_refl g lost (edge g k).right)))
  where
    spread : (u v : ℕ) → joined g lost u v ≡ true → AtEnd g lost k u → AtEnd g lost k v
    spread u v h (inl p) = inl (joined_trans g lost v u (edge g k).left (joined_sym g lost u v h) p)
    spread u v h (inr p) = inr (joined_trans g lost v u (edge g k).right (joined_sym g lost u v h) p)
