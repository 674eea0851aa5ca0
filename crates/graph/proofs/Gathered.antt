-- Groups made one: of the groups of an equivalence, those whose items pass a test become one group, and no other changes.
use mathlib.Core.Bool.{Bool, true, ◌&&◌, ◌||◌}
use mathlib.Core.Logic.{◌⊎◌, inl, inr, ⊎_elim, Equivalence}
use mathlib.Core.Path.{◌≡◌}
use Prim.Native.Nat.{ℕ}
use Rattle.graph.proofs.Truth.{or_cases, or_left, or_right, and_left, and_right, and_both}

-- the two items shared a group before, or both pass the test
abbrev pub gathered : (ℕ → ℕ → Bool) → (ℕ → Bool) → ℕ → ℕ → Bool
gathered q h x y = q x y || (h x && h y)

module _ (q : ℕ → ℕ → Bool) (h : ℕ → Bool) where
  -- the two ways to share a group after
  pub gathered_ways : (x y : ℕ) → gathered q h x y ≡ true → (q x y ≡ true) ⊎ ((h x ≡ true) × (h y ≡ true))
  gathered_ways x y e =
      ⊎_elim inl (λ k. inr (and_left (h x) (h y) k, and_right (h x) (h y) k)) (or_cases (q x y) (h x && h y) e)

  -- what shared a group before does after
  pub gathered_before : (x y : ℕ) → q x y ≡ true → gathered q h x y ≡ true
  gathered_before x y e = or_left e (h x && h y)

  -- items that pass the test share a group after
  pub gathered_both : (x y : ℕ) → h x ≡ true → h y ≡ true → gathered q h x y ≡ true
  gathered_both x y e f = or_right (q x y) (and_both e f)

  -- where whole groups pass the test, sharing a group after is an equivalence
  pub gathered_equivalence : Equivalence (λ x y. q x y ≡ true) → ((x y : ℕ) → q x y ≡ true → h x ≡ true → h y ≡ true)
      → Equivalence (λ x y. gathered q h x y ≡ true)
  gathered_equivalence eqv whole =
      record {
        refl = λ x. gathered_before x x (eqv.refl x);
        symm = λ x y e. back x y (gathered_ways x y e);
        trans = λ x y z e f. over x y z (gathered_ways x y e) (gathered_ways y z f);
      }
    where
      back : (x y : ℕ) → (q x y ≡ true) ⊎ ((h x ≡ true) × (h y ≡ true)) → gathered q h y x ≡ true
      back x y (inl e) = gathered_before y x (eqv.symm x y e)
      back x y (inr k) = gathered_both y x k.1 k.0

      over : (x y z : ℕ) → (q x y ≡ true) ⊎ ((h x ≡ true) × (h y ≡ true)) → (q y z ≡ true) ⊎ ((h y ≡ true) × (h z ≡ true))
          → gathered q h x z ≡ true
      over x y z (inl e) (inl f) = gathered_before x z (eqv.trans x y z e f)
      over x y z (inl e) (inr k) = gathered_both x z (whole y x (eqv.symm x y e) k.0) k.1
      over x y z (inr k) (inl f) = gathered_both x z k.0 (whole y z f k.1)
      over x y z (inr k) (inr l) = gathered_both x z k.0 l.1
