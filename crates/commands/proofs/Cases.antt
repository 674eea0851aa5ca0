-- Cases: a number is at most another or above it, and no value is of two constructors.
use mathlib.Core.Bool.{true, false}
use mathlib.Core.Logic.{◌⊎◌, inl, inr}
use mathlib.Core.Path.{◌≡◌}
use Prim.Native.Nat.{ℕ, ◌≤◌, ◌<◌}
use native.Mathlib.Omega.{arith}
use lib.Dec.{leb, nleb→lt}
use Rattle.graph.proofs.Truth.{true_or_false, leb_le, not_of_false, false_of_not, to_T}

-- a number that is not at most the other is above it
pub leb_gt : (m n : ℕ) → leb m n ≡ false → n < m
leb_gt m n e = nleb→lt m n (to_T (not_of_false e))

-- one number is at most the other, or above it
pub le_or_gt : (m n : ℕ) → (m ≤ n) ⊎ (n < m)
le_or_gt m n = go (true_or_false (leb m n))
  where
    go : (leb m n ≡ true) ⊎ (leb m n ≡ false) → (m ≤ n) ⊎ (n < m)
    go (inl e) = inl (leb_le m n e)
    go (inr e) = inr (leb_gt m n e)

-- a number above the other is not at most it
pub gt_leb : (m n : ℕ) → n < m → leb m n ≡ false
gt_leb m n h = false_of_not (leb m n) (λ e. go (leb_le m n e))
  where
    go : m ≤ n → ⊥
    go l = omega arith

-- nothing is both of two different constructors
pub impossible {ℓ} : {X : Type ℓ} → ◌≡◌ {A = ℕ} 0 1 → X
impossible z = absurd (nought z)
  where
    nought : ◌≡◌ {A = ℕ} 0 1 → ⊥
    nought z = omega arith
