-- Laws of the whole part of the logarithm to base 2, and of the highest one bit.
use mathlib.Core.Bool.{Bool, true, false, cond, true≢false}
use mathlib.Core.Logic.{◌⊎◌, inl, inr}
use mathlib.Core.Path.{◌≡◌, refl, sym, subst}
use Prim.Native.Nat.{ℕ, zero, suc, ◌/◌, ◌^◌, ◌≤◌, ◌<◌}
use native.Mathlib.Nat.{le_trans, le_of_suc-le-suc, lt_of_not-le, lt_irrefl, lt_of_lt_of_le, pow-suc, div-eq_of_lt, div-eq_of_lt-le}
use native.Mathlib.Omega.{arith}
use lib.Dec.{leb}
use lib.Pow.{pow_mono}
use Rattle.graph.proofs.Truth.{true_or_false, not_both, leb_le, le-leb}
use Rattle.graph.proofs.Below.{below_or_last}
use Rattle.naming.specs.Log.{greatest, whole_log2, one_bit, highest_bit}

-- the greatest number that passes passes, if 0 does
pub greatest_passes : (p : ℕ → Bool) (n : ℕ) → p 0 ≡ true → p (greatest p n) ≡ true
unfolding greatest
greatest_passes p zero e = e
greatest_passes p (suc n) e = go (greatest_passes p n e) (true_or_false (p (suc n)))
  where
    go : p (greatest p n) ≡ true → (p (suc n) ≡ true) ⊎ (p (suc n) ≡ false) → p (cond (p (suc n)) (suc n) (greatest p n)) ≡ true
    go f (inl h) = subst (λ (b : Bool). p (cond b (suc n) (greatest p n)) ≡ true) (sym h) h
    go f (inr h) = subst (λ (b : Bool). p (cond b (suc n) (greatest p n)) ≡ true) (sym h) f

-- no number up to n that passes is greater
pub greatest_most : (p : ℕ → Bool) (n i : ℕ) → i ≤ n → p i ≡ true → i ≤ greatest p n
unfolding greatest
greatest_most p zero i h e = h
greatest_most p (suc n) i h e = go (greatest_most p n i) (true_or_false (p (suc n))) (below_or_last (suc n) i (omega arith))
  where
    go : (i ≤ n → p i ≡ true → i ≤ greatest p n) → (p (suc n) ≡ true) ⊎ (p (suc n) ≡ false) → (i < suc n) ⊎ (i ≡ suc n)
        → i ≤ cond (p (suc n)) (suc n) (greatest p n)
    go f (inl k) l = rw k h
    go f (inr k) (inl l) = rw k (f (omega arith) e)
    go f (inr k) (inr l) = absurd (not_both (rw l at e) k)

-- a number is less than 2 to its power
pub below_power : (i : ℕ) → i < 2 ^ i
below_power zero = omega arith
below_power (suc i) = omega (arith, below_power i)

-- no power of 2 that is at most the number has a higher exponent
pub log2_most : (k i : ℕ) → 2 ^ i ≤ k → i ≤ whole_log2 k
unfolding whole_log2
log2_most k i h = greatest_most (λ j. leb (2 ^ j) k) k i (omega (arith, below_power i)) (le-leb (2 ^ i) k h)

-- 2 to the power of the logarithm is at most the number
pub log2_power : (k : ℕ) → 1 ≤ k → 2 ^ whole_log2 k ≤ k
unfolding whole_log2
log2_power k h = leb_le (2 ^ whole_log2 k) k (greatest_passes (λ i. leb (2 ^ i) k) k (le-leb 1 k h))

log2_zero : whole_log2 0 ≡ 0
unfolding whole_log2 greatest
log2_zero = refl

-- a greater number has no smaller logarithm
pub log2_monotone : (j k : ℕ) → j ≤ k → whole_log2 j ≤ whole_log2 k
log2_monotone zero k h = rw log2_zero (omega arith)
log2_monotone (suc j) k h = log2_most k (whole_log2 (suc j)) (omega (arith, log2_power (suc j) (omega arith)))

-- the next power of 2 is above the number
below_next_power : (k : ℕ) → k < 2 ^ suc (whole_log2 k)
below_next_power k = lt_of_not-le (λ h. not_suc_le (log2_most k (suc (whole_log2 k)) h))
  where
    not_suc_le : suc (whole_log2 k) ≤ whole_log2 k → ⊥
    not_suc_le h = omega arith

-- the greatest number that passes passes, or it is 0
greatest_passes_or_zero : (p : ℕ → Bool) (n : ℕ) → (p (greatest p n) ≡ true) ⊎ (greatest p n ≡ 0)
unfolding greatest
greatest_passes_or_zero p zero = inr refl
greatest_passes_or_zero p (suc n) = go (greatest_passes_or_zero p n) (true_or_false (p (suc n)))
  where
    Either : Bool → Type 0
    Either b = (p (cond b (suc n) (greatest p n)) ≡ true) ⊎ (cond b (suc n) (greatest p n) ≡ 0)

    go : (p (greatest p n) ≡ true) ⊎ (greatest p n ≡ 0) → (p (suc n) ≡ true) ⊎ (p (suc n) ≡ false) → Either (p (suc n))
    go f (inl h) = subst Either (sym h) (inl h)
    go f (inr h) = subst Either (sym h) f

-- from a power of 2 up to the next, the bit of that place is one
bit_between : (k j : ℕ) → 2 ^ j ≤ k → k < 2 ^ suc j → one_bit k j ≡ true
unfolding one_bit
bit_between k j h l = rw (div-eq_of_lt-le {k = 1} (2 ^ j) {m = k} (omega arith) (omega (arith, pow-suc 2 j)))

-- a bit that is one is worth no more than the number
bit_power : (k j : ℕ) → one_bit k j ≡ true → 2 ^ j ≤ k
unfolding one_bit
bit_power k j e = le_of_suc-le-suc (lt_of_not-le (λ h. not_one (div-eq_of_lt h)))
  where
    not_one : k / 2 ^ j ≡ 0 → ⊥
    not_one d = true≢false (sym (rw d at e))

-- below a power of 2 the highest one bit is lower
pub highest_bit_at_most : (k j : ℕ) → k < 2 ^ suc j → highest_bit k ≤ j
unfolding highest_bit
highest_bit_at_most k j l = omega (arith, go (greatest_passes_or_zero (one_bit k) k))
  where
    go : (one_bit k (greatest (one_bit k) k) ≡ true) ⊎ (greatest (one_bit k) k ≡ 0) → greatest (one_bit k) k ≤ j
    go (inl e) =
        le_of_suc-le-suc
        (lt_of_not-le (λ g. lt_irrefl k (lt_of_lt_of_le l (le_trans (pow_mono g) (bit_power k (greatest (one_bit k) k) e)))))
    go (inr e) = omega arith

-- from a power of 2 up to the next, the highest one bit has that place
pub highest_bit-between : (k j : ℕ) → 2 ^ j ≤ k → k < 2 ^ suc j → highest_bit k ≡ j
unfolding highest_bit
highest_bit-between k j h l =
    omega (
      arith,
      highest_bit_at_most k j l,
      greatest_most (one_bit k) k j (omega (arith, below_power j)) (bit_between k j h l),
    )

-- L(k) is the whole part of log2 k
pub highest_bit_is_log2 : (k : ℕ) → highest_bit k ≡ whole_log2 k
highest_bit_is_log2 zero = unfold highest_bit whole_log2 greatest in refl
highest_bit_is_log2 (suc n) = highest_bit-between (suc n) (whole_log2 (suc n)) (log2_power (suc n) (omega arith)) (below_next_power (suc n))
