-- The numbers below n: tests, counts and lists over them.
use Rattle.std.specs.Prelude.{Bool, true, false, cond, ◌&&◌, ◌||◌, List, [], ◌∷◌, ◌++◌, ◌≡◌, refl, ℕ, zero, suc, length}
use Rattle.std.proofs.Math.Option.{Option, none, some}
use Rattle.std.proofs.Common.{arith, length-append}

-- Some number below n passes the test.
unfoldable pub any_below : ℕ → (ℕ → Bool) → Bool
any_below zero p = false
any_below (suc n) p = any_below n p || p n

-- Every number below n passes the test.
unfoldable pub all_below : ℕ → (ℕ → Bool) → Bool
all_below zero p = true
all_below (suc n) p = all_below n p && p n

-- The least number below n that passes the test.
unfoldable pub least_below : ℕ → (ℕ → Bool) → Option ℕ
least_below zero p = none
least_below (suc n) p =
    elim (least_below n p) [ some k ↦ some k | none ↦ cond (p n) (some n) none ]

-- How many numbers below n pass the test.
unfoldable pub count : ℕ → (ℕ → Bool) → ℕ
count zero p = 0
count (suc n) p =
    let c = count n p in
    cond (p n) (suc c) c

-- The numbers below n that pass the test, rising.
unfoldable pub listed : ℕ → (ℕ → Bool) → List ℕ
listed zero p = []
listed (suc n) p =
    let l = listed n p in
    cond (p n) (l ++ n ∷ []) l

-- f 0, f 1, and on to f (n - 1).
unfoldable pub tabulate {ℓ} : {A : Type ℓ} → ℕ → (ℕ → A) → List A
tabulate zero f = []
tabulate (suc n) f = tabulate n f ++ f n ∷ []

-- It has n entries.
pub length_tabulate {ℓ} : {A : Type ℓ} (n : ℕ) (f : ℕ → A) → length (tabulate n f) ≡ n
unfolding tabulate
length_tabulate zero f = refl
length_tabulate (suc n) f = rw (length-append (tabulate n f) (f n ∷ []), length_tabulate n f) (omega arith)
