-- Laws of tests, counts and lists over the numbers below n.
use mathlib.Core.Bool.{Bool, true, false, cond, ◌||◌, false≢true}
use mathlib.Core.List.{[]}
use mathlib.Core.Logic.{◌⊎◌, inl, inr}
use mathlib.Core.Option.{Option, none, some}
use mathlib.Core.Path.{◌≡◌, refl, ap₂}
use Prim.Native.Nat.{ℕ, zero, suc, ◌<◌}
use native.Mathlib.Nat.{not-suc-le-zero}
use native.Mathlib.Omega.{arith}
use lib.Dec.{eqb}
use Rattle.graph.specs.Below.{any_below, all_below, least_below, count, listed}
use Rattle.graph.proofs.Truth.{true_or_false, false_of_not, not_both, or_cases, or_left, or_right, and_left, and_right, and_both, eqb_eq, eqb_ne}

-- a number below n + 1 is below n, or n
pub below_or_last : (n i : ℕ) → i < suc n → (i < n) ⊎ (i ≡ n)
below_or_last n i h = go (true_or_false (eqb i n))
  where
    go : (eqb i n ≡ true) ⊎ (eqb i n ≡ false) → (i < n) ⊎ (i ≡ n)
    go (inl d) = inr (eqb_eq i n d)
    go (inr d) = inl (omega (arith, eqb_ne i n d))

-- if one number below n passes the test, some number below n does
pub any_below_lem : (n : ℕ) (p : ℕ → Bool) (i : ℕ) → i < n → p i ≡ true → any_below n p ≡ true
unfolding any_below
any_below_lem zero p i h e = absurd (not-suc-le-zero h)
any_below_lem (suc n) p i h e = go (any_below_lem n p i) (below_or_last n i h)
  where
    go : (i < n → p i ≡ true → any_below n p ≡ true) → (i < n) ⊎ (i ≡ n) → (any_below n p || p n) ≡ true
    go f (inl l) = or_left (f l e) (p n)
    go f (inr d) = or_right (any_below n p) (rw d at e)

-- no number below n passes the test
abbrev pub NoneBelow : ℕ → (ℕ → Bool) → Type 0
NoneBelow n p = (i : ℕ) → i < n → p i ≡ false

-- if it is not so that some number below n does, none does
pub none_below : (n : ℕ) (p : ℕ → Bool) → any_below n p ≡ false → NoneBelow n p
none_below n p e i h = false_of_not (p i) (λ d. not_both (any_below_lem n p i h d) e)

-- a number below n that passes the test
pub record Below (n : ℕ) (p : ℕ → Bool) : Type 0 where
  pub at : ℕ
  pub below : at < n
  pub passes : p at ≡ true

-- if some number below n passes the test, here is one
pub some_below : (n : ℕ) (p : ℕ → Bool) → any_below n p ≡ true → Below n p
unfolding any_below
some_below zero p e = absurd (false≢true e)
some_below (suc n) p e = go (some_below n p) (or_cases (any_below n p) (p n) e)
  where
    up : Below n p → Below (suc n) p
    up b = record { at = b.at; below = omega arith; passes = b.passes }

    go : (any_below n p ≡ true → Below n p) → (any_below n p ≡ true) ⊎ (p n ≡ true) → Below (suc n) p
    go f (inl h) = up (f h)
    go f (inr h) = record { at = n; below = omega arith; passes = h }

-- if each number below n passes the test, all do
pub all_below_lem : (n : ℕ) (p : ℕ → Bool) → ((i : ℕ) → i < n → p i ≡ true) → all_below n p ≡ true
unfolding all_below
all_below_lem zero p f = refl
all_below_lem (suc n) p f = and_both (all_below_lem n p (λ i h. f i (omega arith))) (f n (omega arith))

-- if all numbers below n pass the test, each does
pub each_below : (n : ℕ) (p : ℕ → Bool) → all_below n p ≡ true → (i : ℕ) → i < n → p i ≡ true
unfolding all_below
each_below zero p e i h = absurd (not-suc-le-zero h)
each_below (suc n) p e i h = go (each_below n p (and_left (all_below n p) (p n) e) i) (below_or_last n i h)
  where
    go : (i < n → p i ≡ true) → (i < n) ⊎ (i ≡ n) → p i ≡ true
    go f (inl l) = f l
    go f (inr d) = rw d (and_right (all_below n p) (p n) e)

-- what a search for the least number below n that passes the test has found
pub data Least (n : ℕ) (p : ℕ → Bool) : Option ℕ → Type 0 where
  found : (k : ℕ) → k < n → p k ≡ true → NoneBelow k p → Least n p (some k)
  missing : NoneBelow n p → Least n p none

-- the search finds the least number that passes, and nothing where none does
pub least_below_lem : (n : ℕ) (p : ℕ → Bool) → Least n p (least_below n p)
unfolding least_below
least_below_lem zero p = missing (λ i h. absurd (omega arith))
least_below_lem (suc n) p = go (least_below n p) (least_below_lem n p) (p n) refl
  where
    go : (o : Option ℕ) → Least n p o → (b : Bool) → p n ≡ b
        → Least (suc n) p (elim o [ some k ↦ some k | none ↦ cond b (some n) none ])
    go _ (found k h t l) b e = found k (omega arith) t l
    go _ (missing f) true e = found n (omega arith) e f
    go _ (missing f) false e = missing (λ i h. last i (below_or_last n i h))
      where
        last : (i : ℕ) → (i < n) ⊎ (i ≡ n) → p i ≡ false
        last i (inl l) = f i l
        last i (inr d) = rw d e

-- the tests agree below n
abbrev pub Agree : ℕ → (ℕ → Bool) → (ℕ → Bool) → Type 0
Agree n p q = (i : ℕ) → i < n → p i ≡ q i

fewer : {n : ℕ} {p q : ℕ → Bool} → Agree (suc n) p q → Agree n p q
fewer f i h = f i (omega arith)

-- tests that agree below n agree on whether some number passes
pub any_below-same : (n : ℕ) (p q : ℕ → Bool) → Agree n p q → any_below n p ≡ any_below n q
unfolding any_below
any_below-same zero p q f = refl
any_below-same (suc n) p q f = ap₂ ◌||◌ (any_below-same n p q (fewer f)) (f n (omega arith))

-- tests that agree below n agree on how many numbers pass
pub count_same : (n : ℕ) (p q : ℕ → Bool) → Agree n p q → count n p ≡ count n q
unfolding count
count_same zero p q f = refl
count_same (suc n) p q f = rw (count_same n p q (fewer f), f n (omega arith))

-- tests that agree below n agree on the list of the numbers that pass
pub listed_same : (n : ℕ) (p q : ℕ → Bool) → Agree n p q → listed n p ≡ listed n q
unfolding listed
listed_same zero p q f = refl
listed_same (suc n) p q f = rw (listed_same n p q (fewer f), f n (omega arith))

-- a last number that fails is not listed
pub listed_skip : (n : ℕ) (p : ℕ → Bool) → p n ≡ false → listed (suc n) p ≡ listed n p
unfolding listed
listed_skip n p e = rw e

-- tests that agree below n agree on the least number that passes
pub least_below-same : (n : ℕ) (p q : ℕ → Bool) → Agree n p q → least_below n p ≡ least_below n q
unfolding least_below
least_below-same zero p q f = refl
least_below-same (suc n) p q f =
    ap₂ (λ o b. elim o as (λ x. Option ℕ) [ some k ↦ some k | none ↦ cond b (some n) none ])
    (least_below-same n p q (fewer f)) (f n (omega arith))

-- where no number below n passes, none is found there,
pub any_none : (n : ℕ) (p : ℕ → Bool) → NoneBelow n p → any_below n p ≡ false
unfolding any_below
any_none zero p w = refl
any_none (suc n) p w = ap₂ ◌||◌ (any_none n p (fewer w)) (w n (omega arith))

-- none is counted,
pub count_none : (n : ℕ) (p : ℕ → Bool) → NoneBelow n p → count n p ≡ 0
unfolding count
count_none zero p w = refl
count_none (suc n) p w = rw (w n (omega arith)) (count_none n p (fewer w))

-- none is listed,
pub listed_none : (n : ℕ) (p : ℕ → Bool) → NoneBelow n p → listed n p ≡ []
unfolding listed
listed_none zero p w = refl
listed_none (suc n) p w = rw (w n (omega arith)) (listed_none n p (fewer w))

-- and none is the least
pub least_none : (n : ℕ) (p : ℕ → Bool) → NoneBelow n p → least_below n p ≡ none
unfolding least_below
least_none zero p w = refl
least_none (suc n) p w = rw (least_none n p (fewer w), w n (omega arith))
