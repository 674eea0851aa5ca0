-- Laws of counting the numbers below n that pass a test, and of sums over them.
use mathlib.Core.Bool.{Bool, true, false, cond, ◌&&◌, ◌||◌, and-false}
use mathlib.Core.Logic.{◌⊎◌, inl, inr}
use mathlib.Core.Path.{◌≡◌, refl, sym, ap, ap₂}
use Prim.Native.Nat.{ℕ, zero, suc, ◌+◌, ◌*◌, ◌≤◌, ◌<◌}
use native.Mathlib.Nat.{not-suc-le-zero, le_refl}
use native.Mathlib.Omega.{arith}
use lib.Dec.{eqb, ltb}
use Rattle.graph.specs.Below.{any_below, count}
use Rattle.graph.proofs.Truth.{true_or_false, not_both, bool_ext, and_both, or_left, eqb_eq, eqb_same, ne_eqb, ltb_lt, lt-ltb}
use Rattle.graph.proofs.Below.{below_or_last, none_below, some_below, count_same, count_none}
use Rattle.naming.specs.Total.{total}

-- at most n numbers below n pass
pub count_at_most : (n : ℕ) (p : ℕ → Bool) → count n p ≤ n
unfolding count
count_at_most zero p = omega arith
count_at_most (suc n) p = step (p n) (count_at_most n p)
  where
    step : (a : Bool) {c : ℕ} → c ≤ n → cond a (suc c) c ≤ suc n
    step true h = omega arith
    step false h = omega arith

-- if some number below n passes, the count is at least 1
pub count_positive : (n : ℕ) (p : ℕ → Bool) (i : ℕ) → i < n → p i ≡ true → 1 ≤ count n p
unfolding count
count_positive zero p i h e = absurd (not-suc-le-zero h)
count_positive (suc n) p i h e = go (count_positive n p i) (below_or_last n i h)
  where
    more : (a : Bool) {c : ℕ} → 1 ≤ c → 1 ≤ cond a (suc c) c
    more true l = omega arith
    more false l = l

    go : (i < n → p i ≡ true → 1 ≤ count n p) → (i < n) ⊎ (i ≡ n) → 1 ≤ cond (p n) (suc (count n p)) (count n p)
    go f (inl l) = more (p n) (f l e)
    go f (inr d) = rw (rw d at e) (omega arith)

-- a test that passes wherever another does counts at least as many
pub count_monotone : (n : ℕ) (p q : ℕ → Bool) → ((i : ℕ) → i < n → p i ≡ true → q i ≡ true) → count n p ≤ count n q
unfolding count
count_monotone zero p q f = omega arith
count_monotone (suc n) p q f = step (p n) (q n) (f n (omega arith)) (count_monotone n p q (λ i h. f i (omega arith)))
  where
    step : (a b : Bool) → (a ≡ true → b ≡ true) → {c d : ℕ} → c ≤ d → cond a (suc c) c ≤ cond b (suc d) d
    step true true g h = omega arith
    step true false g h = absurd (not_both (g refl) refl)
    step false true g h = omega arith
    step false false g h = h

-- two tests that never both pass, each passing only where a third does, count together at most as many as the third
pub count_disjoint : (n : ℕ) (p q r : ℕ → Bool)
    → ((i : ℕ) → p i ≡ true → r i ≡ true)
    → ((i : ℕ) → q i ≡ true → r i ≡ true)
    → ((i : ℕ) → p i ≡ true → q i ≡ true → ⊥)
    → count n p + count n q ≤ count n r
unfolding count
count_disjoint zero p q r f g apart = omega arith
count_disjoint (suc n) p q r f g apart =
    step (p n) (q n) (r n) (f n) (g n) (apart n) (count n p) (count n q) (count n r) (count_disjoint n p q r f g apart)
  where
    step : (a b t : Bool)
        → (a ≡ true → t ≡ true)
        → (b ≡ true → t ≡ true)
        → (a ≡ true → b ≡ true → ⊥)
        → (c d e : ℕ)
        → c + d ≤ e
        → cond a (suc c) c + cond b (suc d) d ≤ cond t (suc e) e
    step true true t u v w c d e h = absurd (w refl refl)
    step true false true u v w c d e h = omega arith
    step true false false u v w c d e h = absurd (not_both (u refl) refl)
    step false true true u v w c d e h = omega arith
    step false true false u v w c d e h = absurd (not_both (v refl) refl)
    step false false true u v w c d e h = omega arith
    step false false false u v w c d e h = h

le_zero : (k : ℕ) → k ≤ 0 → k ≡ 0
le_zero k h = omega arith

-- more numbers, no smaller count
pub count_more : (k n : ℕ) (p : ℕ → Bool) → k ≤ n → count k p ≤ count n p
unfolding count
count_more k zero p h = rw (le_zero k h) (omega arith)
count_more k (suc n) p h = go (count_more k n p) (below_or_last (suc n) k (omega arith))
  where
    step : (a : Bool) {b c : ℕ} → b ≤ c → b ≤ cond a (suc c) c
    step true l = omega arith
    step false l = l

    go : (k ≤ n → count k p ≤ count n p) → (k < suc n) ⊎ (k ≡ suc n) → count k p ≤ cond (p n) (suc (count n p)) (count n p)
    go f (inl l) = step (p n) (f (omega arith))
    go f (inr d) = rw d (le_refl _)

-- a number that does not pass adds nothing
pub count_last_out : (n : ℕ) (p : ℕ → Bool) → p n ≡ false → count (suc n) p ≡ count n p
unfolding count
count_last_out n p e = rw e

-- a number that passes adds 1
pub count_last_in : (n : ℕ) (p : ℕ → Bool) → p n ≡ true → count (suc n) p ≡ suc (count n p)
unfolding count
count_last_in n p e = rw e

-- where a test passes the numbers of another and one more, it counts one more
count-one_more : (n : ℕ) (p q : ℕ → Bool) (i : ℕ) → i < n → p i ≡ false → q i ≡ true
    → ((j : ℕ) → j < n → (j ≡ i → ⊥) → p j ≡ q j)
    → count n q ≡ suc (count n p)
unfolding count
count-one_more zero p q i h fails passes others = absurd (not-suc-le-zero h)
count-one_more (suc n) p q i h fails passes others =
    go (λ l. count-one_more n p q i l fails passes (λ j k d. others j (omega arith) d)) (below_or_last n i h)
  where
    step : (a : Bool) {c d : ℕ} → d ≡ suc c → cond a (suc d) d ≡ suc (cond a (suc c) c)
    step true e = ap suc e
    step false e = e

    go : (i < n → count n q ≡ suc (count n p)) → (i < n) ⊎ (i ≡ n)
        → cond (q n) (suc (count n q)) (count n q) ≡ suc (cond (p n) (suc (count n p)) (count n p))
    go f (inl l) = rw (sym (others n (omega arith) (λ e. omega arith))) (step (p n) (f l))
    go f (inr d) =
        rw
        (rw d at passes, rw d at fails)
        (ap suc (sym (count_same n p q (λ j k. others j (omega arith) (λ e. omega arith)))))

-- where number x passes a test besides, one more of some numbers passes it if x is one of them, and else as many
pub count_with : (n : ℕ) (p test : ℕ → Bool) (x : ℕ) → x < n → test x ≡ false
    → count n (λ y. p y && (eqb y x || test y)) ≡ cond (p x) (suc (count n (λ y. p y && test y))) (count n (λ y. p y && test y))
count_with n p test x h fails = go (true_or_false (p x))
  where
    others : (y : ℕ) → (y ≡ x → ⊥) → (p y && test y) ≡ (p y && (eqb y x || test y))
    others y d = rw (ne_eqb y x d)

    without : p x ≡ false → (y : ℕ) → (eqb y x ≡ true) ⊎ (eqb y x ≡ false) → (p y && (eqb y x || test y)) ≡ (p y && test y)
    without out y (inl e) = rw (eqb_eq y x e, out)
    without out y (inr e) = rw e

    go : (p x ≡ true) ⊎ (p x ≡ false)
        → count n (λ y. p y && (eqb y x || test y)) ≡ cond (p x) (suc (count n (λ y. p y && test y))) (count n (λ y. p y && test y))
    go (inl one) =
        rw one (count-one_more n _ _ x h (rw fails (and-false (p x))) (and_both one (or_left (eqb_same x) (test x))) (λ y k d. others y d))
    go (inr out) = rw out (count_same n _ _ (λ y k. without out y (true_or_false (eqb y x))))

-- some number passes exactly if the count is not 0
pub some_counted : (n : ℕ) (p : ℕ → Bool) → any_below n p ≡ ltb 0 (count n p)
some_counted n p =
    bool_ext
    (any_below n p)
    (ltb 0 (count n p))
    (λ e. let b = some_below n p e in lt-ltb 0 (count n p) (count_positive n p b.at b.below b.passes))
    (λ e. go (true_or_false (any_below n p)) (ltb_lt 0 (count n p) e))
  where
    go : (any_below n p ≡ true) ⊎ (any_below n p ≡ false) → 0 < count n p → any_below n p ≡ true
    go (inl e) h = e
    go (inr e) h = absurd (omega (arith, count_none n p (none_below n p e)))

-- where a number passes a test exactly if it passes one of two others, which never both pass, their counts add up to its count
pub count-parts : (n : ℕ) (p q r : ℕ → Bool)
    → ((i : ℕ) → r i ≡ (p i || q i))
    → ((i : ℕ) → p i ≡ true → q i ≡ true → ⊥)
    → count n r ≡ count n p + count n q
unfolding count
count-parts zero p q r f apart = refl
count-parts (suc n) p q r f apart =
    rw (f n) (step (p n) (q n) (apart n) (count n p) (count n q) (count n r) (count-parts n p q r f apart))
  where
    step : (a b : Bool) → (a ≡ true → b ≡ true → ⊥) → (c d e : ℕ) → e ≡ c + d
        → cond (a || b) (suc e) e ≡ cond a (suc c) c + cond b (suc d) d
    step true true w c d e h = absurd (w refl refl)
    step true false w c d e h = omega arith
    step false true w c d e h = omega arith
    step false false w c d e h = h

-- equal numbers have equal sums
pub total-same : (n : ℕ) (f g : ℕ → ℕ) → ((x : ℕ) → x < n → f x ≡ g x) → total n f ≡ total n g
unfolding total
total-same zero f g h = refl
total-same (suc n) f g h = ap₂ ◌+◌ (total-same n f g (λ x l. h x (omega arith))) (h n (omega arith))

-- a sum of n numbers, each at most b, is at most n times b
pub total_at_most : (n b : ℕ) (f : ℕ → ℕ) → ((i : ℕ) → i < n → f i ≤ b) → total n f ≤ n * b
unfolding total
total_at_most zero b f h = omega arith
total_at_most (suc n) b f h = omega (arith, total_at_most n b f (λ i l. h i (omega arith)), h n (omega arith))

-- more numbers, no smaller sum
pub total_more : (k n : ℕ) (f : ℕ → ℕ) → k ≤ n → total k f ≤ total n f
unfolding total
total_more k zero f h = rw (le_zero k h) (omega arith)
total_more k (suc n) f h = go (total_more k n f) (below_or_last (suc n) k (omega arith))
  where
    go : (k ≤ n → total k f ≤ total n f) → (k < suc n) ⊎ (k ≡ suc n) → total k f ≤ total n f + f n
    go ih (inl l) = omega (arith, ih (omega arith))
    go ih (inr d) = rw d (le_refl _)

-- one more for each number that passes adds the count
pub total_and_count : (n : ℕ) (f f' : ℕ → ℕ) (p : ℕ → Bool)
    → ((i : ℕ) → i < n → f' i ≡ cond (p i) (suc (f i)) (f i))
    → total n f' ≡ total n f + count n p
unfolding total count
total_and_count zero f f' p h = refl
total_and_count (suc n) f f' p h =
    rw (h n (omega arith), total_and_count n f f' p (λ i l. h i (omega arith))) (step (p n) (total n f) (count n p) (f n))
  where
    step : (b : Bool) (t c k : ℕ) → t + c + cond b (suc k) k ≡ t + k + cond b (suc c) c
    step true t c k = omega arith
    step false t c k = omega arith
