-- Laws of the list of the numbers below n that pass a test, and of the list of a function's values below n.
use mathlib.Core.Bool.{Bool, true, false, cond}
use mathlib.Core.List.Memᴰ
use mathlib.Core.List.{List, [], ◌∷◌, ◌++◌, map, map-append, Memᴰ}
use mathlib.Core.Logic.{◌⊎◌, inl, inr}
use mathlib.Core.Path.{◌≡◌, refl, ◌∙◌, ap}
use Prim.Native.Nat.{ℕ, zero, suc, ◌<◌}
use native.Mathlib.Nat.{not-suc-le-zero}
use native.Mathlib.Omega.{arith}
use lib.ListN.{get_or, get_or-append}
use lib.Seq.{get_or_at}
use Rattle.graph.specs.Below.{listed, tabulate, length_tabulate}
use Rattle.graph.proofs.Truth.{true_or_false}
use Rattle.graph.proofs.Below.{below_or_last}

-- a number below n that passes stands in the list
pub passes_listed : (n : ℕ) (p : ℕ → Bool) (i : ℕ) → i < n → p i ≡ true → Memᴰ i (listed n p)
unfolding listed
passes_listed zero p i h e = absurd (not-suc-le-zero h)
passes_listed (suc n) p i h e = go (passes_listed n p i) (below_or_last n i h)
  where
    more : (a : Bool) {l : List ℕ} → Memᴰ i l → Memᴰ i (cond a (l ++ n ∷ []) l)
    more true m = Memᴰ.append_left (n ∷ []) m
    more false m = m

    go : (i < n → p i ≡ true → Memᴰ i (listed n p)) → (i < n) ⊎ (i ≡ n)
        → Memᴰ i (cond (p n) (listed n p ++ n ∷ []) (listed n p))
    go f (inl l) = more (p n) (f l e)
    go f (inr d) = rw (rw d at e) (Memᴰ.append_right (listed n p) (Memᴰ.head d))

-- a number that stands in the list is below n and passes
pub listed_passes : (n : ℕ) (p : ℕ → Bool) (i : ℕ) → Memᴰ i (listed n p) → (i < n) × (p i ≡ true)
unfolding listed
listed_passes zero p i m = absurd (Memᴰ.not-nil m)
listed_passes (suc n) p i m = go (listed_passes n p i) (true_or_false (p n))
  where
    up : (i < n) × (p i ≡ true) → (i < suc n) × (p i ≡ true)
    up b = (omega arith, b.1)

    last : p n ≡ true → i ≡ n → (i < suc n) × (p i ≡ true)
    last e d = (omega arith, rw d e)

    cases : (Memᴰ i (listed n p) → (i < n) × (p i ≡ true)) → p n ≡ true
        → Memᴰ i (listed n p) ⊎ Memᴰ i (n ∷ []) → (i < suc n) × (p i ≡ true)
    cases f e (inl k) = up (f k)
    cases f e (inr k) = last e (Memᴰ.eq_of_singleton k)

    go : (Memᴰ i (listed n p) → (i < n) × (p i ≡ true)) → (p n ≡ true) ⊎ (p n ≡ false)
        → (i < suc n) × (p i ≡ true)
    go f (inl e) = cases f e (Memᴰ.append_cases (listed n p) (rw e at m))
    go f (inr e) = up (f (rw e at m))

-- functions that agree below n have one list of values at the numbers below n that pass
pub map-listed-same : {A : Type 0} (f g : ℕ → A) (p : ℕ → Bool) (n : ℕ) → ((x : ℕ) → x < n → f x ≡ g x)
    → map f (listed n p) ≡ map g (listed n p)
unfolding listed
map-listed-same f g p zero e = refl
map-listed-same f g p (suc n) e = go (map-listed-same f g p n (λ x h. e x (omega arith))) (true_or_false (p n))
  where
    go : map f (listed n p) ≡ map g (listed n p) → (p n ≡ true) ⊎ (p n ≡ false)
        → map f (cond (p n) (listed n p ++ n ∷ []) (listed n p)) ≡ map g (cond (p n) (listed n p ++ n ∷ []) (listed n p))
    go ih (inl q) = rw (q, map-append f (listed n p) (n ∷ []), map-append g (listed n p) (n ∷ []), ih, e n (omega arith))
    go ih (inr q) = rw q ih

-- entry i is the value at i
pub get_or-tabulate {ℓ} : {A : Type ℓ} (n : ℕ) (f : ℕ → A) (d : A) (i : ℕ) → i < n → get_or (tabulate n f) i d ≡ f i
unfolding tabulate
get_or-tabulate zero f d i h = absurd (not-suc-le-zero h)
get_or-tabulate {A = A} (suc n) f d i h = go (get_or-tabulate n f d i) (below_or_last n i h)
  where
    go : (i < n → get_or (tabulate n f) i d ≡ f i) → (i < n) ⊎ (i ≡ n) → get_or (tabulate n f ++ f n ∷ []) i d ≡ f i
    go ih (inl l) = rw (get_or-append (tabulate n f) (f n ∷ []) d i (rw (length_tabulate n f) l)) (ih l)
    go ih (inr e) = rw e (get_or_at (tabulate n f) (f n) [] d n (length_tabulate n f))

-- functions that agree below n have one list of values below n
pub tabulate_same {ℓ} : {A : Type ℓ} (n : ℕ) (f g : ℕ → A) → ((i : ℕ) → i < n → f i ≡ g i) → tabulate n f ≡ tabulate n g
unfolding tabulate
tabulate_same zero f g h = refl
tabulate_same (suc n) f g h = rw (tabulate_same n f g (λ i l. h i (omega arith)), h n (omega arith))

-- the first value, and behind it those that follow
pub tabulate_first {ℓ} : {A : Type ℓ} (n : ℕ) (f : ℕ → A) → tabulate (suc n) f ≡ f 0 ∷ tabulate n (λ i. f (suc i))
unfolding tabulate
tabulate_first zero f = refl
tabulate_first (suc n) f = ap (λ l. l ++ f (suc n) ∷ []) (tabulate_first n f)

-- a function of each value
pub map_tabulate {ℓ κ} : {A : Type ℓ} {B : Type κ} (h : A → B) (n : ℕ) (f : ℕ → A) → map h (tabulate n f) ≡ tabulate n (λ x. h (f x))
unfolding tabulate
map_tabulate h zero f = refl
map_tabulate h (suc n) f = map-append h (tabulate n f) (f n ∷ []) ∙ ap (λ l. l ++ h (f n) ∷ []) (map_tabulate h n f)
