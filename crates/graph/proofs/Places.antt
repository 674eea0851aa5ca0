-- The numbers below n that pass a test, in their list: number k stands at the place that is the count of the lesser ones that pass.
use mathlib.Core.Bool.{Bool, true, false, cond, false≢true}
use mathlib.Core.List.{List, [], ◌∷◌, ◌++◌}
use mathlib.Core.Logic.{◌⊎◌, inl, inr, ⊎_elim}
use mathlib.Core.Path.{◌≡◌, refl, sym, ◌∙◌, ap}
use Prim.Native.Nat.{ℕ, zero, suc, ◌<◌}
use native.Mathlib.Nat.{eq-or-lt_of_le}
use native.Mathlib.Omega.{arith}
use lib.Dec.{ltb}
use lib.ListN.{length, get_or, length-append, get_or-append}
use lib.Seq.{get_or_at}
use Rattle.graph.specs.Below.{count, listed}
use Rattle.graph.proofs.Truth.{true_or_false, ltb_lt, ltb_ge}
use Rattle.graph.proofs.Below.{below_or_last}

-- the list is as long as the count
pub length-listed-count : (n : ℕ) (p : ℕ → Bool) → length (listed n p) ≡ count n p
unfolding listed count
length-listed-count zero p = refl
length-listed-count (suc n) p = go (p n) (length-listed-count n p)
  where
    go : (b : Bool) → length (listed n p) ≡ count n p
        → length (cond b (listed n p ++ n ∷ []) (listed n p)) ≡ cond b (suc (count n p)) (count n p)
    go true e = rw (length-append (listed n p) (n ∷ [])) (omega (arith, e))
    go false e = e

-- x is the number below n that passes before which i pass
pub record Numbered (n : ℕ) (p : ℕ → Bool) (i x : ℕ) : Type 0 where
  pub below : x < n
  pub passes : p x ≡ true
  pub place : count x p ≡ i

-- at place i of the list stands the number before which i pass
pub each_listed : (n : ℕ) (p : ℕ → Bool) (i : ℕ) → i < length (listed n p) → Numbered n p i (get_or (listed n p) i 0)
unfolding listed
each_listed zero p i k = absurd (omega arith)
each_listed (suc n) p i k = go (p n) refl (each_listed n p i) k
  where
    old : (x : ℕ) → Numbered n p i x → Numbered (suc n) p i x
    old x w = record { below = omega (arith, w.below); passes = w.passes; place = w.place }

    last : p n ≡ true → (i < length (listed n p) → Numbered n p i (get_or (listed n p) i 0))
        → (i < length (listed n p)) ⊎ (i ≡ length (listed n p)) → Numbered (suc n) p i (get_or (listed n p ++ n ∷ []) i 0)
    last e f (inl l) = rw (get_or-append (listed n p) (n ∷ []) 0 i l) (old (get_or (listed n p) i 0) (f l))
    last e f (inr q) =
        rw (get_or_at (listed n p) n [] 0 i (sym q))
        (record { below = omega arith; passes = e; place = sym (length-listed-count n p) ∙ sym q })

    go : (b : Bool) → p n ≡ b → (i < length (listed n p) → Numbered n p i (get_or (listed n p) i 0))
        → i < length (cond b (listed n p ++ n ∷ []) (listed n p)) → Numbered (suc n) p i (get_or (cond b (listed n p ++ n ∷ []) (listed n p)) i 0)
    go true e f l = last e f (below_or_last (length (listed n p)) i (omega (arith, l, length-append (listed n p) (n ∷ []))))
    go false e f l = old (get_or (listed n p) i 0) (f l)

-- number x stands at place i of the list
pub record At (l : List ℕ) (i x : ℕ) : Type 0 where
  pub known : i < length l
  pub is : get_or l i 0 ≡ x

-- the number before which i pass stands at place i of the list
pub listed_at : (n : ℕ) (p : ℕ → Bool) (x : ℕ) → x < n → p x ≡ true → At (listed n p) (count x p) x
unfolding listed
listed_at zero p x k e = absurd (omega arith)
listed_at (suc n) p x k e = go (listed_at n p x) (below_or_last n x k)
  where
    more : (b : Bool) (i : ℕ) → At (listed n p) i x → At (cond b (listed n p ++ n ∷ []) (listed n p)) i x
    more true i a =
        record {
          known = omega (arith, a.known, length-append (listed n p) (n ∷ []));
          is = get_or-append (listed n p) (n ∷ []) 0 i a.known ∙ a.is;
        }
    more false i a = a

    last : (b : Bool) → b ≡ true → At (cond b (listed n p ++ n ∷ []) (listed n p)) (count n p) n
    last true e =
        record {
          known = omega (arith, length-listed-count n p, length-append (listed n p) (n ∷ []));
          is = get_or_at (listed n p) n [] 0 (count n p) (length-listed-count n p);
        }
    last false e = absurd (false≢true e)

    go : (x < n → p x ≡ true → At (listed n p) (count x p) x) → (x < n) ⊎ (x ≡ n)
        → At (cond (p n) (listed n p ++ n ∷ []) (listed n p)) (count x p) x
    go f (inl l) = more (p n) (count x p) (f l e)
    go f (inr q) = rw q (last (p n) (rw q at e))

-- a number before which more pass is greater
pub numbered_rise : {n : ℕ} {p : ℕ → Bool} (i j x y : ℕ) → Numbered n p i x → Numbered n p j y → i < j → x < y
numbered_rise {n} {p} i j x y v w h =
    ⊎_elim (ltb_lt x y) (λ k. absurd (⊎_elim equal lesser (eq-or-lt_of_le (ltb_ge x y k)))) (true_or_false (ltb x y))
  where
    equal : y ≡ x → ⊥
    equal q = omega (arith, ap (λ z. count z p) q, v.place, w.place)

    lesser : y < x → ⊥
    lesser k = omega (arith, (listed_at x p y k w.passes).known, length-listed-count x p, v.place, w.place)

-- where all pass, the count of the numbers below n is n
pub count_all : (n : ℕ) (p : ℕ → Bool) → ((i : ℕ) → p i ≡ true) → count n p ≡ n
unfolding count
count_all zero p f = refl
count_all (suc n) p f = rw (f n) (ap suc (count_all n p f))
