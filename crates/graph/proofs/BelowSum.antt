-- The numbers below a sum m + n: those below m, and behind them the m + x with x below n. What holds of both holds of all; lists and counts
-- below the sum are made of both; and where none below m passes a test, those that pass are the m + x with x below n that do.
use mathlib.Core.Bool.{Bool, true, false, cond, ◌||◌, or-false, or_assoc}
use mathlib.Core.List.{List, [], ◌∷◌, ◌++◌, map, map-append, append_assoc, append-nil}
use mathlib.Core.Logic.{⊎_elim}
use mathlib.Core.Option
use mathlib.Core.Option.{Option, none, some}
use mathlib.Core.Path.{◌≡◌, refl, sym, ◌∙◌, ap, subst}
use Prim.Native.Nat.{ℕ, zero, suc, ◌+◌, ◌-◌, ◌<◌}
use native.Mathlib.Nat.{add-suc, add-zero, add-sub_of_le}
use native.Mathlib.Omega.{arith}
use lib.Dec.{ltb}
use Rattle.graph.specs.Below.{any_below, least_below, count, listed, tabulate}
use Rattle.graph.proofs.Truth.{true_or_false, ltb_lt, ltb_ge}
use Rattle.graph.proofs.Below.{NoneBelow, any_none, count_none, listed_none, least_none}

-- what holds of the numbers below m and of those behind them holds of all below the sum
pub below_sum : (P : ℕ → Type 0) (m n : ℕ) → ((x : ℕ) → x < m → P x) → ((x : ℕ) → x < n → P (m + x)) → (y : ℕ) → y < m + n → P y
below_sum P m n low high y h =
    ⊎_elim (λ e. low y (ltb_lt y m e))
    (λ e. let k = ltb_ge y m e in subst P (add-sub_of_le k) (high (y - m) (omega (arith, h, k)))) (true_or_false (ltb y m))

-- f at the numbers below a sum: at those below m, and then behind them
pub tabulate_sum : {A : Type 0} (m n : ℕ) (f : ℕ → A) → tabulate (m + n) f ≡ tabulate m f ++ tabulate n (λ x. f (m + x))
unfolding tabulate
tabulate_sum m zero f = ap (λ k. tabulate k f) (add-zero m) ∙ sym (append-nil (tabulate m f))
tabulate_sum m (suc n) f =
    ap (λ k. tabulate k f) (add-suc m n) ∙ ap (λ l. l ++ f (m + n) ∷ []) (tabulate_sum m n f)
    ∙ append_assoc (tabulate m f) (tabulate n (λ x. f (m + x))) (f (m + n) ∷ [])

-- how many below a sum pass: those below m, and those behind them
pub count-sum : (m n : ℕ) (p : ℕ → Bool) → count (m + n) p ≡ count m p + count n (λ x. p (m + x))
unfolding count
count-sum m zero p = ap (λ k. count k p) (add-zero m) ∙ sym (add-zero (count m p))
count-sum m (suc n) p = ap (λ k. count k p) (add-suc m n) ∙ go (p (m + n)) (count-sum m n p)
  where
    go : (c : Bool) → count (m + n) p ≡ count m p + count n (λ x. p (m + x))
        → cond c (suc (count (m + n) p)) (count (m + n) p) ≡ count m p + cond c (suc (count n (λ x. p (m + x)))) (count n (λ x. p (m + x)))
    go true e = ap suc e ∙ sym (add-suc (count m p) _)
    go false e = e

-- whether one below a sum passes: one below m, or one behind them
any_sum : (m n : ℕ) (p : ℕ → Bool) → any_below (m + n) p ≡ (any_below m p || any_below n (λ x. p (m + x)))
unfolding any_below
any_sum m zero p = ap (λ k. any_below k p) (add-zero m) ∙ sym (or-false (any_below m p))
any_sum m (suc n) p =
    ap (λ k. any_below k p) (add-suc m n) ∙ ap (λ c. c || p (m + n)) (any_sum m n p)
    ∙ or_assoc (any_below m p) (any_below n (λ x. p (m + x))) (p (m + n))

-- where none below m passes a test:
module _ (m : ℕ) (p : ℕ → Bool) (w : NoneBelow m p) where
  -- whether one passes
  pub any_behind : (n : ℕ) → any_below (m + n) p ≡ any_below n (λ x. p (m + x))
  any_behind n = any_sum m n p ∙ ap (λ b. b || any_below n (λ x. p (m + x))) (any_none m p w)

  -- how many do
  pub count_behind : (n : ℕ) → count (m + n) p ≡ count n (λ x. p (m + x))
  count_behind n = omega (arith, count-sum m n p, count_none m p w)

  -- the least that does
  pub least_behind : (n : ℕ) → least_below (m + n) p ≡ Option.map (λ x. m + x) (least_below n (λ x. p (m + x)))
  unfolding least_below
  least_behind zero = ap (λ k. least_below k p) (add-zero m) ∙ least_none m p w
  least_behind (suc n) =
      ap (λ k. least_below k p) (add-suc m n)
      ∙ go (least_below n (λ x. p (m + x))) (least_below (m + n) p) (least_behind n) (p (m + n))
    where
      go : (o o' : Option ℕ) → o' ≡ Option.map (λ x. m + x) o → (c : Bool)
          → elim o' as (λ x. Option ℕ) [ some k ↦ some k | none ↦ cond c (some (m + n)) none ]
          ≡ Option.map (λ x. m + x) (elim o as (λ x. Option ℕ) [ some k ↦ some k | none ↦ cond c (some n) none ])
      go none o' e true = rw e refl
      go none o' e false = rw e refl
      go (some k) o' e c = rw e refl

  -- all that do, rising
  pub listed_behind_lem : (n : ℕ) → listed (m + n) p ≡ map (λ x. m + x) (listed n (λ x. p (m + x)))
  unfolding listed
  listed_behind_lem zero = ap (λ k. listed k p) (add-zero m) ∙ listed_none m p w
  listed_behind_lem (suc n) = ap (λ k. listed k p) (add-suc m n) ∙ go (p (m + n)) (listed_behind_lem n)
    where
      here : List ℕ
      here = listed n (λ x. p (m + x))

      go : (c : Bool) → listed (m + n) p ≡ map (λ x. m + x) here
          → cond c (listed (m + n) p ++ (m + n) ∷ []) (listed (m + n) p) ≡ map (λ x. m + x) (cond c (here ++ n ∷ []) here)
      go true e = ap (λ l. l ++ (m + n) ∷ []) e ∙ sym (map-append (λ x. m + x) here (n ∷ []))
      go false e = e

-- where none behind m passes, one below the sum passes exactly if one below m does
pub any_front : (m : ℕ) (p : ℕ → Bool) (n : ℕ) → NoneBelow n (λ x. p (m + x)) → any_below (m + n) p ≡ any_below m p
any_front m p n w = any_sum m n p ∙ ap (λ b. any_below m p || b) (any_none n _ w) ∙ or-false (any_below m p)
