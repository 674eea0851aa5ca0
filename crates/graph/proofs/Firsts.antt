-- Laws of first occurrences: their members, none twice, their order.
use mathlib.Core.Bool.{Bool, true, false, not, cond, ◌||◌, ◌&&◌, and-true, and-false}
use mathlib.Core.List.{List, [], ◌∷◌}
use mathlib.Core.Logic.{◌⊎◌, inl, inr, ◌≢◌}
use mathlib.Core.Path.{◌≡◌, refl, sym, ◌∙◌, ap}
use Prim.Native.Nat.{ℕ}
use lib.Dec.{eqb}
use Rattle.graph.specs.Lists.{is_in, distinct, ordered}
use Rattle.graph.specs.Travel.{firsts}
use Rattle.graph.proofs.Truth.{true_or_false, false_of_not_true, bool_ext, and_left, and_right, and_both, eqb_eq, eqb_same, eqb_ne}
use Rattle.graph.proofs.Members.{distinct_cons, ordered_cons}

-- The test, without x.
abbrev pub except : (ℕ → Bool) → ℕ → ℕ → Bool
except p x = λ y. p y && not (eqb y x)

-- what passes the test without x passes the test
pub except_passes : (p : ℕ → Bool) (x y : ℕ) → except p x y ≡ true → p y ≡ true
except_passes p x y e = and_left (p y) (not (eqb y x)) e

-- what passes the test without x is not x
pub except_differs : (p : ℕ → Bool) (x y : ℕ) → except p x y ≡ true → y ≢ x
except_differs p x y e = eqb_ne y x (false_of_not_true (eqb y x) (and_right (p y) (not (eqb y x)) e))

-- the first occurrences are those members of the list that pass
pub is_in-firsts : (p : ℕ → Bool) (y : ℕ) (l : List ℕ) → is_in y (firsts p l) ≡ (p y && is_in y l)
unfolding firsts is_in
is_in-firsts p y [] = sym (and-false (p y))
is_in-firsts p y (x ∷ l) = go (is_in-firsts (except p x) y l) (true_or_false (p x)) (true_or_false (eqb y x))
  where
    go : is_in y (firsts (except p x) l) ≡ (except p x y && is_in y l) → (p x ≡ true) ⊎ (p x ≡ false) → (eqb y x ≡ true) ⊎ (eqb y x ≡ false)
        → is_in y (cond (p x) (x ∷ firsts (except p x) l) (firsts (except p x) l)) ≡ (p y && (eqb y x || is_in y l))
    go r (inl k) (inl e) = rw (k, e, ap p (eqb_eq y x e) ∙ k)
    go r (inl k) (inr e) = rw (k, e, r, e, and-true)
    go r (inr k) (inl e) = rw (k, r, ap p (eqb_eq y x e) ∙ k)
    go r (inr k) (inr e) = rw (k, r, e, and-true)

-- where all that pass are in the list, they are exactly those that pass
pub is_in_firsts_all : (p : ℕ → Bool) (l : List ℕ) → ((x : ℕ) → p x ≡ true → is_in x l ≡ true)
    → (x : ℕ) → is_in x (firsts p l) ≡ p x
is_in_firsts_all p l w x =
    is_in-firsts p x l ∙ bool_ext (p x && is_in x l) (p x) (and_left (p x) (is_in x l)) (λ k. and_both k (w x k))

-- none of them twice
pub distinct-firsts : (p : ℕ → Bool) (l : List ℕ) → distinct (firsts p l) ≡ true
unfolding firsts distinct
distinct-firsts p [] = refl
distinct-firsts p (x ∷ l) = go (distinct-firsts (except p x) l) (p x)
  where
    go : distinct (firsts (except p x) l) ≡ true → (b : Bool) → distinct (cond b (x ∷ firsts (except p x) l) (firsts (except p x) l)) ≡ true
    go d true = distinct_cons x (firsts (except p x) l)
        (is_in-firsts (except p x) x l ∙ ap (λ b. p x && not b && is_in x l) (eqb_same x) ∙ ap (λ b. b && is_in x l) (and-false (p x))) d
    go d false = d

-- one more at the front: it comes before the later ones, if it passes
pub ordered-firsts : (before : ℕ → ℕ → Bool) (p : ℕ → Bool) (x : ℕ) (l : List ℕ)
    → (p x ≡ true → (y : ℕ) → p y ≡ true → y ≢ x → before x y ≡ true)
    → ordered before (firsts (except p x) l) ≡ true → ordered before (firsts p (x ∷ l)) ≡ true
unfolding firsts
ordered-firsts before p x l w o = go (true_or_false (p x))
  where
    go : (p x ≡ true) ⊎ (p x ≡ false) → ordered before (cond (p x) (x ∷ firsts (except p x) l) (firsts (except p x) l)) ≡ true
    go (inl k) = rw k (ordered_cons before x (firsts (except p x) l) (λ y i. later y
        (and_left (except p x y) (is_in y l) (sym (is_in-firsts (except p x) y l) ∙ i))) o)
      where
        later : (y : ℕ) → except p x y ≡ true → before x y ≡ true
        later y e = w k y (except_passes p x y e) (except_differs p x y e)
    go (inr k) = rw k o
