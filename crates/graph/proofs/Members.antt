-- Laws of lists of numbers: their members, no number twice, in order; one number more at the end, turned round, and the list of
-- the numbers below n that pass a test. And of tests that all in a list pass, whatever it is a list of.
use mathlib.Core.Bool.{Bool, true, false, not, cond, ◌||◌, ◌&&◌, false≢true, or-true, or_assoc, and-false}
use mathlib.Core.List.{List, [], ◌∷◌, ◌++◌, reverse, reverse-cons}
use mathlib.Core.Logic.{◌⊎◌, inl, inr, ⊎_elim}
use mathlib.Core.Path.{◌≡◌, refl, sym, ◌∙◌, ap, subst}
use Prim.Native.Nat.{ℕ, zero, suc}
use native.Mathlib.Omega.{arith}
use lib.Dec.{eqb, ltb}
use Rattle.graph.specs.Below.{listed}
use Rattle.graph.specs.Lists.{all_in, is_in, distinct, ordered}
use Rattle.graph.proofs.Truth.{true_or_false, bool_ext, not_of_false, false_of_not_true, and_left, and_right, and_both, or_left, lt-ltb, ltb_lt, ge_ltb}
use Rattle.graph.proofs.Truth.{or_right, or_cases, or_neither, or_neither_left, or_neither_right, eqb_eq, eqb_same, eqb_ne, eqb_swap}

-- of three tests joined by "or" the first two change places
pub or_exchange : (a b c : Bool) → (a || (b || c)) ≡ (b || (a || c))
or_exchange true b c = sym (or-true b)
or_exchange false b c = refl

-- the first of a list is in it
pub is_in_head : (x : ℕ) (l : List ℕ) → is_in x (x ∷ l) ≡ true
unfolding is_in
is_in_head x l = or_left (eqb_same x) (is_in x l)

-- those behind the first are in the list
pub is_in_tail : (x y : ℕ) (l : List ℕ) → is_in x l ≡ true → is_in x (y ∷ l) ≡ true
unfolding is_in
is_in_tail x y l e = or_right (eqb x y) e

-- nothing else is in the list
pub is_in_cases : (x y : ℕ) (l : List ℕ) → is_in x (y ∷ l) ≡ true → (x ≡ y) ⊎ (is_in x l ≡ true)
unfolding is_in
is_in_cases x y l e = ⊎_elim (λ k. inl (eqb_eq x y k)) inr (or_cases (eqb x y) (is_in x l) e)

-- a test that all of two lists pass, all of the two on end pass
pub all_in-append : {A : Type 0} (f : A → Bool) (l m : List A) → all_in f l ≡ true → all_in f m ≡ true → all_in f (l ++ m) ≡ true
unfolding all_in
all_in-append f [] m a b = b
all_in-append f (x ∷ l) m a b = and_both (and_left (f x) (all_in f l) a) (all_in-append f l m (and_right (f x) (all_in f l) a) b)

-- and those of the second pass one that all pass
pub all_in_behind : {A : Type 0} (f : A → Bool) (l m : List A) → all_in f (l ++ m) ≡ true → all_in f m ≡ true
unfolding all_in
all_in_behind f [] m a = a
all_in_behind f (x ∷ l) m a = all_in_behind f l m (and_right (f x) (all_in f (l ++ m)) a)

-- all members pass a test if each does
pub all_in_lem : (f : ℕ → Bool) (l : List ℕ) → ((x : ℕ) → is_in x l ≡ true → f x ≡ true) → all_in f l ≡ true
unfolding all_in
all_in_lem f [] w = refl
all_in_lem f (y ∷ l) w = and_both (w y (is_in_head y l)) (all_in_lem f l (λ x e. w x (is_in_tail x y l e)))

-- each member passes a test that all pass
pub each_in : (f : ℕ → Bool) (l : List ℕ) → all_in f l ≡ true → (x : ℕ) → is_in x l ≡ true → f x ≡ true
unfolding all_in is_in
each_in f [] w x e = absurd (false≢true e)
each_in f (y ∷ l) w x e = ⊎_elim
    (λ k. subst (λ z. f z ≡ true) (sym k) (and_left (f y) (all_in f l) w))
    (each_in f l (and_right (f y) (all_in f l) w) x)
    (is_in_cases x y l e)

-- the first of a list with no number twice does not come again
pub distinct_head : (x : ℕ) (l : List ℕ) → distinct (x ∷ l) ≡ true → is_in x l ≡ false
unfolding distinct
distinct_head x l d = false_of_not_true (is_in x l) (and_left (not (is_in x l)) (distinct l) d)

-- those behind the first are different too
pub distinct_tail : (x : ℕ) (l : List ℕ) → distinct (x ∷ l) ≡ true → distinct l ≡ true
unfolding distinct
distinct_tail x l d = and_right (not (is_in x l)) (distinct l) d

-- a list with no number twice stays so with a new number in front
pub distinct_cons : (x : ℕ) (l : List ℕ) → is_in x l ≡ false → distinct l ≡ true → distinct (x ∷ l) ≡ true
unfolding distinct
distinct_cons x l k d = and_both (not_of_false k) d

-- the first of a list in order comes before all others
pub ordered_head : (before : ℕ → ℕ → Bool) (x : ℕ) (l : List ℕ) → ordered before (x ∷ l) ≡ true
    → (y : ℕ) → is_in y l ≡ true → before x y ≡ true
unfolding ordered
ordered_head before x l o = each_in (before x) l (and_left (all_in (before x) l) (ordered before l) o)

-- those behind the first are in order too
pub ordered_tail : (before : ℕ → ℕ → Bool) (x : ℕ) (l : List ℕ) → ordered before (x ∷ l) ≡ true → ordered before l ≡ true
unfolding ordered
ordered_tail before x l o = and_right (all_in (before x) l) (ordered before l) o

-- a list in order stays so with a number in front that comes before all
pub ordered_cons : (before : ℕ → ℕ → Bool) (x : ℕ) (l : List ℕ) → ((y : ℕ) → is_in y l ≡ true → before x y ≡ true)
    → ordered before l ≡ true → ordered before (x ∷ l) ≡ true
unfolding ordered
ordered_cons before x l w o = and_both (all_in_lem (before x) l w) o

-- a list in one order is in another that holds wherever the first does on its members
pub ordered_same : (before after : ℕ → ℕ → Bool) (l : List ℕ)
    → ((x y : ℕ) → is_in x l ≡ true → is_in y l ≡ true → before x y ≡ true → after x y ≡ true)
    → ordered before l ≡ true → ordered after l ≡ true
unfolding ordered
ordered_same before after [] w o = refl
ordered_same before after (z ∷ l) w o = ordered_cons after z l
    (λ y k. w z y (is_in_head z l) (is_in_tail y z l k) (ordered_head before z l o y k))
    (ordered_same before after l (λ x y i k. w x y (is_in_tail x z l i) (is_in_tail y z l k)) (ordered_tail before z l o))

-- the members of a list with one number more at the end
pub is_in_last : (x y : ℕ) (l : List ℕ) → is_in x (l ++ y ∷ []) ≡ (eqb x y || is_in x l)
unfolding is_in
is_in_last x y [] = refl
is_in_last x y (z ∷ l) = ap (λ b. eqb x z || b) (is_in_last x y l) ∙ or_exchange (eqb x z) (eqb x y) (is_in x l)

-- a list with no number twice stays so with a new number at the end
pub distinct_last : (y : ℕ) (l : List ℕ) → is_in y l ≡ false → distinct l ≡ true → distinct (l ++ y ∷ []) ≡ true
unfolding is_in
distinct_last y [] k d = distinct_cons y [] refl d
distinct_last y (z ∷ l) k d = distinct_cons z (l ++ y ∷ [])
    (is_in_last z y l ∙ or_neither (eqb_swap z y ∙ or_neither_left (eqb y z) (is_in y l) k) (distinct_head z l d))
    (distinct_last y l (or_neither_right (eqb y z) (is_in y l) k) (distinct_tail z l d))

-- a list in order stays so with a number at the end that comes behind all
pub ordered_last : (before : ℕ → ℕ → Bool) (y : ℕ) (l : List ℕ) → ((x : ℕ) → is_in x l ≡ true → before x y ≡ true)
    → ordered before l ≡ true → ordered before (l ++ y ∷ []) ≡ true
unfolding is_in
ordered_last before y [] w o = ordered_cons before y [] (λ x e. absurd (false≢true e)) o
ordered_last before y (z ∷ l) w o = ordered_cons before z (l ++ y ∷ [])
    (λ x e. ⊎_elim
    (λ k. subst (λ u. before z u ≡ true) (sym (eqb_eq x y k)) (w z (is_in_head z l)))
    (ordered_head before z l o x)
    (or_cases (eqb x y) (is_in x l) (sym (is_in_last x y l) ∙ e)))
    (ordered_last before y l (λ x e. w x (is_in_tail x z l e)) (ordered_tail before z l o))

-- a list turned round has the same members
pub is_in-reverse : (x : ℕ) (l : List ℕ) → is_in x (reverse l) ≡ is_in x l
unfolding is_in
is_in-reverse x [] = refl
is_in-reverse x (y ∷ l) =
    ap (is_in x) (reverse-cons y l) ∙ is_in_last x y (reverse l) ∙ ap (λ b. eqb x y || b) (is_in-reverse x l)

-- a list with no number twice stays so turned round
pub distinct-reverse : (l : List ℕ) → distinct l ≡ true → distinct (reverse l) ≡ true
distinct-reverse [] d = d
distinct-reverse (y ∷ l) d = rw (reverse-cons y l)
    (distinct_last y (reverse l) (is_in-reverse y l ∙ distinct_head y l d) (distinct-reverse l (distinct_tail y l d)))

-- a list in order is in the opposite order when turned round
pub ordered-reverse : (before : ℕ → ℕ → Bool) (l : List ℕ) → ordered before l ≡ true
    → ordered (λ x y. before y x) (reverse l) ≡ true
unfolding ordered
ordered-reverse before [] o = refl
ordered-reverse before (y ∷ l) o = rw (reverse-cons y l) (ordered_last (λ x z. before z x) y (reverse l)
    (λ x e. ordered_head before y l o x (sym (is_in-reverse x l) ∙ e))
    (ordered-reverse before l (ordered_tail before y l o)))

-- the members of the list of the numbers below n that pass a test
pub is_in-listed : (n : ℕ) (p : ℕ → Bool) (x : ℕ) → is_in x (listed n p) ≡ (ltb x n && p x)
unfolding listed is_in
is_in-listed zero p x = sym (ap (λ b. b && p x) (ge_ltb x 0 (omega arith)))
is_in-listed (suc n) p x = go (is_in-listed n p x) (true_or_false (eqb x n)) (true_or_false (p n))
  where
    next : ltb x (suc n) ≡ (eqb x n || ltb x n)
    next = bool_ext (ltb x (suc n)) (eqb x n || ltb x n)
        (λ e. ⊎_elim (λ k. or_left k (ltb x n))
        (λ k. or_right (eqb x n) (lt-ltb x n (omega (arith, eqb_ne x n k, ltb_lt x (suc n) e)))) (true_or_false (eqb x n)))
        (λ e. lt-ltb x (suc n) (⊎_elim (λ k. omega (arith, eqb_eq x n k)) (λ k. omega (arith, ltb_lt x n k))
        (or_cases (eqb x n) (ltb x n) e)))

    go : is_in x (listed n p) ≡ (ltb x n && p x) → (eqb x n ≡ true) ⊎ (eqb x n ≡ false) → (p n ≡ true) ⊎ (p n ≡ false)
        → is_in x (cond (p n) (listed n p ++ n ∷ []) (listed n p)) ≡ (ltb x (suc n) && p x)
    go r (inl k) (inl e) = rw (e, is_in_last, k, next, k) (sym (ap p (eqb_eq x n k) ∙ e))
    go r (inl k) (inr e) = rw (e, r, next, k) (rw (eqb_eq x n k, e) (and-false (ltb n n)))
    go r (inr k) (inl e) = rw (e, is_in_last, k, next, k) r
    go r (inr k) (inr e) = rw (e, next, k) r

-- that list has no number twice
pub distinct-listed : (n : ℕ) (p : ℕ → Bool) → distinct (listed n p) ≡ true
unfolding listed distinct
distinct-listed zero p = refl
distinct-listed (suc n) p = go (distinct-listed n p) (p n)
  where
    go : distinct (listed n p) ≡ true → (b : Bool) → distinct (cond b (listed n p ++ n ∷ []) (listed n p)) ≡ true
    go d true = distinct_last n (listed n p) (is_in-listed n p n ∙ ap (λ b. b && p n) (ge_ltb n n (omega arith))) d
    go d false = d

-- the members of two lists on end
pub is_in-append : (x : ℕ) (l m : List ℕ) → is_in x (l ++ m) ≡ (is_in x l || is_in x m)
unfolding is_in
is_in-append x [] m = refl
is_in-append x (y ∷ l) m = ap (λ b. eqb x y || b) (is_in-append x l m) ∙ sym (or_assoc (eqb x y) (is_in x l) (is_in x m))

-- two lists with no number twice and no number in common have none twice on end
pub distinct_append : (l m : List ℕ) → distinct l ≡ true → distinct m ≡ true → ((x : ℕ) → is_in x l ≡ true → is_in x m ≡ false)
    → distinct (l ++ m) ≡ true
distinct_append [] m d e w = e
distinct_append (x ∷ l) m d e w = distinct_cons x (l ++ m)
    (is_in-append x l m ∙ or_neither (distinct_head x l d) (w x (is_in_head x l)))
    (distinct_append l m (distinct_tail x l d) e (λ y k. w y (is_in_tail y x l k)))
