-- Laws of sorting: the same members, none twice, in order, and the only such list.
use mathlib.Core.Bool.{Bool, true, false, cond, ◌||◌, ◌&&◌, false≢true}
use mathlib.Core.List.{List, [], ◌∷◌}
use mathlib.Core.Logic.{◌⊎◌, inl, inr, ⊎_elim, ◌≢◌}
use mathlib.Core.Path.{◌≡◌, refl, sym, ◌∙◌, ap, ap₂, subst}
use Prim.Native.Nat.{ℕ}
use lib.Dec.{eqb, ltb}
use Rattle.graph.specs.Below.{listed}
use Rattle.graph.specs.Lists.{is_in, distinct, ordered}
use Rattle.graph.specs.Between.{insert, sort}
use Rattle.graph.proofs.Truth.{true_or_false, not_both, bool_ext, and_right, or_cases, or_neither, or_neither_left}
use Rattle.graph.proofs.Truth.{or_neither_right, eqb_eq, eqb_ne, eqb_swap}
use Rattle.graph.proofs.Below.{NoneBelow, listed_none}
use Rattle.graph.proofs.Members.{or_exchange, is_in_head, is_in_tail, is_in_cases, distinct_head, distinct_tail, distinct_cons}
use Rattle.graph.proofs.Members.{ordered_head, ordered_tail, ordered_cons, is_in-listed, distinct-listed}

-- on the numbers that pass the test the order is strict, and of two different ones one comes before the other
pub record Strict (before : ℕ → ℕ → Bool) (item : ℕ → Bool) : Type 0 where
  pub asymmetric : (x y : ℕ) → item x ≡ true → item y ≡ true → before x y ≡ true → before y x ≡ false
  pub transitive : (x y z : ℕ) → item x ≡ true → item y ≡ true → item z ≡ true
      → before x y ≡ true → before y z ≡ true → before x z ≡ true
  pub total : (x y : ℕ) → item x ≡ true → item y ≡ true → x ≢ y → (before x y ≡ true) ⊎ (before y x ≡ true)

-- a number put into a list is a member more
pub is_in-insert : (before : ℕ → ℕ → Bool) (x y : ℕ) (l : List ℕ) → is_in x (insert before y l) ≡ (eqb x y || is_in x l)
unfolding insert is_in
is_in-insert before x y [] = refl
is_in-insert before x y (z ∷ l) = go (is_in-insert before x y l) (before y z)
  where
    go : is_in x (insert before y l) ≡ (eqb x y || is_in x l) → (b : Bool)
        → is_in x (cond b (y ∷ z ∷ l) (z ∷ insert before y l)) ≡ (eqb x y || (eqb x z || is_in x l))
    go r true = refl
    go r false = ap (λ b. eqb x z || b) r ∙ or_exchange (eqb x z) (eqb x y) (is_in x l)

-- sorting keeps the members
pub is_in-sort : (before : ℕ → ℕ → Bool) (x : ℕ) (l : List ℕ) → is_in x (sort before l) ≡ is_in x l
unfolding sort is_in
is_in-sort before x [] = refl
is_in-sort before x (y ∷ l) = is_in-insert before x y (sort before l) ∙ ap (λ b. eqb x y || b) (is_in-sort before x l)

distinct-insert : (before : ℕ → ℕ → Bool) (y : ℕ) (l : List ℕ) → is_in y l ≡ false → distinct l ≡ true
    → distinct (insert before y l) ≡ true
unfolding insert is_in
distinct-insert before y [] k d = distinct_cons y [] k d
distinct-insert before y (z ∷ l) k d =
    go (distinct-insert before y l (or_neither_right (eqb y z) (is_in y l) k) (distinct_tail z l d)) (before y z)
  where
    go : distinct (insert before y l) ≡ true → (b : Bool) → distinct (cond b (y ∷ z ∷ l) (z ∷ insert before y l)) ≡ true
    go r true = distinct_cons y (z ∷ l) k d
    go r false = distinct_cons z (insert before y l)
        (is_in-insert before z y l ∙ or_neither (eqb_swap z y ∙ or_neither_left (eqb y z) (is_in y l) k) (distinct_head z l d)) r

-- sorting brings no number twice
pub distinct-sort : (before : ℕ → ℕ → Bool) (l : List ℕ) → distinct l ≡ true → distinct (sort before l) ≡ true
unfolding sort
distinct-sort before [] d = d
distinct-sort before (y ∷ l) d = distinct-insert before y (sort before l)
    (is_in-sort before y l ∙ distinct_head y l d) (distinct-sort before l (distinct_tail y l d))

-- the members of the sorted list of the numbers below n that pass a test
pub is_in_sorted : (before : ℕ → ℕ → Bool) (n : ℕ) (p : ℕ → Bool) (x : ℕ) → is_in x (sort before (listed n p)) ≡ (ltb x n && p x)
is_in_sorted before n p x = is_in-sort before x (listed n p) ∙ is_in-listed n p x

-- that list has no number twice
pub distinct_sorted : (before : ℕ → ℕ → Bool) (n : ℕ) (p : ℕ → Bool) → distinct (sort before (listed n p)) ≡ true
distinct_sorted before n p = distinct-sort before (listed n p) (distinct-listed n p)

-- where no number below n passes it is empty
pub sorted_none : (before : ℕ → ℕ → Bool) (n : ℕ) (p : ℕ → Bool) → NoneBelow n p → sort before (listed n p) ≡ []
unfolding sort
sorted_none before n p w = ap (sort before) (listed_none n p w)

-- a member of one list is a member of the other, if both begin alike and the first does not come again
tail_member : (x y z : ℕ) (l r : List ℕ) → x ≡ y → is_in x l ≡ false → is_in z (x ∷ l) ≡ is_in z (y ∷ r)
    → is_in z l ≡ true → is_in z r ≡ true
tail_member x y z l r h k m e = ⊎_elim
    (λ q. absurd (not_both (subst (λ u. is_in u l ≡ true) (q ∙ sym h) e) k))
    (λ q. q)
    (is_in_cases z y r (sym m ∙ is_in_tail z x l e))

module _ {before : ℕ → ℕ → Bool} {item : ℕ → Bool} (o : Strict before item) where
  ordered-insert : (y : ℕ) (l : List ℕ) → item y ≡ true → ((x : ℕ) → is_in x l ≡ true → item x ≡ true) → is_in y l ≡ false
      → ordered before l ≡ true → ordered before (insert before y l) ≡ true
  unfolding insert is_in
  ordered-insert y [] i w k q = ordered_cons before y [] (λ x e. absurd (false≢true e)) q
  ordered-insert y (z ∷ l) i w k q = go (true_or_false (before y z))
      (ordered-insert y l i (λ x e. w x (is_in_tail x z l e)) (or_neither_right (eqb y z) (is_in y l) k) (ordered_tail before z l q))
    where
      behind : (x : ℕ) → is_in x l ≡ true → before z x ≡ true
      behind = ordered_head before z l q

      turned : before y z ≡ false → before z y ≡ true
      turned f = ⊎_elim (λ e. absurd (not_both e f)) (λ e. e)
          (o.total y z i (w z (is_in_head z l)) (eqb_ne y z (or_neither_left (eqb y z) (is_in y l) k)))

      go : (before y z ≡ true) ⊎ (before y z ≡ false) → ordered before (insert before y l) ≡ true
          → ordered before (cond (before y z) (y ∷ z ∷ l) (z ∷ insert before y l)) ≡ true
      go (inl e) r = rw e (ordered_cons before y (z ∷ l) (λ x m. ⊎_elim
          (λ s. subst (λ u. before y u ≡ true) (sym s) e)
          (λ s. o.transitive y z x i (w z (is_in_head z l)) (w x m) e (behind x s))
          (is_in_cases x z l m)) q)
      go (inr e) r = rw e (ordered_cons before z (insert before y l) (λ x m. ⊎_elim
          (λ s. subst (λ u. before z u ≡ true) (sym (eqb_eq x y s)) (turned e))
          (behind x)
          (or_cases (eqb x y) (is_in x l) (sym (is_in-insert before x y l) ∙ m))) r)

  -- sorting by an order that is strict and total on the members, all different, brings them in order
  pub ordered-sort : (l : List ℕ) → ((x : ℕ) → is_in x l ≡ true → item x ≡ true) → distinct l ≡ true
      → ordered before (sort before l) ≡ true
  unfolding sort ordered
  ordered-sort [] w d = refl
  ordered-sort (y ∷ l) w d = ordered-insert y (sort before l) (w y (is_in_head y l))
      (λ x m. w x (is_in_tail x y l (sym (is_in-sort before x l) ∙ m)))
      (is_in-sort before y l ∙ distinct_head y l d)
      (ordered-sort l (λ x m. w x (is_in_tail x y l m)) (distinct_tail y l d))

  -- two lists in order with the same members, none twice, are one list
  pub ordered_unique : (l r : List ℕ) → ((x : ℕ) → is_in x l ≡ true → item x ≡ true) → ((x : ℕ) → is_in x l ≡ is_in x r)
      → distinct l ≡ true → distinct r ≡ true → ordered before l ≡ true → ordered before r ≡ true → l ≡ r
  unfolding is_in
  ordered_unique [] [] w m d e p q = refl
  ordered_unique [] (y ∷ r) w m d e p q = absurd (false≢true (m y ∙ is_in_head y r))
  ordered_unique (x ∷ l) [] w m d e p q = absurd (false≢true (sym (m x) ∙ is_in_head x l))
  ordered_unique (x ∷ l) (y ∷ r) w m d e p q = ap₂ ◌∷◌ heads
      (ordered_unique l r (λ z k. w z (is_in_tail z x l k))
      (λ z. bool_ext (is_in z l) (is_in z r)
      (tail_member x y z l r heads (distinct_head x l d) (m z))
      (tail_member y x z r l (sym heads) (distinct_head y r e) (sym (m z))))
      (distinct_tail x l d) (distinct_tail y r e) (ordered_tail before x l p) (ordered_tail before y r q))
    where
      two : is_in x r ≡ true → is_in y l ≡ true → x ≡ y
      two h k = absurd (not_both (ordered_head before y r q x h)
          (o.asymmetric x y (w x (is_in_head x l)) (w y (is_in_tail y x l k)) (ordered_head before x l p y k)))

      heads : x ≡ y
      heads = ⊎_elim (λ h. h) (λ h. ⊎_elim sym (two h) (is_in_cases y x l (m y ∙ is_in_head y r)))
          (is_in_cases x y r (sym (m x) ∙ is_in_head x l))

  -- a list in order, none twice, of exactly those below n that pass a test is what sorting them gives
  pub sort_unique : (n : ℕ) (p : ℕ → Bool) → ((x : ℕ) → p x ≡ true → item x ≡ true)
      → (l : List ℕ) → ((x : ℕ) → is_in x l ≡ (ltb x n && p x)) → distinct l ≡ true → ordered before l ≡ true
      → l ≡ sort before (listed n p)
  sort_unique n p w l m d q = ordered_unique l (sort before (listed n p))
      (λ x k. items x (sym (m x) ∙ k))
      (λ x. m x ∙ sym (is_in_sorted before n p x))
      d (distinct_sorted before n p)
      q (ordered-sort (listed n p) (λ x k. items x (sym (is_in-listed n p x) ∙ k)) (distinct-listed n p))
    where
      items : (x : ℕ) → (ltb x n && p x) ≡ true → item x ≡ true
      items x k = w x (and_right (ltb x n) (p x) k)
