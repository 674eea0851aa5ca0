-- The best of the names of a listing's items is the one that naming chooses: that of the largest group, among equals the least name.
use Rattle.std.proofs.Common.{◌≡◌, ℕ, zero, suc, ◌-◌, ◌<◌, Bool, true, false, cond, ◌&&◌, ◌||◌, eqb, ltb, leb, ◌⊎◌, List, [], ◌∷◌, length, sym, refl, ap, ◌∙◌, inl, inr, arith}
use mathlib.Core.List.Memᴰ
use mathlib.Core.List.{Memᴰ}
use Rattle.graph.proofs.Truth.{true_or_false, eq-eqb, ne_eqb, ltb_lt, ltb_ge}
use Rattle.naming.specs.Rename.{Grouping, size, Candidate, better, best_of, candidate}
use Rattle.naming.proofs.Best.{Better, AtMost, Outdone, better_is, at_most_refl, best_of_lists, best_of_agree}
use Rattle.table.specs.declared.words.Area.{Area}
use Rattle.table.specs.declared.merge.Listing.{Listing}
use Rattle.table.specs.Inside.Merge.{name_in, size_in, item_of, items_from, better_name, best_over, best_listed}
use Rattle.table.specs.Inside.KindValid.{names_in, KindValid}
use Rattle.table.proofs.KindNames.{name_in_list, length-names}

-- What the table says of an item's group.
abbrev standing : List ℕ → Area → ℕ → Candidate
standing t area x = record { size = size_in t area (name_in t area x); name = name_in t area x }

-- the words of two groups decide as their candidates do
better_name_lem : (t : List ℕ) (area : Area) (c d : Candidate) → size_in t area c.name ≡ c.size → size_in t area d.name ≡ d.size
    → better_name t area c.name d.name ≡ (better c d).name
unfolding better_name better
better_name_lem t area c d p q = rw (p, q) (go (true_or_false (ltb d.size c.size)) (true_or_false (ltb c.size d.size)))
  where
    last : (b : Bool) → cond b c.name d.name ≡ (cond b c d).name
    last true = refl
    last false = refl

    Decided : Bool → Bool → Type 0
    Decided a b =
        cond a c.name (cond b d.name (cond (leb c.name d.name) c.name d.name))
        ≡ (cond (a || (eqb c.size d.size && leb c.name d.name)) c d).name

    go : (ltb d.size c.size ≡ true) ⊎ (ltb d.size c.size ≡ false)
        → (ltb c.size d.size ≡ true) ⊎ (ltb c.size d.size ≡ false)
        → Decided (ltb d.size c.size) (ltb c.size d.size)
    go (inl e) f = rw e
    go (inr e) (inl f) = rw (e, f, ne_eqb c.size d.size (λ k. omega (arith, ltb_lt c.size d.size f)))
    go (inr e) (inr f) =
        rw
        (e, f, eq-eqb c.size d.size (omega (arith, ltb_ge d.size c.size e, ltb_ge c.size d.size f)))
        (last (leb c.name d.name))

-- choosing from the left, one item after another, gives the best of the list
best_over_lem : (t : List ℕ) (area : Area) (i : ℕ) (xs : List ℕ)
    → best_over t area (name_in t area i) xs ≡ (best_of (standing t area) (standing t area i) xs).name
unfolding best_over best_of
best_over_lem t area i [] = refl
best_over_lem t area i (x ∷ xs) = go (better_is (of i) (of x)) (best_over_lem t area i xs) (best_over_lem t area x xs)
  where
    of : ℕ → Candidate
    of = standing t area

    Chosen : Type 0
    Chosen = best_over t area (better_name t area (name_in t area i) (name_in t area x)) xs ≡ (best_of of (of i) (x ∷ xs)).name

    chosen : better_name t area (name_in t area i) (name_in t area x) ≡ (better (of i) (of x)).name
    chosen = better_name_lem t area (of i) (of x) refl refl

    later : (z : ℕ) → Memᴰ z xs → Memᴰ z (i ∷ x ∷ xs)
    later z m = Memᴰ.tail (Memᴰ.tail m)

    -- the list that begins with the better of the first two has the same best
    same : (j : ℕ) → AtMost (of i) (of j) → AtMost (of x) (of j) → Memᴰ j (i ∷ x ∷ xs)
        → best_of of (of j) xs ≡ best_of of (of i) (x ∷ xs)
    same j h k m = best_of_lists of j i xs (x ∷ xs) (λ z u. fewer z (Memᴰ.cases_cons u)) (λ z u. more z (Memᴰ.cases_cons u))
      where
        fewer : (z : ℕ) → (z ≡ j) ⊎ Memᴰ z xs → Outdone of (i ∷ x ∷ xs) z
        fewer z (inl e) = record { by = j; member = m; better = rw e (at_most_refl (of j)) }
        fewer z (inr u) = record { by = z; member = later z u; better = at_most_refl (of z) }

        second : (z : ℕ) → (z ≡ x) ⊎ Memᴰ z xs → Outdone of (j ∷ xs) z
        second z (inl e) = record { by = j; member = Memᴰ.head refl; better = rw e k }
        second z (inr u) = record { by = z; member = Memᴰ.tail u; better = at_most_refl (of z) }

        more : (z : ℕ) → (z ≡ i) ⊎ Memᴰ z (x ∷ xs) → Outdone of (j ∷ xs) z
        more z (inl e) = record { by = j; member = Memᴰ.head refl; better = rw e h }
        more z (inr u) = second z (Memᴰ.cases_cons u)

    go : Better (of i) (of x) (better (of i) (of x))
        → best_over t area (name_in t area i) xs ≡ (best_of of (of i) xs).name
        → best_over t area (name_in t area x) xs ≡ (best_of of (of x) xs).name
        → Chosen
    go b f g = pick b.either
      where
        pick : (of i ≡ better (of i) (of x)) ⊎ (of x ≡ better (of i) (of x)) → Chosen
        pick (inl e) =
            rw (chosen, ← e)
            (f ∙ ap (λ (c : Candidate). c.name) (same i (at_most_refl (of i)) (rw (← e) at b.right) (Memᴰ.head refl)))
        pick (inr e) =
            rw (chosen, ← e)
            (g ∙ ap (λ (c : Candidate). c.name) (same x (rw (← e) at b.left) (at_most_refl (of x)) (Memᴰ.tail (Memᴰ.head refl))))

-- the first of some listed items, and those behind it
first_and_rest : (t : List ℕ) (l : Listing) (k r : ℕ) (rs : List ℕ) → items_from t l 0 k ≡ r ∷ rs
    → (item_of t l 0 ≡ r) × (items_from t l 1 (k - 1) ≡ rs)
unfolding items_from
first_and_rest t l zero r rs e = ((cc), (cc))
first_and_rest t l (suc k) r rs e = ((cc), rw less (cc))
  where
    less : suc k - 1 ≡ k
    less = omega arith

-- the table says of an item's group what naming takes for it
stands : (t : List ℕ) (area : Area) (n : ℕ) (before : Grouping) → KindValid t area n before → (x : ℕ) → x < n
    → standing t area x ≡ candidate before (names_in t area n) x
unfolding candidate
stands t area n before valid x h = λ i. record { size = sizes i; name = sym (name_in_list t area n x h) i }
  where
    sizes : size_in t area (name_in t area x) ≡ size (length (names_in t area n)) before x
    sizes = rw (length-names t area n) (valid.sized x h)

-- in a valid table the best of the listed names is the best name of the listed items' groups
pub best_listed_lem : (t : List ℕ) (area : Area) (n : ℕ) (before : Grouping) → KindValid t area n before
    → (l : Listing) (r : ℕ) (rs : List ℕ)
    → items_from t l 0 l.count ≡ r ∷ rs
    → ((z : ℕ) → Memᴰ z (r ∷ rs) → z < n)
    → best_listed t area l
    ≡ (best_of (candidate before (names_in t area n)) (candidate before (names_in t area n) r) rs).name
unfolding best_listed
best_listed_lem t area n before valid l r rs items small =
    rw (first.0, first.1) (best_over_lem t area r rs ∙ ap (λ (c : Candidate). c.name) agree)
  where
    first : (item_of t l 0 ≡ r) × (items_from t l 1 (l.count - 1) ≡ rs)
    first = first_and_rest t l l.count r rs items

    of : ℕ → Candidate
    of = candidate before (names_in t area n)

    same : (x : ℕ) → x < n → standing t area x ≡ of x
    same = stands t area n before valid

    agree : best_of (standing t area) (standing t area r) rs ≡ best_of of (of r) rs
    agree =
        rw (same r (small r (Memᴰ.head refl)))
        (best_of_agree (standing t area) of (of r) rs (λ z m. same z (small z (Memᴰ.tail m))))
