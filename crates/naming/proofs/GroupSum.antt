-- Sums over groups, each group counted once: numbers of items in each group add up to the number in all, and the sizes of groups that lie
-- within a larger one to its size.
use mathlib.Core.Bool.{Bool, true, false, not, cond, ◌&&◌, ◌||◌}
use mathlib.Core.Logic.{◌⊎◌, inl, inr, ⊎_elim}
use mathlib.Core.Path.{◌≡◌, refl, sym, ◌∙◌, ap}
use Prim.Native.Nat.{ℕ, zero, suc, ◌+◌, ◌<◌}
use native.Mathlib.Omega.{arith}
use Rattle.graph.specs.Below.{any_below, count}
use Rattle.graph.proofs.Truth.{true_or_false, false_of_not, not_both, bool_ext, and_left, and_right, and_both, or_left, or_right, or_cases}
use Rattle.graph.proofs.Below.{any_below_lem, some_below, count_same, count_none}
use Rattle.naming.specs.Rename.{Grouping, size}
use Rattle.naming.specs.Total.{total, is_first, over_groups}
use Rattle.naming.proofs.Count.{count-parts, total-same}
use Rattle.naming.proofs.Equivalent.{Equivalent, Finer}

module _ (n : ℕ) (groups : Grouping) (e : Equivalent groups) (test : ℕ → Bool) where
  -- how many of the items in x's group pass the test
  abbrev in_group : ℕ → ℕ
  in_group x = count n (λ y. groups x y && test y)

  -- y passes the test, and its group has one of the first k items
  abbrev reached : ℕ → ℕ → Bool
  reached k y = test y && any_below k (groups y)

  -- with item k its own group is reached, beside those that were before
  next_reaches : (k y : ℕ) → reached (suc k) y ≡ (reached k y || (groups k y && test y))
  unfolding any_below
  next_reaches k y =
      bool_ext
      (reached (suc k) y)
      (reached k y || (groups k y && test y))
      (λ h.
      let passes = and_left (test y) _ h in
      ⊎_elim
      (λ a. or_left (and_both passes a) (groups k y && test y))
      (λ b. or_right (reached k y) (and_both (e.symmetric y k b) passes))
      (or_cases (any_below k (groups y)) (groups y k) (and_right (test y) _ h)))
      (λ h.
      ⊎_elim
      (λ a. and_both (and_left (test y) _ a) (or_left (and_right (test y) (any_below k (groups y)) a) (groups y k)))
      (λ b. and_both (and_right (groups k y) (test y) b) (or_right (any_below k (groups y)) (e.symmetric k y (and_left (groups k y) (test y) b))))
      (or_cases (reached k y) (groups k y && test y) h))

  -- which was not reached before where k is the first of it
  first_apart : (k : ℕ) → any_below k (groups k) ≡ false → (y : ℕ) → reached k y ≡ true → (groups k y && test y) ≡ true → ⊥
  first_apart k first y h g =
      let x = some_below k (groups y) (and_right (test y) (any_below k (groups y)) h) in
      not_both (any_below_lem k (groups k) x.at x.below (e.transitive k y x.at (and_left (groups k y) (test y) g) x.passes)) first

  -- and was where it is not
  other_reaches : (k : ℕ) → any_below k (groups k) ≡ true → (y : ℕ) → reached (suc k) y ≡ reached k y
  unfolding any_below
  other_reaches k other y =
      ap
      (λ b. test y && b)
      (bool_ext
      (any_below k (groups y) || groups y k)
      (any_below k (groups y))
      (λ h. ⊎_elim (λ a. a) before (or_cases (any_below k (groups y)) (groups y k) h))
      (λ h. or_left h (groups y k)))
    where
      before : groups y k ≡ true → any_below k (groups y) ≡ true
      before h =
          let x = some_below k (groups k) other in
          any_below_lem k (groups y) x.at x.below (e.transitive y k x.at h x.passes)

  -- the groups of the first k items have as many that pass as are reached
  first_groups : (k : ℕ) → total k (λ x. cond (is_first groups x) (in_group x) 0) ≡ count n (reached k)
  unfolding total is_first any_below
  first_groups zero = sym (count_none n (reached 0) (λ y h. false_of_not (reached 0 y) (λ a. not_both (and_right (test y) false a) refl)))
  first_groups (suc k) = go (first_groups k) (true_or_false (any_below k (groups k)))
    where
      go : total k (λ x. cond (is_first groups x) (in_group x) 0) ≡ count n (reached k)
          → (any_below k (groups k) ≡ true) ⊎ (any_below k (groups k) ≡ false)
          → total k (λ x. cond (is_first groups x) (in_group x) 0) + cond (not (any_below k (groups k))) (in_group k) 0 ≡ count n (reached (suc k))
      go before (inl other) = rw (other, before) (omega (arith, count_same n (reached (suc k)) (reached k) (λ y h. other_reaches k other y)))
      go before (inr first) =
          rw (first, before)
          (sym (count-parts n (reached k) (λ y. groups k y && test y) (reached (suc k)) (next_reaches k) (first_apart k first)))

  -- the items of each group that pass a test, each group counted once, are all that pass it
  pub groups_add_up : over_groups n groups (λ x. count n (λ y. groups x y && test y)) ≡ count n test
  unfolding over_groups
  groups_add_up = first_groups n ∙ count_same n (reached n) test (λ y h. all y h)
    where
      all : (y : ℕ) → y < n → reached n y ≡ test y
      all y h =
          bool_ext
          (reached n y)
          (test y)
          (and_left (test y) (any_below n (groups y)))
          (λ p. and_both p (any_below_lem n (groups y) y h (e.reflexive y)))

-- equal numbers have equal sums over groups
pub over_groups-same : (n : ℕ) (groups : Grouping) (f g : ℕ → ℕ) → ((x : ℕ) → x < n → f x ≡ g x) → over_groups n groups f ≡ over_groups n groups g
unfolding over_groups
over_groups-same n groups f g h = total-same n _ _ (λ x l. ap (λ k. cond (is_first groups x) k 0) (h x l))

-- Groups that lie within larger groups.
module _ (n : ℕ) (fine coarse : Grouping) (f : Equivalent fine) (c : Equivalent coarse) (within : Finer fine coarse) where
  -- of y's group all items are in x's larger group if y is, and else none
  whole_or_none : (x y : ℕ) → cond (coarse x y) (size n fine y) 0 ≡ count n (λ z. fine y z && coarse x z)
  unfolding size
  whole_or_none x y = go (true_or_false (coarse x y))
    where
      go : (coarse x y ≡ true) ⊎ (coarse x y ≡ false) → cond (coarse x y) (count n (fine y)) 0 ≡ count n (λ z. fine y z && coarse x z)
      go (inl in_it) =
          rw in_it
          (count_same n (fine y) (λ z. fine y z && coarse x z)
          (λ z h.
          bool_ext
          (fine y z)
          (fine y z && coarse x z)
          (λ one. and_both one (c.transitive x y z in_it (within y z one)))
          (and_left (fine y z) (coarse x z))))
      go (inr out) =
          rw out
          (sym
          (count_none n (λ z. fine y z && coarse x z)
          (λ z h.
          false_of_not (fine y z && coarse x z)
          (λ both.
          let one = within y z (and_left (fine y z) (coarse x z) both) in
          not_both (c.transitive x z y (and_right (fine y z) (coarse x z) both) (c.symmetric y z one)) out))))

  -- the sizes of those within x's, each counted once, add up to its size
  pub parts_add_up : (x : ℕ) → over_groups n fine (λ y. cond (coarse x y) (size n fine y) 0) ≡ size n coarse x
  unfolding size
  parts_add_up x = over_groups-same n fine _ _ (λ y h. whole_or_none x y) ∙ groups_add_up n fine f (coarse x)
