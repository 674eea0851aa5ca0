-- A group of one item, named by the greatest name, never gives the best name: so it is with a new item.
use mathlib.Core.Bool.{false}
use mathlib.Core.List.Memᴰ
use mathlib.Core.List.{List, [], ◌∷◌, ◌++◌, Memᴰ}
use mathlib.Core.Logic.{◌⊎◌, inl, inr}
use mathlib.Core.Path.{◌≡◌, refl, ◌∙◌}
use Prim.Native.Nat.{ℕ, suc, ◌≤◌, ◌<◌}
use native.Mathlib.Omega.{arith}
use lib.ListN.{length, length-append}
use Rattle.naming.specs.Rename.{Grouping, size, name_of, Candidate, candidate, best_of}
use Rattle.naming.proofs.Equivalent.{Equivalent, group_swap, size_positive, size_others, size-alone}
use Rattle.naming.proofs.Best.{AtMost, at_most_refl, Outdone, best_of_lists, best_of_agree}
use Rattle.naming.proofs.Naming.{name_of_old, name_of_new}

-- a group of one item does not win against any whose name is no greater
pub single_loses : (n : ℕ) (before : Grouping) (names : List ℕ)
    → length names ≡ n
    → Equivalent before
    → (s z : ℕ)
    → z < n
    → size n before s ≡ 1
    → name_of names z ≤ name_of names s
    → AtMost (candidate before names s) (candidate before names z)
unfolding candidate
single_loses n before names sized e s z h one least =
    rw sized record { no_larger = omega (arith, size_positive n before e z h); no_less = λ q. least }

-- an item that does not win against any of a list may be left out of one that holds it and them
pub never_wins : (of : ℕ → Candidate) (s r t : ℕ) (rs ts : List ℕ)
    → ((z : ℕ) → Memᴰ z (r ∷ rs) → AtMost (of s) (of z))
    → ((z : ℕ) → Memᴰ z (t ∷ ts) → (z ≡ s) ⊎ Memᴰ z (r ∷ rs))
    → ((z : ℕ) → Memᴰ z (r ∷ rs) → Memᴰ z (t ∷ ts))
    → best_of of (of t) ts ≡ best_of of (of r) rs
never_wins of s r t rs ts loses f g =
    best_of_lists
    of
    t
    r
    ts
    rs
    (λ z m. out z (f z m))
    (λ z m. record { by = z; member = g z m; better = at_most_refl (of z) })
  where
    out : (z : ℕ) → (z ≡ s) ⊎ Memᴰ z (r ∷ rs) → Outdone of (r ∷ rs) z
    out z (inl e) = record { by = r; member = Memᴰ.head refl; better = rw e (loses r (Memᴰ.head refl)) }
    out z (inr m) = record { by = z; member = m; better = at_most_refl (of z) }

-- so it is where the list begins with that item
pub first_never_wins : (of : ℕ → Candidate) (s r : ℕ) (rs : List ℕ)
    → ((z : ℕ) → Memᴰ z (r ∷ rs) → AtMost (of s) (of z))
    → best_of of (of s) (r ∷ rs) ≡ best_of of (of r) rs
first_never_wins of s r rs loses =
    never_wins of s r s rs (r ∷ rs) loses (λ z m. Memᴰ.cases_cons m) (λ z m. Memᴰ.tail m)

-- What a new item n brings that is alone in its group, and what the older items bring beside it.
module _ (n : ℕ) (before : Grouping) (names : List ℕ) (sized : length names ≡ n) (e : Equivalent before)
    (alone : (x : ℕ) → x < n → before n x ≡ false) where
  -- the older items' groups bring the same as without it
  pub candidate_old : (z : ℕ) → z < n → candidate before (names ++ n ∷ []) z ≡ candidate before names z
  unfolding candidate
  candidate_old z h = λ i. record { size = sizes i; name = name_of_old names n z (rw sized h) i }
    where
      longer : length (names ++ n ∷ []) ≡ suc n
      longer = rw length-append (omega arith)

      sizes : size (length (names ++ n ∷ [])) before z ≡ size (length names) before z
      sizes = rw (longer, sized) (size_others n before z (group_swap before e z n ∙ alone z h))

  -- so they have the same best
  pub best_of_old : (r : ℕ) (rs : List ℕ) → ((z : ℕ) → Memᴰ z (r ∷ rs) → z < n)
      → best_of (candidate before (names ++ n ∷ [])) (candidate before (names ++ n ∷ []) r) rs
      ≡ best_of (candidate before names) (candidate before names r) rs
  best_of_old r rs small =
      rw
      (candidate_old r (small r (Memᴰ.head refl)))
      (best_of_agree
      (candidate before (names ++ n ∷ []))
      (candidate before names)
      (candidate before names r)
      rs
      (λ z m. candidate_old z (small z (Memᴰ.tail m))))

  -- the new item, named by its number, does not win against any of them
  pub new_item_loses : ((z : ℕ) → z < n → name_of names z < n) → (z : ℕ) → z < n
      → AtMost (candidate before (names ++ n ∷ []) n) (candidate before (names ++ n ∷ []) z)
  new_item_loses below z h =
      single_loses
      (suc n)
      before
      (names ++ n ∷ [])
      longer
      e
      n
      z
      (omega arith)
      (size-alone n before e alone)
      (omega (arith, name_of_old names n z (rw sized h), name_of_new names n n sized, below z h))
    where
      longer : length (names ++ n ∷ []) ≡ suc n
      longer = rw length-append (omega arith)

  -- so it may be left out of their best
  pub new_item_never_wins : ((z : ℕ) → z < n → name_of names z < n)
      → (r : ℕ) (rs : List ℕ)
      → ((z : ℕ) → Memᴰ z (r ∷ rs) → z < n)
      → best_of (candidate before (names ++ n ∷ [])) (candidate before (names ++ n ∷ []) n) (r ∷ rs)
      ≡ best_of (candidate before names) (candidate before names r) rs
  new_item_never_wins below r rs small =
      first_never_wins (candidate before (names ++ n ∷ [])) n r rs (λ z m. new_item_loses below z (small z m)) ∙ best_of_old r rs small
