-- What `rename` computes: how many names it gives, which, and on what they depend.
use mathlib.Core.Bool.{true, false, not, cond, ◌&&◌}
use mathlib.Core.List.Memᴰ
use mathlib.Core.List.{List, ◌∷◌, Memᴰ}
use mathlib.Core.Logic.{◌⊎◌, inl, inr}
use mathlib.Core.Path.{◌≡◌, ap, ap₂}
use Prim.Native.Nat.{ℕ, ◌<◌}
use lib.ListN.{length}
use Rattle.graph.specs.Below.{listed, length_tabulate}
use Rattle.graph.proofs.Truth.{false_of_not, true_of_not_false, and_both, not_both}
use Rattle.graph.proofs.Below.{any_below_lem, any_below-same, listed_same}
use Rattle.naming.specs.Rename.{Grouping, name_of, Candidate, best_of, candidate, holds_several, best_name, rename}
use Rattle.naming.proofs.Listed.{passes_listed, listed_passes, get_or-tabulate, tabulate_same}
use Rattle.naming.proofs.Equivalent.{size_agree}
use Rattle.naming.proofs.Best.{BestOf, best_name_lem, best_same, best_of_list, best_of_agree}

-- as many names after as before
pub length_rename : (before after : Grouping) (names : List ℕ) → length (rename before after names) ≡ length names
unfolding rename
length_rename before after names = length_tabulate (length names) _

-- the name of an item after
pub name_of_rename : (before after : Grouping) (names : List ℕ) (x : ℕ) → x < length names
    → name_of (rename before after names) x
    ≡ cond (holds_several before after names x) (best_name before after names x) (name_of names x)
unfolding rename name_of
name_of_rename before after names x h =
    get_or-tabulate (length names) (λ y. cond (holds_several before after names y) (best_name before after names y) (name_of names y)) 0 x h

-- Two groupings agree on the items below n.
abbrev pub AgreeBelow : ℕ → Grouping → Grouping → Type 0
AgreeBelow n groups groups' = (x y : ℕ) → x < n → y < n → groups x y ≡ groups' x y

-- The items below n that share x's group.
abbrev pub InGroup : ℕ → Grouping → ℕ → ℕ → Type 0
InGroup n groups x y = (y < n) × (groups x y ≡ true)

-- the best name is the best of the groups before of the items that share x's group after
pub best_name_is : (before after : Grouping) (names : List ℕ) (x : ℕ) → x < length names → after x x ≡ true
    → BestOf (candidate before names) (InGroup (length names) after x) (best_name before after names x)
unfolding best_name
best_name_is before after names x h e =
    best_same within listing (best_name_lem (best_of_list (candidate before names) x (listed (length names) (after x))))
  where
    first : (z : ℕ) → (z ≡ x) ⊎ Memᴰ z (listed (length names) (after x)) → InGroup (length names) after x z
    first z (inl d) = (rw d h, rw d e)
    first z (inr m) = listed_passes (length names) (after x) z m

    within : (z : ℕ) → Memᴰ z (x ∷ listed (length names) (after x)) → InGroup (length names) after x z
    within z m = first z (Memᴰ.cases_cons m)

    listing : (z : ℕ) → InGroup (length names) after x z → Memᴰ z (x ∷ listed (length names) (after x))
    listing z b = Memᴰ.tail (passes_listed (length names) (after x) z b.0 b.1)

-- where the group after does not hold several, it is x's group before
pub holds_one : (before after : Grouping) (names : List ℕ) (x y : ℕ)
    → holds_several before after names x ≡ false
    → y < length names
    → after x y ≡ true
    → before x y ≡ true
unfolding holds_several
holds_one before after names x y f h e =
    true_of_not_false (before x y)
    (false_of_not (not (before x y))
    (λ k. not_both (any_below_lem (length names) (λ z. after x z && not (before x z)) y h (and_both e k)) f))

module _ (before before' after after' : Grouping) (names : List ℕ)
    (f : AgreeBelow (length names) before before')
    (g : AgreeBelow (length names) after after') where
  candidate_agree : (x : ℕ) → x < length names → candidate before names x ≡ candidate before' names x
  unfolding candidate
  candidate_agree x h =
      ap
      (λ (k : ℕ). let c : Candidate = record { size = k; name = name_of names x } in c)
      (size_agree (length names) before before' x (λ y l. f x y h l))

  several_agree : (x : ℕ) → x < length names → holds_several before after names x ≡ holds_several before' after' names x
  unfolding holds_several
  several_agree x h = any_below-same (length names) _ _ (λ y l. ap₂ (λ a b. a && not b) (g x y h l) (f x y h l))

  best_agree : (x : ℕ) → x < length names → best_name before after names x ≡ best_name before' after' names x
  unfolding best_name
  best_agree x h = ap (λ (c : Candidate). c.name) same
    where
      same : best_of (candidate before names) (candidate before names x) (listed (length names) (after x))
          ≡ best_of (candidate before' names) (candidate before' names x) (listed (length names) (after' x))
      same =
          rw
          (listed_same (length names) (after x) (after' x) (λ y l. g x y h l), candidate_agree x h)
          (best_of_agree
          (candidate before names)
          (candidate before' names)
          (candidate before' names x)
          (listed (length names) (after' x))
          (λ z m. candidate_agree z (listed_passes (length names) (after' x) z m).0))

  -- the names after depend only on how the items below n are grouped
  pub rename_agree : rename before after names ≡ rename before' after' names
  unfolding rename
  rename_agree = tabulate_same (length names) _ _ (λ x h. rw (several_agree x h, best_agree x h))
