-- Groups of any item as an equivalence that computes, groups inside larger groups, and the sizes of groups.
use mathlib.Core.Bool.{true, false}
use mathlib.Core.Logic.{Equivalence}
use mathlib.Core.Path.{◌≡◌, ◌∙◌, ap}
use Prim.Native.Nat.{ℕ, suc, ◌+◌, ◌≤◌, ◌<◌}
use Rattle.graph.proofs.Truth.{not_both, bool_ext}
use Rattle.graph.proofs.Below.{count_same, count_none}
use Rattle.naming.specs.Rename.{Grouping, size}
use Rattle.naming.proofs.Count.{count_at_most, count_positive, count_monotone, count_disjoint, count_more, count_last_out, count_last_in}

-- The groups are those of an equivalence.
pub record Equivalent (groups : Grouping) : Type 0 where
  pub reflexive : (x : ℕ) → groups x x ≡ true
  pub symmetric : (x y : ℕ) → groups x y ≡ true → groups y x ≡ true
  pub transitive : (x y z : ℕ) → groups x y ≡ true → groups y z ≡ true → groups x z ≡ true

-- Each group before lies within one group after.
abbrev pub Finer : Grouping → Grouping → Type 0
Finer before after = (x y : ℕ) → before x y ≡ true → after x y ≡ true

-- a test that is an equivalence as a relation groups the items
pub equivalent_of : (groups : Grouping) → Equivalence (λ x y. groups x y ≡ true) → Equivalent groups
equivalent_of groups e =
    record { reflexive = λ x. e.refl x; symmetric = λ x y. e.symm x y; transitive = λ x y z. e.trans x y z }

-- two items of one group share it with the same items
pub group-same : (groups : Grouping) → Equivalent groups → (x y : ℕ) → groups x y ≡ true
    → (z : ℕ) → groups x z ≡ groups y z
group-same groups e x y h z =
    bool_ext (groups x z) (groups y z) (e.transitive y x z (e.symmetric x y h)) (e.transitive x y z h)

-- the order of two items does not matter
pub group_swap : (groups : Grouping) → Equivalent groups → (x y : ℕ) → groups x y ≡ groups y x
group_swap groups e x y = bool_ext (groups x y) (groups y x) (e.symmetric x y) (e.symmetric y x)

-- a group has at most as many items as there are
pub size_at_most : (n : ℕ) (groups : Grouping) (x : ℕ) → size n groups x ≤ n
unfolding size
size_at_most n groups x = count_at_most n (groups x)

-- an item's group has at least one item
pub size_positive : (n : ℕ) (groups : Grouping) → Equivalent groups → (x : ℕ) → x < n → 1 ≤ size n groups x
unfolding size
size_positive n groups e x h = count_positive n (groups x) x h (e.reflexive x)

-- items of one group have groups of one size
pub size_same : (n : ℕ) (groups : Grouping) → Equivalent groups → (x y : ℕ) → groups x y ≡ true
    → size n groups x ≡ size n groups y
unfolding size
size_same n groups e x y h = count_same n (groups x) (groups y) (λ i l. group-same groups e x y h i)

-- a size depends only on which items below n share the group
pub size_agree : (n : ℕ) (groups groups' : Grouping) (x : ℕ)
    → ((y : ℕ) → y < n → groups x y ≡ groups' x y)
    → size n groups x ≡ size n groups' x
unfolding size
size_agree n groups groups' x f = count_same n (groups x) (groups' x) f

-- more items make no group smaller
pub size_more : (k n : ℕ) (groups : Grouping) (x : ℕ) → k ≤ n → size k groups x ≤ size n groups x
unfolding size
size_more k n groups x h = count_more k n (groups x) h

-- a new item outside a group leaves the group's size
pub size_others : (n : ℕ) (groups : Grouping) (x : ℕ) → groups x n ≡ false → size (suc n) groups x ≡ size n groups x
unfolding size
size_others n groups x f = count_last_out n (groups x) f

-- a new item, alone in its group, has a group of size 1
pub size-alone : (n : ℕ) (groups : Grouping) → Equivalent groups → ((x : ℕ) → x < n → groups n x ≡ false) → size (suc n) groups n ≡ 1
unfolding size
size-alone n groups e f = count_last_in n (groups n) (e.reflexive n) ∙ ap suc (count_none n (groups n) f)

-- a group is at most as large as the one that it lies within
pub size_finer : (n : ℕ) (before after : Grouping) → Finer before after → (x : ℕ) → size n before x ≤ size n after x
unfolding size
size_finer n before after f x = count_monotone n (before x) (after x) (λ i l. f x i)

-- two different groups within one are together at most as large as that one
pub sizes_add : (n : ℕ) (before after : Grouping)
    → Equivalent before
    → Equivalent after
    → Finer before after
    → (x y : ℕ)
    → before x y ≡ false
    → after x y ≡ true
    → size n before x + size n before y ≤ size n after x
unfolding size
sizes_add n before after b a f x y apart h =
    count_disjoint
    n
    (before x)
    (before y)
    (after x)
    (λ i. f x i)
    (λ i k. a.transitive x y i h (f y i k))
    (λ i k l. not_both (b.transitive x i y k (b.symmetric y i l)) apart)
