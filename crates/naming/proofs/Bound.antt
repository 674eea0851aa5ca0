-- How often names can change: at most n log2 n times in all, where n is the number of items.
use mathlib.Core.Bool.{Bool, true, false, not, cond}
use mathlib.Core.List.{List}
use mathlib.Core.Logic.{◌⊎◌, inl, inr}
use mathlib.Core.Path.{◌≡◌, refl, sym}
use Prim.Native.Nat.{ℕ, suc, ◌+◌, ◌*◌, ◌^◌, ◌≤◌, ◌<◌}
use native.Mathlib.Omega.{arith}
use lib.Dec.{eqb, ltb}
use Rattle.graph.specs.Below.{count}
use Rattle.graph.proofs.Truth.{true_or_false, not_both, eq-eqb, ltb_lt, lt-ltb}
use Rattle.naming.specs.Rename.{Grouping, size, name_of}
use Rattle.naming.specs.Total.{total}
use Rattle.naming.specs.Log.{whole_log2}
use Rattle.naming.proofs.Count.{total_at_most, total_more, total_and_count}
use Rattle.naming.proofs.Equivalent.{Equivalent, size_at_most, size_positive}
use Rattle.naming.proofs.Advance.{Advance}
use Rattle.naming.proofs.Log.{log2_most}

-- 2 to the power of the changes of an item is at most the size of its group.
abbrev pub Bounded : ℕ → Grouping → (ℕ → ℕ) → Type 0
Bounded n groups changes = (x : ℕ) → x < n → 2 ^ changes x ≤ size n groups x

-- then all changes are at most n log2 n
pub bounded_total : (n : ℕ) (groups : Grouping) (changes : ℕ → ℕ) → Bounded n groups changes → total n changes ≤ n * whole_log2 n
bounded_total n groups changes f =
    total_at_most
    n
    (whole_log2 n)
    changes
    (λ x h. log2_most n (changes x) (omega (arith, f x h, size_at_most n groups x)))

-- with no changes yet the bound holds
pub bounded_start : (n : ℕ) (groups : Grouping) → Equivalent groups → Bounded n groups (λ x. 0)
bounded_start n groups e x h = size_positive n groups e x h

-- The changes of each item after an addition: an item of before has one more if its name is another now, and a new item has none.
unfoldable pub counted : ℕ → List ℕ → List ℕ → (ℕ → ℕ) → ℕ → ℕ
counted n names names' changes x =
    cond (ltb x n) (cond (not (eqb (name_of names x) (name_of names' x))) (suc (changes x)) (changes x)) 0

-- an addition keeps the bound
pub bounded_advance : {n n' : ℕ} {before after : Grouping} {names names' : List ℕ}
    → Advance n n' before after names names'
    → Equivalent after
    → (changes : ℕ → ℕ)
    → Bounded n before changes
    → Bounded n' after (counted n names names' changes)
unfolding counted
bounded_advance {n} {n'} {before} {after} {names} {names'} a e changes f x h = go (true_or_false (ltb x n))
  where
    old : x < n → (same : Bool) → eqb (name_of names x) (name_of names' x) ≡ same
        → 2 ^ cond (not same) (suc (changes x)) (changes x) ≤ size n' after x
    old l true q = omega (arith, f x l, a.no_smaller x l)
    old l false q =
        let larger = a.doubles x l (λ s. not_both (eq-eqb (name_of names x) (name_of names' x) (sym s)) q) in
        let more : 2 ^ suc (changes x) ≤ size n' after x = omega (arith, f x l) in
        more

    go : (ltb x n ≡ true) ⊎ (ltb x n ≡ false) → 2 ^ counted n names names' changes x ≤ size n' after x
    go (inl l) = rw l (old (ltb_lt x n l) (eqb (name_of names x) (name_of names' x)) refl)
    go (inr l) = rw l (size_positive n' after e x h)

-- all changes after an addition are at least those before it and the items whose name is another now
pub total_counted : (n n' : ℕ) (names names' : List ℕ) (changes : ℕ → ℕ) → n ≤ n'
    → total n changes + count n (λ x. not (eqb (name_of names x) (name_of names' x))) ≤ total n' (counted n names names' changes)
unfolding counted
total_counted n n' names names' changes h =
    omega (
      arith,
      total_more n n' (counted n names names' changes) h,
      total_and_count
          n
          changes
          (counted n names names' changes)
          (λ x. not (eqb (name_of names x) (name_of names' x)))
          (λ x l. rw (lt-ltb x n l)),
    )
