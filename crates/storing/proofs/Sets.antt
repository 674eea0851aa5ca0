-- A run of stores: one behind another, over the front of a buffer, and of what stands in another list.
use mathlib.Core.List.{List, [], ◌∷◌, ◌++◌}
use mathlib.Core.Path.{◌≡◌, sym, refl, ◌∙◌, ap}
use Prim.Native.Nat.{ℕ, suc, ◌+◌, ◌*◌, ◌-◌, ◌≤◌, ◌<◌}
use native.Mathlib.Numerals.{add-one}
use native.Mathlib.Omega.{arith}
use lib.ListN.{length, get_or, take, drop, set, length-append}
use lib.Seq.{sets, sets-eq, slice, slice-cons, drop-cons}
use Rattle.commands.specs.Bytes.{two_bytes}
use Rattle.commands.specs.Entry.{over}
use Rattle.storing.specs.Numbers.{number_bytes}

-- stores that begin where others end are one run of stores
pub sets_behind : (l : List ℕ) (i j : ℕ) (xs ys : List ℕ) → j ≡ i + length xs → sets (sets l i xs) j ys ≡ sets l i (xs ++ ys)
sets_behind l i j [] ys e = ap (λ (k : ℕ). sets l k ys) (let h : j ≡ i = omega arith in h)
sets_behind l i j (x ∷ xs) ys e = sets_behind (set l i x) (suc i) j xs ys (omega arith)

-- so are a store and two runs of stores behind it
pub stored_behind_one : (l : List ℕ) (i j x : ℕ) (xs ys : List ℕ) → j ≡ i + 1 + length xs
    → sets (sets (set l i x) (i + 1) xs) j ys ≡ sets l i (x ∷ xs ++ ys)
stored_behind_one l i j x xs ys e =
    sets_behind (set l i x) (i + 1) j xs ys e ∙ ap (λ (k : ℕ). sets (set l i x) k (xs ++ ys)) (add-one i)

-- with a number's bytes stored, and behind them those of the numbers behind it, those from it on are stored
pub number_stored : (out : List ℕ) (at k : ℕ) (numbers : List ℕ) → k < length numbers
    → sets (sets out (at + 1 + 2 * k) (two_bytes (get_or numbers k 0))) (at + 1 + 2 * (k + 1)) (number_bytes (drop (k + 1) numbers))
    ≡ sets out (at + 1 + 2 * k) (number_bytes (drop k numbers))
unfolding two_bytes
number_stored out at k numbers h =
    let x = get_or numbers k 0 in
    let here : drop k numbers ≡ x ∷ drop (k + 1) numbers = rw add-one (drop-cons numbers k 0 h) in
    sets_behind out (at + 1 + 2 * k) (at + 1 + 2 * (k + 1)) (two_bytes x) (number_bytes (drop (k + 1) numbers)) (omega arith)
    ∙ ap (λ l. sets out (at + 1 + 2 * k) (number_bytes l)) (sym here)

-- four runs of stores, each behind the one before it
pub sets_four : (l a b c d : List ℕ) (i j k : ℕ) → i ≡ length a → j ≡ i + length b → k ≡ j + length c
    → sets (sets (sets (sets l 0 a) i b) j c) k d ≡ sets l 0 (a ++ b ++ c ++ d)
sets_four l a b c d i j k p q r =
    rw (
      sets_behind l 0 i a b (omega arith),
      sets_behind l 0 j (a ++ b) c (omega (arith, length-append a b)),
      sets_behind l 0 k (a ++ b ++ c) d (omega (arith, length-append a b, length-append (a ++ b) c)),
    )

-- stores from the front on write over the front
pub sets_front : (l bytes : List ℕ) → length bytes ≤ length l → sets l 0 bytes ≡ over bytes l
unfolding over
sets_front l bytes h =
    sets-eq bytes l 0 (omega arith)
    ∙ ap (λ (k : ℕ). bytes ++ drop k l) (let e : 0 + length bytes ≡ length bytes = omega arith in e)

-- with an element stored of those from one place up to another, and those behind it, all from it on are stored
pub copied_one : (out source : List ℕ) (at from to k : ℕ) → k < to - from → to ≤ length source
    → sets (set out (at + k) (get_or source (from + k) 0)) (at + (k + 1)) (slice (from + (k + 1)) to source) ≡ sets out (at + k) (slice (from + k) to source)
copied_one out source at from to k h long =
    let here : at + (k + 1) ≡ suc (at + k) = omega arith in
    let there : from + (k + 1) ≡ suc (from + k) = omega arith in
    rw (here, there, slice-cons (from + k) to source 0 (omega arith) long) refl
