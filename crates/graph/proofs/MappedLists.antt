-- Laws of lists under a map: where two maps agree, and what becomes of first occurrences, of tests, of members and of entries.
use mathlib.Core.Bool.{Bool, true, false, not, cond, ◌&&◌, ◌||◌}
use mathlib.Core.List.{List, [], ◌∷◌, map}
use mathlib.Core.Path.{◌≡◌, refl, ap, ap₂}
use Prim.Native.Nat.{ℕ, zero, suc, ◌<◌}
use native.Mathlib.Omega.{arith}
use lib.Dec.{eqb}
use lib.ListN.{length, get_or}
use Rattle.graph.specs.Lists.{all_in, is_in, distinct}
use Rattle.graph.specs.Travel.{firsts}
use Rattle.graph.proofs.Truth.{bool_ext, eqb_eq, eq-eqb}
use Rattle.graph.proofs.Members.{is_in_head, is_in_tail}
use Rattle.graph.proofs.Firsts.{except}

-- where different numbers have different images, the images are equal exactly if the numbers are
pub eqb_mapped : (k : ℕ → ℕ) (x y : ℕ) → (k x ≡ k y → x ≡ y) → eqb (k x) (k y) ≡ eqb x y
eqb_mapped k x y one =
    bool_ext (eqb (k x) (k y)) (eqb x y) (λ e. eq-eqb x y (one (eqb_eq (k x) (k y) e))) (λ e. eq-eqb (k x) (k y) (ap k (eqb_eq x y e)))

-- maps that agree on the members of a list make one list of it
pub map_same : (k j : ℕ → ℕ) (l : List ℕ) → ((x : ℕ) → is_in x l ≡ true → k x ≡ j x) → map k l ≡ map j l
map_same k j [] w = refl
map_same k j (x ∷ l) w = ap₂ ◌∷◌ (w x (is_in_head x l)) (map_same k j l (λ y e. w y (is_in_tail y x l e)))

-- where different members of a list have different images, and an image passes one test exactly if the member passes another, the first
-- occurrences of the images are the images of the first occurrences
pub firsts_mapped : (k : ℕ → ℕ) (p q : ℕ → Bool) (l : List ℕ) → ((x : ℕ) → is_in x l ≡ true → q (k x) ≡ p x)
    → ((x y : ℕ) → is_in x l ≡ true → is_in y l ≡ true → k x ≡ k y → x ≡ y)
    → firsts q (map k l) ≡ map k (firsts p l)
unfolding firsts
firsts_mapped k p q [] same one = refl
firsts_mapped k p q (x ∷ l) same one =
    go (p x) (same x (is_in_head x l))
    (firsts_mapped k (except p x) (except q (k x)) l
    (λ y e. ap₂ (λ b c. b && not c) (same y (is_in_tail y x l e))
    (eqb_mapped k y x (one y x (is_in_tail y x l e) (is_in_head x l))))
    (λ y z e d. one y z (is_in_tail y x l e) (is_in_tail z x l d)))
  where
    go : (b : Bool) → q (k x) ≡ b → firsts (except q (k x)) (map k l) ≡ map k (firsts (except p x) l)
        → cond (q (k x)) (k x ∷ firsts (except q (k x)) (map k l)) (firsts (except q (k x)) (map k l))
        ≡ map k (cond b (x ∷ firsts (except p x) l) (firsts (except p x) l))
    go true e r = rw e (ap (λ m. k x ∷ m) r)
    go false e r = rw e r

-- a test of a mapped list is one of the list
pub all_in_mapped : {A B : Type 0} (k : A → B) (test : B → Bool) (l : List A) → all_in test (map k l) ≡ all_in (λ x. test (k x)) l
unfolding all_in
all_in_mapped k test [] = refl
all_in_mapped k test (x ∷ l) = ap (λ rest. test (k x) && rest) (all_in_mapped k test l)

-- where different numbers are mapped to different ones, a mapped list holds what the list holds
pub is_in_mapped : (k : ℕ → ℕ) → ((x y : ℕ) → k x ≡ k y → x ≡ y) → (x : ℕ) (l : List ℕ) → is_in (k x) (map k l) ≡ is_in x l
unfolding is_in
is_in_mapped k one x [] = refl
is_in_mapped k one x (y ∷ l) = ap₂ ◌||◌ (eqb_mapped k x y (one x y)) (is_in_mapped k one x l)

-- and holds none twice exactly if the list does not
pub distinct_mapped : (k : ℕ → ℕ) → ((x y : ℕ) → k x ≡ k y → x ≡ y) → (l : List ℕ) → distinct (map k l) ≡ distinct l
unfolding distinct
distinct_mapped k one [] = refl
distinct_mapped k one (x ∷ l) = ap₂ (λ in_rest rest. not in_rest && rest) (is_in_mapped k one x l) (distinct_mapped k one l)

-- an entry of a mapped list is the mapped entry
pub entry_mapped : {A B : Type 0} (k : A → B) (l : List A) (n : ℕ) (d : B) (d' : A) → n < length l → get_or (map k l) n d ≡ k (get_or l n d')
entry_mapped k [] n d d' h = absurd (omega arith)
entry_mapped k (x ∷ l) zero d d' h = refl
entry_mapped k (x ∷ l) (suc n) d d' h = entry_mapped k l n d d' (omega arith)
