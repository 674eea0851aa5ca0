-- How long lists are: different numbers below n are at most n, and the lists between two vertices no longer than there are edges, or
-- vertices.
use mathlib.Core.Bool.{Bool, true, false, cond, ◌&&◌}
use mathlib.Core.List.{List, [], ◌∷◌, ◌++◌}
use mathlib.Core.Logic.{inl, inr, ⊎_elim}
use mathlib.Core.Path.{◌≡◌, refl, sym, ◌∙◌, ap}
use Prim.Native.Nat.{ℕ, zero, suc, ◌≤◌}
use native.Mathlib.Omega.{arith}
use lib.Dec.{ltb}
use lib.ListN.{length, length-append}
use Rattle.graph.specs.Below.{listed}
use Rattle.graph.specs.Lists.{all_in, is_in, distinct}
use Rattle.graph.specs.Network.{Network, edge_count}
use Rattle.graph.specs.Between.{insert, sort, is_bridge_between, bridges_between, is_cut_between, cuts_between}
use Rattle.graph.proofs.Truth.{true_or_false, bool_ext, and_right, and_both, ltb_lt, lt-ltb, ltb_ge, ge_ltb}
use Rattle.graph.proofs.Members.{each_in}
use Rattle.graph.proofs.Sort.{Strict, is_in-sort, distinct-sort, ordered-sort, sort_unique}

-- at most n numbers below n are listed
pub length-listed : (n : ℕ) (p : ℕ → Bool) → length (listed n p) ≤ n
unfolding listed
length-listed zero p = omega arith
length-listed (suc n) p = go (p n) (listed n p) (length-listed n p)
  where
    go : (b : Bool) (l : List ℕ) → length l ≤ n → length (cond b (l ++ n ∷ []) l) ≤ suc n
    go true l h = rw length-append (omega arith)
    go false l h = omega arith

length-insert : (before : ℕ → ℕ → Bool) (x : ℕ) (l : List ℕ) → length (insert before x l) ≡ suc (length l)
unfolding insert
length-insert before x [] = refl
length-insert before x (y ∷ l) = go (before x y) (length-insert before x l)
  where
    go : (b : Bool) → length (insert before x l) ≡ suc (length l)
        → length (cond b (x ∷ y ∷ l) (y ∷ insert before x l)) ≡ suc (suc (length l))
    go true e = refl
    go false e = ap suc e

-- sorting keeps the length
pub length-sort : (before : ℕ → ℕ → Bool) (l : List ℕ) → length (sort before l) ≡ length l
unfolding sort
length-sort before [] = refl
length-sort before (x ∷ l) = length-insert before x (sort before l) ∙ ap suc (length-sort before l)

-- the order of numbers is strict and total
below_strict : Strict ltb (λ x. true)
below_strict =
    record {
      asymmetric = λ x y i k e. ge_ltb y x (omega (arith, ltb_lt x y e));
      transitive = λ x y z i j k e f. lt-ltb x z (omega (arith, ltb_lt x y e, ltb_lt y z f));
      total = λ x y i k d. ⊎_elim inl (λ e. inr (lt-ltb y x (omega (arith, d, ltb_ge x y e)))) (true_or_false (ltb x y));
    }

-- a list of numbers below n, none twice, has at most n of them
pub distinct-length : (n : ℕ) (l : List ℕ) → distinct l ≡ true → all_in (λ x. ltb x n) l ≡ true → length l ≤ n
distinct-length n l d w = omega (arith, sym (length-sort ltb l) ∙ ap length sorted ∙ length-sort ltb below, length-listed n (λ x. is_in x l))
  where
    below : List ℕ
    below = listed n (λ x. is_in x l)

    members : (x : ℕ) → is_in x (sort ltb l) ≡ (ltb x n && is_in x l)
    members x =
        is_in-sort ltb x l
        ∙ bool_ext (is_in x l) (ltb x n && is_in x l) (λ e. and_both (each_in (λ x. ltb x n) l w x e) e) (and_right (ltb x n) (is_in x l))

    sorted : sort ltb l ≡ sort ltb below
    sorted =
        sort_unique below_strict n (λ x. is_in x l) (λ x e. refl) (sort ltb l) members (distinct-sort ltb l d)
        (ordered-sort below_strict l (λ x e. refl) d)

-- there are no more bridges between two vertices than edges
pub few_bridges_between : (g : Network) (a b : ℕ) → length (bridges_between g a b) ≤ edge_count g
unfolding bridges_between
few_bridges_between g a b = rw length-sort (length-listed (edge_count g) (is_bridge_between g a b))

-- there are no more cut vertices between two vertices than vertices
pub few_cuts_between : (g : Network) (a b : ℕ) → length (cuts_between g a b) ≤ g.vertices
unfolding cuts_between
few_cuts_between g a b = rw length-sort (length-listed g.vertices (is_cut_between g a b))
