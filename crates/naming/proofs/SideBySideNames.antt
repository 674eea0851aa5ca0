-- Names of items of two lots, those of the second lot with their numbers and their names raised: what becomes of them, which of them change,
-- and how they are looked up, where nothing of one lot shares a group with anything of the other.
use mathlib.Core.Bool.{Bool, true, false, not, cond, ◌&&◌, ◌||◌, and-not_self}
use mathlib.Core.List.{List, [], ◌∷◌, ◌++◌, map, map-map, Memᴰ}
use mathlib.Core.Path.{◌≡◌, refl, sym, ◌∙◌, ap, ap₂}
use Prim.Native.Nat.{ℕ, ◌+◌, ◌<◌, ◌≤◌}
use native.Mathlib.Omega.{arith}
use lib.Dec.{eqb, leb, ltb}
use lib.ListN.{length, length-append, length-map, get_or-append}
use lib.Seq.{get_or-append-add, ext_get_or}
use Rattle.graph.specs.Below.{any_below, listed, tabulate, length_tabulate}
use Rattle.graph.proofs.Truth.{not_of_true, eqb_same}
use Rattle.graph.proofs.Below.{any_below-same, count_same, listed_same, any_none}
use Rattle.graph.proofs.BelowSum.{below_sum, any_behind, count_behind, listed_behind_lem, tabulate_sum}
use Rattle.graph.proofs.MappedLists.{entry_mapped}
use Rattle.graph.proofs.SideBySide.{eqb_raised, leb_raised}
use Rattle.naming.specs.Rename.{Grouping, size, name_of, changed_items, Change, changes_between, Candidate, better, best_of, candidate, holds_several, best_name, rename}
use Rattle.naming.specs.Lookup.{Group, group_of}
use Rattle.naming.proofs.Listed.{listed_passes, get_or-tabulate, tabulate_same, map_tabulate, map-listed-same}

-- Names behind others, raised by m.
unfoldable pub names_behind : ℕ → List ℕ → List ℕ → List ℕ
names_behind m old names = old ++ map (λ x. m + x) names

-- Groups of m items and of n behind them: each lot's own, and none of both.
pub record BesideGroups (m n : ℕ) (first groups both : Grouping) : Type 0 where
  pub of_first : (x y : ℕ) → x < m → y < m → both x y ≡ first x y
  pub apart : (x y : ℕ) → x < m → y < n → both x (m + y) ≡ false
  pub apart_back : (x y : ℕ) → x < n → y < m → both (m + x) y ≡ false
  pub of_second : (x y : ℕ) → x < n → y < n → both (m + x) (m + y) ≡ groups x y

-- a candidate whose name is raised
unfoldable raise_candidate : ℕ → Candidate → Candidate
raise_candidate m c = record { size = c.size; name = m + c.name }

-- the better of two, raised, is the better, raised
better_raised : (m : ℕ) (c d : Candidate) → better (raise_candidate m c) (raise_candidate m d) ≡ raise_candidate m (better c d)
unfolding better raise_candidate
better_raised m c d = rw (leb_raised m c.name d.name) (go (ltb d.size c.size || (eqb c.size d.size && leb c.name d.name)))
  where
    go : (b : Bool) → cond b (raise_candidate m c) (raise_candidate m d) ≡ raise_candidate m (cond b c d)
    go true = refl
    go false = refl

-- so it is with the best of many
best_raised : (m : ℕ) (of of' : ℕ → Candidate) (c : Candidate) (xs : List ℕ)
    → ((x : ℕ) → Memᴰ x xs → of' (m + x) ≡ raise_candidate m (of x))
    → best_of of' (raise_candidate m c) (map (λ x. m + x) xs) ≡ raise_candidate m (best_of of c xs)
unfolding best_of
best_raised m of of' c [] same = refl
best_raised m of of' c (x ∷ xs) same =
    ap₂ better (same x (Memᴰ.head refl)) (best_raised m of of' c xs (λ y e. same y (Memᴰ.tail e)))
    ∙ better_raised m (of x) (best_of of c xs)

-- m names, and n behind them
module _ {m n : ℕ} (old names : List ℕ) (as_old : length old ≡ m) (as_new : length names ≡ n) where
  abbrev all : List ℕ
  all = names_behind m old names

  pub length_behind : length all ≡ m + n
  unfolding names_behind
  length_behind = length-append old _ ∙ ap₂ ◌+◌ as_old (length-map names (λ x. m + x) ∙ as_new)

  pub name_of_first : (x : ℕ) → x < m → name_of all x ≡ name_of old x
  unfolding names_behind name_of
  name_of_first x h = get_or-append old _ 0 x (rw as_old h)

  pub name_of_second : (x : ℕ) → x < n → name_of all (m + x) ≡ m + name_of names x
  unfolding names_behind name_of
  name_of_second x h =
      ap (λ k. name_of (old ++ map (λ x. m + x) names) (k + x)) (sym as_old)
      ∙ get_or-append-add old _ x 0 ∙ entry_mapped (λ x. m + x) names x 0 0 (rw as_new h)

  module _ {first before both : Grouping} (w : BesideGroups m n first before both) where
    -- the group of an item of the second lot has its size there
    pub size_of_second : (x : ℕ) → x < n → size (m + n) both (m + x) ≡ size n before x
    unfolding size
    size_of_second x h = count_behind m (both (m + x)) (λ y k. w.apart_back x y h k) n ∙ count_same n _ _ (λ y k. w.of_second x y h k)

    -- and is looked up by its name there, raised, and its size
    pub group_of_second : (x : ℕ) → x < n
        → group_of (m + n) all both (m + x) ≡ record { name = m + (group_of n names before x).name; size = (group_of n names before x).size }
    unfolding group_of
    group_of_second x h =
        ap₂ (λ (a b : ℕ). let g : Group = record { name = a; size = b } in g) (name_of_second x h) (size_of_second x h)

    candidate_of_second : (x : ℕ) → x < n → candidate both all (m + x) ≡ raise_candidate m (candidate before names x)
    unfolding candidate raise_candidate
    candidate_of_second x h =
        ap₂ (λ (a b : ℕ). let c : Candidate = record { size = a; name = b } in c)
        (ap (λ k. size k both (m + x)) length_behind ∙ size_of_second x h ∙ ap (λ k. size k before x) (sym as_new)) (name_of_second x h)

    module _ {after both' : Grouping} (w' : BesideGroups m n first after both') where
      -- no item of the first lot is in another group after
      several_of_first : (x : ℕ) → x < m → holds_several both both' all x ≡ false
      unfolding holds_several
      several_of_first x h =
          any_none (length all) _ (λ y k.
          below_sum (λ y. (both' x y && not (both x y)) ≡ false) m n
          (λ y l. ap₂ (λ a b. a && not b) (w'.of_first x y h l) (w.of_first x y h l) ∙ and-not_self (first x y))
          (λ y l. ap (λ a. a && not (both x (m + y))) (w'.apart x y h l)) y (rw length_behind at k))

      -- one of the second lot is exactly if it is there
      several_of_second : (x : ℕ) → x < n → holds_several both both' all (m + x) ≡ holds_several before after names x
      unfolding holds_several
      several_of_second x h =
          ap (λ k. any_below k (λ y. both' (m + x) y && not (both (m + x) y))) length_behind
          ∙ any_behind m _ (λ y k. ap (λ a. a && not (both (m + x) y)) (w'.apart_back x y h k)) n
          ∙ any_below-same n _ _ (λ y k. ap₂ (λ a b. a && not b) (w'.of_second x y h k) (w.of_second x y h k))
          ∙ ap (λ k. any_below k (λ y. after x y && not (before x y))) (sym as_new)

      -- and its group takes the best name that it takes there
      best_of_second : (x : ℕ) → x < n → best_name both both' all (m + x) ≡ m + best_name before after names x
      unfolding best_name raise_candidate
      best_of_second x h = ap (λ (c : Candidate). c.name) (
          ap₂ (best_of (candidate both all)) (candidate_of_second x h) those
          ∙ best_raised m (candidate before names) (candidate both all) (candidate before names x) (listed n (after x))
          (λ z e. candidate_of_second z (listed_passes n (after x) z e).0)
          ∙ ap (λ k. raise_candidate m (best_of (candidate before names) (candidate before names x) (listed k (after x)))) (sym as_new)
          )
        where
          those : listed (length all) (both' (m + x)) ≡ map (λ x. m + x) (listed n (after x))
          those =
              ap (λ k. listed k (both' (m + x))) length_behind
              ∙ listed_behind_lem m (both' (m + x)) (λ y k. w'.apart_back x y h k) n
              ∙ ap (map (λ x. m + x)) (listed_same n _ _ (λ y k. w'.of_second x y h k))

      -- So the names of the first lot stay, and those of the second become what they become there.
      pub rename_beside : rename both both' all ≡ names_behind m old (rename before after names)
      unfolding rename names_behind name_of
      rename_beside =
          ap (λ k. tabulate k name-after) length_behind ∙ tabulate_sum m n name-after ∙ ap₂ ◌++◌ stay
          (tabulate_same n _ _ (λ x h.
          ap₂ (λ b (c : ℕ). cond b (best_name both both' all (m + x)) c) (several_of_second x h) (name_of_second x h)
          ∙ ap (λ (c : ℕ). cond (holds_several before after names x) c (m + name_of names x)) (best_of_second x h)
          ∙ out (holds_several before after names x) (best_name before after names x) (name_of names x))
          ∙ sym (map_tabulate (λ x. m + x) n _)
          ∙ ap (λ k. map (λ x. m + x) (tabulate k (λ x. cond (holds_several before after names x) (best_name before after names x) (name_of names x)))) (sym as_new))
        where
          name-after : ℕ → ℕ
          name-after x = cond (holds_several both both' all x) (best_name both both' all x) (name_of all x)

          out : (b : Bool) (x y : ℕ) → cond b (m + x) (m + y) ≡ m + cond b x y
          out true x y = refl
          out false x y = refl

          stay : tabulate m name-after ≡ old
          stay =
              ext_get_or 0 (tabulate m name-after) old (length_tabulate m name-after ∙ sym as_old) (λ x h.
              let k : x < m = rw (length_tabulate m name-after) at h in
              get_or-tabulate m name-after 0 x k
              ∙ ap (λ b. cond b (best_name both both' all x) (name_of all x)) (several_of_first x k)
              ∙ name_of_first x k)

-- a change, raised
unfoldable pub raise_change : ℕ → Change → Change
raise_change m c = record { item = m + c.item; name = m + c.name }

-- Where the names of the first lot stay, what changes is what changes in the second, raised.
pub changes_beside : (m : ℕ) (old names names' : List ℕ) → length old ≡ m → length names ≤ length names'
    → changes_between (names_behind m old names) (names_behind m old names') ≡ map (raise_change m) (changes_between names names')
unfolding changes_between changed_items raise_change
changes_beside m old names names' as_old as_many =
    ap (map named) (those ∙ ap (map (λ x. m + x)) (listed_same n _ differs (λ x h. ap not (same_test x h))))
    ∙ map-map named (λ x. m + x) (listed n differs)
    ∙ map-listed-same (λ x. named (m + x)) (λ x. raise_change m (named' x)) differs n (λ x h.
    ap (λ (k : ℕ). let c : Change = record { item = m + x; name = k } in c) (name_of_second old names' as_old refl x (omega (arith, h, as_many))))
    ∙ sym (map-map (raise_change m) named' (listed n differs))
  where
    n : ℕ
    n = length names

    named : ℕ → Change
    named x = record { item = x; name = name_of (names_behind m old names') x }

    named' : ℕ → Change
    named' x = record { item = x; name = name_of names' x }

    differs : ℕ → Bool
    differs x = not (eqb (name_of names x) (name_of names' x))

    changed : ℕ → Bool
    changed x = not (eqb (name_of (names_behind m old names) x) (name_of (names_behind m old names') x))

    same_test : (x : ℕ) → x < n
        → eqb (name_of (names_behind m old names) (m + x)) (name_of (names_behind m old names') (m + x)) ≡ eqb (name_of names x) (name_of names' x)
    same_test x h =
        ap₂ eqb (name_of_second old names as_old refl x h) (name_of_second old names' as_old refl x (omega (arith, h, as_many)))
        ∙ eqb_raised m (name_of names x) (name_of names' x)

    those : listed (length (names_behind m old names)) changed ≡ map (λ x. m + x) (listed n (λ x. changed (m + x)))
    those =
        ap (λ k. listed k changed) (length_behind old names as_old refl)
        ∙ listed_behind_lem m changed (λ x h.
        not_of_true
        (ap₂ eqb (name_of_first old names as_old refl x h) (name_of_first old names' as_old refl x h) ∙ eqb_same (name_of old x))) n
