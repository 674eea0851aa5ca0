-- Merging the groups of a listing's items, as a list of values; and the names where a new item joins the merged groups.
use Rattle.std.proofs.Common.{◌≡◌, ℕ, suc, ◌-◌, ◌<◌, ◌≤◌, true, false, ◌⊎◌, List, [], ◌∷◌, ◌++◌, sym, refl, ap, ◌∙◌, subst, inl, inr, arith}
use mathlib.Core.List.Memᴰ
use mathlib.Core.List.{Memᴰ}
use Rattle.graph.specs.Below.{tabulate}
use Rattle.naming.specs.Rename.{Grouping, name_of, Candidate, candidate, best_of, rename}
use Rattle.naming.specs.Naming.{Naming}
use Rattle.naming.proofs.Equivalent.{Equivalent}
use Rattle.naming.proofs.Listed.{tabulate_first}
use Rattle.naming.proofs.Naming.{naming_new_item, name_of_old}
use Rattle.naming.proofs.Merge.{in_merged, Merges, merge_best, merge_stays}
use Rattle.naming.proofs.Single.{new_item_never_wins}
use Rattle.table.specs.declared.words.Area.{Area}
use Rattle.table.specs.declared.merge.Listing.{Listing}
use Rattle.table.specs.Inside.Merge.{item_of, items_from, best_listed, merge_listed}
use Rattle.table.specs.Inside.KindValid.{KindValid}
use Rattle.table.proofs.MergeKept.{HasKind, ListedOutside}
use Rattle.table.proofs.MergeLaw.{MergedTo, merge_law, naming_merged}
use Rattle.forest.proofs.Values.{items_tabulate}

-- The items of a listing, as a list of values.
abbrev pub listed_items : List ℕ → Listing → List ℕ
listed_items t l = tabulate l.count (λ i. item_of t l i)

-- The items behind the first.
abbrev pub later_items : List ℕ → Listing → List ℕ
later_items t l = tabulate (l.count - 1) (λ i. item_of t l (suc i))

-- the first of them, and the others
pub items_first : (t : List ℕ) (l : Listing) → 0 < l.count → listed_items t l ≡ item_of t l 0 ∷ later_items t l
items_first t l h =
    ap (λ (k : ℕ). tabulate k (λ i. item_of t l i)) (omega arith) ∙ tabulate_first (l.count - 1) (λ i. item_of t l i)

-- the merge reads the same items
pub items_are : (t : List ℕ) (l : Listing) → 0 < l.count → items_from t l 0 l.count ≡ item_of t l 0 ∷ later_items t l
items_are t l h = items_tabulate t l l.count ∙ items_first t l h

module _ (t : List ℕ) (area : Area) (n : ℕ) (has : HasKind t area) (fits : n ≤ area.size) (small : n < 65536)
    (before after : Grouping) (e : Equivalent before) (e' : Equivalent after) (valid : KindValid t area n before)
    (l : Listing) (outside : ListedOutside area l) (some : 0 < l.count)
    (below : (z : ℕ) → Memᴰ z (listed_items t l) → z < n) (merges : Merges n before after (listed_items t l)) where
  -- the merge law over the list of values
  pub merge_listed_lem : MergedTo t area n before after (listed_items t l) (best_listed t area l) (merge_listed t area l).table (merge_listed t area l).count
  merge_listed_lem =
      subst
      (λ (is : List ℕ). MergedTo t area n before after is (best_listed t area l) (merge_listed t area l).table (merge_listed t area l).count)
      (sym (items_first t l some))
      (merge_law t area n has fits small before after e e' valid l outside (item_of t l 0) (later_items t l) (items_are t l some)
      (λ z m. below z (rw (items_first t l some) m)) (rw (items_first t l some) at merges))

-- A new item, the next, was alone in its group and joins the merged groups.
module _ (n : ℕ) (before after : Grouping) (names : List ℕ) (named : Naming n before names) (e : Equivalent before) (e' : Equivalent after)
    (alone : (x : ℕ) → x < n → before n x ≡ false) (r : ℕ) (rs : List ℕ) (small : (z : ℕ) → Memᴰ z (r ∷ rs) → z < n)
    (merges : Merges (suc n) before after (n ∷ r ∷ rs)) where
  abbrev longer : List ℕ
  longer = names ++ n ∷ []

  named_longer : Naming (suc n) before longer
  named_longer = naming_new_item n before before names named (λ x y h k. refl) alone e

  below_longer : (z : ℕ) → Memᴰ z (n ∷ r ∷ rs) → z < suc n
  below_longer z m = go (Memᴰ.cases_cons m)
    where
      go : (z ≡ n) ⊎ Memᴰ z (r ∷ rs) → z < suc n
      go (inl q) = omega arith
      go (inr k) = omega (arith, small z k)

  -- an item of the merged groups gets the best of the older names
  pub joined_best : (x : ℕ) → x < suc n → in_merged before (n ∷ r ∷ rs) x ≡ true
      → name_of (rename before after (names ++ n ∷ [])) x ≡ (best_of (candidate before names) (candidate before names r) rs).name
  joined_best x h m =
      merge_best (suc n) before after longer named_longer e n (r ∷ rs) below_longer merges x h m
      ∙ ap (λ (c : Candidate). c.name)
      (new_item_never_wins n before names named.sized e alone named.name_below r rs small)

  -- every other item keeps its name
  pub joined_stays : (x : ℕ) → x < n → in_merged before (n ∷ r ∷ rs) x ≡ false
      → name_of (rename before after (names ++ n ∷ [])) x ≡ name_of names x
  joined_stays x h m =
      merge_stays (suc n) before after longer named_longer e n (r ∷ rs) below_longer merges x (omega arith) m
      ∙ name_of_old names n x (rw named.sized h)

  -- the names after name the groups after
  pub joined-named : Naming (suc n) after (rename before after (names ++ n ∷ []))
  joined-named = naming_merged (suc n) before after longer named_longer e e' (n ∷ r ∷ rs) merges
