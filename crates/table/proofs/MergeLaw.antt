-- The merge law: merging the groups of listed items in the table does to the names what naming does, and leaves the words valid.
use Rattle.std.proofs.Common.{◌≡◌, ℕ, ◌<◌, ◌≤◌, Bool, true, false, cond, not, ◌&&◌, ◌||◌, eqb, ◌⊎◌, List, ◌∷◌, length, get_or, sym, refl, ap, ◌∙◌, subst, inl, inr, ext_get_or}
use mathlib.Core.List.{Memᴰ}
use Rattle.graph.specs.Below.{listed, tabulate, length_tabulate}
use Rattle.graph.proofs.Truth.{true_or_false, false_of_not, not_both, bool_ext, or_left, or_right, and_left, and_right, and_both, eqb_eq, eqb_same}
use Rattle.graph.proofs.Below.{count_same, listed_same}
use Rattle.naming.specs.Rename.{Grouping, name_of, candidate, best_of, rename}
use Rattle.naming.proofs.Equivalent.{Equivalent}
use Rattle.naming.proofs.Listed.{get_or-tabulate, tabulate_same}
use Rattle.naming.proofs.Best.{BestOf, best_name_lem, best_of_list}
use Rattle.naming.proofs.Rename.{length_rename, rename_agree}
use Rattle.naming.proofs.Naming.{Naming, naming_agree, names_after_rename, name_of-name}
use Rattle.naming.proofs.Merge.{in_merged, holder, held, Merges, merge_best, merge_stays}
use Rattle.table.specs.declared.words.Area.{Area}
use Rattle.table.specs.declared.merge.Listing.{Listing}
use Rattle.table.specs.Inside.Column
use Rattle.table.specs.Inside.Layout.{cell}
use Rattle.table.specs.Inside.Merge.{name_in, range_in, least_of, greatest_of, items_from, best_listed, merge_listed}
use Rattle.table.specs.Inside.KindValid.{names_in, KindValid, passing, Counts}
use Rattle.table.proofs.MergeKept.{HasKind, Kept, ListedOutside}
use Rattle.table.proofs.MergeBest.{best_listed_lem}
use Rattle.table.proofs.KindNames.{name_in_list, length-names, one_group, size-passing, size_counts}
use Rattle.table.proofs.MergeAbsorb.{loses}
use Rattle.table.proofs.MergeOutcome.{Outcome, merge_outcome}

-- Table t' is table t with the groups of the items merged under the name w; count items changed their name.
pub record MergedTo (t : List ℕ) (area : Area) (n : ℕ) (before after : Grouping) (items : List ℕ) (w : ℕ) (t' : List ℕ) (count : ℕ) : Type 0 where
  pub kept : Kept area t t'
  pub names : names_in t' area n ≡ rename before after (names_in t area n)
  pub valid : KindValid t' area n after
  -- a column that counts the items of each group that pass a test goes on doing so
  pub counts : (c : ℕ) (test : ℕ → Bool) → Counts t area n before c test → Counts t' area n after c test
  -- the items that changed their name are written down, rising
  pub changed : tabulate count (cell t' area Column.changed) ≡ listed n (λ x. not (eqb (name_in t area x) (name_in t' area x)))
  pub few : count ≤ n
  -- the winner is the name of a merged group, and the name of all their items; every other item keeps its name
  pub known : w < n
  pub self : name_in t area w ≡ w
  pub among : in_merged before items w ≡ true
  pub taken : (x : ℕ) → x < n → in_merged before items x ≡ true → name_in t' area x ≡ w
  pub stays : (x : ℕ) → x < n → in_merged before items x ≡ false → name_in t' area x ≡ name_in t area x

-- a list is the list of its entries
tabulate_entries : (n : ℕ) (xs : List ℕ) → length xs ≡ n → tabulate n (λ i. get_or xs i 0) ≡ xs
tabulate_entries n xs e =
    ext_get_or
    0
    (tabulate n (λ i. get_or xs i 0))
    xs
    (length_tabulate n (λ i. get_or xs i 0) ∙ sym e)
    (λ i h. get_or-tabulate n (λ i. get_or xs i 0) 0 i (rw (length_tabulate n (λ i. get_or xs i 0)) at h))

-- what shares a group with an item of merged groups is in them
pub merged_whole : (groups : Grouping) → Equivalent groups → (is : List ℕ) (x y : ℕ)
    → in_merged groups is x ≡ true → groups x y ≡ true → in_merged groups is y ≡ true
merged_whole groups e is x y m b =
    let k = holder groups is x m in
    held groups is k.at y k.member (e.transitive k.at x y k.holds b)

-- where groups merge, the names after name the groups after
pub naming_merged : (n : ℕ) (before after : Grouping) (names : List ℕ) → Naming n before names → Equivalent before → Equivalent after
    → (items : List ℕ)
    → Merges n before after items
    → Naming n after (rename before after names)
naming_merged n before after names named e e' items merges =
    subst
    (λ (l : List ℕ). Naming n after l)
    (rename_agree both before after after names (λ x y h k. agree x y (rw named.sized at h) (rw named.sized at k)) (λ x y h k. refl))
    (names_after_rename n both after names (naming_agree n before both names (λ x y h k. sym (agree x y h k)) named) equivalent e' (λ x y m. and_right (before x y) (after x y) m))
  where
    both : Grouping
    both x y = before x y && after x y

    agree : (x y : ℕ) → x < n → y < n → both x y ≡ before x y
    agree x y h k =
        bool_ext
        (both x y)
        (before x y)
        (and_left (before x y) (after x y))
        (λ m. and_both m (merges x y h k ∙ or_left m (in_merged before items x && in_merged before items y)))

    equivalent : Equivalent both
    equivalent =
        record {
          reflexive = λ x. and_both (e.reflexive x) (e'.reflexive x);
          symmetric = λ x y m.
              and_both
              (e.symmetric x y (and_left (before x y) (after x y) m))
              (e'.symmetric x y (and_right (before x y) (after x y) m));
          transitive = λ x y z m k.
              and_both
              (e.transitive x y z (and_left (before x y) (after x y) m) (and_left (before y z) (after y z) k))
              (e'.transitive x y z (and_right (before x y) (after x y) m) (and_right (before y z) (after y z) k));
        }

module _ (t : List ℕ) (area : Area) (n : ℕ) (has : HasKind t area) (fits : n ≤ area.size) (small : n < 65536)
    (before after : Grouping) (e : Equivalent before) (e' : Equivalent after) (valid : KindValid t area n before)
    (l : Listing) (outside : ListedOutside area l) (r : ℕ) (rs : List ℕ) (items : items_from t l 0 l.count ≡ r ∷ rs)
    (below : (z : ℕ) → Memᴰ z (r ∷ rs) → z < n) (merges : Merges n before after (r ∷ rs)) where
  abbrev w : ℕ
  w = best_listed t area l

  abbrev name : ℕ → ℕ
  name x = name_in t area x

  abbrev wins : ℕ → Bool
  wins x = eqb (name_in t area x) w

  abbrev merged : ℕ → Bool
  merged = in_merged before (r ∷ rs)

  best_is : w ≡ (best_of (candidate before (names_in t area n)) (candidate before (names_in t area n) r) rs).name
  best_is = best_listed_lem t area n before valid l r rs items below

  -- a listed item whose name is the winner
  heir : BestOf (candidate before (names_in t area n)) (λ z. Memᴰ z (r ∷ rs)) w
  heir = rw best_is (best_name_lem (best_of_list (candidate before (names_in t area n)) r rs))

  heir_known : heir.item < n
  heir_known = below heir.item heir.member

  heir_name : name_of (names_in t area n) heir.item ≡ w
  unfolding candidate
  heir_name = heir.named

  known : w < n
  known = rw heir_name at (valid.named.name_below heir.item heir_known)

  self : name w ≡ w
  self =
      sym (name_in_list t area n w known)
      ∙ (rw heir_name at (name_of-name n before (names_in t area n) valid.named heir.item heir_known))

  among : merged w ≡ true
  among =
      held
      before
      (r ∷ rs)
      heir.item
      w
      heir.member
      (rw heir_name at (valid.named.name_within heir.item heir_known))

  wins_merged : (x : ℕ) → x < n → wins x ≡ true → merged x ≡ true
  wins_merged x h d =
      merged_whole before e (r ∷ rs) w x among (one_group valid w x known h (self ∙ sym (eqb_eq (name x) w d)))

  lost : (x : ℕ) → x < n → merged x ≡ false → wins x ≡ false
  lost x h m = false_of_not (wins x) (λ d. not_both (wins_merged x h d) m)

  abbrev t' : List ℕ
  t' = (merge_listed t area l).table

  outcome : Outcome t area n before w merged t' (merge_listed t area l).count
  unfolding merge_listed
  outcome =
      subst
      (λ (is : List ℕ). Outcome t area n before w (in_merged before is) t' (merge_listed t area l).count)
      items
      (merge_outcome t area n has fits small before e valid w known self l outside (λ z m. below z (rw items at m)))

  taken : (x : ℕ) → x < n → merged x ≡ true → name_in t' area x ≡ w
  taken x h m = outcome.names x h ∙ go (true_or_false (wins x))
    where
      go : (wins x ≡ true) ⊎ (wins x ≡ false) → cond (merged x && not (wins x)) w (name x) ≡ w
      go (inl d) = rw (m, d) (eqb_eq (name x) w d)
      go (inr d) = rw (m, d)

  stays : (x : ℕ) → x < n → merged x ≡ false → name_in t' area x ≡ name x
  stays x h m = outcome.names x h ∙ (rw m)

  names_is : names_in t' area n ≡ rename before after (names_in t area n)
  unfolding names_in name_of
  names_is = tabulate_same n _ _ (λ x h. go x h (true_or_false (merged x))) ∙ tabulate_entries n new sized
    where
      new : List ℕ
      new = rename before after (names_in t area n)

      sized : length new ≡ n
      sized = length_rename before after (names_in t area n) ∙ length-names t area n

      go : (x : ℕ) → x < n → (merged x ≡ true) ⊎ (merged x ≡ false) → name_in t' area x ≡ name_of new x
      go x h (inl m) =
          taken x h m ∙ best_is ∙ sym (merge_best n before after (names_in t area n) valid.named e r rs below merges x h m)
      go x h (inr m) =
          stays x h m
          ∙ sym (name_in_list t area n x h)
          ∙ sym (merge_stays n before after (names_in t area n) valid.named e r rs below merges x h m)

  changed_is : tabulate (merge_listed t area l).count (cell t' area Column.changed) ≡ listed n (λ x. not (eqb (name x) (name_in t' area x)))
  changed_is = outcome.changed ∙ listed_same n _ _ (λ x h. rw (outcome.names x h) (go x (true_or_false (loses merged t area w x))))
    where
      go : (x : ℕ) → (loses merged t area w x ≡ true) ⊎ (loses merged t area w x ≡ false)
          → loses merged t area w x ≡ not (eqb (name x) (cond (loses merged t area w x) w (name x)))
      go x (inl d) = rw d (sym (and_right (merged x) (not (wins x)) d))
      go x (inr d) = rw (d, eqb_same (name x))

  -- the groups after: a merged item shares its group with the merged items, another with those of its group before
  after_merged : (x y : ℕ) → x < n → y < n → merged x ≡ true → (wins y || merged y) ≡ after x y
  after_merged x y h k m = rw (merges x y h k, m) (same (wins y) (before x y) (merged y) (wins_merged y k) (merged_whole before e (r ∷ rs) x y m))
    where
      same : (a b c : Bool) → (a ≡ true → c ≡ true) → (b ≡ true → c ≡ true) → (a || c) ≡ (b || c)
      same a b true f g = bool_ext (a || true) (b || true) (λ d. or_right b refl) (λ d. or_right a refl)
      same true b false f g = absurd (not_both (f refl) refl)
      same false true false f g = absurd (not_both (g refl) refl)
      same false false false f g = refl

  after_other : (x y : ℕ) → x < n → y < n → merged x ≡ false → before x y ≡ after x y
  after_other x y h k m = rw (merges x y h k, m) (same (before x y))
    where
      same : (b : Bool) → b ≡ (b || false)
      same true = refl
      same false = refl

  counts_after : (c : ℕ) (test : ℕ → Bool) → Counts t area n before c test → Counts t' area n after c test
  counts_after c test q = record { added_up = q.added_up; of_kind = q.of_kind; counted = λ x h. go x h (true_or_false (merged x)) }
    where
      go : (x : ℕ) → x < n → (merged x ≡ true) ⊎ (merged x ≡ false) → cell t' area c (name_in t' area x) ≡ passing n after test x
      go x h (inl m) =
          rw (taken x h m) (outcome.winner_sum c test q ∙ count_same n _ _ (λ y k. ap (λ b. b && test y) (after_merged x y h k m)))
      go x h (inr m) =
          rw
          (stays x h m)
          (outcome.other_sum c test q x h (lost x h m) m ∙ count_same n _ _ (λ y k. ap (λ b. b && test y) (after_other x y h k m)))

  valid_after : KindValid t' area n after
  valid_after =
      record {
        named = rw names_is (naming_merged n before after (names_in t area n) valid.named e e' (r ∷ rs) merges);
        sized = λ x h.
            (counts_after Column.size (λ y. true) (size_counts valid has.has_size)).counted x h ∙ sym (size-passing n after x);
        from_least = λ x h. low x h (true_or_false (merged x));
        to_greatest = λ x h. high x h (true_or_false (merged x));
        range_known = λ x h. ends x h (true_or_false (merged x));
      }
    where
      own : (x : ℕ) → merged x ≡ true → (wins x || merged x) ≡ true
      own x m = or_right (wins x) m

      low : (x : ℕ) → x < n → (merged x ≡ true) ⊎ (merged x ≡ false) → least_of (range_in t' area (name_in t' area x)) ≤ x
      low x h (inl m) = rw (taken x h m) (outcome.winner_least x h (own x m))
      low x h (inr m) = rw (stays x h m, outcome.other_range x h (lost x h m)) (valid.from_least x h)

      high : (x : ℕ) → x < n → (merged x ≡ true) ⊎ (merged x ≡ false) → x ≤ greatest_of (range_in t' area (name_in t' area x))
      high x h (inl m) = rw (taken x h m) (outcome.winner_greatest x h (own x m))
      high x h (inr m) = rw (stays x h m, outcome.other_range x h (lost x h m)) (valid.to_greatest x h)

      ends : (x : ℕ) → x < n → (merged x ≡ true) ⊎ (merged x ≡ false) → greatest_of (range_in t' area (name_in t' area x)) < n
      ends x h (inl m) = rw (taken x h m) outcome.winner_known
      ends x h (inr m) = rw (stays x h m, outcome.other_range x h (lost x h m)) (valid.range_known x h)

  -- the merge law
  pub merge_law : MergedTo t area n before after (r ∷ rs) (best_listed t area l) (merge_listed t area l).table (merge_listed t area l).count
  merge_law =
      record {
        kept = outcome.kept;
        names = names_is;
        valid = valid_after;
        counts = counts_after;
        changed = changed_is;
        few = outcome.few;
        known = known;
        self = self;
        among = among;
        taken = taken;
        stays = stays;
      }
