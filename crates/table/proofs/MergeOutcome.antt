-- What merging leaves in the words of a kind of group: absorbing, the pass and the winner's range taken together.
use Rattle.std.proofs.Common.{◌≡◌, ℕ, ◌+◌, ◌-◌, ◌*◌, ◌%◌, ◌<◌, ◌≤◌, min, max, Bool, true, false, cond, not, ◌&&◌, ◌||◌, eqb, ltb, ◌⊎◌, List, sym, refl, ◌∙◌, inl, inr, arith}
use mathlib.Core.Bool.{and-false}
use mathlib.Core.List.{Memᴰ}
use Rattle.graph.specs.Below.{count, listed, tabulate}
use Rattle.graph.proofs.Truth.{true_or_false, or_left, and_both, not_of_false, eqb_eq, eqb_ne, eq-eqb, ne_eqb, lt-ltb}
use Rattle.naming.specs.Rename.{Grouping}
use Rattle.naming.proofs.Count.{count_positive}
use Rattle.naming.proofs.Equivalent.{Equivalent, size_positive}
use Rattle.naming.proofs.Listed.{tabulate_same}
use Rattle.naming.proofs.Merge.{in_merged}
use Rattle.table.specs.declared.words.Area.{Area}
use Rattle.table.specs.declared.merge.Listing.{Listing}
use Rattle.table.specs.declared.merge.Pass.{Pass}
use Rattle.table.specs.Inside.Column
use Rattle.table.specs.Inside.Layout.{cell, put}
use Rattle.table.specs.Inside.Merge.{name_in, size_in, range_in, least_of, greatest_of, items_from, widened, absorb_listed, Renamed, rename_pass, extended}
use Rattle.table.specs.Inside.KindValid.{KindValid, passing, Counts}
use Rattle.table.proofs.Cells.{cell-put-same, cell_put_other_column, cell_put_other_item}
use Rattle.table.proofs.Halves.{high_half, low_half}
use Rattle.table.proofs.MergeKept.{HasKind, Kept, ListedOutside, kept_trans, kept_put, kept_columns}
use Rattle.table.proofs.MergeAbsorb.{Absorbing, loses}
use Rattle.table.proofs.KindNames.{name_known, size-passing, size_counts}
use Rattle.table.proofs.MergeAbsorbed.{absorb_listed_lem}
use Rattle.table.proofs.MergeRename.{Renaming, rename_pass_lem}

-- Table t' is table t with the groups of the items that pass the test merged into the group named w, and count items written down.
pub record Outcome (t : List ℕ) (area : Area) (n : ℕ) (before : Grouping) (w : ℕ) (merged : ℕ → Bool) (t' : List ℕ) (count' : ℕ) : Type 0 where
  pub kept : Kept area t t'
  pub names : (x : ℕ) → x < n → name_in t' area x ≡ cond (loses merged t area w x) w (name_in t area x)
  pub changed : tabulate count' (cell t' area Column.changed) ≡ listed n (loses merged t area w)
  pub few : count' ≤ n
  -- the words of the winner
  pub winner_sum : (c : ℕ) (test : ℕ → Bool) → Counts t area n before c test
      → cell t' area c w ≡ count n (λ x. (eqb (name_in t area x) w || merged x) && test x)
  pub winner_least : (x : ℕ) → x < n → (eqb (name_in t area x) w || merged x) ≡ true → least_of (range_in t' area w) ≤ x
  pub winner_greatest : (x : ℕ) → x < n → (eqb (name_in t area x) w || merged x) ≡ true → x ≤ greatest_of (range_in t' area w)
  pub winner_known : greatest_of (range_in t' area w) < n
  -- the words of the groups that are not merged
  pub other_sum : (c : ℕ) (test : ℕ → Bool) → Counts t area n before c test
      → (x : ℕ) → x < n → eqb (name_in t area x) w ≡ false → merged x ≡ false → cell t' area c (name_in t area x) ≡ passing n before test x
  pub other_range : (x : ℕ) → x < n → eqb (name_in t area x) w ≡ false → range_in t' area (name_in t area x) ≡ range_in t area (name_in t area x)

-- Over a valid table, with a winner that names its own group.
module _ (t : List ℕ) (area : Area) (n : ℕ) (has : HasKind t area) (fits : n ≤ area.size) (small : n < 65536)
    (before : Grouping) (e : Equivalent before) (valid : KindValid t area n before) (w : ℕ) (known : w < n) (self : name_in t area w ≡ w) where
  abbrev name : ℕ → ℕ
  name x = name_in t area x

  abbrev wins : ℕ → Bool
  wins x = eqb (name_in t area x) w

  -- once all groups are absorbed, an item's group has size 0 exactly if it was absorbed
  module _ (merged : ℕ → Bool) (t₁ : List ℕ) (p : Pass) (a : Absorbing t area n before w merged t₁ p) where
    named : (x : ℕ) → x < n → name_in t₁ area x ≡ name x
    named x h = a.names x (omega arith)

    empty : (x : ℕ) → x < n → eqb (size_in t₁ area (name_in t₁ area x)) 0 ≡ loses merged t area w x
    empty x h = rw (named x h) (go (true_or_false (wins x)) (true_or_false (merged x)))
      where
        sized : Counts t area n before Column.size (λ y. true)
        sized = size_counts valid has.has_size

        filled : 1 ≤ size_in t₁ area w
        filled =
            rw
            (a.winner Column.size (λ y. true) sized)
            (count_positive n (λ y. (wins y || merged y) && true) w known (and_both (or_left (eq-eqb (name w) w self) (merged w)) refl))

        size_is : (b : Bool) → merged x ≡ b → wins x ≡ false → size_in t₁ area (name x) ≡ cond b 0 (passing n before (λ y. true) x)
        size_is b m d = rw (← m) (a.others Column.size (λ y. true) sized x h d)

        go : (wins x ≡ true) ⊎ (wins x ≡ false) → (merged x ≡ true) ⊎ (merged x ≡ false)
            → eqb (size_in t₁ area (name x)) 0 ≡ (merged x && not (wins x))
        go (inl d) m =
            rw
            (d, eqb_eq (name x) w d)
            (ne_eqb (size_in t₁ area w) 0 (λ z. omega (arith, filled)) ∙ sym (and-false (merged x)))
        go (inr d) (inl m) = rw (d, m) (eq-eqb (size_in t₁ area (name x)) 0 (size_is true m d))
        go (inr d) (inr m) =
            rw
            (d, m)
            (ne_eqb
            (size_in t₁ area (name x))
            0
            (λ z. omega (arith, size_is false m d, size-passing n before x, size_positive n before e x h)))

    abbrev passed : Renamed
    passed = rename_pass t₁ area w p

    renaming : Renaming t₁ area n w (loses merged t area w) n passed.table passed.count
    renaming =
        rename_pass_lem
        t₁
        area
        n
        (kept_columns a.kept has)
        fits
        w
        (loses merged t area w)
        (λ x h. rw (named x h) (name_known valid x h))
        empty
        p
        a.to_known
        a.from_least
        a.to_greatest

    -- The hull of the winner's range and the pass, as it is kept in one word.
    hull : ℕ
    hull =
        min p.from (least_of (range_in t area w)) % 65536 * 65536
        + (max p.to (greatest_of (range_in t area w) + 1) - 1) % 65536

    winner_range : range_in passed.table area w ≡ range_in t area w
    winner_range = renaming.ranges w (omega arith) ∙ a.ranges w (omega arith)

    extended_is : extended passed.table area w p ≡ put passed.table area Column.range w hull
    unfolding extended widened hull
    extended_is = rw winner_range

    abbrev least : ℕ
    least = least_of (range_in t area w)

    abbrev greatest : ℕ
    greatest = greatest_of (range_in t area w)

    -- the range of the winner and the pass hold all items of the new group
    within : (x : ℕ) → x < n → (wins x || merged x) ≡ true → (min p.from least ≤ x) × (x < max p.to (greatest + 1))
    within x h m = go (true_or_false (wins x))
      where
        go : (wins x ≡ true) ⊎ (wins x ≡ false) → (min p.from least ≤ x) × (x < max p.to (greatest + 1))
        go (inl d) =
            let q = eqb_eq (name x) w d in
            omega (arith, rw q at (valid.from_least x h), rw q at (valid.to_greatest x h))
        go (inr d) =
            let k = and_both (rw d at m) (not_of_false d) in
            omega (arith, a.from_least x h k, a.to_greatest x h k)

    -- the hull is kept whole in its word
    hull_parts : (least_of hull ≡ min p.from least) × (greatest_of hull + 1 ≡ max p.to (greatest + 1)) × (greatest_of hull < n)
    unfolding hull least_of greatest_of
    hull_parts = go (high_half (min p.from least) last low high, low_half (min p.from least) last low high)
      where
        low : min p.from least < 65536
        low = omega (arith, rw self at (valid.from_least w known))

        ends : max p.to (greatest + 1) ≤ n
        ends = omega (arith, rw self at (valid.range_known w known), a.to_known)

        last : ℕ
        last = max p.to (greatest + 1) - 1

        high : max p.to (greatest + 1) - 1 < 65536
        high = omega (arith, ends)

        go : (least_of hull ≡ min p.from least) × (greatest_of hull ≡ max p.to (greatest + 1) - 1)
            → (least_of hull ≡ min p.from least) × (greatest_of hull + 1 ≡ max p.to (greatest + 1)) × (greatest_of hull < n)
        go q = (q.0, (omega (arith, q.1)), (omega (arith, q.1, ends)))

    outcome : Outcome t area n before w merged (extended passed.table area w p) passed.count
    outcome =
        rw extended_is
        record {
          kept = kept_trans (kept_trans a.kept renaming.kept) (kept_put area passed.table Column.range w hull (omega (arith, has.has_size)) wide);
          names = λ x h. column Column.name x (omega arith) (λ d. omega arith) ∙ renaming.names x h ∙ name_is x h;
          changed = tabulate_same passed.count _ _ (λ i h. column Column.changed i (omega (arith, renaming.few)) (λ d. omega arith)) ∙ renaming.changed;
          few = renaming.few;
          winner_sum = λ c test q.
              column c w wide (λ d. omega (arith, q.added_up)) ∙ renaming.sums c w q.added_up wide ∙ a.winner c test q;
          winner_least = λ x h m. rw range_is (omega (arith, hull_parts, within x h m));
          winner_greatest = λ x h m. rw range_is (omega (arith, hull_parts, within x h m));
          winner_known = rw range_is hull_parts.2;
          other_sum = λ c test q x h d m.
              column c (name x) (wide_name x h) (λ d. omega (arith, q.added_up))
              ∙ renaming.sums c (name x) q.added_up (wide_name x h)
              ∙ (rw m at (a.others c test q x h d));
          other_range = λ x h d.
              cell_put_other_item passed.table area Column.range w hull (name x) (λ q. eqb_ne (name x) w d (sym q))
              ∙ renaming.ranges (name x) (wide_name x h)
              ∙ a.ranges (name x) (wide_name x h);
        }
      where
        wide : w < area.size
        wide = omega arith

        wide_name : (x : ℕ) → x < n → name x < area.size
        wide_name x h = omega (arith, name_known valid x h)

        column : (c x : ℕ) → x < area.size → (Column.range ≡ c → ⊥)
            → cell (put passed.table area Column.range w hull) area c x ≡ cell passed.table area c x
        column c x h d = cell_put_other_column passed.table area Column.range w hull c x wide h d

        name_is : (x : ℕ) → x < n
            → cond (ltb x n && loses merged t area w x) w (name_in t₁ area x) ≡ cond (loses merged t area w x) w (name x)
        name_is x h = rw (lt-ltb x n h, named x h)

        range_is : range_in (put passed.table area Column.range w hull) area w ≡ hull
        range_is =
            cell-put-same
            passed.table
            area
            area.columns
            Column.range
            w
            hull
            (kept_columns renaming.kept (kept_columns a.kept has)).columns
            (omega (arith, has.has_size))
            wide

  -- merging the groups of a listing's items into the group named w
  pub merge_outcome : (l : Listing) → ListedOutside area l
      → ((z : ℕ) → Memᴰ z (items_from t l 0 l.count) → z < n)
      → Outcome t area n before w (in_merged before (items_from t l 0 l.count))
      (extended (rename_pass (absorb_listed t area l w).table area w (absorb_listed t area l w).pass).table area w (absorb_listed t area l w).pass)
      (rename_pass (absorb_listed t area l w).table area w (absorb_listed t area l w).pass).count
  merge_outcome l o Listed-Below =
      outcome
      (in_merged before (items_from t l 0 l.count))
      (absorb_listed t area l w).table
      (absorb_listed t area l w).pass
      (absorb_listed_lem t area n has fits small before valid w known self l o Listed-Below)
