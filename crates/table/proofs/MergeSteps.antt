-- How the models of merging go on: one item more, and no item left.
use Rattle.std.proofs.Common.{◌≡◌, ℕ, suc, ◌+◌, ◌-◌, ◌<◌, ◌≤◌, Bool, true, false, cond, eqb, List, add-one, arith}
use Rattle.table.specs.declared.words.Area.{Area}
use Rattle.table.specs.declared.merge.Listing.{Listing}
use Rattle.table.specs.declared.merge.Pass.{Pass}
use Rattle.table.specs.Inside.Merge.{name_in, size_in, item_of, items_from, better_name, best_over, widened}
use Rattle.table.specs.Inside.Merge.{given_in, given_from, absorb_table, absorb_pass, absorb_from, rename_table, rename_count, rename_from}

-- what is left before an item is one more than what is left after it
one_more_left : (i n : ℕ) → i < n → n - i ≡ suc (n - (i + 1))
one_more_left i n h = omega arith

none_left : (i n : ℕ) → n ≤ i → n - i ≡ 0
none_left i n h = omega arith

-- the best of the listed names takes the next item's name into account, and goes on
pub best_step : (t : List ℕ) (area : Area) (l : Listing) (w i : ℕ) → i < l.count
    → best_over t area w (items_from t l i (l.count - i))
    ≡ best_over t area (better_name t area w (name_in t area (item_of t l i))) (items_from t l (i + 1) (l.count - (i + 1)))
unfolding best_over items_from
best_step t area l w i h = rw (one_more_left i l.count h, add-one i)

-- with no item left the best name is the one at hand
pub best_end : (t : List ℕ) (area : Area) (l : Listing) (w i : ℕ) → l.count ≤ i → best_over t area w (items_from t l i (l.count - i)) ≡ w
unfolding best_over items_from
best_end t area l w i h = rw (none_left i l.count h)

-- what a group has in the next column is given, and then the rest
pub give_step : (t : List ℕ) (area : Area) (w name column : ℕ) → column < area.columns
    → given_from t area w name column (area.columns - column)
    ≡ given_from (given_in t area column w name) area w name (column + 1) (area.columns - (column + 1))
unfolding given_from
give_step t area w name column h = rw (one_more_left column area.columns h, add-one column)

-- with no column left the table stays
pub give_end : (t : List ℕ) (area : Area) (w name column : ℕ) → area.columns ≤ column
    → given_from t area w name column (area.columns - column) ≡ t
unfolding given_from
give_end t area w name column h = rw (none_left column area.columns h)

-- the group of the next listed item is absorbed, and then those of the rest
pub absorb_step : (t : List ℕ) (area : Area) (l : Listing) (w i : ℕ) (p : Pass) → i < l.count
    → absorb_from t area l w i (l.count - i) p
    ≡ (let name = name_in t area (item_of t l i) in
    absorb_from (absorb_table t area w name) area l w (i + 1) (l.count - (i + 1)) (absorb_pass t area w name p))
unfolding absorb_from
absorb_step t area l w i p h = rw (one_more_left i l.count h, add-one i)

-- with no item left table and pass stay
pub absorb_end : (t : List ℕ) (area : Area) (l : Listing) (w i : ℕ) (p : Pass) → l.count ≤ i
    → absorb_from t area l w i (l.count - i) p ≡ record { table = t; pass = p }
unfolding absorb_from
absorb_end t area l w i p h = rw (none_left i l.count h)

-- the next item of a pass takes its name, and then the rest
pub rename_step : (t : List ℕ) (area : Area) (w to x count : ℕ) → x < to
    → rename_from t area w x (to - x) count
    ≡ rename_from (rename_table t area w x count) area w (x + 1) (to - (x + 1)) (rename_count t area x count)
unfolding rename_from
rename_step t area w to x count h = rw (one_more_left x to h, add-one x)

-- with no item left table and count stay
pub rename_end : (t : List ℕ) (area : Area) (w to x count : ℕ) → to ≤ x
    → rename_from t area w x (to - x) count ≡ record { table = t; count = count }
unfolding rename_from
rename_end t area w to x count h = rw (none_left x to h)

-- an item adds at most one to the count
pub rename_count_bound : (t : List ℕ) (area : Area) (x count : ℕ) → rename_count t area x count ≤ count + 1
unfolding rename_count
rename_count_bound t area x count = go (eqb (size_in t area (name_in t area x)) 0)
  where
    go : (b : Bool) → cond b (suc count) count ≤ count + 1
    go true = omega arith
    go false = omega arith

-- a widened pass ends past its range, and so not at 0
pub widened_to : (p : Pass) (range : ℕ) → 1 ≤ (widened p range).to
unfolding widened
widened_to p range = omega arith
