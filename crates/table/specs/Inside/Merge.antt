-- What merging groups does to the words of one kind of group, step by step. An area holds, for each item, its name, and for each name
-- the size of its group and the range of its items.
use Rattle.std.specs.Prelude.{ℕ, zero, suc, ◌+◌, ◌-◌, ◌*◌, ◌/◌, ◌%◌, ◌^◌, min, max, cond, List, [], ◌∷◌, ◌==◌, nat_le, nat_lt}
use Rattle.table.specs.declared.words.Area.{Area}
use Rattle.table.specs.declared.merge.Listing.{Listing}
use Rattle.table.specs.declared.merge.Pass.{Pass}
use Rattle.table.specs.Inside.Column
use Rattle.table.specs.Inside.Layout.{cell, put}

-- The name of an item, the size of a named group, and its range.
abbrev pub name_in : List ℕ → Area → ℕ → ℕ
name_in t area x = cell t area Column.name x

abbrev pub size_in : List ℕ → Area → ℕ → ℕ
size_in t area w = cell t area Column.size w

abbrev pub range_in : List ℕ → Area → ℕ → ℕ
range_in t area w = cell t area Column.range w

-- Item i of a listing.
abbrev pub item_of : List ℕ → Listing → ℕ → ℕ
item_of t l i = cell t l.area l.column i

-- The k items of a listing from item i on.
unfoldable pub items_from : List ℕ → Listing → ℕ → ℕ → List ℕ
items_from t l i zero = []
items_from t l i (suc k) = item_of t l i ∷ items_from t l (suc i) k

-- The name of the larger group; among equals, the least name.
unfoldable pub better_name : List ℕ → Area → ℕ → ℕ → ℕ
better_name t area w x =
    cond (nat_lt (size_in t area x) (size_in t area w)) w (cond (nat_lt (size_in t area w) (size_in t area x)) x (cond (nat_le w x) w x))

-- The best of a name and the names of the items.
unfoldable pub best_over : List ℕ → Area → ℕ → List ℕ → ℕ
best_over t area w [] = w
best_over t area w (x ∷ xs) = best_over t area (better_name t area w (name_in t area x)) xs

-- The best of the names of a listing's items, of which there is at least one.
unfoldable pub best_listed : List ℕ → Area → Listing → ℕ
best_listed t area l = best_over t area (name_in t area (item_of t l 0)) (items_from t l 1 (l.count - 1))

-- A range is kept in one word: its least item times 65,536, and its greatest item.
unfoldable pub least_of : ℕ → ℕ
least_of range = range / 65536

unfoldable pub greatest_of : ℕ → ℕ
greatest_of range = range % 65536

-- A pass widened to a range.
unfoldable pub widened : Pass → ℕ → Pass
widened p range = record { from = min p.from (least_of range); to = max p.to (greatest_of range + 1) }

-- A group gives what it has in a column to the winner, and keeps 0.
unfoldable pub given_in : List ℕ → Area → ℕ → ℕ → ℕ → List ℕ
given_in t area column w name = put (put t area column w ((cell t area column w + cell t area column name) % 2 ^ 32)) area column name 0

-- It gives what it has in k columns, from a column on.
unfoldable pub given_from : List ℕ → Area → ℕ → ℕ → ℕ → ℕ → List ℕ
given_from t area w name column zero = t
given_from t area w name column (suc k) = given_from (given_in t area column w name) area w name (suc column) k

-- It gives its size, and what the columns behind the size have; the winner gives nothing to itself.
unfoldable pub absorb_table : List ℕ → Area → ℕ → ℕ → List ℕ
absorb_table t area w name = cond (name == w) t (given_from t area w name Column.size (area.columns - Column.size))

-- The pass is widened to the range of each group that is absorbed.
unfoldable pub absorb_pass : List ℕ → Area → ℕ → ℕ → Pass → Pass
absorb_pass t area w name p = cond (name == w) p (widened p (range_in t area name))

-- A table and a pass.
pub record Absorbed : Type 0 where
  pub table : List ℕ
  pub pass : Pass

-- The groups of k items of a listing, from item i on, absorbed one after another.
unfoldable pub absorb_from : List ℕ → Area → Listing → ℕ → ℕ → ℕ → Pass → Absorbed
absorb_from t area l w i zero p = record { table = t; pass = p }
absorb_from t area l w i (suc k) p =
    let name = name_in t area (item_of t l i) in
    absorb_from (absorb_table t area w name) area l w (suc i) k (absorb_pass t area w name p)

-- The pass that holds no item.
unfoldable pub no_pass : Pass
no_pass = record { from = 65535; to = 0 }

unfoldable pub absorb_listed : List ℕ → Area → Listing → ℕ → Absorbed
absorb_listed t area l w = absorb_from t area l w 0 l.count no_pass

-- An item whose group has size 0 takes the winner's name and is written down as changed.
unfoldable pub rename_table : List ℕ → Area → ℕ → ℕ → ℕ → List ℕ
rename_table t area w x count =
    cond (size_in t area (name_in t area x) == 0) (put (put t area Column.name x w) area Column.changed count x) t

unfoldable pub rename_count : List ℕ → Area → ℕ → ℕ → ℕ
rename_count t area x count = cond (size_in t area (name_in t area x) == 0) (suc count) count

-- A table and how many items have changed.
pub record Renamed : Type 0 where
  pub table : List ℕ
  pub count : ℕ

-- The k items from x on, one after another.
unfoldable pub rename_from : List ℕ → Area → ℕ → ℕ → ℕ → ℕ → Renamed
rename_from t area w x zero count = record { table = t; count = count }
rename_from t area w x (suc k) count =
    rename_from (rename_table t area w x count) area w (suc x) k (rename_count t area x count)

unfoldable pub rename_pass : List ℕ → Area → ℕ → Pass → Renamed
rename_pass t area w p = rename_from t area w p.from (p.to - p.from) 0

-- The winner's range becomes the hull of itself and the pass.
unfoldable pub extended : List ℕ → Area → ℕ → Pass → List ℕ
extended t area w p =
    let q = widened p (range_in t area w) in
    put t area Column.range w (q.from % 65536 * 65536 + (q.to - 1) % 65536)

-- The groups of a listing's items become one: the table, and how many items changed their name.
unfoldable pub merge_listed : List ℕ → Area → Listing → Renamed
merge_listed t area l =
    let w = best_listed t area l in
    let absorbed = absorb_listed t area l w in
    let renamed = rename_pass absorbed.table area w absorbed.pass in
    record { table = extended renamed.table area w absorbed.pass; count = renamed.count }
