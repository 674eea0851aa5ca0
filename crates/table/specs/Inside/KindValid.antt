-- When the words of one kind of group are those of a naming, and which names they hold.
use Rattle.std.specs.Prelude.{◌≡◌, ℕ, ◌<◌, ◌≤◌, Bool, ◌&&◌, List}
use Rattle.graph.specs.Below.{count, tabulate}
use Rattle.naming.specs.Rename.{Grouping, size}
use Rattle.naming.specs.Naming.{Naming}
use Rattle.table.specs.declared.words.Area.{Area}
use Rattle.table.specs.Inside.Column
use Rattle.table.specs.Inside.Layout.{cell}
use Rattle.table.specs.Inside.Merge.{name_in, size_in, range_in, least_of, greatest_of}

-- The names of the first n items of a kind.
unfoldable pub names_in : List ℕ → Area → ℕ → List ℕ
names_in t area n = tabulate n (name_in t area)

-- The words of one kind of group, over items below n: names, the size of each named group, and a range that holds its items.
pub record KindValid (t : List ℕ) (area : Area) (n : ℕ) (groups : Grouping) : Type 0 where
  pub named : Naming n groups (names_in t area n)
  pub sized : (x : ℕ) → x < n → size_in t area (name_in t area x) ≡ size n groups x
  pub from_least : (x : ℕ) → x < n → least_of (range_in t area (name_in t area x)) ≤ x
  pub to_greatest : (x : ℕ) → x < n → x ≤ greatest_of (range_in t area (name_in t area x))
  pub range_known : (x : ℕ) → x < n → greatest_of (range_in t area (name_in t area x)) < n

-- How many of the items below n are in x's group and pass the test.
abbrev pub passing : ℕ → Grouping → (ℕ → Bool) → ℕ → ℕ
passing n groups test x = count n (λ y. groups x y && test y)

-- Column c is one of those that merging adds up, and has for each named group the number of its items that pass the test. The sizes are
-- such a column, with the test that every item passes.
pub record Counts (t : List ℕ) (area : Area) (n : ℕ) (groups : Grouping) (c : ℕ) (test : ℕ → Bool) : Type 0 where
  pub added_up : Column.size ≤ c
  pub of_kind : c < area.columns
  pub counted : (x : ℕ) → x < n → cell t area c (name_in t area x) ≡ passing n groups test x
