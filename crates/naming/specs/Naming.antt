-- When a list of names names the groups of items.
use Rattle.std.specs.Prelude.{true, List, ◌≡◌, ℕ, ◌<◌, length}
use Rattle.naming.specs.Rename.{Grouping, name_of}

-- The list names the groups of the items below n.
pub record Naming (n : ℕ) (groups : Grouping) (names : List ℕ) : Type 0 where
  -- each item has a name
  pub sized : length names ≡ n
  -- items of one group have one name
  pub one_name : (x y : ℕ) → x < n → y < n → groups x y ≡ true → name_of names x ≡ name_of names y
  -- items of one name are in one group
  pub one_group : (x y : ℕ) → x < n → y < n → name_of names x ≡ name_of names y → groups x y ≡ true
  -- a name is the number of an item
  pub name_below : (x : ℕ) → x < n → name_of names x < n
  -- and that item is in the group
  pub name_within : (x : ℕ) → x < n → groups x (name_of names x) ≡ true
