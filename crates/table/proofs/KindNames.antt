-- The names that the words of a kind of group give: their list, and how names tell groups where the words are valid.
use Rattle.std.proofs.Common.{◌≡◌, ℕ, ◌<◌, true, ◌&&◌, eqb, List, length, sym, ◌∙◌, arith}
use mathlib.Core.Bool.{and-true}
use Rattle.graph.specs.Below.{length_tabulate}
use Rattle.graph.proofs.Below.{count_same}
use Rattle.naming.specs.Rename.{Grouping, size, name_of}
use Rattle.naming.proofs.Listed.{get_or-tabulate}
use Rattle.naming.proofs.Naming.{group_by_name}
use Rattle.table.specs.declared.words.Area.{Area}
use Rattle.table.specs.Inside.Column
use Rattle.table.specs.Inside.Merge.{name_in}
use Rattle.table.specs.Inside.KindValid.{names_in, KindValid, passing, Counts}

-- the name of an item in the list of names
pub name_in_list : (t : List ℕ) (area : Area) (n x : ℕ) → x < n → name_of (names_in t area n) x ≡ name_in t area x
unfolding name_of names_in
name_in_list t area n x h = get_or-tabulate n (name_in t area) 0 x h

-- there are n names
pub length-names : (t : List ℕ) (area : Area) (n : ℕ) → length (names_in t area n) ≡ n
unfolding names_in
length-names t area n = length_tabulate n (name_in t area)

-- the size of a group is the number of its items that pass the test that every item passes
pub size-passing : (n : ℕ) (groups : Grouping) (x : ℕ) → size n groups x ≡ passing n groups (λ y. true) x
unfolding size
size-passing n groups x = count_same n (groups x) (λ y. groups x y && true) (λ y h. sym (and-true (groups x y)))

module _ {t : List ℕ} {area : Area} {n : ℕ} {groups : Grouping} (valid : KindValid t area n groups) where
  -- the name of an item is an item
  pub name_known : (x : ℕ) → x < n → name_in t area x < n
  name_known x h = rw (name_in_list t area n x h) at (valid.named.name_below x h)

  -- items share a group exactly if they share a name
  pub same-group : (x y : ℕ) → x < n → y < n → groups x y ≡ eqb (name_in t area x) (name_in t area y)
  same-group x y h l =
      rw (name_in_list t area n x h, name_in_list t area n y l) at (group_by_name n groups (names_in t area n) valid.named x y h l)

  -- the items of a group have one name
  pub one_name : (x y : ℕ) → x < n → y < n → groups x y ≡ true → name_in t area x ≡ name_in t area y
  one_name x y h l s = rw (name_in_list t area n x h, name_in_list t area n y l) at (valid.named.one_name x y h l s)

  -- the items of one name are in one group
  pub one_group : (x y : ℕ) → x < n → y < n → name_in t area x ≡ name_in t area y → groups x y ≡ true
  one_group x y h l q = valid.named.one_group x y h l (name_in_list t area n x h ∙ q ∙ sym (name_in_list t area n y l))

  -- so the column of sizes counts the items of each group
  pub size_counts : Column.size < area.columns → Counts t area n groups Column.size (λ y. true)
  size_counts of_kind =
      record {
        added_up = omega arith;
        of_kind = of_kind;
        counted = λ x h. valid.sized x h ∙ size-passing n groups x;
      }
