-- Changes as they are written down: each changed item, with the name that the table has for it.
use Rattle.std.proofs.Common.{◌≡◌, ℕ, ◌<◌, ◌≤◌, false, not, eqb, List, map, length, sym, ap, ◌∙◌, ap₂, arith}
use Rattle.graph.specs.Below.{listed, tabulate, length_tabulate}
use Rattle.graph.proofs.Truth.{eq-eqb}
use Rattle.graph.proofs.Below.{listed_same, listed_none}
use Rattle.graph.proofs.Lengths.{length-listed}
use Rattle.naming.specs.Rename.{Change, name_of, changed_items, changes_between}
use Rattle.naming.proofs.Listed.{map-listed-same, map_tabulate, tabulate_same}
use Rattle.table.specs.declared.words.Area.{Area}
use Rattle.table.specs.Inside.Column
use Rattle.table.specs.Inside.Layout.{cell}
use Rattle.table.specs.Inside.Merge.{name_in}
use Rattle.table.specs.Inside.KindValid.{names_in}
use Rattle.table.proofs.KindNames.{name_in_list, length-names}

-- The items of n before and n' after that changed their name are written down, k of them.
abbrev pub ChangesListed : Area → ℕ → ℕ → ℕ → List ℕ → List ℕ → Type 0
ChangesListed area n n' k old new = tabulate k (cell new area Column.changed) ≡ changed_items (names_in old area n) (names_in new area n')

-- the names of n items before and of at least as many after differ just where the words differ
changed-names : (area : Area) (n n' : ℕ) (old new : List ℕ) → n ≤ n'
    → listed n (λ x. not (eqb (name_in old area x) (name_in new area x))) ≡ changed_items (names_in old area n) (names_in new area n')
unfolding changed_items
changed-names area n n' old new h =
    rw (length-names old area n)
    (listed_same n
    (λ x. not (eqb (name_in old area x) (name_in new area x)))
    (λ x. not (eqb (name_of (names_in old area n) x) (name_of (names_in new area n') x)))
    (λ x l. rw (name_in_list old area n x l, name_in_list new area n' x (omega arith))))

-- the changes that a merge from t to t' writes down are those from the old table to the new one, if no name changes before it or behind it
pub changes_around : (area : Area) (n n' k : ℕ) (old t t' new : List ℕ) → n ≤ n'
    → tabulate k (cell t' area Column.changed) ≡ listed n (λ x. not (eqb (name_in t area x) (name_in t' area x)))
    → ((x : ℕ) → x < n → name_in t area x ≡ name_in old area x)
    → ((x : ℕ) → x < n → name_in new area x ≡ name_in t' area x)
    → ((i : ℕ) → i < k → cell new area Column.changed i ≡ cell t' area Column.changed i)
    → ChangesListed area n n' k old new
changes_around area n n' k old t t' new grows are first last kept =
    tabulate_same k (cell new area Column.changed) (cell t' area Column.changed) kept
    ∙ are
    ∙ listed_same n _ _ (λ x h. ap₂ (λ i j. not (eqb i j)) (first x h) (sym (last x h)))
    ∙ changed-names area n n' old new grows

-- where no name of n items changes, none is to be written down
pub no_names-changed : (area : Area) (n n' : ℕ) (old new : List ℕ) → n ≤ n'
    → ((x : ℕ) → x < n → name_in new area x ≡ name_in old area x) → ChangesListed area n n' 0 old new
unfolding tabulate
no_names-changed area n n' old new h stays =
    sym
    (sym (changed-names area n n' old new h)
    ∙ listed_none n (λ x. not (eqb (name_in old area x) (name_in new area x))) each)
  where
    each : (x : ℕ) → x < n → not (eqb (name_in old area x) (name_in new area x)) ≡ false
    each x l = ap not (eq-eqb (name_in old area x) (name_in new area x) (sym (stays x l)))

module _ (area : Area) (n n' k : ℕ) (old new : List ℕ) (grows : n ≤ n') (are : ChangesListed area n n' k old new) where
  abbrev change_in : ℕ → Change
  change_in x = record { item = x; name = cell new area Column.name x }

  -- with their names they are the changes between the names before and after
  pub changes_written : tabulate k (λ i. change_in (cell new area Column.changed i)) ≡ changes_between (names_in old area n) (names_in new area n')
  unfolding changes_between changed_items
  changes_written =
      sym (map_tabulate change_in k (cell new area Column.changed))
      ∙ ap (map change_in) are
      ∙ map-listed-same change_in (λ x. record { item = x; name = name_of (names_in new area n') x })
      (λ x. not (eqb (name_of (names_in old area n) x) (name_of (names_in new area n') x)))
      (length (names_in old area n))
      (λ x h. ap (λ (name : ℕ). let c : Change = record { item = x; name = name } in c) (sym (name_in_list new area n' x (omega (arith, length-names old area n)))))

  -- and there are no more than there were items
  pub changes_few : k ≤ n
  unfolding changed_items
  changes_few =
      let few = length-listed (length (names_in old area n)) (λ x. not (eqb (name_of (names_in old area n) x) (name_of (names_in new area n') x))) in
      omega (arith, length_tabulate k (cell new area Column.changed), ap length are, length-names old area n)
