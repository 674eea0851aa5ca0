-- The words of one kind of group: on which words their validity and the columns that count depend, and a new group of one item.
use Rattle.std.proofs.Common.{◌≡◌, ℕ, suc, ◌+◌, ◌*◌, ◌%◌, ◌<◌, ◌≤◌, Bool, true, false, ◌&&◌, ◌⊎◌, List, [], ◌∷◌, ◌++◌, sym, refl, ap, ◌∙◌, ap₂, inl, inr, le_refl, arith}
use mathlib.Core.Bool.{and-false}
use Rattle.graph.specs.Below.{tabulate}
use Rattle.graph.proofs.Below.{below_or_last, Agree, count_same, count_none}
use Rattle.graph.specs.Network.{Network}
use Rattle.graph.specs.Block.{block}
use Rattle.naming.specs.Rename.{Grouping, size}
use Rattle.naming.proofs.Count.{count_last_out}
use Rattle.naming.proofs.Listed.{tabulate_same}
use Rattle.naming.proofs.Equivalent.{Equivalent, group_swap, size_agree, size_others, size-alone}
use Rattle.naming.proofs.Rename.{AgreeBelow}
use Rattle.naming.proofs.Naming.{naming_agree, naming_new_item}
use Rattle.numbers.specs.declared.Limits.{Limits}
use Rattle.table.specs.declared.words.Area.{Area}
use Rattle.table.specs.Inside.Column
use Rattle.table.specs.Inside.Layout.{cell, put, edge_area}
use Rattle.table.specs.Inside.Merge.{name_in, size_in, range_in, least_of, greatest_of}
use Rattle.table.specs.Inside.KindValid.{names_in, KindValid, passing, Counts}
use Rattle.table.proofs.Halves.{high_half, low_half}
use Rattle.table.proofs.Cells.{length-put, cell-put-same, cell_put_other_column, cell_put_elsewhere}
use Rattle.table.proofs.MergeKept.{HasKind, kept_put, kept_columns}
use Rattle.table.proofs.KindNames.{name_known, one_name}
use Rattle.forest.specs.Inside.Tree.{new_group}
use Rattle.forest.specs.Inside.Climb.{above_edge, top_of}
use Rattle.forest.proofs.Columns.{among, group_columns}

-- Two tables agree on the names, sizes and ranges of the items below n.
abbrev pub SameWords : List ℕ → List ℕ → Area → ℕ → Type 0
SameWords t t' area n = (c x : ℕ) → among group_columns c ≡ true → x < n → cell t' area c x ≡ cell t area c x

-- the edges of one block have one vertex above it
pub one_above : (t : List ℕ) (limits : Limits) (m : ℕ) (g : Network) → KindValid t (edge_area limits) m (block g)
    → (e f : ℕ) → e < m → f < m → block g e f ≡ true → above_edge t limits e ≡ above_edge t limits f
unfolding above_edge
one_above t limits m g valid e f h k b = ap (top_of t limits) (one_name valid e f h k b)

-- tables that agree on the words of a kind have the same list of names
pub names_same : (t t' : List ℕ) (area : Area) (n : ℕ) → SameWords t t' area n → names_in t' area n ≡ names_in t area n
unfolding names_in
names_same t t' area n f = tabulate_same n (name_in t' area) (name_in t area) (λ x h. f Column.name x refl h)

-- the names, sizes and ranges of the items below n are all that matters
pub kind_same : {t t' : List ℕ} {area : Area} {n : ℕ} {groups : Grouping} → SameWords t t' area n
    → KindValid t area n groups
    → KindValid t' area n groups
kind_same {t} {t'} {area} {n} {groups} f k =
    record {
      named = rw (names_same t t' area n f) k.named;
      sized = λ x h. at_name Column.size x refl h ∙ k.sized x h;
      from_least = λ x h. rw (at_name Column.range x refl h) (k.from_least x h);
      to_greatest = λ x h. rw (at_name Column.range x refl h) (k.to_greatest x h);
      range_known = λ x h. rw (at_name Column.range x refl h) (k.range_known x h);
    }
  where
    at_name : (c x : ℕ) → among group_columns c ≡ true → x < n → cell t' area c (name_in t' area x) ≡ cell t area c (name_in t area x)
    at_name c x l h = ap (cell t' area c) (f Column.name x refl h) ∙ f c (name_in t area x) l (name_known k x h)

-- the groups of the items below n are all that matters
pub kind_agree : {t : List ℕ} {area : Area} {n : ℕ} {groups groups' : Grouping} → AgreeBelow n groups groups'
    → KindValid t area n groups
    → KindValid t area n groups'
kind_agree {t} {area} {n} {groups} {groups'} agree k =
    record {
      named = naming_agree n groups groups' (names_in t area n) agree k.named;
      sized = λ x h. k.sized x h ∙ size_agree n groups groups' x (λ y l. agree x y h l);
      from_least = k.from_least;
      to_greatest = k.to_greatest;
      range_known = k.range_known;
    }

-- of a column that counts, its words, the names, the groups and the test at the items below n are all that matters
pub counts_same : {t t' : List ℕ} {area : Area} {n c : ℕ} {groups groups' : Grouping} {test test' : ℕ → Bool} → KindValid t area n groups
    → SameWords t t' area n
    → ((x : ℕ) → x < n → cell t' area c x ≡ cell t area c x)
    → AgreeBelow n groups groups'
    → Agree n test test'
    → Counts t area n groups c test
    → Counts t' area n groups' c test'
counts_same {t} {t'} {area} {n} {c} {groups} {groups'} {test} {test'} k names f agree same q =
    record {
      added_up = q.added_up;
      of_kind = q.of_kind;
      counted = λ x h.
          ap (cell t' area c) (names Column.name x refl h)
          ∙ f (name_in t area x) (name_known k x h)
          ∙ q.counted x h
          ∙ count_same n _ _ (λ y l. ap₂ ◌&&◌ (agree x y h l) (same y l));
    }

-- a new group leaves the words of other items
pub new_group_other : (t : List ℕ) (area : Area) (n c x : ℕ) → n < area.size → x < area.size → (n ≡ x → ⊥)
    → cell (new_group t area n) area c x ≡ cell t area c x
unfolding new_group
new_group_other t area n c x h l d =
    cell_put_elsewhere _ area Column.range n _ c x h l d
    ∙ cell_put_elsewhere _ area Column.size n 1 c x h l d
    ∙ cell_put_elsewhere t area Column.name n n c x h l d

module _ (t : List ℕ) (area : Area) (n : ℕ) (has : HasKind t area) (h : n < area.size) where
  t₁ : List ℕ
  t₁ = put t area Column.name n n

  has₁ : HasKind t₁ area
  unfolding t₁
  has₁ = kept_columns (kept_put area t Column.name n n (omega (arith, has.has_size)) h) has

  -- the name of the item of a new group is its number
  pub new_group-name : cell (new_group t area n) area Column.name n ≡ n
  unfolding new_group
  new_group-name =
      cell_put_other_column _ area Column.range n _ Column.name n h h (λ e. omega arith)
      ∙ cell_put_other_column _ area Column.size n 1 Column.name n h h (λ e. omega arith)
      ∙ cell-put-same t area area.columns Column.name n n has.columns (omega (arith, has.has_size)) h

  -- its size is 1
  pub new_group-size : cell (new_group t area n) area Column.size n ≡ 1
  unfolding new_group t₁ has₁
  new_group-size =
      cell_put_other_column _ area Column.range n _ Column.size n h h (λ e. omega arith) ∙ cell-put-same t₁ area area.columns Column.size n 1 has₁.columns (omega (arith, has.has_size)) h

  -- its range holds it alone
  pub new_group-range : cell (new_group t area n) area Column.range n ≡ n % 65536 * 65536 + n % 65536
  unfolding new_group t₁ has₁
  new_group-range =
      cell-put-same (put t₁ area Column.size n 1) area area.columns Column.range n (n % 65536 * 65536 + n % 65536) (rw (length-put t₁ area Column.size n 1) has₁.columns) (omega (arith, has.has_size)) h

  module _ (small : n < 65536) where
    -- its least item is that item
    pub new_group_least : least_of (cell (new_group t area n) area Column.range n) ≡ n
    unfolding least_of
    new_group_least = rw new_group-range (high_half n n small small)

    -- and so is its greatest
    pub new_group-greatest : greatest_of (cell (new_group t area n) area Column.range n) ≡ n
    unfolding greatest_of
    new_group-greatest = rw new_group-range (low_half n n small small)

-- with a new group the list of names is longer by its number
pub names_new : (t : List ℕ) (area : Area) (n : ℕ) → HasKind t area → n < area.size
    → names_in (new_group t area n) area (suc n) ≡ names_in t area n ++ n ∷ []
unfolding names_in tabulate
names_new t area n has h =
    rw (
      new_group-name t area n has h,
      tabulate_same
          n
          (name_in (new_group t area n) area)
          (name_in t area)
          (λ x l. new_group_other t area n Column.name x h (omega arith) (λ e. omega arith)),
    )

-- a new item, alone in its group, as the next of a kind
pub kind_new : {t : List ℕ} {area : Area} {n : ℕ} {groups groups' : Grouping}
    → HasKind t area
    → n < area.size
    → n < 65536
    → AgreeBelow n groups groups'
    → ((x : ℕ) → x < n → groups' n x ≡ false)
    → Equivalent groups'
    → KindValid t area n groups
    → KindValid (new_group t area n) area (suc n) groups'
kind_new {t} {area} {n} {groups} {groups'} has h small agree alone e k =
    record {
      named = rw (names_new t area n has h) (naming_new_item n groups groups' (names_in t area n) k.named agree alone e);
      sized = λ x l. sized x (below_or_last n x l);
      from_least = λ x l. least x (below_or_last n x l);
      to_greatest = λ x l. greatest x (below_or_last n x l);
      range_known = λ x l. known x (below_or_last n x l);
    }
  where
    t' : List ℕ
    t' = new_group t area n

    old : (c x : ℕ) → x < n → cell t' area c x ≡ cell t area c x
    old c x l = new_group_other t area n c x h (omega arith) (λ q. omega arith)

    old_at : (c x : ℕ) → x < n → cell t' area c (name_in t' area x) ≡ cell t area c (name_in t area x)
    old_at c x l = ap (cell t' area c) (old Column.name x l) ∙ old c (name_in t area x) (name_known k x l)

    new_at : (c : ℕ) → cell t' area c (name_in t' area n) ≡ cell t' area c n
    new_at c = ap (cell t' area c) (new_group-name t area n has h)

    sized : (x : ℕ) → (x < n) ⊎ (x ≡ n) → size_in t' area (name_in t' area x) ≡ size (suc n) groups' x
    sized x (inl l) =
        old_at Column.size x l
        ∙ k.sized x l
        ∙ size_agree n groups groups' x (λ y m. agree x y l m)
        ∙ sym (size_others n groups' x (group_swap groups' e x n ∙ alone x l))
    sized x (inr q) =
        rw q (new_at Column.size ∙ new_group-size t area n has h ∙ sym (size-alone n groups' e alone))

    least : (x : ℕ) → (x < n) ⊎ (x ≡ n) → least_of (range_in t' area (name_in t' area x)) ≤ x
    least x (inl l) = rw (old_at Column.range x l) (k.from_least x l)
    least x (inr q) = rw (q, new_at Column.range, new_group_least t area n has h small) (le_refl n)

    greatest : (x : ℕ) → (x < n) ⊎ (x ≡ n) → x ≤ greatest_of (range_in t' area (name_in t' area x))
    greatest x (inl l) = rw (old_at Column.range x l) (k.to_greatest x l)
    greatest x (inr q) = rw (q, new_at Column.range, new_group-greatest t area n has h small) (le_refl n)

    known : (x : ℕ) → (x < n) ⊎ (x ≡ n) → greatest_of (range_in t' area (name_in t' area x)) < suc n
    known x (inl l) = rw (old_at Column.range x l) (omega (arith, k.range_known x l))
    known x (inr q) = rw (q, new_at Column.range, new_group-greatest t area n has h small) (le_refl (suc n))

-- a column that counts goes on doing so with a new item, alone in its group, that fails the test and has 0 there
pub counts_new : {t t' : List ℕ} {area : Area} {n c : ℕ} {groups groups' : Grouping} {test test' : ℕ → Bool} → KindValid t area n groups
    → ((x : ℕ) → x < n → name_in t' area x ≡ name_in t area x)
    → ((x : ℕ) → x < n → cell t' area c x ≡ cell t area c x)
    → name_in t' area n ≡ n
    → cell t' area c n ≡ 0
    → AgreeBelow n groups groups'
    → ((x : ℕ) → x < n → groups' n x ≡ false)
    → Agree n test test'
    → test' n ≡ false
    → Counts t area n groups c test
    → Counts t' area (suc n) groups' c test'
counts_new {t} {t'} {area} {n} {c} {groups} {groups'} {test} {test'} k names f named none agree alone same fails q =
    record { added_up = q.added_up; of_kind = q.of_kind; counted = λ x h. go x (below_or_last n x h) }
  where
    go : (x : ℕ) → (x < n) ⊎ (x ≡ n) → cell t' area c (name_in t' area x) ≡ passing (suc n) groups' test' x
    go x (inl l) =
        ap (cell t' area c) (names x l)
        ∙ f (name_in t area x) (name_known k x l)
        ∙ q.counted x l
        ∙ count_same n _ _ (λ y j. ap₂ ◌&&◌ (agree x y l j) (same y j))
        ∙ sym (count_last_out n _ (rw fails (and-false (groups' x n))))
    go x (inr e) =
        rw e
        (ap (cell t' area c) named
        ∙ none
        ∙ sym (count_none (suc n) _ (λ y j. apart y (below_or_last n y j))))
      where
        apart : (y : ℕ) → (y < n) ⊎ (y ≡ n) → (groups' n y && test' y) ≡ false
        apart y (inl l) = rw (alone y l)
        apart y (inr d) = rw (d, fails) (and-false (groups' n n))
