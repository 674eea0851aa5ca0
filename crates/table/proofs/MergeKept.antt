-- What stores in the columns of an area's kind of group leave alone: the table's length, the words outside, and listings outside.
use Rattle.std.proofs.Common.{◌≡◌, ℕ, ◌+◌, ◌*◌, ◌<◌, ◌≤◌, List, length, get_or, refl, ◌∙◌}
use Rattle.table.specs.declared.words.Area.{Area}
use Rattle.table.specs.declared.merge.Listing.{Listing}
use Rattle.table.specs.Inside.Column
use Rattle.table.specs.Inside.Column
use Rattle.table.specs.Inside.Layout.{place, cell, put}
use Rattle.table.specs.Inside.Merge.{item_of}
use Rattle.table.proofs.Cells.{HasColumns, length-put, get_or-put_outside}

-- The table has the columns of the area's kind of group, and sizes are among them.
pub record HasKind (t : List ℕ) (area : Area) : Type 0 where
  pub columns : HasColumns t area area.columns
  pub has_size : Column.size < area.columns

-- Place p is not in the columns of the area's kind of group.
abbrev pub Outside : Area → ℕ → Type 0
Outside area p = area.base ≤ p → p < area.base + area.columns * area.size → ⊥

-- No item of the listing stands in the columns of the area's kind of group.
abbrev pub ListedOutside : Area → Listing → Type 0
ListedOutside area l = (i : ℕ) → i < l.count → Outside area (place l.area l.column i)

-- Table t' is table t but for words in the columns of the area's kind of group.
pub record Kept (area : Area) (t t' : List ℕ) : Type 0 where
  pub same_length : length t' ≡ length t
  pub outside : (p : ℕ) → Outside area p → get_or t' p 0 ≡ get_or t p 0

-- a table is kept by no store
pub kept_refl : (area : Area) (t : List ℕ) → Kept area t t
kept_refl area t = record { same_length = refl; outside = λ p o. refl }

-- by some stores and then others
pub kept_trans : {area : Area} {t t' t'' : List ℕ} → Kept area t t' → Kept area t' t'' → Kept area t t''
kept_trans k k' =
    record { same_length = k'.same_length ∙ k.same_length; outside = λ p o. k'.outside p o ∙ k.outside p o }

-- by one store in those columns
pub kept_put : (area : Area) (t : List ℕ) (c x v : ℕ) → c < area.columns → x < area.size → Kept area t (put t area c x v)
kept_put area t c x v h l =
    record { same_length = length-put t area c x v; outside = λ p o. get_or-put_outside t area area.columns c x v p h l o }

-- the columns are still there
pub kept_columns : {area : Area} {t t' : List ℕ} → Kept area t t' → HasKind t area → HasKind t' area
kept_columns k h = record { columns = rw k.same_length h.columns; has_size = h.has_size }

-- the items of a listing outside stay
pub kept_item : {area : Area} {t t' : List ℕ} → Kept area t t' → (l : Listing) → ListedOutside area l
    → (i : ℕ) → i < l.count → item_of t' l i ≡ item_of t l i
unfolding cell
kept_item k l o i h = k.outside (place l.area l.column i) (o i h)
