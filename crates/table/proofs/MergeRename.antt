-- The pass over the items: those whose group has size 0 take the winner's name and are written down, rising.
use Rattle.std.proofs.Common.{◌≡◌, ℕ, zero, suc, ◌+◌, ◌-◌, ◌<◌, ◌≤◌, Bool, true, false, cond, ◌&&◌, eqb, ltb, ◌⊎◌, List, [], ◌∷◌, ◌++◌, sym, refl, ap, ◌∙◌, subst, ap₂, inl, inr, add-zero, add-suc, suc-add, arith}
use mathlib.Core.Bool.{and-false}
use Rattle.graph.specs.Below.{listed, tabulate}
use Rattle.graph.proofs.Truth.{true_or_false, false_of_not, bool_ext, ltb_lt, lt-ltb, ltb_ge, ge_ltb, eqb_eq, eqb_ne}
use Rattle.graph.proofs.Below.{listed_skip}
use Rattle.naming.proofs.Listed.{tabulate_same}
use Rattle.table.specs.declared.words.Area.{Area}
use Rattle.table.specs.declared.merge.Pass.{Pass}
use Rattle.table.specs.Inside.Column
use Rattle.table.specs.Inside.Layout.{cell, put}
use Rattle.table.specs.Inside.Merge.{name_in, size_in, range_in, rename_table, rename_count, rename_from, rename_pass}
use Rattle.table.proofs.Cells.{length-put, cell-put-same, cell_put_other_column, cell_put_other_item}
use Rattle.table.proofs.MergeSteps.{rename_end}
use Rattle.table.proofs.MergeKept.{HasKind, Kept, kept_refl, kept_trans, kept_put, kept_columns}

-- What the table is once the items below y that pass the test have the winner's name; count of them are written down.
pub record Renaming (t₁ : List ℕ) (area : Area) (n w : ℕ) (loser : ℕ → Bool) (y : ℕ) (t : List ℕ) (count : ℕ) : Type 0 where
  pub kept : Kept area t₁ t
  pub names : (x : ℕ) → x < n → name_in t area x ≡ cond (ltb x y && loser x) w (name_in t₁ area x)
  pub sums : (c x : ℕ) → Column.size ≤ c → x < area.size → cell t area c x ≡ cell t₁ area c x
  pub ranges : (x : ℕ) → x < area.size → range_in t area x ≡ range_in t₁ area x
  pub changed : tabulate count (cell t area Column.changed) ≡ listed y loser
  pub few : count ≤ y

-- a last number that passes is listed last
listed_last : (n : ℕ) (p : ℕ → Bool) → p n ≡ true → listed (suc n) p ≡ listed n p ++ n ∷ []
unfolding listed
listed_last n p e = rw e

-- the last value stands last
tabulate_last : (n : ℕ) (f : ℕ → ℕ) → tabulate (suc n) f ≡ tabulate n f ++ f n ∷ []
unfolding tabulate
tabulate_last n f = refl

-- nothing is below 0
ltb_zero : (x : ℕ) → ltb x 0 ≡ false
ltb_zero x = ge_ltb x 0 (omega arith)

-- below y + 1 and below y is the same for any other number
ltb_suc : (x y : ℕ) → (x ≡ y → ⊥) → ltb x (suc y) ≡ ltb x y
ltb_suc x y d =
    bool_ext
    (ltb x (suc y))
    (ltb x y)
    (λ e. lt-ltb x y (omega (arith, ltb_lt x (suc y) e)))
    (λ e. lt-ltb x (suc y) (omega (arith, ltb_lt x y e)))

-- Over a table t₁ in which the items that pass the test are those whose group has size 0.
module _ (t₁ : List ℕ) (area : Area) (n : ℕ) (has : HasKind t₁ area) (fits : n ≤ area.size) (w : ℕ) (loser : ℕ → Bool)
    (named : (x : ℕ) → x < n → name_in t₁ area x < n)
    (empty : (x : ℕ) → x < n → eqb (size_in t₁ area (name_in t₁ area x)) 0 ≡ loser x) where
  -- before the first item
  rename_none : Renaming t₁ area n w loser 0 t₁ 0
  unfolding listed tabulate
  rename_none =
      record {
        kept = kept_refl area t₁;
        names = λ x h. rw (ltb_zero x);
        sums = λ c x h l. refl;
        ranges = λ x h. refl;
        changed = refl;
        few = omega arith;
      }

  -- an item that does not pass is passed over
  rename_skip : (y : ℕ) (t : List ℕ) (count : ℕ) → loser y ≡ false → Renaming t₁ area n w loser y t count
      → Renaming t₁ area n w loser (suc y) t count
  rename_skip y t count e s =
      record {
        kept = s.kept;
        names = λ x h. s.names x h ∙ ap (λ (b : Bool). cond b w (name_in t₁ area x)) (same x (true_or_false (eqb x y)));
        sums = s.sums;
        ranges = s.ranges;
        changed = s.changed ∙ sym (listed_skip y loser e);
        few = omega (arith, s.few);
      }
    where
      same : (x : ℕ) → (eqb x y ≡ true) ⊎ (eqb x y ≡ false) → (ltb x y && loser x) ≡ (ltb x (suc y) && loser x)
      same x (inl d) = rw (eqb_eq x y d, e) (and-false (ltb y y) ∙ sym (and-false (ltb y (suc y))))
      same x (inr d) = ap (λ (b : Bool). b && loser x) (sym (ltb_suc x y (eqb_ne x y d)))

  -- an item that passes takes the winner's name and is written down
  rename_take : (y : ℕ) (t : List ℕ) (count : ℕ) → y < n → loser y ≡ true → Renaming t₁ area n w loser y t count
      → Renaming t₁ area n w loser (suc y) (put (put t area Column.name y w) area Column.changed count y) (suc count)
  rename_take y t count h e s =
      record {
        kept = kept_trans s.kept (kept_trans (kept_put area t Column.name y w (omega (arith, still.has_size)) wide) (kept_put area taken Column.changed count y (omega (arith, still.has_size)) room));
        names = λ x k. names_now x k (true_or_false (eqb x y));
        sums = λ c x l k. column c x k (λ d. omega arith) (λ d. omega arith) ∙ s.sums c x l k;
        ranges = λ x k. column Column.range x k (λ d. omega arith) (λ d. omega arith) ∙ s.ranges x k;
        changed =
            tabulate_last count (cell noted area Column.changed)
            ∙ ap₂ (λ (l : List ℕ) (z : ℕ). l ++ z ∷ []) (tabulate_same count _ _ older ∙ s.changed) newest
            ∙ sym (listed_last y loser e);
        few = omega (arith, s.few);
      }
    where
      still : HasKind t area
      still = kept_columns s.kept has

      wide : y < area.size
      wide = omega arith

      room : count < area.size
      room = omega (arith, s.few)

      taken : List ℕ
      taken = put t area Column.name y w

      noted : List ℕ
      noted = put taken area Column.changed count y

      column : (c x : ℕ) → x < area.size → (Column.changed ≡ c → ⊥) → (Column.name ≡ c → ⊥) → cell noted area c x ≡ cell t area c x
      column c x k d d' = cell_put_other_column taken area Column.changed count y c x room k d ∙ cell_put_other_column t area Column.name y w c x wide k d'

      older : (i : ℕ) → i < count → cell noted area Column.changed i ≡ cell t area Column.changed i
      older i k =
          cell_put_other_item taken area Column.changed count y i (λ d. omega arith)
          ∙ cell_put_other_column t area Column.name y w Column.changed i wide (omega (arith, room)) (λ d. omega arith)

      newest : cell noted area Column.changed count ≡ y
      newest =
          cell-put-same taken area area.columns Column.changed count y (rw (length-put t area Column.name y w) still.columns) (omega (arith, still.has_size)) room

      names_now : (x : ℕ) → x < n → (eqb x y ≡ true) ⊎ (eqb x y ≡ false)
          → name_in noted area x ≡ cond (ltb x (suc y) && loser x) w (name_in t₁ area x)
      names_now x k (inl d) =
          rw
          (eqb_eq x y d, e, lt-ltb y (suc y) (omega arith))
          (cell_put_other_column taken area Column.changed count y Column.name y room wide (λ d. omega arith)
          ∙ cell-put-same t area area.columns Column.name y w still.columns (omega (arith, still.has_size)) wide)
      names_now x k (inr d) =
          rw
          (ltb_suc x y (eqb_ne x y d))
          (cell_put_other_column taken area Column.changed count y Column.name x room (omega arith) (λ d. omega arith)
          ∙ cell_put_other_item t area Column.name y w x (λ q. eqb_ne x y d (sym q))
          ∙ s.names x k)

  -- the test of an item that is not yet renamed
  tested : (y : ℕ) (t : List ℕ) (count : ℕ) → y < n → Renaming t₁ area n w loser y t count
      → eqb (size_in t area (name_in t area y)) 0 ≡ loser y
  tested y t count h s = rw (own, s.sums Column.size (name_in t₁ area y) (omega arith) (omega (arith, named y h))) (empty y h)
    where
      own : name_in t area y ≡ name_in t₁ area y
      own = rw (ge_ltb y y (omega arith)) at (s.names y h)

  rename_one : (y : ℕ) (t : List ℕ) (count : ℕ) → y < n → Renaming t₁ area n w loser y t count
      → Renaming t₁ area n w loser (suc y) (rename_table t area w y count) (rename_count t area y count)
  unfolding rename_table rename_count
  rename_one y t count h s = rw (tested y t count h s) (go (true_or_false (loser y)))
    where
      go : (loser y ≡ true) ⊎ (loser y ≡ false)
          → Renaming t₁ area n w loser (suc y) (cond (loser y) (put (put t area Column.name y w) area Column.changed count y) t) (cond (loser y) (suc count) count)
      go (inl e) = rw e (rename_take y t count h e s)
      go (inr e) = rw e (rename_skip y t count e s)

  -- k items, one after another
  rename_from_lem : (k y : ℕ) (t : List ℕ) (count : ℕ) → y + k ≤ n → Renaming t₁ area n w loser y t count
      → Renaming t₁ area n w loser (y + k) (rename_from t area w y k count).table (rename_from t area w y k count).count
  unfolding rename_from
  rename_from_lem zero y t count h s = rw (add-zero y) s
  rename_from_lem (suc k) y t count h s =
      rw (add-suc y k, ← suc-add y k)
      (rename_from_lem k (suc y) (rename_table t area w y count) (rename_count t area y count) (omega arith) (rename_one y t count (omega arith) s))

  -- k items that do not pass are passed over
  rename_skips : (k y : ℕ) (t : List ℕ) (count : ℕ) → ((x : ℕ) → y ≤ x → x < y + k → loser x ≡ false)
      → Renaming t₁ area n w loser y t count
      → Renaming t₁ area n w loser (y + k) t count
  rename_skips zero y t count f s = rw (add-zero y) s
  rename_skips (suc k) y t count f s =
      rw (add-suc y k, ← suc-add y k)
      (rename_skips k (suc y) t count (λ x h l. f x (omega arith) (omega arith)) (rename_skip y t count (f y (omega arith) (omega arith)) s))

  rename_up_to : (y z : ℕ) (t : List ℕ) (count : ℕ) → y ≤ z → ((x : ℕ) → y ≤ x → x < z → loser x ≡ false)
      → Renaming t₁ area n w loser y t count
      → Renaming t₁ area n w loser z t count
  rename_up_to y z t count h f s =
      subst
      (λ (k : ℕ). Renaming t₁ area n w loser k t count)
      whole
      (rename_skips (z - y) y t count (λ x k l. f x k (omega arith)) s)
    where
      whole : y + (z - y) ≡ z
      whole = omega arith

  -- the whole pass, which holds all items below n that pass
  pub rename_pass_lem : (p : Pass) → p.to ≤ n
      → ((x : ℕ) → x < n → loser x ≡ true → p.from ≤ x)
      → ((x : ℕ) → x < n → loser x ≡ true → x < p.to)
      → Renaming t₁ area n w loser n (rename_pass t₁ area w p).table (rename_pass t₁ area w p).count
  unfolding rename_pass
  rename_pass_lem p h low high = go (true_or_false (ltb p.from p.to))
    where
      below : (x : ℕ) → x < n → x < p.from → loser x ≡ false
      below x k l = false_of_not (loser x) (λ e. omega (arith, low x k e))

      beyond : (x : ℕ) → x < n → p.to ≤ x → loser x ≡ false
      beyond x k l = false_of_not (loser x) (λ e. omega (arith, high x k e))

      go : (ltb p.from p.to ≡ true) ⊎ (ltb p.from p.to ≡ false)
          → Renaming t₁ area n w loser n (rename_from t₁ area w p.from (p.to - p.from) 0).table
          (rename_from t₁ area w p.from (p.to - p.from) 0).count
      go (inl e) =
          let l : p.from < p.to = ltb_lt p.from p.to e in
          let start = rename_up_to 0 p.from t₁ 0 (omega arith) (λ x k m. below x (omega arith) m) rename_none in
          rename_up_to
          (p.from + (p.to - p.from))
          n
          (rename_from t₁ area w p.from (p.to - p.from) 0).table
          (rename_from t₁ area w p.from (p.to - p.from) 0).count
          (omega arith)
          (λ x k m. beyond x m (omega arith))
          (rename_from_lem (p.to - p.from) p.from t₁ 0 (omega arith) start)
      go (inr e) =
          rw
          (rename_end t₁ area w p.to p.from 0 (ltb_ge p.from p.to e))
          (rename_up_to 0 n t₁ 0 (omega arith) (λ x k m. neither x m) rename_none)
        where
          neither : (x : ℕ) → x < n → loser x ≡ false
          neither x k = false_of_not (loser x) (λ m. omega (arith, low x k m, high x k m, ltb_ge p.from p.to e))
