-- What giving leaves in the table: in each column that is given, the winner has what it and the other group had, and that group has 0.
use Rattle.std.proofs.Common.{◌≡◌, ℕ, zero, suc, ◌+◌, ◌%◌, ◌^◌, ◌<◌, ◌≤◌, true, false, eqb, ◌⊎◌, List, refl, ◌∙◌, subst, ap₂, inl, inr, arith}
use Rattle.graph.proofs.Truth.{true_or_false, eqb_eq, eqb_ne}
use Rattle.table.specs.declared.words.Area.{Area}
use Rattle.table.specs.Inside.Layout.{cell, put}
use Rattle.table.specs.Inside.Merge.{given_in, given_from}
use Rattle.table.proofs.Cells.{HasColumns, length-put, cell-put-same, cell_put_other_column, cell_put_other_item, cell_put_elsewhere}
use Rattle.table.proofs.MergeKept.{Kept, kept_refl, kept_trans, kept_put}

-- Table t' is table t with what the group named `name` has in k columns, from column c on, given to the winner w.
pub record Given (area : Area) (w name : ℕ) (t : List ℕ) (c k : ℕ) (t' : List ℕ) : Type 0 where
  pub kept : Kept area t t'
  pub earlier : (d x : ℕ) → d < c → x < area.size → cell t' area d x ≡ cell t area d x
  pub winner : (d : ℕ) → c ≤ d → d < c + k → cell t' area d w ≡ (cell t area d w + cell t area d name) % 2 ^ 32
  pub loser : (d : ℕ) → c ≤ d → d < c + k → cell t' area d name ≡ 0
  pub others : (d x : ℕ) → x < area.size → (w ≡ x → ⊥) → (name ≡ x → ⊥) → cell t' area d x ≡ cell t area d x

module _ (area : Area) (w name : ℕ) (wide : w < area.size) (wide' : name < area.size) (differ : name ≡ w → ⊥) where
  -- one column
  module _ (t : List ℕ) (has : HasColumns t area area.columns) (c : ℕ) (known : c < area.columns) where
    abbrev sum : ℕ
    sum = (cell t area c w + cell t area c name) % 2 ^ 32

    abbrev stored : List ℕ
    stored = put t area c w sum

    abbrev one : List ℕ
    one = given_in t area c w name

    one_kept : Kept area t one
    unfolding given_in
    one_kept = kept_trans (kept_put area t c w _ known wide) (kept_put area _ c name 0 known wide')

    one_winner : cell one area c w ≡ sum
    unfolding given_in
    one_winner = cell_put_other_item stored area c name 0 w differ ∙ cell-put-same t area area.columns c w sum has known wide

    one_loser : cell one area c name ≡ 0
    unfolding given_in
    one_loser = cell-put-same stored area area.columns c name 0 (rw (length-put t area c w sum) has) known wide'

    one_column : (d x : ℕ) → x < area.size → (c ≡ d → ⊥) → cell one area d x ≡ cell t area d x
    unfolding given_in
    one_column d x h e = cell_put_other_column stored area c name 0 d x wide' h e ∙ cell_put_other_column t area c w sum d x wide h e

    one_others : (d x : ℕ) → x < area.size → (w ≡ x → ⊥) → (name ≡ x → ⊥) → cell one area d x ≡ cell t area d x
    unfolding given_in
    one_others d x h e f = cell_put_elsewhere stored area c name 0 d x wide' h f ∙ cell_put_elsewhere t area c w sum d x wide h e

  -- k columns, one after another
  pub given_from_lem : (k c : ℕ) (t : List ℕ) → HasColumns t area area.columns → c + k ≤ area.columns
      → Given area w name t c k (given_from t area w name c k)
  unfolding given_from
  given_from_lem zero c t has h =
      record {
        kept = kept_refl area t;
        earlier = λ d x l i. refl;
        winner = λ d l i. absurd (omega arith);
        loser = λ d l i. absurd (omega arith);
        others = λ d x i e f. refl;
      }
  given_from_lem (suc k) c t has h =
      go (given_from_lem k (suc c) t₁ (rw (one_kept t has c here).same_length has) (omega arith))
    where
      here : c < area.columns
      here = omega arith

      t₁ : List ℕ
      t₁ = given_in t area c w name

      column : (d x : ℕ) → x < area.size → (c ≡ d → ⊥) → cell t₁ area d x ≡ cell t area d x
      column = one_column t has c here

      go : Given area w name t₁ (suc c) k (given_from t₁ area w name (suc c) k)
          → Given area w name t c (suc k) (given_from t₁ area w name (suc c) k)
      go r =
          record {
            kept = kept_trans (one_kept t has c here) r.kept;
            earlier = λ d x l i. r.earlier d x (omega arith) i ∙ column d x i (λ q. omega arith);
            winner = λ d l i. won d l i (true_or_false (eqb c d));
            loser = λ d l i. lost d l i (true_or_false (eqb c d));
            others = λ d x i e f. r.others d x i e f ∙ one_others t has c here d x i e f;
          }
        where
          t₂ : List ℕ
          t₂ = given_from t₁ area w name (suc c) k

          won : (d : ℕ) → c ≤ d → d < c + suc k → (eqb c d ≡ true) ⊎ (eqb c d ≡ false)
              → cell t₂ area d w ≡ (cell t area d w + cell t area d name) % 2 ^ 32
          won d l i (inl e) =
              subst (λ d. cell t₂ area d w ≡ (cell t area d w + cell t area d name) % 2 ^ 32) (eqb_eq c d e)
              (r.earlier c w (omega arith) wide ∙ one_winner t has c here)
          won d l i (inr e) =
              r.winner d (omega (arith, eqb_ne c d e)) (omega arith)
              ∙ ap₂ (λ i j. (i + j) % 2 ^ 32) (column d w wide (eqb_ne c d e)) (column d name wide' (eqb_ne c d e))

          lost : (d : ℕ) → c ≤ d → d < c + suc k → (eqb c d ≡ true) ⊎ (eqb c d ≡ false) → cell t₂ area d name ≡ 0
          lost d l i (inl e) =
              subst (λ d. cell t₂ area d name ≡ 0) (eqb_eq c d e) (r.earlier c name (omega arith) wide' ∙ one_loser t has c here)
          lost d l i (inr e) = r.loser d (omega (arith, eqb_ne c d e)) (omega arith)
