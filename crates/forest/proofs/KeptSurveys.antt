-- The surveys that a table keeps, where it is another table that has the same words of them.
use Rattle.std.proofs.Common.{◌≡◌, ℕ, zero, suc, ◌<◌, ◌≤◌, true, List, refl, ap, ap₂, arith}
use mathlib.Core.Option.{none}
use borrow.Author.Tests.{lt-leb}
use Rattle.numbers.specs.declared.Limits.{Limits}
use Rattle.table.specs.Inside.Column
use Rattle.table.specs.Inside.Layout.{cell, edge_area}
use Rattle.forest.specs.Inside.Surveys.{is_surveyed}
use Rattle.forest.specs.Inside.Valid.{survey_kept, listed_behind, surveys_in}
use Rattle.forest.proofs.Columns.{apart, survey_columns, apart_among}
use Rattle.forest.proofs.Frames.{Frame}

-- what is kept of an edge depends on its two words alone
pub kept_same : (limits : Limits) (t t' : List ℕ) (s : ℕ)
    → cell t' (edge_area limits) Column.duct s ≡ cell t (edge_area limits) Column.duct s
    → cell t' (edge_area limits) Column.survey s ≡ cell t (edge_area limits) Column.survey s
    → survey_kept t' limits s ≡ survey_kept t limits s
unfolding survey_kept is_surveyed
kept_same limits t t' s p q = rw (p, q)

-- nothing is kept of an edge whose duct's word has an empty upper half
pub none_kept : (limits : Limits) (t : List ℕ) (s : ℕ) → cell t (edge_area limits) Column.duct s < 65536 → survey_kept t limits s ≡ none
unfolding survey_kept is_surveyed
none_kept limits t s h = rw (lt-leb 65536 (cell t (edge_area limits) Column.duct s) h)

-- two tables that keep the same of each of the first m edges keep the same surveys
pub surveys_same : (limits : Limits) (m : ℕ) (t t' : List ℕ)
    → ((s : ℕ) → s < m → survey_kept t' limits s ≡ survey_kept t limits s)
    → surveys_in limits m t' ≡ surveys_in limits m t
unfolding surveys_in
surveys_same limits zero t t' same = refl
surveys_same limits (suc m) t t' same = ap₂ listed_behind (surveys_same limits m t t' (λ s h. same s (omega arith))) (same m (omega arith))

-- one edge more, of which nothing is kept, adds no survey
pub surveys_more : (limits : Limits) (m : ℕ) (t : List ℕ) → survey_kept t limits m ≡ none → surveys_in limits (suc m) t ≡ surveys_in limits m t
unfolding surveys_in listed_behind
surveys_more limits m t e = ap (listed_behind (surveys_in limits m t)) e

-- the surveys stay where their columns are not listed
pub same_surveys : {limits : Limits} {vs es : List ℕ} {t t' : List ℕ} → Frame limits vs es t t' → (m : ℕ) → m ≤ limits.edges
    → apart survey_columns es ≡ true
    → surveys_in limits m t' ≡ surveys_in limits m t
same_surveys {limits} {vs} {es} {t} {t'} f m h a =
    surveys_same limits m t t'
    (λ s k.
    kept_same limits t t' s
    (f.edge_word Column.duct s (omega arith) (omega arith) (apart_among survey_columns es a Column.duct refl))
    (f.edge_word Column.survey s (omega arith) (omega arith) (apart_among survey_columns es a Column.survey refl)))
