-- The words of surveys: which record of an edge holds by them, and what is read once a survey is stored.
use Rattle.std.proofs.Common.{◌≡◌, ℕ, zero, suc, ◌+◌, ◌*◌, ◌/◌, ◌%◌, ◌<◌, ◌≤◌, true, false, cond, eqb, ◌⊎◌, List, [], sym, refl, ap, ◌∙◌, ap₂, inl, inr, not-suc-le-zero, arith}
use mathlib.Core.Option.{none, some}
use Rattle.graph.specs.Network.{edge_in_duct}
use Rattle.graph.proofs.Truth.{true_or_false, eqb_eq, eqb_ne, eqb_same, ne_eqb, le-leb}
use Rattle.graph.proofs.Below.{below_or_last}
use Rattle.naming.specs.Survey.{Survey, surveys_of, holding, replaced}
use Rattle.naming.proofs.Surveys.{none_holding, holding_behind}
use Rattle.numbers.specs.declared.Limits.{Limits}
use Rattle.table.specs.Inside.Column
use Rattle.table.specs.Inside.Layout.{cell, put, edge_area}
use Rattle.table.proofs.Cells.{HasColumns, length-put, cell-put-same, cell_put_other_column, cell_put_elsewhere}
use Rattle.forest.specs.Inside.Words.{duct_of}
use Rattle.forest.specs.Inside.Surveys.{is_surveyed, kept_day, kept_metres, survey_stored}
use Rattle.forest.specs.Inside.Valid.{stored_edge, survey_kept, listed_behind, surveys_in}
use Rattle.forest.proofs.Columns.{within, survey_columns, within_among}
use Rattle.forest.proofs.Networks.{SameEdges}
use Rattle.forest.proofs.Frames.{Frame, ◌then◌, frame_edge}

-- The record that the words of edge s tell.
abbrev pub record_in : List ℕ → Limits → ℕ → Survey
record_in t limits s = record { measured = s; day = kept_day t limits s; metres = kept_metres t limits s }

module _ (limits : Limits) (t : List ℕ) where
  -- an edge more leaves what holds for another edge
  holds_for_other : (m e : ℕ) → (m ≡ e → ⊥) → holding (surveys_in limits (suc m) t) e ≡ holding (surveys_in limits m t) e
  unfolding surveys_in survey_kept listed_behind
  holds_for_other m e d = go (true_or_false (is_surveyed t limits m))
    where
      go : (is_surveyed t limits m ≡ true) ⊎ (is_surveyed t limits m ≡ false)
          → holding (listed_behind (surveys_in limits m t) (cond (is_surveyed t limits m) (some (record_in t limits m)) none)) e
          ≡ holding (surveys_in limits m t) e
      go (inl q) =
          rw q
          (holding_behind (surveys_in limits m t) (record_in t limits m) e
          ∙ ap (λ b. cond b (replaced (holding (surveys_in limits m t) e) (record_in t limits m)) (holding (surveys_in limits m t) e))
          (ne_eqb m e d))
      go (inr q) = rw q

  -- and for itself its kept record holds
  holds_for_last : (m : ℕ) → holding (surveys_in limits m t) m ≡ none → holding (surveys_in limits (suc m) t) m ≡ survey_kept t limits m
  unfolding surveys_in survey_kept listed_behind replaced
  holds_for_last m e = go (true_or_false (is_surveyed t limits m))
    where
      go : (is_surveyed t limits m ≡ true) ⊎ (is_surveyed t limits m ≡ false)
          → holding (listed_behind (surveys_in limits m t) (cond (is_surveyed t limits m) (some (record_in t limits m)) none)) m
          ≡ cond (is_surveyed t limits m) (some (record_in t limits m)) none
      go (inl q) = rw (q, holding_behind (surveys_in limits m t) (record_in t limits m) m, eqb_same m, e)
      go (inr q) = rw q e

  -- for an edge that is not among the first m no record holds
  pub none_holds : (m e : ℕ) → m ≤ e → holding (surveys_in limits m t) e ≡ none
  unfolding surveys_in surveys_of
  none_holds zero e h = none_holding [] e refl
  none_holds (suc m) e h = holds_for_other m e (λ q. omega arith) ∙ none_holds m e (omega arith)

  -- for one of them the record holds that is kept of it
  pub kept_holds : (m e : ℕ) → e < m → holding (surveys_in limits m t) e ≡ survey_kept t limits e
  kept_holds zero e h = absurd (not-suc-le-zero h)
  kept_holds (suc m) e h = go (kept_holds m e) (below_or_last m e h)
    where
      go : (e < m → holding (surveys_in limits m t) e ≡ survey_kept t limits e) → (e < m) ⊎ (e ≡ m)
          → holding (surveys_in limits (suc m) t) e ≡ survey_kept t limits e
      go ih (inl l) = holds_for_other m e (λ q. omega arith) ∙ ih l
      go ih (inr q) = rw q (holds_for_last m (none_holds m m (omega arith)))

module _ (limits : Limits) (t : List ℕ) (s day metres : ℕ) (h : s < limits.edges) where
  abbrev t₁ : List ℕ
  t₁ = put t (edge_area limits) Column.survey s (day * 65536 + metres)

  abbrev t' : List ℕ
  t' = survey_stored t limits s day metres

  -- the two tables differ in the columns of surveys alone
  pub frame_survey : (vs es : List ℕ) → within survey_columns es ≡ true → Frame limits vs es t (survey_stored t limits s day metres)
  unfolding survey_stored
  frame_survey vs es m =
      frame_edge limits vs es t Column.survey s _ (omega arith) h (within_among survey_columns es m Column.survey refl)
      then frame_edge limits vs es _ Column.duct s _ (omega arith) h (within_among survey_columns es m Column.duct refl)

  -- all words of other edges stay
  pub survey_elsewhere : (d e : ℕ) → e < limits.edges → (s ≡ e → ⊥)
      → cell (survey_stored t limits s day metres) (edge_area limits) d e ≡ cell t (edge_area limits) d e
  unfolding survey_stored
  survey_elsewhere d e l n =
      cell_put_elsewhere t₁ (edge_area limits) Column.duct s _ d e h l n
      ∙ cell_put_elsewhere t (edge_area limits) Column.survey s _ d e h l n

  module _ (has : HasColumns t (edge_area limits) Column.per_edge) where
    -- what is stored is read
    pub stored_duct : cell (survey_stored t limits s day metres) (edge_area limits) Column.duct s ≡ 65536 + duct_of t limits s
    unfolding survey_stored
    stored_duct =
        cell-put-same t₁ (edge_area limits) Column.per_edge Column.duct s _
        (rw (length-put t (edge_area limits) Column.survey s (day * 65536 + metres)) has)
        (omega arith)
        h

    pub stored_survey : cell (survey_stored t limits s day metres) (edge_area limits) Column.survey s ≡ day * 65536 + metres
    unfolding survey_stored
    stored_survey =
        cell_put_other_column t₁ (edge_area limits) Column.duct s _ Column.survey s h h (λ e. omega arith)
        ∙ cell-put-same t (edge_area limits) Column.per_edge Column.survey s _ has (omega arith) h

    -- every edge keeps its duct
    pub same_duct_lem : (e : ℕ) → e < limits.edges → duct_of (survey_stored t limits s day metres) limits e ≡ duct_of t limits e
    same_duct_lem e l = go (true_or_false (eqb s e))
      where
        this : duct_of t' limits s ≡ duct_of t limits s
        this = omega (arith, stored_duct)

        go : (eqb s e ≡ true) ⊎ (eqb s e ≡ false) → duct_of t' limits e ≡ duct_of t limits e
        go (inl q) = rw (sym (eqb_eq s e q)) this
        go (inr q) = ap (λ (w : ℕ). w % 65536) (survey_elsewhere Column.duct e l (eqb_ne s e q))

    -- so it stays as it was
    pub survey_edges : (m : ℕ) → m ≤ limits.edges → SameEdges limits m t (survey_stored t limits s day metres)
    unfolding stored_edge
    survey_edges m k e l =
        ap₂ (λ (w d : ℕ). edge_in_duct (w / 65536) (w % 65536) d)
        ((frame_survey [] survey_columns refl).edge_word Column.ends e (omega arith) (omega arith) refl)
        (same_duct_lem e (omega arith))

    -- the record that is kept is the one that was stored
    pub kept_stored : metres < 65536
        → survey_kept (survey_stored t limits s day metres) limits s ≡ some (record { measured = s; day = day; metres = metres })
    unfolding survey_kept is_surveyed
    kept_stored small =
        rw (le-leb 65536 (cell t' (edge_area limits) Column.duct s) (omega (arith, stored_duct)), stored_survey)
        (ap₂ (λ (d l : ℕ). some (record { measured = s; day = d; metres = l })) (omega arith) (omega arith))

    -- and of every other edge the same is kept as before
    pub kept_elsewhere : (e : ℕ) → e < limits.edges → (s ≡ e → ⊥)
        → survey_kept (survey_stored t limits s day metres) limits e ≡ survey_kept t limits e
    unfolding survey_kept is_surveyed
    kept_elsewhere e l n = rw (survey_elsewhere Column.duct e l n, survey_elsewhere Column.survey e l n)
