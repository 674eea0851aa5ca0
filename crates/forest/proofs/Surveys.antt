-- Entering a survey: the table stays valid, and what it keeps agrees with the whole list of surveys. And the length that it tells.
use Rattle.std.proofs.Common.{◌≡◌, ℕ, ◌<◌, true, false, cond, not, eqb, ltb, ◌⊎◌, List, [], ◌∷◌, ◌++◌, sym, refl, ap, ◌∙◌, inl, inr, arith}
use mathlib.Core.Option.{none, some}
use Rattle.graph.proofs.Truth.{true_or_false, eqb_eq, eqb_ne, or_neither_left, or_neither_right, or_cases, true_of_not_false, false_of_not_true, ltb_lt, ltb_ge}
use Rattle.naming.specs.Survey.{Survey, holding, replaced}
use Rattle.naming.specs.BridgeNames.{BridgesNamed}
use Rattle.naming.specs.State.{marks_after, surveys_after, after_recording}
use Rattle.naming.proofs.Surveys.{holding_behind}
use Rattle.numbers.specs.declared.Limits.{Limits}
use Rattle.table.specs.Inside.Column
use Rattle.table.specs.Inside.Layout.{edge_area}
use Rattle.table.proofs.Cells.{HasColumns}
use Rattle.numbers.specs.declared.Shape.{Shape}
use Rattle.forest.specs.Inside.Surveys.{is_surveyed, is_replaced, kept_day, survey_stored, survey_table, length_in}
use Rattle.forest.specs.Inside.Valid.{book_of, survey_kept, surveys_in, Valid}
use Rattle.forest.specs.Promise.{Holds, state_of, SurveyEntered, same_beyond_refl, length_given}
use Rattle.forest.proofs.Columns.{survey_columns}
use Rattle.forest.proofs.Beyond.{frame_beyond}
use Rattle.forest.proofs.Networks.{SameEdges}
use Rattle.forest.proofs.Frames.{Frame, frame_more}
use Rattle.forest.proofs.MarkWords.{same_marked}
use Rattle.forest.proofs.ValidFrame.{valid_kept, same_book}
use Rattle.forest.proofs.SurveyWords.{record_in, none_holds, kept_holds, frame_survey, survey_edges, kept_stored, kept_elsewhere}

-- where a table keeps of an edge what a record more leaves, and of every other edge what is kept, it agrees with that record entered
agree_records : (limits : Limits) (m : ℕ) (t t' : List ℕ) (r : Survey) → r.measured < m
    → survey_kept t' limits r.measured ≡ replaced (survey_kept t limits r.measured) r
    → ((e : ℕ) → e < m → (r.measured ≡ e → ⊥) → survey_kept t' limits e ≡ survey_kept t limits e)
    → (e : ℕ) → holding (surveys_in limits m t') e ≡ holding (surveys_in limits m t ++ r ∷ []) e
agree_records limits m t t' r known here elsewhere e =
    go (true_or_false (eqb r.measured e)) ∙ sym (holding_behind (surveys_in limits m t) r e)
  where
    this : holding (surveys_in limits m t') r.measured ≡ replaced (holding (surveys_in limits m t) r.measured) r
    this =
        kept_holds limits t' m r.measured known
        ∙ here
        ∙ ap (λ o. replaced o r) (sym (kept_holds limits t m r.measured known))

    other : (r.measured ≡ e → ⊥) → (ltb e m ≡ true) ⊎ (ltb e m ≡ false)
        → holding (surveys_in limits m t') e ≡ holding (surveys_in limits m t) e
    other d (inl l) =
        let h = ltb_lt e m l in
        kept_holds limits t' m e h ∙ elsewhere e h d ∙ sym (kept_holds limits t m e h)
    other d (inr l) =
        let h = ltb_ge e m l in
        none_holds limits t' m e h ∙ sym (none_holds limits t m e h)

    go : (eqb r.measured e ≡ true) ⊎ (eqb r.measured e ≡ false)
        → holding (surveys_in limits m t') e
        ≡ cond (eqb r.measured e) (replaced (holding (surveys_in limits m t) e) r) (holding (surveys_in limits m t) e)
    go (inl q) = rw (q, sym (eqb_eq r.measured e q)) this
    go (inr q) = rw q (other (eqb_ne r.measured e q) (true_or_false (ltb e m)))

module _ (limits : Limits) (n m : ℕ) (t : List ℕ) (valid : Valid limits n m t) (s day metres : ℕ) (known : s < m) where
  abbrev shape : Shape
  shape = record { limits = limits; vertices = n; edges = m }

  abbrev entered : Survey
  entered = record { measured = s; day = day; metres = metres }

  abbrev t' : List ℕ
  t' = survey_stored t limits s day metres

  fits : s < limits.edges
  fits = omega (arith, valid.edges_fit)

  has : HasColumns t (edge_area limits) Column.per_edge
  has = omega (arith, valid.long)

  frame : Frame limits [] survey_columns t t'
  frame = frame_survey limits t s day metres fits [] survey_columns refl

  edges : SameEdges limits m t t'
  edges = survey_edges limits t s day metres fits has m valid.edges_fit

  book : book_of limits n m t' ≡ book_of limits n m t
  book = same_book valid (frame_more frame refl refl) edges

  -- a record that is to be kept replaces what is kept
  replaces : is_replaced t limits s day ≡ true → replaced (survey_kept t limits s) entered ≡ some entered
  unfolding is_replaced survey_kept replaced
  replaces r = go (or_cases (not (is_surveyed t limits s)) (ltb (kept_day t limits s) day) r)
    where
      later : ltb (kept_day t limits s) day ≡ true → (is_surveyed t limits s ≡ true) ⊎ (is_surveyed t limits s ≡ false)
          → replaced (cond (is_surveyed t limits s) (some (record_in t limits s)) none) entered ≡ some entered
      later q (inl k) = rw (k, q)
      later q (inr k) = rw k

      go : (not (is_surveyed t limits s) ≡ true) ⊎ (ltb (kept_day t limits s) day ≡ true)
          → replaced (cond (is_surveyed t limits s) (some (record_in t limits s)) none) entered ≡ some entered
      go (inl q) = rw (false_of_not_true (is_surveyed t limits s) q)
      go (inr q) = later q (true_or_false (is_surveyed t limits s))

  -- and one that is not leaves it
  leaves : is_replaced t limits s day ≡ false → replaced (survey_kept t limits s) entered ≡ survey_kept t limits s
  unfolding is_replaced survey_kept replaced
  leaves r =
      rw (
        true_of_not_false (is_surveyed t limits s) (or_neither_left (not (is_surveyed t limits s)) (ltb (kept_day t limits s) day) r),
        or_neither_right (not (is_surveyed t limits s)) (ltb (kept_day t limits s) day) r,
      )

  -- entering the survey keeps the promise
  pub survey-entered : BridgesNamed (book_of limits n m t) → metres < 65536
      → SurveyEntered (record { limits = limits; vertices = n; edges = m }) (record { measured = s; day = day; metres = metres }) t
      (survey_table t limits s day metres)
  unfolding Holds state_of after_recording marks_after surveys_after survey_table
  survey-entered named small = go (true_or_false (is_replaced t limits s day))
    where
      go : (is_replaced t limits s day ≡ true) ⊎ (is_replaced t limits s day ≡ false)
          → SurveyEntered shape entered t (cond (is_replaced t limits s day) t' t)
      go (inl r) =
          rw r
          record {
            holds = ∣ record { valid = valid_kept valid (frame_more frame refl refl) edges; bridges_named = rw book named } ∣₁;
            agrees =
                record {
                  same_book = book;
                  same_marks = same_marked frame n valid.vertices_fit refl;
                  same_records =
                      agree_records limits m t t' entered known
                      (kept_stored limits t s day metres fits has small ∙ sym (replaces r))
                      (λ e l. kept_elsewhere limits t s day metres fits has e (omega (arith, valid.edges_fit)));
                };
            same_beyond = frame_beyond frame;
          }
      go (inr r) =
          rw r
          record {
            holds = ∣ record { valid = valid; bridges_named = named } ∣₁;
            agrees =
                record {
                  same_book = refl;
                  same_marks = λ x. refl;
                  same_records = agree_records limits m t t entered known (sym (leaves r)) (λ e l d. refl);
                };
            same_beyond = same_beyond_refl limits t;
          }

-- the length that the words of an edge tell is that of the survey that holds
pub length_is : (shape : Shape) (t : List ℕ) (s : ℕ) → s < shape.edges
    → length_in t shape.limits s ≡ length_given (holding (state_of shape t).surveys s)
unfolding state_of length_in survey_kept
length_is shape t s h = rw (kept_holds shape.limits t shape.edges s h) (go (true_or_false (is_surveyed t shape.limits s)))
  where
    go : (is_surveyed t shape.limits s ≡ true) ⊎ (is_surveyed t shape.limits s ≡ false)
        → length_in t shape.limits s ≡ length_given (survey_kept t shape.limits s)
    go (inl q) = rw q
    go (inr q) = rw q
