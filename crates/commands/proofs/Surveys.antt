-- The surveys of a run are those that its 0D commands enter, and the order of the 0D commands is of no account where the days of a span's
-- records differ. What refuses 0D and 0E, and that the metres which are told fit two bytes.
use mathlib.Core.Bool.{Bool, true, false, not, cond, ◌&&◌}
use mathlib.Core.List.Permᴰ
use mathlib.Core.List.{List, [], ◌∷◌, ◌++◌, map, append_assoc, append-nil}
use mathlib.Core.Logic.{◌⊎◌, inl, inr}
use mathlib.Core.Option.{Option, none, some}
use mathlib.Core.Path.{◌≡◌, refl, sym, ◌∙◌, ap, subst}
use Prim.Native.Nat.{ℕ}
use lib.Dec.{eqb, ltb}
use Rattle.graph.specs.Lists.{all_in}
use Rattle.graph.specs.Network.{Rule, edge_count}
use Rattle.graph.specs.Route.{Choice}
use Rattle.graph.proofs.Truth.{true_or_false, not_both}
use Rattle.naming.specs.Survey.{Survey, surveys_of, first_latest, holding, replaced, kept_of, days_differ}
use Rattle.naming.specs.Book.{Book, neither, feed}
use Rattle.naming.specs.State.{State, Agree, empty_state, after_addition, Recording, records_nothing, records_mark, records_survey, marks_after, surveys_after, after_recording}
use Rattle.naming.proofs.Surveys.{kept_is_holding, holding_behind}
use Rattle.naming.proofs.SurveyOrder.{arranged_for_edge, own_days_differ}
use Rattle.commands.specs.Command.{Command, add_cabinet, add_span, record_length, span_length, command_byte}
use Rattle.commands.specs.Answer.{plain}
use Rattle.commands.specs.Facts.{facts, asks, operands_of, demands_of, addition_of, addition, recording, after, state_after, length_answer, answer_to, answer}
use Rattle.commands.specs.Refusal.{unknown_cabinet, unknown_span, equal_cabinets, full, two_districts, already_exchange, no_duct, no_shared_ring, first_that_applies, Capacities, cabinet_known, span_known, cabinets_known, spans_known, meets, full_for, is_full, lines, refusal_of}
use Rattle.commands.specs.Text.{text_of}
use Rattle.commands.specs.Run.{Run, run_text}
use Rattle.commands.specs.Surveys.{number_in, operand_in, survey_of, surveys_entered, without_surveys, Rearranged}
use Rattle.commands.proofs.Cases.{impossible}
use Rattle.commands.proofs.Agree.{agree_text}
use Rattle.commands.proofs.Behind.{behind, journal_behind}
use Rattle.commands.proofs.Bytes.{Small, FieldsFit}
use Rattle.commands.proofs.Recorded.{Records, records}

-- what a command records: a survey if it is 0D, which then adds nothing, and the metres are among its numbers; and else none
abbrev RecordsSurvey : Command → Recording → Type 0
RecordsSurvey c records_nothing = eqb (command_byte c) 0x0D ≡ false
RecordsSurvey c (records_mark x) = eqb (command_byte c) 0x0D ≡ false
RecordsSurvey c (records_survey r) = (eqb (command_byte c) 0x0D ≡ true) × (r ≡ survey_of c) × (addition c ≡ neither)
    × (FieldsFit (operands_of (facts c)) → Small r.metres)

records_survey_lem : (c : Command) → RecordsSurvey c (recording c)
unfolding facts asks addition addition_of operands_of command_byte survey_of operand_in number_in
records_survey_lem c = go (recording c) (records c)
  where
    go : (r : Recording) → Records c r → RecordsSurvey c r
    go records_nothing other = other.1
    go (records_mark x) is = ap (λ d. eqb (command_byte d) 0x0D) is
    go (records_survey r) is = subst (λ d. RecordsSurvey d (records_survey r)) (sym is) (refl, refl, refl, λ fit. fit.1.1.0)

-- 0D and 0E are refused for a span that is not known, and for nothing else: only room is left to refuse them
pub only_unknown_spans : (caps : Capacities) (s : State) (x day metres : ℕ)
    → let known = ltb x (edge_count s.book.network) in
    (refusal_of caps s (record_length x day metres) ≡ cond known none (some unknown_span))
    × (refusal_of caps s (span_length x) ≡ cond known none (some unknown_span))
unfolding facts asks operands_of demands_of addition_of addition all_in cabinet_known span_known cabinets_known spans_known meets full_for is_full lines first_that_applies refusal_of
only_unknown_spans caps s x day metres = (go (ltb x (edge_count s.book.network)), go (ltb x (edge_count s.book.network)))
  where
    go : (known : Bool)
        → first_that_applies
        (record { applies = false; refusal = unknown_cabinet }
        ∷ record { applies = not (known && true); refusal = unknown_span }
        ∷ record { applies = false; refusal = equal_cabinets }
        ∷ record { applies = false; refusal = already_exchange }
        ∷ record { applies = false; refusal = no_duct }
        ∷ record { applies = false; refusal = full }
        ∷ record { applies = false; refusal = two_districts }
        ∷ record { applies = false; refusal = no_shared_ring }
        ∷ [])
        ≡ cond known none (some unknown_span)
    go true = refl
    go false = refl

-- the surveys after what a command records: its own behind the others, if it is 0D
survey_recorded : (surveys : List Survey) (c : Command)
    → surveys_after surveys (recording c) ≡ surveys ++ cond (eqb (command_byte c) 0x0D) (survey_of c ∷ []) []
survey_recorded surveys c = go (recording c) (records_survey_lem c)
  where
    go : (r : Recording) → RecordsSurvey c r → surveys_after surveys r ≡ surveys ++ cond (eqb (command_byte c) 0x0D) (survey_of c ∷ []) []
    go records_nothing other = unfold surveys_after in rw (other, append-nil surveys)
    go (records_mark x) other = unfold surveys_after in rw (other, append-nil surveys)
    go (records_survey r) is = unfold surveys_after in rw (is.0, is.1)

-- the surveys of the state after commands are those before them, and behind these what the 0D commands enter
pub surveys_entered_lem : (s : State) (cs : List Command) → (state_after s cs).surveys ≡ s.surveys ++ surveys_entered cs
unfolding state_after surveys_entered after after_addition after_recording
surveys_entered_lem s [] = sym (append-nil s.surveys)
surveys_entered_lem s (c ∷ later) =
    surveys_entered_lem (after s c) later
    ∙ ap (λ surveys. surveys ++ surveys_entered later) (survey_recorded s.surveys c)
    ∙ append_assoc s.surveys (cond (eqb (command_byte c) 0x0D) (survey_of c ∷ []) []) (surveys_entered later)
    ∙ ap (λ surveys. s.surveys ++ surveys) (go (eqb (command_byte c) 0x0D))
  where
    go : (is : Bool) → cond is (survey_of c ∷ []) [] ++ surveys_entered later ≡ cond is (survey_of c ∷ surveys_entered later) (surveys_entered later)
    go true = refl
    go false = refl

-- After the commands of a run the record that is kept of a span, one taking another's place only if its day is later, is the one that the
-- whole list of records gives.
pub kept_in_run : (rule : Rule) (commands : List Command) (x : ℕ)
    → kept_of x (surveys_entered commands) ≡ holding (state_after (empty_state rule) commands).surveys x
unfolding empty_state
kept_in_run rule commands x =
    kept_is_holding x (surveys_entered commands) ∙ ap (λ records. holding records x) (sym (surveys_entered_lem (empty_state rule) commands))

-- A 0D leaves the book and the marks as they were.
survey_leaves_book : (s : State) (c : Command) → eqb (command_byte c) 0x0D ≡ true → ((after s c).book ≡ s.book) × ((after s c).marked ≡ s.marked)
unfolding after after_addition after_recording
survey_leaves_book s c is = go (recording c) (records_survey_lem c)
  where
    go : (r : Recording) → RecordsSurvey c r → (feed s.book (addition c) ≡ s.book) × (marks_after s.marked r ≡ s.marked)
    go records_nothing other = absurd (not_both is other)
    go (records_mark x) other = absurd (not_both is other)
    go (records_survey r) own = unfold marks_after feed in (rw own.2, refl)

-- The book and the marks of one state are those of another.
record SameButSurveys (s s' : State) : Type 0 where
  same_book : s.book ≡ s'.book
  same_marks : s.marked ≡ s'.marked

-- so they are after a command
same_after : {s s' : State} → SameButSurveys s s' → (c : Command) → SameButSurveys (after s c) (after s' c)
unfolding after after_addition after_recording
same_after a c =
    record {
      same_book = ap (λ b. feed b (addition c)) a.same_book;
      same_marks = ap (λ marked. marks_after marked (recording c)) a.same_marks;
    }

-- the book and the marks after commands are those after the ones that are not 0D
others_decide : (s s' : State) → SameButSurveys s s' → (cs : List Command) → SameButSurveys (state_after s cs) (state_after s' (without_surveys cs))
unfolding state_after without_surveys
others_decide s s' a [] = a
others_decide s s' a (c ∷ later) = go (λ t t' b. others_decide t t' b later) (true_or_false (eqb (command_byte c) 0x0D))
  where
    go : ((t t' : State) → SameButSurveys t t' → SameButSurveys (state_after t later) (state_after t' (without_surveys later)))
        → (eqb (command_byte c) 0x0D ≡ true) ⊎ (eqb (command_byte c) 0x0D ≡ false)
        → SameButSurveys
        (state_after (after s c) later)
        (state_after s' (cond (eqb (command_byte c) 0x0D) (without_surveys later) (c ∷ without_surveys later)))
    go rest (inl e) =
        rw e
        (rest (after s c) s'
        (record {
          same_book = (survey_leaves_book s c e).0 ∙ a.same_book;
          same_marks = (survey_leaves_book s c e).1 ∙ a.same_marks;
        }))
    go rest (inr e) = rw e (rest (after s c) (after s' c) (same_after a c))

-- The book and the marks after commands that differ only in the order of the 0D commands are the same.
rearranged_same : (rule : Rule) (cs cs' : List Command) → Rearranged cs cs'
    → SameButSurveys (state_after (empty_state rule) cs) (state_after (empty_state rule) cs')
rearranged_same rule cs cs' r =
    let own = others_decide (empty_state rule) (empty_state rule) same cs in
    let its = others_decide (empty_state rule) (empty_state rule) same cs' in
    record {
      same_book = own.same_book ∙ ap (λ l. (state_after (empty_state rule) l).book) r.same_others ∙ sym its.same_book;
      same_marks = own.same_marks ∙ ap (λ l. (state_after (empty_state rule) l).marked) r.same_others ∙ sym its.same_marks;
    }
  where
    same : SameButSurveys (empty_state rule) (empty_state rule)
    same = record { same_book = refl; same_marks = refl }

-- For a span whose days differ the same record holds after them.
rearranged_holding : (rule : Rule) (cs cs' : List Command) → Rearranged cs cs' → (x : ℕ) → days_differ (surveys_of x (surveys_entered cs)) ≡ true
    → holding (state_after (empty_state rule) cs).surveys x ≡ holding (state_after (empty_state rule) cs').surveys x
unfolding empty_state
rearranged_holding rule cs cs' r x differ =
    ap (λ records. holding records x) (surveys_entered_lem (empty_state rule) cs)
    ∙ arranged_for_edge (surveys_entered cs) (surveys_entered cs') r.same_surveys x differ
    ∙ ap (λ records. holding records x) (sym (surveys_entered_lem (empty_state rule) cs'))

-- So 0E of that span is refused and answered alike behind them.
pub rearranged_length : (rule : Rule) (choice : Choice) (caps : Capacities) (cs cs' : List Command) → Rearranged cs cs'
    → (x : ℕ) → days_differ (surveys_of x (surveys_entered cs)) ≡ true
    → let s = state_after (empty_state rule) cs in
    let s' = state_after (empty_state rule) cs' in
    (refusal_of caps s (span_length x) ≡ refusal_of caps s' (span_length x)) × (answer choice s (span_length x) ≡ answer choice s' (span_length x))
unfolding facts asks answer answer_to
rearranged_length rule choice caps cs cs' r x differ =
    let s = state_after (empty_state rule) cs in
    let s' = state_after (empty_state rule) cs' in (
      (only_unknown_spans caps s x 0 0).1
          ∙ ap (λ (b : Book). cond (ltb x (edge_count b.network)) none (some unknown_span)) (rearranged_same rule cs cs' r).same_book
          ∙ sym (only_unknown_spans caps s' x 0 0).1,
      ap (λ o. plain (length_answer o)) (rearranged_holding rule cs cs' r x differ),
    )

-- Where the days of each span's records differ, the states after them agree.
pub rearranged_agree : (rule : Rule) (cs cs' : List Command) → Rearranged cs cs' → days_differ (surveys_entered cs) ≡ true
    → Agree (state_after (empty_state rule) cs) (state_after (empty_state rule) cs')
rearranged_agree rule cs cs' r differ =
    let same = rearranged_same rule cs cs' r in
    record {
      same_book = same.same_book;
      same_marks = λ x. ap (λ marked. marked x) same.same_marks;
      same_records = λ x. rearranged_holding rule cs cs' r x (own_days_differ x (surveys_entered cs) differ);
    }

-- Two journals that are accepted, and differ only in the order of their 0D commands, of which each span's are of different days: whatever
-- bytes stand behind them, 0E among them, are run and answered alike, with room for all answers.
pub rearranged_journals : (rule : Rule) (choice : Choice) (caps : Capacities) (journal journal' more : List ℕ)
    → (run_text choice caps (empty_state rule) (text_of journal)).refusal ≡ none
    → (run_text choice caps (empty_state rule) (text_of journal')).refusal ≡ none
    → Rearranged (map (λ r. r.command) (text_of journal).commands) (map (λ r. r.command) (text_of journal').commands)
    → days_differ (surveys_entered (map (λ r. r.command) (text_of journal).commands)) ≡ true
    → (rest : Run)
    × (run_text choice caps (empty_state rule) (text_of (journal ++ more)) ≡ behind (run_text choice caps (empty_state rule) (text_of journal)).accepted rest)
    × (run_text choice caps (empty_state rule) (text_of (journal' ++ more)) ≡ behind (run_text choice caps (empty_state rule) (text_of journal')).accepted rest)
rearranged_journals rule choice caps journal journal' more accepted accepted' r differ =
    let s = empty_state rule in
    let cs = map (λ r. r.command) (text_of journal).commands in
    let cs' = map (λ r. r.command) (text_of journal').commands in
    let alike = agree_text choice caps (rearranged_agree rule cs cs' r differ) (text_of more) in (
      run_text choice caps (state_after s cs) (text_of more),
      journal_behind choice caps s journal more accepted,
      journal_behind choice caps s journal' more accepted'
          ∙ ap (behind (run_text choice caps s (text_of journal')).accepted) (sym alike),
    )

-- Commands that are so, with records of two spans and one day, which move past 0E, past 02 and past each other.
pub rearranged_shown : Rearranged
    (add_cabinet ∷ add_cabinet ∷ add_span 0 1 ∷ record_length 0 5 7 ∷ span_length 0 ∷ add_span 0 1 ∷ record_length 1 5 8 ∷ [])
    (add_cabinet ∷ add_cabinet ∷ add_span 0 1 ∷ span_length 0 ∷ add_span 0 1 ∷ record_length 1 5 8 ∷ record_length 0 5 7 ∷ [])
unfolding without_surveys surveys_entered survey_of operand_in number_in command_byte facts asks operands_of
rearranged_shown = record { same_others = refl; same_surveys = ∣ Permᴰ.swap refl refl ∣₁ }

-- the metres of whatever record holds fit into two bytes
abbrev pub MetresFit : List Survey → Type 0
MetresFit records = (e : ℕ) (r : Survey) → holding records e ≡ some r → Small r.metres

-- so it is with a record more whose metres do
one_more_fits : (records : List Survey) (q : Survey) → MetresFit records → Small q.metres → MetresFit (records ++ q ∷ [])
unfolding replaced
one_more_fits records q fit small e r is = go (true_or_false (eqb q.measured e)) (holding records e) refl (sym (holding_behind records q e) ∙ is)
  where
    one_of_two : (k : Survey) → Small k.metres → (b : Bool) → some (cond b q k) ≡ some r → Small r.metres
    one_of_two k old true h = let same : q ≡ r = cc in subst (λ x. Small x.metres) same small
    one_of_two k old false h = let same : k ≡ r = cc in subst (λ x. Small x.metres) same old

    replacing : (o : Option Survey) → holding records e ≡ o → replaced o q ≡ some r → Small r.metres
    replacing none held h = let same : q ≡ r = cc in subst (λ x. Small x.metres) same small
    replacing (some k) held h = one_of_two k (fit e k held) (ltb k.day q.day) h

    go : (eqb q.measured e ≡ true) ⊎ (eqb q.measured e ≡ false) → (o : Option Survey) → holding records e ≡ o
        → cond (eqb q.measured e) (replaced (holding records e) q) (holding records e) ≡ some r
        → Small r.metres
    go (inl own) o held h = replacing (holding records e) refl (rw own at h)
    go (inr other) o held h = fit e r (rw other at h)

-- and after a command whose numbers do
pub metres_fit_after : (s : State) (c : Command) → MetresFit s.surveys → FieldsFit (operands_of (facts c)) → MetresFit (after s c).surveys
unfolding after after_addition after_recording
metres_fit_after s c fit read = go (recording c) (records_survey_lem c)
  where
    go : (r : Recording) → RecordsSurvey c r → MetresFit (surveys_after s.surveys r)
    go records_nothing other = unfold surveys_after in fit
    go (records_mark x) other = unfold surveys_after in fit
    go (records_survey q) own = unfold surveys_after in one_more_fits s.surveys q fit (own.3 read)

-- at first there is none
pub empty_metres_fit : (rule : Rule) → MetresFit (empty_state rule).surveys
unfolding empty_state holding surveys_of first_latest
empty_metres_fit rule e r is = impossible (cc)
