-- States that agree: no command tells them apart, and no run.
use mathlib.Core.Bool.{Bool, not, cond, ◌||◌}
use mathlib.Core.List.{List, [], ◌∷◌}
use mathlib.Core.Option.{Option, none, some}
use mathlib.Core.Path.{◌≡◌, refl, sym, ◌∙◌, ap, ap₂, fun_ext}
use Prim.Native.Nat.{ℕ}
use lib.Dec.{eqb}
use Rattle.graph.specs.Lists.{all_in}
use Rattle.graph.specs.Route.{Choice}
use Rattle.naming.specs.Survey.{Survey, holding, replaced}
use Rattle.naming.specs.Book.{feed}
use Rattle.naming.specs.State.{State, Agree, after_addition, Recording, records_nothing, records_mark, records_survey, marks_after, surveys_after, after_recording}
use Rattle.naming.proofs.Surveys.{holding_behind}
use Rattle.commands.specs.Command.{Command, add_cabinet, add_span, district_name, ring_name, shared_mesh, sole_spans, cut_cabinets, is_sole, mark_exchange, holds_exchange, add_duct_span, routes_between, record_length, span_length, exchange_share}
use Rattle.commands.specs.Answer.{plain}
use Rattle.commands.specs.Exchange.{ring_holds_exchange, with_exchange, share_with_exchange}
use Rattle.commands.specs.Facts.{Demand, differ, no_exchange, some_duct, share_district, share_ring, facts, asks, length_answer, demands_of, addition, recording, after, answer_to, answer}
use Rattle.commands.specs.Refusal.{Refusal, equal_cabinets, already_exchange, no_duct, two_districts, no_shared_ring, refusal_number, Capacities, cabinets_known, spans_known, met, cause, meets, is_full, lines, refusal_of}
use Rattle.commands.specs.Text.{Read, Text, followed_by}
use Rattle.commands.specs.Run.{and_then, accepted_in, run_over, run_text}
use Rattle.commands.proofs.Steps.{run_refuses, run_accepts}

-- The state with other surveys.
abbrev with_surveys : State → List Survey → State
with_surveys s surveys = record { book = s.book; marked = s.marked; surveys = surveys }

-- a state that agrees with another is that one with its own surveys
other_surveys : {s s' : State} → Agree s s' → with_surveys s s'.surveys ≡ s'
other_surveys {s} {s'} a = λ i. record { book = a.same_book i; marked = λ x. a.same_marks x i; surveys = s'.surveys }

-- Of a state with other surveys:
module _ (s : State) (surveys : List Survey) where
  -- the same demands are met
  met-same : (d : Demand) → met (with_surveys s surveys) d ≡ met s d
  unfolding met
  met-same (differ x y) = refl
  met-same (no_exchange x) = refl
  met-same (some_duct d) = refl
  met-same (share_district x y) = refl
  met-same (share_ring x y) = refl

  meets-same : (r : Refusal) (c : Command) → meets r (with_surveys s surveys) c ≡ meets r s c
  unfolding meets
  meets-same r c =
      ap (λ test. all_in test (demands_of (facts c)))
      (fun_ext (λ d. ap (λ is. not (eqb (refusal_number (cause d)) (refusal_number r)) || is) (met-same d)))

  -- so the same is refused
  refusal_same : (caps : Capacities) (c : Command) → refusal_of caps (with_surveys s surveys) c ≡ refusal_of caps s c
  unfolding refusal_of lines cabinets_known spans_known is_full
  refusal_same caps c =
      rw (
        meets-same equal_cabinets c,
        meets-same already_exchange c,
        meets-same no_duct c,
        meets-same two_districts c,
        meets-same no_shared_ring c,
      )

  -- and where the same records hold, the same is answered
  answer-same : ((e : ℕ) → holding s.surveys e ≡ holding surveys e) → (choice : Choice) (c : Command)
      → answer choice (with_surveys s surveys) c ≡ answer choice s c
  unfolding answer answer_to facts asks ring_holds_exchange with_exchange share_with_exchange
  answer-same same choice add_cabinet = refl
  answer-same same choice (add_span x y) = refl
  answer-same same choice (district_name x) = refl
  answer-same same choice (ring_name x) = refl
  answer-same same choice (shared_mesh x y) = refl
  answer-same same choice (sole_spans x y) = refl
  answer-same same choice (cut_cabinets x y) = refl
  answer-same same choice (is_sole x) = refl
  answer-same same choice (mark_exchange x) = refl
  answer-same same choice (holds_exchange x) = refl
  answer-same same choice (add_duct_span x y d) = refl
  answer-same same choice (routes_between x y) = refl
  answer-same same choice (record_length x day metres) = refl
  answer-same same choice (span_length x) = ap (λ o. plain (length_answer o)) (sym (same x))
  answer-same same choice exchange_share = refl

-- States that agree.
module _ {s s' : State} (a : Agree s s') where
  -- a command is refused in one as in the other
  pub agree_refusal : (caps : Capacities) (c : Command) → refusal_of caps s c ≡ refusal_of caps s' c
  agree_refusal caps c = sym (refusal_same s s'.surveys caps c) ∙ ap (λ t. refusal_of caps t c) (other_surveys a)

  -- it is answered in one as in the other
  pub agree_answer : (choice : Choice) (c : Command) → answer choice s c ≡ answer choice s' c
  agree_answer choice c =
      sym (answer-same s s'.surveys a.same_records choice c) ∙ ap (λ t. answer choice t c) (other_surveys a)

-- the marks after what a command records are the same where they were
pub marks_same : (r : Recording) {marked marked' : ℕ → Bool} → ((x : ℕ) → marked x ≡ marked' x) → (x : ℕ) → marks_after marked r x ≡ marks_after marked' r x
unfolding marks_after
marks_same records_nothing same x = same x
marks_same (records_mark y) same x = ap (λ is. eqb x y || is) (same x)
marks_same (records_survey r) same x = same x

-- so are the records that hold
pub records_same : (r : Recording) (l l' : List Survey) → ((e : ℕ) → holding l e ≡ holding l' e) → (e : ℕ)
    → holding (surveys_after l r) e ≡ holding (surveys_after l' r) e
unfolding surveys_after
records_same records_nothing l l' same e = same e
records_same (records_mark x) l l' same e = same e
records_same (records_survey r) l l' same e =
    holding_behind l r e ∙ ap (λ o. cond (eqb r.measured e) (replaced o r) o) (same e) ∙ sym (holding_behind l' r e)

-- and the states after it agree
pub agree_after : {s s' : State} → Agree s s' → (c : Command) → Agree (after s c) (after s' c)
unfolding after after_addition after_recording
agree_after {s} {s'} a c =
    record {
      same_book = ap (λ b. feed b (addition c)) a.same_book;
      same_marks = marks_same (recording c) a.same_marks;
      same_records = records_same (recording c) s.surveys s'.surveys a.same_records;
    }

-- So whatever is run from one goes as it goes from the other.
agree_run : (choice : Choice) (caps : Capacities) {s s' : State} → Agree s s' → (rs : List Read) (end : Option Refusal)
    → run_over choice caps s rs end ≡ run_over choice caps s' rs end
agree_run choice caps {s} {s'} a [] end = unfold run_over in refl
agree_run choice caps {s} {s'} a (r ∷ later) end =
    go (agree_run choice caps {s = after s c} {s' = after s' c} (agree_after a c) later end) (refusal_of caps s c) refl
  where
    c : Command
    c = r.command

    t : Text
    t = record { commands = later; refusal = end }

    refused : {o : Option Refusal} → refusal_of caps s c ≡ o → refusal_of caps s' c ≡ o
    refused e = sym (agree_refusal a caps c) ∙ e

    same-accepted : accepted_in choice s r ≡ accepted_in choice s' r
    same-accepted = unfold accepted_in in ap (λ told. record { command = c; answer = told; width = r.width }) (agree_answer a choice c)

    go : run_over choice caps (after s c) later end ≡ run_over choice caps (after s' c) later end → (o : Option Refusal) → refusal_of caps s c ≡ o
        → run_over choice caps s (r ∷ later) end ≡ run_over choice caps s' (r ∷ later) end
    go rest (some q) e = unfold run_text followed_by in run_refuses choice caps s r t e ∙ sym (run_refuses choice caps s' r t (refused e))
    go rest none e =
        unfold run_text followed_by in
        run_accepts choice caps s r t e
        ∙ ap₂ and_then same-accepted rest
        ∙ sym (run_accepts choice caps s' r t (refused e))

pub agree_text : (choice : Choice) (caps : Capacities) {s s' : State} → Agree s s' → (t : Text) → run_text choice caps s t ≡ run_text choice caps s' t
unfolding run_text
agree_text choice caps a t = agree_run choice caps a t.commands t.refusal
