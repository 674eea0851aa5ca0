-- What a state knows: only its own cabinets are marked, and only its own spans measured.
use mathlib.Core.Bool.{true}
use mathlib.Core.List.{List, [], ◌∷◌, append-nil}
use mathlib.Core.Logic.{⊎_elim}
use mathlib.Core.Option.{none}
use mathlib.Core.Path.{◌≡◌, refl, ◌∙◌, subst}
use Prim.Native.Nat.{ℕ, ◌<◌, ◌≤◌}
use native.Mathlib.Omega.{arith}
use lib.Dec.{eqb}
use Rattle.graph.specs.Lists.{all_in}
use Rattle.graph.specs.Network.{Rule, edge_count}
use Rattle.graph.proofs.Truth.{and_left, or_cases, not_both, eqb_eq, ne_eqb, ltb_lt}
use Rattle.naming.specs.Survey.{surveys_of}
use Rattle.naming.specs.State.{State, empty_state, after_addition, Recording, records_nothing, records_mark, records_survey, marks_after, surveys_after, after_recording}
use Rattle.naming.proofs.Surveys.{surveys_together}
use Rattle.commands.specs.Command.{Command, mark_exchange, record_length}
use Rattle.commands.specs.Facts.{facts, asks, operands_of, addition, recording, after, state_after}
use Rattle.commands.specs.Refusal.{Capacities, cabinet_known, span_known, cabinets_known, spans_known, refusal_of}
use Rattle.commands.proofs.Causes.{not_refused_exactly}
use Rattle.commands.proofs.Report.{vertices_grow, edges_grow}
use Rattle.commands.proofs.RunBooks.{NoneRefused, kept_by_all}
use Rattle.commands.proofs.Recorded.{Records, records}

-- Every exchange is a cabinet of the network, and every record is of one of its spans.
pub record KnownState (s : State) : Type 0 where
  pub marks_known : (x : ℕ) → s.marked x ≡ true → x < s.book.network.vertices
  pub surveys_known : (x : ℕ) → edge_count s.book.network ≤ x → surveys_of x s.surveys ≡ []

-- what a command records is of what the state knows
abbrev RecordsKnown : State → Recording → Type 0
RecordsKnown s records_nothing = Unit
RecordsKnown s (records_mark x) = x < s.book.network.vertices
RecordsKnown s (records_survey r) = r.measured < edge_count s.book.network

-- a cabinet that is marked is known where the command's cabinets are
pub mark_known : (s : State) (x : ℕ) → cabinets_known s (mark_exchange x) ≡ true → x < s.book.network.vertices
unfolding cabinets_known facts asks operands_of all_in cabinet_known
mark_known s x e = ltb_lt _ _ (and_left _ true e)

-- and a span that is measured where its spans are
survey_known : (s : State) (x day metres : ℕ) → spans_known s (record_length x day metres) ≡ true → x < edge_count s.book.network
unfolding spans_known facts asks operands_of all_in span_known
survey_known s x day metres e = ltb_lt _ _ (and_left _ true e)

records_known : (s : State) (c : Command) → cabinets_known s c ≡ true → spans_known s c ≡ true → RecordsKnown s (recording c)
records_known s c cabinets spans = go (recording c) (records c)
  where
    go : (r : Recording) → Records c r → RecordsKnown s r
    go records_nothing other = tt
    go (records_mark x) is = mark_known s x (subst (λ d. cabinets_known s d ≡ true) is cabinets)
    go (records_survey r) is = survey_known s r.measured r.day r.metres (subst (λ d. spans_known s d ≡ true) is spans)

-- before the first command
pub empty_known : (rule : Rule) → KnownState (empty_state rule)
unfolding empty_state surveys_of
empty_known rule = record { marks_known = λ x e. absurd (not_both e refl); surveys_known = λ x h. refl }

-- what is recorded of known ones keeps it so
marks_still_known : (s : State) (r : Recording) → RecordsKnown s r → KnownState s → (x : ℕ) → marks_after s.marked r x ≡ true
    → x < s.book.network.vertices
unfolding marks_after
marks_still_known s records_nothing k w x e = w.marks_known x e
marks_still_known s (records_mark y) k w x e =
    ⊎_elim (λ (q : eqb x y ≡ true). rw (eqb_eq x y q) k) (w.marks_known x) (or_cases (eqb x y) (s.marked x) e)
marks_still_known s (records_survey r) k w x e = w.marks_known x e

surveys_still_known : (s : State) (r : Recording) → RecordsKnown s r → KnownState s → (x : ℕ) → edge_count s.book.network ≤ x
    → surveys_of x (surveys_after s.surveys r) ≡ []
unfolding surveys_after surveys_of
surveys_still_known s records_nothing k w x h = w.surveys_known x h
surveys_still_known s (records_mark y) k w x h = w.surveys_known x h
surveys_still_known s (records_survey r) k w x h =
    surveys_together x s.surveys (r ∷ [])
    ∙ rw (ne_eqb r.measured x (λ q. absurd (omega (arith, q, k, h)))) (append-nil (surveys_of x s.surveys) ∙ w.surveys_known x h)

-- so it is after each command that is not refused
pub known_after : (caps : Capacities) (s : State) (c : Command) → KnownState s → refusal_of caps s c ≡ none → KnownState (after s c)
unfolding after after_addition after_recording
known_after caps s c w e =
    let n = (not_refused_exactly caps s c).0 e in
    let r = records_known s c n.cabinets_known_lem n.spans_known_lem in
    record {
      marks_known = λ x h.
          omega (arith, marks_still_known s (recording c) r w x h, vertices_grow s.book (addition c));
      surveys_known = λ x h. surveys_still_known s (recording c) r w x (omega (arith, h, edges_grow s.book (addition c)));
    }

-- and after all of them
pub known_after_all : (caps : Capacities) (s : State) → KnownState s → (cs : List Command) → NoneRefused caps s cs → KnownState (state_after s cs)
known_after_all caps = kept_by_all caps KnownState (known_after caps)
