-- Two runs of commands without 0B, step by step. In the first a span of 02 has no mate. In the second every command is the same, but that
-- a span may be told a duct; and its spans have no mates either. So after each command the networks are alike: the next is refused alike
-- and answered alike, 0C too where the choices give the same routes.
use mathlib.Core.Bool.{false, cond, false≢true}
use mathlib.Core.List.{List}
use mathlib.Core.Option.{Option, none, some}
use mathlib.Core.Path.{◌≡◌, refl, sym, ◌∙◌, ap}
use Prim.Native.Nat.{ℕ, suc, ◌<◌}
use native.Mathlib.Omega.{arith}
use Rattle.graph.specs.Network.{Edge, Rule, MateRule, parallel, edge_between, edge_in_duct, edge, edge_count, add_vertex, add_edge}
use Rattle.graph.specs.Cycle.{joins}
use Rattle.graph.specs.Route.{Choice}
use Rattle.graph.proofs.Walks.{joins-ends}
use Rattle.graph.proofs.Joined.{edge_count_more, each_edge_more}
use Rattle.naming.specs.Book.{Book, Addition, vertex, neither, empty_book, enter_vertex, enter_edge, feed}
use Rattle.naming.specs.Book as Added
use Rattle.naming.specs.Survey.{holding}
use Rattle.naming.specs.State.{State, empty_state, after_addition, after_recording}
use Rattle.naming.proofs.AlikeBooks.{AlikeBooks, alike_empty, alike_vertex, alike_edge}
use Rattle.commands.specs.Field.{Field}
use Rattle.commands.specs.Command.{Command, add_span, command_byte}
use Rattle.commands.specs.Facts.{Demand, adds_span, facts, addition_of, addition, recording_of, recording, after, answer_to, answer}
use Rattle.commands.specs.Refusal.{Refusal, Capacities, refusal_of}
use Rattle.commands.specs.Text.{Read, Text, followed_by}
use Rattle.commands.specs.Run.{Run, stop, and_then, accepted_in, run_text}
use Rattle.commands.specs.Forecast.{is_span}
use Rattle.commands.proofs.Steps.{run_refuses, run_accepts}
use Rattle.commands.proofs.Agree.{marks_same, records_same}
use Rattle.commands.proofs.AlikeStates.{AlikeStates, refusal_alike, span_alike, answer_alike}
use Rattle.commands.proofs.RunBooks.{Sound, sound_after}

-- The rules of two networks, and the duct that each edge of the second lies in, by its number: no edge is a mate of one before it, neither
-- with no duct told under the first rule, nor in these ducts under the second.
pub record Apart : Type 0 where
  pub rule : Rule
  pub rule' : Rule
  pub duct_of : ℕ → ℕ
  pub mates : MateRule rule
  pub mates' : MateRule rule'
  pub alone : (e f : Edge) → f.duct ≡ 0 → rule e f ≡ false
  pub alone' : (t n : ℕ) → t < n → (e f : Edge) → e.duct ≡ duct_of t → f.duct ≡ duct_of n → rule' e f ≡ false

-- What stands for a command in the second run, with so many spans before it: itself, where it adds no span; and for a 02 one that adds the
-- same span in its duct, and is refused alike.
pub data StandsFor (w : Apart) (spans : ℕ) : Command → Command → Type 0 where
  itself : {c : Command} → is_span (addition c) ≡ false → StandsFor w spans c c
  in_duct_lem : {x y : ℕ} {c' : Command} {operands : List Field} {demands : List Demand}
      → facts c' ≡ adds_span (edge_in_duct x y (w.duct_of spans)) operands demands
      → ((caps : Capacities) (s : State) → refusal_of caps s c' ≡ refusal_of caps s (add_span x y))
      → StandsFor w spans (add_span x y) c'

-- so many spans stand before the next command
abbrev pub spans_after : ℕ → Command → ℕ
spans_after spans c = cond (is_span (addition c)) (suc spans) spans

-- two commands are answered alike, 0C where the two choices give the same routes
abbrev pub SameAnswer : Choice → Choice → State → State → Command → Command → Type 0
SameAnswer old new s s' c c' =
    (command_byte c ≡ 0x0C → (x y : ℕ) → new s'.book.network x y ≡ old s.book.network x y) → answer new s' c' ≡ answer old s c

-- Two books alike with so many edges, under the two rules; the second's edges lie in their ducts.
pub record PairedBooks (w : Apart) (spans : ℕ) (b b' : Book) : Type 0 where
  pub alike : AlikeBooks b b'
  rule_is : b.network.rule ≡ w.rule
  rule_is' : b'.network.rule ≡ w.rule'
  so_many : edge_count b.network ≡ spans
  ducts : (t : ℕ) → t < edge_count b'.network → (edge b'.network t).duct ≡ w.duct_of t

-- Two states with such books, the same marks and, for each span, the same record that holds.
pub record Paired (w : Apart) (spans : ℕ) (s s' : State) : Type 0 where
  pub books : PairedBooks w spans s.book s'.book
  same_marks : (x : ℕ) → s'.marked x ≡ s.marked x
  same_records : (x : ℕ) → holding s'.surveys x ≡ holding s.surveys x

module _ (w : Apart) where
  -- before the first command they are so
  pub books_empty : PairedBooks w 0 (empty_book w.rule) (empty_book w.rule')
  books_empty =
      record {
        alike = alike_empty w.rule w.rule';
        rule_is = unfold empty_book in refl;
        rule_is' = unfold empty_book in refl;
        so_many = unfold empty_book edge_count in refl;
        ducts = unfold empty_book edge_count in λ t k. absurd (omega (arith, k));
      }

  pub states_empty : Paired w 0 (empty_state w.rule) (empty_state w.rule')
  unfolding empty_state
  states_empty = record { books = books_empty; same_marks = λ x. refl; same_records = λ x. refl }

module _ {w : Apart} {spans : ℕ} where
  -- an edge more, in the first with no duct told and in the second in its duct, has no mate in either
  books_edge : {b b' : Book} → PairedBooks w spans b b' → (x y : ℕ)
      → PairedBooks w (suc spans) (enter_edge b (edge_between x y)) (enter_edge b' (edge_in_duct x y (w.duct_of spans)))
  unfolding edge_between edge_in_duct parallel joins
  books_edge {b} {b'} p x y =
      record {
        alike = alike_edge p.alike (rw p.rule_is w.mates) (rw p.rule_is' w.mates') e e' (joins-ends e) no_mates;
        rule_is = unfold enter_edge add_edge in p.rule_is;
        rule_is' = unfold enter_edge add_edge in p.rule_is';
        so_many = unfold enter_edge in edge_count_more b.network e ∙ ap suc p.so_many;
        ducts = unfold enter_edge in each_edge_more (λ t f. f.duct ≡ w.duct_of t) b'.network e' p.ducts (ap w.duct_of (sym as_many));
      }
    where
      e : Edge
      e = edge_between x y

      e' : Edge
      e' = edge_in_duct x y (w.duct_of spans)

      as_many : edge_count b'.network ≡ spans
      as_many = p.alike.networks.as_many_edges ∙ p.so_many

      no_mates : (t : ℕ) → t < edge_count b.network → b'.network.rule (edge b'.network t) e' ≡ b.network.rule (edge b.network t) e
      no_mates t k =
          ap (λ (rule : Rule). rule (edge b'.network t) e') p.rule_is'
          ∙ w.alone' t spans (omega (arith, k, p.so_many)) (edge b'.network t) e' (p.ducts t (omega (arith, k, as_many, p.so_many))) refl
          ∙ sym (w.alone (edge b.network t) e refl)
          ∙ sym (ap (λ (rule : Rule). rule (edge b.network t) e) p.rule_is)

  -- and what is added besides keeps the books so
  books_other : {b b' : Book} → PairedBooks w spans b b' → (a : Addition) → is_span a ≡ false → PairedBooks w spans (feed b a) (feed b' a)
  unfolding feed is_span
  books_other p vertex no_span =
      record {
        alike = alike_vertex p.alike;
        rule_is = unfold enter_vertex add_vertex in p.rule_is;
        rule_is' = unfold enter_vertex add_vertex in p.rule_is';
        so_many = unfold enter_vertex add_vertex edge_count in p.so_many;
        ducts = unfold enter_vertex add_vertex edge_count edge in p.ducts;
      }
  books_other p (Added.edge e) no_span = absurd (false≢true (sym no_span))
  books_other p neither no_span = p

  -- so a command and what stands for it leave such books
  pub books_after : {b b' : Book} → PairedBooks w spans b b' → {c c' : Command} → StandsFor w spans c c'
      → PairedBooks w (spans_after spans c) (feed b (addition c)) (feed b' (addition c'))
  books_after p (itself {c = c} no_span) = rw no_span (books_other p (addition c) no_span)
  books_after p (in_duct_lem {x = x} {y = y} adds refused) =
      unfold addition in rw adds (unfold facts addition_of feed is_span in books_edge p x y)

  -- they record the same
  same-recording : {c c' : Command} → StandsFor w spans c c' → recording c' ≡ recording c
  unfolding recording
  same-recording (itself no_span) = refl
  same-recording (in_duct_lem adds refused) = rw adds (unfold recording_of facts in refl)

  module _ {s s' : State} (p : Paired w spans s s') where
    -- such states are alike
    alike : AlikeStates s s'
    alike = record { books = p.books.alike; same_marks = p.same_marks; same_records = p.same_records }

    rule : MateRule s.book.network.rule
    rule = rw p.books.rule_is w.mates

    rule' : MateRule s'.book.network.rule
    rule' = rw p.books.rule_is' w.mates'

    -- a command and what stands for it leave such states
    states_after : {c c' : Command} → StandsFor w spans c c' → Paired w (spans_after spans c) (after s c) (after s' c')
    unfolding after after_addition after_recording
    states_after {c} for =
        record {
          books = books_after p.books for;
          same_marks = rw (same-recording for) (marks_same (recording c) p.same_marks);
          same_records = rw (same-recording for) (records_same (recording c) s'.surveys s.surveys p.same_records);
        }

    -- they are refused alike
    refused_alike : {c c' : Command} → StandsFor w spans c c' → (caps : Capacities) → refusal_of caps s' c' ≡ refusal_of caps s c
    refused_alike (itself {c = c} no_span) caps = refusal_alike alike rule rule' caps c
    refused_alike (in_duct_lem {x = x} {y = y} adds refused) caps = refused caps s' ∙ refusal_alike alike rule rule' caps (add_span x y)

    -- and answered alike
    answered_alike : (old new : Choice) (caps : Capacities) → Sound caps s → {c c' : Command} → StandsFor w spans c c' → refusal_of caps s c ≡ none
        → SameAnswer old new s s' c c'
    answered_alike old new caps sound (itself {c = c} no_span) accepted routes =
        answer_alike alike rule rule' old new caps sound.laws.proper c accepted routes (books_other p.books (addition c) no_span).alike
    answered_alike old new caps sound (in_duct_lem {x = x} {y = y} adds refused) accepted routes =
        unfold answer in
        rw adds (unfold facts answer_to feed in span_alike alike rule rule' _ _ (books_edge p.books x y).alike)

    -- So a claim about the two runs, with a command more, is to be shown where both are stopped by the same refusal, and where both accept it,
    -- with the same answer, and go on from such states.
    pub with_one_more_lem : (old new : Choice) (caps : Capacities) → Sound caps s → (r r' : Read) → StandsFor w spans r.command r'.command
        → (t t' : Text) (Claim : Run → Run → Type 0)
        → ((q : Refusal) → Claim (stop q) (stop q))
        → (SameAnswer old new s s' r.command r'.command
        → Paired w (spans_after spans r.command) (after s r.command) (after s' r'.command)
        → Sound caps (after s r.command)
        → Claim (and_then (accepted_in old s r) (run_text old caps (after s r.command) t))
        (and_then (accepted_in new s' r') (run_text new caps (after s' r'.command) t')))
        → Claim (run_text old caps s (followed_by r t)) (run_text new caps s' (followed_by r' t'))
    with_one_more_lem old new caps sound r r' for t t' Claim stopped goes_on = go (refusal_of caps s r.command) refl
      where
        go : (o : Option Refusal) → refusal_of caps s r.command ≡ o
            → Claim (run_text old caps s (followed_by r t)) (run_text new caps s' (followed_by r' t'))
        go (some q) e = rw (run_refuses old caps s r t e, run_refuses new caps s' r' t' (refused_alike for caps ∙ e)) (stopped q)
        go none e =
            rw (run_accepts old caps s r t e, run_accepts new caps s' r' t' (refused_alike for caps ∙ e))
            (goes_on (answered_alike old new caps sound for e) (states_after for) (sound_after caps s r.command sound e))
