-- The state of a run behind another journal (request 9): the first's state, and beside it the second's own, raised.
use mathlib.Core.Bool.{Bool, true, false, cond, ◌||◌}
use mathlib.Core.List.{List, [], ◌∷◌, ◌++◌, map, append-nil, map-append}
use mathlib.Core.Option.{none}
use mathlib.Core.Path.{◌≡◌, refl, sym, ◌∙◌, ap, ap₂}
use Prim.Native.Nat.{ℕ, ◌+◌, ◌<◌}
use native.Mathlib.Nat.{add-zero}
use native.Mathlib.Omega.{arith}
use lib.Dec.{eqb}
use Rattle.graph.specs.Network.{Network, Rule, edge_count}
use Rattle.graph.proofs.Truth.{false_of_not, ne_eqb}
use Rattle.graph.proofs.SideBySide.{beside, Raises, eqb_raised}
use Rattle.naming.specs.Book.{empty_book, feed}
use Rattle.naming.specs.Survey.{Survey, surveys_of}
use Rattle.naming.specs.State.{State, empty_state, after_addition, Recording, records_nothing, records_mark, records_survey, marks_after, surveys_after, after_recording}
use Rattle.naming.proofs.Surveys.{surveys_together}
use Rattle.naming.proofs.SideBySideNames.{names_behind}
use Rattle.naming.proofs.SideBySideBooks.{beside_book, BesideBooks, feed_beside}
use Rattle.commands.specs.Command.{Command}
use Rattle.commands.specs.Facts.{addition, recording, after}
use Rattle.commands.specs.Refusal.{Capacities, refusal_of}
use Rattle.commands.specs.Join.{Counts, counts_of, raise_command}
use Rattle.commands.proofs.RunBooks.{Sound, sound_after}
use Rattle.commands.proofs.Known.{KnownState}
use Rattle.joining.proofs.Raised.{raise_survey, raise_recording, raised_addition, raised_recording}

-- The state s' is the state s beside the state `one`, which is left as it is.
pub record BesideState (one s s' : State) : Type 0 where
  pub book_is : s'.book ≡ beside_book one.book s.book
  pub old_marks : (x : ℕ) → x < one.book.network.vertices → s'.marked x ≡ one.marked x
  pub new_marks_lem : (x : ℕ) → s'.marked (one.book.network.vertices + x) ≡ s.marked x
  pub new_surveys : (x : ℕ) → surveys_of (edge_count one.book.network + x) s'.surveys
      ≡ map (raise_survey (edge_count one.book.network)) (surveys_of x s.surveys)

-- nothing beside a network is that network
nothing_beside : (b : Network) (rule : Rule) → b ≡ beside b (empty_book rule).network
unfolding beside empty_book
nothing_beside b rule = λ i. record { rule = b.rule; vertices = sym (add-zero b.vertices) i; edges = sym (append-nil b.edges) i }

-- at first the second's state is empty
pub beside_first : (rule : Rule) (one : State) → KnownState one → BesideState one (empty_state rule) one
unfolding empty_state
beside_first rule one w =
    record {
      book_is = unfold beside_book empty_book names_behind in
          λ i. record {
            network = nothing_beside one.book.network rule i;
            components = sym (append-nil one.book.components) i;
            bridge_blocks = sym (append-nil one.book.bridge_blocks) i;
            blocks = sym (append-nil one.book.blocks) i;
          };
      old_marks = λ x h. refl;
      new_marks_lem = λ x. false_of_not (one.marked (one.book.network.vertices + x)) (λ e. absurd (omega (arith, w.marks_known _ e)));
      new_surveys = λ x. unfold surveys_of in w.surveys_known _ (omega arith);
    }

-- marks after what is recorded, raised
old_marks_after : (by : Counts) (marked marked' : ℕ → Bool) (r : Recording) (x : ℕ) → x < by.cabinets → marked' x ≡ marked x
    → marks_after marked' (raise_recording by r) x ≡ marked x
unfolding marks_after raise_recording
old_marks_after by marked marked' records_nothing x h e = e
old_marks_after by marked marked' (records_mark y) x h e =
    ap (λ b. b || marked' x) (ne_eqb x (by.cabinets + y) (λ q. absurd (omega (arith, q, h)))) ∙ e
old_marks_after by marked marked' (records_survey r) x h e = e

new_marks-after : (by : Counts) (marked marked' : ℕ → Bool) (r : Recording) (x : ℕ) → marked' (by.cabinets + x) ≡ marked x
    → marks_after marked' (raise_recording by r) (by.cabinets + x) ≡ marks_after marked r x
unfolding marks_after raise_recording
new_marks-after by marked marked' records_nothing x e = e
new_marks-after by marked marked' (records_mark y) x e = ap₂ ◌||◌ (eqb_raised by.cabinets x y) e
new_marks-after by marked marked' (records_survey r) x e = e

-- and surveys
new_surveys_after : (by : Counts) (l l' : List Survey) (r : Recording) (x : ℕ)
    → surveys_of (by.spans + x) l' ≡ map (raise_survey by.spans) (surveys_of x l)
    → surveys_of (by.spans + x) (surveys_after l' (raise_recording by r)) ≡ map (raise_survey by.spans) (surveys_of x (surveys_after l r))
unfolding surveys_after surveys_of raise_recording raise_survey
new_surveys_after by l l' records_nothing x e = e
new_surveys_after by l l' (records_mark y) x e = e
new_surveys_after by l l' (records_survey r) x e =
    surveys_together (by.spans + x) l' (raise_survey by.spans r ∷ [])
    ∙ ap₂ ◌++◌ e (ap (λ b. cond b (raise_survey by.spans r ∷ []) []) (eqb_raised by.spans r.measured x) ∙ out (eqb r.measured x))
    ∙ sym (map-append (raise_survey by.spans) (surveys_of x l) _) ∙ ap (map (raise_survey by.spans)) (sym (surveys_together x l (r ∷ [])))
  where
    out : (b : Bool) → cond b (raise_survey by.spans r ∷ []) [] ≡ map (raise_survey by.spans) (cond b (r ∷ []) [])
    out true = refl
    out false = refl

-- two sound states, the second's under the same rule
pub record BesideSound (caps : Capacities) (one s : State) : Type 0 where
  pub first_sound : Sound caps one
  pub second_sound : Sound caps s
  pub one_rule : s.book.network.rule ≡ one.book.network.rule
  pub raises : Raises one.book.network.rule

abbrev pub books_beside : {caps : Capacities} {one s : State} → BesideSound caps one s → BesideBooks one.book s.book
books_beside w =
    record {
      first_laws = w.first_sound.laws;
      second_laws = w.second_sound.laws;
      one_rule = w.one_rule;
      raises = w.raises;
    }

-- A command that is not refused in the second's state, and the same raised: they leave such states again.
pub beside_after : (caps : Capacities) {one s s' : State} → BesideSound caps one s → BesideState one s s'
    → (c : Command) → refusal_of caps s c ≡ none
    → BesideState one (after s c) (after s' (raise_command (counts_of one) c))
unfolding after after_addition after_recording counts_of
beside_after caps {one} {s} {s'} w q c e =
    let by = counts_of one in
    record {
      book_is =
          ap₂ feed q.book_is (raised_addition by c)
          ∙ feed_beside (books_beside w) (addition c) (sound_after caps s c w.second_sound e).laws.proper;
      old_marks = λ x h. rw (raised_recording by c) (old_marks_after by one.marked s'.marked (recording c) x h (q.old_marks x h));
      new_marks_lem = λ x. rw (raised_recording by c) (new_marks-after by s.marked s'.marked (recording c) x (q.new_marks_lem x));
      new_surveys = λ x.
          rw (raised_recording by c) (new_surveys_after by s.surveys s'.surveys (recording c) x (q.new_surveys x));
    }
