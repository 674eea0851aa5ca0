-- The states of a run: after every number of the accepted commands, the book keeps the laws of naming.
use mathlib.Core.List.{List, [], ◌∷◌, map}
use mathlib.Core.Option.{Option, none, some}
use mathlib.Core.Path.{◌≡◌, refl, sym, ap₂, subst}
use Prim.Native.Nat.{ℕ, zero, suc}
use lib.ListN.{length, take}
use Rattle.graph.specs.Network.{Rule, MateRule, Proper}
use Rattle.graph.specs.Route.{Choice}
use Rattle.naming.specs.Book.{Book, Addition, vertex, edge, neither, enter_edge, feed}
use Rattle.naming.specs.State.{State, empty_state, after_addition, after_recording}
use Rattle.naming.proofs.Book.{BookLaws, BookAdvances, laws_after, empty_book_laws, book_stays, vertex_entered, edge-entered}
use Rattle.commands.specs.Command.{Command}
use Rattle.commands.specs.Answer.{Answer}
use Rattle.commands.specs.Facts.{addition, after, answer, state_after}
use Rattle.commands.specs.Refusal.{Refusal, Capacities, first_that_applies, refusal_of}
use Rattle.commands.specs.Text.{text_of}
use Rattle.commands.specs.Run.{Accepted, run_text, run_within, commands_of}
use Rattle.commands.specs.Entry.{start_lines, whole_unless, whole_run, accepted_commands}
use Rattle.commands.proofs.Steps.{RunsTo, ends, refuses, accepts}
use Rattle.commands.proofs.Place.{whole_run_steps, within_is_prefix}
use Rattle.commands.proofs.Kept.{WithinCapacities, empty_fits, kept}
use Rattle.commands.proofs.Decode.{answers_in}
use Rattle.commands.proofs.NameList.{answers_from}

-- the state's book is within the capacities, and keeps the laws of naming
pub record Sound (caps : Capacities) (s : State) : Type 0 where
  pub fits : WithinCapacities caps s.book.network
  pub laws : BookLaws s.book

-- the empty state's is
pub empty_sound : (caps : Capacities) (rule : Rule) → MateRule rule → Sound caps (empty_state rule)
unfolding empty_state
empty_sound caps rule r = record { fits = empty_fits caps rule; laws = empty_book_laws rule r }

-- an addition that leaves the network proper advances the names
addition_advances : (b : Book) (a : Addition) → BookLaws b → Proper (feed b a).network → BookAdvances b (feed b a)
unfolding feed
addition_advances b vertex laws proper = vertex_entered b laws
addition_advances b (edge e) laws proper = edge-entered b laws e (unfold enter_edge in proper)
addition_advances b neither laws proper = book_stays b laws

-- a command that is not refused advances the names
pub command_advances : (caps : Capacities) (s : State) (c : Command) → Sound caps s → refusal_of caps s c ≡ none
    → BookAdvances s.book (after s c).book
unfolding after after_addition after_recording
command_advances caps s c sound e =
    addition_advances s.book (addition c) sound.laws (kept caps s c sound.fits e).proper

-- and keeps the state sound
pub sound_after : (caps : Capacities) (s : State) (c : Command) → Sound caps s → refusal_of caps s c ≡ none → Sound caps (after s c)
sound_after caps s c sound e =
    record { fits = kept caps s c sound.fits e; laws = laws_after (command_advances caps s c sound e) }

-- none of the commands is refused, each in the state after those before it
abbrev pub NoneRefused : Capacities → State → List Command → Type 0
NoneRefused caps s [] = Unit
NoneRefused caps s (c ∷ later) = (refusal_of caps s c ≡ none) × NoneRefused caps (after s c) later

-- so it is with the first of them
pub first_not_refused : (caps : Capacities) (s : State) (cs : List Command) → NoneRefused caps s cs → (k : ℕ) → NoneRefused caps s (take k cs)
first_not_refused caps s cs n zero = tt
first_not_refused caps s [] n (suc k) = tt
first_not_refused caps s (c ∷ later) n (suc k) = (n.0, first_not_refused caps (after s c) later n.1 k)

-- what each of them keeps, all of them keep
pub kept_by_all : (caps : Capacities) (P : State → Type 0)
    → ((s : State) (c : Command) → P s → refusal_of caps s c ≡ none → P (after s c))
    → (s : State) → P s → (cs : List Command) → NoneRefused caps s cs → P (state_after s cs)
unfolding state_after
kept_by_all caps P keeps s p [] n = p
kept_by_all caps P keeps s p (c ∷ later) n = kept_by_all caps P keeps (after s c) (keeps s c p n.0) later n.1

-- the state after them is sound
pub sound_after_all : (caps : Capacities) (s : State) (cs : List Command) → Sound caps s → NoneRefused caps s cs → Sound caps (state_after s cs)
sound_after_all caps s cs sound n = kept_by_all caps (Sound caps) (sound_after caps) s sound cs n

-- the commands were accepted one after another: none was refused, and each answer is the definition's
abbrev pub Answered : Choice → Capacities → State → List Accepted → Type 0
Answered choice caps s [] = Unit
Answered choice caps s (a ∷ later) =
    (refusal_of caps s a.command ≡ none) × (a.answer ≡ answer choice s a.command) × Answered choice caps (after s a.command) later

-- so it is with every list of steps
pub steps_answered : (choice : Choice) (caps : Capacities) {s : State} {journal : List ℕ} {l : List Accepted} {end : Option Refusal}
    → RunsTo choice caps s journal l end → Answered choice caps s l
steps_answered choice caps ends = tt
steps_answered choice caps (refuses f) = tt
steps_answered choice caps (accepts w rest) = (w.not_refused, w.answered, steps_answered choice caps rest)

first_answered : (choice : Choice) (caps : Capacities) (s : State) (l : List Accepted) → Answered choice caps s l → (k : ℕ)
    → Answered choice caps s (take k l)
first_answered choice caps s l w zero = tt
first_answered choice caps s [] w (suc k) = tt
first_answered choice caps s (a ∷ later) w (suc k) = (w.0, w.1, first_answered choice caps (after s a.command) later w.2 k)

-- and with the accepted commands of every run
pub run_answered : (room : ℕ) (choice : Choice) (caps : Capacities) (s : State) (journal : List ℕ)
    → Answered choice caps s (run_within room choice caps s (text_of journal)).accepted
run_answered room choice caps s journal =
    subst
    (Answered choice caps s)
    (sym (within_is_prefix room choice caps s journal).same)
    (first_answered
    choice
    caps
    s
    (run_text choice caps s (text_of journal)).accepted
    (steps_answered choice caps (whole_run_steps choice caps s journal))
    (length (run_within room choice caps s (text_of journal)).accepted))

-- then none of them was refused
pub answered_not_refused : (choice : Choice) (caps : Capacities) (s : State) (l : List Accepted) → Answered choice caps s l
    → NoneRefused caps s (map (λ a. a.command) l)
answered_not_refused choice caps s [] w = tt
answered_not_refused choice caps s (a ∷ later) w = (w.0, answered_not_refused choice caps (after s a.command) later w.2)

-- and their answers are the definition's
pub answers_of_run : (choice : Choice) (caps : Capacities) (s : State) (l : List Accepted) → Answered choice caps s l
    → answers_in l ≡ answers_from choice s (map (λ a. a.command) l)
unfolding answers_from
answers_of_run choice caps s [] w = refl
answers_of_run choice caps s (a ∷ later) w =
    ap₂ {A = Answer} {B = List Answer} (λ x xs. x ∷ xs) w.1 (answers_of_run choice caps (after s a.command) later w.2)

-- The runs of a journal from the empty state.
module _ (rule : Rule) (choice : Choice) (caps : Capacities) (journal : List ℕ) (work_length answers_length report_length : ℕ) where
  -- the accepted commands of a whole run were not refused
  pub whole_run_not_refused :
      NoneRefused caps (empty_state rule) (accepted_commands (whole_run rule choice caps journal work_length answers_length report_length))
  unfolding whole_run whole_unless accepted_commands commands_of
  whole_run_not_refused = go (first_that_applies (start_lines caps (length journal) work_length report_length))
    where
      go : (o : Option Refusal)
          → NoneRefused caps (empty_state rule) (accepted_commands (whole_unless o (run_within answers_length choice caps (empty_state rule) (text_of journal))))
      go (some r) = tt
      go none =
          answered_not_refused
          choice
          caps
          (empty_state rule)
          (run_within answers_length choice caps (empty_state rule) (text_of journal)).accepted
          (run_answered answers_length choice caps (empty_state rule) journal)

  -- after every number of them the state is sound: its book is within the capacities, with names that name its groups
  pub whole_run_sound : MateRule rule → (k : ℕ)
      → Sound
      caps
      (state_after (empty_state rule) (take k (accepted_commands (whole_run rule choice caps journal work_length answers_length report_length))))
  whole_run_sound r k =
      let cs = accepted_commands (whole_run rule choice caps journal work_length answers_length report_length) in
      sound_after_all
      caps
      (empty_state rule)
      (take k cs)
      (empty_sound caps rule r)
      (first_not_refused caps (empty_state rule) cs whole_run_not_refused k)
