-- Which commands of a text a run accepts: the first ones, and all of them unless the table refuses one.
use mathlib.Core.List.{List, [], ◌∷◌, map}
use mathlib.Core.Option.{Option, none, some}
use mathlib.Core.Path.{◌≡◌, refl, ◌∙◌, ap}
use Prim.Native.Nat.{ℕ, zero, suc, ◌+◌, ◌≤◌, ◌<◌}
use native.Mathlib.Omega.{arith}
use lib.ListN.{length, take}
use lib.Seq.{take-length}
use Rattle.graph.specs.Route.{Choice}
use Rattle.naming.specs.State.{State}
use Rattle.commands.specs.Facts.{after}
use Rattle.commands.specs.Refusal.{Refusal, Capacities, refusal_of}
use Rattle.commands.specs.Text.{Read, Text, place_behind}
use Rattle.commands.specs.Run.{Accepted, stop, and_then, accepted_in, run_over, run_text, place_after}
use Rattle.commands.proofs.Room.{Prefix, cons_prefix}
use Rattle.commands.proofs.Table.{stage}
use Rattle.commands.proofs.Causes.{table_stage}

-- From a state, over commands that were read and what ends them: those accepted one after another, each in the state after the one before
-- it, until all are or the table refuses one, and what ends the run.
pub data RunsOver (choice : Choice) (caps : Capacities) : State → List Read → Option Refusal → List Accepted → Option Refusal → Type 0 where
  at_end : {s : State} {end : Option Refusal} → RunsOver choice caps s [] end [] end
  refused_one : {s : State} {r : Read} {later : List Read} {end : Option Refusal} {q : Refusal}
      → refusal_of caps s r.command ≡ some q → RunsOver choice caps s (r ∷ later) end [] (some q)
  accepted_one : {s : State} {r : Read} {later : List Read} {end : Option Refusal} {l : List Accepted} {last : Option Refusal}
      → refusal_of caps s r.command ≡ none → RunsOver choice caps (after s r.command) later end l last
      → RunsOver choice caps s (r ∷ later) end (accepted_in choice s r ∷ l) last

-- the run over these commands goes so
abbrev GoesOver : Choice → Capacities → State → List Read → Option Refusal → Type 0
GoesOver choice caps s read end =
    let run = run_over choice caps s read end in
    RunsOver choice caps s read end run.accepted run.refusal

-- the run is such a list of steps
pub run_over_steps : (choice : Choice) (caps : Capacities) (s : State) (read : List Read) (end : Option Refusal)
    → RunsOver choice caps s read end (run_over choice caps s read end).accepted (run_over choice caps s read end).refusal
unfolding run_over stop and_then
run_over_steps choice caps s [] end = at_end
run_over_steps choice caps s (r ∷ later) end = go (run_over_steps choice caps (after s r.command) later end) (refusal_of caps s r.command) refl
  where
    go : GoesOver choice caps (after s r.command) later end → (o : Option Refusal) → refusal_of caps s r.command ≡ o
        → GoesOver choice caps s (r ∷ later) end
    go rest (some q) e = rw (e, run_over) (refused_one e)
    go rest none e = rw (e, run_over) (accepted_one e rest)

-- the accepted commands are the first of those that were read
accepted_first : {choice : Choice} {caps : Capacities} {s : State} {read : List Read} {end : Option Refusal} {l : List Accepted} {last : Option Refusal}
    → RunsOver choice caps s read end l last → Prefix (map (λ a. a.command) l) (map (λ r. r.command) read)
unfolding accepted_in
accepted_first at_end = record { shorter = omega arith; same = refl }
accepted_first (refused_one e) = record { shorter = omega arith; same = refl }
accepted_first (accepted_one {r = r} e rest) = cons_prefix r.command (accepted_first rest)

-- the accepted commands end where as many of those that were read do
accepted-place : {choice : Choice} {caps : Capacities} {s : State} {read : List Read} {end : Option Refusal} {l : List Accepted} {last : Option Refusal}
    → RunsOver choice caps s read end l last → place_after l ≡ place_behind (take (length l) read)
unfolding place_after place_behind accepted_in
accepted-place at_end = refl
accepted-place (refused_one e) = refl
accepted-place (accepted_one {r = r} e rest) = ap (λ n. suc r.width + n) (accepted-place rest)

-- the refusal, if there is one, is none of a command that was read
abbrev pub NotOfCommand : Option Refusal → Type 0
NotOfCommand none = Unit
NotOfCommand (some q) = stage q < 2

-- then all commands are accepted, and what ends them ends the run
all_accepted : {choice : Choice} {caps : Capacities} {s : State} {read : List Read} {end : Option Refusal} {l : List Accepted} {last : Option Refusal}
    → RunsOver choice caps s read end l last → NotOfCommand last → (length l ≡ length read) × (last ≡ end)
all_accepted at_end n = (refl, refl)
all_accepted {caps = caps} (refused_one {s = s} {r = r} {q = q} e) n = absurd (omega (arith, (table_stage caps s r.command q e).from))
all_accepted (accepted_one e rest) n = let all = all_accepted rest n in (ap suc all.0, all.1)

-- the first commands end no later than all do
place_of_first : (n : ℕ) (l : List Read) → place_behind (take n l) ≤ place_behind l
unfolding place_behind
place_of_first zero l = omega arith
place_of_first (suc n) [] = omega arith
place_of_first (suc n) (r ∷ l) = omega (arith, place_of_first n l)

-- the run from a state over a text
module _ (choice : Choice) (caps : Capacities) (s : State) (t : Text) where
  -- its steps
  pub run_text_steps : RunsOver choice caps s t.commands t.refusal (run_text choice caps s t).accepted (run_text choice caps s t).refusal
  unfolding run_text
  run_text_steps = run_over_steps choice caps s t.commands t.refusal

  -- it accepts the first of the text's commands
  pub run_accepts_first : Prefix (map (λ a. a.command) (run_text choice caps s t).accepted) (map (λ r. r.command) t.commands)
  run_accepts_first = accepted_first run_text_steps

  -- they end where as many commands of the text do
  pub run_place : place_after (run_text choice caps s t).accepted
      ≡ place_behind (take (length (run_text choice caps s t).accepted) t.commands)
  run_place = accepted-place run_text_steps

  -- so what a run refuses never stands behind the place where the text ends
  pub run_place_in_text : place_after (run_text choice caps s t).accepted ≤ place_behind t.commands
  run_place_in_text = omega (arith, run_place, place_of_first (length (run_text choice caps s t).accepted) t.commands)

  -- a run that the table does not stop ends as the text does, and where it does
  pub run_ends_as_text : NotOfCommand (run_text choice caps s t).refusal
      → ((run_text choice caps s t).refusal ≡ t.refusal) × (place_after (run_text choice caps s t).accepted ≡ place_behind t.commands)
  run_ends_as_text n =
      let all = all_accepted run_text_steps n in
      (all.1, run_place ∙ rw all.0 (ap place_behind (take-length t.commands)))
