-- The run of a journal: first as if there were always room, then with the room that there is.
use Rattle.std.specs.Prelude.{cond, List, [], ◌∷◌, ◌++◌, map, ℕ, suc, ◌+◌, ◌-◌, leb, length}
use Rattle.std.proofs.Math.Option.{Option, none, some}
use Rattle.graph.specs.Route.{Choice}
use Rattle.naming.specs.State.{State}
use Rattle.commands.specs.Command.{Command}
use Rattle.commands.specs.Answer.{Answer, answer_bytes}
use Rattle.commands.specs.Facts.{after, answer}
use Rattle.commands.specs.Refusal.{Refusal, no_room, Capacities, refusal_of}
use Rattle.commands.specs.Text.{Read, Text}

-- An accepted command, its answer, and the bytes of its operands in the journal.
pub record Accepted : Type 0 where
  pub command : Command
  pub answer : Answer
  pub width : ℕ

-- The accepted commands in order, and the refusal that ended the run, if one did.
pub record Run : Type 0 where
  pub accepted : List Accepted
  pub refusal : Option Refusal

unfoldable pub stop : Refusal → Run
stop r = record { accepted = []; refusal = some r }

unfoldable pub and_then : Accepted → Run → Run
and_then a r = record { accepted = a ∷ r.accepted; refusal = r.refusal }

-- A command that was read, accepted in a state under a choice of routes.
unfoldable pub accepted_in : Choice → State → Read → Accepted
accepted_in choice s r = record { command = r.command; answer = answer choice s r.command; width = r.width }

-- The run without room, from any state, over commands that were read; what ends their text ends the run.
unfoldable pub run_over : Choice → Capacities → State → List Read → Option Refusal → Run
run_over choice caps s [] end = record { accepted = []; refusal = end }
run_over choice caps s (r ∷ later) end =
    elim (refusal_of caps s r.command) [
      | some cause ↦ stop cause
      | none ↦ and_then (accepted_in choice s r) (run_over choice caps (after s r.command) later end)
    ]

unfoldable pub run_text : Choice → Capacities → State → Text → Run
run_text choice caps s t = run_over choice caps s t.commands t.refusal

-- The accepted commands whose answers fit, one after another, into the room. Room is the last line of the table: the first command whose
-- answer is longer than the room is refused.
unfoldable pub fitting : ℕ → List Accepted → Option Refusal → Run
fitting room [] end = record { accepted = []; refusal = end }
fitting room (a ∷ later) end =
    let size = length (answer_bytes a.answer) in
    cond (leb size room) (and_then a (fitting (room - size) later end)) (stop no_room)

-- The run with room for so many answer bytes is the run without room, cut at the first answer that does not fit.
unfoldable pub run_within : ℕ → Choice → Capacities → State → Text → Run
run_within room choice caps s t =
    let r = run_text choice caps s t in
    fitting room r.accepted r.refusal

-- The accepted commands.
unfoldable pub commands_of : Run → List Command
commands_of r = map (λ a. a.command) r.accepted

-- The answers' bytes, one after another.
unfoldable pub bytes_of_answers : List Accepted → List ℕ
bytes_of_answers [] = []
bytes_of_answers (a ∷ later) = answer_bytes a.answer ++ bytes_of_answers later

-- The journal's bytes that the accepted commands took: where the next one begins.
unfoldable pub place_after : List Accepted → ℕ
place_after [] = 0
place_after (a ∷ later) = suc a.width + place_after later
