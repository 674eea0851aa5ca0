-- Rewriting (request 7): a journal of the old reading, by which a span of 02 has no mate, as one that is answered alike where spans of 02 lie
-- in one duct.
use Rattle.std.specs.Prelude.{cond, ◌||◌, List, [], ◌∷◌, map, ◌≢◌, ◌≡◌, ℕ, suc, ◌+◌, eqb, ltb, length}
use Rattle.std.proofs.Math.Option.{Option, none, some}
use Rattle.graph.specs.Network.{same_duct}
use Rattle.graph.specs.Route.{Routes, serve, Choice}
use Rattle.naming.specs.State.{State, empty_state}
use Rattle.commands.specs.Command.{Command, add_duct_span, command_byte}
use Rattle.commands.specs.Answer.{answer_bytes}
use Rattle.commands.specs.Facts.{Facts, adds_cabinet, adds_span, adds_nothing, facts, addition, after}
use Rattle.commands.specs.Refusal.{Refusal, long_journal, no_room, duct_told, long_result, refusal_number, Capacities}
use Rattle.commands.specs.Text.{Read, Text, text_of, commands_in, place_behind, journal_bytes}
use Rattle.commands.specs.Run.{Accepted, Run, commands_of}
use Rattle.commands.specs.Entry.{Whole, refused_at_start, ran, whole_run}
use Rattle.commands.specs.Register.{register_rule}
use Rattle.commands.specs.Forecast.{is_span}

-- A command of these facts, rewritten: a span gets the duct of its number plus 1. (No journal with 0B is rewritten, so it is a 02 that adds
-- a span.)
unfoldable pub in_own_duct : ℕ → Command → Facts → Command
in_own_duct number c adds_cabinet = c
in_own_duct number c (adds_span e operands demands) = add_duct_span e.left e.right (number + 1)
in_own_duct number c (adds_nothing q) = c

unfoldable pub rewrite_command : ℕ → Command → Command
rewrite_command number c = in_own_duct number c (facts c)

-- Commands, rewritten, with so many spans before them.
unfoldable pub rewrite_from : ℕ → List Command → List Command
rewrite_from spans [] = []
rewrite_from spans (c ∷ later) = rewrite_command spans c ∷ rewrite_from (cond (is_span (addition c)) (suc spans) spans) later

unfoldable pub rewrite_commands : List Command → List Command
rewrite_commands = rewrite_from 0

-- The bytes of a journal's commands once they are rewritten.
abbrev pub rewritten_bytes : List ℕ → List ℕ
rewritten_bytes journal = journal_bytes (rewrite_commands (commands_in journal))

-- What rewriting returns: 0 or the number of the refusal, a place in the journal, and the result: no bytes where it is refused.
pub record Rewriting : Type 0 where
  pub number : ℕ
  pub place : ℕ
  pub result : List ℕ

-- Refused with this at a place.
unfoldable pub not_rewritten : Refusal → ℕ → Rewriting
not_rewritten r place = record { number = refusal_number r; place = place; result = [] }

-- The place of the first 0B, if there is one.
unfoldable pub first_duct_told : List Read → Option ℕ
first_duct_told [] = none
first_duct_told (r ∷ later) = cond (eqb (command_byte r.command) 0x0B) (some r.place) (first_duct_told later)

-- The result, of a journal that ends at this place, if it is a journal's length and fits into the room.
unfoldable pub result_within : ℕ → ℕ → List ℕ → Rewriting
result_within room end bytes =
    cond
    (ltb 65536 (length bytes) || ltb room (length bytes))
    (not_rewritten long_result 0)
    (record { number = 0; place = end; result = bytes })

-- Commands that were read up to the journal's end.
unfoldable pub rewrite_reads : ℕ → ℕ → List Read → Rewriting
rewrite_reads room end reads =
    elim (first_duct_told reads) [
      | some place ↦ not_rewritten duct_told place
      | none ↦ result_within room end (journal_bytes (rewrite_commands (map (λ r. r.command) reads)))
    ]

-- A text that ends with an unknown byte or with cut-off operands is refused where that stands, as the forecast refuses it.
unfoldable pub rewrite_text : ℕ → ℕ → Text → Rewriting
rewrite_text room end t =
    elim t.refusal [ some r ↦ not_rewritten r (place_behind t.commands) | none ↦ rewrite_reads room end t.commands ]

-- The rewriting of a journal into so much room. One that is too long is refused at place 0.
unfoldable pub rewrite : ℕ → List ℕ → Rewriting
rewrite room journal =
    cond (ltb 65536 (length journal)) (not_rewritten long_journal 0) (rewrite_text room (length journal) (text_of journal))

-- Two commands, each answered in its state: the answers are the same, byte by byte, but for 0C; and any two routes that serve in the one
-- network serve in the other.
pub record SameButRoutes (s s' : State) (a a' : Accepted) : Type 0 where
  pub same_bytes : command_byte a.command ≢ 0x0C → answer_bytes a'.answer ≡ answer_bytes a.answer
  pub same_pairs : (x y : ℕ) (r : Routes) → serve s'.book.network x y r ≡ serve s.book.network x y r

-- So it is with as many commands from two states, one after another.
abbrev pub AnsweredAlike : State → State → List Accepted → List Accepted → Type 0
AnsweredAlike s s' [] [] = Unit
AnsweredAlike s s' [] (a' ∷ l') = ⊥
AnsweredAlike s s' (a ∷ l) [] = ⊥
AnsweredAlike s s' (a ∷ l) (a' ∷ l') = SameButRoutes s s' a a' × AnsweredAlike (after s a.command) (after s' a'.command) l l'

-- A run where a span of 02 has no mate, and one of the same commands, rewritten, by the register's rule; from states with so many spans.
pub record RunsAlike (spans : ℕ) (s s' : State) (old new : Run) : Type 0 where
  pub same_commands : commands_of new ≡ rewrite_from spans (commands_of old)
  pub same_answers : AnsweredAlike s s' old.accepted new.accepted
  pub same_refusal : new.refusal ≡ old.refusal

-- Two whole runs: refused alike at the start, or run alike from empty networks.
abbrev pub WholesAlike : Whole → Whole → Type 0
WholesAlike (refused_at_start r) (refused_at_start r') = r' ≡ r
WholesAlike (refused_at_start r) (ran new) = ⊥
WholesAlike (ran old) (refused_at_start r') = ⊥
WholesAlike (ran old) (ran new) = RunsAlike 0 (empty_state same_duct) (empty_state register_rule) old new

-- The run had ample room: it was not refused for want of it.
abbrev pub Ample : Whole → Type 0
Ample (refused_at_start r) = Unit
Ample (ran run) = run.refusal ≢ some no_room

-- The result is answered as the journal was, for all capacities, all choices of routes and all buffers with ample room.
abbrev pub AnsweredAsBefore : List ℕ → List ℕ → Type 0
AnsweredAsBefore journal result =
    (caps : Capacities) (old new : Choice) (work_length answers_length answers_length' report_length : ℕ)
    → let before = whole_run same_duct old caps journal work_length answers_length report_length in
    let rewritten = whole_run register_rule new caps result work_length answers_length' report_length in
    Ample before
    → Ample rewritten
    → WholesAlike before rewritten
