-- Joining (request 9): two journals become one. The second's numbers are raised by what the first holds, and a span for each seam joins the
-- two networks.
use Rattle.std.specs.Prelude.{Bool, true, false, not, cond, ◌&&◌, ◌||◌, List, [], ◌∷◌, ◌++◌, map, ◌≢◌, ◌≡◌, ℕ, suc, ◌+◌, eqb, leb, ltb, length, get_or, replicate}
use Rattle.std.proofs.Math.Option.{Option, none, some}
use Rattle.graph.specs.Lists.{all_in}
use Rattle.graph.specs.Network.{edge_count}
use Rattle.graph.specs.Route.{Routes, serve, Choice, Serves}
use Rattle.naming.specs.State.{State, empty_state}
use Rattle.commands.specs.Field.{Kind, district, ring, mesh, Field, cabinet, span, name, number, byte}
use Rattle.commands.specs.Command.{Command, add_duct_span, Form, unknown, takes, form, command_byte}
use Rattle.commands.specs.Answer.{Notice, Answer, span_added, plain, share_is, answer_fields}
use Rattle.commands.specs.Exchange.{with_exchange, thousandths}
use Rattle.commands.specs.Facts.{facts, operands_of, routes_answer, after, state_after}
use Rattle.commands.specs.Surveys.{number_in, operand_in}
use Rattle.commands.specs.Refusal.{Refusal, short_buffer, full, refused_journal, bad_seam, long_join, refusal_number, Line, first_that_applies, Capacities}
use Rattle.commands.specs.Text.{commands_in, journal_bytes}
use Rattle.commands.specs.Run.{Accepted, Run}
use Rattle.commands.specs.Entry.{work_needed, over, Buffers, entry_under}
use Rattle.commands.specs.Register.{register_rule, register_routes, ample_run}
use Rattle.commands.specs.Decode.{decode_first}

-- How many cabinets and spans a network has.
pub record Counts : Type 0 where
  pub cabinets : ℕ
  pub spans : ℕ

-- The number of an item, raised by what the first network has. The name of a group is the number of one of its items.
unfoldable pub raise_item : Counts → Kind → ℕ → ℕ
raise_item by district n = by.cabinets + n
raise_item by ring n = by.cabinets + n
raise_item by mesh n = by.spans + n

-- A field, raised: numbers of cabinets and spans, and names. Every other number stays as it is.
unfoldable pub raise_field : Counts → Field → Field
raise_field by (cabinet n) = cabinet (by.cabinets + n)
raise_field by (span n) = span (by.spans + n)
raise_field by (name kind n) = name kind (raise_item by kind n)
raise_field by (number n) = number n
raise_field by (byte n) = byte n

-- The fields of a command or of an answer, raised.
unfoldable pub raise_fields : Counts → List Field → List Field
raise_fields by = map (raise_field by)

-- The command of a form whose operands are the numbers in these fields; of no form, the command as it is.
unfoldable pub with_operands : List Field → Command → Form → Command
with_operands fields c unknown = c
with_operands fields c (takes n make) = make (λ k. number_in (get_or fields k (byte 0)))

-- A command, raised: the same byte, and its operands raised. (`raised_byte`, `raised_operands`)
unfoldable pub raise_command : Counts → Command → Command
raise_command by c = with_operands (raise_fields by (operands_of (facts c))) c (form (command_byte c))

-- A seam: a cabinet of the first network, a cabinet of the second, and the duct of the span between them.
pub record Seam : Type 0 where
  pub first : ℕ
  pub second : ℕ
  pub duct : ℕ

-- The command for it: a 0B between the two, the second one raised.
unfoldable pub seam_command : Counts → Seam → Command
seam_command by x = add_duct_span x.first (by.cabinets + x.second) x.duct

-- The capacities of the runs that this request speaks of: the greatest that there are.
unfoldable pub join_capacities : Capacities
join_capacities = record { cabinets = 4096; spans = 8192 }

-- The run of a journal so sized, with ample answer room.
unfoldable pub run_alone : Choice → List ℕ → Run
run_alone choice = ample_run choice join_capacities

-- There is a refusal.
unfoldable pub is_some : Option Refusal → Bool
is_some none = false
is_some (some r) = true

-- It refuses the journal: this is too long, or one of its commands is refused. (`refused_for_any_choice`: whatever routes are chosen.)
unfoldable pub is_refused : List ℕ → Bool
is_refused journal = ltb 65536 (length journal) || is_some (run_alone register_routes journal).refusal

-- The state after a journal's commands, and what its network has.
unfoldable pub state_behind : List ℕ → State
state_behind journal = state_after (empty_state register_rule) (commands_in journal)

unfoldable pub counts_of : State → Counts
counts_of s = record { cabinets = s.book.network.vertices; spans = edge_count s.book.network }

unfoldable pub counts_in : List ℕ → Counts
counts_in journal = counts_of (state_behind journal)

-- The seam names one of the first network's cabinets, one of the second's, and a duct that is not 0.
unfoldable pub good_seam : ℕ → ℕ → Seam → Bool
good_seam cabinets others x = ltb x.first cabinets && ltb x.second others && not (eqb x.duct 0)

-- The result: the first journal, then the second's commands, raised, then a command for each seam.
unfoldable pub joined_bytes : List ℕ → List ℕ → List Seam → List ℕ
joined_bytes first second seams =
    let by = counts_in first in
    first ++ journal_bytes (map (raise_command by) (commands_in second)) ++ journal_bytes (map (seam_command by) seams)

-- The lines of the table that joining can meet, in their order, with a working table and an output buffer of these lengths.
unfoldable pub join_lines : ℕ → ℕ → List ℕ → List ℕ → List Seam → List Line
join_lines work_length room first second seams =
    let size = length (joined_bytes first second seams) in
    record { applies = ltb work_length (work_needed join_capacities); refusal = short_buffer }
    ∷ record { applies = is_refused first || is_refused second; refusal = refused_journal }
    ∷ record { applies = not (all_in (good_seam (counts_in first).cabinets (counts_in second).cabinets) seams); refusal = bad_seam }
    ∷ record { applies = ltb 65536 size || ltb room size; refusal = long_join }
    ∷ []

-- What joining returns: 0 or the number of the refusal, and the result: no bytes where it is refused.
pub record Joining : Type 0 where
  pub number : ℕ
  pub result : List ℕ

unfoldable pub joining_unless : Option Refusal → List ℕ → Joining
joining_unless (some r) result = record { number = refusal_number r; result = [] }
joining_unless none result = record { number = 0; result = result }

-- The joining of two journals by these seams, with a working table of this length, into so much room.
unfoldable pub join : ℕ → ℕ → List ℕ → List ℕ → List Seam → Joining
join work_length room first second seams =
    joining_unless (first_that_applies (join_lines work_length room first second seams)) (joined_bytes first second seams)

-- The working table on return: as before where it is too short; else W numbers are 0, and those beyond are as before.
unfoldable pub joined_work : List ℕ → List ℕ
joined_work work =
    let needed = work_needed join_capacities in
    cond (ltb (length work) needed) work (over (replicate needed 0) work)

-- A 0C of the second journal, which was asked in a state, is answered behind the first, which has left the state `one`, with two routes that
-- serve in the second's own network, raised.
pub record RaisedRoutes (one s : State) (c : Command) (now : Answer) : Type 0 where
  pub pair : Routes
  pub serves : serve s.book.network (operand_in c 0) (operand_in c 1) pair ≡ true
  pub raised : answer_fields now ≡ raise_fields (counts_of one) (answer_fields (plain (routes_answer pair)))

-- How a command of the second journal, which was accepted in a state, is answered behind the first.
pub record RaisedAnswer (one s : State) (a : Accepted) (now : Answer) : Type 0 where
  -- by the old answer, raised, but for 0F and 0C
  pub raised : command_byte a.command ≢ 0x0F → command_byte a.command ≢ 0x0C
      → answer_fields now ≡ raise_fields (counts_of one) (answer_fields a.answer)
  -- 0F by the share over both networks as they then stand
  pub share : command_byte a.command ≡ 0x0F
      → now
      ≡ plain (share_is (thousandths (with_exchange one + with_exchange s) (one.book.network.vertices + s.book.network.vertices)))
  -- 0C by two routes that serve
  pub routes : command_byte a.command ≡ 0x0C → RaisedRoutes one s a.command now

-- So it is with all of them, one after another, from a state on.
abbrev pub RaisedAnswers : State → State → List Accepted → List Answer → Type 0
RaisedAnswers one s [] [] = Unit
RaisedAnswers one s [] (now ∷ answers) = ⊥
RaisedAnswers one s (a ∷ later) [] = ⊥
RaisedAnswers one s (a ∷ later) (now ∷ answers) = RaisedAnswer one s a now × RaisedAnswers one (after s a.command) later answers

-- A seam is answered as an added span is: by this number, a mesh name and notices.
pub record SeamAnswer (next : ℕ) (now : Answer) : Type 0 where
  pub mesh_name : ℕ
  pub told : List Notice
  pub is_added : now ≡ span_added next mesh_name told

-- So it is with all seams, their numbers rising.
abbrev pub SeamAnswers : ℕ → List Seam → List Answer → Type 0
SeamAnswers next [] [] = Unit
SeamAnswers next [] (now ∷ answers) = ⊥
SeamAnswers next (x ∷ seams) [] = ⊥
SeamAnswers next (x ∷ seams) (now ∷ answers) = SeamAnswer next now × SeamAnswers (suc next) seams answers

-- The answers to a result under a choice of routes: the first's own, then the second's, raised, then one for each seam. The second's own
-- run may have been under any choice.
pub record JoinedAnswers (choice own : Choice) (first second : List ℕ) (seams : List Seam) (answers : List Answer) : Type 0 where
  pub of_first : List Answer
  pub of_second : List Answer
  pub of_seams : List Answer
  pub in_order : answers ≡ of_first ++ of_second ++ of_seams
  pub first_as_before : of_first ≡ map (λ a. a.answer) (run_alone choice first).accepted
  pub second_raised : RaisedAnswers (state_behind first) (empty_state register_rule) (run_alone own second).accepted of_second
  pub seams_added : SeamAnswers ((counts_in first).spans + (counts_in second).spans) seams of_seams

-- Both networks with the seams fit the greatest capacities.
unfoldable pub fit_together : List ℕ → List ℕ → List Seam → Bool
fit_together first second seams =
    leb ((counts_in first).cabinets + (counts_in second).cabinets) 4096
    && leb ((counts_in first).spans + (counts_in second).spans + length seams) 8192

-- What is promised of these bytes as the result.
pub record AnsweredJoined (first second : List ℕ) (seams : List Seam) (result : List ℕ) : Type 0 where
  -- whatever routes that serve are chosen and whatever buffers are lent: where a run with the greatest capacities accepts them, the answers
  -- that are decoded from its buffer are these
  pub answers_joined : (choice own : Choice) → Serves register_rule choice → (lent : Buffers)
      → let run = entry_under register_rule choice join_capacities result lent in
      run.returned ≡ 0
      → JoinedAnswers
      choice
      own
      first
      second
      seams
      (decode_first (length (commands_in first) + length (commands_in second) + length seams) run.buffers.answers)
  -- with ample answer room it accepts them exactly if both networks with the seams fit, and else meets 9
  pub accepted_exactly : (choice : Choice) → (run_alone choice result).refusal ≡ cond (fit_together first second seams) none (some full)
