-- The entry that a planner calls: what it is handed, what it returns, and what it leaves in each buffer.
use Rattle.std.specs.Prelude.{Bool, not, ◌&&◌, ◌||◌, List, [], ◌∷◌, ◌++◌, map, ℕ, ◌+◌, ◌*◌, leb, ltb, length, drop, replicate}
use Rattle.std.proofs.Math.Option.{Option, none, some}
use Rattle.graph.specs.Network.{Rule, edge_count}
use Rattle.graph.specs.Route.{Choice}
use Rattle.naming.specs.Book.{Book, empty_book, feed_all}
use Rattle.naming.specs.State.{empty_state}
use Rattle.commands.specs.Command.{Command}
use Rattle.commands.specs.Facts.{addition}
use Rattle.commands.specs.Refusal.{Refusal, Line, Capacities, refusal_number, first_that_applies, bad_capacity, short_buffer, long_journal}
use Rattle.commands.specs.Text.{text_of}
use Rattle.commands.specs.Run.{Run, run_within, commands_of, bytes_of_answers, place_after}

-- W, the numbers of the working table that a run uses.
unfoldable pub work_needed : Capacities → ℕ
work_needed caps = 24 * caps.cabinets + 8 * caps.spans + 64

-- C is 1 to 4,096, and S is 1 to 8,192.
unfoldable pub good_capacities : Capacities → Bool
good_capacities caps = leb 1 caps.cabinets && leb caps.cabinets 4096 && leb 1 caps.spans && leb caps.spans 8192

-- The working table or the report is too short.
unfoldable pub short_buffers : Capacities → ℕ → ℕ → Bool
short_buffers caps work_length report_length = ltb work_length (work_needed caps) || ltb report_length 6

-- The lines of the table that are tested before the journal is read, in their order.
unfoldable pub start_lines : Capacities → ℕ → ℕ → ℕ → List Line
start_lines caps journal_length work_length report_length =
    record { applies = not (good_capacities caps); refusal = bad_capacity }
    ∷ record { applies = short_buffers caps work_length report_length; refusal = short_buffer }
    ∷ record { applies = ltb 65536 journal_length; refusal = long_journal }
    ∷ []

-- A whole run: refused at the start, or run from an empty network.
pub data Whole : Type 0 where
  refused_at_start : Refusal → Whole
  ran : Run → Whole

unfoldable pub whole_unless : Option Refusal → Run → Whole
whole_unless (some r) run = refused_at_start r
whole_unless none run = ran run

-- The whole run of a journal under a rule of mates and a choice of routes, for these capacities and lengths of the working table, answer
-- buffer and report.
unfoldable pub whole_run : Rule → Choice → Capacities → List ℕ → ℕ → ℕ → ℕ → Whole
whole_run rule choice caps journal work_length answers_length report_length =
    whole_unless
    (first_that_applies (start_lines caps (length journal) work_length report_length))
    (run_within answers_length choice caps (empty_state rule) (text_of journal))

-- The accepted commands of a whole run: none where it was refused at the start.
unfoldable pub accepted_commands : Whole → List Command
accepted_commands (refused_at_start r) = []
accepted_commands (ran run) = commands_of run

-- The naming book fed these commands.
unfoldable pub book_after : Rule → List Command → Book
book_after rule commands = feed_all (empty_book rule) (map addition commands)

-- The returned number: 0 if the whole journal was accepted.
unfoldable pub number_of : Option Refusal → ℕ
number_of none = 0
number_of (some r) = refusal_number r

-- The report's six numbers: refusal, place, commands accepted, answer bytes, cabinets, spans.
unfoldable pub report_of : Rule → Run → List ℕ
report_of rule run =
    let network = (book_after rule (commands_of run)).network in
    number_of run.refusal
    ∷ place_after run.accepted
    ∷ length run.accepted
    ∷ length (bytes_of_answers run.accepted)
    ∷ network.vertices
    ∷ edge_count network
    ∷ []

-- A list written over the front of a buffer; the rest of the buffer is as before.
unfoldable pub over : List ℕ → List ℕ → List ℕ
over front buffer = front ++ drop (length front) buffer

-- The three buffers that the planner lends.
pub record Buffers : Type 0 where
  pub work : List ℕ
  pub answers : List ℕ
  pub report : List ℕ

-- What the entry returns, and what it leaves in the buffers.
pub record Outcome : Type 0 where
  pub returned : ℕ
  pub buffers : Buffers

unfoldable pub outcome : Rule → Capacities → Buffers → Whole → Outcome
outcome rule caps lent (refused_at_start r) = record { returned = refusal_number r; buffers = lent }
outcome rule caps lent (ran run) =
    record {
      returned = number_of run.refusal;
      buffers =
          record {
            work = over (replicate (work_needed caps) 0) lent.work;
            answers = over (bytes_of_answers run.accepted) lent.answers;
            report = over (report_of rule run) lent.report;
          };
    }

-- The entry under a rule of mates and a choice of routes, for any capacities, journal and buffers.
unfoldable pub entry_under : Rule → Choice → Capacities → List ℕ → Buffers → Outcome
entry_under rule choice caps journal lent =
    outcome
    rule
    caps
    lent
    (whole_run rule choice caps journal (length lent.work) (length lent.answers) (length lent.report))
