-- The register of documents 01 and 02: the entry at its rule of mates and its choice of routes, and the program around it.
use Rattle.std.specs.Prelude.{List, [], ◌∷◌, ◌++◌, ℕ}
use Rattle.std.proofs.Math.Option.{Option, none, some}
use Rattle.graph.specs.Network.{Rule, one_duct}
use Rattle.graph.specs.Route.{Choice}
use Rattle.naming.specs.State.{empty_state}
use Rattle.ways.specs.TwoRoutes.{two_routes}
use Rattle.commands.specs.Bytes.{four_bytes}
use Rattle.commands.specs.Refusal.{Refusal, Capacities, refusal_number}
use Rattle.commands.specs.Text.{text_of}
use Rattle.commands.specs.Run.{Run, run_text, bytes_of_answers, place_after}
use Rattle.commands.specs.Entry.{Whole, refused_at_start, ran, Buffers, Outcome, whole_run, work_needed, report_of, entry_under}

-- A span is lost with the spans of its duct between the same two cabinets; those of 02, with no duct told, lie in one.
unfoldable pub register_rule : Rule
register_rule = one_duct

-- The routes that 0C is answered with: document 02 leaves open which.
unfoldable pub register_routes : Choice
register_routes = two_routes

unfoldable pub register : Capacities → List ℕ → Buffers → Outcome
register = entry_under register_rule register_routes

-- The run of a journal from an empty network with ample answer room, under a choice of routes.
unfoldable pub ample_run : Choice → Capacities → List ℕ → Run
ample_run choice caps journal = run_text choice caps (empty_state register_rule) (text_of journal)

-- The program's capacities.
unfoldable pub program_capacities : Capacities
program_capacities = record { cabinets = 256; spans = 512 }

-- What the program writes after the answers: 80, or FF, the refusal's number and its place.
unfoldable pub ending : Option Refusal → ℕ → List ℕ
ending none place = 0x80 ∷ []
ending (some r) place = 0xFF ∷ refusal_number r ∷ four_bytes place

unfoldable pub program_output : Whole → List ℕ
program_output (refused_at_start r) = ending (some r) 0
program_output (ran run) = bytes_of_answers run.accepted ++ ending run.refusal (place_after run.accepted)

-- The program's run of its input, with an answer buffer of 65,536 bytes.
unfoldable pub program_run : List ℕ → Whole
program_run input = whole_run register_rule register_routes program_capacities input (work_needed program_capacities) 65536 6

-- The bytes that the program writes for those that it reads.
unfoldable pub program : List ℕ → List ℕ
program input = program_output (program_run input)

-- The six numbers of the report of that run: none where it is refused at the start.
unfoldable pub whole_report : Whole → List ℕ
whole_report (refused_at_start r) = []
whole_report (ran run) = report_of register_rule run

unfoldable pub program_report : List ℕ → List ℕ
program_report input = whole_report (program_run input)
