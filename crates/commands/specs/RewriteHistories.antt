-- Histories of the old reading (request 7): journals with doubled spans of 02, as they are rewritten, and what is answered where a span of 02
-- has no mate and where spans of 02 lie in one duct.
use Rattle.std.specs.Prelude.{true, false, List, [], ◌∷◌, ◌++◌, ℕ}
use Rattle.graph.specs.Network.{Rule, same_duct, one_duct}
use Rattle.commands.specs.Command.{add_cabinet, add_span, add_duct_span, ring_name, sole_spans, is_sole, routes_between}
use Rattle.commands.specs.Field.{district, ring}
use Rattle.commands.specs.Answer.{cabinet_added, span_added, plain, ring_is, sole_spans_are, sole_is, routes_are}
use Rattle.commands.specs.Refusal.{refusal_number}
use Rattle.commands.specs.Text.{journal_bytes}
use Rattle.commands.specs.Run.{bytes_of_answers}
use Rattle.commands.specs.Entry.{Whole, refused_at_start, ran, whole_run, work_needed, number_of}
use Rattle.commands.specs.Register.{register_routes, program_capacities}
use Rattle.commands.specs.Rewrite.{rewrite}
use Rattle.commands.specs.Histories.{output, notice, group}

-- The bytes of a run's answers, and the number returned behind them.
unfoldable pub answers_and_number : Whole → List ℕ
answers_and_number (refused_at_start r) = refusal_number r ∷ []
answers_and_number (ran run) = bytes_of_answers run.accepted ++ number_of run.refusal ∷ []

-- Those of the program's run, were this its rule of mates.
unfoldable pub answered_under : Rule → List ℕ → List ℕ
answered_under rule journal =
    answers_and_number (whole_run rule register_routes program_capacities journal (work_needed program_capacities) 65536 6)

-- A journal, and the same rewritten; what is answered to the journal by the old rule, what to the rewritten one by the new rule, and what to
-- the journal itself by the new rule.
pub record OldReading : Type 0 where
  pub journal : List ℕ
  pub rewritten : List ℕ
  pub before : List ℕ
  pub after : List ℕ
  pub otherwise : List ℕ

-- What the definitions make of a journal of the old reading.
unfoldable pub read_anew : List ℕ → OldReading
read_anew journal =
    let rewritten = (rewrite 65536 journal).result in
    record {
      journal = journal;
      rewritten = rewritten;
      before = answered_under same_duct journal;
      after = answered_under one_duct rewritten;
      otherwise = answered_under one_duct journal;
    }

-- Two spans of 02 between one pair, with a question between them. In two ducts they make one ring, and neither is sole; as mates they make
-- none, and both are.
unfoldable pub in_one_ring : List ℕ
in_one_ring =
    output
    (cabinet_added 0
    ∷ cabinet_added 1
    ∷ span_added 0 0 (notice district 1 0 ∷ [])
    ∷ plain (ring_is (group 1 1))
    ∷ span_added 1 0 (notice ring 1 0 ∷ [])
    ∷ plain (ring_is (group 0 2))
    ∷ plain (sole_is false)
    ∷ plain (sole_spans_are [])
    ∷ [])
    (0 ∷ [])

unfoldable pub doubled_span : OldReading
doubled_span =
    record {
      journal =
          journal_bytes
          (add_cabinet ∷ add_cabinet ∷ add_span 0 1 ∷ ring_name 1 ∷ add_span 1 0 ∷ ring_name 1 ∷ is_sole 1 ∷ sole_spans 0 1 ∷ []);
      rewritten =
          journal_bytes
          (add_cabinet ∷ add_cabinet ∷ add_duct_span 0 1 1 ∷ ring_name 1 ∷ add_duct_span 1 0 2 ∷ ring_name 1 ∷ is_sole 1 ∷ sole_spans 0 1 ∷ []);
      before = in_one_ring;
      after = in_one_ring;
      otherwise =
          output
          (cabinet_added 0
          ∷ cabinet_added 1
          ∷ span_added 0 0 (notice district 1 0 ∷ [])
          ∷ plain (ring_is (group 1 1))
          ∷ span_added 1 0 []
          ∷ plain (ring_is (group 1 1))
          ∷ plain (sole_is true)
          ∷ plain (sole_spans_are (0 ∷ []))
          ∷ [])
          (0 ∷ []);
    }

-- Routes over two such spans, the later one first, and a span from a cabinet to itself: 8 at the command that corresponds. As mates the
-- spans make no ring: 14 for the routes.
unfoldable pub routes_and_refusal : List ℕ
routes_and_refusal =
    output
    (cabinet_added 0
    ∷ cabinet_added 1
    ∷ span_added 0 0 (notice district 1 0 ∷ [])
    ∷ span_added 1 0 (notice ring 1 0 ∷ [])
    ∷ plain (routes_are (1 ∷ []) (0 ∷ []))
    ∷ [])
    (8 ∷ [])

unfoldable pub doubled_routes : OldReading
doubled_routes =
    record {
      journal = journal_bytes (add_cabinet ∷ add_cabinet ∷ add_span 0 1 ∷ add_span 0 1 ∷ routes_between 0 1 ∷ add_span 1 1 ∷ []);
      rewritten =
          journal_bytes
          (add_cabinet ∷ add_cabinet ∷ add_duct_span 0 1 1 ∷ add_duct_span 0 1 2 ∷ routes_between 0 1 ∷ add_duct_span 1 1 3 ∷ []);
      before = routes_and_refusal;
      after = routes_and_refusal;
      otherwise =
          output
          (cabinet_added 0 ∷ cabinet_added 1 ∷ span_added 0 0 (notice district 1 0 ∷ []) ∷ span_added 1 0 [] ∷ [])
          (14 ∷ []);
    }

unfoldable pub old_readings : List OldReading
old_readings = doubled_span ∷ doubled_routes ∷ []
