-- What is to be known of each command, in one place; what it answers and what it leaves.
use Rattle.std.specs.Prelude.{List, [], ◌∷◌, ℕ, ◌+◌, ◌*◌}
use Rattle.std.proofs.Math.Option.{Option, none, some}
use Rattle.graph.specs.Network.{Edge, edge_between, edge_in_duct, edge_count}
use Rattle.graph.specs.Groups.{bridge}
use Rattle.graph.specs.Block.{shared_block}
use Rattle.graph.specs.Between.{bridges_between, cuts_between}
use Rattle.graph.specs.Route.{Routes, Choice}
use Rattle.naming.specs.Rename.{name_of}
use Rattle.naming.specs.Book.{Book, Addition, vertex, edge, neither, feed}
use Rattle.naming.specs.Lookup.{component_of, bridge_block_of}
use Rattle.naming.specs.Survey.{Survey, holding}
use Rattle.naming.specs.State.{State, after_addition, Recording, records_nothing, records_mark, records_survey, after_recording}
use Rattle.commands.specs.Field.{Field, cabinet, span, number, byte, fields_bytes}
use Rattle.commands.specs.Command.{Command, add_cabinet, add_span, district_name, ring_name, shared_mesh, sole_spans, cut_cabinets, is_sole, mark_exchange, holds_exchange, add_duct_span, routes_between, record_length, span_length, exchange_share, command_byte}
use Rattle.commands.specs.Answer.{Plain, district_is, ring_is, mesh_shared, no_mesh_shared, sole_spans_are, cut_cabinets_are, sole_is, exchange_marked, exchange_held, routes_are, length_recorded, length_is, no_length, share_is, Answer, cabinet_added, span_added, plain, notices}
use Rattle.commands.specs.Exchange.{ring_holds_exchange, share_with_exchange}

-- What must hold of what a command names: two cabinets differ, a cabinet is no exchange, a duct is not 0, two cabinets share a district,
-- two cabinets share a ring.
pub data Demand : Type 0 where
  differ : ℕ → ℕ → Demand
  no_exchange : ℕ → Demand
  some_duct : ℕ → Demand
  share_district : ℕ → ℕ → Demand
  share_ring : ℕ → ℕ → Demand

-- A command that adds nothing to the network: its operands, what must hold of them, its answer from the state and the choice of routes,
-- what it records, and the length in bytes that document 02 allows its answer, where there are at most so many cabinets and so many spans
-- (`plain_no_longer`: it never exceeds it).
pub record PlainCommand : Type 0 where
  pub operands : List Field
  pub demands : List Demand
  pub told : Choice → State → Plain
  pub records : Recording
  pub longest : ℕ → ℕ → ℕ

-- A command adds a cabinet; or a span, whose ends are its first operands and must differ, with what operands and demands there are
-- besides; or nothing.
pub data Facts : Type 0 where
  adds_cabinet : Facts
  adds_span : Edge → List Field → List Demand → Facts
  adds_nothing : PlainCommand → Facts

-- A question records nothing, and its answer hangs on the state alone.
unfoldable pub asks : List Field → List Demand → (State → Plain) → (ℕ → ℕ → ℕ) → Facts
asks operands demands told longest =
    adds_nothing (record { operands = operands; demands = demands; told = λ choice s. told s; records = records_nothing; longest = longest })

-- The answer to 05: the name of the block that has an edge at each vertex, if there is one.
unfoldable pub mesh_answer : Book → Option ℕ → Plain
mesh_answer b none = no_mesh_shared
mesh_answer b (some s) = mesh_shared (name_of b.blocks s)

-- The answer to 0C: the two routes.
unfoldable pub routes_answer : Routes → Plain
routes_answer r = routes_are r.first r.second

-- The answer to 0E: the metres of the record that holds, if there is one.
unfoldable pub length_answer : Option Survey → Plain
length_answer none = no_length
length_answer (some r) = length_is r.metres

-- The facts of each command. The choice is asked by 0C alone, for the routes between its two cabinets.
unfoldable pub facts : Command → Facts
facts add_cabinet = adds_cabinet
facts (add_span a b) = adds_span (edge_between a b) [] []
facts (district_name a) = asks (cabinet a ∷ []) [] (λ s. district_is (component_of s.book a)) (λ cabinets spans. 5)
facts (ring_name a) = asks (cabinet a ∷ []) [] (λ s. ring_is (bridge_block_of s.book a)) (λ cabinets spans. 5)
facts (shared_mesh a b) =
    asks
    (cabinet a ∷ cabinet b ∷ [])
    (differ a b ∷ [])
    (λ s. mesh_answer s.book (shared_block s.book.network a b))
    (λ cabinets spans. 4)
facts (sole_spans a b) =
    asks
    (cabinet a ∷ cabinet b ∷ [])
    (share_district a b ∷ [])
    (λ s. sole_spans_are (bridges_between s.book.network a b))
    (λ cabinets spans. 3 + 2 * spans)
facts (cut_cabinets a b) =
    asks
    (cabinet a ∷ cabinet b ∷ [])
    (share_district a b ∷ [])
    (λ s. cut_cabinets_are (cuts_between s.book.network a b))
    (λ cabinets spans. 3 + 2 * cabinets)
facts (is_sole x) = asks (span x ∷ []) [] (λ s. sole_is (bridge s.book.network x)) (λ cabinets spans. 2)
facts (mark_exchange a) =
    adds_nothing
    (record {
      operands = cabinet a ∷ [];
      demands = no_exchange a ∷ [];
      told = λ choice s. exchange_marked;
      records = records_mark a;
      longest = λ cabinets spans. 1;
    })
facts (holds_exchange a) = asks (cabinet a ∷ []) [] (λ s. exchange_held (ring_holds_exchange s a)) (λ cabinets spans. 2)
facts (add_duct_span a b d) = adds_span (edge_in_duct a b d) (number d ∷ []) (some_duct d ∷ [])
facts (routes_between a b) =
    adds_nothing
    (record {
      operands = cabinet a ∷ cabinet b ∷ [];
      demands = differ a b ∷ share_ring a b ∷ [];
      told = λ choice s. routes_answer (choice s.book.network a b);
      records = records_nothing;
      longest = λ cabinets spans. 5 + 2 * spans;
    })
facts (record_length x day metres) =
    adds_nothing
    (record {
      operands = span x ∷ number day ∷ number metres ∷ [];
      demands = [];
      told = λ choice s. length_recorded;
      records = records_survey (record { measured = x; day = day; metres = metres });
      longest = λ cabinets spans. 1;
    })
facts (span_length x) = asks (span x ∷ []) [] (λ s. length_answer (holding s.surveys x)) (λ cabinets spans. 4)
facts exchange_share = asks [] [] (λ s. share_is (share_with_exchange s)) (λ cabinets spans. 3)

-- The operands, in their order.
unfoldable pub operands_of : Facts → List Field
operands_of adds_cabinet = []
operands_of (adds_span e operands demands) = cabinet e.left ∷ cabinet e.right ∷ operands
operands_of (adds_nothing q) = q.operands

-- What must hold of them.
unfoldable pub demands_of : Facts → List Demand
demands_of adds_cabinet = []
demands_of (adds_span e operands demands) = differ e.left e.right ∷ demands
demands_of (adds_nothing q) = q.demands

-- What the naming book is fed.
unfoldable pub addition_of : Facts → Addition
addition_of adds_cabinet = vertex
addition_of (adds_span e operands demands) = edge e
addition_of (adds_nothing q) = neither

unfoldable pub addition : Command → Addition
addition c = addition_of (facts c)

-- What is recorded beside it.
unfoldable pub recording_of : Facts → Recording
recording_of adds_cabinet = records_nothing
recording_of (adds_span e operands demands) = records_nothing
recording_of (adds_nothing q) = q.records

unfoldable pub recording : Command → Recording
recording c = recording_of (facts c)

-- A command's bytes.
unfoldable pub command_bytes : Command → List ℕ
command_bytes c = fields_bytes (byte (command_byte c) ∷ operands_of (facts c))

-- The state after a command.
unfoldable pub after : State → Command → State
after s c = after_recording (after_addition s (addition c)) (recording c)

-- The state after commands, one after another.
unfoldable pub state_after : State → List Command → State
state_after s [] = s
state_after s (c ∷ later) = state_after (after s c) later

-- The answer to an added span: its number, its mesh name once it is in, and the notices.
unfoldable pub span_answer : Book → Book → Answer
span_answer b b' =
    let new = edge_count b.network in
    span_added new (name_of b'.blocks new) (notices b b')

unfoldable pub answer_to : Choice → State → Facts → Answer
answer_to choice s adds_cabinet = cabinet_added s.book.network.vertices
answer_to choice s (adds_span e operands demands) = span_answer s.book (feed s.book (edge e))
answer_to choice s (adds_nothing q) = plain (q.told choice s)

-- The answer to a command that is not refused, under a choice of routes.
unfoldable pub answer : Choice → State → Command → Answer
answer choice s c = answer_to choice s (facts c)
