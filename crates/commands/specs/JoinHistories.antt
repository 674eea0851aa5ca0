-- Joins in plain numbers (request 9): journals and seams with what is returned; joined networks with what the second was answered alone and what
-- the result is answered; and answers with what they are where they are raised. (The longest are in journal/specs/Longest.)
use Rattle.std.specs.Prelude.{true, List, [], ◌∷◌, ◌++◌, ℕ, replicate}
use Rattle.commands.specs.Field.{district, ring, mesh, fields_bytes}
use Rattle.commands.specs.Command.{add_cabinet, add_span, district_name, ring_name, shared_mesh, sole_spans, cut_cabinets, is_sole, mark_exchange, holds_exchange, add_duct_span, routes_between, record_length, span_length, exchange_share}
use Rattle.commands.specs.Answer.{Answer, cabinet_added, span_added, plain, district_is, ring_is, mesh_shared, no_mesh_shared, sole_spans_are, cut_cabinets_are, sole_is, exchange_marked, exchange_held, routes_are, length_recorded, length_is, no_length, share_is, answer_fields}
use Rattle.commands.specs.Text.{journal_bytes}
use Rattle.commands.specs.Entry.{ran}
use Rattle.commands.specs.Register.{register_routes}
use Rattle.commands.specs.Join.{raise_fields, Seam, run_alone, Joining, join}
use Rattle.commands.specs.Histories.{output, notice, group}
use Rattle.commands.specs.RewriteHistories.{answers_and_number}

unfoldable pub seam : ℕ → ℕ → ℕ → Seam
seam first second duct = record { first = first; second = second; duct = duct }

-- What joining is handed, and what it returns.
pub record JoinCall : Type 0 where
  pub first : List ℕ
  pub second : List ℕ
  pub seams : List Seam
  pub work : ℕ
  pub room : ℕ
  pub joining : Joining

-- The two journals, the seams, the lengths of the working table and of the output buffer; the number returned, and the result.
unfoldable pub join_call : List ℕ → List ℕ → List Seam → ℕ → ℕ → ℕ → List ℕ → JoinCall
join_call first second seams work room number result =
    record {
      first = first;
      second = second;
      seams = seams;
      work = work;
      room = room;
      joining = record { number = number; result = result };
    }

unfoldable pub joining_of : JoinCall → Joining
joining_of c = join c.work c.room c.first c.second c.seams

-- Two cabinets and a span between them.
unfoldable pub pair : List ℕ
pair = 0x01 ∷ 0x01 ∷ 0x02 ∷ 0 ∷ 0 ∷ 0 ∷ 1 ∷ []

unfoldable pub joins : List JoinCall
joins =
    -- nothing and nothing; a seam between them names cabinets that there are not
    join_call [] [] [] 163904 0 0 []
    ∷ join_call [] [] (seam 0 0 1 ∷ []) 163904 9 18 []
    -- nothing before a journal, and nothing behind one
    ∷ join_call [] pair [] 163904 7 0 pair
    ∷ join_call pair [] [] 163904 7 0 pair
    -- every command behind two cabinets and a span
    ∷ join_call
    pair
    (journal_bytes
    (add_cabinet
    ∷ add_cabinet
    ∷ add_cabinet
    ∷ add_span 0 1
    ∷ add_duct_span 1 0 5
    ∷ district_name 1
    ∷ ring_name 1
    ∷ shared_mesh 0 2
    ∷ sole_spans 0 1
    ∷ cut_cabinets 1 0
    ∷ is_sole 1
    ∷ mark_exchange 2
    ∷ holds_exchange 2
    ∷ routes_between 0 1
    ∷ record_length 1 3 4
    ∷ span_length 0
    ∷ exchange_share
    ∷ []))
    (seam 1 2 9 ∷ seam 0 0 1 ∷ [])
    163904
    100
    0
    (pair
    ++ journal_bytes
    (add_cabinet
    ∷ add_cabinet
    ∷ add_cabinet
    ∷ add_span 2 3
    ∷ add_duct_span 3 2 5
    ∷ district_name 3
    ∷ ring_name 3
    ∷ shared_mesh 2 4
    ∷ sole_spans 2 3
    ∷ cut_cabinets 3 2
    ∷ is_sole 2
    ∷ mark_exchange 4
    ∷ holds_exchange 4
    ∷ routes_between 2 3
    ∷ record_length 2 3 4
    ∷ span_length 1
    ∷ exchange_share
    ∷ add_duct_span 1 4 9
    ∷ add_duct_span 0 2 1
    ∷ []))
    -- equal seams are two spans
    ∷ join_call (0x01 ∷ []) (0x01 ∷ []) (seam 0 0 1 ∷ seam 0 0 1 ∷ []) 163904 16 0
    (0x01 ∷ 0x01 ∷ 0x0B ∷ 0 ∷ 0 ∷ 0 ∷ 1 ∷ 0 ∷ 1 ∷ 0x0B ∷ 0 ∷ 0 ∷ 0 ∷ 1 ∷ 0 ∷ 1 ∷ [])
    -- 2: a working table too short by one, alone, and where the journals, the seam and the buffer are refused too
    ∷ join_call pair pair [] 163903 100 2 []
    ∷ join_call (0x00 ∷ []) (replicate 65537 0x0F) (seam 9 9 0 ∷ []) 163903 0 2 []
    -- 17: an unknown byte, cut-off operands, a command that a run refuses, a journal too long; in the first, in the second, and before 18 and 19
    ∷ join_call (0x10 ∷ []) [] [] 163904 9 17 []
    ∷ join_call [] (0x01 ∷ 0x03 ∷ 0 ∷ []) [] 163904 9 17 []
    ∷ join_call (0x01 ∷ 0x02 ∷ 0 ∷ 0 ∷ 0 ∷ 0 ∷ []) pair (seam 7 7 0 ∷ []) 163904 0 17 []
    ∷ join_call pair (0x08 ∷ 0 ∷ 0 ∷ []) [] 163904 9 17 []
    ∷ join_call (replicate 65537 0x0F) [] [] 163904 9 17 []
    ∷ join_call [] (replicate 65537 0x0F) [] 163904 9 17 []
    -- 18: a cabinet that the first lacks, one that the second lacks, duct 0; only in the last seam, and before 19
    ∷ join_call (0x01 ∷ []) pair (seam 1 1 3 ∷ []) 163904 100 18 []
    ∷ join_call pair (0x01 ∷ []) (seam 1 1 3 ∷ []) 163904 100 18 []
    ∷ join_call pair pair (seam 1 1 0 ∷ []) 163904 100 18 []
    ∷ join_call pair pair (seam 1 1 1 ∷ seam 0 0 2 ∷ seam 0 2 2 ∷ []) 163904 0 18 []
    -- 19: the result is longer, by one byte, than the output buffer, and one byte more of it suffices
    ∷ join_call pair (0x01 ∷ []) (seam 1 0 3 ∷ []) 163904 14 19 []
    ∷ join_call pair (0x01 ∷ []) (seam 1 0 3 ∷ []) 163905 15 0 (pair ++ 0x01 ∷ 0x0B ∷ 0 ∷ 1 ∷ 0 ∷ 2 ∷ 0 ∷ 3 ∷ [])
    ∷ []

-- A join, and the answers' bytes of runs with ample room, each with the number returned behind them: of the second alone, and of the result.
pub record JoinedHistory : Type 0 where
  pub first : List ℕ
  pub second : List ℕ
  pub seams : List Seam
  pub alone : List ℕ
  pub joined : List ℕ

-- What the definitions make of two journals and seams.
unfoldable pub joined_of : JoinedHistory → JoinedHistory
joined_of h =
    record {
      first = h.first;
      second = h.second;
      seams = h.seams;
      alone = answers_and_number (ran (run_alone register_routes h.second));
      joined = answers_and_number (ran (run_alone register_routes (join 163904 65536 h.first h.second h.seams).result));
    }

-- Behind two cabinets, a span and an exchange: numbers and names are raised; sizes, metres, flags and the 0000 of no shared mesh and of no
-- length are not, and the share is over both. Then a seam joins two districts of two.
unfoldable pub questions_behind : JoinedHistory
questions_behind =
    record {
      first = journal_bytes (add_cabinet ∷ add_cabinet ∷ add_span 0 1 ∷ mark_exchange 0 ∷ []);
      second =
          journal_bytes
          (add_cabinet
          ∷ add_cabinet
          ∷ add_cabinet
          ∷ add_span 0 1
          ∷ shared_mesh 0 2
          ∷ shared_mesh 1 0
          ∷ span_length 0
          ∷ record_length 0 5 7
          ∷ span_length 0
          ∷ mark_exchange 1
          ∷ holds_exchange 1
          ∷ exchange_share
          ∷ district_name 1
          ∷ ring_name 2
          ∷ sole_spans 0 1
          ∷ cut_cabinets 0 1
          ∷ is_sole 0
          ∷ []);
      seams = seam 0 1 4 ∷ [];
      alone =
          output
          (cabinet_added 0
          ∷ cabinet_added 1
          ∷ cabinet_added 2
          ∷ span_added 0 0 (notice district 1 0 ∷ [])
          ∷ plain no_mesh_shared
          ∷ plain (mesh_shared 0)
          ∷ plain no_length
          ∷ plain length_recorded
          ∷ plain (length_is 7)
          ∷ plain exchange_marked
          ∷ plain (exchange_held true)
          ∷ plain (share_is 333)
          ∷ plain (district_is (group 0 2))
          ∷ plain (ring_is (group 2 1))
          ∷ plain (sole_spans_are (0 ∷ []))
          ∷ plain (cut_cabinets_are [])
          ∷ plain (sole_is true)
          ∷ [])
          (0 ∷ []);
      joined =
          output
          (cabinet_added 0
          ∷ cabinet_added 1
          ∷ span_added 0 0 (notice district 1 0 ∷ [])
          ∷ plain exchange_marked
          ∷ cabinet_added 2
          ∷ cabinet_added 3
          ∷ cabinet_added 4
          ∷ span_added 1 1 (notice district 3 2 ∷ [])
          ∷ plain no_mesh_shared
          ∷ plain (mesh_shared 1)
          ∷ plain no_length
          ∷ plain length_recorded
          ∷ plain (length_is 7)
          ∷ plain exchange_marked
          ∷ plain (exchange_held true)
          ∷ plain (share_is 400)
          ∷ plain (district_is (group 2 2))
          ∷ plain (ring_is (group 4 1))
          ∷ plain (sole_spans_are (1 ∷ []))
          ∷ plain (cut_cabinets_are [])
          ∷ plain (sole_is true)
          ∷ span_added 2 2 (notice district 2 0 ∷ notice district 3 0 ∷ [])
          ∷ [])
          (0 ∷ []);
    }

-- A ring of three cabinets behind a ring of two, with its cut cabinet, its sole spans, its routes and notices of all kinds; then two seams make
-- one ring of both.
unfoldable pub rings_behind : JoinedHistory
rings_behind =
    record {
      first = journal_bytes (add_cabinet ∷ add_cabinet ∷ add_duct_span 0 1 1 ∷ add_duct_span 0 1 2 ∷ []);
      second =
          journal_bytes
          (add_cabinet
          ∷ add_cabinet
          ∷ add_cabinet
          ∷ add_span 0 1
          ∷ add_span 1 2
          ∷ cut_cabinets 0 2
          ∷ sole_spans 0 2
          ∷ add_span 2 0
          ∷ routes_between 1 2
          ∷ []);
      seams = seam 1 0 1 ∷ seam 0 2 1 ∷ [];
      alone =
          output
          (cabinet_added 0
          ∷ cabinet_added 1
          ∷ cabinet_added 2
          ∷ span_added 0 0 (notice district 1 0 ∷ [])
          ∷ span_added 1 1 (notice district 2 0 ∷ [])
          ∷ plain (cut_cabinets_are (1 ∷ []))
          ∷ plain (sole_spans_are (0 ∷ 1 ∷ []))
          ∷ span_added 2 0 (notice ring 1 0 ∷ notice ring 2 0 ∷ notice mesh 1 0 ∷ [])
          ∷ plain (routes_are (1 ∷ []) (0 ∷ 2 ∷ []))
          ∷ [])
          (0 ∷ []);
      joined =
          output
          (cabinet_added 0
          ∷ cabinet_added 1
          ∷ span_added 0 0 (notice district 1 0 ∷ [])
          ∷ span_added 1 0 (notice ring 1 0 ∷ [])
          ∷ cabinet_added 2
          ∷ cabinet_added 3
          ∷ cabinet_added 4
          ∷ span_added 2 2 (notice district 3 2 ∷ [])
          ∷ span_added 3 3 (notice district 4 2 ∷ [])
          ∷ plain (cut_cabinets_are (3 ∷ []))
          ∷ plain (sole_spans_are (2 ∷ 3 ∷ []))
          ∷ span_added 4 2 (notice ring 3 2 ∷ notice ring 4 2 ∷ notice mesh 3 2 ∷ [])
          ∷ plain (routes_are (3 ∷ []) (2 ∷ 4 ∷ []))
          ∷ span_added 5 5 (notice district 0 2 ∷ notice district 1 2 ∷ [])
          ∷ span_added 6 2 (notice ring 0 2 ∷ notice ring 1 2 ∷ notice mesh 0 2 ∷ notice mesh 1 2 ∷ notice mesh 5 2 ∷ [])
          ∷ [])
          (0 ∷ []);
    }

unfoldable pub joined_histories : List JoinedHistory
joined_histories = questions_behind ∷ rings_behind ∷ []

-- Answers of every kind that hold a number or a name of an item, and what they are where they are raised by two cabinets and three spans.
unfoldable pub answers_alone : List Answer
answers_alone =
    cabinet_added 1
    ∷ span_added 1 0 (notice district 1 0 ∷ notice ring 1 0 ∷ notice mesh 1 0 ∷ [])
    ∷ plain (district_is (group 1 9))
    ∷ plain (ring_is (group 0 9))
    ∷ plain (mesh_shared 1)
    ∷ plain (sole_spans_are (1 ∷ 0 ∷ []))
    ∷ plain (cut_cabinets_are (1 ∷ 0 ∷ []))
    ∷ plain (routes_are (1 ∷ []) (0 ∷ 2 ∷ []))
    ∷ []

unfoldable pub answers_behind : List Answer
answers_behind =
    cabinet_added 3
    ∷ span_added 4 3 (notice district 3 2 ∷ notice ring 3 2 ∷ notice mesh 4 3 ∷ [])
    ∷ plain (district_is (group 3 9))
    ∷ plain (ring_is (group 2 9))
    ∷ plain (mesh_shared 4)
    ∷ plain (sole_spans_are (4 ∷ 3 ∷ []))
    ∷ plain (cut_cabinets_are (3 ∷ 2 ∷ []))
    ∷ plain (routes_are (4 ∷ []) (3 ∷ 5 ∷ []))
    ∷ []

-- The others stay as they are.
unfoldable pub answers_staying : List Answer
answers_staying =
    plain no_mesh_shared
    ∷ plain (sole_is true)
    ∷ plain exchange_marked
    ∷ plain (exchange_held true)
    ∷ plain length_recorded
    ∷ plain (length_is 7)
    ∷ plain no_length
    ∷ plain (share_is 9)
    ∷ []

-- The bytes of an answer that is raised by these counts.
unfoldable pub raised_bytes : Answer → List ℕ
raised_bytes a = fields_bytes (raise_fields (record { cabinets = 2; spans = 3 }) (answer_fields a))
