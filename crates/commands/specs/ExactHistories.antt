-- Forecasts to the byte (request 11), worked out from documents 01 and 02: capacities, journals and lengths of the working table; then the
-- number, the place, the length, and what becomes of a table full of sevens. Those that take longer to compute are in journal/specs/Longest.
use Rattle.std.specs.Prelude.{List, [], ◌∷◌, ◌++◌, ℕ, replicate}
use Rattle.commands.specs.Command.{Command, add_cabinet, add_span, district_name, ring_name, shared_mesh, sole_spans, cut_cabinets, is_sole, mark_exchange, holds_exchange, add_duct_span, routes_between, record_length, span_length, exchange_share}
use Rattle.commands.specs.Refusal.{Capacities}
use Rattle.commands.specs.Text.{journal_bytes}
use Rattle.commands.specs.Forecast.{Forecast}
use Rattle.commands.specs.Exact.{exact_forecast, exact_work}

-- The forecast, and the working table on return.
pub record Exactly : Type 0 where
  pub forecast : Forecast
  pub work : List ℕ

-- What the forecast to the byte is handed, and what it returns and leaves.
pub record ExactCall : Type 0 where
  pub capacities : Capacities
  pub work_length : ℕ
  pub journal : List ℕ
  pub outcome : Exactly

-- C, S, the table's length and the journal; then the number returned, the place, the length and the table on return.
unfoldable pub exact_call : ℕ → ℕ → ℕ → List ℕ → ℕ → ℕ → ℕ → List ℕ → ExactCall
exact_call c s work_length journal number place length work =
    record {
      capacities = record { cabinets = c; spans = s };
      work_length = work_length;
      journal = journal;
      outcome = record { forecast = record { number = number; place = place; length = length }; work = work };
    }

-- What is returned and left for the call.
unfoldable pub foretold_exactly : ExactCall → Exactly
foretold_exactly c =
    record {
      forecast = exact_forecast c.capacities c.journal c.work_length;
      work = exact_work c.capacities c.journal (replicate c.work_length 7);
    }

-- Refused at the start: place 0, and the table as before. The later lines of the table of causes apply too.
unfoldable pub exact_at_start : List ExactCall
exact_at_start =
    -- 1: C outside its range
    exact_call 0 1 2 (replicate 65537 0x00) 1 0 0 (7 ∷ 7 ∷ [])
    -- 2: working table too short
    ∷ exact_call 1 1 95 (replicate 65537 0x00) 2 0 0 (replicate 95 7)
    -- 3: journal longer than 65,536 bytes
    ∷ exact_call 1 1 97 (replicate 65537 0x00) 3 0 0 (replicate 97 7)
    ∷ []

-- Stopped: the place of the refused command, whatever was answered before it, and W numbers of the table are 0.
unfoldable pub exact_stopped : List ExactCall
exact_stopped =
    -- 4: a byte that is no command's, with two numbers beyond W
    exact_call 1 1 98 (0x01 ∷ 0x10 ∷ []) 4 1 0 (replicate 96 0 ++ 7 ∷ 7 ∷ [])
    -- 5: operands cut off
    ∷ exact_call 1 1 96 (0x01 ∷ 0x0C ∷ 0 ∷ 0 ∷ 0 ∷ []) 5 1 0 (replicate 96 0)
    -- 6: a cabinet not yet given, in front of operands cut off, where the first forecast says 5 at place 6
    ∷ exact_call 1 1 96 (0x01 ∷ 0x02 ∷ 0 ∷ 0 ∷ 0 ∷ 1 ∷ 0x03 ∷ 0 ∷ []) 6 1 0 (replicate 96 0)
    -- 7: a span not yet given, in front of an unknown byte, where the first forecast says 4 at place 4
    ∷ exact_call 1 1 96 (0x01 ∷ 0x08 ∷ 0 ∷ 5 ∷ 0xFF ∷ []) 7 1 0 (replicate 96 0)
    -- 8: equal cabinets
    ∷ exact_call 1 1 96 (0x01 ∷ 0x05 ∷ 0 ∷ 0 ∷ 0 ∷ 0 ∷ []) 8 1 0 (replicate 96 0)
    -- 9: the last of three cabinets, where there may be two; and with three numbers beyond W
    ∷ exact_call 2 1 120 (replicate 3 0x01) 9 2 0 (replicate 120 0)
    ∷ exact_call 2 1 123 (replicate 3 0x01) 9 2 0 (replicate 120 0 ++ 7 ∷ 7 ∷ 7 ∷ [])
    -- 9: the second of two spans, where there may be one
    ∷ exact_call 2 1 120 (0x01 ∷ 0x01 ∷ 0x02 ∷ 0 ∷ 0 ∷ 0 ∷ 1 ∷ 0x02 ∷ 0 ∷ 0 ∷ 0 ∷ 1 ∷ []) 9 7 0 (replicate 120 0)
    -- 10: sole spans across districts
    ∷ exact_call 2 1 120 (0x01 ∷ 0x01 ∷ 0x06 ∷ 0 ∷ 0 ∷ 0 ∷ 1 ∷ []) 10 2 0 (replicate 120 0)
    -- 12: marked twice
    ∷ exact_call 1 1 96 (0x01 ∷ 0x09 ∷ 0 ∷ 0 ∷ 0x09 ∷ 0 ∷ 0 ∷ []) 12 4 0 (replicate 96 0)
    -- 13: duct 0
    ∷ exact_call 2 1 120 (0x01 ∷ 0x01 ∷ 0x0B ∷ 0 ∷ 0 ∷ 0 ∷ 1 ∷ 0 ∷ 0 ∷ []) 13 2 0 (replicate 120 0)
    -- 14: routes where there are only mates, at the last command
    ∷ exact_call 2 2 128
    (journal_bytes (add_cabinet ∷ add_cabinet ∷ add_span 0 1 ∷ add_span 1 0 ∷ routes_between 0 1 ∷ []))
    14
    12
    0
    (replicate 128 0)
    ∷ []

-- Every command. The answers have 3 and 3 bytes; 12 and 12, with a notice each; 5, 5, 4, 3, 3, 2, 1 and 2; 9, for two routes of one span each;
-- 1, 4 and 3.
unfoldable pub every_command : List Command
every_command =
    add_cabinet
    ∷ add_cabinet
    ∷ add_span 0 1
    ∷ add_duct_span 0 1 5
    ∷ district_name 1
    ∷ ring_name 1
    ∷ shared_mesh 0 1
    ∷ sole_spans 0 1
    ∷ cut_cabinets 0 1
    ∷ is_sole 0
    ∷ mark_exchange 0
    ∷ holds_exchange 1
    ∷ routes_between 0 1
    ∷ record_length 0 1 2
    ∷ span_length 0
    ∷ exchange_share
    ∷ []

-- Accepted: the journal's length, the bytes of all answers, and W numbers of the table are 0.
unfoldable pub exact_accepted : List ExactCall
exact_accepted =
    -- no command; and with two numbers beyond W
    exact_call 1 1 96 [] 0 0 0 (replicate 96 0)
    ∷ exact_call 1 1 98 [] 0 0 0 (replicate 96 0 ++ 7 ∷ 7 ∷ [])
    -- the triangle: 9 for the cabinets, 12 for each span with one notice, 22 for the one with three, where the first forecast says 75; and 11 for
    -- a route of one span and one of two
    ∷ exact_call 3 3 160
    (0x01 ∷ 0x01 ∷ 0x01 ∷ 0x02 ∷ 0 ∷ 0 ∷ 0 ∷ 1 ∷ 0x02 ∷ 0 ∷ 1 ∷ 0 ∷ 2 ∷ 0x02 ∷ 0 ∷ 2 ∷ 0 ∷ 0 ∷ [])
    0
    18
    55
    (replicate 160 0)
    ∷ exact_call 3 3 160
    (0x01 ∷ 0x01 ∷ 0x01 ∷ 0x02 ∷ 0 ∷ 0 ∷ 0 ∷ 1 ∷ 0x02 ∷ 0 ∷ 1 ∷ 0 ∷ 2 ∷ 0x02 ∷ 0 ∷ 2 ∷ 0 ∷ 0 ∷ 0x0C ∷ 0 ∷ 0 ∷ 0 ∷ 1 ∷ [])
    0
    23
    66
    (replicate 160 0)
    -- every command
    ∷ exact_call 2 2 128 (journal_bytes every_command) 0 60 72 (replicate 128 0)
    ∷ []

unfoldable pub exact_calls : List ExactCall
exact_calls = exact_at_start ++ exact_stopped ++ exact_accepted
