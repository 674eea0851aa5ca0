-- Calls of the entries in plain numbers. Of the run, line by line of the table of causes: what is handed in, what is returned, and what
-- every buffer then holds. Of the forecast and of rewriting: journals, and what is returned; the longest are in journal/specs/Longest.
use Rattle.std.specs.Prelude.{List, [], ◌∷◌, ◌++◌, ℕ, zero, suc, replicate}
use Rattle.commands.specs.Refusal.{Capacities}
use Rattle.commands.specs.Entry.{Buffers, Outcome}
use Rattle.commands.specs.Register.{register}
use Rattle.commands.specs.Forecast.{Forecast}
use Rattle.commands.specs.Rewrite.{Rewriting, rewrite}

-- What the run's entry is handed, and what it returns and leaves.
pub record Call : Type 0 where
  pub capacities : Capacities
  pub journal : List ℕ
  pub lent : Buffers
  pub outcome : Outcome

-- Buffers of these lengths, full of sevens: working table, answers, report.
unfoldable pub sevens : ℕ → ℕ → ℕ → Buffers
sevens work answers report = record { work = replicate work 7; answers = replicate answers 7; report = replicate report 7 }

-- C, S, the buffers' lengths and the journal; then the number returned and the working table, answers and report on return.
unfoldable pub call : ℕ → ℕ → ℕ → ℕ → ℕ → List ℕ → ℕ → List ℕ → List ℕ → List ℕ → Call
call c s work_length answers_length report_length journal number work answers report =
    record {
      capacities = record { cabinets = c; spans = s };
      journal = journal;
      lent = sevens work_length answers_length report_length;
      outcome = record { returned = number; buffers = record { work = work; answers = answers; report = report } };
    }

-- The same, and every buffer is left as it was.
unfoldable pub at_start : ℕ → ℕ → ℕ → ℕ → ℕ → List ℕ → ℕ → Call
at_start c s work_length answers_length report_length journal number =
    call c s work_length answers_length report_length journal number (replicate work_length 7) (replicate answers_length 7) (replicate report_length 7)

-- Returned at the start: only the number. The later lines of the table apply too.
unfoldable pub start_calls : List Call
start_calls =
    -- 1: C or S outside its range
    at_start 0 1 0 2 5 (replicate 65537 0) 1
    ∷ at_start 4097 1 0 2 5 (replicate 65537 0) 1
    ∷ at_start 1 0 0 2 5 (replicate 65537 0) 1
    ∷ at_start 1 8193 0 2 5 (replicate 65537 0) 1
    -- 2: working table or report too short
    ∷ at_start 4096 8192 0 2 6 (replicate 65537 0) 2
    ∷ at_start 1 1 95 2 6 (replicate 65537 0) 2
    ∷ at_start 1 1 96 2 5 (replicate 65537 0) 2
    -- 3: journal longer than 65,536 bytes
    ∷ at_start 1 1 96 2 6 (replicate 65537 0) 3
    ∷ []

-- Stopped: W numbers of the working table are 0, the report is filled, earlier answers stand, and the rest is as it was.
unfoldable pub stop_calls : List Call
stop_calls =
    -- 4: a byte that is no command's: not 01 to 0F
    call 1 1 96 2 6 (replicate 65536 0x00) 4 (replicate 96 0) (7 ∷ 7 ∷ []) (4 ∷ 0 ∷ 0 ∷ 0 ∷ 0 ∷ 0 ∷ [])
    ∷ call 1 1 98 5 8 (0x01 ∷ 0x10 ∷ []) 4
    (replicate 96 0 ++ 7 ∷ 7 ∷ [])
    (0x81 ∷ 0 ∷ 0 ∷ 7 ∷ 7 ∷ [])
    (4 ∷ 1 ∷ 1 ∷ 3 ∷ 1 ∷ 0 ∷ 7 ∷ 7 ∷ [])
    ∷ call 1 1 96 2 6 (0xFF ∷ []) 4 (replicate 96 0) (7 ∷ 7 ∷ []) (4 ∷ 0 ∷ 0 ∷ 0 ∷ 0 ∷ 0 ∷ [])
    -- 5: operands cut off by the journal's end, of cabinets not yet given
    ∷ call 1 1 96 2 6 (0x02 ∷ 0 ∷ 0 ∷ 0 ∷ []) 5 (replicate 96 0) (7 ∷ 7 ∷ []) (5 ∷ 0 ∷ 0 ∷ 0 ∷ 0 ∷ 0 ∷ [])
    ∷ call 1 1 96 2 6 (0x09 ∷ 0 ∷ []) 5 (replicate 96 0) (7 ∷ 7 ∷ []) (5 ∷ 0 ∷ 0 ∷ 0 ∷ 0 ∷ 0 ∷ [])
    ∷ call 1 1 96 2 6 (0x0A ∷ 0 ∷ []) 5 (replicate 96 0) (7 ∷ 7 ∷ []) (5 ∷ 0 ∷ 0 ∷ 0 ∷ 0 ∷ 0 ∷ [])
    ∷ call 1 1 96 2 6 (0x0B ∷ 0 ∷ 0 ∷ 0 ∷ 0 ∷ 0 ∷ []) 5 (replicate 96 0) (7 ∷ 7 ∷ []) (5 ∷ 0 ∷ 0 ∷ 0 ∷ 0 ∷ 0 ∷ [])
    ∷ call 1 1 96 2 6 (0x0C ∷ 0 ∷ 0 ∷ 0 ∷ []) 5 (replicate 96 0) (7 ∷ 7 ∷ []) (5 ∷ 0 ∷ 0 ∷ 0 ∷ 0 ∷ 0 ∷ [])
    ∷ call 1 1 96 2 6 (0x0D ∷ 0 ∷ 0 ∷ 0 ∷ 0 ∷ 0 ∷ []) 5 (replicate 96 0) (7 ∷ 7 ∷ []) (5 ∷ 0 ∷ 0 ∷ 0 ∷ 0 ∷ 0 ∷ [])
    ∷ call 1 1 96 2 6 (0x0E ∷ 0 ∷ []) 5 (replicate 96 0) (7 ∷ 7 ∷ []) (5 ∷ 0 ∷ 0 ∷ 0 ∷ 0 ∷ 0 ∷ [])
    -- 6: a cabinet number not yet given; in the second and the fourth, equal to the other; in the third, with duct 0
    ∷ call 1 1 96 3 6 (0x01 ∷ 0x02 ∷ 0 ∷ 0 ∷ 0 ∷ 1 ∷ []) 6 (replicate 96 0) (0x81 ∷ 0 ∷ 0 ∷ []) (6 ∷ 1 ∷ 1 ∷ 3 ∷ 1 ∷ 0 ∷ [])
    ∷ call 1 1 96 3 6 (0x01 ∷ 0x05 ∷ 0 ∷ 1 ∷ 0 ∷ 1 ∷ []) 6 (replicate 96 0) (0x81 ∷ 0 ∷ 0 ∷ []) (6 ∷ 1 ∷ 1 ∷ 3 ∷ 1 ∷ 0 ∷ [])
    ∷ call 1 1 96 3 6 (0x01 ∷ 0x0B ∷ 0 ∷ 1 ∷ 0 ∷ 1 ∷ 0 ∷ 0 ∷ []) 6 (replicate 96 0) (0x81 ∷ 0 ∷ 0 ∷ []) (6 ∷ 1 ∷ 1 ∷ 3 ∷ 1 ∷ 0 ∷ [])
    ∷ call 1 1 96 3 6 (0x01 ∷ 0x0C ∷ 0 ∷ 1 ∷ 0 ∷ 1 ∷ []) 6 (replicate 96 0) (0x81 ∷ 0 ∷ 0 ∷ []) (6 ∷ 1 ∷ 1 ∷ 3 ∷ 1 ∷ 0 ∷ [])
    -- 7: a span number not yet given, equal to a cabinet's, and no room for the answer
    ∷ call 1 1 96 3 6 (0x01 ∷ 0x08 ∷ 0 ∷ 0 ∷ []) 7 (replicate 96 0) (0x81 ∷ 0 ∷ 0 ∷ []) (7 ∷ 1 ∷ 1 ∷ 3 ∷ 1 ∷ 0 ∷ [])
    ∷ call 1 1 96 3 6 (0x01 ∷ 0x0D ∷ 0 ∷ 0 ∷ 0 ∷ 1 ∷ 0 ∷ 2 ∷ []) 7 (replicate 96 0) (0x81 ∷ 0 ∷ 0 ∷ []) (7 ∷ 1 ∷ 1 ∷ 3 ∷ 1 ∷ 0 ∷ [])
    ∷ call 1 1 96 3 6 (0x01 ∷ 0x0E ∷ 0 ∷ 0 ∷ []) 7 (replicate 96 0) (0x81 ∷ 0 ∷ 0 ∷ []) (7 ∷ 1 ∷ 1 ∷ 3 ∷ 1 ∷ 0 ∷ [])
    -- 8: 05 and 0C with equal cabinets; 02 too, with S spans present; 0B too, with duct 0
    ∷ call 1 1 96 3 6 (0x01 ∷ 0x0C ∷ 0 ∷ 0 ∷ 0 ∷ 0 ∷ []) 8 (replicate 96 0) (0x81 ∷ 0 ∷ 0 ∷ []) (8 ∷ 1 ∷ 1 ∷ 3 ∷ 1 ∷ 0 ∷ [])
    ∷ call 1 1 96 3 6 (0x01 ∷ 0x05 ∷ 0 ∷ 0 ∷ 0 ∷ 0 ∷ []) 8 (replicate 96 0) (0x81 ∷ 0 ∷ 0 ∷ []) (8 ∷ 1 ∷ 1 ∷ 3 ∷ 1 ∷ 0 ∷ [])
    ∷ call 2 1 120 18 6 (0x01 ∷ 0x01 ∷ 0x02 ∷ 0 ∷ 0 ∷ 0 ∷ 1 ∷ 0x02 ∷ 0 ∷ 1 ∷ 0 ∷ 1 ∷ []) 8
    (replicate 120 0)
    (0x81 ∷ 0 ∷ 0 ∷ 0x81 ∷ 0 ∷ 1 ∷ 0x82 ∷ 0 ∷ 0 ∷ 0 ∷ 0 ∷ 0 ∷ 1 ∷ 0x01 ∷ 0 ∷ 1 ∷ 0 ∷ 0 ∷ [])
    (8 ∷ 7 ∷ 3 ∷ 18 ∷ 2 ∷ 1 ∷ [])
    ∷ call 2 1 120 18 6 (0x01 ∷ 0x01 ∷ 0x02 ∷ 0 ∷ 0 ∷ 0 ∷ 1 ∷ 0x0B ∷ 0 ∷ 1 ∷ 0 ∷ 1 ∷ 0 ∷ 0 ∷ []) 8
    (replicate 120 0)
    (0x81 ∷ 0 ∷ 0 ∷ 0x81 ∷ 0 ∷ 1 ∷ 0x82 ∷ 0 ∷ 0 ∷ 0 ∷ 0 ∷ 0 ∷ 1 ∷ 0x01 ∷ 0 ∷ 1 ∷ 0 ∷ 0 ∷ [])
    (8 ∷ 7 ∷ 3 ∷ 18 ∷ 2 ∷ 1 ∷ [])
    -- 12: 09 of an exchange, with C cabinets present and no room for the answer
    ∷ call 1 1 96 4 6 (0x01 ∷ 0x09 ∷ 0 ∷ 0 ∷ 0x09 ∷ 0 ∷ 0 ∷ []) 12
    (replicate 96 0)
    (0x81 ∷ 0 ∷ 0 ∷ 0x89 ∷ [])
    (12 ∷ 4 ∷ 2 ∷ 4 ∷ 1 ∷ 0 ∷ [])
    -- 13: 0B with duct 0, with S spans present and no room for the answer
    ∷ call 2 1 120 18 6 (0x01 ∷ 0x01 ∷ 0x02 ∷ 0 ∷ 0 ∷ 0 ∷ 1 ∷ 0x0B ∷ 0 ∷ 1 ∷ 0 ∷ 0 ∷ 0 ∷ 0 ∷ []) 13
    (replicate 120 0)
    (0x81 ∷ 0 ∷ 0 ∷ 0x81 ∷ 0 ∷ 1 ∷ 0x82 ∷ 0 ∷ 0 ∷ 0 ∷ 0 ∷ 0 ∷ 1 ∷ 0x01 ∷ 0 ∷ 1 ∷ 0 ∷ 0 ∷ [])
    (13 ∷ 7 ∷ 3 ∷ 18 ∷ 2 ∷ 1 ∷ [])
    -- 9: 01 with C cabinets, or 02 or 0B with S spans present, and no room for the answer
    ∷ call 1 1 96 3 6 (0x01 ∷ 0x01 ∷ []) 9 (replicate 96 0) (0x81 ∷ 0 ∷ 0 ∷ []) (9 ∷ 1 ∷ 1 ∷ 3 ∷ 1 ∷ 0 ∷ [])
    ∷ call 2 1 120 18 6 (0x01 ∷ 0x01 ∷ 0x02 ∷ 0 ∷ 0 ∷ 0 ∷ 1 ∷ 0x02 ∷ 0 ∷ 1 ∷ 0 ∷ 0 ∷ []) 9
    (replicate 120 0)
    (0x81 ∷ 0 ∷ 0 ∷ 0x81 ∷ 0 ∷ 1 ∷ 0x82 ∷ 0 ∷ 0 ∷ 0 ∷ 0 ∷ 0 ∷ 1 ∷ 0x01 ∷ 0 ∷ 1 ∷ 0 ∷ 0 ∷ [])
    (9 ∷ 7 ∷ 3 ∷ 18 ∷ 2 ∷ 1 ∷ [])
    ∷ call 2 1 120 18 6 (0x01 ∷ 0x01 ∷ 0x02 ∷ 0 ∷ 0 ∷ 0 ∷ 1 ∷ 0x0B ∷ 0 ∷ 1 ∷ 0 ∷ 0 ∷ 0 ∷ 5 ∷ []) 9
    (replicate 120 0)
    (0x81 ∷ 0 ∷ 0 ∷ 0x81 ∷ 0 ∷ 1 ∷ 0x82 ∷ 0 ∷ 0 ∷ 0 ∷ 0 ∷ 0 ∷ 1 ∷ 0x01 ∷ 0 ∷ 1 ∷ 0 ∷ 0 ∷ [])
    (9 ∷ 7 ∷ 3 ∷ 18 ∷ 2 ∷ 1 ∷ [])
    -- 10: 06 or 07 across districts, and no room for the answer
    ∷ call 2 1 120 6 6 (0x01 ∷ 0x01 ∷ 0x06 ∷ 0 ∷ 0 ∷ 0 ∷ 1 ∷ []) 10
    (replicate 120 0)
    (0x81 ∷ 0 ∷ 0 ∷ 0x81 ∷ 0 ∷ 1 ∷ [])
    (10 ∷ 2 ∷ 2 ∷ 6 ∷ 2 ∷ 0 ∷ [])
    ∷ call 2 1 120 6 6 (0x01 ∷ 0x01 ∷ 0x07 ∷ 0 ∷ 0 ∷ 0 ∷ 1 ∷ []) 10
    (replicate 120 0)
    (0x81 ∷ 0 ∷ 0 ∷ 0x81 ∷ 0 ∷ 1 ∷ [])
    (10 ∷ 2 ∷ 2 ∷ 6 ∷ 2 ∷ 0 ∷ [])
    -- 14: 0C across districts, and across rings of one district, and no room for the answer
    ∷ call 2 1 120 6 6 (0x01 ∷ 0x01 ∷ 0x0C ∷ 0 ∷ 0 ∷ 0 ∷ 1 ∷ []) 14
    (replicate 120 0)
    (0x81 ∷ 0 ∷ 0 ∷ 0x81 ∷ 0 ∷ 1 ∷ [])
    (14 ∷ 2 ∷ 2 ∷ 6 ∷ 2 ∷ 0 ∷ [])
    ∷ call 2 1 120 18 6 (0x01 ∷ 0x01 ∷ 0x02 ∷ 0 ∷ 0 ∷ 0 ∷ 1 ∷ 0x0C ∷ 0 ∷ 1 ∷ 0 ∷ 0 ∷ []) 14
    (replicate 120 0)
    (0x81 ∷ 0 ∷ 0 ∷ 0x81 ∷ 0 ∷ 1 ∷ 0x82 ∷ 0 ∷ 0 ∷ 0 ∷ 0 ∷ 0 ∷ 1 ∷ 0x01 ∷ 0 ∷ 1 ∷ 0 ∷ 0 ∷ [])
    (14 ∷ 7 ∷ 3 ∷ 18 ∷ 2 ∷ 1 ∷ [])
    -- 11: the answer is longer, by one byte, than what is left of the answer buffer
    ∷ call 1 1 96 2 6 (0x01 ∷ []) 11 (replicate 96 0) (7 ∷ 7 ∷ []) (11 ∷ 0 ∷ 0 ∷ 0 ∷ 0 ∷ 0 ∷ [])
    ∷ call 1 1 96 3 6 (0x01 ∷ 0x09 ∷ 0 ∷ 0 ∷ []) 11 (replicate 96 0) (0x81 ∷ 0 ∷ 0 ∷ []) (11 ∷ 1 ∷ 1 ∷ 3 ∷ 1 ∷ 0 ∷ [])
    ∷ call 1 1 96 2 6 (0x0F ∷ []) 11 (replicate 96 0) (7 ∷ 7 ∷ []) (11 ∷ 0 ∷ 0 ∷ 0 ∷ 0 ∷ 0 ∷ [])
    ∷ call 1 1 96 7 6 (0x01 ∷ 0x03 ∷ 0 ∷ 0 ∷ []) 11 (replicate 96 0) (0x81 ∷ 0 ∷ 0 ∷ 7 ∷ 7 ∷ 7 ∷ 7 ∷ []) (11 ∷ 1 ∷ 1 ∷ 3 ∷ 1 ∷ 0 ∷ [])
    ∷ call 1 1 96 7 6 (0x01 ∷ 0x04 ∷ 0 ∷ 0 ∷ []) 11 (replicate 96 0) (0x81 ∷ 0 ∷ 0 ∷ 7 ∷ 7 ∷ 7 ∷ 7 ∷ []) (11 ∷ 1 ∷ 1 ∷ 3 ∷ 1 ∷ 0 ∷ [])
    ∷ call 2 1 120 17 6 (0x01 ∷ 0x01 ∷ 0x02 ∷ 0 ∷ 0 ∷ 0 ∷ 1 ∷ []) 11
    (replicate 120 0)
    (0x81 ∷ 0 ∷ 0 ∷ 0x81 ∷ 0 ∷ 1 ∷ replicate 11 7)
    (11 ∷ 2 ∷ 2 ∷ 6 ∷ 2 ∷ 0 ∷ [])
    ∷ call 2 1 120 17 6 (0x01 ∷ 0x01 ∷ 0x0B ∷ 0 ∷ 0 ∷ 0 ∷ 1 ∷ 0 ∷ 5 ∷ []) 11
    (replicate 120 0)
    (0x81 ∷ 0 ∷ 0 ∷ 0x81 ∷ 0 ∷ 1 ∷ replicate 11 7)
    (11 ∷ 2 ∷ 2 ∷ 6 ∷ 2 ∷ 0 ∷ [])
    ∷ call 2 2 128 38 6 (0x01 ∷ 0x01 ∷ 0x02 ∷ 0 ∷ 0 ∷ 0 ∷ 1 ∷ 0x0B ∷ 0 ∷ 0 ∷ 0 ∷ 1 ∷ 0 ∷ 1 ∷ 0x0C ∷ 0 ∷ 0 ∷ 0 ∷ 1 ∷ []) 11
    (replicate 128 0)
    (0x81 ∷ 0 ∷ 0
    ∷ 0x81 ∷ 0 ∷ 1
    ∷ 0x82 ∷ 0 ∷ 0 ∷ 0 ∷ 0 ∷ 0 ∷ 1 ∷ 0x01 ∷ 0 ∷ 1 ∷ 0 ∷ 0
    ∷ 0x82 ∷ 0 ∷ 1 ∷ 0 ∷ 0 ∷ 0 ∷ 1 ∷ 0x02 ∷ 0 ∷ 1 ∷ 0 ∷ 0
    ∷ replicate 8 7)
    (11 ∷ 14 ∷ 4 ∷ 30 ∷ 2 ∷ 2 ∷ [])
    ∷ call 2 1 120 18 6 (0x01 ∷ 0x01 ∷ 0x02 ∷ 0 ∷ 0 ∷ 0 ∷ 1 ∷ 0x0D ∷ 0 ∷ 0 ∷ 0 ∷ 0 ∷ 0 ∷ 0 ∷ []) 11
    (replicate 120 0)
    (0x81 ∷ 0 ∷ 0 ∷ 0x81 ∷ 0 ∷ 1 ∷ 0x82 ∷ 0 ∷ 0 ∷ 0 ∷ 0 ∷ 0 ∷ 1 ∷ 0x01 ∷ 0 ∷ 1 ∷ 0 ∷ 0 ∷ [])
    (11 ∷ 7 ∷ 3 ∷ 18 ∷ 2 ∷ 1 ∷ [])
    ∷ call 2 1 120 21 6 (0x01 ∷ 0x01 ∷ 0x02 ∷ 0 ∷ 0 ∷ 0 ∷ 1 ∷ 0x0E ∷ 0 ∷ 0 ∷ []) 11
    (replicate 120 0)
    (0x81 ∷ 0 ∷ 0 ∷ 0x81 ∷ 0 ∷ 1 ∷ 0x82 ∷ 0 ∷ 0 ∷ 0 ∷ 0 ∷ 0 ∷ 1 ∷ 0x01 ∷ 0 ∷ 1 ∷ 0 ∷ 0 ∷ 7 ∷ 7 ∷ 7 ∷ [])
    (11 ∷ 7 ∷ 3 ∷ 18 ∷ 2 ∷ 1 ∷ [])
    ∷ []

-- The answers to the first cabinets, up to 256 of them.
unfoldable pub cabinet_answers : ℕ → List ℕ
cabinet_answers zero = []
cabinet_answers (suc k) = cabinet_answers k ++ 0x81 ∷ 0 ∷ k ∷ []

-- Accepted: 0 is returned and the place is the journal's length. Every kind of answer.
unfoldable pub accepted_calls : List Call
accepted_calls =
    -- no command, with room for no answer
    call 1 1 97 0 6 [] 0 (replicate 96 0 ++ 7 ∷ []) [] (0 ∷ 0 ∷ 0 ∷ 0 ∷ 0 ∷ 0 ∷ [])
    -- 81 that fits to the byte
    ∷ call 1 1 96 3 6 (0x01 ∷ []) 0 (replicate 96 0) (0x81 ∷ 0 ∷ 0 ∷ []) (0 ∷ 1 ∷ 1 ∷ 3 ∷ 1 ∷ 0 ∷ [])
    -- 89, 8A with 0 and with 1, and 8F, that fit to the byte, with C cabinets present
    ∷ call 1 1 96 11 6 (0x01 ∷ 0x0A ∷ 0 ∷ 0 ∷ 0x09 ∷ 0 ∷ 0 ∷ 0x0A ∷ 0 ∷ 0 ∷ 0x0F ∷ []) 0
    (replicate 96 0)
    (0x81 ∷ 0 ∷ 0 ∷ 0x8A ∷ 0 ∷ 0x89 ∷ 0x8A ∷ 1 ∷ 0x8F ∷ 0x03 ∷ 0xE8 ∷ [])
    (0 ∷ 11 ∷ 5 ∷ 11 ∷ 1 ∷ 0 ∷ [])
    -- 85 without a mesh
    ∷ call 2 1 120 10 6 (0x01 ∷ 0x01 ∷ 0x05 ∷ 0 ∷ 0 ∷ 0 ∷ 1 ∷ []) 0
    (replicate 120 0)
    (0x81 ∷ 0 ∷ 0 ∷ 0x81 ∷ 0 ∷ 1 ∷ 0x85 ∷ 0 ∷ 0 ∷ 0 ∷ [])
    (0 ∷ 7 ∷ 3 ∷ 10 ∷ 2 ∷ 0 ∷ [])
    -- one span: 82 with a district notice, 83 and 84 with their sizes, 85 with a mesh, 86 with the span, 87 with none, 88 with 1
    ∷ call 2 1 120 42 6
    (0x01
    ∷ 0x01
    ∷ 0x02 ∷ 0 ∷ 0 ∷ 0 ∷ 1
    ∷ 0x03 ∷ 0 ∷ 1
    ∷ 0x04 ∷ 0 ∷ 1
    ∷ 0x05 ∷ 0 ∷ 1 ∷ 0 ∷ 0
    ∷ 0x06 ∷ 0 ∷ 0 ∷ 0 ∷ 1
    ∷ 0x07 ∷ 0 ∷ 0 ∷ 0 ∷ 1
    ∷ 0x08 ∷ 0 ∷ 0
    ∷ [])
    0
    (replicate 120 0)
    (0x81 ∷ 0 ∷ 0
    ∷ 0x81 ∷ 0 ∷ 1
    ∷ 0x82 ∷ 0 ∷ 0 ∷ 0 ∷ 0 ∷ 0 ∷ 1 ∷ 0x01 ∷ 0 ∷ 1 ∷ 0 ∷ 0
    ∷ 0x83 ∷ 0 ∷ 0 ∷ 0 ∷ 2
    ∷ 0x84 ∷ 0 ∷ 1 ∷ 0 ∷ 1
    ∷ 0x85 ∷ 1 ∷ 0 ∷ 0
    ∷ 0x86 ∷ 0 ∷ 1 ∷ 0 ∷ 0
    ∷ 0x87 ∷ 0 ∷ 0
    ∷ 0x88 ∷ 1
    ∷ [])
    (0 ∷ 31 ∷ 9 ∷ 42 ∷ 2 ∷ 1 ∷ [])
    -- a triangle with a span from it: 82 with ring and mesh notices, 86 and 87 from either side, 88 with 0
    ∷ call 4 4 192 91 6
    (0x01
    ∷ 0x01
    ∷ 0x01
    ∷ 0x01
    ∷ 0x02 ∷ 0 ∷ 0 ∷ 0 ∷ 1
    ∷ 0x02 ∷ 0 ∷ 1 ∷ 0 ∷ 2
    ∷ 0x02 ∷ 0 ∷ 2 ∷ 0 ∷ 3
    ∷ 0x06 ∷ 0 ∷ 3 ∷ 0 ∷ 0
    ∷ 0x07 ∷ 0 ∷ 3 ∷ 0 ∷ 0
    ∷ 0x02 ∷ 0 ∷ 0 ∷ 0 ∷ 2
    ∷ 0x06 ∷ 0 ∷ 0 ∷ 0 ∷ 1
    ∷ 0x08 ∷ 0 ∷ 1
    ∷ [])
    0
    (replicate 192 0)
    (0x81 ∷ 0 ∷ 0
    ∷ 0x81 ∷ 0 ∷ 1
    ∷ 0x81 ∷ 0 ∷ 2
    ∷ 0x81 ∷ 0 ∷ 3
    ∷ 0x82 ∷ 0 ∷ 0 ∷ 0 ∷ 0 ∷ 0 ∷ 1 ∷ 0x01 ∷ 0 ∷ 1 ∷ 0 ∷ 0
    ∷ 0x82 ∷ 0 ∷ 1 ∷ 0 ∷ 1 ∷ 0 ∷ 1 ∷ 0x01 ∷ 0 ∷ 2 ∷ 0 ∷ 0
    ∷ 0x82 ∷ 0 ∷ 2 ∷ 0 ∷ 2 ∷ 0 ∷ 1 ∷ 0x01 ∷ 0 ∷ 3 ∷ 0 ∷ 0
    ∷ 0x86 ∷ 0 ∷ 3 ∷ 0 ∷ 2 ∷ 0 ∷ 1 ∷ 0 ∷ 0
    ∷ 0x87 ∷ 0 ∷ 2 ∷ 0 ∷ 2 ∷ 0 ∷ 1
    ∷ 0x82 ∷ 0 ∷ 3 ∷ 0 ∷ 0 ∷ 0 ∷ 3
    ∷ 0x02 ∷ 0 ∷ 1 ∷ 0 ∷ 0
    ∷ 0x02 ∷ 0 ∷ 2 ∷ 0 ∷ 0
    ∷ 0x03 ∷ 0 ∷ 1 ∷ 0 ∷ 0
    ∷ 0x86 ∷ 0 ∷ 0
    ∷ 0x88 ∷ 0
    ∷ [])
    (0 ∷ 42 ∷ 12 ∷ 91 ∷ 4 ∷ 4 ∷ [])
    -- 8C that fits to the byte, with C cabinets and S spans present
    ∷ call 2 2 128 39 6 (0x01 ∷ 0x01 ∷ 0x02 ∷ 0 ∷ 0 ∷ 0 ∷ 1 ∷ 0x0B ∷ 0 ∷ 0 ∷ 0 ∷ 1 ∷ 0 ∷ 1 ∷ 0x0C ∷ 0 ∷ 0 ∷ 0 ∷ 1 ∷ []) 0
    (replicate 128 0)
    (0x81 ∷ 0 ∷ 0
    ∷ 0x81 ∷ 0 ∷ 1
    ∷ 0x82 ∷ 0 ∷ 0 ∷ 0 ∷ 0 ∷ 0 ∷ 1 ∷ 0x01 ∷ 0 ∷ 1 ∷ 0 ∷ 0
    ∷ 0x82 ∷ 0 ∷ 1 ∷ 0 ∷ 0 ∷ 0 ∷ 1 ∷ 0x02 ∷ 0 ∷ 1 ∷ 0 ∷ 0
    ∷ 0x8C ∷ 0 ∷ 1 ∷ 0 ∷ 1 ∷ 0 ∷ 1 ∷ 0 ∷ 0
    ∷ [])
    (0 ∷ 19 ∷ 5 ∷ 39 ∷ 2 ∷ 2 ∷ [])
    -- 8E without a record, 8D, and 8E with one, that fit to the byte, with C cabinets and S spans present
    ∷ call 2 1 120 27 6 (0x01 ∷ 0x01 ∷ 0x02 ∷ 0 ∷ 0 ∷ 0 ∷ 1 ∷ 0x0E ∷ 0 ∷ 0 ∷ 0x0D ∷ 0 ∷ 0 ∷ 0x12 ∷ 0x34 ∷ 0x56 ∷ 0x78 ∷ 0x0E ∷ 0 ∷ 0 ∷ []) 0
    (replicate 120 0)
    (0x81 ∷ 0 ∷ 0
    ∷ 0x81 ∷ 0 ∷ 1
    ∷ 0x82 ∷ 0 ∷ 0 ∷ 0 ∷ 0 ∷ 0 ∷ 1 ∷ 0x01 ∷ 0 ∷ 1 ∷ 0 ∷ 0
    ∷ 0x8E ∷ 0 ∷ 0 ∷ 0
    ∷ 0x8D
    ∷ 0x8E ∷ 1 ∷ 0x56 ∷ 0x78
    ∷ [])
    (0 ∷ 20 ∷ 6 ∷ 27 ∷ 2 ∷ 1 ∷ [])
    -- a number from 256 on, answered and asked for
    ∷ call 257 1 6240 776 6 (replicate 257 0x01 ++ 0x03 ∷ 1 ∷ 0 ∷ []) 0
    (replicate 6240 0)
    (cabinet_answers 256 ++ 0x81 ∷ 1 ∷ 0 ∷ 0x83 ∷ 1 ∷ 0 ∷ 0 ∷ 1 ∷ [])
    (0 ∷ 260 ∷ 258 ∷ 776 ∷ 257 ∷ 0 ∷ [])
    ∷ []

-- What the run's entry returns and leaves for the call.
unfoldable pub entered : Call → Outcome
entered c = register c.capacities c.journal c.lent

-- A journal, and what is forecast of it.
pub record Foretold : Type 0 where
  pub journal : List ℕ
  pub forecast : Forecast

-- The journal; then the number returned, the place and the length.
unfoldable pub foretold : List ℕ → ℕ → ℕ → ℕ → Foretold
foretold journal number place length = record { journal = journal; forecast = record { number = number; place = place; length = length } }

unfoldable pub forecasts : List Foretold
forecasts =
    -- no command
    foretold [] 0 0 0
    -- cabinets alone: L(1) is 0, L(2) and L(3) are 1, L(4) is 2
    ∷ foretold (0x01 ∷ []) 0 1 3
    ∷ foretold (replicate 2 0x01) 0 2 26
    ∷ foretold (replicate 3 0x01) 0 3 39
    ∷ foretold (replicate 4 0x01) 0 4 92
    -- spans alone, between cabinets that are not there: a run is refused with 6
    ∷ foretold (0x02 ∷ 0 ∷ 0 ∷ 0 ∷ 1 ∷ []) 0 5 7
    ∷ foretold (0x02 ∷ 0 ∷ 0 ∷ 0 ∷ 1 ∷ 0x02 ∷ 0 ∷ 0 ∷ 0 ∷ 1 ∷ []) 0 10 24
    -- 0B is a span command, also in the part of 06: 24 and 7
    ∷ foretold (0x0B ∷ 0 ∷ 0 ∷ 0 ∷ 1 ∷ 0 ∷ 0 ∷ []) 0 7 7
    ∷ foretold (0x02 ∷ 0 ∷ 0 ∷ 0 ∷ 1 ∷ 0x0B ∷ 0 ∷ 0 ∷ 0 ∷ 1 ∷ 0 ∷ 9 ∷ 0x06 ∷ 0 ∷ 0 ∷ 0 ∷ 1 ∷ []) 0 17 31
    -- the triangle
    ∷ foretold
    (0x01 ∷ 0x01 ∷ 0x01 ∷ 0x02 ∷ 0 ∷ 0 ∷ 0 ∷ 1 ∷ 0x02 ∷ 0 ∷ 1 ∷ 0 ∷ 2 ∷ 0x02 ∷ 0 ∷ 2 ∷ 0 ∷ 0 ∷ [])
    0
    18
    75
    -- each question where there is nothing
    ∷ foretold (0x03 ∷ 0 ∷ 0 ∷ []) 0 3 5
    ∷ foretold (0x04 ∷ 0 ∷ 0 ∷ []) 0 3 5
    ∷ foretold (0x05 ∷ 0 ∷ 0 ∷ 0 ∷ 1 ∷ []) 0 5 4
    ∷ foretold (0x06 ∷ 0 ∷ 0 ∷ 0 ∷ 1 ∷ []) 0 5 3
    ∷ foretold (0x07 ∷ 0 ∷ 0 ∷ 0 ∷ 1 ∷ []) 0 5 3
    ∷ foretold (0x08 ∷ 0 ∷ 0 ∷ []) 0 3 2
    ∷ foretold (0x09 ∷ 0 ∷ 0 ∷ []) 0 3 1
    ∷ foretold (0x0A ∷ 0 ∷ 0 ∷ []) 0 3 2
    ∷ foretold (0x0C ∷ 0 ∷ 0 ∷ 0 ∷ 1 ∷ []) 0 5 5
    ∷ foretold (0x0D ∷ 0 ∷ 0 ∷ 0 ∷ 1 ∷ 0 ∷ 2 ∷ []) 0 7 1
    ∷ foretold (0x0E ∷ 0 ∷ 0 ∷ []) 0 3 4
    ∷ foretold (0x0F ∷ []) 0 1 3
    -- two cabinets and a span, and 09, 0A and 0F: 33 and 6
    ∷ foretold (0x01 ∷ 0x01 ∷ 0x02 ∷ 0 ∷ 0 ∷ 0 ∷ 1 ∷ 0x09 ∷ 0 ∷ 0 ∷ 0x0A ∷ 0 ∷ 0 ∷ 0x0F ∷ []) 0 14 39
    -- 06 and 07 before three cabinets and one span: 3 and 2 for the span, 3 and 6 for the cabinets
    ∷ foretold
    (0x06 ∷ 0 ∷ 0 ∷ 0 ∷ 1 ∷ 0x07 ∷ 0 ∷ 0 ∷ 0 ∷ 1 ∷ 0x01 ∷ 0x01 ∷ 0x01 ∷ 0x02 ∷ 0 ∷ 0 ∷ 0 ∷ 1 ∷ [])
    0
    18
    60
    -- 0C before a span, and before two, one of them of 0B: 5 and 2 for each, 7 and 24 for the spans themselves
    ∷ foretold (0x0C ∷ 0 ∷ 0 ∷ 0 ∷ 1 ∷ 0x02 ∷ 0 ∷ 0 ∷ 0 ∷ 1 ∷ []) 0 10 14
    ∷ foretold (0x0C ∷ 0 ∷ 0 ∷ 0 ∷ 1 ∷ 0x02 ∷ 0 ∷ 0 ∷ 0 ∷ 1 ∷ 0x0B ∷ 0 ∷ 0 ∷ 0 ∷ 1 ∷ 0 ∷ 9 ∷ []) 0 17 33
    -- two cabinets and a span, and 0D, 0E and 0E: 33 and 9
    ∷ foretold (0x01 ∷ 0x01 ∷ 0x02 ∷ 0 ∷ 0 ∷ 0 ∷ 1 ∷ 0x0D ∷ 0 ∷ 0 ∷ 0 ∷ 1 ∷ 0 ∷ 2 ∷ 0x0E ∷ 0 ∷ 0 ∷ 0x0E ∷ 0 ∷ 0 ∷ []) 0 20 42
    -- 3: a journal too long, of bytes that are no command's
    ∷ foretold (replicate 65537 0x00) 3 0 0
    -- 4: an unknown byte, alone, behind a command, and behind one that a run refuses with 7
    ∷ foretold (0x00 ∷ []) 4 0 0
    ∷ foretold (0x01 ∷ 0x10 ∷ 0x01 ∷ []) 4 1 0
    ∷ foretold (0x08 ∷ 0 ∷ 5 ∷ 0xFF ∷ []) 4 3 0
    -- 5: operands cut off, alone, and behind a command that a run refuses with 8
    ∷ foretold (0x02 ∷ 0 ∷ 0 ∷ []) 5 0 0
    ∷ foretold (0x0B ∷ 0 ∷ 0 ∷ 0 ∷ 1 ∷ 0 ∷ []) 5 0 0
    ∷ foretold (0x0C ∷ 0 ∷ 0 ∷ 0 ∷ []) 5 0 0
    ∷ foretold (0x0D ∷ 0 ∷ 0 ∷ 0 ∷ 0 ∷ 0 ∷ []) 5 0 0
    ∷ foretold (0x0E ∷ 0 ∷ []) 5 0 0
    ∷ foretold (0x01 ∷ 0x02 ∷ 0 ∷ 0 ∷ 0 ∷ 0 ∷ 0x07 ∷ 0 ∷ 0 ∷ 0 ∷ []) 5 6 0
    ∷ []

-- A journal and the length of the output buffer, and what rewriting returns and gives.
pub record RewriteCall : Type 0 where
  pub journal : List ℕ
  pub room : ℕ
  pub rewriting : Rewriting

-- The journal and the room; then the number returned, the place and the result.
unfoldable pub rewrite_call : List ℕ → ℕ → ℕ → ℕ → List ℕ → RewriteCall
rewrite_call journal room number place result =
    record { journal = journal; room = room; rewriting = record { number = number; place = place; result = result } }

-- What rewriting returns and gives for the call.
unfoldable pub rewriting_of : RewriteCall → Rewriting
rewriting_of c = rewrite c.room c.journal

-- So many spans of 02 between cabinets 0 and 1; and of 0B, each in a duct of its own, up to 255 of them.
unfoldable pub spans02 : ℕ → List ℕ
spans02 zero = []
spans02 (suc k) = 0x02 ∷ 0 ∷ 0 ∷ 0 ∷ 1 ∷ spans02 k

unfoldable pub spans0b : ℕ → List ℕ
spans0b zero = []
spans0b (suc k) = spans0b k ++ 0x0B ∷ 0 ∷ 0 ∷ 0 ∷ 1 ∷ 0 ∷ suc k ∷ []

unfoldable pub rewritings : List RewriteCall
rewritings =
    -- no command, with room for no byte
    rewrite_call [] 0 0 0 []
    -- no 02: every other command but 0B stays as it is, with room to the byte
    ∷ rewrite_call (0x01 ∷ 0x0F ∷ 0x01 ∷ []) 3 0 3 (0x01 ∷ 0x0F ∷ 0x01 ∷ [])
    ∷ rewrite_call
    (0x03 ∷ 0 ∷ 2
    ∷ 0x04 ∷ 2 ∷ 0
    ∷ 0x05 ∷ 0 ∷ 2 ∷ 2 ∷ 0
    ∷ 0x06 ∷ 0 ∷ 2 ∷ 2 ∷ 0
    ∷ 0x07 ∷ 0 ∷ 2 ∷ 2 ∷ 0
    ∷ 0x08 ∷ 2 ∷ 2
    ∷ 0x09 ∷ 0 ∷ 2
    ∷ 0x0A ∷ 0 ∷ 2
    ∷ 0x0C ∷ 0 ∷ 2 ∷ 2 ∷ 0
    ∷ 0x0D ∷ 0 ∷ 2 ∷ 0 ∷ 2 ∷ 0 ∷ 2
    ∷ 0x0E ∷ 0 ∷ 2
    ∷ [])
    45
    0
    45
    (0x03 ∷ 0 ∷ 2
    ∷ 0x04 ∷ 2 ∷ 0
    ∷ 0x05 ∷ 0 ∷ 2 ∷ 2 ∷ 0
    ∷ 0x06 ∷ 0 ∷ 2 ∷ 2 ∷ 0
    ∷ 0x07 ∷ 0 ∷ 2 ∷ 2 ∷ 0
    ∷ 0x08 ∷ 2 ∷ 2
    ∷ 0x09 ∷ 0 ∷ 2
    ∷ 0x0A ∷ 0 ∷ 2
    ∷ 0x0C ∷ 0 ∷ 2 ∷ 2 ∷ 0
    ∷ 0x0D ∷ 0 ∷ 2 ∷ 0 ∷ 2 ∷ 0 ∷ 2
    ∷ 0x0E ∷ 0 ∷ 2
    ∷ [])
    -- spans are numbered apart from the commands between them, and their ends stay in their order
    ∷ rewrite_call
    (0x01 ∷ 0x01 ∷ 0x02 ∷ 0 ∷ 0 ∷ 0 ∷ 1 ∷ 0x08 ∷ 0 ∷ 0 ∷ 0x0F ∷ 0x02 ∷ 0 ∷ 1 ∷ 0 ∷ 0 ∷ [])
    100
    0
    16
    (0x01 ∷ 0x01 ∷ 0x0B ∷ 0 ∷ 0 ∷ 0 ∷ 1 ∷ 0 ∷ 1 ∷ 0x08 ∷ 0 ∷ 0 ∷ 0x0F ∷ 0x0B ∷ 0 ∷ 1 ∷ 0 ∷ 0 ∷ 0 ∷ 2 ∷ [])
    -- spans that a run refuses, with 8 and with 6, count too
    ∷ rewrite_call
    (0x01 ∷ 0x02 ∷ 0 ∷ 0 ∷ 0 ∷ 0 ∷ 0x02 ∷ 0 ∷ 0 ∷ 0 ∷ 1 ∷ 0x01 ∷ 0x02 ∷ 0 ∷ 0 ∷ 0 ∷ 1 ∷ [])
    100
    0
    17
    (0x01
    ∷ 0x0B ∷ 0 ∷ 0 ∷ 0 ∷ 0 ∷ 0 ∷ 1
    ∷ 0x0B ∷ 0 ∷ 0 ∷ 0 ∷ 1 ∷ 0 ∷ 2
    ∷ 0x01
    ∷ 0x0B ∷ 0 ∷ 0 ∷ 0 ∷ 1 ∷ 0 ∷ 3
    ∷ [])
    -- ducts 255 and 256
    ∷ rewrite_call (spans02 256) 1792 0 1280 (spans0b 255 ++ 0x0B ∷ 0 ∷ 0 ∷ 0 ∷ 1 ∷ 1 ∷ 0 ∷ [])
    -- 3: a journal too long, of bytes that are no command's, with room for no byte
    ∷ rewrite_call (replicate 65537 0x00) 0 3 0 []
    -- 4: an unknown byte, alone, and behind a command that a run refuses with 7, with room for no byte
    ∷ rewrite_call (0x00 ∷ []) 9 4 0 []
    ∷ rewrite_call (0x08 ∷ 0 ∷ 5 ∷ 0x10 ∷ []) 0 4 3 []
    -- 5: operands cut off, alone, and behind a command that a run refuses with 8, with room for no byte
    ∷ rewrite_call (0x02 ∷ 0 ∷ 0 ∷ []) 9 5 0 []
    ∷ rewrite_call (0x01 ∷ 0x02 ∷ 0 ∷ 0 ∷ 0 ∷ 0 ∷ 0x02 ∷ 0 ∷ 0 ∷ 0 ∷ []) 0 5 6 []
    -- 4 and 5 behind 0B, and 5 for a 0B that is cut off
    ∷ rewrite_call (0x0B ∷ 0 ∷ 0 ∷ 0 ∷ 1 ∷ 0 ∷ 5 ∷ 0xFF ∷ []) 9 4 7 []
    ∷ rewrite_call (0x0B ∷ 0 ∷ 0 ∷ 0 ∷ 1 ∷ 0 ∷ 5 ∷ 0x03 ∷ 0 ∷ []) 9 5 7 []
    ∷ rewrite_call (0x0B ∷ 0 ∷ 0 ∷ 0 ∷ 1 ∷ 0 ∷ []) 9 5 0 []
    -- 15: at the first of two 0B; also one in duct 0, with room for no byte
    ∷ rewrite_call (0x01 ∷ 0x02 ∷ 0 ∷ 0 ∷ 0 ∷ 1 ∷ 0x0B ∷ 0 ∷ 0 ∷ 0 ∷ 1 ∷ 0 ∷ 5 ∷ 0x0B ∷ 0 ∷ 0 ∷ 0 ∷ 1 ∷ 0 ∷ 5 ∷ []) 100 15 6 []
    ∷ rewrite_call (0x0B ∷ 0 ∷ 0 ∷ 0 ∷ 0 ∷ 0 ∷ 0 ∷ []) 0 15 0 []
    -- 16: the result is longer, by one byte, than the output buffer, and one byte more of it suffices
    ∷ rewrite_call (0x01 ∷ []) 0 16 0 []
    ∷ rewrite_call (0x01 ∷ 0x02 ∷ 0 ∷ 0 ∷ 0 ∷ 1 ∷ []) 7 16 0 []
    ∷ rewrite_call (0x01 ∷ 0x02 ∷ 0 ∷ 0 ∷ 0 ∷ 1 ∷ []) 8 0 6 (0x01 ∷ 0x0B ∷ 0 ∷ 0 ∷ 0 ∷ 1 ∷ 0 ∷ 1 ∷ [])
    ∷ []
