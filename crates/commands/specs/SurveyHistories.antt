-- Histories with survey lengths (request 6), worked out from document 02: journals with what the program writes for them, and the report.
use Rattle.std.specs.Prelude.{true, List, [], ◌∷◌}
use Rattle.commands.specs.Command.{Command, add_cabinet, add_span, add_duct_span, is_sole, sole_spans, mark_exchange, record_length, span_length}
use Rattle.commands.specs.Field.{district, ring}
use Rattle.commands.specs.Answer.{Answer, cabinet_added, span_added, plain, sole_is, sole_spans_are, exchange_marked, length_recorded, length_is, no_length}
use Rattle.commands.specs.Text.{journal_bytes}
use Rattle.commands.specs.Histories.{History, output, accepted, refused_with, notice}

-- Two cabinets and the span between them.
unfoldable pub one_span : List Command → List Command
one_span later = add_cabinet ∷ add_cabinet ∷ add_span 0 1 ∷ later

unfoldable pub one_span_answers : List Answer → List Answer
one_span_answers later = cabinet_added 0 ∷ cabinet_added 1 ∷ span_added 0 0 (notice district 1 0 ∷ []) ∷ later

-- 0E before any record, then a record of day 5 with 700 metres: in bytes.
unfoldable pub measured_once : History
measured_once =
    record {
      input =
          0x01
          ∷ 0x01
          ∷ 0x02 ∷ 0x00 ∷ 0x00 ∷ 0x00 ∷ 0x01
          ∷ 0x0E ∷ 0x00 ∷ 0x00
          ∷ 0x0D ∷ 0x00 ∷ 0x00 ∷ 0x00 ∷ 0x05 ∷ 0x02 ∷ 0xBC
          ∷ 0x0E ∷ 0x00 ∷ 0x00
          ∷ [];
      output =
          0x81 ∷ 0x00 ∷ 0x00
          ∷ 0x81 ∷ 0x00 ∷ 0x01
          ∷ 0x82 ∷ 0x00 ∷ 0x00 ∷ 0x00 ∷ 0x00 ∷ 0x00 ∷ 0x01 ∷ 0x01 ∷ 0x00 ∷ 0x01 ∷ 0x00 ∷ 0x00
          ∷ 0x8E ∷ 0x00 ∷ 0x00 ∷ 0x00
          ∷ 0x8D
          ∷ 0x8E ∷ 0x01 ∷ 0x02 ∷ 0xBC
          ∷ 0x80
          ∷ [];
      report = 0 ∷ 20 ∷ 6 ∷ 27 ∷ 2 ∷ 1 ∷ [];
    }

-- A later day replaces a length, be it greater or less; an earlier day after a later one does not.
unfoldable pub earlier_after_later : History
earlier_after_later =
    record {
      input =
          journal_bytes
          (one_span
          (record_length 0 8 300
          ∷ record_length 0 7 400
          ∷ span_length 0
          ∷ record_length 0 9 200
          ∷ span_length 0
          ∷ record_length 0 10 500
          ∷ record_length 0 9 600
          ∷ span_length 0
          ∷ []));
      output =
          output
          (one_span_answers
          (plain length_recorded
          ∷ plain length_recorded
          ∷ plain (length_is 300)
          ∷ plain length_recorded
          ∷ plain (length_is 200)
          ∷ plain length_recorded
          ∷ plain length_recorded
          ∷ plain (length_is 500)
          ∷ []))
          accepted;
      report = 0 ∷ 51 ∷ 11 ∷ 35 ∷ 2 ∷ 1 ∷ [];
    }

-- One day twice, and a third time behind an earlier one: the first entered holds, be it the less or the greater.
unfoldable pub one_day_twice : History
one_day_twice =
    record {
      input =
          journal_bytes
          (one_span
          (record_length 0 8 300
          ∷ record_length 0 8 400
          ∷ span_length 0
          ∷ record_length 0 3 100
          ∷ record_length 0 8 200
          ∷ span_length 0
          ∷ []));
      output =
          output
          (one_span_answers
          (plain length_recorded
          ∷ plain length_recorded
          ∷ plain (length_is 300)
          ∷ plain length_recorded
          ∷ plain length_recorded
          ∷ plain (length_is 300)
          ∷ []))
          accepted;
      report = 0 ∷ 41 ∷ 9 ∷ 30 ∷ 2 ∷ 1 ∷ [];
    }

-- Day 0 with 0 metres is a record like any other: it is answered, it is not replaced on its day, and it is by the next.
unfoldable pub day_nought : History
day_nought =
    record {
      input =
          journal_bytes
          (one_span
          (record_length 0 0 0
          ∷ span_length 0
          ∷ record_length 0 0 5
          ∷ span_length 0
          ∷ record_length 0 1 6
          ∷ span_length 0
          ∷ record_length 0 2 0
          ∷ span_length 0
          ∷ []));
      output =
          output
          (one_span_answers
          (plain length_recorded
          ∷ plain (length_is 0)
          ∷ plain length_recorded
          ∷ plain (length_is 0)
          ∷ plain length_recorded
          ∷ plain (length_is 6)
          ∷ plain length_recorded
          ∷ plain (length_is 0)
          ∷ []))
          accepted;
      report = 0 ∷ 47 ∷ 11 ∷ 38 ∷ 2 ∷ 1 ∷ [];
    }

-- The last day, 65,535, with 65,535 metres: no record replaces it.
unfoldable pub last_day : History
last_day =
    record {
      input =
          journal_bytes
          (one_span
          (record_length 0 65534 1
          ∷ record_length 0 65535 65535
          ∷ record_length 0 65535 2
          ∷ record_length 0 0 3
          ∷ span_length 0
          ∷ []));
      output =
          output
          (one_span_answers
          (plain length_recorded
          ∷ plain length_recorded
          ∷ plain length_recorded
          ∷ plain length_recorded
          ∷ plain (length_is 65535)
          ∷ []))
          accepted;
      report = 0 ∷ 38 ∷ 8 ∷ 26 ∷ 2 ∷ 1 ∷ [];
    }

-- Two spans between one pair: a record of one is none of the other. What is added later changes no length, and a new span has none.
unfoldable pub each_span_its_own : History
each_span_its_own =
    record {
      input =
          journal_bytes
          (one_span
          (record_length 0 4 40
          ∷ add_duct_span 1 0 1
          ∷ span_length 1
          ∷ record_length 1 3 30
          ∷ span_length 0
          ∷ span_length 1
          ∷ add_cabinet
          ∷ span_length 0
          ∷ []));
      output =
          output
          (one_span_answers
          (plain length_recorded
          ∷ span_added 1 0 (notice ring 1 0 ∷ [])
          ∷ plain no_length
          ∷ plain length_recorded
          ∷ plain (length_is 40)
          ∷ plain (length_is 30)
          ∷ cabinet_added 2
          ∷ plain (length_is 40)
          ∷ []))
          accepted;
      report = 0 ∷ 41 ∷ 11 ∷ 51 ∷ 3 ∷ 2 ∷ [];
    }

-- A span in a duct is measured before its mate is entered: the two are mates all the same, both sole, and 06 lists the lesser. The mate has no
-- length of its own; a cabinet more and an exchange leave the lengths as they are.
unfoldable pub measured_in_a_duct : History
measured_in_a_duct =
    record {
      input =
          journal_bytes
          (add_cabinet
          ∷ add_cabinet
          ∷ add_duct_span 0 1 7
          ∷ record_length 0 2 90
          ∷ add_duct_span 1 0 7
          ∷ is_sole 0
          ∷ is_sole 1
          ∷ sole_spans 0 1
          ∷ span_length 1
          ∷ add_cabinet
          ∷ mark_exchange 0
          ∷ span_length 0
          ∷ []);
      output =
          output
          (cabinet_added 0
          ∷ cabinet_added 1
          ∷ span_added 0 0 (notice district 1 0 ∷ [])
          ∷ plain length_recorded
          ∷ span_added 1 0 []
          ∷ plain (sole_is true)
          ∷ plain (sole_is true)
          ∷ plain (sole_spans_are (0 ∷ []))
          ∷ plain no_length
          ∷ cabinet_added 2
          ∷ plain exchange_marked
          ∷ plain (length_is 90)
          ∷ [])
          accepted;
      report = 0 ∷ 44 ∷ 12 ∷ 47 ∷ 3 ∷ 2 ∷ [];
    }

-- A record of a span that is not there: 7. And asked for: 7.
unfoldable pub measured_nowhere : History
measured_nowhere =
    record {
      input = journal_bytes (one_span (record_length 1 2 3 ∷ []));
      output = output (one_span_answers []) (refused_with 7 7);
      report = 7 ∷ 7 ∷ 3 ∷ 18 ∷ 2 ∷ 1 ∷ [];
    }

unfoldable pub length_nowhere : History
length_nowhere =
    record {
      input = journal_bytes (one_span (span_length 1 ∷ []));
      output = output (one_span_answers []) (refused_with 7 7);
      report = 7 ∷ 7 ∷ 3 ∷ 18 ∷ 2 ∷ 1 ∷ [];
    }

unfoldable pub survey_histories : List History
survey_histories =
    measured_once
    ∷ earlier_after_later
    ∷ one_day_twice
    ∷ day_nought
    ∷ last_day
    ∷ each_span_its_own
    ∷ measured_in_a_duct
    ∷ measured_nowhere
    ∷ length_nowhere
    ∷ []
