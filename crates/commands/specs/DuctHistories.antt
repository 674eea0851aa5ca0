-- Histories with ducts (requests 3 and 7), worked out from document 02: journals with what the program writes for them, and the report.
use Rattle.std.specs.Prelude.{true, false, List, [], ◌∷◌}
use Rattle.commands.specs.Command.{add_cabinet, add_span, add_duct_span, ring_name, shared_mesh, sole_spans, cut_cabinets, is_sole}
use Rattle.commands.specs.Field.{district, ring, mesh}
use Rattle.commands.specs.Answer.{cabinet_added, span_added, plain, ring_is, mesh_shared, sole_spans_are, cut_cabinets_are, sole_is}
use Rattle.commands.specs.Text.{journal_bytes}
use Rattle.commands.specs.Histories.{History, output, accepted, refused_with, notice, group}

-- Two spans of one duct, entered from either side: two rings, both spans sole, 06 lists the lesser only, one mesh.
unfoldable pub two_in_one_duct : History
two_in_one_duct =
    record {
      input =
          journal_bytes
          (add_cabinet
          ∷ add_cabinet
          ∷ add_duct_span 0 1 7
          ∷ add_duct_span 1 0 7
          ∷ ring_name 0
          ∷ ring_name 1
          ∷ is_sole 0
          ∷ is_sole 1
          ∷ sole_spans 0 1
          ∷ sole_spans 1 0
          ∷ shared_mesh 0 1
          ∷ cut_cabinets 0 1
          ∷ []);
      output =
          output
          (cabinet_added 0
          ∷ cabinet_added 1
          ∷ span_added 0 0 (notice district 1 0 ∷ [])
          ∷ span_added 1 0 []
          ∷ plain (ring_is (group 0 1))
          ∷ plain (ring_is (group 1 1))
          ∷ plain (sole_is true)
          ∷ plain (sole_is true)
          ∷ plain (sole_spans_are (0 ∷ []))
          ∷ plain (sole_spans_are (0 ∷ []))
          ∷ plain (mesh_shared 0)
          ∷ plain (cut_cabinets_are [])
          ∷ [])
          accepted;
      report = 0 ∷ 48 ∷ 12 ∷ 56 ∷ 2 ∷ 2 ∷ [];
    }

-- Two spans of two ducts: one ring, no span sole.
unfoldable pub two_in_two_ducts : History
two_in_two_ducts =
    record {
      input =
          journal_bytes
          (add_cabinet
          ∷ add_cabinet
          ∷ add_duct_span 0 1 1
          ∷ add_duct_span 0 1 2
          ∷ ring_name 1
          ∷ is_sole 0
          ∷ sole_spans 0 1
          ∷ shared_mesh 0 1
          ∷ []);
      output =
          output
          (cabinet_added 0
          ∷ cabinet_added 1
          ∷ span_added 0 0 (notice district 1 0 ∷ [])
          ∷ span_added 1 0 (notice ring 1 0 ∷ [])
          ∷ plain (ring_is (group 0 2))
          ∷ plain (sole_is false)
          ∷ plain (sole_spans_are [])
          ∷ plain (mesh_shared 0)
          ∷ [])
          accepted;
      report = 0 ∷ 32 ∷ 8 ∷ 44 ∷ 2 ∷ 2 ∷ [];
    }

-- A span of 02 is no mate of a span in a duct: beside it that one makes one ring, and a mate of that one changes nothing.
unfoldable pub beside_a_duct : History
beside_a_duct =
    record {
      input =
          journal_bytes
          (add_cabinet ∷ add_cabinet ∷ add_span 0 1 ∷ add_duct_span 0 1 3 ∷ add_duct_span 1 0 3 ∷ is_sole 0 ∷ sole_spans 0 1 ∷ []);
      output =
          output
          (cabinet_added 0
          ∷ cabinet_added 1
          ∷ span_added 0 0 (notice district 1 0 ∷ [])
          ∷ span_added 1 0 (notice ring 1 0 ∷ [])
          ∷ span_added 2 0 []
          ∷ plain (sole_is false)
          ∷ plain (sole_spans_are [])
          ∷ [])
          accepted;
      report = 0 ∷ 29 ∷ 7 ∷ 42 ∷ 2 ∷ 3 ∷ [];
    }

-- A mate entered before a loop closes around the pair, and one after it.
unfoldable pub loop_around_a_duct : History
loop_around_a_duct =
    record {
      input =
          journal_bytes
          (add_cabinet
          ∷ add_cabinet
          ∷ add_cabinet
          ∷ add_duct_span 0 1 4
          ∷ add_duct_span 0 1 4
          ∷ add_span 1 2
          ∷ add_span 2 0
          ∷ add_duct_span 1 0 4
          ∷ is_sole 0
          ∷ sole_spans 0 1
          ∷ []);
      output =
          output
          (cabinet_added 0
          ∷ cabinet_added 1
          ∷ cabinet_added 2
          ∷ span_added 0 0 (notice district 1 0 ∷ [])
          ∷ span_added 1 0 []
          ∷ span_added 2 2 (notice district 2 0 ∷ [])
          ∷ span_added 3 0 (notice ring 1 0 ∷ notice ring 2 0 ∷ notice mesh 2 0 ∷ [])
          ∷ span_added 4 0 []
          ∷ plain (sole_is false)
          ∷ plain (sole_spans_are [])
          ∷ [])
          accepted;
      report = 0 ∷ 42 ∷ 10 ∷ 74 ∷ 3 ∷ 5 ∷ [];
    }

-- A mesh is measured in single spans: the two mates outweigh the first span, so all five spans end in mesh 1.
unfoldable pub measured_in_spans : History
measured_in_spans =
    record {
      input =
          journal_bytes
          (add_cabinet
          ∷ add_cabinet
          ∷ add_cabinet
          ∷ add_cabinet
          ∷ add_span 2 3
          ∷ add_duct_span 0 1 5
          ∷ add_duct_span 0 1 5
          ∷ add_span 1 2
          ∷ add_span 3 0
          ∷ shared_mesh 0 1
          ∷ shared_mesh 2 3
          ∷ []);
      output =
          output
          (cabinet_added 0
          ∷ cabinet_added 1
          ∷ cabinet_added 2
          ∷ cabinet_added 3
          ∷ span_added 0 0 (notice district 3 2 ∷ [])
          ∷ span_added 1 1 (notice district 1 0 ∷ [])
          ∷ span_added 2 1 []
          ∷ span_added 3 3 (notice district 2 0 ∷ notice district 3 0 ∷ [])
          ∷ span_added
          4
          1
          (notice ring 1 0 ∷ notice ring 2 0 ∷ notice ring 3 0 ∷ notice mesh 0 1 ∷ notice mesh 3 1 ∷ [])
          ∷ plain (mesh_shared 1)
          ∷ plain (mesh_shared 1)
          ∷ [])
          accepted;
      report = 0 ∷ 43 ∷ 11 ∷ 100 ∷ 4 ∷ 5 ∷ [];
    }

-- One duct number at two pairs means nothing. Each set of mates is listed once by its least number, in travelling order from either side.
unfoldable pub one_number_at_two_pairs : History
one_number_at_two_pairs =
    record {
      input =
          journal_bytes
          (add_cabinet
          ∷ add_cabinet
          ∷ add_cabinet
          ∷ add_duct_span 1 2 9
          ∷ add_duct_span 0 1 9
          ∷ add_duct_span 2 1 9
          ∷ add_duct_span 0 1 9
          ∷ sole_spans 0 2
          ∷ sole_spans 2 0
          ∷ cut_cabinets 0 2
          ∷ is_sole 3
          ∷ []);
      output =
          output
          (cabinet_added 0
          ∷ cabinet_added 1
          ∷ cabinet_added 2
          ∷ span_added 0 0 (notice district 2 1 ∷ [])
          ∷ span_added 1 1 (notice district 0 1 ∷ [])
          ∷ span_added 2 0 []
          ∷ span_added 3 1 []
          ∷ plain (sole_spans_are (1 ∷ 0 ∷ []))
          ∷ plain (sole_spans_are (0 ∷ 1 ∷ []))
          ∷ plain (cut_cabinets_are (1 ∷ []))
          ∷ plain (sole_is true)
          ∷ [])
          accepted;
      report = 0 ∷ 49 ∷ 11 ∷ 68 ∷ 3 ∷ 4 ∷ [];
    }

-- The greatest duct, in bytes.
unfoldable pub greatest_duct : History
greatest_duct =
    record {
      input =
          0x01
          ∷ 0x01
          ∷ 0x0B ∷ 0x00 ∷ 0x00 ∷ 0x00 ∷ 0x01 ∷ 0xFF ∷ 0xFF
          ∷ 0x0B ∷ 0x00 ∷ 0x01 ∷ 0x00 ∷ 0x00 ∷ 0xFF ∷ 0xFF
          ∷ 0x08 ∷ 0x00 ∷ 0x01
          ∷ [];
      output =
          0x81 ∷ 0x00 ∷ 0x00
          ∷ 0x81 ∷ 0x00 ∷ 0x01
          ∷ 0x82 ∷ 0x00 ∷ 0x00 ∷ 0x00 ∷ 0x00 ∷ 0x00 ∷ 0x01 ∷ 0x01 ∷ 0x00 ∷ 0x01 ∷ 0x00 ∷ 0x00
          ∷ 0x82 ∷ 0x00 ∷ 0x01 ∷ 0x00 ∷ 0x00 ∷ 0x00 ∷ 0x00
          ∷ 0x88 ∷ 0x01
          ∷ 0x80
          ∷ [];
      report = 0 ∷ 19 ∷ 5 ∷ 27 ∷ 2 ∷ 2 ∷ [];
    }

-- Spans of 02 between one pair, in either direction, are mates: both sole, and 06 lists the lesser. A span in duct 1 beside them makes one
-- ring.
unfoldable pub two_with_no_duct_told : History
two_with_no_duct_told =
    record {
      input =
          journal_bytes
          (add_cabinet
          ∷ add_cabinet
          ∷ add_span 0 1
          ∷ add_span 1 0
          ∷ ring_name 1
          ∷ is_sole 0
          ∷ is_sole 1
          ∷ sole_spans 0 1
          ∷ sole_spans 1 0
          ∷ add_duct_span 0 1 1
          ∷ is_sole 0
          ∷ sole_spans 0 1
          ∷ []);
      output =
          output
          (cabinet_added 0
          ∷ cabinet_added 1
          ∷ span_added 0 0 (notice district 1 0 ∷ [])
          ∷ span_added 1 0 []
          ∷ plain (ring_is (group 1 1))
          ∷ plain (sole_is true)
          ∷ plain (sole_is true)
          ∷ plain (sole_spans_are (0 ∷ []))
          ∷ plain (sole_spans_are (0 ∷ []))
          ∷ span_added 2 0 (notice ring 1 0 ∷ [])
          ∷ plain (sole_is false)
          ∷ plain (sole_spans_are [])
          ∷ [])
          accepted;
      report = 0 ∷ 46 ∷ 12 ∷ 61 ∷ 2 ∷ 3 ∷ [];
    }

-- A loop of spans of 02 closes around two that are mates, and a mate more is entered after it.
unfoldable pub loop_with_no_duct_told : History
loop_with_no_duct_told =
    record {
      input =
          journal_bytes
          (add_cabinet
          ∷ add_cabinet
          ∷ add_cabinet
          ∷ add_span 0 1
          ∷ add_span 1 0
          ∷ add_span 1 2
          ∷ add_span 2 0
          ∷ add_span 0 1
          ∷ is_sole 4
          ∷ []);
      output =
          output
          (cabinet_added 0
          ∷ cabinet_added 1
          ∷ cabinet_added 2
          ∷ span_added 0 0 (notice district 1 0 ∷ [])
          ∷ span_added 1 0 []
          ∷ span_added 2 2 (notice district 2 0 ∷ [])
          ∷ span_added 3 0 (notice ring 1 0 ∷ notice ring 2 0 ∷ notice mesh 2 0 ∷ [])
          ∷ span_added 4 0 []
          ∷ plain (sole_is false)
          ∷ [])
          accepted;
      report = 0 ∷ 31 ∷ 9 ∷ 71 ∷ 3 ∷ 5 ∷ [];
    }

-- A span in duct 0: 13.
unfoldable pub in_no_duct : History
in_no_duct =
    record {
      input = journal_bytes (add_cabinet ∷ add_cabinet ∷ add_duct_span 0 1 0 ∷ []);
      output = output (cabinet_added 0 ∷ cabinet_added 1 ∷ []) (refused_with 13 2);
      report = 13 ∷ 2 ∷ 2 ∷ 6 ∷ 2 ∷ 0 ∷ [];
    }

unfoldable pub duct_histories : List History
duct_histories =
    two_in_one_duct
    ∷ two_in_two_ducts
    ∷ beside_a_duct
    ∷ loop_around_a_duct
    ∷ measured_in_spans
    ∷ one_number_at_two_pairs
    ∷ greatest_duct
    ∷ two_with_no_duct_told
    ∷ loop_with_no_duct_told
    ∷ in_no_duct
    ∷ []
