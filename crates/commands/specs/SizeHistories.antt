-- Histories with sizes (request 8), worked out from document 02: journals with what the program writes for them, and the report.
use Rattle.std.specs.Prelude.{List, [], ◌∷◌}
use Rattle.commands.specs.Command.{add_cabinet, add_span, add_duct_span, district_name, ring_name}
use Rattle.commands.specs.Field.{district, ring, mesh}
use Rattle.commands.specs.Answer.{cabinet_added, span_added, plain, district_is, ring_is}
use Rattle.commands.specs.Text.{journal_bytes}
use Rattle.commands.specs.Histories.{History, output, accepted, notice, group}

-- One cabinet alone, in bytes: its district and its ring have one cabinet.
unfoldable pub alone : History
alone =
    record {
      input = 0x01 ∷ 0x03 ∷ 0x00 ∷ 0x00 ∷ 0x04 ∷ 0x00 ∷ 0x00 ∷ [];
      output =
          0x81 ∷ 0x00 ∷ 0x00
          ∷ 0x83 ∷ 0x00 ∷ 0x00 ∷ 0x00 ∷ 0x01
          ∷ 0x84 ∷ 0x00 ∷ 0x00 ∷ 0x00 ∷ 0x01
          ∷ 0x80
          ∷ [];
      report = 0 ∷ 7 ∷ 3 ∷ 13 ∷ 1 ∷ 0 ∷ [];
    }

-- A district of two, named 1, takes in cabinet 0: its size is 2 and then 3, for each of its cabinets, and each of its rings has one.
unfoldable pub district_grows : History
district_grows =
    record {
      input =
          journal_bytes
          (add_cabinet
          ∷ add_cabinet
          ∷ add_cabinet
          ∷ add_span 1 2
          ∷ district_name 2
          ∷ district_name 0
          ∷ add_span 0 1
          ∷ district_name 0
          ∷ district_name 1
          ∷ district_name 2
          ∷ ring_name 0
          ∷ ring_name 1
          ∷ ring_name 2
          ∷ []);
      output =
          output
          (cabinet_added 0
          ∷ cabinet_added 1
          ∷ cabinet_added 2
          ∷ span_added 0 0 (notice district 2 1 ∷ [])
          ∷ plain (district_is (group 1 2))
          ∷ plain (district_is (group 0 1))
          ∷ span_added 1 1 (notice district 0 1 ∷ [])
          ∷ plain (district_is (group 1 3))
          ∷ plain (district_is (group 1 3))
          ∷ plain (district_is (group 1 3))
          ∷ plain (ring_is (group 0 1))
          ∷ plain (ring_is (group 1 1))
          ∷ plain (ring_is (group 2 1))
          ∷ [])
          accepted;
      report = 0 ∷ 37 ∷ 13 ∷ 73 ∷ 3 ∷ 2 ∷ [];
    }

-- A district of four with rings of 1, 2 and 1; a loop makes them rings of 3 and 1, and the district is as before.
unfoldable pub rings_of_one_district : History
rings_of_one_district =
    record {
      input =
          journal_bytes
          (add_cabinet
          ∷ add_cabinet
          ∷ add_cabinet
          ∷ add_cabinet
          ∷ add_duct_span 1 2 1
          ∷ add_duct_span 1 2 2
          ∷ add_span 0 1
          ∷ add_span 2 3
          ∷ ring_name 0
          ∷ ring_name 1
          ∷ ring_name 2
          ∷ ring_name 3
          ∷ district_name 0
          ∷ add_span 0 2
          ∷ ring_name 0
          ∷ ring_name 2
          ∷ ring_name 3
          ∷ district_name 3
          ∷ []);
      output =
          output
          (cabinet_added 0
          ∷ cabinet_added 1
          ∷ cabinet_added 2
          ∷ cabinet_added 3
          ∷ span_added 0 0 (notice district 2 1 ∷ [])
          ∷ span_added 1 0 (notice ring 2 1 ∷ [])
          ∷ span_added 2 2 (notice district 0 1 ∷ [])
          ∷ span_added 3 3 (notice district 3 1 ∷ [])
          ∷ plain (ring_is (group 0 1))
          ∷ plain (ring_is (group 1 2))
          ∷ plain (ring_is (group 1 2))
          ∷ plain (ring_is (group 3 1))
          ∷ plain (district_is (group 1 4))
          ∷ span_added 4 0 (notice ring 0 1 ∷ notice mesh 2 0 ∷ [])
          ∷ plain (ring_is (group 1 3))
          ∷ plain (ring_is (group 1 3))
          ∷ plain (ring_is (group 3 1))
          ∷ plain (district_is (group 1 4))
          ∷ [])
          accepted;
      report = 0 ∷ 60 ∷ 18 ∷ 122 ∷ 4 ∷ 5 ∷ [];
    }

unfoldable pub size_histories : List History
size_histories = alone ∷ district_grows ∷ rings_of_one_district ∷ []
