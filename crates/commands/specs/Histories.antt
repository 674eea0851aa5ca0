-- The histories of document 01 that are proved (marked † there), as requests 7 and 8 have them: journals with what the program writes for
-- them, and the report.
use Rattle.std.specs.Prelude.{true, List, [], ◌∷◌, ◌++◌, ◌≡◌, ℕ}
use Rattle.naming.specs.Lookup.{Group}
use Rattle.commands.specs.Command.{Command, add_cabinet, add_span, district_name, ring_name, shared_mesh, sole_spans, cut_cabinets, is_sole, add_duct_span}
use Rattle.commands.specs.Field.{Kind, district, ring, mesh}
use Rattle.commands.specs.Answer.{Notice, Answer, cabinet_added, span_added, plain, district_is, ring_is, mesh_shared, no_mesh_shared, sole_spans_are, cut_cabinets_are, sole_is, answer_bytes}
use Rattle.commands.specs.Text.{journal_bytes}
use Rattle.commands.specs.Register.{program, program_report}

-- The program's input and output, and the six numbers of the report.
pub record History : Type 0 where
  pub input : List ℕ
  pub output : List ℕ
  pub report : List ℕ

-- The definitions give this output and this report for this input.
pub record Shown (h : History) : Type 0 where
  pub output_is : program h.input ≡ h.output
  pub report_is : program_report h.input ≡ h.report

abbrev pub EachShown : List History → Type 0
EachShown [] = Unit
EachShown (h ∷ hs) = Shown h × EachShown hs

-- The answers, then what ends the output.
unfoldable pub output : List Answer → List ℕ → List ℕ
output [] ending = ending
output (a ∷ later) ending = answer_bytes a ++ output later ending

unfoldable pub accepted : List ℕ
accepted = 0x80 ∷ []

unfoldable pub refused_with : ℕ → ℕ → List ℕ
refused_with number place = 0xFF ∷ number ∷ 0 ∷ 0 ∷ 0 ∷ place ∷ []

unfoldable pub notice : Kind → ℕ → ℕ → Notice
notice kind item name = record { kind = kind; item = item; name = name }

unfoldable pub group : ℕ → ℕ → Group
group name size = record { name = name; size = size }

-- Empty journal: accepted, place 0, no answer.
unfoldable pub empty_journal : History
empty_journal = record { input = []; output = 0x80 ∷ []; report = 0 ∷ 0 ∷ 0 ∷ 0 ∷ 0 ∷ 0 ∷ [] }

-- Triangle, whole, in bytes.
unfoldable pub triangle : History
triangle =
    record {
      input =
          0x01
          ∷ 0x01
          ∷ 0x01
          ∷ 0x02 ∷ 0x00 ∷ 0x00 ∷ 0x00 ∷ 0x01
          ∷ 0x02 ∷ 0x00 ∷ 0x01 ∷ 0x00 ∷ 0x02
          ∷ 0x02 ∷ 0x00 ∷ 0x02 ∷ 0x00 ∷ 0x00
          ∷ [];
      output =
          0x81 ∷ 0x00 ∷ 0x00
          ∷ 0x81 ∷ 0x00 ∷ 0x01
          ∷ 0x81 ∷ 0x00 ∷ 0x02
          ∷ 0x82 ∷ 0x00 ∷ 0x00 ∷ 0x00 ∷ 0x00 ∷ 0x00 ∷ 0x01 ∷ 0x01 ∷ 0x00 ∷ 0x01 ∷ 0x00 ∷ 0x00
          ∷ 0x82 ∷ 0x00 ∷ 0x01 ∷ 0x00 ∷ 0x01 ∷ 0x00 ∷ 0x01 ∷ 0x01 ∷ 0x00 ∷ 0x02 ∷ 0x00 ∷ 0x00
          ∷ 0x82 ∷ 0x00 ∷ 0x02 ∷ 0x00 ∷ 0x00 ∷ 0x00 ∷ 0x03
          ∷ 0x02 ∷ 0x00 ∷ 0x01 ∷ 0x00 ∷ 0x00
          ∷ 0x02 ∷ 0x00 ∷ 0x02 ∷ 0x00 ∷ 0x00
          ∷ 0x03 ∷ 0x00 ∷ 0x01 ∷ 0x00 ∷ 0x00
          ∷ 0x80
          ∷ [];
      report = 0 ∷ 18 ∷ 6 ∷ 55 ∷ 3 ∷ 3 ∷ [];
    }

-- Two cabinets, one span: one district, two rings, mesh 0, span sole.
unfoldable pub one_span : History
one_span =
    record {
      input =
          journal_bytes
          (add_cabinet
          ∷ add_cabinet
          ∷ add_span 0 1
          ∷ district_name 0
          ∷ district_name 1
          ∷ ring_name 0
          ∷ ring_name 1
          ∷ shared_mesh 0 1
          ∷ is_sole 0
          ∷ []);
      output =
          output
          (cabinet_added 0
          ∷ cabinet_added 1
          ∷ span_added 0 0 (notice district 1 0 ∷ [])
          ∷ plain (district_is (group 0 2))
          ∷ plain (district_is (group 0 2))
          ∷ plain (ring_is (group 0 1))
          ∷ plain (ring_is (group 1 1))
          ∷ plain (mesh_shared 0)
          ∷ plain (sole_is true)
          ∷ [])
          accepted;
      report = 0 ∷ 27 ∷ 9 ∷ 44 ∷ 2 ∷ 1 ∷ [];
    }

-- Two cabinets, two spans: rings 0 and 1, mesh 0, both spans sole; 06 lists the lesser. (Request 7: they lie in one duct.)
unfoldable pub two_spans : History
two_spans =
    record {
      input =
          journal_bytes
          (add_cabinet
          ∷ add_cabinet
          ∷ add_span 0 1
          ∷ add_span 0 1
          ∷ ring_name 0
          ∷ ring_name 1
          ∷ shared_mesh 0 1
          ∷ is_sole 0
          ∷ is_sole 1
          ∷ sole_spans 0 1
          ∷ []);
      output =
          output
          (cabinet_added 0
          ∷ cabinet_added 1
          ∷ span_added 0 0 (notice district 1 0 ∷ [])
          ∷ span_added 1 0 []
          ∷ plain (ring_is (group 0 1))
          ∷ plain (ring_is (group 1 1))
          ∷ plain (mesh_shared 0)
          ∷ plain (sole_is true)
          ∷ plain (sole_is true)
          ∷ plain (sole_spans_are (0 ∷ []))
          ∷ [])
          accepted;
      report = 0 ∷ 34 ∷ 10 ∷ 48 ∷ 2 ∷ 2 ∷ [];
    }

-- Chain 0-1, 1-2: sole spans from 0 to 2 are 0, 1; from 2 to 0 they are 1, 0; cut cabinet 1.
unfoldable pub chain : History
chain =
    record {
      input =
          journal_bytes
          (add_cabinet
          ∷ add_cabinet
          ∷ add_cabinet
          ∷ add_span 0 1
          ∷ add_span 1 2
          ∷ sole_spans 0 2
          ∷ sole_spans 2 0
          ∷ cut_cabinets 0 2
          ∷ cut_cabinets 2 0
          ∷ []);
      output =
          output
          (cabinet_added 0
          ∷ cabinet_added 1
          ∷ cabinet_added 2
          ∷ span_added 0 0 (notice district 1 0 ∷ [])
          ∷ span_added 1 1 (notice district 2 0 ∷ [])
          ∷ plain (sole_spans_are (0 ∷ 1 ∷ []))
          ∷ plain (sole_spans_are (1 ∷ 0 ∷ []))
          ∷ plain (cut_cabinets_are (1 ∷ []))
          ∷ plain (cut_cabinets_are (1 ∷ []))
          ∷ [])
          accepted;
      report = 0 ∷ 33 ∷ 9 ∷ 57 ∷ 3 ∷ 2 ∷ [];
    }

-- Spans 1-2, 1-2, 0-1, 0-1, those of each pair in ducts 1 and 2: all three cabinets in ring 1; meshes 0 and 2; 0 and 2 share no mesh; no
-- sole span between them, cut cabinet 1.
unfoldable pub two_meshes : History
two_meshes =
    record {
      input =
          journal_bytes
          (add_cabinet
          ∷ add_cabinet
          ∷ add_cabinet
          ∷ add_duct_span 1 2 1
          ∷ add_duct_span 1 2 2
          ∷ add_duct_span 0 1 1
          ∷ add_duct_span 0 1 2
          ∷ ring_name 0
          ∷ ring_name 1
          ∷ ring_name 2
          ∷ shared_mesh 1 2
          ∷ shared_mesh 0 1
          ∷ shared_mesh 0 2
          ∷ sole_spans 0 2
          ∷ cut_cabinets 0 2
          ∷ []);
      output =
          output
          (cabinet_added 0
          ∷ cabinet_added 1
          ∷ cabinet_added 2
          ∷ span_added 0 0 (notice district 2 1 ∷ [])
          ∷ span_added 1 0 (notice ring 2 1 ∷ [])
          ∷ span_added 2 2 (notice district 0 1 ∷ [])
          ∷ span_added 3 2 (notice ring 0 1 ∷ [])
          ∷ plain (ring_is (group 1 3))
          ∷ plain (ring_is (group 1 3))
          ∷ plain (ring_is (group 1 3))
          ∷ plain (mesh_shared 0)
          ∷ plain (mesh_shared 2)
          ∷ plain no_mesh_shared
          ∷ plain (sole_spans_are [])
          ∷ plain (cut_cabinets_are (1 ∷ []))
          ∷ [])
          accepted;
      report = 0 ∷ 65 ∷ 15 ∷ 92 ∷ 3 ∷ 4 ∷ [];
    }

-- Spans 0-1, 0-1, 2-3, 2-3, 1-2, 0-3, those of 0-1 and of 2-3 in ducts 1 and 2: the last sends ring notices for cabinets 2 and 3 and mesh
-- notices for spans 2, 3 and 4, all to name 0. The two single spans with no duct told, and once more in duct 1.
unfoldable pub two_rings : List Command
two_rings =
    add_cabinet
    ∷ add_cabinet
    ∷ add_cabinet
    ∷ add_cabinet
    ∷ add_duct_span 0 1 1
    ∷ add_duct_span 0 1 2
    ∷ add_duct_span 2 3 1
    ∷ add_duct_span 2 3 2
    ∷ []

unfoldable pub joining_answers : List Answer
joining_answers =
    cabinet_added 0
    ∷ cabinet_added 1
    ∷ cabinet_added 2
    ∷ cabinet_added 3
    ∷ span_added 0 0 (notice district 1 0 ∷ [])
    ∷ span_added 1 0 (notice ring 1 0 ∷ [])
    ∷ span_added 2 2 (notice district 3 2 ∷ [])
    ∷ span_added 3 2 (notice ring 3 2 ∷ [])
    ∷ span_added 4 4 (notice district 2 0 ∷ notice district 3 0 ∷ [])
    ∷ span_added 5 0 (notice ring 2 0 ∷ notice ring 3 0 ∷ notice mesh 2 0 ∷ notice mesh 3 0 ∷ notice mesh 4 0 ∷ [])
    ∷ []

unfoldable pub two_rings_joined : History
two_rings_joined =
    record {
      input = journal_bytes (two_rings ++ add_span 1 2 ∷ add_span 0 3 ∷ []);
      output = output joining_answers accepted;
      report = 0 ∷ 42 ∷ 10 ∷ 109 ∷ 4 ∷ 6 ∷ [];
    }

unfoldable pub two_rings_joined_in_ducts : History
two_rings_joined_in_ducts =
    record {
      input = journal_bytes (two_rings ++ add_duct_span 1 2 1 ∷ add_duct_span 0 3 1 ∷ []);
      output = output joining_answers accepted;
      report = 0 ∷ 46 ∷ 10 ∷ 109 ∷ 4 ∷ 6 ∷ [];
    }

-- One cabinet, 06 0 0: empty list.
unfoldable pub from_itself_to_itself : History
from_itself_to_itself =
    record {
      input = journal_bytes (add_cabinet ∷ sole_spans 0 0 ∷ []);
      output = output (cabinet_added 0 ∷ plain (sole_spans_are []) ∷ []) accepted;
      report = 0 ∷ 6 ∷ 2 ∷ 6 ∷ 1 ∷ 0 ∷ [];
    }

-- One cabinet, 02 0 0: 8.
unfoldable pub span_to_itself : History
span_to_itself =
    record {
      input = journal_bytes (add_cabinet ∷ add_span 0 0 ∷ []);
      output = output (cabinet_added 0 ∷ []) (refused_with 8 1);
      report = 8 ∷ 1 ∷ 1 ∷ 3 ∷ 1 ∷ 0 ∷ [];
    }

-- One cabinet, 02 0 5: 6.
unfoldable pub span_to_nowhere : History
span_to_nowhere =
    record {
      input = journal_bytes (add_cabinet ∷ add_span 0 5 ∷ []);
      output = output (cabinet_added 0 ∷ []) (refused_with 6 1);
      report = 6 ∷ 1 ∷ 1 ∷ 3 ∷ 1 ∷ 0 ∷ [];
    }

-- Two cabinets, 06 0 1: 10.
unfoldable pub across_districts : History
across_districts =
    record {
      input = journal_bytes (add_cabinet ∷ add_cabinet ∷ sole_spans 0 1 ∷ []);
      output = output (cabinet_added 0 ∷ cabinet_added 1 ∷ []) (refused_with 10 2);
      report = 10 ∷ 2 ∷ 2 ∷ 6 ∷ 2 ∷ 0 ∷ [];
    }

-- Bytes 02 00 00 alone: 5 at place 0.
unfoldable pub cut_short : History
cut_short =
    record { input = 0x02 ∷ 0x00 ∷ 0x00 ∷ []; output = refused_with 5 0; report = 5 ∷ 0 ∷ 0 ∷ 0 ∷ 0 ∷ 0 ∷ [] }

-- The whole table.
unfoldable pub histories : List History
histories =
    empty_journal
    ∷ triangle
    ∷ one_span
    ∷ two_spans
    ∷ chain
    ∷ two_meshes
    ∷ two_rings_joined
    ∷ two_rings_joined_in_ducts
    ∷ from_itself_to_itself
    ∷ span_to_itself
    ∷ span_to_nowhere
    ∷ across_districts
    ∷ cut_short
    ∷ []
