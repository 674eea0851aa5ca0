-- Histories with routes (request 5), worked out from document 02: journals with what the program writes for them, and the report. The paper
-- leaves open which valid pair is given, and so the order of the two: each comment says which pairs there are, and which of them this
-- register gives. Then pairs that serve and pairs that do not.
use Rattle.std.specs.Prelude.{Bool, true, false, List, [], ◌∷◌, ◌++◌, ℕ}
use Rattle.graph.specs.Route.{Routes, serve}
use Rattle.commands.specs.Command.{Command, add_cabinet, add_span, cut_cabinets, add_duct_span, routes_between}
use Rattle.commands.specs.Field.{district, ring, mesh}
use Rattle.commands.specs.Answer.{cabinet_added, span_added, plain, cut_cabinets_are, routes_are}
use Rattle.commands.specs.Text.{journal_bytes}
use Rattle.commands.specs.Entry.{book_after}
use Rattle.commands.specs.Register.{register_rule}
use Rattle.commands.specs.Histories.{History, output, accepted, refused_with, notice}

-- Two spans of two ducts between two cabinets.
unfoldable pub two_ducts_spans : List Command
two_ducts_spans = add_cabinet ∷ add_cabinet ∷ add_duct_span 0 1 1 ∷ add_duct_span 0 1 2 ∷ []

-- The same in bytes: each span is a route. The register gives the later one first.
unfoldable pub routes_in_two_ducts : History
routes_in_two_ducts =
    record {
      input =
          0x01
          ∷ 0x01
          ∷ 0x0B ∷ 0x00 ∷ 0x00 ∷ 0x00 ∷ 0x01 ∷ 0x00 ∷ 0x01
          ∷ 0x0B ∷ 0x00 ∷ 0x00 ∷ 0x00 ∷ 0x01 ∷ 0x00 ∷ 0x02
          ∷ 0x0C ∷ 0x00 ∷ 0x00 ∷ 0x00 ∷ 0x01
          ∷ [];
      output =
          0x81 ∷ 0x00 ∷ 0x00
          ∷ 0x81 ∷ 0x00 ∷ 0x01
          ∷ 0x82 ∷ 0x00 ∷ 0x00 ∷ 0x00 ∷ 0x00 ∷ 0x00 ∷ 0x01 ∷ 0x01 ∷ 0x00 ∷ 0x01 ∷ 0x00 ∷ 0x00
          ∷ 0x82 ∷ 0x00 ∷ 0x01 ∷ 0x00 ∷ 0x00 ∷ 0x00 ∷ 0x01 ∷ 0x02 ∷ 0x00 ∷ 0x01 ∷ 0x00 ∷ 0x00
          ∷ 0x8C ∷ 0x00 ∷ 0x01 ∷ 0x00 ∷ 0x01 ∷ 0x00 ∷ 0x01 ∷ 0x00 ∷ 0x00
          ∷ 0x80
          ∷ [];
      report = 0 ∷ 21 ∷ 5 ∷ 39 ∷ 2 ∷ 2 ∷ [];
    }

-- Spans 0-1, 1-2, 2-0.
unfoldable pub triangle_spans : List Command
triangle_spans = add_cabinet ∷ add_cabinet ∷ add_cabinet ∷ add_span 0 1 ∷ add_span 1 2 ∷ add_span 2 0 ∷ []

-- Triangle: from 0 to 1 along span 0, and around along spans 2 and 1; from 1 to 0 around along spans 1 and 2. The register gives the short
-- way first.
unfoldable pub routes_in_triangle : History
routes_in_triangle =
    record {
      input = journal_bytes (triangle_spans ++ routes_between 0 1 ∷ routes_between 1 0 ∷ []);
      output =
          output
          (cabinet_added 0
          ∷ cabinet_added 1
          ∷ cabinet_added 2
          ∷ span_added 0 0 (notice district 1 0 ∷ [])
          ∷ span_added 1 1 (notice district 2 0 ∷ [])
          ∷ span_added 2 0 (notice ring 1 0 ∷ notice ring 2 0 ∷ notice mesh 1 0 ∷ [])
          ∷ plain (routes_are (0 ∷ []) (2 ∷ 1 ∷ []))
          ∷ plain (routes_are (0 ∷ []) (1 ∷ 2 ∷ []))
          ∷ [])
          accepted;
      report = 0 ∷ 28 ∷ 8 ∷ 77 ∷ 3 ∷ 3 ∷ [];
    }

-- A ladder: spans 0, 1, 2 along 0-1-2-5, spans 3, 4, 5 along 0-3-4-5, and span 6 for the rung 1-4.
unfoldable pub ladder_spans : List Command
ladder_spans =
    add_cabinet
    ∷ add_cabinet
    ∷ add_cabinet
    ∷ add_cabinet
    ∷ add_cabinet
    ∷ add_cabinet
    ∷ add_span 0 1
    ∷ add_span 1 2
    ∷ add_span 2 5
    ∷ add_span 0 3
    ∷ add_span 3 4
    ∷ add_span 4 5
    ∷ add_span 1 4
    ∷ []

-- From 0 to 5 both spans at 0 and both at 5 are needed, so the routes are the two sides of the ladder, in either order. The way that is
-- found first takes the rung, 0-1-4-5: from 5 cabinet 4 is seen before cabinet 2, since span 5 is later than span 2, and from 4 cabinet 1
-- before cabinet 3, since span 6 is later than span 4. The second way comes by 0-3-4, goes back over the rung and on by 1-2-5, so that the
-- rung is left by both.
unfoldable pub rung_given_back : History
rung_given_back =
    record {
      input = journal_bytes (ladder_spans ++ routes_between 0 5 ∷ []);
      output =
          output
          (cabinet_added 0
          ∷ cabinet_added 1
          ∷ cabinet_added 2
          ∷ cabinet_added 3
          ∷ cabinet_added 4
          ∷ cabinet_added 5
          ∷ span_added 0 0 (notice district 1 0 ∷ [])
          ∷ span_added 1 1 (notice district 2 0 ∷ [])
          ∷ span_added 2 2 (notice district 5 0 ∷ [])
          ∷ span_added 3 3 (notice district 3 0 ∷ [])
          ∷ span_added 4 4 (notice district 4 0 ∷ [])
          ∷ span_added
          5
          0
          (notice ring 1 0
          ∷ notice ring 2 0
          ∷ notice ring 3 0
          ∷ notice ring 4 0
          ∷ notice ring 5 0
          ∷ notice mesh 1 0
          ∷ notice mesh 2 0
          ∷ notice mesh 3 0
          ∷ notice mesh 4 0
          ∷ [])
          ∷ span_added 6 0 []
          ∷ plain (routes_are (3 ∷ 4 ∷ 5 ∷ []) (0 ∷ 1 ∷ 2 ∷ []))
          ∷ [])
          accepted;
      report = 0 ∷ 46 ∷ 14 ∷ 154 ∷ 6 ∷ 7 ∷ [];
    }

-- Spans 1-2, 1-2, 0-1, 0-1, those of each pair in ducts 1 and 2.
unfoldable pub two_meshes_spans : List Command
two_meshes_spans =
    add_cabinet ∷ add_cabinet ∷ add_cabinet ∷ add_duct_span 1 2 1 ∷ add_duct_span 1 2 2 ∷ add_duct_span 0 1 1 ∷ add_duct_span 0 1 2 ∷ []

-- Two meshes that meet at cut cabinet 1: both routes pass through it. Either span of 0-1 goes on with either of 1-2; the register gives the
-- two later ones, and then the two earlier ones.
unfoldable pub routes_through_cut : History
routes_through_cut =
    record {
      input = journal_bytes (two_meshes_spans ++ cut_cabinets 0 2 ∷ routes_between 0 2 ∷ []);
      output =
          output
          (cabinet_added 0
          ∷ cabinet_added 1
          ∷ cabinet_added 2
          ∷ span_added 0 0 (notice district 2 1 ∷ [])
          ∷ span_added 1 0 (notice ring 2 1 ∷ [])
          ∷ span_added 2 2 (notice district 0 1 ∷ [])
          ∷ span_added 3 2 (notice ring 0 1 ∷ [])
          ∷ plain (cut_cabinets_are (1 ∷ []))
          ∷ plain (routes_are (3 ∷ 1 ∷ []) (2 ∷ 0 ∷ []))
          ∷ [])
          accepted;
      report = 0 ∷ 41 ∷ 9 ∷ 75 ∷ 3 ∷ 4 ∷ [];
    }

-- Two mates and a span beside them: the span is one route, and either mate the other. The register gives the later mate.
unfoldable pub mates_and_a_span : List Command
mates_and_a_span = add_cabinet ∷ add_cabinet ∷ add_duct_span 0 1 7 ∷ add_duct_span 1 0 7 ∷ add_span 0 1 ∷ []

unfoldable pub route_beside_mates : History
route_beside_mates =
    record {
      input = journal_bytes (mates_and_a_span ++ routes_between 0 1 ∷ []);
      output =
          output
          (cabinet_added 0
          ∷ cabinet_added 1
          ∷ span_added 0 0 (notice district 1 0 ∷ [])
          ∷ span_added 1 0 []
          ∷ span_added 2 0 (notice ring 1 0 ∷ [])
          ∷ plain (routes_are (2 ∷ []) (1 ∷ []))
          ∷ [])
          accepted;
      report = 0 ∷ 26 ∷ 6 ∷ 46 ∷ 2 ∷ 3 ∷ [];
    }

-- The same on a longer way, with the duct's number once more at another pair, where it means nothing: one route takes span 2 and the other
-- one of the mates 0 and 1, and each one of the spans 3 and 4. The register gives the latest.
unfoldable pub mates_on_the_way_spans : List Command
mates_on_the_way_spans =
    add_cabinet ∷ add_cabinet ∷ add_cabinet ∷ add_duct_span 0 1 4 ∷ add_duct_span 0 1 4 ∷ add_span 0 1 ∷ add_span 1 2 ∷ add_duct_span 1 2 4 ∷ []

unfoldable pub mates_on_the_way : History
mates_on_the_way =
    record {
      input = journal_bytes (mates_on_the_way_spans ++ routes_between 0 2 ∷ []);
      output =
          output
          (cabinet_added 0
          ∷ cabinet_added 1
          ∷ cabinet_added 2
          ∷ span_added 0 0 (notice district 1 0 ∷ [])
          ∷ span_added 1 0 []
          ∷ span_added 2 0 (notice ring 1 0 ∷ [])
          ∷ span_added 3 3 (notice district 2 0 ∷ [])
          ∷ span_added 4 3 (notice ring 2 0 ∷ [])
          ∷ plain (routes_are (2 ∷ 4 ∷ []) (1 ∷ 3 ∷ []))
          ∷ [])
          accepted;
      report = 0 ∷ 39 ∷ 9 ∷ 77 ∷ 3 ∷ 5 ∷ [];
    }

-- Only mates between two cabinets: 14.
unfoldable pub only_mates : History
only_mates =
    record {
      input = journal_bytes (add_cabinet ∷ add_cabinet ∷ add_duct_span 0 1 7 ∷ add_duct_span 0 1 7 ∷ routes_between 0 1 ∷ []);
      output =
          output
          (cabinet_added 0 ∷ cabinet_added 1 ∷ span_added 0 0 (notice district 1 0 ∷ []) ∷ span_added 1 0 [] ∷ [])
          (refused_with 14 16);
      report = 14 ∷ 16 ∷ 4 ∷ 25 ∷ 2 ∷ 2 ∷ [];
    }

-- So it is with spans of 02 alone.
unfoldable pub only_with_no_duct_told : History
only_with_no_duct_told =
    record {
      input = journal_bytes (add_cabinet ∷ add_cabinet ∷ add_span 0 1 ∷ add_span 1 0 ∷ routes_between 0 1 ∷ []);
      output =
          output
          (cabinet_added 0 ∷ cabinet_added 1 ∷ span_added 0 0 (notice district 1 0 ∷ []) ∷ span_added 1 0 [] ∷ [])
          (refused_with 14 12);
      report = 14 ∷ 12 ∷ 4 ∷ 25 ∷ 2 ∷ 2 ∷ [];
    }

-- Two rings of one district: 14.
unfoldable pub across_rings : History
across_rings =
    record {
      input =
          journal_bytes
          (add_cabinet ∷ add_cabinet ∷ add_cabinet ∷ add_duct_span 0 1 1 ∷ add_duct_span 0 1 2 ∷ add_span 1 2 ∷ routes_between 0 2 ∷ []);
      output =
          output
          (cabinet_added 0
          ∷ cabinet_added 1
          ∷ cabinet_added 2
          ∷ span_added 0 0 (notice district 1 0 ∷ [])
          ∷ span_added 1 0 (notice ring 1 0 ∷ [])
          ∷ span_added 2 2 (notice district 2 0 ∷ [])
          ∷ [])
          (refused_with 14 22);
      report = 14 ∷ 22 ∷ 6 ∷ 45 ∷ 3 ∷ 3 ∷ [];
    }

-- Two districts: 14, and not 10.
unfoldable pub routes_across_districts : History
routes_across_districts =
    record {
      input = journal_bytes (add_cabinet ∷ add_cabinet ∷ routes_between 0 1 ∷ []);
      output = output (cabinet_added 0 ∷ cabinet_added 1 ∷ []) (refused_with 14 2);
      report = 14 ∷ 2 ∷ 2 ∷ 6 ∷ 2 ∷ 0 ∷ [];
    }

-- A cabinet and itself: 8.
unfoldable pub routes_to_itself : History
routes_to_itself =
    record {
      input = journal_bytes (add_cabinet ∷ routes_between 0 0 ∷ []);
      output = output (cabinet_added 0 ∷ []) (refused_with 8 1);
      report = 8 ∷ 1 ∷ 1 ∷ 3 ∷ 1 ∷ 0 ∷ [];
    }

-- A cabinet that is not there: 6. And it with itself: 6.
unfoldable pub routes_to_nowhere : History
routes_to_nowhere =
    record {
      input = journal_bytes (add_cabinet ∷ routes_between 0 5 ∷ []);
      output = output (cabinet_added 0 ∷ []) (refused_with 6 1);
      report = 6 ∷ 1 ∷ 1 ∷ 3 ∷ 1 ∷ 0 ∷ [];
    }

unfoldable pub routes_from_nowhere : History
routes_from_nowhere =
    record {
      input = journal_bytes (add_cabinet ∷ routes_between 5 5 ∷ []);
      output = output (cabinet_added 0 ∷ []) (refused_with 6 1);
      report = 6 ∷ 1 ∷ 1 ∷ 3 ∷ 1 ∷ 0 ∷ [];
    }

unfoldable pub route_histories : List History
route_histories =
    routes_in_two_ducts
    ∷ routes_in_triangle
    ∷ rung_given_back
    ∷ routes_through_cut
    ∷ route_beside_mates
    ∷ mates_on_the_way
    ∷ only_mates
    ∷ only_with_no_duct_told
    ∷ across_rings
    ∷ routes_across_districts
    ∷ routes_to_itself
    ∷ routes_to_nowhere
    ∷ routes_from_nowhere
    ∷ []

-- Two lists of spans offered as routes between two cabinets after these commands, and whether they serve.
pub record Offer : Type 0 where
  pub commands : List Command
  pub first : ℕ
  pub second : ℕ
  pub routes : Routes
  pub serves : Bool

unfoldable pub offer : List Command → ℕ → ℕ → List ℕ → List ℕ → Bool → Offer
offer commands a b ss ts serves =
    record { commands = commands; first = a; second = b; routes = record { first = ss; second = ts }; serves = serves }

-- What the definition says of them.
unfoldable pub judged : Offer → Bool
judged o = serve (book_after register_rule o.commands).network o.first o.second o.routes

-- Every pair that serves in the histories, and others, with a route that is the other one again, that stands in reverse order, that ends too
-- early or goes on too long, that has no span, that begins elsewhere, that comes by a cabinet twice, comes back to its start, or passes its
-- end and comes back to it, that has a span that is not there, a span of the other one or a mate of one.
unfoldable pub offers : List Offer
offers =
    offer two_ducts_spans 0 1 (1 ∷ []) (0 ∷ []) true
    ∷ offer two_ducts_spans 0 1 (0 ∷ []) (1 ∷ []) true
    ∷ offer triangle_spans 0 1 (0 ∷ []) (2 ∷ 1 ∷ []) true
    ∷ offer triangle_spans 0 1 (2 ∷ 1 ∷ []) (0 ∷ []) true
    ∷ offer triangle_spans 1 0 (0 ∷ []) (1 ∷ 2 ∷ []) true
    ∷ offer triangle_spans 1 0 (1 ∷ 2 ∷ []) (0 ∷ []) true
    ∷ offer triangle_spans 0 1 (0 ∷ []) (0 ∷ []) false
    ∷ offer triangle_spans 0 1 (0 ∷ []) (1 ∷ 2 ∷ []) false
    ∷ offer triangle_spans 0 1 (0 ∷ []) (2 ∷ []) false
    ∷ offer triangle_spans 0 1 (2 ∷ []) (0 ∷ []) false
    ∷ offer triangle_spans 0 2 (2 ∷ []) (0 ∷ 1 ∷ 2 ∷ []) false
    ∷ offer triangle_spans 0 1 (0 ∷ []) [] false
    ∷ offer triangle_spans 0 1 (0 ∷ []) (1 ∷ []) false
    ∷ offer triangle_spans 0 1 (2 ∷ 1 ∷ []) (0 ∷ 0 ∷ 0 ∷ []) false
    ∷ offer triangle_spans 0 1 (0 ∷ []) (3 ∷ []) false
    ∷ offer ladder_spans 0 5 (3 ∷ 4 ∷ 5 ∷ []) (0 ∷ 1 ∷ 2 ∷ []) true
    ∷ offer ladder_spans 0 5 (0 ∷ 1 ∷ 2 ∷ []) (3 ∷ 4 ∷ 5 ∷ []) true
    ∷ offer ladder_spans 0 5 (0 ∷ 6 ∷ 5 ∷ []) (3 ∷ 4 ∷ 6 ∷ 1 ∷ 2 ∷ []) false
    ∷ offer two_meshes_spans 0 2 (3 ∷ 1 ∷ []) (2 ∷ 0 ∷ []) true
    ∷ offer two_meshes_spans 0 2 (3 ∷ 0 ∷ []) (2 ∷ 1 ∷ []) true
    ∷ offer two_meshes_spans 0 2 (2 ∷ 1 ∷ []) (3 ∷ 0 ∷ []) true
    ∷ offer two_meshes_spans 0 2 (2 ∷ 0 ∷ []) (3 ∷ 1 ∷ []) true
    ∷ offer two_meshes_spans 0 2 (3 ∷ 1 ∷ []) (2 ∷ 1 ∷ []) false
    ∷ offer two_meshes_spans 1 2 (2 ∷ 3 ∷ 0 ∷ []) (1 ∷ []) false
    ∷ offer two_meshes_spans 1 2 (1 ∷ []) (2 ∷ 3 ∷ 0 ∷ []) false
    ∷ offer two_meshes_spans 0 1 (2 ∷ 0 ∷ 1 ∷ []) (3 ∷ []) false
    ∷ offer two_meshes_spans 0 1 (3 ∷ []) (2 ∷ 0 ∷ 1 ∷ []) false
    ∷ offer mates_and_a_span 0 1 (2 ∷ []) (1 ∷ []) true
    ∷ offer mates_and_a_span 0 1 (2 ∷ []) (0 ∷ []) true
    ∷ offer mates_and_a_span 0 1 (1 ∷ []) (2 ∷ []) true
    ∷ offer mates_and_a_span 0 1 (0 ∷ []) (2 ∷ []) true
    ∷ offer mates_and_a_span 0 1 (0 ∷ []) (1 ∷ []) false
    ∷ offer mates_on_the_way_spans 0 2 (2 ∷ 4 ∷ []) (1 ∷ 3 ∷ []) true
    ∷ offer mates_on_the_way_spans 0 2 (2 ∷ 4 ∷ []) (0 ∷ 3 ∷ []) true
    ∷ offer mates_on_the_way_spans 0 2 (2 ∷ 3 ∷ []) (1 ∷ 4 ∷ []) true
    ∷ offer mates_on_the_way_spans 0 2 (2 ∷ 3 ∷ []) (0 ∷ 4 ∷ []) true
    ∷ offer mates_on_the_way_spans 0 2 (1 ∷ 3 ∷ []) (2 ∷ 4 ∷ []) true
    ∷ offer mates_on_the_way_spans 0 2 (0 ∷ 3 ∷ []) (2 ∷ 4 ∷ []) true
    ∷ offer mates_on_the_way_spans 0 2 (1 ∷ 4 ∷ []) (2 ∷ 3 ∷ []) true
    ∷ offer mates_on_the_way_spans 0 2 (0 ∷ 4 ∷ []) (2 ∷ 3 ∷ []) true
    ∷ offer mates_on_the_way_spans 0 2 (0 ∷ 4 ∷ []) (1 ∷ 3 ∷ []) false
    ∷ []
