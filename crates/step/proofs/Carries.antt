-- What the operations on the table promise makes each command carried out: the state after it, and the answer from the state before it.
use mathlib.Core.Bool.{Bool}
use mathlib.Core.List.{List, map}
use mathlib.Core.Option.{Option, none, some}
use mathlib.Core.Path.{◌≡◌, refl, sym, ◌∙◌, ap, ap₂}
use Prim.Native.Nat.{ℕ, ◌<◌}
use native.Mathlib.Omega.{arith}
use Rattle.graph.specs.Below.{tabulate}
use Rattle.graph.specs.Network.{edge_between, edge_in_duct}
use Rattle.graph.specs.Groups.{bridge}
use Rattle.graph.specs.Block.{shared_block}
use Rattle.graph.specs.Between.{bridges_between, cuts_between}
use Rattle.naming.specs.Rename.{Change, size, name_of, changes_between}
use Rattle.naming.specs.Book.{Book, neither, feed}
use Rattle.naming.specs.Lookup.{group_of, component_of, bridge_block_of}
use Rattle.naming.specs.Survey.{Survey, holding}
use Rattle.naming.specs.State.{State, after_addition, records_nothing, marks_after, surveys_after, after_recording}
use Rattle.naming.proofs.Listed.{map_tabulate}
use Rattle.naming.proofs.Agree.{agree_of_equal}
use Rattle.commands.specs.Field.{Kind, district, ring, mesh, Field}
use Rattle.commands.specs.Command.{Command, add_cabinet, add_span, district_name, ring_name, shared_mesh, sole_spans, cut_cabinets, is_sole, mark_exchange, holds_exchange, add_duct_span, routes_between, record_length, span_length, exchange_share}
use Rattle.commands.specs.Answer.{change_notice, changes, notices, plain, district_is, ring_is, sole_is, exchange_held, routes_are, share_is}
use Rattle.commands.specs.Exchange.{ring_holds_exchange, share_with_exchange}
use Rattle.commands.specs.Facts.{Demand, adds_span, asks, mesh_answer, routes_answer, length_answer, facts, addition_of, addition, recording_of, recording, after, span_answer, answer_to, answer}
use Rattle.commands.specs.Register.{register_routes}
use Rattle.std.specs.Prelude as P
use Rattle.numbers.specs.declared.Duct.{Duct}
use Rattle.numbers.specs.declared.Edge.{Edge}
use Rattle.reading.specs.Inside.Reads.{span_command}
use Rattle.forest.specs.declared.Group.{Group}
use Rattle.forest.specs.declared.Growth.{Growth}
use Rattle.numbers.specs.declared.Shape.{Shape}
use Rattle.forest.specs.declared.Network.{Network}
use Rattle.forest.specs.declared.VertexGroups.{VertexGroups}
use Rattle.forest.specs.declared.VertexGroups.TheVariants as G
use Rattle.forest.specs.Promise.{IsSame, Holds, state_of, book_in, network_in, vertices_held, edges_held, few_vertices, few_edges, same_beyond_refl, one_edge_more, VertexAdded, EdgeAdded, VertexMarked, SurveyEntered, ListWritten, vertex_names, vertex_groups, length_given, shared_name}
use Rattle.routes.specs.declared.Lengths.{Lengths}
use Rattle.routes.specs.Promise.{RoutesFound}
use Rattle.step.specs.declared.Listed.{Listed}
use Rattle.step.specs.declared.Listed.TheVariants as M
use Rattle.step.specs.declared.Finding.{Finding}
use Rattle.step.specs.declared.Finding.TheVariants as F
use Rattle.step.specs.declared.Reply.TheVariants as R
use Rattle.step.specs.Promise.{notice_at, notice_count, growth_notices, item_at, group_told, group_answer, shared_answer, list_answer, length_told, finding_answer, reply_answer, Carried, CarriedIn}
use Rattle.step.specs.Inside.Asked.{asks_group, duct_of}

-- A command that adds nothing leaves the network's size as it is.
pub same_in : {c : Command} {old new : Network} {finding : Finding}
    → Carried old.table.shape c old.table.words.now new.table.words.now (R.Found finding) → IsSame old.table new.table
    → CarriedIn c old new (R.Found finding)
same_in carried same = record { carried = carried; shape = same.shape; reference = same.words }

pub asked_in : {c : Command} {n : Network} {finding : Finding}
    → Carried n.table.shape c n.table.words.now n.table.words.now (R.Found finding) → CarriedIn c n n (R.Found finding)
asked_in carried = record { carried = carried; shape = refl; reference = refl }

-- a cabinet more
pub cabinet_carried : {shape : Shape} {old new : List ℕ} → VertexAdded shape old new
    → Carried shape add_cabinet old new (R.Cabinet (record { 0 = shape.vertices }))
unfolding after after_addition after_recording marks_after surveys_after addition addition_of recording recording_of facts reply_answer answer answer_to
cabinet_carried {shape} {old} a =
    record {
      holds = a.holds;
      agrees = agree_of_equal a.state_is;
      answer_is = rw (vertices_held shape old);
      fits = tt;
      same_beyond = a.same_beyond;
    }

-- A question: a command that adds nothing and records nothing.
module _ (shape : Shape) (c : Command) (adds_nothing : addition c ≡ neither) (records_nothing_lem : recording c ≡ records_nothing) where
  -- it leaves the state as it is
  leaves : (s : State) → after s c ≡ s
  unfolding after after_addition after_recording marks_after surveys_after feed
  leaves s = rw (adds_nothing, records_nothing_lem)

  -- so it is carried out with a table that is not touched
  pub question_carried : (t : List ℕ) (finding : Finding) → Holds shape t
      → plain (finding_answer shape t finding) ≡ answer register_routes (state_of shape t) c
      → Carried shape c t t (R.Found finding)
  unfolding reply_answer
  question_carried t finding holds e =
      record {
        holds = holds;
        agrees = agree_of_equal (sym (leaves (state_of shape t)));
        answer_is = e;
        fits = tt;
        same_beyond = same_beyond_refl shape.limits t;
      }

  -- and with a list written down in it
  pub list_carried : (old new : List ℕ) (kind : Listed) (count : ℕ) (list : List ℕ)
      → ListWritten shape old new (item_at kind shape new) count list
      → plain (list_answer kind list) ≡ answer register_routes (state_of shape old) c
      → Carried shape c old new (R.Found (F.List kind count))
  unfolding reply_answer finding_answer
  list_carried old new kind count list w e =
      record {
        holds = w.holds;
        agrees = agree_of_equal (w.state_is ∙ sym (leaves (state_of shape old)));
        answer_is = ap (λ l. plain (list_answer kind l)) w.is_list ∙ e;
        fits = tt;
        same_beyond = w.same_beyond;
      }

-- a group of this name and this size is the one that the book looks up
group_told_lem : (shape : Shape) (groups : VertexGroups) (a : ℕ) (t : List ℕ) (group : Group)
    → group.name.0 ≡ name_of (vertex_names groups (book_in shape t)) a
    → group.size ≡ size shape.vertices (vertex_groups groups (network_in shape t)) a
    → group_told group ≡ group_of (network_in shape t).vertices (vertex_names groups (book_in shape t)) (vertex_groups groups (network_in shape t)) a
unfolding group_told group_of
group_told_lem shape groups a t group name_is size_is = rw (vertices_held shape t, name_is, size_is)

-- 03 and 04: the cabinet's district, and its ring
pub group_carried : {shape : Shape} (groups : VertexGroups) (a : ℕ) {t : List ℕ} {group : Group} → Holds shape t
    → group.name.0 ≡ name_of (vertex_names groups (book_in shape t)) a
    → group.size ≡ size shape.vertices (vertex_groups groups (network_in shape t)) a
    → Carried shape (asks_group groups a) t t (R.Found (F.Group groups group))
unfolding asks_group addition addition_of recording recording_of facts asks component_of bridge_block_of finding_answer group_answer answer answer_to
group_carried {shape} G.Components a {t} {group} holds name_is size_is =
    question_carried shape (district_name a) refl refl t (F.Group G.Components group) holds
    (ap (λ g. plain (district_is g)) (group_told_lem shape G.Components a t group name_is size_is))
group_carried {shape} G.BridgeBlocks a {t} {group} holds name_is size_is =
    question_carried shape (ring_name a) refl refl t (F.Group G.BridgeBlocks group) holds
    (ap (λ g. plain (ring_is g)) (group_told_lem shape G.BridgeBlocks a t group name_is size_is))

mesh_answer_lem : (b : Book) (o : Option ℕ) → shared_answer (shared_name b.blocks o) ≡ mesh_answer b o
unfolding shared_answer mesh_answer
mesh_answer_lem b none = refl
mesh_answer_lem b (some s) = refl

-- 05: the name of the mesh that two cabinets share
pub shared_carried : {shape : Shape} {a b : ℕ} {t : List ℕ} {shared : P.Option Edge} → Holds shape t
    → shared ≡ shared_name (book_in shape t).blocks (shared_block (network_in shape t) a b)
    → Carried shape (shared_mesh a b) t t (R.Found (F.Mesh shared))
unfolding addition addition_of recording recording_of facts asks finding_answer answer answer_to
shared_carried {shape} {a} {b} {t} {shared} holds e =
    question_carried shape (shared_mesh a b) refl refl t (F.Mesh shared) holds
    (ap (λ (x : P.Option Edge). plain (shared_answer x)) e ∙ ap plain (mesh_answer_lem (book_in shape t) (shared_block (network_in shape t) a b)))

-- 06: the sole spans between two cabinets
pub sole_spans_carried : {shape : Shape} {a b : ℕ} {old new : List ℕ} {count : ℕ}
    → ListWritten shape old new (item_at M.Spans shape new) count (bridges_between (network_in shape old) a b)
    → Carried shape (sole_spans a b) old new (R.Found (F.List M.Spans count))
unfolding addition addition_of recording recording_of facts asks list_answer answer answer_to
sole_spans_carried {shape} {a} {b} {old} {new} {count} w = list_carried shape (sole_spans a b) refl refl old new M.Spans count _ w refl

-- 07: the cut cabinets between them
pub cut_cabinets_carried : {shape : Shape} {a b : ℕ} {old new : List ℕ} {count : ℕ}
    → ListWritten shape old new (item_at M.Cabinets shape new) count (cuts_between (network_in shape old) a b)
    → Carried shape (cut_cabinets a b) old new (R.Found (F.List M.Cabinets count))
unfolding addition addition_of recording recording_of facts asks list_answer answer answer_to
cut_cabinets_carried {shape} {a} {b} {old} {new} {count} w = list_carried shape (cut_cabinets a b) refl refl old new M.Cabinets count _ w refl

-- 08: whether the span is sole
pub sole_carried : {shape : Shape} {s : ℕ} {t : List ℕ} {sole : Bool} → Holds shape t → sole ≡ bridge (network_in shape t) s
    → Carried shape (is_sole s) t t (R.Found (F.Sole sole))
unfolding addition addition_of recording recording_of facts asks finding_answer answer answer_to
sole_carried {shape} {s} {t} {sole} holds e =
    question_carried shape (is_sole s) refl refl t (F.Sole sole) holds (ap (λ x. plain (sole_is x)) e)

-- 09: the cabinet is marked
pub mark_carried : {shape : Shape} {a : ℕ} {old new : List ℕ} → VertexMarked shape a old new
    → Carried shape (mark_exchange a) old new (R.Found F.Marked)
unfolding after after_addition feed addition addition_of recording recording_of facts finding_answer reply_answer answer answer_to
mark_carried m =
    record { holds = m.holds; agrees = agree_of_equal m.state_is; answer_is = refl; fits = tt; same_beyond = m.same_beyond }

-- 0A: whether the cabinet's ring holds an exchange
pub held_carried : {shape : Shape} {a : ℕ} {t : List ℕ} {held : Bool} → Holds shape t → held ≡ ring_holds_exchange (state_of shape t) a
    → Carried shape (holds_exchange a) t t (R.Found (F.Held held))
unfolding addition addition_of recording recording_of facts asks finding_answer answer answer_to
held_carried {shape} {a} {t} {held} holds e =
    question_carried shape (holds_exchange a) refl refl t (F.Held held) holds (ap (λ x. plain (exchange_held x)) e)

-- 0C: the two routes
pub routes_carried : {shape : Shape} {a b : ℕ} {old new : List ℕ} {lengths : Lengths} → RoutesFound shape a b old new lengths
    → Carried shape (routes_between a b) old new (R.Found (F.Routes lengths))
unfolding addition addition_of recording recording_of facts routes_answer register_routes finding_answer reply_answer answer answer_to
routes_carried {shape} {a} {b} {old} found =
    record {
      holds = found.holds;
      agrees = agree_of_equal (found.state_is ∙ sym (leaves shape (routes_between a b) refl refl (state_of shape old)));
      answer_is = ap₂ (λ ss ts. plain (routes_are ss ts)) found.first_is found.second_is;
      fits = tt;
      same_beyond = found.same_beyond;
    }

-- 0D: the length is recorded
pub survey_carried : {shape : Shape} {s day metres : ℕ} {old new : List ℕ}
    → SurveyEntered shape (record { measured = s; day = day; metres = metres }) old new
    → Carried shape (record_length s day metres) old new (R.Found F.Recorded)
unfolding after after_addition feed addition addition_of recording recording_of facts finding_answer reply_answer answer answer_to
survey_carried entered =
    record { holds = entered.holds; agrees = entered.agrees; answer_is = refl; fits = tt; same_beyond = entered.same_beyond }

-- the length that a survey gives is answered as the paper says
length_answer_lem : (o : Option Survey) → length_told (length_given o) ≡ length_answer o
unfolding length_told length_answer
length_answer_lem none = refl
length_answer_lem (some r) = refl

-- 0E: the length of the span
pub length_carried : {shape : Shape} {s : ℕ} {t : List ℕ} {length : P.Option ℕ} → Holds shape t
    → length ≡ length_given (holding (state_of shape t).surveys s)
    → Carried shape (span_length s) t t (R.Found (F.Measured length))
unfolding addition addition_of recording recording_of facts asks finding_answer answer answer_to
length_carried {shape} {s} {t} {length} holds e =
    question_carried shape (span_length s) refl refl t (F.Measured length) holds
    (ap (λ (x : P.Option ℕ). plain (length_told x)) e ∙ ap plain (length_answer_lem (holding (state_of shape t).surveys s)))

-- 0F: the share of the cabinets whose ring holds one
pub share_carried : {shape : Shape} {t : List ℕ} {share : ℕ} → Holds shape t → share ≡ share_with_exchange (state_of shape t)
    → Carried shape exchange_share t t (R.Found (F.Share share))
unfolding addition addition_of recording recording_of facts asks finding_answer answer answer_to
share_carried {shape} {t} {share} holds e =
    question_carried shape exchange_share refl refl t (F.Share share) holds (ap (λ x. plain (share_is x)) e)

-- changes that the table has written down, as notices of a kind, are the paper's changes of that kind
kind_notices : (kind : Kind) (at : ℕ → Change) (k : ℕ) (old new : List ℕ) → tabulate k at ≡ changes_between old new
    → tabulate k (λ i. change_notice kind (at i)) ≡ changes kind old new
unfolding changes
kind_notices kind at k old new are = sym (map_tabulate (change_notice kind) k at) ∙ ap (map (change_notice kind)) are

-- A span more.
module _ (shape : Shape) (a b d : ℕ) (old new : List ℕ) (growth : Growth) (added : EdgeAdded shape a b d old new growth) where
  -- its notices are few
  few_notices : Holds shape old → notice_count growth < 65536
  few_notices holds =
      omega (
        arith,
        added.few_components,
        added.few_bridge_blocks,
        added.few_blocks,
        few_vertices shape old holds,
        few_edges shape old holds,
      )

  -- those that the table has written down are those of the books before and after
  all_notices : growth_notices (one_edge_more shape) new growth ≡ notices (book_in shape old) (book_in (one_edge_more shape) new)
  unfolding notices notice_at
  all_notices =
      rw (
        kind_notices district _ growth.components _ _ added.components_changed,
        kind_notices ring _ growth.bridge_blocks _ _ added.bridge_blocks_changed,
        kind_notices mesh _ growth.blocks _ _ added.blocks_changed,
      )

  -- so they and the new span's name are the answer
  span_answered : reply_answer (one_edge_more shape) new (R.Span (record { 0 = shape.edges }) growth)
      ≡ span_answer (book_in shape old) (book_in (one_edge_more shape) new)
  unfolding reply_answer span_answer
  span_answered = rw (edges_held shape old, added.block-name, all_notices)

  -- a command that adds just this span is carried out
  span_done : Holds shape old → (c : Command) {operands : List Field} {demands : List Demand}
      → facts c ≡ adds_span (edge_in_duct a b d) operands demands
      → Carried shape c old new (R.Span (record { 0 = shape.edges }) growth)
  unfolding after after_addition after_recording marks_after surveys_after addition addition_of recording recording_of answer answer_to
  span_done holds c is =
      record {
        holds = added.holds;
        agrees = agree_of_equal (rw is added.state_is);
        answer_is = rw is (span_answered ∙ ap (λ (s : State). span_answer (book_in shape old) s.book) added.state_is);
        fits = few_notices holds;
        same_beyond = added.same_beyond;
      }

-- 02 and 0B: a span with no duct told, or in a duct
pub span_carried : {shape : Shape} {a b : ℕ} (duct : P.Option Duct) {old new : List ℕ} {growth : Growth} → EdgeAdded shape a b (duct_of duct) old new growth
    → Holds shape old → Carried shape (span_command a b duct) old new (R.Span (record { 0 = shape.edges }) growth)
unfolding facts edge_between edge_in_duct span_command duct_of
span_carried {shape} {a} {b} P.None {old} {new} {growth} added holds = span_done shape a b 0 old new growth added holds (add_span a b) refl
span_carried {shape} {a} {b} (P.Some d) {old} {new} {growth} added holds =
    span_done shape a b d.0 old new growth added holds (add_duct_span a b d.0) refl
