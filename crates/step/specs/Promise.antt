-- What a step promises: the paper's answer for each reply, and what becomes of a command.
use Rattle.std.specs.Prelude.{Option, None, Some, Result, Ok, Err, List, ◌++◌, ◌≡◌, ℕ, ◌+◌, ◌*◌, ◌<◌}
use Rattle.std.proofs.Math.Option as Maybe
use Rattle.graph.specs.Below.{tabulate}
use Rattle.naming.specs.Lookup as Paper
use Rattle.naming.specs.State.{Agree}
use Rattle.commands.specs.Field.{Kind, district, ring, mesh}
use Rattle.commands.specs.Command.{Command}
use Rattle.commands.specs.Answer.{Notice, change_notice, Plain, district_is, ring_is, mesh_shared, no_mesh_shared, sole_spans_are, cut_cabinets_are, sole_is, exchange_marked, exchange_held, routes_are, length_recorded, length_is, no_length, share_is, Answer, cabinet_added, span_added, plain}
use Rattle.commands.specs.Facts.{after, answer}
use Rattle.commands.specs.Refusal as Table
use Rattle.commands.specs.Refusal.{Capacities, refusal_of}
use Rattle.commands.specs.Register.{register_routes}
use Rattle.numbers.specs.declared.Edge.{Edge}
use Rattle.numbers.specs.declared.Limits.{Limits}
use Rattle.numbers.specs.declared.Shape.{Shape}
use Rattle.refusals.specs.declared.Refusal.{Refusal}
use Rattle.refusals.specs.Causes.{cause_of}
use Rattle.forest.specs.declared.Group.{Group}
use Rattle.forest.specs.declared.Growth.{Growth}
use Rattle.forest.specs.declared.Network.{Network}
use Rattle.forest.specs.declared.VertexGroups.{VertexGroups}
use Rattle.forest.specs.declared.VertexGroups.TheVariants as G
use Rattle.forest.specs.Promise.{Holds, state_of, SameBeyond, one_vertex_more, one_edge_more, vertex_change_at, edge_change_at, bridge_at, cut_at}
use Rattle.routes.specs.declared.Lengths.{Lengths}
use Rattle.routes.specs.declared.Route.TheVariants as W
use Rattle.routes.specs.Promise.{edge_at}
use Rattle.step.specs.declared.Listed.{Listed}
use Rattle.step.specs.declared.Listed.TheVariants as L
use Rattle.step.specs.declared.Finding.{Finding}
use Rattle.step.specs.declared.Finding.TheVariants as F
use Rattle.step.specs.declared.Reply.{Reply}
use Rattle.step.specs.declared.Reply.TheVariants as R

-- The capacities in the paper's words.
unfoldable pub capacities_of : Limits → Capacities
capacities_of limits = record { cabinets = limits.vertices; spans = limits.edges }

-- Notice i of a kind, as the table has it written down.
unfoldable pub notice_at : Kind → Shape → List ℕ → ℕ → Notice
notice_at district shape t i = change_notice district (vertex_change_at shape G.Components t i)
notice_at ring shape t i = change_notice ring (vertex_change_at shape G.BridgeBlocks t i)
notice_at mesh shape t i = change_notice mesh (edge_change_at shape t i)

-- The first k notices of a kind.
abbrev pub notices_of : Kind → Shape → List ℕ → ℕ → List Notice
notices_of kind shape t k = tabulate k (notice_at kind shape t)

-- How many notices an added span has.
abbrev pub notice_count : Growth → ℕ
notice_count growth = growth.components + growth.bridge_blocks + growth.blocks

-- The notices of an added span.
abbrev pub growth_notices : Shape → List ℕ → Growth → List Notice
growth_notices shape t growth =
    notices_of district shape t growth.components
    ++ notices_of ring shape t growth.bridge_blocks
    ++ notices_of mesh shape t growth.blocks

-- Item i of a list that the table has written down.
unfoldable pub item_at : Listed → Shape → List ℕ → ℕ → ℕ
item_at L.Spans shape t i = bridge_at shape t i
item_at L.Cabinets shape t i = cut_at shape t i

-- A group that is looked up, in the paper's words.
unfoldable pub group_told : Group → Paper.Group
group_told group = record { name = group.name.0; size = group.size }

-- The answers to 03 and 04, to 05, and to 06 and 07.
unfoldable pub group_answer : VertexGroups → Group → Plain
group_answer G.Components group = district_is (group_told group)
group_answer G.BridgeBlocks group = ring_is (group_told group)

unfoldable pub shared_answer : Option Edge → Plain
shared_answer (Some name) = mesh_shared name.0
shared_answer None = no_mesh_shared

unfoldable pub list_answer : Listed → List ℕ → Plain
list_answer L.Spans ss = sole_spans_are ss
list_answer L.Cabinets cs = cut_cabinets_are cs

-- The answer to 0C, with the routes that the table has written down.
abbrev pub routes_told : Shape → List ℕ → Lengths → Plain
routes_told shape t lengths =
    routes_are (tabulate lengths.first (edge_at shape t W.First)) (tabulate lengths.second (edge_at shape t W.Second))

-- The answer to 0E.
unfoldable pub length_told : Option ℕ → Plain
length_told (Some metres) = length_is metres
length_told None = no_length

-- The paper's answer for each finding and for each reply, with what the table has written down.
unfoldable pub finding_answer : Shape → List ℕ → Finding → Plain
finding_answer shape t (F.Group groups group) = group_answer groups group
finding_answer shape t (F.Mesh shared) = shared_answer shared
finding_answer shape t (F.List list count) = list_answer list (tabulate count (item_at list shape t))
finding_answer shape t (F.Sole sole) = sole_is sole
finding_answer shape t F.Marked = exchange_marked
finding_answer shape t (F.Held held) = exchange_held held
finding_answer shape t (F.Routes lengths) = routes_told shape t lengths
finding_answer shape t F.Recorded = length_recorded
finding_answer shape t (F.Measured length) = length_told length
finding_answer shape t (F.Share share) = share_is share

unfoldable pub reply_answer : Shape → List ℕ → Reply → Answer
reply_answer shape t (R.Cabinet a) = cabinet_added a.0
reply_answer shape t (R.Span s growth) = span_added s.0 growth.block.0 (growth_notices shape t growth)
reply_answer shape t (R.Found finding) = plain (finding_answer shape t finding)

-- How many bytes it has.
unfoldable pub finding_size : Finding → ℕ
finding_size (F.Group groups group) = 5
finding_size (F.Mesh shared) = 4
finding_size (F.List list count) = 3 + 2 * count
finding_size (F.Sole sole) = 2
finding_size F.Marked = 1
finding_size (F.Held held) = 2
finding_size (F.Routes lengths) = 5 + 2 * (lengths.first + lengths.second)
finding_size F.Recorded = 1
finding_size (F.Measured length) = 4
finding_size (F.Share share) = 3

unfoldable pub reply_size : Reply → ℕ
reply_size (R.Cabinet a) = 3
reply_size (R.Span s growth) = 7 + 5 * notice_count growth
reply_size (R.Found finding) = finding_size finding

-- The shape of the network after the command that is answered so.
abbrev pub shape_after : Shape → Reply → Shape
shape_after shape (R.Cabinet a) = one_vertex_more shape
shape_after shape (R.Span s growth) = one_edge_more shape
shape_after shape (R.Found finding) = shape

-- A new span's notices are few enough to be counted in two bytes.
abbrev pub ReplyFits : Reply → Type 0
ReplyFits (R.Cabinet a) = Unit
ReplyFits (R.Span s growth) = notice_count growth < 65536
ReplyFits (R.Found finding) = Unit

-- A command that is carried out: the table holds a state that agrees with the one after it, and the reply is its answer.
pub record Carried (shape : Shape) (c : Command) (old new : List ℕ) (reply : Reply) : Type 0 where
  pub holds : Holds (shape_after shape reply) new
  pub agrees : Agree (state_of (shape_after shape reply) new) (after (state_of shape old) c)
  pub answer_is : reply_answer (shape_after shape reply) new reply ≡ answer register_routes (state_of shape old) c
  pub fits : ReplyFits reply
  pub same_beyond : SameBeyond shape.limits old new

-- So it is in a working table, whose network has the size after the command; the words are those that the table had.
pub record CarriedIn (c : Command) (old new : Network) (reply : Reply) : Type 0 where
  pub carried : Carried old.table.shape c old.table.words.now new.table.words.now reply
  pub shape : new.table.shape ≡ shape_after old.table.shape reply
  pub reference : new.table.words.ghost_name ≡ old.table.words.ghost_name

-- The shape of the network after a step: after a command that is done, or as before.
abbrev pub shape_stepped : Shape → Result Reply Refusal → Shape
shape_stepped shape (Ok reply) = shape_after shape reply
shape_stepped shape (Err refusal) = shape

-- What a step gives, where the table of causes says this of the command. It is refused for the table's cause; the table is as before beyond its
-- words.
pub record StepRefused (limits : Limits) (old new : List ℕ) (refusal : Refusal) (cause : Maybe.Option Table.Refusal) : Type 0 where
  pub refused : cause ≡ Maybe.some (cause_of refusal)
  pub same_beyond : SameBeyond limits old new

-- Or it is not refused, and is carried out with this reply.
pub record StepDone (shape : Shape) (c : Command) (old new : List ℕ) (reply : Reply) (cause : Maybe.Option Table.Refusal) : Type 0 where
  pub not_refused : cause ≡ Maybe.none
  pub carried : Carried shape c old new reply

abbrev pub StepMeets : Shape → Command → List ℕ → List ℕ → Result Reply Refusal → Maybe.Option Table.Refusal → Type 0
StepMeets shape c old new (Err refusal) cause = StepRefused shape.limits old new refusal cause
StepMeets shape c old new (Ok reply) cause = StepDone shape c old new reply cause

-- A step meets the table of causes.
abbrev pub StepPromise : Shape → Command → List ℕ → List ℕ → Result Reply Refusal → Type 0
StepPromise shape c old new result = StepMeets shape c old new result (refusal_of (capacities_of shape.limits) (state_of shape old) c)
