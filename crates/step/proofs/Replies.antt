-- What a reply says: how many bytes the answer has, and that the limits stay.
use mathlib.Core.List.{List, ◌++◌}
use mathlib.Core.Path.{◌≡◌, refl, ◌∙◌, ap, ap₂}
use Rattle.std.specs.Prelude.{Option, None, Some}
use Prim.Native.Nat.{ℕ, ◌+◌, ◌*◌}
use native.Mathlib.Omega.{arith}
use lib.ListN.{length, length-append}
use Rattle.graph.specs.Below.{tabulate, length_tabulate}
use Rattle.commands.specs.Bytes.{two_bytes}
use Rattle.commands.specs.Field.{district, ring, mesh, cabinet, span, field_bytes, fields_bytes}
use Rattle.commands.specs.Answer.{plain_fields, plain, answer_fields, answer_bytes}
use Rattle.commands.proofs.Bytes.{cabinets_in_two_bytes, spans_in_two_bytes, length_two_bytes_each}
use Rattle.commands.proofs.NoticeBytes.{length_notices_bytes}
use Rattle.commands.proofs.AnswerLength.{routes_length}
use Rattle.forest.specs.declared.Group.{Group}
use Rattle.forest.specs.declared.Growth.{Growth}
use Rattle.numbers.specs.declared.Edge.{Edge}
use Rattle.numbers.specs.declared.Shape.{Shape}
use Rattle.forest.specs.declared.VertexGroups.{VertexGroups}
use Rattle.forest.specs.declared.VertexGroups.TheVariants as G
use Rattle.routes.specs.declared.Route.TheVariants as W
use Rattle.routes.specs.Promise.{edge_at}
use Rattle.step.specs.declared.Listed.{Listed}
use Rattle.step.specs.declared.Listed.TheVariants as L
use Rattle.step.specs.declared.Finding.{Finding}
use Rattle.step.specs.declared.Finding.TheVariants as F
use Rattle.step.specs.declared.Reply.{Reply}
use Rattle.step.specs.declared.Reply.TheVariants as R
use Rattle.step.specs.Promise.{notice_at, notices_of, notice_count, growth_notices, item_at, group_told, group_answer, shared_answer, list_answer, length_told, finding_answer, reply_answer, finding_size, reply_size, shape_after}

-- no answer changes the limits
pub limits_after : (shape : Shape) (reply : Reply) → (shape_after shape reply).limits ≡ shape.limits
limits_after shape (R.Cabinet a) = refl
limits_after shape (R.Span s growth) = refl
limits_after shape (R.Found finding) = refl

-- as many notices are written down as there are changes
pub count_notices_lem : (shape : Shape) (t : List ℕ) (growth : Growth) → length (growth_notices shape t growth) ≡ notice_count growth
count_notices_lem shape t growth =
    let districts = notices_of district shape t growth.components in
    let rings = notices_of ring shape t growth.bridge_blocks in
    let meshes = notices_of mesh shape t growth.blocks in
    omega (
      arith,
      length-append (districts ++ rings) meshes,
      length-append districts rings,
      length_tabulate growth.components (notice_at district shape t),
      length_tabulate growth.bridge_blocks (notice_at ring shape t),
      length_tabulate growth.blocks (notice_at mesh shape t),
    )

length_list : (list : Listed) (items : List ℕ) → length (answer_bytes (plain (list_answer list items))) ≡ 3 + 2 * length items
unfolding list_answer answer_bytes answer_fields plain_fields fields_bytes field_bytes two_bytes
length_list L.Spans items = omega (arith, length_two_bytes_each span spans_in_two_bytes items)
length_list L.Cabinets items = omega (arith, length_two_bytes_each cabinet cabinets_in_two_bytes items)

length-group : (groups : VertexGroups) (group : Group) → length (answer_bytes (plain (group_answer groups group))) ≡ 5
unfolding group_answer group_told answer_bytes answer_fields plain_fields fields_bytes field_bytes two_bytes
length-group G.Components group = refl
length-group G.BridgeBlocks group = refl

length_shared : (shared : Option Edge) → length (answer_bytes (plain (shared_answer shared))) ≡ 4
unfolding shared_answer answer_bytes answer_fields plain_fields fields_bytes field_bytes two_bytes
length_shared (Some name) = refl
length_shared None = refl

-- the answer to 0E has four bytes, with a length or without
length_told_lem : (kept : Option ℕ) → length (answer_bytes (plain (length_told kept))) ≡ 4
unfolding length_told answer_bytes answer_fields plain_fields fields_bytes field_bytes two_bytes
length_told_lem (Some metres) = refl
length_told_lem None = refl

finding_counted : (shape : Shape) (t : List ℕ) (finding : Finding)
    → length (answer_bytes (plain (finding_answer shape t finding))) ≡ finding_size finding
unfolding finding_answer finding_size answer_bytes answer_fields plain_fields fields_bytes field_bytes two_bytes
finding_counted shape t (F.Group groups group) = length-group groups group
finding_counted shape t (F.Mesh shared) = length_shared shared
finding_counted shape t (F.List list count) =
    length_list list (tabulate count (item_at list shape t)) ∙ ap (λ (n : ℕ). 3 + 2 * n) (length_tabulate count (item_at list shape t))
finding_counted shape t (F.Sole sole) = refl
finding_counted shape t F.Marked = refl
finding_counted shape t (F.Held held) = refl
finding_counted shape t (F.Routes lengths) =
    routes_length (tabulate lengths.first (edge_at shape t W.First)) (tabulate lengths.second (edge_at shape t W.Second))
    ∙ ap₂
    (λ (n m : ℕ). 5 + 2 * (n + m))
    (length_tabulate lengths.first (edge_at shape t W.First))
    (length_tabulate lengths.second (edge_at shape t W.Second))
finding_counted shape t F.Recorded = refl
finding_counted shape t (F.Measured kept) = length_told_lem kept
finding_counted shape t (F.Share share) = refl

-- the answer that a reply is has as many bytes as are counted for it
pub reply_counted : (shape : Shape) (t : List ℕ) (reply : Reply) → length (answer_bytes (reply_answer shape t reply)) ≡ reply_size reply
unfolding reply_answer reply_size answer_bytes answer_fields fields_bytes field_bytes two_bytes
reply_counted shape t (R.Cabinet a) = refl
reply_counted shape t (R.Span s growth) =
    omega (arith, length_notices_bytes (growth_notices shape t growth), count_notices_lem shape t growth)
reply_counted shape t (R.Found finding) = finding_counted shape t finding
