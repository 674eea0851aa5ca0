-- The tests of the code: each passes, or refuses for its cause.
use Rattle.std.specs.Prelude.{Bool, true, false, not, cond, Option, None, Some, Result, Ok, Err, List, ◌≡◌, ℕ, ◌<◌, eqb, leb, ltb}
use Rattle.graph.specs.Groups.{component, bridge_block}
use Rattle.numbers.specs.declared.Duct.{Duct}
use Rattle.numbers.specs.declared.Shape.{Shape}
use Rattle.refusals.specs.declared.Refusal.{Refusal}
use Rattle.refusals.specs.declared.Refusal.TheVariants as R
use Rattle.forest.specs.Promise.{state_of, network_in}
use Rattle.reading.specs.declared.read.Order.{Order}
use Rattle.reading.specs.declared.read.Order.TheVariants as O

-- What a test gives.
abbrev pub Judgement : Type 0
Judgement = Result Unit Refusal

-- What is demanded is met, or refused so.
abbrev pub demand : Bool → Refusal → Judgement
demand is_met refusal = cond is_met (Ok tt) (Err refusal)

-- One test and then another: the first refusal of the two.
abbrev pub and_then : Judgement → Judgement → Judgement
and_then (Ok passed) later = later
and_then (Err refusal) later = Err refusal

abbrev pub cabinet_known : Shape → ℕ → Judgement
cabinet_known shape a = demand (ltb a shape.vertices) R.UnknownCabinet

abbrev pub span_known : Shape → ℕ → Judgement
span_known shape s = demand (ltb s shape.edges) R.UnknownSpan

abbrev pub cabinets_known : Shape → ℕ → ℕ → Judgement
cabinets_known shape a b = and_then (cabinet_known shape a) (cabinet_known shape b)

abbrev pub differ : Shape → ℕ → ℕ → Judgement
differ shape a b = and_then (cabinets_known shape a b) (demand (not (eqb a b)) R.EqualCabinets)

abbrev pub no_exchange : Shape → List ℕ → ℕ → Judgement
no_exchange shape t a = and_then (cabinet_known shape a) (demand (not ((state_of shape t).marked a)) R.AlreadyExchange)

abbrev pub some_duct : Option Duct → Judgement
some_duct None = Ok tt
some_duct (Some d) = demand (not (eqb d.0 0)) R.NoDuct

abbrev pub room_for_cabinet : Shape → Judgement
room_for_cabinet shape = demand (not (leb shape.limits.vertices shape.vertices)) R.Full

abbrev pub new_span : Shape → ℕ → ℕ → Option Duct → Judgement
new_span shape a b duct =
    and_then (differ shape a b) (and_then (some_duct duct) (demand (not (leb shape.limits.edges shape.edges)) R.Full))

abbrev pub share_district : Shape → List ℕ → ℕ → ℕ → Judgement
share_district shape t a b = and_then (cabinets_known shape a b) (demand (component (network_in shape t) a b) R.TwoDistricts)

abbrev pub share_ring : Shape → List ℕ → ℕ → ℕ → Judgement
share_ring shape t a b = and_then (differ shape a b) (demand (bridge_block (network_in shape t) a b) R.NoSharedRing)

-- The tests of each command, in the order of the table of causes.
unfoldable pub judgement : Shape → List ℕ → Order → Judgement
judgement shape t O.AddCabinet = room_for_cabinet shape
judgement shape t (O.AddSpan a b duct) = new_span shape a.0 b.0 duct
judgement shape t (O.DistrictName a) = cabinet_known shape a.0
judgement shape t (O.RingName a) = cabinet_known shape a.0
judgement shape t (O.SharedMesh a b) = differ shape a.0 b.0
judgement shape t (O.SoleSpans a b) = share_district shape t a.0 b.0
judgement shape t (O.CutCabinets a b) = share_district shape t a.0 b.0
judgement shape t (O.IsSole s) = span_known shape s.0
judgement shape t (O.MarkExchange a) = no_exchange shape t a.0
judgement shape t (O.HoldsExchange a) = cabinet_known shape a.0
judgement shape t (O.RoutesBetween a b) = share_ring shape t a.0 b.0
judgement shape t (O.RecordLength s measure) = span_known shape s.0
judgement shape t (O.SpanLength s) = span_known shape s.0
judgement shape t O.ExchangeShare = Ok tt

-- What is known of a command that passes them.
unfoldable pub Passed : Shape → List ℕ → Order → Type 0
Passed shape t O.AddCabinet = shape.vertices < shape.limits.vertices
Passed shape t (O.AddSpan a b duct) =
    (shape.edges < shape.limits.edges) × (a.0 < shape.vertices) × (b.0 < shape.vertices) × (a.0 ≡ b.0 → ⊥)
Passed shape t (O.DistrictName a) = a.0 < shape.vertices
Passed shape t (O.RingName a) = a.0 < shape.vertices
Passed shape t (O.SharedMesh a b) = (a.0 < shape.vertices) × (b.0 < shape.vertices) × (a.0 ≡ b.0 → ⊥)
Passed shape t (O.SoleSpans a b) =
    (a.0 < shape.vertices) × (b.0 < shape.vertices) × (component (network_in shape t) a.0 b.0 ≡ true)
Passed shape t (O.CutCabinets a b) =
    (a.0 < shape.vertices) × (b.0 < shape.vertices) × (component (network_in shape t) a.0 b.0 ≡ true)
Passed shape t (O.IsSole s) = s.0 < shape.edges
Passed shape t (O.MarkExchange a) = (a.0 < shape.vertices) × ((state_of shape t).marked a.0 ≡ false)
Passed shape t (O.HoldsExchange a) = a.0 < shape.vertices
Passed shape t (O.RoutesBetween a b) = (b.0 < shape.vertices) × (bridge_block (network_in shape t) a.0 b.0 ≡ true)
Passed shape t (O.RecordLength s measure) = s.0 < shape.edges
Passed shape t (O.SpanLength s) = s.0 < shape.edges
Passed shape t O.ExchangeShare = Unit
