-- The tests of the code are those of the table of causes, and what is known of a command that passes them.
use mathlib.Core.Bool.{Bool, true, false, not, ◌&&◌}
use mathlib.Core.List.{List, [], ◌∷◌}
use mathlib.Core.Path.{◌≡◌, refl}
use Prim.Native.Nat.{ℕ, ◌<◌}
use lib.Dec.{eqb, leb, ltb}
use Rattle.std.specs.Prelude.{Some, None, Ok, Err}
use Rattle.std.proofs.Math.Option as Maybe
use Rattle.graph.specs.Lists.{all_in}
use Rattle.graph.specs.Network.{edge_between, edge_in_duct}
use Rattle.graph.specs.Groups.{component, bridge_block}
use Rattle.graph.proofs.Truth.{eqb_same, ltb_lt, not_both}
use Rattle.commands.specs.Facts.{asks, facts, operands_of, demands_of, addition_of, addition}
use Rattle.commands.specs.Refusal as Table
use Rattle.commands.specs.Refusal.{refusal_number, unknown_cabinet, unknown_span, equal_cabinets, full, two_districts, already_exchange, no_duct, no_shared_ring, Line, first_that_applies, cabinet_known, span_known, cabinets_known, spans_known, met, cause, meets, full_for, is_full, lines, refusal_of}
use Rattle.commands.proofs.Cases.{impossible, leb_gt}
use Rattle.numbers.specs.declared.Shape.{Shape}
use Rattle.refusals.specs.declared.Refusal.{Refusal}
use Rattle.refusals.specs.declared.Refusal.TheVariants as R
use Rattle.refusals.specs.Causes.{cause_of}
use Rattle.forest.specs.Promise.{state_of, network_in, vertices_held, edges_held}
use Rattle.reading.specs.declared.read.Order.{Order}
use Rattle.reading.specs.declared.read.Order.TheVariants as O
use Rattle.reading.specs.Inside.Reads.{span_command, meaning}
use Rattle.step.specs.Promise.{capacities_of}
use Rattle.step.specs.Inside.Judged as J
use Rattle.step.specs.Inside.Judged.{Judgement, demand, and_then, judgement, Passed}

-- The cause of what a test gives, if it refuses.
abbrev pub cause_met : Judgement → Maybe.Option Table.Refusal
cause_met (Ok passed) = Maybe.none
cause_met (Err refusal) = Maybe.some (cause_of refusal)

abbrev line : Bool → Table.Refusal → Line
line applies refusal = record { applies = applies; refusal = refusal }

-- The first line that applies gives what the tests give; lines that never apply are passed over by computing.
cabinet_line : (a : Bool) → cause_met (demand a R.UnknownCabinet) ≡ first_that_applies (line (not (a && true)) unknown_cabinet ∷ [])
unfolding first_that_applies
cabinet_line true = refl
cabinet_line false = refl

span_line : (s : Bool) → cause_met (demand s R.UnknownSpan) ≡ first_that_applies (line (not (s && true)) unknown_span ∷ [])
unfolding first_that_applies
span_line true = refl
span_line false = refl

-- the two known cabinets, and then
abbrev both : Bool → Bool → Judgement
both a b = and_then (demand a R.UnknownCabinet) (demand b R.UnknownCabinet)

different_lines : (a b same : Bool) → cause_met (and_then (both a b) (demand (not same) R.EqualCabinets))
    ≡ first_that_applies (line (not (a && (b && true))) unknown_cabinet ∷ line (not (not same && true)) equal_cabinets ∷ [])
unfolding first_that_applies
different_lines false b same = refl
different_lines true false same = refl
different_lines true true false = refl
different_lines true true true = refl

exchange_lines : (a marked : Bool) → cause_met (and_then (demand a R.UnknownCabinet) (demand (not marked) R.AlreadyExchange))
    ≡ first_that_applies (line (not (a && true)) unknown_cabinet ∷ line (not (not marked && true)) already_exchange ∷ [])
unfolding first_that_applies
exchange_lines false marked = refl
exchange_lines true false = refl
exchange_lines true true = refl

full_line : (isfull : Bool) → cause_met (demand (not isfull) R.Full) ≡ first_that_applies (line isfull full ∷ [])
unfolding first_that_applies
full_line true = refl
full_line false = refl

new_span_lines : (a b same nought isfull : Bool)
    → cause_met
    (and_then
    (and_then (both a b) (demand (not same) R.EqualCabinets))
    (and_then (demand (not nought) R.NoDuct) (demand (not isfull) R.Full)))
    ≡ first_that_applies
    (line (not (a && (b && true))) unknown_cabinet
    ∷ line (not (not same && true)) equal_cabinets
    ∷ line (not (not nought && true)) no_duct
    ∷ line isfull full
    ∷ [])
unfolding first_that_applies
new_span_lines false b same nought isfull = refl
new_span_lines true false same nought isfull = refl
new_span_lines true true true nought isfull = refl
new_span_lines true true false true isfull = refl
new_span_lines true true false false true = refl
new_span_lines true true false false false = refl

district_lines : (a b together : Bool) → cause_met (and_then (both a b) (demand together R.TwoDistricts))
    ≡ first_that_applies (line (not (a && (b && true))) unknown_cabinet ∷ line (not (together && true)) two_districts ∷ [])
unfolding first_that_applies
district_lines false b together = refl
district_lines true false together = refl
district_lines true true true = refl
district_lines true true false = refl

ring_lines : (a b same together : Bool)
    → cause_met (and_then (and_then (both a b) (demand (not same) R.EqualCabinets)) (demand together R.NoSharedRing))
    ≡ first_that_applies
    (line (not (a && (b && true))) unknown_cabinet
    ∷ line (not (not same && true)) equal_cabinets
    ∷ line (not (together && true)) no_shared_ring
    ∷ [])
unfolding first_that_applies
ring_lines false b same together = refl
ring_lines true false same together = refl
ring_lines true true true together = refl
ring_lines true true false true = refl
ring_lines true true false false = refl

-- What the tests of each command give is what the table gives.
pub judged : (shape : Shape) (t : List ℕ) (order : Order)
    → cause_met (judgement shape t order) ≡ refusal_of (capacities_of shape.limits) (state_of shape t) (meaning order)
unfolding judgement span_command meaning capacities_of refusal_of first_that_applies lines cabinets_known spans_known meets is_full full_for addition addition_of facts asks operands_of demands_of edge_between edge_in_duct all_in cabinet_known span_known met cause refusal_number
judged shape t O.AddCabinet = rw (vertices_held shape t) (full_line (leb shape.limits.vertices shape.vertices))
judged shape t (O.AddSpan a b None) =
    rw (vertices_held shape t, edges_held shape t)
    (new_span_lines (ltb a.0 shape.vertices) (ltb b.0 shape.vertices) (eqb a.0 b.0) false (leb shape.limits.edges shape.edges))
judged shape t (O.AddSpan a b (Some d)) =
    rw (vertices_held shape t, edges_held shape t)
    (new_span_lines (ltb a.0 shape.vertices) (ltb b.0 shape.vertices) (eqb a.0 b.0) (eqb d.0 0) (leb shape.limits.edges shape.edges))
judged shape t (O.DistrictName a) = rw (vertices_held shape t) (cabinet_line (ltb a.0 shape.vertices))
judged shape t (O.RingName a) = rw (vertices_held shape t) (cabinet_line (ltb a.0 shape.vertices))
judged shape t (O.SharedMesh a b) =
    rw (vertices_held shape t) (different_lines (ltb a.0 shape.vertices) (ltb b.0 shape.vertices) (eqb a.0 b.0))
judged shape t (O.SoleSpans a b) =
    rw (vertices_held shape t)
    (district_lines (ltb a.0 shape.vertices) (ltb b.0 shape.vertices) (component (network_in shape t) a.0 b.0))
judged shape t (O.CutCabinets a b) =
    rw (vertices_held shape t)
    (district_lines (ltb a.0 shape.vertices) (ltb b.0 shape.vertices) (component (network_in shape t) a.0 b.0))
judged shape t (O.IsSole s) = rw (edges_held shape t) (span_line (ltb s.0 shape.edges))
judged shape t (O.MarkExchange a) =
    rw (vertices_held shape t) (exchange_lines (ltb a.0 shape.vertices) ((state_of shape t).marked a.0))
judged shape t (O.HoldsExchange a) = rw (vertices_held shape t) (cabinet_line (ltb a.0 shape.vertices))
judged shape t (O.RoutesBetween a b) =
    rw (vertices_held shape t)
    (ring_lines
    (ltb a.0 shape.vertices)
    (ltb b.0 shape.vertices)
    (eqb a.0 b.0)
    (bridge_block (network_in shape t) a.0 b.0))
judged shape t (O.RecordLength s measure) = rw (edges_held shape t) (span_line (ltb s.0 shape.edges))
judged shape t (O.SpanLength s) = rw (edges_held shape t) (span_line (ltb s.0 shape.edges))
judged shape t O.ExchangeShare = refl

-- a demand that is met, and two tests that both pass
is_met_lem : {is_met : Bool} (refusal : Refusal) → demand is_met refusal ≡ Ok tt → is_met ≡ true
is_met_lem {is_met = true} refusal e = refl
is_met_lem {is_met = false} refusal e = impossible (cc e)

both_pass : {first later : Judgement} → and_then first later ≡ Ok tt → (first ≡ Ok tt) × (later ≡ Ok tt)
both_pass {first = Ok tt} e = (refl, e)
both_pass {first = Err refusal} e = impossible (cc e)

is_false : (b : Bool) → not b ≡ true → b ≡ false
is_false true e = impossible (cc e)
is_false false e = refl

-- What the tests of the operands say of them.
module _ (shape : Shape) where
  cabinet_passes : {a : ℕ} → J.cabinet_known shape a ≡ Ok tt → a < shape.vertices
  cabinet_passes {a} e = ltb_lt a shape.vertices (is_met_lem _ e)

  span_passes : {s : ℕ} → J.span_known shape s ≡ Ok tt → s < shape.edges
  span_passes {s} e = ltb_lt s shape.edges (is_met_lem _ e)

  pair_passes : {a b : ℕ} → J.cabinets_known shape a b ≡ Ok tt → (a < shape.vertices) × (b < shape.vertices)
  pair_passes e = let passed = both_pass e in (cabinet_passes passed.0, cabinet_passes passed.1)

  different_passes : {a b : ℕ} → J.differ shape a b ≡ Ok tt → (a < shape.vertices) × (b < shape.vertices) × (a ≡ b → ⊥)
  different_passes {a} {b} e =
      let passed = both_pass e in
      let known = pair_passes passed.0 in
      let apart = is_false (eqb a b) (is_met_lem _ passed.1) in
      (known.0, known.1, λ same. not_both (eqb_same b) (rw same at apart))

-- And so of each command's.
pub judgement_passes : (shape : Shape) (t : List ℕ) (order : Order) → judgement shape t order ≡ Ok tt → Passed shape t order
unfolding judgement Passed
judgement_passes shape t O.AddCabinet e = leb_gt _ _ (is_false _ (is_met_lem _ e))
judgement_passes shape t (O.AddSpan a b duct) e =
    let passed = both_pass e in
    let ends = different_passes shape passed.0 in
    (leb_gt _ _ (is_false _ (is_met_lem _ (both_pass passed.1).1)), ends.0, ends.1, ends.2)
judgement_passes shape t (O.DistrictName a) e = cabinet_passes shape e
judgement_passes shape t (O.RingName a) e = cabinet_passes shape e
judgement_passes shape t (O.SharedMesh a b) e = different_passes shape e
judgement_passes shape t (O.SoleSpans a b) e =
    let passed = both_pass e in
    let known = pair_passes shape passed.0 in
    (known.0, known.1, is_met_lem _ passed.1)
judgement_passes shape t (O.CutCabinets a b) e =
    let passed = both_pass e in
    let known = pair_passes shape passed.0 in
    (known.0, known.1, is_met_lem _ passed.1)
judgement_passes shape t (O.IsSole s) e = span_passes shape e
judgement_passes shape t (O.MarkExchange a) e =
    let passed = both_pass e in
    (cabinet_passes shape passed.0, is_false _ (is_met_lem _ passed.1))
judgement_passes shape t (O.HoldsExchange a) e = cabinet_passes shape e
judgement_passes shape t (O.RoutesBetween a b) e =
    let passed = both_pass e in
    ((different_passes shape passed.0).1, is_met_lem _ passed.1)
judgement_passes shape t (O.RecordLength s measure) e = span_passes shape e
judgement_passes shape t (O.SpanLength s) e = span_passes shape e
judgement_passes shape t O.ExchangeShare e = tt
