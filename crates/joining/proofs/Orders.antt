-- What is known of an order: the bytes of its operands, and the numbers that fit into two bytes.
use Rattle.graph.specs.Network.{edge_between, edge_in_duct}
use Rattle.commands.specs.Facts.{facts, asks, operands_of}
use Rattle.commands.proofs.Bytes.{FieldsFit}
use Rattle.std.specs.Prelude as P
use Rattle.reading.specs.declared.read.Order.{Order}
use Rattle.reading.specs.declared.read.Order.TheVariants as O
use Rattle.reading.specs.Inside.Reads.{span_command, meaning}
use Rattle.joining.specs.Inside.Raising.{Fits}

-- where an order's operands fit into two bytes, its cabinets and spans do
pub order_fits : (order : Order) → FieldsFit (operands_of (facts (meaning order))) → Fits order
unfolding meaning span_command facts asks operands_of edge_between edge_in_duct
order_fits O.AddCabinet fit = tt
order_fits (O.AddSpan a b P.None) fit = (fit.0, fit.1.0)
order_fits (O.AddSpan a b (P.Some d)) fit = (fit.0, fit.1.0)
order_fits (O.DistrictName a) fit = fit.0
order_fits (O.RingName a) fit = fit.0
order_fits (O.SharedMesh a b) fit = (fit.0, fit.1.0)
order_fits (O.SoleSpans a b) fit = (fit.0, fit.1.0)
order_fits (O.CutCabinets a b) fit = (fit.0, fit.1.0)
order_fits (O.IsSole s) fit = fit.0
order_fits (O.MarkExchange a) fit = fit.0
order_fits (O.HoldsExchange a) fit = fit.0
order_fits (O.RoutesBetween a b) fit = (fit.0, fit.1.0)
order_fits (O.RecordLength s measure) fit = fit.0
order_fits (O.SpanLength s) fit = fit.0
order_fits O.ExchangeShare fit = tt
