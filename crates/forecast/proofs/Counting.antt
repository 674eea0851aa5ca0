-- The ways in which a command is counted: as a cabinet, as a span, or by the greatest length of its answer.
use mathlib.Core.List.{List}
use mathlib.Core.Path.{◌≡◌, refl}
use Prim.Native.Nat.{ℕ, ◌+◌, ◌*◌, ◌≤◌}
use native.Mathlib.Nat.{add-zero}
use native.Mathlib.Omega.{arith}
use Rattle.graph.specs.Network.{Edge}
use Rattle.commands.specs.Field.{Field}
use Rattle.commands.specs.Command.{Command, add_cabinet, add_span, district_name, ring_name, shared_mesh, sole_spans, cut_cabinets, is_sole, mark_exchange, holds_exchange, add_duct_span, routes_between, record_length, span_length, exchange_share, command_byte}
use Rattle.commands.specs.Facts.{Demand, PlainCommand, adds_cabinet, adds_span, adds_nothing, asks, facts, addition_of}
use Rattle.commands.specs.Forecast.{is_cabinet, is_span, longest_plain}
use Rattle.reading.specs.Inside.Reads.{entry_of}
use Rattle.forecast.specs.declared.Tally.{Tally}
use Rattle.forecast.specs.Inside.Tallies.{cabinet_more, span_more, entry_more, counted_by, plain_length, Counted}

-- a command that adds a cabinet
pub cabinet_counted : {t : Tally} → Counted t (cabinet_more t) adds_cabinet
unfolding plain_length addition_of is_cabinet is_span longest_plain
cabinet_counted =
    record { cabinets_are = omega arith; spans_are = refl; plain_is = λ c s. omega arith; grows = λ bound few. omega arith }

-- a command that adds a span
pub span_counted : {t : Tally} {e : Edge} {operands : List Field} {demands : List Demand}
    → Counted t (span_more t) (adds_span e operands demands)
unfolding plain_length addition_of is_cabinet is_span longest_plain
span_counted =
    record { cabinets_are = refl; spans_are = omega arith; plain_is = λ c s. omega arith; grows = λ bound few. omega arith }

-- an entry of one span is a span more
span_entry : (t : Tally) → entry_more 1 0 0 0 t ≡ span_more t
unfolding entry_more
span_entry t = rw (add-zero t.bytes, add-zero t.spanlists, add-zero t.cabinetlists)

-- a command that adds nothing, whose answer has at the most n bytes and so many lists of spans and of cabinets, two bytes an item
pub answer_counted : {t : Tally} {q : PlainCommand} (n spanlists cabinetlists : ℕ) → n ≤ 5 → spanlists ≤ 5 → cabinetlists ≤ 5
    → ((c s : ℕ) → q.longest c s ≡ n + 2 * s * spanlists + 2 * c * cabinetlists)
    → Counted t (entry_more 0 n spanlists cabinetlists t) (adds_nothing q)
unfolding entry_more plain_length addition_of is_cabinet is_span longest_plain
answer_counted n spanlists cabinetlists few few_spanlists few_cabinetlists longest =
    record { cabinets_are = refl; spans_are = omega arith; plain_is = λ c s. omega (arith, longest c s); grows = λ bound most. omega arith }

-- so each command is counted by its byte
pub counted_by_byte : {t : Tally} (k : Command) → Counted t (counted_by (command_byte k) t) (facts k)
unfolding counted_by entry_of command_byte facts asks
counted_by_byte add_cabinet = cabinet_counted
counted_by_byte (add_span a b) = span_counted
counted_by_byte (district_name a) = answer_counted 5 0 0 (omega arith) (omega arith) (omega arith) (λ c s. omega arith)
counted_by_byte (ring_name a) = answer_counted 5 0 0 (omega arith) (omega arith) (omega arith) (λ c s. omega arith)
counted_by_byte (shared_mesh a b) = answer_counted 4 0 0 (omega arith) (omega arith) (omega arith) (λ c s. omega arith)
counted_by_byte (sole_spans a b) = answer_counted 3 1 0 (omega arith) (omega arith) (omega arith) (λ c s. omega arith)
counted_by_byte (cut_cabinets a b) = answer_counted 3 0 1 (omega arith) (omega arith) (omega arith) (λ c s. omega arith)
counted_by_byte (is_sole x) = answer_counted 2 0 0 (omega arith) (omega arith) (omega arith) (λ c s. omega arith)
counted_by_byte (mark_exchange a) = answer_counted 1 0 0 (omega arith) (omega arith) (omega arith) (λ c s. omega arith)
counted_by_byte (holds_exchange a) = answer_counted 2 0 0 (omega arith) (omega arith) (omega arith) (λ c s. omega arith)
counted_by_byte {t} (add_duct_span a b d) = rw (span_entry t) span_counted
counted_by_byte (routes_between a b) = answer_counted 5 1 0 (omega arith) (omega arith) (omega arith) (λ c s. omega arith)
counted_by_byte (record_length x day metres) = answer_counted 1 0 0 (omega arith) (omega arith) (omega arith) (λ c s. omega arith)
counted_by_byte (span_length x) = answer_counted 4 0 0 (omega arith) (omega arith) (omega arith) (λ c s. omega arith)
counted_by_byte exchange_share = answer_counted 3 0 0 (omega arith) (omega arith) (omega arith) (λ c s. omega arith)

-- and the tables have an entry for it
pub byte_in_tables : (k : Command) → command_byte k ≤ 15
unfolding command_byte
byte_in_tables add_cabinet = omega arith
byte_in_tables (add_span a b) = omega arith
byte_in_tables (district_name a) = omega arith
byte_in_tables (ring_name a) = omega arith
byte_in_tables (shared_mesh a b) = omega arith
byte_in_tables (sole_spans a b) = omega arith
byte_in_tables (cut_cabinets a b) = omega arith
byte_in_tables (is_sole x) = omega arith
byte_in_tables (mark_exchange a) = omega arith
byte_in_tables (holds_exchange a) = omega arith
byte_in_tables (add_duct_span a b d) = omega arith
byte_in_tables (routes_between a b) = omega arith
byte_in_tables (record_length x day metres) = omega arith
byte_in_tables (span_length x) = omega arith
byte_in_tables exchange_share = omega arith

-- an entry of a table is one of sixteen numbers
pub entry_few : (table k : ℕ) → entry_of table k ≤ 15
unfolding entry_of
entry_few table k = omega arith
