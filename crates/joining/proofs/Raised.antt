-- Commands, raised (request 9): the same byte, and everything else that is known of them raised with their operands.
use mathlib.Core.List.{List, [], ◌∷◌, map}
use mathlib.Core.Path.{◌≡◌, refl, ◌∙◌, ap}
use Prim.Native.Nat.{ℕ, suc, ◌+◌}
use lib.ListN.{length}
use Rattle.naming.specs.Survey.{Survey}
use Rattle.naming.specs.State.{Recording, records_nothing, records_mark, records_survey}
use Rattle.naming.proofs.SideBySideBooks.{raise_addition}
use Rattle.graph.specs.Network.{edge_between, edge_in_duct}
use Rattle.graph.proofs.SideBySide.{raise_edge}
use Rattle.commands.specs.Bytes.{two_bytes}
use Rattle.commands.specs.Field.{Field, cabinet, span, name, number, byte, field_bytes, fields_bytes}
use Rattle.commands.specs.Command.{Command, add_cabinet, add_span, district_name, ring_name, shared_mesh, sole_spans, cut_cabinets, is_sole, mark_exchange, holds_exchange, add_duct_span, routes_between, record_length, span_length, exchange_share, forms, form, command_byte}
use Rattle.commands.specs.Facts.{Demand, differ, no_exchange, some_duct, share_district, share_ring, facts, asks, operands_of, demands_of, addition_of, addition, recording_of, recording, command_bytes}
use Rattle.commands.specs.Surveys.{number_in}
use Rattle.commands.specs.Join.{Counts, raise_field, raise_fields, with_operands, raise_command}

-- a demand, raised
unfoldable pub raise_demand : ℕ → Demand → Demand
raise_demand m (differ a b) = differ (m + a) (m + b)
raise_demand m (no_exchange a) = no_exchange (m + a)
raise_demand m (some_duct d) = some_duct d
raise_demand m (share_district a b) = share_district (m + a) (m + b)
raise_demand m (share_ring a b) = share_ring (m + a) (m + b)

-- a survey, raised
unfoldable pub raise_survey : ℕ → Survey → Survey
raise_survey k r = record { measured = k + r.measured; day = r.day; metres = r.metres }

-- what is recorded, raised
unfoldable pub raise_recording : Counts → Recording → Recording
raise_recording by records_nothing = records_nothing
raise_recording by (records_mark x) = records_mark (by.cabinets + x)
raise_recording by (records_survey r) = records_survey (raise_survey by.spans r)

-- What is known of a raised command.
abbrev RaisedFacts : Counts → Command → Type 0
RaisedFacts by c =
    (command_byte (raise_command by c) ≡ command_byte c)
    × (operands_of (facts (raise_command by c)) ≡ raise_fields by (operands_of (facts c)))
    × (demands_of (facts (raise_command by c)) ≡ map (raise_demand by.cabinets) (demands_of (facts c)))
    × (addition (raise_command by c) ≡ raise_addition by.cabinets (addition c))
    × (recording (raise_command by c) ≡ raise_recording by (recording c))

raised : (by : Counts) (c : Command) → RaisedFacts by c
unfolding raise_command with_operands raise_fields raise_field number_in forms form command_byte facts asks operands_of demands_of addition_of addition recording_of recording raise_demand raise_addition raise_edge edge_between edge_in_duct raise_recording raise_survey
raised by add_cabinet = (refl, refl, refl, refl, refl)
raised by (add_span a b) = (refl, refl, refl, refl, refl)
raised by (district_name a) = (refl, refl, refl, refl, refl)
raised by (ring_name a) = (refl, refl, refl, refl, refl)
raised by (shared_mesh a b) = (refl, refl, refl, refl, refl)
raised by (sole_spans a b) = (refl, refl, refl, refl, refl)
raised by (cut_cabinets a b) = (refl, refl, refl, refl, refl)
raised by (is_sole x) = (refl, refl, refl, refl, refl)
raised by (mark_exchange a) = (refl, refl, refl, refl, refl)
raised by (holds_exchange a) = (refl, refl, refl, refl, refl)
raised by (add_duct_span a b d) = (refl, refl, refl, refl, refl)
raised by (routes_between a b) = (refl, refl, refl, refl, refl)
raised by (record_length x day metres) = (refl, refl, refl, refl, refl)
raised by (span_length x) = (refl, refl, refl, refl, refl)
raised by exchange_share = (refl, refl, refl, refl, refl)

module _ (by : Counts) (c : Command) where
  -- the byte is the same
  pub raised_byte : command_byte (raise_command by c) ≡ command_byte c
  raised_byte = (raised by c).0

  -- the operands are raised
  pub raised_operands : operands_of (facts (raise_command by c)) ≡ raise_fields by (operands_of (facts c))
  raised_operands = (raised by c).1

  -- and with them what must hold of them, what is added and what is recorded
  pub raised_demands : demands_of (facts (raise_command by c)) ≡ map (raise_demand by.cabinets) (demands_of (facts c))
  raised_demands = (raised by c).2

  pub raised_addition : addition (raise_command by c) ≡ raise_addition by.cabinets (addition c)
  raised_addition = (raised by c).3

  pub raised_recording : recording (raise_command by c) ≡ raise_recording by (recording c)
  raised_recording = (raised by c).4

-- raised fields have as many bytes
fields_length_raised : (by : Counts) (fs : List Field) → length (fields_bytes (raise_fields by fs)) ≡ length (fields_bytes fs)
unfolding fields_bytes field_bytes raise_fields raise_field two_bytes
fields_length_raised by [] = refl
fields_length_raised by (cabinet n ∷ fs) = ap (λ k. suc (suc k)) (fields_length_raised by fs)
fields_length_raised by (span n ∷ fs) = ap (λ k. suc (suc k)) (fields_length_raised by fs)
fields_length_raised by (name kind n ∷ fs) = ap (λ k. suc (suc k)) (fields_length_raised by fs)
fields_length_raised by (number n ∷ fs) = ap (λ k. suc (suc k)) (fields_length_raised by fs)
fields_length_raised by (byte n ∷ fs) = ap suc (fields_length_raised by fs)

-- A raised command has as many bytes.
pub raised_as_long : (by : Counts) (c : Command) → length (command_bytes (raise_command by c)) ≡ length (command_bytes c)
unfolding command_bytes fields_bytes field_bytes
raised_as_long by c =
    ap (λ (fs : List Field). suc (length (fields_bytes fs))) (raised_operands by c) ∙ ap suc (fields_length_raised by (operands_of (facts c)))
