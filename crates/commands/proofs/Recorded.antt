-- What a command records beside the book: 09 a mark, 0D a survey, and any other nothing.
use mathlib.Core.Bool.{false}
use mathlib.Core.Path.{◌≡◌, refl}
use lib.Dec.{eqb}
use Rattle.naming.specs.State.{Recording, records_nothing, records_mark, records_survey}
use Rattle.commands.specs.Command.{Command, add_cabinet, add_span, district_name, ring_name, shared_mesh, sole_spans, cut_cabinets, is_sole, mark_exchange, holds_exchange, add_duct_span, routes_between, record_length, span_length, exchange_share, command_byte}
use Rattle.commands.specs.Facts.{facts, asks, recording_of, recording}

abbrev pub Records : Command → Recording → Type 0
Records c records_nothing = (eqb (command_byte c) 0x09 ≡ false) × (eqb (command_byte c) 0x0D ≡ false)
Records c (records_mark x) = c ≡ mark_exchange x
Records c (records_survey r) = c ≡ record_length r.measured r.day r.metres

pub records : (c : Command) → Records c (recording c)
unfolding facts asks recording recording_of command_byte
records add_cabinet = (refl, refl)
records (add_span a b) = (refl, refl)
records (district_name a) = (refl, refl)
records (ring_name a) = (refl, refl)
records (shared_mesh a b) = (refl, refl)
records (sole_spans a b) = (refl, refl)
records (cut_cabinets a b) = (refl, refl)
records (is_sole x) = (refl, refl)
records (mark_exchange a) = refl
records (holds_exchange a) = (refl, refl)
records (add_duct_span a b d) = (refl, refl)
records (routes_between a b) = (refl, refl)
records (record_length x day metres) = refl
records (span_length x) = (refl, refl)
records exchange_share = (refl, refl)
