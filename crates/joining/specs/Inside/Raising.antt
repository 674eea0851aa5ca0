-- The second journal as it is stored, command by command.
use Rattle.std.specs.Prelude.{List, map, ◌≡◌, ℕ, ◌+◌, ◌≤◌, ◌<◌, length, drop}
use Rattle.std.proofs.Math.Option.{none}
use Rattle.std.proofs.lemmas.List.Edits.{sets}
use Rattle.commands.specs.Text.{text_from, journal_bytes}
use Rattle.commands.specs.Join.{Counts, raise_command}
use Rattle.reading.specs.declared.read.Order.{Order}
use Rattle.reading.specs.declared.read.Order.TheVariants as O
use Rattle.reading.specs.Inside.Places.{commands_at}

-- The numbers of cabinets and of spans that an order names fit into two bytes.
abbrev pub Fits : Order → Type 0
Fits O.AddCabinet = Unit
Fits (O.AddSpan a b lay) = (a.0 < 65536) × (b.0 < 65536)
Fits (O.DistrictName a) = a.0 < 65536
Fits (O.RingName a) = a.0 < 65536
Fits (O.SharedMesh a b) = (a.0 < 65536) × (b.0 < 65536)
Fits (O.SoleSpans a b) = (a.0 < 65536) × (b.0 < 65536)
Fits (O.CutCabinets a b) = (a.0 < 65536) × (b.0 < 65536)
Fits (O.IsSole s) = s.0 < 65536
Fits (O.MarkExchange a) = a.0 < 65536
Fits (O.HoldsExchange a) = a.0 < 65536
Fits (O.RoutesBetween a b) = (a.0 < 65536) × (b.0 < 65536)
Fits (O.RecordLength s measure) = s.0 < 65536
Fits (O.SpanLength s) = s.0 < 65536
Fits O.ExchangeShare = Unit

-- The bytes of the commands from a place of a journal on, raised.
abbrev pub raised_from : Counts → List ℕ → ℕ → List ℕ
raised_from by journal place = journal_bytes (map (raise_command by) (commands_at journal place))

-- A journal that is read to its end from a place on, and a buffer that has room for it behind a place of its own.
pub record RaisableAt (journal : List ℕ) (place : ℕ) (out : List ℕ) (at : ℕ) : Type 0 where
  pub in_journal : place < length journal
  pub short : length journal ≤ 65536
  pub whole_here : (text_from place 0 (drop place journal)).refusal ≡ none
  pub room : at + length journal ≤ length out

-- One command is stored, raised, and the next one's place is this: with what is left stored too, the same stands there as with what was left.
pub record RaisedOn (journal : List ℕ) (place at : ℕ) (by : Counts) (old : List ℕ) (next : ℕ) (new : List ℕ) : Type 0 where
  pub further : place < next
  pub in_journal : next ≤ length journal
  pub whole_there : (text_from next 0 (drop next journal)).refusal ≡ none
  pub leads : sets new (at + next) (raised_from by journal next) ≡ sets old (at + place) (raised_from by journal place)
  pub as_long : length new ≡ length old

-- A journal that is stored up to a place, raised: with what is left stored too, the whole of it is.
pub record RaisedTo (journal : List ℕ) (at : ℕ) (by : Counts) (lent out : List ℕ) (place : ℕ) : Type 0 where
  pub in_journal : place ≤ length journal
  pub whole_here : (text_from place 0 (drop place journal)).refusal ≡ none
  pub leads : sets out (at + place) (raised_from by journal place) ≡ sets lent at (raised_from by journal 0)
  pub as_long : length out ≡ length lent
