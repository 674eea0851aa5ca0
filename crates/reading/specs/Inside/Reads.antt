-- What reading a command gives: the paper's value for each case of the code's answer.
use Rattle.std.specs.Prelude.{cond, List, ◌⊎◌, ◌≡◌, ℕ, ◌*◌, ◌/◌, ◌%◌, ◌^◌, ◌<◌, ◌≤◌, eqb, length, get_or}
use Rattle.std.proofs.Math.Option.{Option, none, some}
use Rattle.commands.specs.Command.{Command, add_cabinet, add_span, district_name, ring_name, shared_mesh, sole_spans, cut_cabinets, is_sole, mark_exchange, holds_exchange, add_duct_span, routes_between, record_length, span_length, exchange_share, Form, unknown, takes, form, operand, Reading, unknown_byte, cut_off, command}
use Rattle.std.specs.Prelude as P
use Rattle.numbers.specs.declared.Duct.{Duct}
use Rattle.refusals.specs.declared.Refusal.{Refusal}
use Rattle.refusals.specs.declared.Refusal.TheVariants as R
use Rattle.reading.specs.declared.read.Order.{Order}
use Rattle.reading.specs.declared.read.Order.TheVariants as O
use Rattle.reading.specs.declared.read.Taken.{Taken}
use Rattle.reading.specs.declared.read.Unread.{Unread}
use Rattle.reading.specs.declared.read.Unread.TheVariants as U

-- The command that adds a span which lies so: 02 in no duct, 0B in a duct.
unfoldable pub span_command : ℕ → ℕ → P.Option Duct → Command
span_command a b P.None = add_span a b
span_command a b (P.Some d) = add_duct_span a b d.0

-- The command that an order is.
unfoldable pub meaning : Order → Command
meaning O.AddCabinet = add_cabinet
meaning (O.AddSpan a b lay) = span_command a.0 b.0 lay
meaning (O.DistrictName a) = district_name a.0
meaning (O.RingName a) = ring_name a.0
meaning (O.SharedMesh a b) = shared_mesh a.0 b.0
meaning (O.SoleSpans a b) = sole_spans a.0 b.0
meaning (O.CutCabinets a b) = cut_cabinets a.0 b.0
meaning (O.IsSole s) = is_sole s.0
meaning (O.MarkExchange a) = mark_exchange a.0
meaning (O.HoldsExchange a) = holds_exchange a.0
meaning (O.RoutesBetween a b) = routes_between a.0 b.0
meaning (O.RecordLength s measure) = record_length s.0 measure.day measure.metres
meaning (O.SpanLength s) = span_length s.0
meaning O.ExchangeShare = exchange_share

-- The refusal where nothing can be read.
abbrev pub refused_as : Unread → Refusal
refused_as U.BadByte = R.BadByte
refused_as U.CutOperands = R.CutOperands

-- What was read: an unknown byte is refusal 4, cut-off operands are refusal 5.
unfoldable pub reading_of : P.Result (Taken Order) Unread → Reading
reading_of (P.Err U.BadByte) = unknown_byte
reading_of (P.Err U.CutOperands) = cut_off
reading_of (P.Ok taken) = command (meaning taken.command) taken.width

-- N operands that begin the bytes, and the answer where the bytes are too few for them.
pub record OperandsAre (n : ℕ) (x bytes : List ℕ) : Type 0 where
  pub there : 2 * n ≤ length bytes
  pub each : (k : ℕ) → k < n → get_or x k 0 ≡ operand bytes k

pub record TooShort (n : ℕ) (e : Unread) (bytes : List ℕ) : Type 0 where
  pub cut_operands : e ≡ U.CutOperands
  pub short : length bytes < 2 * n

-- The bytes of the commands with one operand, of those with two, and of those with three.
abbrev pub OneOperand : ℕ → Type 0
OneOperand byte = (byte ≡ 3) ⊎ ((byte ≡ 4) ⊎ ((byte ≡ 8) ⊎ ((byte ≡ 9) ⊎ ((byte ≡ 10) ⊎ (byte ≡ 14)))))

abbrev pub TwoOperands : ℕ → Type 0
TwoOperands byte = (byte ≡ 2) ⊎ ((byte ≡ 5) ⊎ ((byte ≡ 6) ⊎ ((byte ≡ 7) ⊎ (byte ≡ 12))))

abbrev pub ThreeOperands : ℕ → Type 0
ThreeOperands byte = (byte ≡ 11) ⊎ (byte ≡ 13)

-- The command that a form makes of so many operands.
unfoldable pub made : Form → ℕ → (ℕ → ℕ) → Option Command
made unknown n x = none
made (takes k make) n x = cond (eqb k n) (some (make x)) none

-- The byte makes this command of these operands.
abbrev pub Makes : ℕ → ℕ → List ℕ → Command → Type 0
Makes byte n operands c = (x : ℕ → ℕ) → ((k : ℕ) → k < n → x k ≡ get_or operands k 0) → made (form byte) n x ≡ some c

-- The number of the operands' bytes of a form, if it is a command's.
unfoldable pub form_width : Form → Option ℕ
form_width unknown = none
form_width (takes n make) = some (2 * n)

-- Entry k of a table of sixteen entries in one number: four bits each, entry 0 in the lowest.
unfoldable pub entry_of : ℕ → ℕ → ℕ
entry_of table k = table / 2 ^ (k * 4) % 16

-- The number of the operands' bytes by the command byte, from 00 on; 15 where the byte is no command's.
abbrev pub widths : ℕ
widths = 0x026462224442240F

-- What an entry of the table says.
unfoldable pub entry_width : ℕ → Option ℕ
entry_width entry = cond (eqb entry 15) none (some entry)

-- What is known of a reading where the operands are passed over: of a command its byte and the number of its operands' bytes.
pub data Passing : Type 0 where
  no_command : Passing
  cut_short : Passing
  whole : ℕ → ℕ → Passing

unfoldable pub pass_over : ℕ → Reading → Passing
pass_over byte unknown_byte = no_command
pass_over byte cut_off = cut_short
pass_over byte (command c width) = whole byte width

unfoldable pub passing_of : P.Result (Taken ℕ) Unread → Passing
passing_of (P.Err U.BadByte) = no_command
passing_of (P.Err U.CutOperands) = cut_short
passing_of (P.Ok taken) = whole taken.command taken.width
