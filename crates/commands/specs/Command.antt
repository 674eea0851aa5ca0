-- The commands, and how they are read from a journal's bytes.
use Rattle.std.specs.Prelude.{cond, List, [], ◌∷◌, ℕ, ◌+◌, ◌*◌, leb, length, get_or}
use Rattle.commands.specs.Bytes.{number}

pub data Command : Type 0 where
  add_cabinet : Command
  add_span : ℕ → ℕ → Command
  district_name : ℕ → Command
  ring_name : ℕ → Command
  shared_mesh : ℕ → ℕ → Command
  sole_spans : ℕ → ℕ → Command
  cut_cabinets : ℕ → ℕ → Command
  is_sole : ℕ → Command
  mark_exchange : ℕ → Command
  holds_exchange : ℕ → Command
  add_duct_span : ℕ → ℕ → ℕ → Command
  routes_between : ℕ → ℕ → Command
  record_length : ℕ → ℕ → ℕ → Command
  span_length : ℕ → Command
  exchange_share : Command

-- What a command byte makes of what follows it: so many operands, and the command that they give, by their place from 0 on.
pub data Form : Type 0 where
  unknown : Form
  takes : ℕ → ((ℕ → ℕ) → Command) → Form

-- The commands by their byte, from 00 on: 01 to 0F.
unfoldable pub forms : List Form
forms =
    unknown
    ∷ takes 0 (λ x. add_cabinet)
    ∷ takes 2 (λ x. add_span (x 0) (x 1))
    ∷ takes 1 (λ x. district_name (x 0))
    ∷ takes 1 (λ x. ring_name (x 0))
    ∷ takes 2 (λ x. shared_mesh (x 0) (x 1))
    ∷ takes 2 (λ x. sole_spans (x 0) (x 1))
    ∷ takes 2 (λ x. cut_cabinets (x 0) (x 1))
    ∷ takes 1 (λ x. is_sole (x 0))
    ∷ takes 1 (λ x. mark_exchange (x 0))
    ∷ takes 1 (λ x. holds_exchange (x 0))
    ∷ takes 3 (λ x. add_duct_span (x 0) (x 1) (x 2))
    ∷ takes 2 (λ x. routes_between (x 0) (x 1))
    ∷ takes 3 (λ x. record_length (x 0) (x 1) (x 2))
    ∷ takes 1 (λ x. span_length (x 0))
    ∷ takes 0 (λ x. exchange_share)
    ∷ []

-- Every byte beyond these is unknown.
unfoldable pub form : ℕ → Form
form byte = get_or forms byte unknown

-- Operand k, counted from 0, of the bytes that follow a command byte: two bytes each, high byte first.
unfoldable pub operand : List ℕ → ℕ → ℕ
operand bytes k = number (get_or bytes (2 * k) 0) (get_or bytes (2 * k + 1) 0)

-- What stands at a place of the journal: a command with the number of its operands' bytes, or nothing that can be read.
pub data Reading : Type 0 where
  unknown_byte : Reading
  cut_off : Reading
  command : Command → ℕ → Reading

-- The command of this form whose operands begin the bytes. All of them are there, or they are cut off by the journal's end.
unfoldable pub read_form : Form → List ℕ → Reading
read_form unknown bytes = unknown_byte
read_form (takes n make) bytes = cond (leb (2 * n) (length bytes)) (command (make (operand bytes)) (2 * n)) cut_off

-- The command byte decides everything that follows it.
unfoldable pub read_command : ℕ → List ℕ → Reading
read_command byte bytes = read_form (form byte) bytes

-- The byte of a command.
unfoldable pub command_byte : Command → ℕ
command_byte add_cabinet = 0x01
command_byte (add_span a b) = 0x02
command_byte (district_name a) = 0x03
command_byte (ring_name a) = 0x04
command_byte (shared_mesh a b) = 0x05
command_byte (sole_spans a b) = 0x06
command_byte (cut_cabinets a b) = 0x07
command_byte (is_sole s) = 0x08
command_byte (mark_exchange a) = 0x09
command_byte (holds_exchange a) = 0x0A
command_byte (add_duct_span a b d) = 0x0B
command_byte (routes_between a b) = 0x0C
command_byte (record_length s day metres) = 0x0D
command_byte (span_length s) = 0x0E
command_byte exchange_share = 0x0F
