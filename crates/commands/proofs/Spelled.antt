-- Commands that were written are read back: the same commands, one behind another, and no refusal.
use mathlib.Core.List.{List, [], ◌∷◌, ◌++◌, map}
use mathlib.Core.Option.{none}
use mathlib.Core.Path.{◌≡◌, refl, ◌∙◌, ap, ap₂}
use Prim.Native.Nat.{ℕ, ◌+◌, ◌*◌}
use native.Mathlib.Omega.{arith}
use lib.ListN.{length, drop}
use Rattle.graph.specs.Network.{edge_between, edge_in_duct}
use Rattle.commands.specs.Bytes.{two_bytes}
use Rattle.commands.specs.Field.{field_bytes, fields_bytes}
use Rattle.commands.specs.Command.{Command, add_cabinet, add_span, district_name, ring_name, shared_mesh, sole_spans, cut_cabinets, is_sole, mark_exchange, holds_exchange, add_duct_span, routes_between, record_length, span_length, exchange_share, takes, forms, form, operand, command, read_form, read_command, command_byte}
use Rattle.commands.specs.Facts.{facts, asks, operands_of, command_bytes}
use Rattle.commands.specs.Text.{Read, ends_with, followed_by, text_from, journal_bytes}
use Rattle.commands.proofs.Bytes.{number_of-two_bytes, Small, FieldsFit}
use Rattle.commands.proofs.Reading.{long_enough}
use Rattle.commands.proofs.Steps.{text_ends, text_goes_on}

-- the bytes of a command's operands, counted: two each
unfoldable pub operand_width : Command → ℕ
operand_width c = 2 * length (operands_of (facts c))

-- no operand is read back
no_operand : (c : Command) (rest : List ℕ) → read_form (takes 0 (λ x. c)) rest ≡ command c 0
no_operand c rest = long_enough 0 (λ x. c) rest (omega arith)

-- so is one
one_operand : (f : ℕ → Command) (a : ℕ) (rest : List ℕ) → Small a
    → read_form (takes 1 (λ x. f (x 0))) (two_bytes a ++ rest) ≡ command (f a) 2
unfolding operand two_bytes
one_operand f a rest h =
    long_enough 1 (λ x. f (x 0)) (two_bytes a ++ rest) (omega arith) ∙ ap (λ x. command (f x) 2) (number_of-two_bytes a h)

-- and two
two_operands : (f : ℕ → ℕ → Command) (a b : ℕ) (rest : List ℕ) → Small a → Small b
    → read_form (takes 2 (λ x. f (x 0) (x 1))) (two_bytes a ++ two_bytes b ++ rest) ≡ command (f a b) 4
unfolding operand two_bytes
two_operands f a b rest h k =
    long_enough 2 (λ x. f (x 0) (x 1)) (two_bytes a ++ two_bytes b ++ rest) (omega arith)
    ∙ ap₂ (λ x y. command (f x y) 4) (number_of-two_bytes a h) (number_of-two_bytes b k)

-- and three
three_operands : (f : ℕ → ℕ → ℕ → Command) (a b c : ℕ) (rest : List ℕ) → Small a → Small b → Small c
    → read_form (takes 3 (λ x. f (x 0) (x 1) (x 2))) (two_bytes a ++ two_bytes b ++ two_bytes c ++ rest) ≡ command (f a b c) 6
unfolding operand two_bytes
three_operands f a b c rest h k l =
    long_enough 3 (λ x. f (x 0) (x 1) (x 2)) (two_bytes a ++ two_bytes b ++ two_bytes c ++ rest) (omega arith)
    ∙ rw (number_of-two_bytes a h, number_of-two_bytes b k, number_of-two_bytes c l)

-- a command is read back from its bytes, and whatever follows them stands behind its operands
pub command_read_back : (c : Command) (rest : List ℕ) → FieldsFit (operands_of (facts c))
    → (read_command (command_byte c) (fields_bytes (operands_of (facts c)) ++ rest) ≡ command c (operand_width c))
    × (drop (operand_width c) (fields_bytes (operands_of (facts c)) ++ rest) ≡ rest)
unfolding read_command form forms command_byte facts asks operands_of edge_between edge_in_duct fields_bytes field_bytes two_bytes operand_width
command_read_back add_cabinet rest fit = (no_operand add_cabinet rest, refl)
command_read_back (add_span a b) rest fit = (two_operands add_span a b rest fit.0 fit.1.0, refl)
command_read_back (district_name a) rest fit = (one_operand district_name a rest fit.0, refl)
command_read_back (ring_name a) rest fit = (one_operand ring_name a rest fit.0, refl)
command_read_back (shared_mesh a b) rest fit = (two_operands shared_mesh a b rest fit.0 fit.1.0, refl)
command_read_back (sole_spans a b) rest fit = (two_operands sole_spans a b rest fit.0 fit.1.0, refl)
command_read_back (cut_cabinets a b) rest fit = (two_operands cut_cabinets a b rest fit.0 fit.1.0, refl)
command_read_back (is_sole x) rest fit = (one_operand is_sole x rest fit.0, refl)
command_read_back (mark_exchange a) rest fit = (one_operand mark_exchange a rest fit.0, refl)
command_read_back (holds_exchange a) rest fit = (one_operand holds_exchange a rest fit.0, refl)
command_read_back (add_duct_span a b d) rest fit = (three_operands add_duct_span a b d rest fit.0 fit.1.0 fit.1.1.0, refl)
command_read_back (routes_between a b) rest fit = (two_operands routes_between a b rest fit.0 fit.1.0, refl)
command_read_back (record_length x day metres) rest fit =
    (three_operands record_length x day metres rest fit.0 fit.1.0 fit.1.1.0, refl)
command_read_back (span_length x) rest fit = (one_operand span_length x rest fit.0, refl)
command_read_back exchange_share rest fit = (no_operand exchange_share rest, refl)

-- the numbers in the commands' operands fit into two bytes
abbrev pub AllSpelled : List Command → Type 0
AllSpelled [] = Unit
AllSpelled (c ∷ cs) = FieldsFit (operands_of (facts c)) × AllSpelled cs

-- the commands as they are read, the first at the place and each other one behind the one before it
unfoldable pub reads_from : ℕ → List Command → List Read
reads_from place [] = []
reads_from place (c ∷ cs) =
    record { command = c; place = place; width = operand_width c } ∷ reads_from (place + 1 + operand_width c) cs

-- they are these commands
pub commands_of_reads : (place : ℕ) (cs : List Command) → map (λ r. r.command) (reads_from place cs) ≡ cs
unfolding reads_from
commands_of_reads place [] = refl
commands_of_reads place (c ∷ cs) = ap (λ l. c ∷ l) (commands_of_reads (place + 1 + operand_width c) cs)

-- commands are read back from their bytes: just these, and no refusal
pub journal_read_back : (place : ℕ) (cs : List Command) → AllSpelled cs
    → text_from place 0 (journal_bytes cs) ≡ record { commands = reads_from place cs; refusal = none }
unfolding journal_bytes command_bytes fields_bytes field_bytes reads_from followed_by ends_with
journal_read_back place [] fit = text_ends place
journal_read_back place (c ∷ cs) fit =
    let operands = fields_bytes (operands_of (facts c)) in
    let back = command_read_back c (journal_bytes cs) fit.0 in
    let this : Read = record { command = c; place = place; width = operand_width c } in
    let next = place + 1 + operand_width c in
    text_goes_on place (command_byte c) (operands ++ journal_bytes cs) back.0
    ∙ ap (λ bytes. followed_by this (text_from next 0 bytes)) back.1
    ∙ ap (followed_by this) (journal_read_back next cs fit.1)
