-- What is read hangs on the bytes that belong to it, and on nothing behind them.
use mathlib.Core.List.{List, ◌∷◌}
use mathlib.Core.Logic.{◌⊎◌, inl, inr}
use mathlib.Core.Option.{Option, none}
use mathlib.Core.Path.{◌≡◌, refl, sym, ◌∙◌, ap, ap₂}
use Prim.Native.Nat.{ℕ, ◌+◌, ◌*◌, ◌≤◌, ◌<◌}
use native.Mathlib.Nat.{suc-add}
use native.Mathlib.Omega.{arith}
use lib.ListN.{length, get_or, take, drop, length-take}
use lib.Seq.{get_or-take, take-take, take-add, length-take-le, drop_at}
use Rattle.commands.specs.Bytes.{number}
use Rattle.commands.specs.Command.{Command, add_cabinet, add_span, district_name, ring_name, shared_mesh, sole_spans, cut_cabinets, is_sole, mark_exchange, holds_exchange, add_duct_span, routes_between, record_length, span_length, exchange_share, Form, unknown, takes, forms, form, operand, command, read_form, read_command, command_byte}
use Rattle.commands.specs.Field.{field_bytes, fields_bytes}
use Rattle.commands.specs.Facts.{command_bytes}
use Rattle.commands.specs.Refusal.{Refusal}
use Rattle.commands.specs.Text.{Read, text_of, place_behind}
use Rattle.commands.proofs.ByPlace.{each_at, ◌also◌}
use Rattle.commands.proofs.Cases.{le_or_gt}
use Rattle.commands.proofs.Reading.{width_of, long_enough, too_short, width_by_form, operands_fit}
use Rattle.commands.proofs.Placed.{text_placed}
use Rattle.commands.proofs.SpelledBack.{read_spelled}
use Rattle.commands.proofs.TextSteps.{Spells, no_more, unreadable, one_more_lem, text_steps, steps_are_the_text}

-- the command of a form hangs on the operands that the form takes, and on no others
abbrev pub ByOperands : Form → Type 0
ByOperands unknown = Unit
ByOperands (takes n make) = (x y : ℕ → ℕ) → ((k : ℕ) → k < n → x k ≡ y k) → make x ≡ make y

-- so it is with no operand, with one, with two and with three
no_operand : (c : Command) → ByOperands (takes 0 (λ x. c))
no_operand c x y same = refl

one_operand : (f : ℕ → Command) → ByOperands (takes 1 (λ x. f (x 0)))
one_operand f x y same = ap f (same 0 (omega arith))

two_operands : (f : ℕ → ℕ → Command) → ByOperands (takes 2 (λ x. f (x 0) (x 1)))
two_operands f x y same = ap₂ f (same 0 (omega arith)) (same 1 (omega arith))

three_operands : (f : ℕ → ℕ → ℕ → Command) → ByOperands (takes 3 (λ x. f (x 0) (x 1) (x 2)))
three_operands f x y same = rw (same 0 (omega arith), same 1 (omega arith), same 2 (omega arith))

-- so it is with the form of every byte
pub command_by_operands : (byte : ℕ) → ByOperands (form byte)
unfolding form forms
command_by_operands =
    each_at
    (λ byte f. ByOperands f)
    forms
    unknown
    (tt
    also no_operand add_cabinet
    also two_operands add_span
    also one_operand district_name
    also one_operand ring_name
    also two_operands shared_mesh
    also two_operands sole_spans
    also two_operands cut_cabinets
    also one_operand is_sole
    also one_operand mark_exchange
    also one_operand holds_exchange
    also three_operands add_duct_span
    also two_operands routes_between
    also three_operands record_length
    also one_operand span_length
    also no_operand exchange_share
    also tt)
    (λ byte h. tt)

-- the first of a command's bytes is its own
first_of_spelled : (c : Command) {byte : ℕ} {rest : List ℕ} → command_bytes c ≡ byte ∷ rest → command_byte c ≡ byte
unfolding command_bytes fields_bytes field_bytes
first_of_spelled c e = ap (λ (l : List ℕ). get_or l 0 0) e

-- the byte of a command is the one that it was read from
pub byte_of_read : (byte : ℕ) (bytes : List ℕ) (c : Command) (width : ℕ) → read_command byte bytes ≡ command c width → command_byte c ≡ byte
byte_of_read byte bytes c width e = first_of_spelled c (read_spelled byte bytes c width e).spells

-- bytes that begin alike have the same first operands
operand_by_front : (n : ℕ) (xs ys : List ℕ) → take (2 * n) xs ≡ take (2 * n) ys → (k : ℕ) → k < n → operand xs k ≡ operand ys k
unfolding operand
operand_by_front n xs ys same k h = ap₂ number (byte_by_front (2 * k) (omega arith)) (byte_by_front (2 * k + 1) (omega arith))
  where
    byte_by_front : (i : ℕ) → i < 2 * n → get_or xs i 0 ≡ get_or ys i 0
    byte_by_front i l = sym (get_or-take (2 * n) xs i 0 l) ∙ ap (λ front. get_or front i 0) same ∙ get_or-take (2 * n) ys i 0 l

-- what a form makes of bytes hangs on as many as its operands take
form_by_front : (f : Form) → ByOperands f → (xs ys : List ℕ) → take (width_of f) xs ≡ take (width_of f) ys → read_form f xs ≡ read_form f ys
unfolding width_of read_form
form_by_front unknown by xs ys same = refl
form_by_front (takes n make) by xs ys same = go (le_or_gt (2 * n) (length xs))
  where
    lengths : length (take (2 * n) xs) ≡ length (take (2 * n) ys)
    lengths = ap length same

    go : (2 * n ≤ length xs) ⊎ (length xs < 2 * n) → read_form (takes n make) xs ≡ read_form (takes n make) ys
    go (inl h) =
        long_enough n make xs h
        ∙ ap (λ c. command c (2 * n)) (by (operand xs) (operand ys) (operand_by_front n xs ys same))
        ∙ sym (long_enough n make ys (omega (arith, simp length-take at lengths)))
    go (inr h) = too_short n make xs h ∙ sym (too_short n make ys (omega (arith, simp length-take at lengths)))

-- what is read of a byte and the bytes behind it hangs on those that its operands take: others behind them, or none, change nothing
pub read_by_front : (byte : ℕ) (xs ys : List ℕ) → take (width_of (form byte)) xs ≡ take (width_of (form byte)) ys
    → read_command byte xs ≡ read_command byte ys
unfolding read_command
read_by_front byte = form_by_front (form byte) (command_by_operands byte)

-- a command is read from the front of the bytes that has its operands
pub read_of_front : (byte : ℕ) (bytes : List ℕ) (c : Command) (width n : ℕ) → read_command byte bytes ≡ command c width → width ≤ n
    → read_command byte (take n bytes) ≡ command c width
read_of_front byte bytes c width n e h =
    let w = width_by_form byte bytes c width e in
    read_by_front byte (take n bytes) bytes (take-take (width_of (form byte)) n bytes (omega arith)) ∙ e

-- what is behind the first bytes of a front is a front of what is behind them
pub behind_of_front : (n m : ℕ) (l : List ℕ) → n ≤ length l → drop n (take (n + m) l) ≡ take m (drop n l)
behind_of_front n m l h = ap (drop n) (take-add n m l) ∙ drop_at (take n l) (take m (drop n l)) n (length-take-le n l h)

-- the bytes before the place where the commands end spell these commands, and no refusal
pub front_spells : {journal : List ℕ} {l : List Read} {end : Option Refusal} → Spells journal l end
    → Spells (take (place_behind l) journal) l none
unfolding place_behind
front_spells no_more = no_more
front_spells (unreadable u) = no_more
front_spells (one_more_lem {byte = byte} {bytes = bytes} {r = r} {later = later} e rest) =
    let n = r.width + place_behind later in
    let behind = behind_of_front r.width (place_behind later) bytes (operands_fit byte bytes r.command r.width e) in
    rw
    (suc-add r.width (place_behind later))
    (one_more_lem (read_of_front byte bytes r.command r.width n e (omega arith)) (rw (← behind) at (front_spells rest)))

-- the journal up to where its text ends is read whole, and has the same commands
pub text_of_front : (journal : List ℕ)
    → text_of (take (place_behind (text_of journal).commands) journal) ≡ record { commands = (text_of journal).commands; refusal = none }
unfolding text_of
text_of_front journal = steps_are_the_text 0 (front_spells (text_steps journal)) (text_placed 0 0 journal)
