-- What is read of a command by its byte: the bytes of commands with one operand, with two and with three, and where the operands stand.
use mathlib.Core.Bool.{true, false, ◌&&◌, and-false}
use mathlib.Core.List.{List}
use mathlib.Core.Logic.{◌⊎◌, inl, inr, ◌≢◌}
use mathlib.Core.Option.{none, some}
use mathlib.Core.Path.{◌≡◌, refl, sym, ap, ap₂, ◌∙◌}
use Prim.Native.Nat.{ℕ, ◌+◌, ◌*◌, ◌≤◌, ◌<◌}
use native.Mathlib.Omega.{arith}
use lib.Dec.{eqb, leb}
use lib.ListN.{length, get_or, drop}
use lib.Seq.{get_or-drop}
use Rattle.commands.specs.Bytes.{number}
use Rattle.graph.proofs.Truth.{true_or_false, eqb_eq, ne_eqb}
use Rattle.commands.specs.Command.{Command, Form, unknown, takes, forms, form, operand, Reading, unknown_byte, cut_off, command, read_form, read_command}
use Rattle.commands.proofs.Cases.{gt_leb, impossible}
use Rattle.commands.proofs.ByPlace.{each_at, ◌also◌}
use Rattle.commands.proofs.Reading.{width_of, long_enough, too_short, cut_off_lem, unknown_byte_lem, unknown_exactly, known_bytes}
use Rattle.std.specs.Prelude.{Err}
use Rattle.reading.specs.declared.read.Unread.{Unread}
use Rattle.reading.specs.Inside.Reads.{reading_of, OperandsAre, Makes, TooShort, OneOperand, TwoOperands, ThreeOperands, made, form_width, entry_of, widths, entry_width, no_command, cut_short, whole, pass_over}

-- how many bytes their operands have
pub width_one : (byte : ℕ) → OneOperand byte → width_of (form byte) ≡ 2 * 1
unfolding forms form width_of
width_one byte (inl e) = rw e refl
width_one byte (inr (inl e)) = rw e refl
width_one byte (inr (inr (inl e))) = rw e refl
width_one byte (inr (inr (inr (inl e)))) = rw e refl
width_one byte (inr (inr (inr (inr (inl e))))) = rw e refl
width_one byte (inr (inr (inr (inr (inr e))))) = rw e refl

pub width_two : (byte : ℕ) → TwoOperands byte → width_of (form byte) ≡ 2 * 2
unfolding forms form width_of
width_two byte (inl e) = rw e refl
width_two byte (inr (inl e)) = rw e refl
width_two byte (inr (inr (inl e))) = rw e refl
width_two byte (inr (inr (inr (inl e)))) = rw e refl
width_two byte (inr (inr (inr (inr e)))) = rw e refl

pub width_three : (byte : ℕ) → ThreeOperands byte → width_of (form byte) ≡ 2 * 3
unfolding forms form width_of
width_three byte (inl e) = rw e refl
width_three byte (inr e) = rw e refl

module _ (byte : ℕ) (bytes : List ℕ) where
  -- operands that are cut off
  pub cut_operands_lem : (n : ℕ) → width_of (form byte) ≡ 2 * n → length bytes < 2 * n → read_command byte bytes ≡ cut_off
  unfolding read_command
  cut_operands_lem n e h = (cut_off_lem (form byte) bytes).1 (omega arith)

  -- operands that are there
  pub read_operands : (n : ℕ) (c : Command) → made (form byte) n (operand bytes) ≡ some c → 2 * n ≤ length bytes
      → read_command byte bytes ≡ command c (2 * n)
  unfolding read_command made
  read_operands n c e h = go (form byte) e
    where
      go : (f : Form) → made f n (operand bytes) ≡ some c → read_form f bytes ≡ command c (2 * n)
      go unknown e = impossible (cc)
      go (takes k make) e = as_many (true_or_false (eqb k n))
        where
          as_many : (eqb k n ≡ true) ⊎ (eqb k n ≡ false) → read_form (takes k make) bytes ≡ command c (2 * n)
          as_many (inl t) =
              let same : k ≡ n = eqb_eq k n t in
              let given : some (make (operand bytes)) ≡ some c = rw t at e in
              rw same (long_enough n make bytes h ∙ ap (λ d. command d (2 * n)) (cc))
          as_many (inr f) =
              let nothing : none ≡ some c = rw f at e in
              impossible (cc)

  -- a byte that is no command's
  pub read_unknown : (byte < 1) ⊎ (15 < byte) → read_command byte bytes ≡ unknown_byte
  unfolding read_command
  read_unknown k = (unknown_byte_lem (form byte) bytes).1 ((unknown_exactly byte).1 (known_bytes byte ∙ outside k))
    where
      outside : (byte < 1) ⊎ (15 < byte) → (leb 1 byte && leb byte 15) ≡ false
      outside (inl h) = rw (gt_leb 1 byte h)
      outside (inr h) = rw (gt_leb byte 15 h) (and-false (leb 1 byte))

-- operands that are cut off, as the code tells them
pub operands_cut : (byte n : ℕ) (bytes : List ℕ) (e : Unread) → width_of (form byte) ≡ 2 * n → TooShort n e bytes
    → reading_of (Err e) ≡ read_command byte bytes
unfolding reading_of
operands_cut byte n bytes e wide short = rw short.cut_operands (sym (cut_operands_lem byte bytes n wide short.short))

-- and operands that are read
pub operands_read : (byte n : ℕ) (bytes x : List ℕ) (c : Command) → OperandsAre n x bytes → Makes byte n x c
    → command c (2 * n) ≡ read_command byte bytes
operands_read byte n bytes x c are makes =
    sym (read_operands byte bytes n c (makes (operand bytes) (λ k h. sym (are.each k h))) are.there)

-- an operand of the bytes from a place on
pub operand_at : (journal : List ℕ) (from k place : ℕ) → place ≡ from + 2 * k
    → operand (drop from journal) k ≡ number (get_or journal place 0) (get_or journal (place + 1) 0)
unfolding operand
operand_at journal from k place e =
    ap₂ number
    (get_or-drop from journal (2 * k) 0 ∙ ap (λ (i : ℕ). get_or journal i 0) (let d : from + 2 * k ≡ place = omega arith in d))
    (get_or-drop from journal (2 * k + 1) 0 ∙ ap (λ (i : ℕ). get_or journal i 0) (let d : from + (2 * k + 1) ≡ place + 1 = omega arith in d))

-- A command byte, and the number of its operands' bytes.
module _ (byte : ℕ) (bytes : List ℕ) (width : ℕ) (wide : form_width (form byte) ≡ some width) where
  -- operands that are there are passed over
  pub passed_whole : width ≤ length bytes → pass_over byte (read_command byte bytes) ≡ whole byte width
  unfolding read_command form_width pass_over
  passed_whole h = go (form byte) wide
    where
      go : (f : Form) → form_width f ≡ some width → pass_over byte (read_form f bytes) ≡ whole byte width
      go unknown e = impossible (cc)
      go (takes n make) e =
          let same : 2 * n ≡ width = cc in
          rw (long_enough n make bytes (omega arith)) (ap (whole byte) same)

  -- and those that are not are found cut short
  pub passed_cut : length bytes < width → pass_over byte (read_command byte bytes) ≡ cut_short
  unfolding read_command form_width pass_over
  passed_cut h = go (form byte) wide
    where
      go : (f : Form) → form_width f ≡ some width → pass_over byte (read_form f bytes) ≡ cut_short
      go unknown e = impossible (cc)
      go (takes n make) e =
          let same : 2 * n ≡ width = cc in
          rw (too_short n make bytes (omega arith))

-- a byte that is no command's is found so
pub passed_unknown : (byte : ℕ) (bytes : List ℕ) → form_width (form byte) ≡ none → pass_over byte (read_command byte bytes) ≡ no_command
unfolding read_command form_width pass_over
passed_unknown byte bytes = go (form byte)
  where
    go : (f : Form) → form_width f ≡ none → pass_over byte (read_form f bytes) ≡ no_command
    go unknown e = unfold read_form in refl
    go (takes n make) e = impossible (cc)

-- an entry of the table of widths that is not 15 is a width
pub entry_some : (entry : ℕ) → entry ≢ 15 → entry_width entry ≡ some entry
unfolding entry_width
entry_some entry d = rw (ne_eqb entry 15 d)

-- the table has an entry for each byte up to 0F
pub widths_are : (byte : ℕ) → byte ≤ 15 → form_width (form byte) ≡ entry_width (entry_of widths byte)
unfolding form forms form_width entry_of entry_width
widths_are =
    each_at
    (λ byte f. byte ≤ 15 → form_width f ≡ entry_width (entry_of widths byte))
    forms
    unknown
    ((λ h. refl)
    also (λ h. refl)
    also (λ h. refl)
    also (λ h. refl)
    also (λ h. refl)
    also (λ h. refl)
    also (λ h. refl)
    also (λ h. refl)
    also (λ h. refl)
    also (λ h. refl)
    also (λ h. refl)
    also (λ h. refl)
    also (λ h. refl)
    also (λ h. refl)
    also (λ h. refl)
    also (λ h. refl)
    also tt)
    (λ byte k h. absurd (omega arith))

-- a command whose operands were passed over: it was read, and has the byte
pub record CommandPassed (byte : ℕ) (reading : Reading) (passed width : ℕ) : Type 0 where
  pub this : Command
  pub is_read : reading ≡ command this width
  pub its_byte : passed ≡ byte

pub command_passed : (byte : ℕ) (reading : Reading) (passed width : ℕ) → whole passed width ≡ pass_over byte reading
    → CommandPassed byte reading passed width
unfolding pass_over
command_passed byte unknown_byte passed width e = impossible (cc)
command_passed byte cut_off passed width e = impossible (cc)
command_passed byte (command c w) passed width e =
    let same : w ≡ width = cc in
    record { this = c; is_read = ap (command c) same; its_byte = cc }

-- where no command is found, the byte is unknown
pub unknown_passed : (byte : ℕ) (reading : Reading) → no_command ≡ pass_over byte reading → reading ≡ unknown_byte
unfolding pass_over
unknown_passed byte unknown_byte e = refl
unknown_passed byte cut_off e = impossible (cc)
unknown_passed byte (command c w) e = impossible (cc)

-- where one is found cut short, its operands are cut off
pub cut_passed : (byte : ℕ) (reading : Reading) → cut_short ≡ pass_over byte reading → reading ≡ cut_off
unfolding pass_over
cut_passed byte unknown_byte e = impossible (cc)
cut_passed byte cut_off e = refl
cut_passed byte (command c w) e = impossible (cc)
