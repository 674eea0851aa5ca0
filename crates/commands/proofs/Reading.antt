-- What is read at a place of a journal: an unknown byte, operands cut off, or a command with all its operands.
use mathlib.Core.Bool.{Bool, true, false, ◌&&◌, and-false, true≢false}
use mathlib.Core.List.{List}
use mathlib.Core.Logic.Iff
use mathlib.Core.Logic.{◌↔◌, ◌⊎◌, inl, inr}
use mathlib.Core.Path.{◌≡◌, refl, sym, ap}
use Prim.Native.Nat.{ℕ, ◌*◌, ◌≤◌, ◌<◌}
use native.Mathlib.Omega.{arith}
use lib.Dec.{leb}
use lib.ListN.{length}
use Rattle.graph.proofs.Truth.{le-leb}
use Rattle.commands.specs.Command.{Command, Form, unknown, takes, forms, form, operand, Reading, unknown_byte, cut_off, command, read_form, read_command}
use Rattle.commands.proofs.Cases.{le_or_gt, gt_leb, impossible}
use Rattle.commands.proofs.ByPlace.{each_at, ◌also◌}

-- the form is a command's
unfoldable pub is_known : Form → Bool
is_known unknown = false
is_known (takes n make) = true

-- the byte is a command's
unfoldable pub is_command : ℕ → Bool
is_command byte = is_known (form byte)

-- the bytes of the operands of a form, counted
unfoldable pub width_of : Form → ℕ
width_of unknown = 0
width_of (takes n make) = 2 * n

-- the commands' bytes are 01 to 0F
pub known_bytes : (byte : ℕ) → is_command byte ≡ (leb 0x01 byte && leb byte 0x0F)
unfolding is_command form forms is_known
known_bytes =
    each_at
    (λ byte f. is_known f ≡ (leb 0x01 byte && leb byte 0x0F))
    forms
    unknown
    (refl
    also refl
    also refl
    also refl
    also refl
    also refl
    also refl
    also refl
    also refl
    also refl
    also refl
    also refl
    also refl
    also refl
    also refl
    also refl
    also tt)
    (λ byte h. sym (rw (gt_leb byte 0x0F (omega arith), and-false (leb 0x01 byte))))

-- the form of the other bytes, and of no others, is unknown
pub unknown_exactly : (byte : ℕ) → (form byte ≡ unknown) ↔ (is_command byte ≡ false)
unfolding is_command is_known
unknown_exactly byte = (λ e. ap is_known e, go (form byte))
  where
    go : (f : Form) → is_known f ≡ false → f ≡ unknown
    go unknown e = refl
    go (takes n make) e = absurd (true≢false e)

-- a byte with operands is a command's
pub operands_known : (byte k : ℕ) → k < width_of (form byte) → is_command byte ≡ true
unfolding is_command is_known width_of
operands_known byte k = go (form byte)
  where
    go : (f : Form) → k < width_of f → is_known f ≡ true
    go unknown h = absurd (omega arith)
    go (takes n make) h = refl

-- A form that takes operands, and the bytes that follow.
module _ (n : ℕ) (make : (ℕ → ℕ) → Command) (bytes : List ℕ) where
  -- the operands are there
  pub long_enough : 2 * n ≤ length bytes → read_form (takes n make) bytes ≡ command (make (operand bytes)) (2 * n)
  unfolding read_form
  long_enough h = rw (le-leb (2 * n) (length bytes) h)

  -- the operands are cut off
  pub too_short : length bytes < 2 * n → read_form (takes n make) bytes ≡ cut_off
  unfolding read_form
  too_short h = rw (gt_leb (2 * n) (length bytes) h)

-- what can be read: an unknown byte, operands cut off, or a command with all its operands
pub data Reads (f : Form) (bytes : List ℕ) : Reading → Type 0 where
  reads_unknown : f ≡ unknown → Reads f bytes unknown_byte
  reads_cut : is_known f ≡ true → length bytes < width_of f → Reads f bytes cut_off
  reads_command : {c : Command} → is_known f ≡ true → width_of f ≤ length bytes → Reads f bytes (command c (width_of f))

-- the operands that follow decide it
pub reads : (f : Form) (bytes : List ℕ) → Reads f bytes (read_form f bytes)
unfolding read_form width_of is_known
reads unknown bytes = reads_unknown refl
reads (takes n make) bytes = go (le_or_gt (2 * n) (length bytes))
  where
    go : (2 * n ≤ length bytes) ⊎ (length bytes < 2 * n) → Reads (takes n make) bytes (read_form (takes n make) bytes)
    go (inl h) = rw (long_enough n make bytes h) (reads_command refl h)
    go (inr h) = rw (too_short n make bytes h) (reads_cut refl h)

-- an unknown byte is read exactly where the form is unknown
pub unknown_byte_lem : (f : Form) (bytes : List ℕ) → (read_form f bytes ≡ unknown_byte) ↔ (f ≡ unknown)
unfolding read_form
unknown_byte_lem f bytes = (go (read_form f bytes) (reads f bytes), λ e. rw e)
  where
    go : (read : Reading) → Reads f bytes read → read ≡ unknown_byte → f ≡ unknown
    go unknown_byte (reads_unknown d) e = d
    go cut_off (reads_cut k h) e = impossible (cc)
    go (command c w) (reads_command k h) e = impossible (cc)

-- operands are cut off exactly where they are longer than what follows
pub cut_off_lem : (f : Form) (bytes : List ℕ) → (read_form f bytes ≡ cut_off) ↔ (length bytes < width_of f)
unfolding width_of
cut_off_lem f bytes = (to (read_form f bytes) (reads f bytes), from (read_form f bytes) (reads f bytes))
  where
    nothing_to_cut : f ≡ unknown → width_of f ≡ 0
    nothing_to_cut d = rw d refl

    to : (read : Reading) → Reads f bytes read → read ≡ cut_off → length bytes < width_of f
    to unknown_byte (reads_unknown d) e = impossible (cc)
    to cut_off (reads_cut k h) e = h
    to (command c w) (reads_command k h) e = impossible (cc)

    from : (read : Reading) → Reads f bytes read → length bytes < width_of f → read ≡ cut_off
    from unknown_byte (reads_unknown d) l = absurd (omega (arith, nothing_to_cut d))
    from cut_off (reads_cut k h) l = refl
    from (command c w) (reads_command k h) l = absurd (omega arith)

-- an unknown byte is read exactly where the byte is no command's
pub no_command_exactly : (byte : ℕ) (bytes : List ℕ) → (read_command byte bytes ≡ unknown_byte) ↔ (is_command byte ≡ false)
unfolding read_command
no_command_exactly byte bytes = Iff.trans (unknown_byte_lem (form byte) bytes) (unknown_exactly byte)

-- operands are cut off exactly where the byte is a command's and its operands are longer than what follows
pub cut_off_exactly : (byte : ℕ) (bytes : List ℕ)
    → (read_command byte bytes ≡ cut_off) ↔ ((is_command byte ≡ true) × (length bytes < width_of (form byte)))
unfolding read_command
cut_off_exactly byte bytes =
    Iff.trans (cut_off_lem (form byte) bytes) (λ h. (operands_known byte (length bytes) h, h), λ h. h.1)

read_whole : (f : Form) (bytes : List ℕ) (c : Command) (width : ℕ) → read_form f bytes ≡ command c width
    → (width ≡ width_of f) × (width_of f ≤ length bytes)
read_whole f bytes c width = go (read_form f bytes) (reads f bytes)
  where
    go : (read : Reading) → Reads f bytes read → read ≡ command c width → (width ≡ width_of f) × (width_of f ≤ length bytes)
    go unknown_byte (reads_unknown d) e = impossible (cc)
    go cut_off (reads_cut k h) e = impossible (cc)
    go (command d w) (reads_command k h) e = (cc, h)

-- the byte alone says how many bytes of operands follow it
pub width_by_form : (byte : ℕ) (bytes : List ℕ) (c : Command) (width : ℕ) → read_command byte bytes ≡ command c width
    → width ≡ width_of (form byte)
unfolding read_command
width_by_form byte bytes c width e = (read_whole (form byte) bytes c width e).0

-- the operands of a command that was read stand in the journal
pub operands_fit : (byte : ℕ) (bytes : List ℕ) (c : Command) (width : ℕ) → read_command byte bytes ≡ command c width → width ≤ length bytes
unfolding read_command
operands_fit byte bytes c width e = let r = read_whole (form byte) bytes c width e in omega arith
