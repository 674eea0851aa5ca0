-- A command that is read from bytes is spelled by them: its bytes are the byte that it was read from and those of its operands behind it.
use mathlib.Core.Bool.{true}
use mathlib.Core.List.{List, [], ◌∷◌, ◌++◌}
use mathlib.Core.Logic.{◌⊎◌, inl, inr}
use mathlib.Core.Path.{◌≡◌, refl, sym, ◌∙◌, ap, ap₂}
use Prim.Native.Nat.{ℕ, zero, suc, ◌+◌, ◌*◌, ◌≤◌, ◌<◌}
use native.Mathlib.Omega.{arith}
use lib.ListN.{length, take, get_or}
use Rattle.graph.specs.Network.{edge_between, edge_in_duct}
use Rattle.commands.specs.Bytes.{number, two_bytes, all_bytes}
use Rattle.commands.specs.Field.{field_bytes, fields_bytes}
use Rattle.commands.specs.Command.{Command, Form, unknown, takes, forms, form, operand, command, read_form, read_command, command_byte}
use Rattle.commands.specs.Facts.{facts, asks, operands_of, command_bytes}
use Rattle.commands.proofs.Cases.{le_or_gt, impossible}
use Rattle.commands.proofs.ByPlace.{each_at, ◌also◌}
use Rattle.commands.proofs.Bytes.{two_bytes_of_number, first_is_byte, all_bytes_behind}
use Rattle.commands.proofs.Reading.{long_enough, too_short}

-- numbers in two bytes each, so many of them
unfoldable pub spelled : ℕ → (ℕ → ℕ) → List ℕ
spelled zero x = []
spelled (suc n) x = two_bytes (x 0) ++ spelled n (λ k. x (suc k))

-- a form's command is spelled by its byte and its operands
abbrev FormSpells : ℕ → Form → Type 0
FormSpells byte unknown = Unit
FormSpells byte (takes n make) = (x : ℕ → ℕ) → command_bytes (make x) ≡ byte ∷ spelled n x

form_spells : (byte : ℕ) → FormSpells byte (form byte)
unfolding form forms command_bytes fields_bytes field_bytes command_byte facts asks operands_of edge_between edge_in_duct spelled two_bytes
form_spells =
    each_at
    FormSpells
    forms
    unknown
    (tt
    also (λ x. refl)
    also (λ x. refl)
    also (λ x. refl)
    also (λ x. refl)
    also (λ x. refl)
    also (λ x. refl)
    also (λ x. refl)
    also (λ x. refl)
    also (λ x. refl)
    also (λ x. refl)
    also (λ x. refl)
    also (λ x. refl)
    also (λ x. refl)
    also (λ x. refl)
    also (λ x. refl)
    also tt)
    (λ byte h. tt)

-- the same numbers are spelled alike
spelled_same : (n : ℕ) (x y : ℕ → ℕ) → ((k : ℕ) → x k ≡ y k) → spelled n x ≡ spelled n y
unfolding spelled
spelled_same zero x y same = refl
spelled_same (suc n) x y same =
    ap₂ (λ first rest. two_bytes first ++ rest) (same 0) (spelled_same n (λ k. x (suc k)) (λ k. y (suc k)) (λ k. same (suc k)))

-- the operands that stand at the front of bytes are spelled by these
operands_spelled : (n : ℕ) (bytes : List ℕ) → all_bytes bytes ≡ true → 2 * n ≤ length bytes → spelled n (operand bytes) ≡ take (2 * n) bytes
unfolding spelled operand
operands_spelled zero bytes are there = refl
operands_spelled (suc n) [] are there = absurd (omega (arith, there))
operands_spelled (suc n) (high ∷ []) are there = absurd (omega (arith, there))
operands_spelled (suc n) (high ∷ low ∷ rest) are there =
    let behind = all_bytes_behind (high ∷ []) (low ∷ rest) are in
    ap₂ ◌++◌ (two_bytes_of_number high low (first_is_byte high (low ∷ rest) are) (first_is_byte low rest behind))
    (spelled_same n (λ k. operand (high ∷ low ∷ rest) (suc k)) (operand rest) next
    ∙ operands_spelled n rest (all_bytes_behind (low ∷ []) rest behind) (omega (arith, there)))
    ∙ sym (ap (λ k. take k (high ∷ low ∷ rest)) (twice n))
  where
    twice : (k : ℕ) → 2 * suc k ≡ suc (suc (2 * k))
    twice k = omega arith

    next : (k : ℕ) → operand (high ∷ low ∷ rest) (suc k) ≡ operand rest k
    next k =
        let there : 2 * suc k + 1 ≡ suc (suc (2 * k + 1)) = omega arith in
        ap₂ number (ap (λ i. get_or (high ∷ low ∷ rest) i 0) (twice k)) (ap (λ i. get_or (high ∷ low ∷ rest) i 0) there)

-- A command that is read: it is spelled by the byte that it is read from and its operands, and these stand in the bytes.
pub record ReadSpelled (byte : ℕ) (bytes : List ℕ) (c : Command) (width : ℕ) : Type 0 where
  pub count : ℕ
  pub wide : 2 * count ≡ width
  pub there : 2 * count ≤ length bytes
  pub spells : command_bytes c ≡ byte ∷ spelled count (operand bytes)

pub read_spelled : (byte : ℕ) (bytes : List ℕ) (c : Command) (width : ℕ) → read_command byte bytes ≡ command c width
    → ReadSpelled byte bytes c width
unfolding read_command
read_spelled byte bytes c width e = go (form byte) (form_spells byte) e
  where
    go : (f : Form) → FormSpells byte f → read_form f bytes ≡ command c width → ReadSpelled byte bytes c width
    go unknown h e = unfold read_form in impossible (cc)
    go (takes n make) h e = made (le_or_gt (2 * n) (length bytes))
      where
        made : (2 * n ≤ length bytes) ⊎ (length bytes < 2 * n) → ReadSpelled byte bytes c width
        made (inl l) =
            let same : command (make (operand bytes)) (2 * n) ≡ command c width = sym (long_enough n make bytes l) ∙ e in
            let one : make (operand bytes) ≡ c = cc in
            record { count = n; wide = cc; there = l; spells = sym (ap command_bytes one) ∙ h (operand bytes) }
        made (inr l) = impossible (cc (too_short n make bytes l))

-- so where these are bytes, it is spelled by the byte and by as many of them as its operands take
pub command_spelled : (byte : ℕ) (bytes : List ℕ) (c : Command) (width : ℕ) → all_bytes bytes ≡ true → read_command byte bytes ≡ command c width
    → command_bytes c ≡ byte ∷ take width bytes
command_spelled byte bytes c width are e =
    let r = read_spelled byte bytes c width e in
    r.spells ∙ ap (λ l. byte ∷ l) (operands_spelled r.count bytes are r.there ∙ ap (λ k. take k bytes) r.wide)

-- so many numbers have two bytes each
length_spelled : (n : ℕ) (x : ℕ → ℕ) → length (spelled n x) ≡ 2 * n
unfolding spelled two_bytes
length_spelled zero x = refl
length_spelled (suc n) x = omega (arith, length_spelled n (λ k. x (suc k)))

-- and its bytes are one more than its operands'
pub length_of_read : (byte : ℕ) (bytes : List ℕ) (c : Command) (width : ℕ) → read_command byte bytes ≡ command c width
    → length (command_bytes c) ≡ suc width
length_of_read byte bytes c width e =
    let r = read_spelled byte bytes c width e in
    omega (arith, ap length r.spells, length_spelled r.count (operand bytes), r.wide)
