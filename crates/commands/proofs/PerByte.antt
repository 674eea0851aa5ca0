-- What a command takes in bytes of the journal, against what it may add or be answered.
use mathlib.Core.Bool.{Bool, true, false, cond}
use mathlib.Core.List.{List}
use mathlib.Core.Path.{◌≡◌}
use Prim.Native.Nat.{ℕ, suc, ◌+◌, ◌*◌, ◌≤◌}
use native.Mathlib.Omega.{arith}
use lib.Dec.{leb}
use lib.ListN.{length}
use Rattle.commands.specs.Command.{Command, Form, unknown, takes, forms, form, operand, cut_off, command, read_form, read_command}
use Rattle.commands.specs.Facts.{Facts, adds_cabinet, adds_span, adds_nothing, asks, facts}
use Rattle.commands.proofs.Cases.{impossible}
use Rattle.commands.proofs.ByPlace.{each_at, ◌also◌}

-- with so many bytes of operands: one that adds a span has at least four, and a question is answered with at most 3 + c + s bytes for
-- each of its own, where there are at most c cabinets and s spans
abbrev pub Pays : ℕ → Facts → Type 0
Pays width adds_cabinet = Unit
Pays width (adds_span e operands demands) = 4 ≤ width
Pays width (adds_nothing q) = (c s : ℕ) → q.longest c s ≤ (3 + c + s) * suc width

-- so does every command of a form
abbrev FormPays : Form → Type 0
FormPays unknown = Unit
FormPays (takes n make) = (x : ℕ → ℕ) → Pays (2 * n) (facts (make x))

form_pays : (byte : ℕ) → FormPays (form byte)
unfolding form forms facts asks
form_pays =
    each_at
    (λ byte f. FormPays f)
    forms
    unknown
    (tt
    also (λ x. tt)
    also (λ x. omega arith)
    also (λ x c s. omega arith)
    also (λ x c s. omega arith)
    also (λ x c s. omega arith)
    also (λ x c s. omega arith)
    also (λ x c s. omega arith)
    also (λ x c s. omega arith)
    also (λ x c s. omega arith)
    also (λ x c s. omega arith)
    also (λ x. omega arith)
    also (λ x c s. omega arith)
    also (λ x c s. omega arith)
    also (λ x c s. omega arith)
    also (λ x c s. omega arith)
    also tt)
    (λ byte h. tt)

-- and every command that is read
pub command_pays : (byte : ℕ) (bytes : List ℕ) (c : Command) (width : ℕ) → read_command byte bytes ≡ command c width → Pays width (facts c)
unfolding read_command
command_pays byte bytes c width e = go (form byte) (form_pays byte) e
  where
    go : (f : Form) → FormPays f → read_form f bytes ≡ command c width → Pays width (facts c)
    go unknown h e = unfold read_form in impossible (cc)
    go (takes n make) h e = unfold read_form in made (leb (2 * n) (length bytes)) e
      where
        this : Command
        this = make (operand bytes)

        made : (t : Bool) → cond t (command this (2 * n)) cut_off ≡ command c width → Pays width (facts c)
        made true e = let same : this ≡ c = cc in let wide : 2 * n ≡ width = cc in rw (← same, ← wide) (h (operand bytes))
        made false e = impossible (cc)
