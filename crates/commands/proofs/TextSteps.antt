-- The text of a journal step by step: the commands that its bytes spell, one behind another, and what ends them.
use mathlib.Core.List.{List, [], ◌∷◌}
use mathlib.Core.Option.{Option, none, some}
use mathlib.Core.Path.{◌≡◌, refl, ◌∙◌, ap}
use Prim.Native.Nat.{ℕ, zero, suc, ◌+◌}
use lib.ListN.{drop}
use Rattle.commands.specs.Command.{Reading, unknown_byte, cut_off, command, read_command}
use Rattle.commands.specs.Refusal.{Refusal, bad_byte, cut_operands}
use Rattle.commands.specs.Text.{Read, ends_with, followed_by, text_from, text_of}
use Rattle.commands.proofs.Steps.{text_ends, text_unknown, text_cut_off, text_goes_on}
use Rattle.commands.proofs.Placed.{PlacedFrom}

-- what cannot be read, and the refusal for it: an unknown byte, or operands that are cut off
pub data Unreadable : Reading → Refusal → Type 0 where
  bad_byte_lem : Unreadable unknown_byte bad_byte
  cut_operands_lem : Unreadable cut_off cut_operands

-- From the bytes of a journal: the commands read one after another, each from behind the one before it, until the journal ends or what
-- follows cannot be read.
pub data Spells : List ℕ → List Read → Option Refusal → Type 0 where
  no_more : Spells [] [] none
  unreadable : {byte : ℕ} {bytes : List ℕ} {q : Refusal} → Unreadable (read_command byte bytes) q → Spells (byte ∷ bytes) [] (some q)
  one_more_lem : {byte : ℕ} {bytes : List ℕ} {r : Read} {later : List Read} {end : Option Refusal}
      → read_command byte bytes ≡ command r.command r.width → Spells (drop r.width bytes) later end
      → Spells (byte ∷ bytes) (r ∷ later) end

-- the text is such a list of steps
pub text_takes_steps : (place k : ℕ) (bytes : List ℕ)
    → Spells (drop k bytes) (text_from place k bytes).commands (text_from place k bytes).refusal
unfolding text_from ends_with followed_by
text_takes_steps place zero [] = no_more
text_takes_steps place (suc k) [] = no_more
text_takes_steps place (suc k) (byte ∷ bytes) = text_takes_steps (suc place) k bytes
text_takes_steps place zero (byte ∷ bytes) = go (λ k. text_takes_steps (suc place) k bytes) (read_command byte bytes) refl
  where
    go : ((k : ℕ) → Spells (drop k bytes) (text_from (suc place) k bytes).commands (text_from (suc place) k bytes).refusal)
        → (read : Reading) → read_command byte bytes ≡ read
        → Spells (byte ∷ bytes) (text_from place 0 (byte ∷ bytes)).commands (text_from place 0 (byte ∷ bytes)).refusal
    go later unknown_byte e = let u : Unreadable (read_command byte bytes) bad_byte = rw e bad_byte_lem in rw (e, text_from) (unreadable u)
    go later cut_off e = let u : Unreadable (read_command byte bytes) cut_operands = rw e cut_operands_lem in rw (e, text_from) (unreadable u)
    go later (command c width) e = rw (e, text_from) (one_more_lem e (later width))

-- so is that of a whole journal
pub text_steps : (journal : List ℕ) → Spells journal (text_of journal).commands (text_of journal).refusal
unfolding text_of
text_steps journal = text_takes_steps 0 0 journal

-- and with the commands at their places no other list of steps is
pub steps_are_the_text : (place : ℕ) {journal : List ℕ} {l : List Read} {end : Option Refusal} → Spells journal l end → PlacedFrom place l
    → text_from place 0 journal ≡ record { commands = l; refusal = end }
unfolding ends_with followed_by
steps_are_the_text place no_more placed = text_ends place
steps_are_the_text place (unreadable {byte = byte} {bytes = bytes} u) placed = go refl u
  where
    go : {read : Reading} {q : Refusal} → read_command byte bytes ≡ read → Unreadable read q
        → text_from place 0 (byte ∷ bytes) ≡ record { commands = []; refusal = some q }
    go e bad_byte_lem = text_unknown place byte bytes e
    go e cut_operands_lem = text_cut_off place byte bytes e
steps_are_the_text place (one_more_lem {byte = byte} {bytes = bytes} {r = r} e rest) placed =
    text_goes_on place byte bytes e
    ∙ ap (followed_by _) (steps_are_the_text (place + 1 + r.width) rest placed.1)
    ∙ rw placed.0 refl
