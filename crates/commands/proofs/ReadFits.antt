-- Where the journal is bytes, the numbers in the commands that are read from it fit into two bytes.
use mathlib.Core.Bool.{true}
use mathlib.Core.List.{List, [], ◌∷◌, map}
use mathlib.Core.Logic.{◌⊎◌, inl, inr}
use mathlib.Core.Option.{Option}
use mathlib.Core.Path.{◌≡◌, refl, sym, ◌∙◌, ap, subst}
use Prim.Native.Nat.{ℕ, zero, suc, ◌+◌, ◌*◌, ◌<◌, ◌≤◌}
use lib.ListN.{length, take, get_or}
use Rattle.graph.specs.Network.{edge_between, edge_in_duct}
use Rattle.graph.specs.Route.{Choice}
use Rattle.naming.specs.State.{State}
use Rattle.commands.specs.Bytes.{all_bytes}
use Rattle.commands.specs.Command.{Command, Form, unknown, takes, forms, form, operand, command, read_form, read_command}
use Rattle.commands.specs.Facts.{facts, asks, operands_of}
use Rattle.commands.specs.Refusal.{Refusal, Capacities}
use Rattle.commands.specs.Text.{Read, text_of}
use Rattle.commands.specs.Run.{run_text, run_within}
use Rattle.commands.proofs.Cases.{le_or_gt, impossible}
use Rattle.commands.proofs.ByPlace.{each_at, ◌also◌}
use Rattle.commands.proofs.Bytes.{number_below, all_bytes_behind, all_bytes_from, byte_at, Small, FieldsFit}
use Rattle.commands.proofs.Reading.{long_enough, too_short}
use Rattle.commands.proofs.Place.{within_is_prefix}
use Rattle.commands.proofs.TextSteps.{Spells, no_more, unreadable, one_more_lem, text_steps}
use Rattle.commands.proofs.TextRun.{run_accepts_first}
use Rattle.commands.proofs.Spelled.{AllSpelled}

-- the command that a form makes of numbers that fit has operands that fit
abbrev FormFits : Form → Type 0
FormFits unknown = Unit
FormFits (takes n make) = (x : ℕ → ℕ) → ((k : ℕ) → Small (x k)) → FieldsFit (operands_of (facts (make x)))

form_fits : (byte : ℕ) → FormFits (form byte)
unfolding form forms facts asks operands_of edge_between edge_in_duct
form_fits =
    each_at
    (λ byte f. FormFits f)
    forms
    unknown
    (tt
    also (λ x fit. tt)
    also (λ x fit. (fit 0, (fit 1, tt)))
    also (λ x fit. (fit 0, tt))
    also (λ x fit. (fit 0, tt))
    also (λ x fit. (fit 0, (fit 1, tt)))
    also (λ x fit. (fit 0, (fit 1, tt)))
    also (λ x fit. (fit 0, (fit 1, tt)))
    also (λ x fit. (fit 0, tt))
    also (λ x fit. (fit 0, tt))
    also (λ x fit. (fit 0, tt))
    also (λ x fit. (fit 0, (fit 1, (fit 2, tt))))
    also (λ x fit. (fit 0, (fit 1, tt)))
    also (λ x fit. (fit 0, (fit 1, (fit 2, tt))))
    also (λ x fit. (fit 0, tt))
    also (λ x fit. tt)
    also tt)
    (λ byte h. tt)

-- so has a command that is read from bytes
command_fits : (byte : ℕ) (bytes : List ℕ) (c : Command) (width : ℕ) → all_bytes bytes ≡ true → read_command byte bytes ≡ command c width
    → FieldsFit (operands_of (facts c))
unfolding read_command
command_fits byte bytes c width are e = go (form byte) (form_fits byte) e
  where
    small : (k : ℕ) → Small (operand bytes k)
    small k = unfold operand in number_below (get_or bytes (2 * k) 0) (get_or bytes (2 * k + 1) 0) (byte_at bytes are (2 * k)) (byte_at bytes are (2 * k + 1))

    go : (f : Form) → FormFits f → read_form f bytes ≡ command c width → FieldsFit (operands_of (facts c))
    go unknown h e = unfold read_form in impossible (cc)
    go (takes n make) h e = made (le_or_gt (2 * n) (length bytes))
      where
        made : (2 * n ≤ length bytes) ⊎ (length bytes < 2 * n) → FieldsFit (operands_of (facts c))
        made (inl l) =
            let same : make (operand bytes) ≡ c = cc (long_enough n make bytes l) in
            subst (λ d. FieldsFit (operands_of (facts d))) same (h (operand bytes) small)
        made (inr l) = impossible (cc (too_short n make bytes l))

-- and every command that bytes spell
spells_fit : {journal : List ℕ} {l : List Read} {end : Option Refusal} → Spells journal l end → all_bytes journal ≡ true
    → AllSpelled (map (λ r. r.command) l)
spells_fit no_more are = tt
spells_fit (unreadable u) are = tt
spells_fit (one_more_lem {byte = byte} {bytes = bytes} {r = r} q rest) are =
    let behind = all_bytes_behind (byte ∷ []) bytes are in (
      command_fits byte bytes r.command r.width behind q,
      spells_fit rest (all_bytes_from r.width bytes behind),
    )

-- so do the commands of a journal's text
pub text_spelled : (journal : List ℕ) → all_bytes journal ≡ true → AllSpelled (map (λ r. r.command) (text_of journal).commands)
text_spelled journal are = spells_fit (text_steps journal) are

-- the first of commands that fit fit
first_fit : (k : ℕ) (cs : List Command) → AllSpelled cs → AllSpelled (take k cs)
first_fit zero cs fit = tt
first_fit (suc k) [] fit = tt
first_fit (suc k) (c ∷ later) fit = (fit.0, first_fit k later fit.1)

-- what is made of the first of a list is the first of what is made of it
map-take : {A B : Type 0} (f : A → B) (k : ℕ) (l : List A) → map f (take k l) ≡ take k (map f l)
map-take f zero l = refl
map-take f (suc k) [] = refl
map-take f (suc k) (x ∷ l) = ap (λ rest. f x ∷ rest) (map-take f k l)

-- so do those that a run accepts within the room
pub run_fits : (room : ℕ) (choice : Choice) (caps : Capacities) (s : State) (journal : List ℕ) → all_bytes journal ≡ true
    → AllSpelled (map (λ a. a.command) (run_within room choice caps s (text_of journal)).accepted)
run_fits room choice caps s journal are =
    let within = (run_within room choice caps s (text_of journal)).accepted in
    let all = (run_text choice caps s (text_of journal)).accepted in
    let done = map (λ a. a.command) all in
    let first = run_accepts_first choice caps s (text_of journal) in
    subst AllSpelled
    (sym (ap (map (λ a. a.command)) (within_is_prefix room choice caps s journal).same ∙ map-take (λ a. a.command) (length within) all))
    (first_fit (length within) done
    (subst AllSpelled (sym first.same) (first_fit (length done) (map (λ r. r.command) (text_of journal).commands) (text_spelled journal are))))
