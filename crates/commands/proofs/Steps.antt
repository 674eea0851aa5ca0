-- The text of a journal and the run over it, step by step: what is read, what is accepted and what is refused.
use mathlib.Core.List.{List, [], ◌∷◌}
use mathlib.Core.Logic.{◌⊎◌, inl, inr}
use mathlib.Core.Option.{Option, none, some}
use mathlib.Core.Path.{◌≡◌, refl, ◌∙◌, ap}
use Prim.Native.Nat.{ℕ, zero, suc, ◌+◌, ◌≤◌}
use native.Mathlib.Omega.{arith}
use lib.ListN.{length, drop}
use Rattle.graph.specs.Route.{Choice}
use Rattle.naming.specs.State.{State}
use Rattle.commands.specs.Command.{Command, Reading, unknown_byte, cut_off, command, read_command}
use Rattle.commands.specs.Facts.{after, answer}
use Rattle.commands.specs.Refusal.{Refusal, bad_byte, cut_operands, Capacities, refusal_of}
use Rattle.commands.specs.Text.{Read, Text, ends_with, followed_by, text_from}
use Rattle.commands.specs.Run.{Accepted, stop, and_then, accepted_in, run_over, run_text}
use Rattle.commands.proofs.Reading.{operands_fit}

-- to read with operands to skip is to read from behind them
pub text_skips_operands : (place k : ℕ) (bytes : List ℕ) → text_from place k bytes ≡ text_from (place + k) 0 (drop k bytes)
unfolding text_from
text_skips_operands place zero bytes = ap (λ p. text_from p 0 bytes) (omega arith)
text_skips_operands place (suc k) [] = refl
text_skips_operands place (suc k) (byte ∷ bytes) =
    text_skips_operands (suc place) k bytes ∙ ap (λ p. text_from p 0 (drop k bytes)) (omega arith)

-- a journal at its end
pub text_ends : (place : ℕ) → text_from place 0 [] ≡ ends_with none
unfolding text_from
text_ends place = refl

-- The text from a byte on.
module _ (place byte : ℕ) (bytes : List ℕ) where
  -- a byte that begins no command ends the text
  pub text_unknown : read_command byte bytes ≡ unknown_byte → text_from place 0 (byte ∷ bytes) ≡ ends_with (some bad_byte)
  unfolding text_from
  text_unknown e = rw (e, text_from)

  -- and so does a command whose operands are cut off
  pub text_cut_off : read_command byte bytes ≡ cut_off → text_from place 0 (byte ∷ bytes) ≡ ends_with (some cut_operands)
  unfolding text_from
  text_cut_off e = rw (e, text_from)

  -- a command that is read is followed by the text from behind its operands
  pub text_goes_on : {c : Command} {width : ℕ} → read_command byte bytes ≡ command c width
      → text_from place 0 (byte ∷ bytes)
      ≡ followed_by (record { command = c; place = place; width = width }) (text_from (place + 1 + width) 0 (drop width bytes))
  unfolding text_from
  text_goes_on {c} {width} e =
      rw
      (e, text_from)
      (ap
      (followed_by (record { command = c; place = place; width = width }))
      (text_skips_operands (suc place) width bytes ∙ ap (λ p. text_from p 0 (drop width bytes)) (omega arith)))

-- The run over a text, from a state.
module _ (choice : Choice) (caps : Capacities) (s : State) where
  -- a text without commands
  pub run_ends : (end : Option Refusal) → run_text choice caps s (ends_with end) ≡ record { accepted = []; refusal = end }
  unfolding run_text run_over ends_with
  run_ends end = refl

  -- a command that is refused stops the run
  pub run_refuses : (r : Read) (t : Text) {q : Refusal} → refusal_of caps s r.command ≡ some q
      → run_text choice caps s (followed_by r t) ≡ stop q
  unfolding run_text run_over followed_by
  run_refuses r t e = rw (e, run_over)

  -- a command that is not is accepted, and followed by the run from the state after it
  pub run_accepts : (r : Read) (t : Text) → refusal_of caps s r.command ≡ none
      → run_text choice caps s (followed_by r t) ≡ and_then (accepted_in choice s r) (run_text choice caps (after s r.command) t)
  unfolding run_text run_over followed_by
  run_accepts r t e = rw (e, run_over)

-- what it is to be refused: an unknown byte, operands cut off, or a command read whole that the table refuses
pub data RefusedFor (caps : Capacities) (s : State) : Reading → Refusal → Type 0 where
  for_byte : RefusedFor caps s unknown_byte bad_byte
  for_operands : RefusedFor caps s cut_off cut_operands
  for_command : {c : Command} {width : ℕ} {q : Refusal} → refusal_of caps s c ≡ some q → RefusedFor caps s (command c width) q

-- what it is to be accepted: a command was read whole, no line of the table refuses it, and its answer is the definition's
pub record WasAccepted (choice : Choice) (caps : Capacities) (s : State) (read : Reading) (a : Accepted) : Type 0 where
  pub was_read : read ≡ command a.command a.width
  pub not_refused : refusal_of caps s a.command ≡ none
  pub answered : a.answer ≡ answer choice s a.command

-- the operands of an accepted command stand in the journal
pub accepted_width_fits : (choice : Choice) (caps : Capacities) (s : State) (byte : ℕ) (bytes : List ℕ) (a : Accepted)
    → WasAccepted choice caps s (read_command byte bytes) a → a.width ≤ length bytes
accepted_width_fits choice caps s byte bytes a w = operands_fit byte bytes a.command a.width w.was_read

-- what is read is refused or accepted
refused_or_accepted : (choice : Choice) (caps : Capacities) (s : State) (read : Reading)
    → ((q : Refusal) × RefusedFor caps s read q) ⊎ ((a : Accepted) × WasAccepted choice caps s read a)
refused_or_accepted choice caps s unknown_byte = inl (bad_byte, for_byte)
refused_or_accepted choice caps s cut_off = inl (cut_operands, for_operands)
refused_or_accepted choice caps s (command c width) = go (refusal_of caps s c) refl
  where
    go : (o : Option Refusal) → refusal_of caps s c ≡ o
        → ((q : Refusal) × RefusedFor caps s (command c width) q) ⊎ ((a : Accepted) × WasAccepted choice caps s (command c width) a)
    go (some q) e = inl (q, for_command e)
    go none e =
        inr (record { command = c; answer = answer choice s c; width = width }, record { was_read = refl; not_refused = e; answered = refl })

-- The run over the text from a byte on.
module _ (choice : Choice) (caps : Capacities) (s : State) (place byte : ℕ) (bytes : List ℕ) where
  -- what is refused stops it
  pub journal_refuses : {q : Refusal} → RefusedFor caps s (read_command byte bytes) q
      → run_text choice caps s (text_from place 0 (byte ∷ bytes)) ≡ stop q
  unfolding stop
  journal_refuses f = go refl f
    where
      go : {read : Reading} {q : Refusal} → read_command byte bytes ≡ read → RefusedFor caps s read q
          → run_text choice caps s (text_from place 0 (byte ∷ bytes)) ≡ stop q
      go e for_byte = rw (text_unknown place byte bytes e) (run_ends choice caps s (some bad_byte))
      go e for_operands = rw (text_cut_off place byte bytes e) (run_ends choice caps s (some cut_operands))
      go e (for_command d) = rw (text_goes_on place byte bytes e) (run_refuses choice caps s _ _ d)

  -- what is accepted is followed by the run over the text from behind its operands, from the state after it
  pub journal_accepts : {a : Accepted} → WasAccepted choice caps s (read_command byte bytes) a
      → run_text choice caps s (text_from place 0 (byte ∷ bytes))
      ≡ and_then a (run_text choice caps (after s a.command) (text_from (place + 1 + a.width) 0 (drop a.width bytes)))
  unfolding accepted_in
  journal_accepts {a} w =
      rw
      (text_goes_on place byte bytes w.was_read, w.answered)
      (run_accepts choice caps s _ _ w.not_refused)

-- From a state, over the bytes of a journal: the commands accepted one after another, each read from behind the one before it in the
-- state after that one, until the journal ends or a command is refused.
pub data RunsTo (choice : Choice) (caps : Capacities) : State → List ℕ → List Accepted → Option Refusal → Type 0 where
  ends : {s : State} → RunsTo choice caps s [] [] none
  refuses : {s : State} {byte : ℕ} {bytes : List ℕ} {q : Refusal}
      → RefusedFor caps s (read_command byte bytes) q → RunsTo choice caps s (byte ∷ bytes) [] (some q)
  accepts : {s : State} {byte : ℕ} {bytes : List ℕ} {a : Accepted} {later : List Accepted} {end : Option Refusal}
      → WasAccepted choice caps s (read_command byte bytes) a
      → RunsTo choice caps (after s a.command) (drop a.width bytes) later end
      → RunsTo choice caps s (byte ∷ bytes) (a ∷ later) end

-- the run over the text of these bytes goes so
abbrev Goes : Choice → Capacities → State → ℕ → ℕ → List ℕ → Type 0
Goes choice caps s place k bytes =
    let run = run_text choice caps s (text_from place k bytes) in
    RunsTo choice caps s (drop k bytes) run.accepted run.refusal

-- the run is such a list of steps
pub run_takes_steps : (choice : Choice) (caps : Capacities) (s : State) (place k : ℕ) (bytes : List ℕ)
    → RunsTo
    choice
    caps
    s
    (drop k bytes)
    (run_text choice caps s (text_from place k bytes)).accepted
    (run_text choice caps s (text_from place k bytes)).refusal
unfolding text_from run_text run_over ends_with stop and_then
run_takes_steps choice caps s place zero [] = ends
run_takes_steps choice caps s place (suc k) [] = ends
run_takes_steps choice caps s place (suc k) (byte ∷ bytes) = run_takes_steps choice caps s (suc place) k bytes
run_takes_steps choice caps s place zero (byte ∷ bytes) =
    go (λ s' k. run_takes_steps choice caps s' (place + 1) k bytes) (refused_or_accepted choice caps s (read_command byte bytes))
  where
    go : ((s' : State) (k : ℕ) → Goes choice caps s' (place + 1) k bytes)
        → ((q : Refusal) × RefusedFor caps s (read_command byte bytes) q)
        ⊎ ((a : Accepted) × WasAccepted choice caps s (read_command byte bytes) a)
        → Goes choice caps s place 0 (byte ∷ bytes)
    go rest (inl (q, f)) = rw (journal_refuses choice caps s place byte bytes f) (refuses f)
    go rest (inr (a, w)) =
        rw
        (journal_accepts choice caps s place byte bytes w, ← (text_skips_operands (place + 1) a.width bytes))
        (accepts w (rest (after s a.command) a.width))

-- and no other list of steps is
pub steps_are_the_run : (choice : Choice) (caps : Capacities) (place : ℕ) {s : State} {journal : List ℕ} {l : List Accepted} {end : Option Refusal}
    → RunsTo choice caps s journal l end → run_text choice caps s (text_from place 0 journal) ≡ record { accepted = l; refusal = end }
unfolding stop and_then
steps_are_the_run choice caps place {s} ends = rw (text_ends place) (run_ends choice caps s none)
steps_are_the_run choice caps place {s} (refuses {byte = byte} {bytes = bytes} f) = journal_refuses choice caps s place byte bytes f
steps_are_the_run choice caps place {s} (accepts {byte = byte} {bytes = bytes} {a = a} w rest) =
    journal_accepts choice caps s place byte bytes w ∙ ap (and_then a) (steps_are_the_run choice caps (place + 1 + a.width) rest)
