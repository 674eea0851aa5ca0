-- Journals with bytes behind them: what is read of a journal that is read whole, and what a run makes of it, is as it was, and what is
-- behind is read and run from there.
use mathlib.Core.List.{List, [], ◌∷◌, ◌++◌, map}
use mathlib.Core.Option.{Option, none, some}
use mathlib.Core.Path.{◌≡◌, refl, sym, ◌∙◌, ap, subst}
use Prim.Native.Nat.{ℕ, ◌+◌}
use native.Mathlib.Omega.{arith}
use lib.Seq.{take-append-le, drop-append-le}
use Rattle.graph.specs.Route.{Choice}
use Rattle.naming.specs.State.{State}
use Rattle.commands.specs.Command.{Command, form, command, read_command}
use Rattle.commands.specs.Facts.{after, state_after}
use Rattle.commands.specs.Refusal.{Refusal, Capacities, refusal_of}
use Rattle.commands.specs.Text.{Read, Text, followed_by, text_from, text_of, place_behind}
use Rattle.commands.specs.Run.{Accepted, Run, stop, and_then, accepted_in, run_over, run_text}
use Rattle.commands.proofs.Cases.{impossible}
use Rattle.commands.proofs.Reading.{width_of, operands_fit, width_by_form}
use Rattle.commands.proofs.Steps.{run_refuses, run_accepts}
use Rattle.commands.proofs.Placed.{PlacedFrom, text_placed, further_on, text_further_on}
use Rattle.commands.proofs.TextSteps.{Spells, no_more, unreadable, one_more_lem, text_takes_steps, steps_are_the_text}
use Rattle.commands.proofs.TextRun.{NotOfCommand, run_ends_as_text}
use Rattle.commands.proofs.ReadFront.{read_by_front}

-- a command is read from bytes as it is with others behind them
read_with_more : (byte : ℕ) (bytes more : List ℕ) (c : Command) (width : ℕ) → read_command byte bytes ≡ command c width
    → read_command byte (bytes ++ more) ≡ command c width
read_with_more byte bytes more c width e =
    let wide = width_by_form byte bytes c width e in
    let there = operands_fit byte bytes c width e in
    read_by_front byte (bytes ++ more) bytes (take-append-le (width_of (form byte)) bytes more (omega (arith, wide, there))) ∙ e

-- equal bytes spell the same
same_spells : {bytes bytes' : List ℕ} {l : List Read} {end : Option Refusal} → bytes ≡ bytes' → Spells bytes l end → Spells bytes' l end
same_spells {l = l} {end = end} e spells = subst (λ b. Spells b l end) e spells

-- bytes that are read whole, with others behind them, spell what both spell
spells_behind : {journal more : List ℕ} {l k : List Read} {whole end : Option Refusal} → Spells journal l whole → whole ≡ none
    → Spells more k end → Spells (journal ++ more) (l ++ k) end
spells_behind no_more e behind = behind
spells_behind (unreadable u) e behind = impossible (cc)
spells_behind {more = more} (one_more_lem {byte = byte} {bytes = bytes} {r = r} q rest) e behind =
    one_more_lem
    (read_with_more byte bytes more r.command r.width q)
    (same_spells
    (sym (drop-append-le r.width bytes more (operands_fit byte bytes r.command r.width q)))
    (spells_behind rest e behind))

-- commands that stand one behind another, behind others that do
placed_behind_both : (place : ℕ) (l k : List Read) → PlacedFrom place l → PlacedFrom (place + place_behind l) k → PlacedFrom place (l ++ k)
unfolding place_behind
placed_behind_both place [] k first second = subst (λ p. PlacedFrom p k) (omega arith) second
placed_behind_both place (r ∷ l) k first second =
    (first.0, placed_behind_both (place + 1 + r.width) l k first.1 (subst (λ p. PlacedFrom p k) (omega arith) second))

-- The text of a journal that is read whole, with bytes behind it: its commands, and then what is read from there. (The place is written as
-- `text_further_on` has it.)
pub text_behind_lem : (journal more : List ℕ) → (text_of journal).refusal ≡ none
    → let l = (text_of journal).commands in
    let further = text_from (place_behind l + 0) 0 more in
    text_of (journal ++ more) ≡ record { commands = l ++ further.commands; refusal = further.refusal }
unfolding text_of
text_behind_lem journal more whole =
    let l = (text_from 0 0 journal).commands in
    let n = place_behind l + 0 in
    steps_are_the_text 0
    (spells_behind (text_takes_steps 0 0 journal) whole (text_takes_steps n 0 more))
    (placed_behind_both 0 l (text_from n 0 more).commands (text_placed 0 0 journal) (subst (λ p. PlacedFrom p (text_from n 0 more).commands) (omega arith) (text_placed n 0 more)))

-- The accepted commands of one run, and then those of another, which ends as that one does.
unfoldable pub behind : List Accepted → Run → Run
behind accepted r = record { accepted = accepted ++ r.accepted; refusal = r.refusal }

module _ (choice : Choice) (caps : Capacities) where
  -- a run hangs on the commands and not on their places
  run_anywhere : (s : State) (n : ℕ) (l : List Read) (end : Option Refusal)
      → run_over choice caps s (map (λ r. record { command = r.command; place = n + r.place; width = r.width }) l) end
      ≡ run_over choice caps s l end
  unfolding run_over accepted_in
  run_anywhere s n [] end = refl
  run_anywhere s n (r ∷ later) end =
      ap (λ (rest : Run). elim (refusal_of caps s r.command) as (λ o. Run) [ some cause ↦ stop cause | none ↦ and_then (accepted_in choice s r) rest ])
      (run_anywhere (after s r.command) n later end)

  -- so the same bytes are run from wherever they stand as they are alone
  run_further_on : (s : State) (n : ℕ) (bytes : List ℕ) → run_text choice caps s (text_from (n + 0) 0 bytes) ≡ run_text choice caps s (text_of bytes)
  unfolding run_text text_of further_on
  run_further_on s n bytes =
      rw (text_further_on n 0 0 bytes) (run_anywhere s n (text_from 0 0 bytes).commands (text_from 0 0 bytes).refusal)

  -- what stands behind commands that are all accepted is run from the state after them
  run_behind : (s : State) (l k : List Read) (whole end : Option Refusal) → (run_over choice caps s l whole).refusal ≡ none
      → run_over choice caps s (l ++ k) end
      ≡ behind (run_over choice caps s l whole).accepted (run_over choice caps (state_after s (map (λ r. r.command) l)) k end)
  unfolding behind state_after
  run_behind s [] k whole end e = unfold run_over in refl
  run_behind s (r ∷ later) k whole end e = go (run_behind (after s r.command) later k whole end) (refusal_of caps s r.command) refl
    where
      c : Command
      c = r.command

      t : Text
      t = record { commands = later; refusal = whole }

      rest : Run
      rest = run_over choice caps (state_after (after s c) (map (λ r. r.command) later)) k end

      go : ((run_over choice caps (after s c) later whole).refusal ≡ none
          → run_over choice caps (after s c) (later ++ k) end ≡ behind (run_over choice caps (after s c) later whole).accepted rest)
          → (o : Option Refusal) → refusal_of caps s c ≡ o
          → run_over choice caps s (r ∷ later ++ k) end ≡ behind (run_over choice caps s (r ∷ later) whole).accepted rest
      go ih (some q) d =
          unfold run_text followed_by stop in
          let stopped : some q ≡ none = sym (ap (λ (x : Run). x.refusal) (run_refuses choice caps s r t d)) ∙ e in
          impossible (cc)
      go ih none d =
          unfold run_text followed_by and_then behind in
          let first = run_accepts choice caps s r t d in
          let all = run_accepts choice caps s r (record { commands = later ++ k; refusal = end }) d in
          rw (first, all) (ap (and_then (accepted_in choice s r)) (ih (sym (ap (λ (x : Run). x.refusal) first) ∙ e)))

  -- A journal that is accepted whole, with bytes behind it: what it was answered, and then the run of these bytes from the state after it.
  pub journal_behind : (s : State) (journal more : List ℕ) → (run_text choice caps s (text_of journal)).refusal ≡ none
      → run_text choice caps s (text_of (journal ++ more))
      ≡ behind
      (run_text choice caps s (text_of journal)).accepted
      (run_text choice caps (state_after s (map (λ r. r.command) (text_of journal).commands)) (text_of more))
  unfolding run_text
  journal_behind s journal more e =
      let t = text_of journal in
      rw
      (text_behind_lem journal more (sym (run_ends_as_text choice caps s t (unfold run_text in subst NotOfCommand (sym e) tt)).0 ∙ e))
      (run_behind s t.commands _ t.refusal _ e
      ∙ ap (behind (run_over choice caps s t.commands t.refusal).accepted) (run_further_on _ (place_behind t.commands) more))
