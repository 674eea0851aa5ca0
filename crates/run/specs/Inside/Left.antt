-- What is left of a run begins with what stands at its place: first as if there were always room, then with the room that there is.
use mathlib.Core.List.{List, []}
use mathlib.Core.Option.{none}
use mathlib.Core.Path.{◌≡◌, sym, ◌∙◌, ap}
use Prim.Native.Nat.{ℕ, ◌+◌, ◌-◌, ◌≤◌, ◌<◌}
use native.Mathlib.Numerals.{add-one}
use native.Mathlib.Omega.{arith}
use lib.ListN.{length, drop}
use lib.Seq.{drop-cons}
use Rattle.naming.specs.State.{State, Agree}
use Rattle.commands.specs.Command.{Command, command}
use Rattle.commands.specs.Refusal.{Refusal, no_room, Capacities, refusal_of}
use Rattle.commands.specs.Answer.{answer_bytes}
use Rattle.commands.specs.Facts.{after, answer}
use Rattle.commands.specs.Text.{Text, text_from}
use Rattle.commands.specs.Run.{Accepted, Run, stop, and_then, accepted_in, run_text, fitting, run_within}
use Rattle.commands.specs.Register.{register_routes}
use Rattle.commands.proofs.Agree.{agree_text}
use Rattle.commands.proofs.Room.{first_fits, first_does_not_fit}
use Rattle.commands.proofs.Steps.{RefusedFor, run_ends, run_accepts, journal_refuses}
use Rattle.commands.proofs.TextAt.{text_at_end, text_at_command}
use Rattle.forest.specs.Promise.{state_of}
use Rattle.step.specs.Promise.{capacities_of}
use Rattle.run.specs.declared.Progress.{Progress}
use Rattle.run.specs.Inside.Runs.{left_of, read_here}
use Rattle.run.specs.Inside.Unanswered.{all_left}

-- A run at a place of a journal.
module _ (p : Progress) (journal t : List ℕ) where
  -- the state that the table holds, and the capacities
  abbrev state_here : State
  state_here = state_of p.shape t

  abbrev caps_here : Capacities
  caps_here = capacities_of p.shape.limits

  -- what stands there is refused so
  abbrev pub RefusedHere : Refusal → Type 0
  RefusedHere r = RefusedFor caps_here state_here (read_here p journal) r

  -- nothing is left behind the journal's end
  pub all_at_end : length journal ≤ p.place → all_left p journal t ≡ record { accepted = []; refusal = none }
  unfolding all_left
  all_at_end h = rw (text_at_end journal p.place h) (run_ends register_routes caps_here state_here none)

  module _ (at_command : p.place < length journal) where
    -- what is refused stops the run
    pub all_refused : {r : Refusal} → RefusedHere r → all_left p journal t ≡ stop r
    unfolding all_left
    all_refused f =
        rw
        (drop-cons journal p.place 0 at_command, ← add-one p.place)
        (journal_refuses register_routes caps_here state_here p.place _ _ f)

    module _ (c : Command) (width : ℕ) (reads : read_here p journal ≡ command c width) (not_refused : refusal_of caps_here state_here c ≡ none) where
      -- a command that is not, and the text behind it
      abbrev accepted_here : Accepted
      accepted_here = accepted_in register_routes state_here (record { command = c; place = p.place; width = width })

      abbrev text_behind : Text
      text_behind = text_from (p.place + 1 + width) 0 (drop (p.place + 1 + width) journal)

      -- it is followed by the run over that text
      all_followed : all_left p journal t ≡ and_then accepted_here (run_text register_routes caps_here (after state_here c) text_behind)
      unfolding all_left
      all_followed =
          rw
          (text_at_command journal p.place at_command c width reads)
          (run_accepts register_routes caps_here state_here _ text_behind not_refused)

      -- which is what is left of a run that is so much further
      pub all_accepted : (p' : Progress) (new : List ℕ)
          → p'.shape.limits ≡ p.shape.limits → p'.place ≡ p.place + 1 + width → Agree (state_of p'.shape new) (after state_here c)
          → all_left p journal t ≡ and_then accepted_here (all_left p' journal new)
      unfolding all_left
      all_accepted p' new limits place agrees =
          let state = state_of p'.shape new in
          all_followed
          ∙ ap (and_then accepted_here)
          (sym (agree_text register_routes caps_here agrees text_behind)
          ∙ ap (λ l. run_text register_routes (capacities_of l) state text_behind) (sym limits)
          ∙ ap (λ q. run_text register_routes (capacities_of p'.shape.limits) state (text_from q 0 (drop q journal))) (sym place))

-- The same with so much room.
module _ (p : Progress) (journal : List ℕ) (room : ℕ) (t : List ℕ) where
  -- what is left is what is left without room, as far as it fits
  left_is : {run : Run} → all_left p journal t ≡ run → left_of p journal room t ≡ fitting (room - p.written) run.accepted run.refusal
  unfolding left_of run_within all_left
  left_is e = ap (λ (run : Run). fitting (room - p.written) run.accepted run.refusal) e

  -- nothing is left behind the journal's end
  pub left_at_end : length journal ≤ p.place → left_of p journal room t ≡ record { accepted = []; refusal = none }
  unfolding fitting
  left_at_end h = left_is (all_at_end p journal t h)

  module _ (at_command : p.place < length journal) where
    -- what is refused stops the run
    pub left_refused : {r : Refusal} → RefusedHere p journal t r → left_of p journal room t ≡ stop r
    unfolding fitting stop
    left_refused f = left_is (all_refused p journal t at_command f)

    module _
        (c : Command) (width : ℕ)
        (reads : read_here p journal ≡ command c width)
        (not_refused : refusal_of (caps_here p journal t) (state_here p journal t) c ≡ none)
      where
        -- the bytes of the answer to a command that is not
        abbrev size_here : ℕ
        size_here = length (answer_bytes (answer register_routes (state_here p journal t) c))

        -- one without room for its answer
        pub left_no_room : room - p.written < size_here → left_of p journal room t ≡ stop no_room
        unfolding and_then accepted_in
        left_no_room h = left_is (all_followed p journal t at_command c width reads not_refused) ∙ first_does_not_fit _ _ _ _ h

        -- one that is answered: what is left behind it is what is left of a run that is so much further
        pub left_answered : size_here ≤ room - p.written → (p' : Progress) (new : List ℕ)
            → p'.shape.limits ≡ p.shape.limits → p'.place ≡ p.place + 1 + width → p'.written ≡ p.written + size_here
            → Agree (state_of p'.shape new) (after (state_here p journal t) c)
            → left_of p journal room t
            ≡ and_then (accepted_here p journal t at_command c width reads not_refused) (left_of p' journal room new)
        unfolding left_of run_within all_left and_then accepted_in
        left_answered h p' new limits place written agrees =
            let rest = all_left p' journal new in
            let left : room - p.written - size_here ≡ room - p'.written = omega (arith, written) in
            left_is (all_accepted p journal t at_command c width reads not_refused p' new limits place agrees)
            ∙ first_fits _ _ _ _ h
            ∙ ap (λ r. and_then (accepted_here p journal t at_command c width reads not_refused) (fitting r rest.accepted rest.refusal)) left
