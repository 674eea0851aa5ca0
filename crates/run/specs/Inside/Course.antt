-- What a run comes to, with answers and without, is the same before and after each of its commands, and once it has ended.
use mathlib.Core.List.{List, [], ◌++◌, append_assoc, append-nil}
use mathlib.Core.Option.{Option, none, some}
use mathlib.Core.Path.{◌≡◌, refl, ap}
use Rattle.std.specs.Prelude.{None}
use Prim.Native.Nat.{ℕ, suc, ◌+◌, ◌-◌, ◌≤◌, ◌<◌}
use native.Mathlib.Nat.{add-zero, le_refl}
use native.Mathlib.Omega.{arith}
use lib.ListN.{length, take, drop, length-append, length-drop, take-append-drop, drop_of_length-le}
use lib.Seq.{drop-drop, take_all, length-take-le, take-append_seam, drop-append_seam}
use Rattle.naming.specs.Book.{feed_all}
use Rattle.naming.specs.State.{State, Agree, after_addition, after_recording}
use Rattle.commands.specs.Refusal as Table
use Rattle.commands.specs.Answer.{answer_bytes}
use Rattle.commands.specs.Facts.{after}
use Rattle.commands.specs.Run.{Accepted, Run, stop, and_then, commands_of, bytes_of_answers, place_after}
use Rattle.commands.specs.Entry.{over, number_of}
use Rattle.refusals.specs.declared.Refusal.{Refusal}
use Rattle.refusals.specs.Causes.{cause_of, causes_of}
use Rattle.forest.specs.Promise.{state_of, vertices_held, edges_held}
use Rattle.run.specs.declared.Progress.{Progress}
use Rattle.run.specs.Promise.{six_numbers}
use Rattle.run.specs.Inside.Runs.{refused_progress, written_behind, left_of, network_after, leaves, numbers_after, leaves_after, will_leave, Account, with_answers}
use Rattle.run.specs.Inside.Unanswered.{without_answers}
use Rattle.run.specs.Inside.Left.{RefusedHere, all_at_end, all_refused, left_at_end, left_refused}

-- nothing written behind leaves the buffer as it is
nothing_behind : (written : ℕ) (answers : List ℕ) → written_behind written [] answers ≡ answers
unfolding written_behind over
nothing_behind written answers = take-append-drop written answers

-- bytes written over the tail of the buffer stand behind those before it
pub over_tail : (written : ℕ) (bytes answers tail : List ℕ) → tail ≡ over bytes (take (length answers - written) (drop written answers))
    → take written answers ++ (tail ++ drop (length answers - written) (drop written answers)) ≡ written_behind written bytes answers
unfolding written_behind
over_tail written bytes answers tail e =
    let room = length answers - written in
    let behind = drop written answers in
    let all : length behind ≤ room = rw (length-drop written answers) (le_refl room) in
    rw (e, take_all room behind all, drop_of_length-le behind all, append-nil (over bytes behind))

-- where there is room for them the buffer stays as long
pub behind_as_long : (written : ℕ) (bytes answers : List ℕ) → written ≤ length answers → length bytes ≤ length answers - written
    → length (written_behind written bytes answers) ≡ length answers
unfolding written_behind over
behind_as_long written bytes answers fits room =
    omega (
      arith,
      length-append (take written answers) (bytes ++ drop (length bytes) (drop written answers)),
      length-append bytes (drop (length bytes) (drop written answers)),
      length-take-le written answers fits,
      length-drop (length bytes) (drop written answers),
      length-drop written answers,
    )

-- bytes behind bytes are those of both
behind_both : (written : ℕ) (bytes more answers : List ℕ) → written ≤ length answers
    → written_behind written (bytes ++ more) answers
    ≡ written_behind (written + length bytes) more (written_behind written bytes answers)
unfolding written_behind over
behind_both written bytes more answers h =
    let front = take written answers ++ bytes in
    let rest = drop (length bytes) (drop written answers) in
    let long : written + length bytes ≡ length front = omega (arith, length-append (take written answers) bytes, length-take-le written answers h) in
    rw (
      long,
      ← append_assoc (take written answers) bytes rest,
      take-append_seam front rest,
      drop-append_seam front rest,
      drop-drop (length more) (length bytes) (drop written answers),
      length-append bytes more,
      append_assoc bytes more (drop (length bytes + length more) (drop written answers)),
      append_assoc (take written answers) bytes (more ++ drop (length bytes + length more) (drop written answers)),
    )

-- the network after a command and those behind it is that after those behind it, from a state that agrees with the one after the command
network_further : (s s' : State) (a : Accepted) (rest : Run) → Agree s' (after s a.command)
    → network_after s' rest ≡ network_after s (and_then a rest)
unfolding and_then commands_of feed_all after after_addition after_recording
network_further s s' a rest agrees = rw agrees.same_book

-- the numbers of a run of which nothing is left are those that it has come to
numbers_here : (p : Progress) (t : List ℕ) (end : Option Table.Refusal) → number_of (causes_of p.refusal) ≡ number_of end
    → six_numbers p ≡ numbers_after p t (record { accepted = []; refusal = end })
unfolding six_numbers numbers_after place_after bytes_of_answers commands_of feed_all
numbers_here p t end e =
    rw (e, edges_held p.shape t, vertices_held p.shape t, add-zero p.place, add-zero p.commands, add-zero p.written)

-- and it leaves behind what it has come to
ends_here : (p : Progress) (t answers : List ℕ) (end : Option Table.Refusal) → number_of (causes_of p.refusal) ≡ number_of end
    → leaves p answers ≡ leaves_after p t answers (record { accepted = []; refusal = end })
unfolding leaves leaves_after bytes_of_answers
ends_here p t answers end e = rw (numbers_here p t end e, nothing_behind p.written answers)

-- where nothing is left but a refusal, a run that is refused here leaves behind what it was to leave behind
pub stops_here : (p : Progress) (journal t answers : List ℕ) (r : Refusal) → left_of p journal (length answers) t ≡ stop (cause_of r)
    → leaves (refused_progress p r) answers ≡ will_leave p journal t answers
unfolding stop leaves_after numbers_after
stops_here p journal t answers r left = rw left (ends_here (refused_progress p r) t answers (some (cause_of r)) refl)

-- A command that is accepted, and a run that is so much further.
module _ (p p' : Progress) (old new : List ℕ) (a : Accepted) (rest : Run)
    (place : p'.place ≡ p.place + 1 + a.width) (commands : p'.commands ≡ p.commands + 1)
    (written : p'.written ≡ p.written + length (answer_bytes a.answer))
    (agrees : Agree (state_of p'.shape new) (after (state_of p.shape old) a.command)) where
  -- the command and what is left behind it come to the same numbers as what is left from one command further on
  pub numbers_further : numbers_after p' new rest ≡ numbers_after p old (and_then a rest)
  unfolding numbers_after and_then place_after bytes_of_answers
  numbers_further =
      let later = rest.accepted in
      let place_is : p'.place + place_after later ≡ p.place + (suc a.width + place_after later) = omega (arith, place) in
      let commands_are : p'.commands + length later ≡ p.commands + suc (length later) = omega (arith, commands) in
      let written_is : p'.written + length (bytes_of_answers later) ≡ p.written + length (answer_bytes a.answer ++ bytes_of_answers later) =
      omega (arith, written, length-append (answer_bytes a.answer) (bytes_of_answers later)) in
      rw (place_is, commands_are, written_is, network_further (state_of p.shape old) (state_of p'.shape new) a rest agrees)

  -- and leave the same behind
  pub goes_further : (answers : List ℕ) → p.written ≤ length answers
      → leaves_after p' new (written_behind p.written (answer_bytes a.answer) answers) rest ≡ leaves_after p old answers (and_then a rest)
  unfolding leaves_after and_then bytes_of_answers
  goes_further answers fits =
      rw (numbers_further, written, behind_both p.written (answer_bytes a.answer) (bytes_of_answers rest.accepted) answers fits)

-- the number of no refusal
none_numbered : (p : Progress) → p.refusal ≡ None → number_of (causes_of p.refusal) ≡ number_of none
none_numbered p e = ap (λ o. number_of (causes_of o)) e

-- An account that holds where a run ends: at the journal's end, and where it is refused, a run comes to what it was to come to.
pub record AtEnds {E : Type 0} (account : Account E) : Type 0 where
  pub at_end : (p : Progress) (journal t answers : List ℕ) → p.refusal ≡ None → length journal ≤ p.place
      → account.here p answers ≡ account.later p journal t answers
  pub at_refusal : (p : Progress) (journal t answers : List ℕ) (r : Refusal) → p.place < length journal → RefusedHere p journal t (cause_of r)
      → account.here (refused_progress p r) answers ≡ account.later p journal t answers

-- Both accounts do so.
pub ends-with_answers : AtEnds with_answers
ends-with_answers =
    record {
      at_end = λ p journal t answers z past.
          rw (left_at_end p journal (length answers) t past) (ends_here p t answers none (none_numbered p z));
      at_refusal = λ p journal t answers r more f. stops_here p journal t answers r (left_refused p journal (length answers) t more f);
    }

pub ends-without_answers : AtEnds without_answers
unfolding stop numbers_after
ends-without_answers =
    record {
      at_end = λ p journal t answers z past. rw (all_at_end p journal t past) (numbers_here p t none (none_numbered p z));
      at_refusal = λ p journal t answers r more f.
          rw (all_refused p journal t more f) (numbers_here (refused_progress p r) t (some (cause_of r)) refl);
    }
