-- One command of the run without answers: the bytes of its answer are counted, and the run is a command further.
use mathlib.Core.List.{List}
use mathlib.Core.Path.{◌≡◌, refl, ap}
use Prim.Native.Nat.{ℕ, ◌+◌, ◌<◌}
use native.Mathlib.Omega.{arith}
use lib.ListN.{length}
use Rattle.std.specs.Prelude.{Result, Ok}
use Rattle.commands.specs.Answer.{answer_bytes}
use Rattle.commands.specs.Facts.{answer}
use Rattle.commands.specs.Run.{Accepted, Run, and_then, accepted_in, bytes_of_answers}
use Rattle.commands.specs.Register.{register_routes}
use Rattle.commands.proofs.Room.{bytes_of_more}
use Rattle.refusals.specs.declared.Refusal.{Refusal}
use Rattle.forest.specs.Promise.{state_of}
use Rattle.step.specs.declared.Reply.{Reply}
use Rattle.reading.specs.declared.read.Order.{Order}
use Rattle.reading.specs.Inside.Reads.{meaning}
use Rattle.step.specs.Promise.{StepPromise, reply_size, shape_after}
use Rattle.step.proofs.Replies.{limits_after}
use Rattle.run.specs.declared.Progress.{Progress}
use Rattle.run.specs.Inside.Runs.{one_further, further, Ready, GoesOn}
use Rattle.run.specs.Inside.Unanswered.{all_left, without_answers, Countable, Counted}
use Rattle.run.specs.Inside.Left.{all_accepted}
use Rattle.run.specs.Inside.Course.{numbers_further}
use Rattle.run.specs.Inside.Further.{size_is, further_on_lem}

-- The run at a command of the journal, which is carried out.
module _
    {p : Progress} {order : Order} {width : ℕ} {journal old new answers : List ℕ} {reply : Reply}
    (ready : Ready without_answers p order width journal old answers)
    (done : StepPromise p.shape (meaning order) old new (Ok reply))
  where
    -- the command as it is accepted
    abbrev here : Accepted
    here = accepted_in register_routes (state_of p.shape old) (record { command = meaning order; place = p.place; width = width })

    -- the run a command further, with so many bytes
    abbrev on : ℕ → Progress
    on written = one_further p (shape_after p.shape reply) (p.place + 1 + width) written

    -- the command is followed by what is left from there
    left_from : (written : ℕ) → all_left p journal old ≡ and_then here (all_left (on written) journal new)
    left_from written =
        all_accepted p journal old ready.underway.at_command (meaning order) width ready.reads done.not_refused (on written) new (limits_after p.shape reply) refl
        done.carried.agrees

    -- so the bytes counted so far, with those of the answer and those that are left, fit
    still_fits : (written : ℕ) → p.written + reply_size reply + length (bytes_of_answers (all_left (on written) journal new).accepted) < 4294967296
    unfolding and_then accepted_in
    still_fits written =
        omega (
          arith,
          ready.underway.going.written_fits,
          ap (λ (run : Run). length (bytes_of_answers run.accepted)) (left_from written),
          bytes_of_more here (all_left (on written) journal new).accepted,
          size_is done.carried,
        )

    -- So the bytes of the answer can be counted,
    pub can_be_counted : Countable p.written reply
    can_be_counted = omega (arith, still_fits 0)

    -- and once they are the run is a command further.
    pub counted_on : {result : Result ℕ Refusal} → Counted p.written reply result
        → GoesOn without_answers p journal old new answers answers (further p (shape_after p.shape reply) (p.place + 1 + width) result)
    unfolding accepted_in
    counted_on e =
        let total = p.written + reply_size reply in
        let written : total ≡ p.written + length (answer_bytes (answer register_routes (state_of p.shape old) (meaning order))) = omega (arith, size_is done.carried) in
        rw e
        (further_on_lem ready.underway
        (rw (left_from total) (numbers_further p (on total) old new here (all_left (on total) journal new) refl refl written done.carried.agrees))
        (omega arith)
        refl
        (omega (arith, still_fits total)))
