-- One command of the run with answers: its answer is written behind those before it, or there is no room for it.
use mathlib.Core.List.{List}
use mathlib.Core.Path.{◌≡◌, refl, ◌∙◌, ap}
use Prim.Native.Nat.{ℕ, ◌+◌}
use native.Mathlib.Omega.{arith}
use lib.ListN.{length}
use Rattle.std.specs.Prelude.{Result, Ok, Err}
use Rattle.commands.specs.Answer.{answer_bytes}
use Rattle.commands.specs.Facts.{answer}
use Rattle.commands.specs.Run.{accepted_in}
use Rattle.commands.specs.Register.{register_routes}
use Rattle.numbers.specs.declared.Shape.{Shape}
use Rattle.refusals.specs.declared.Refusal.{Refusal}
use Rattle.refusals.specs.declared.Refusal.TheVariants as R
use Rattle.forest.specs.Promise.{state_of}
use Rattle.step.specs.declared.Reply.{Reply}
use Rattle.reading.specs.declared.read.Order.{Order}
use Rattle.reading.specs.Inside.Reads.{meaning}
use Rattle.step.specs.Promise.{StepPromise, reply_answer, shape_after}
use Rattle.step.proofs.Replies.{limits_after, reply_counted}
use Rattle.run.specs.declared.Progress.{Progress}
use Rattle.run.specs.Inside.Runs.{one_further, further, written_behind, left_of, will_leave, with_answers, Ready, Answerable, IsAnswered, Answered, GoesOn}
use Rattle.run.specs.Inside.Left.{left_no_room, left_answered}
use Rattle.run.specs.Inside.Course.{behind_as_long, stops_here, goes_further}
use Rattle.run.specs.Inside.Further.{size_is, further_on_lem}

-- A reply to a command can be answered.
pub answerable : {p : Progress} {order : Order} {width : ℕ} {journal old new answers : List ℕ} {reply : Reply}
    → Ready with_answers p order width journal old answers → StepPromise p.shape (meaning order) old new (Ok reply) → Answerable p.written reply answers
answerable ready done = record { fits = done.carried.fits; written_fits = ready.underway.going.written_fits }

-- The run at a command of the journal, which is carried out.
module _
    {p : Progress} {order : Order} {width : ℕ} {journal old new answers : List ℕ} {reply : Reply}
    (ready : Ready with_answers p order width journal old answers)
    (done : StepPromise p.shape (meaning order) old new (Ok reply))
  where
    -- the network's new size, and the run a command further
    abbrev next : Shape
    next = shape_after p.shape reply

    abbrev on : ℕ → Progress
    on written = one_further p next (p.place + 1 + width) written

    -- the answer buffer stays as long
    as_long : (new_answers : List ℕ) (total : ℕ) → IsAnswered p.written new next reply answers new_answers total → length new_answers ≡ length answers
    as_long new_answers total w =
        let bytes = answer_bytes (reply_answer next new reply) in
        ap length w.stands ∙ behind_as_long p.written bytes answers ready.underway.going.written_fits (omega (arith, w.room, reply_counted next new reply))

    -- once it is written, what is left from one command further on leaves behind the same
    further_leaves : (new_answers : List ℕ) (total : ℕ) → IsAnswered p.written new next reply answers new_answers total
        → will_leave (on total) journal new new_answers ≡ will_leave p journal old answers
    unfolding accepted_in
    further_leaves new_answers total w =
        let carried = done.carried in
        let s = state_of p.shape old in
        let a = accepted_in register_routes s (record { command = meaning order; place = p.place; width = width }) in
        let same_answer : new_answers ≡ written_behind p.written (answer_bytes (answer register_routes s (meaning order))) answers = rw (← carried.answer_is) w.stands in
        let written : total ≡ p.written + length (answer_bytes (answer register_routes s (meaning order))) = omega (arith, w.counted, size_is carried) in
        let left =
        left_answered p journal (length answers) old ready.underway.at_command (meaning order) width ready.reads done.not_refused
        (rw (size_is carried) w.room)
        (on total)
        new
        (limits_after p.shape reply)
        refl
        written
        carried.agrees in
        rw
        (as_long new_answers total w, same_answer, left)
        (goes_further p (on total) old new a (left_of (on total) journal (length answers) new) refl refl written carried.agrees answers
        ready.underway.going.written_fits)

    -- what becomes of the reply becomes of the run
    pub answered_on : (new_answers : List ℕ) (result : Result ℕ Refusal) → Answered p.written new next reply answers new_answers result
        → GoesOn with_answers p journal old new answers new_answers (further p next (p.place + 1 + width) result)
    answered_on new_answers (Ok total) w =
        further_on_lem ready.underway (further_leaves new_answers total w) (omega arith) refl
        (omega (arith, w.counted, w.room, as_long new_answers total w, ready.underway.going.written_fits))
    answered_on new_answers (Err refusal) w =
        let left =
        left_no_room p journal (length answers) old ready.underway.at_command (meaning order) width ready.reads done.not_refused
        (omega (arith, w.short, size_is done.carried)) in
        rw (w.no_room, w.untouched) (stops_here p journal old answers R.NoRoom left)
