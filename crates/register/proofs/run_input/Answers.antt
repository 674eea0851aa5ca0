-- `run_input` leaves what the program writes: the answers that the entry left, and the ending behind them.
use Rattle.std.proofs.Common.{sym, refl, ℕ, List, length, drop, take, replicate, get_or, arith, ◌+◌, ◌≤◌, ◌≡◌, ◌++◌, ◌∙◌}
use lib.ListN.{length-take, length-drop, length-replicate}
use lib.Seq.{length-take-le}
use Rattle.commands.specs.Register.{program_capacities}
use Rattle.journal.specs.Promise.{RegisterPromise}
use Rattle.register.proofs.Output.{Outputs, ending_room, promised_outputs, outputs_written, output_short}
use Rattle.register.proofs.run_input.Goals as goal

-- What the entry leaves, lent the program's buffers.
module _ {input : List ℕ} (output : List ℕ) (long : 65542 ≤ length output) {returned : ℕ} {work answers report : List ℕ}
    (p : RegisterPromise
    (record { cabinets = 256; spans = 512 })
    input
    (record { work = replicate 10304 0; answers = take 65536 output; report = replicate 6 0 })
    returned
    (record { work = work; answers = answers; report = report })) where
  -- it gives the program's output
  left_outputs : Outputs input returned answers report
  unfolding program_capacities
  left_outputs =
      promised_outputs
      input
      (record { work = replicate 10304 0; answers = take 65536 output; report = replicate 6 0 })
      returned
      (record { work = work; answers = answers; report = report })
      (length-replicate {A = ℕ} 10304 0)
      (length-take-le 65536 output (omega arith))
      refl
      p

  -- and room for an ending behind the answers
  left_room : length answers ≡ length (take 65536 output) → get_or report 3 0 + 6 ≤ length (answers ++ drop 65536 output)
  left_room kept = ending_room answers output left_outputs.size_fits (kept ∙ length-take-le 65536 output (omega arith)) long

pub slice_bounds-register_run-end-3 : goal.slice_bounds-register_run-end-3
slice_bounds-register_run-end-3 c = sym (length-take-le 65536 c.args.output.now (omega arith))

pub slice_bounds-put_ending-count : goal.slice_bounds-put_ending-count
slice_bounds-put_ending-count c =
    let run = c.register_run-refusal in
    omega (arith, left_room c.args.output.now c.requires run.ensures run.auto.answers)

pub slice_bounds-put_ending-start : goal.slice_bounds-put_ending-start
slice_bounds-put_ending-start c =
    let run = c.register_run-refusal in
    omega (arith, left_room c.args.output.now c.requires run.ensures run.auto.answers)

pub put_ending-requires : goal.put_ending-requires
put_ending-requires c =
    let run = c.register_run-refusal in
    simp (length-take, length-drop) (omega (arith, left_room c.args.output.now c.requires run.ensures run.auto.answers))

pub overflow_add-result : goal.overflow_add-result
overflow_add-result c =
    let run = c.register_run-refusal in
    let o = left_outputs c.args.output.now c.requires run.ensures in
    output_short
    o
    (run.auto.answers ∙ length-take-le 65536 c.args.output.now (omega arith))
    (c.put_ending.ensures o.refusal o.number_is)

pub returns : goal.returns
returns c =
    let run = c.register_run-refusal in
    let o = left_outputs c.args.output.now c.requires run.ensures in
    outputs_written
    c.args.input.now
    run.result
    run.new.answers
    run.new.report
    o
    (drop 65536 c.args.output.now)
    _
    c.put_ending.new.out
    _
    c.put_ending.result
    (c.put_ending.ensures o.refusal o.number_is)
