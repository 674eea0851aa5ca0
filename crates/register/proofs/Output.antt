-- What the program writes, out of what the entry leaves.
use mathlib.Core.List.{List, ◌++◌}
use mathlib.Core.Option.{Option, none, some}
use mathlib.Core.Path.{◌≡◌, refl, sym, ◌∙◌, ap}
use Prim.Native.Nat.{ℕ, ◌+◌, ◌≤◌}
use native.Mathlib.Omega.{arith}
use lib.ListN.{length, take, drop, get_or, replicate, length-append, length-drop}
use lib.Seq.{take-append_seam, take-append-add, take-append-le, length-take-le}
use mir.Syntax.{w64}
use mir.Val.{Fits}
use Rattle.commands.specs.Bytes.{two_bytes, four_bytes}
use Rattle.commands.specs.Refusal.{Refusal}
use Rattle.commands.specs.Run.{bytes_of_answers}
use Rattle.commands.specs.Entry.{Whole, refused_at_start, ran, whole_run, work_needed, number_of, report_of, over, Buffers, outcome, entry_under}
use Rattle.commands.specs.Register.{register_rule, register_routes, register, program_capacities, ending, program_output, program_run, program}
use Rattle.journal.specs.Promise.{RegisterPromise}
use Rattle.register.specs.Output.{Put, ProgramOutput}

-- what is put at the front of a buffer fits, and the buffer begins with it
put_fits : {bytes old new : List ℕ} {size : ℕ} → Put bytes old new size → size ≤ length new
unfolding over
put_fits p = rw (p.size_is, p.buffer_is) (simp length-append (omega arith))

put_begins : {bytes old new : List ℕ} {size : ℕ} → Put bytes old new size → take size new ≡ bytes
unfolding over
put_begins {bytes} {old} p = rw (p.size_is, p.buffer_is) (take-append_seam bytes (drop (length bytes) old))

-- put behind other bytes, it follows these
put_behind : (front more : List ℕ) {bytes old new : List ℕ} {size : ℕ} → Put bytes old new size
    → take (length front + size) (front ++ (new ++ more)) ≡ front ++ bytes
put_behind front more {new = new} {size = size} p =
    take-append-add front (new ++ more) size
    ∙ ap (λ l. front ++ l) (take-append-le size new more (put_fits p) ∙ put_begins p)

-- What the entry leaves gives the program's output: the number stands for a refusal or for none, and the report has the count of the
-- answer bytes and the place.
pub record Outputs (input : List ℕ) (returned : ℕ) (answers report : List ℕ) : Type 0 where
  pub refusal : Option Refusal
  pub number_is : returned ≡ number_of refusal
  pub size_fits : get_or report 3 0 ≤ length answers
  pub output_is : take (get_or report 3 0) answers ++ ending refusal (get_or report 1 0) ≡ program input

-- so it is with every whole run: where it is refused at the start, the report is left at zeros
outcome_outputs : (input : List ℕ) (lent : Buffers) → lent.report ≡ replicate 6 0 → (whole : Whole) → program_run input ≡ whole
    → let o = outcome register_rule program_capacities lent whole in
    Outputs input o.returned o.buffers.answers o.buffers.report
unfolding outcome program program_output number_of report_of over
outcome_outputs input lent zeros (refused_at_start r) e =
    record {
      refusal = some r;
      number_is = refl;
      size_fits = rw zeros (omega arith);
      output_is = rw (zeros, e);
    }
outcome_outputs input lent zeros (ran run) e =
    record {
      refusal = run.refusal;
      number_is = refl;
      size_fits = simp length-append (omega arith);
      output_is = rw (e, take-append_seam (bytes_of_answers run.accepted));
    }

-- and so with what the entry promises, for the program's capacities and buffers
pub promised_outputs : (input : List ℕ) (lent : Buffers) (returned : ℕ) (left : Buffers) → length lent.work ≡ 10304
    → length lent.answers ≡ 65536 → lent.report ≡ replicate 6 0 → RegisterPromise program_capacities input lent returned left
    → Outputs input returned left.answers left.report
unfolding register entry_under program_run work_needed program_capacities
promised_outputs input lent returned left work answers zeros p =
    rw (p.returned_is, p.answers_are, p.report_is)
    (outcome_outputs
    input
    lent
    zeros
    (whole_run register_rule register_routes program_capacities input (length lent.work) (length lent.answers) (length lent.report))
    (rw (work, answers, zeros)))

-- there is room for an ending behind the answers
pub ending_room : (answers output : List ℕ) {size : ℕ} → size ≤ length answers → length answers ≡ 65536 → 65542 ≤ length output
    → size + 6 ≤ length (answers ++ drop 65536 output)
ending_room answers output h e long = simp (length-append, length-drop) (omega arith)

-- with the ending put behind these answers, the buffer begins with what the program writes
pub outputs_written : (input : List ℕ) (returned : ℕ) (answers report : List ℕ) (o : Outputs input returned answers report)
    → (tail old new more : List ℕ) (count : ℕ) → Put (ending o.refusal (get_or report 1 0)) old new count
    → ProgramOutput input (take (get_or report 3 0) (answers ++ tail) ++ (new ++ more)) (get_or report 3 0 + count)
outputs_written input returned answers report o tail old new more count p =
    let size = get_or report 3 0 in
    let front = take-append-le size answers tail o.size_fits in
    let long : length (take size answers) ≡ size = length-take-le size answers o.size_fits in
    rw front
    (record {
      fits = simp length-append (omega (arith, put_fits p));
      bytes_are =
          ap (λ n. take (n + count) (take size answers ++ (new ++ more))) (sym long)
          ∙ put_behind (take size answers) more p
          ∙ o.output_is;
    })

-- an ending has at most six bytes
ending_short : (o : Option Refusal) (place : ℕ) → length (ending o place) ≤ 6
unfolding ending four_bytes two_bytes
ending_short none place = omega arith
ending_short (some r) place = omega arith

-- how many bytes the program writes fits a number of 64 bits
pub output_short : {input : List ℕ} {returned : ℕ} {answers report : List ℕ} (o : Outputs input returned answers report)
    → length answers ≡ 65536 → {old new : List ℕ} {count : ℕ} → Put (ending o.refusal (get_or report 1 0)) old new count
    → Fits w64 (get_or report 3 0 + count)
output_short {report = report} o h p =
    omega (arith, o.size_fits, p.size_is, ending_short o.refusal (get_or report 1 0))
