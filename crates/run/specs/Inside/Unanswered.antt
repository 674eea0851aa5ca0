-- The run without answers in code: what it will come to. No answer buffer is lent: what is said of a run that goes on is said with an empty one.
use Rattle.std.specs.Prelude.{Result, Ok, List, ◌≡◌, ℕ, ◌+◌, ◌<◌, length, drop}
use Rattle.commands.specs.Text.{text_from}
use Rattle.commands.specs.Run.{Run, run_text, bytes_of_answers}
use Rattle.commands.specs.Register.{register_routes}
use Rattle.forest.specs.Promise.{state_of}
use Rattle.refusals.specs.declared.Refusal.{Refusal}
use Rattle.step.specs.declared.Reply.{Reply}
use Rattle.step.specs.Promise.{capacities_of, reply_size}
use Rattle.run.specs.declared.Progress.{Progress}
use Rattle.run.specs.Promise.{six_numbers}
use Rattle.run.specs.Inside.Runs.{numbers_after, Account}

-- What is left of a run, as if there were always room: the run of the rest of the journal, from the state that the table holds.
unfoldable pub all_left : Progress → List ℕ → List ℕ → Run
all_left p journal t =
    run_text
    register_routes
    (capacities_of p.shape.limits)
    (state_of p.shape t)
    (text_from p.place 0 (drop p.place journal))

-- The account of the run without answers is the six numbers of its report, whatever the answer buffer. The bytes that are counted so far, with
-- those that are left, fit 32 bits.
abbrev pub without_answers : Account (List ℕ)
without_answers =
    record {
      here = λ p answers. six_numbers p;
      later = λ p journal t answers. numbers_after p t (all_left p journal t);
      Fits = λ p journal t answers. p.written + length (bytes_of_answers (all_left p journal t).accepted) < 4294967296;
    }

-- The bytes of an answer can be counted with those before, and are.
abbrev pub Countable : ℕ → Reply → Type 0
Countable written reply = written + reply_size reply < 4294967296

abbrev pub Counted : ℕ → Reply → Result ℕ Refusal → Type 0
Counted written reply result = result ≡ Ok (written + reply_size reply)
