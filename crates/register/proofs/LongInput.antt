-- One byte more than a journal may have is enough to refuse it.
use mathlib.Core.List.{List}
use mathlib.Core.Logic.{◌⊎◌, inl, inr}
use mathlib.Core.Option.{some}
use mathlib.Core.Path.{◌≡◌, refl, sym, ◌∙◌, ap}
use Prim.Native.Nat.{ℕ, ◌≤◌, ◌<◌}
use native.Mathlib.Omega.{arith}
use lib.ListN.{length, take}
use lib.Seq.{take_all, length-take-le}
use Rattle.graph.proofs.Truth.{lt-ltb}
use Rattle.commands.specs.Refusal.{long_journal}
use Rattle.commands.specs.Entry.{work_needed, good_capacities, short_buffers}
use Rattle.commands.specs.Register.{register_rule, register_routes, program_capacities, ending, program_output, program_run, program}
use Rattle.commands.proofs.Cases.{le_or_gt}
use Rattle.commands.proofs.Start.{long_journal_exactly}

-- for an input that is longer than a journal may be, the program writes number 3 with the place 0
pub long_input_refused : (input : List ℕ) → 65536 < length input → program input ≡ ending (some long_journal) 0
unfolding program program_output program_run program_capacities work_needed good_capacities short_buffers
long_input_refused input h =
    rw ((long_journal_exactly register_rule register_routes program_capacities input 10304 65536 6).1 (refl, (refl, lt-ltb 65536 (length input) h)))

-- what the program writes for an input is what it writes for its first 65,537 bytes
pub first_bytes_suffice : (input : List ℕ) → program (take 65537 input) ≡ program input
first_bytes_suffice input = go (le_or_gt (length input) 65537)
  where
    go : (length input ≤ 65537) ⊎ (65537 < length input) → program (take 65537 input) ≡ program input
    go (inl h) = ap program (take_all 65537 input h)
    go (inr h) =
        let long : length (take 65537 input) ≡ 65537 = length-take-le 65537 input (omega arith) in
        long_input_refused (take 65537 input) (omega arith) ∙ sym (long_input_refused input (omega arith))
