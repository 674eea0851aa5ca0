-- Demand 3: the whole-run claim holds of every run of the definitions, for every rule of mates, every choice of routes that
-- serves, every capacity, journal of bytes and buffer.
use mathlib.Core.Bool.{true}
use mathlib.Core.List.{List}
use mathlib.Core.Path.{◌≡◌, sym, ◌∙◌}
use Prim.Native.Nat.{ℕ, suc, ◌≤◌}
use lib.ListN.{length, take}
use lib.Seq.{length-take-le}
use Rattle.graph.specs.Network.{Rule, MateRule}
use Rattle.graph.specs.Route.{Choice, Serves}
use Rattle.graph.proofs.Ducts.{one_duct-mates}
use Rattle.ways.proofs.TwoRoutes.{two_routes-serve}
use Rattle.naming.specs.State.{State, empty_state}
use Rattle.commands.specs.Bytes.{all_bytes}
use Rattle.commands.specs.Command.{Command}
use Rattle.commands.specs.Facts.{state_after}
use Rattle.commands.specs.Refusal.{Capacities}
use Rattle.commands.specs.Entry.{whole_run, accepted_commands, book_after, Buffers, entry_under}
use Rattle.commands.specs.Register.{register_rule, register_routes, register}
use Rattle.commands.specs.Decode.{decode_first}
use Rattle.commands.specs.WholeRun.{WholeRunClaim}
use Rattle.commands.proofs.StateAfter.{book_after_commands}
use Rattle.commands.proofs.SizedBook.{sized_empty}
use Rattle.commands.proofs.NameList.{answers_from, hear_all_lem, no_names_lem}
use Rattle.commands.proofs.RunBooks.{NoneRefused, first_not_refused, Sound, empty_sound, whole_run_not_refused}
use Rattle.commands.proofs.NoticeBound.{few_in_all, each_doubles_at}
use Rattle.commands.proofs.ReadBack.{length_answers, accepted, answer_buffer, read_back}

-- the whole-run claim holds of every run: refused at the start, refused later, or accepted
pub whole_run_lem : (rule : Rule) → MateRule rule → (choice : Choice) → Serves rule choice
    → (caps : Capacities) (journal : List ℕ) → all_bytes journal ≡ true
    → (lent : Buffers)
    → WholeRunClaim
    rule
    (accepted_commands (whole_run rule choice caps journal (length lent.work) (length lent.answers) (length lent.report)))
    (entry_under rule choice caps journal lent).buffers.answers
unfolding empty_state
whole_run_lem rule r choice serves caps journal are lent =
    record {
      holds_after = λ k h.
          record {
            answered = rw (read k h) (length_answers choice start (take k commands) ∙ length-take-le k commands h);
            same_names = rw (read k h, ← no_names_lem rule, book k) (hear_all_lem choice start (sized_empty rule) (take k commands));
            few_notices = λ kind.
                rw (read k h, book k) (few_in_all choice caps kind start (take k commands) sound (first_not_refused caps start commands not_refused k));
          };
      notices_double = λ i h. rw (read (suc i) h, book i, book (suc i)) (each_doubles_at choice caps start commands sound not_refused i h);
    }
  where
    start : State
    start = empty_state rule

    sound : Sound caps start
    sound = empty_sound caps rule r

    commands : List Command
    commands = accepted rule choice caps journal lent

    book : (k : ℕ) → book_after rule (take k commands) ≡ (state_after start (take k commands)).book
    book k = sym (book_after_commands rule (take k commands))

    not_refused : NoneRefused caps start commands
    not_refused = whole_run_not_refused rule choice caps journal (length lent.work) (length lent.answers) (length lent.report)

    read : (k : ℕ) → k ≤ length commands
        → decode_first k (answer_buffer rule choice caps journal lent) ≡ answers_from choice start (take k commands)
    read = read_back rule choice caps journal lent r serves are

-- the register's is a rule of mates
pub register-mates : MateRule register_rule
unfolding register_rule
register-mates = one_duct-mates

-- and its choice of routes serves under that rule
pub register_serves : Serves register_rule register_routes
unfolding register_routes
register_serves = two_routes-serve register_rule register-mates

-- so the claim holds of every run of the register
pub register-whole_run : (caps : Capacities) (journal : List ℕ) → all_bytes journal ≡ true
    → (lent : Buffers)
    → WholeRunClaim
    register_rule
    (accepted_commands (whole_run register_rule register_routes caps journal (length lent.work) (length lent.answers) (length lent.report)))
    (register caps journal lent).buffers.answers
unfolding register
register-whole_run = whole_run_lem register_rule register-mates register_routes register_serves
