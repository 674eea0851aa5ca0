-- The answers that a planner reads from the answer buffer on return are the definition's answers to the accepted commands.
use mathlib.Core.Bool.{true}
use mathlib.Core.List.{List, [], ◌∷◌, ◌++◌, map}
use mathlib.Core.Logic.{◌⊎◌, inl, inr}
use mathlib.Core.Option.{some}
use mathlib.Core.Path.{◌≡◌, refl, ◌∙◌, ap}
use Prim.Native.Nat.{ℕ, zero, suc, ◌≤◌}
use lib.ListN.{length, take, drop, get_elem?, length-map}
use Rattle.graph.specs.Network.{Rule, MateRule}
use Rattle.graph.specs.Route.{Choice, Serves}
use Rattle.naming.specs.Book.{empty_book}
use Rattle.naming.specs.State.{State, empty_state}
use Rattle.commands.specs.Bytes.{all_bytes}
use Rattle.commands.specs.Command.{Command}
use Rattle.commands.specs.Refusal.{Refusal, Capacities}
use Rattle.commands.specs.Facts.{after, answer, state_after}
use Rattle.commands.specs.Run.{Accepted, commands_of, bytes_of_answers}
use Rattle.commands.specs.Entry.{refused_at_start, accepted_commands, over, Buffers, outcome, entry_under}
use Rattle.commands.specs.Decode.{decode_first}
use Rattle.commands.proofs.Start.{good_exactly, ran_exactly, refused_or_ran}
use Rattle.commands.proofs.Returned.{whole, within, WellStarted}
use Rattle.commands.proofs.Cases.{impossible}
use Rattle.commands.proofs.Decode.{AllFit, decode_first_lem}
use Rattle.commands.proofs.NameList.{answers_from, first_answers}
use Rattle.commands.proofs.RunBooks.{empty_sound, Answered, run_answered, answers_of_run}
use Rattle.commands.proofs.ReadFits.{run_fits}
use Rattle.commands.proofs.Surveys.{empty_metres_fit}
use Rattle.commands.proofs.AnswersFit.{all_answers_fit}

-- there are as many answers as commands
pub length_answers : (choice : Choice) (s : State) (cs : List Command) → length (answers_from choice s cs) ≡ length cs
unfolding answers_from
length_answers choice s [] = refl
length_answers choice s (c ∷ later) = ap suc (length_answers choice (after s c) later)

-- each answer is the answer to its command from the state after those before it
pub answer_at : (choice : Choice) (s : State) (cs : List Command) (i : ℕ) (c : Command) → get_elem? cs i ≡ some c
    → get_elem? (answers_from choice s cs) i ≡ some (answer choice (state_after s (take i cs)) c)
unfolding answers_from state_after
answer_at choice s [] i c e = impossible (cc)
answer_at choice s (d ∷ later) zero c e = cc
answer_at choice s (d ∷ later) (suc i) c e = answer_at choice (after s d) later i c e

-- commands that were accepted one after another, with answers that fit: their answers are read back, whatever follows the bytes
read_accepted : (choice : Choice) (caps : Capacities) (s : State) (l : List Accepted) → Answered choice caps s l → AllFit l → (rest : List ℕ)
    → (k : ℕ) → k ≤ length (map (λ a. a.command) l)
    → decode_first k (bytes_of_answers l ++ rest) ≡ answers_from choice s (take k (map (λ a. a.command) l))
read_accepted choice caps s l w fit rest k h =
    decode_first_lem l fit k (rw length-map at h) rest
    ∙ ap (take k) (answers_of_run choice caps s l w)
    ∙ first_answers choice k s (map (λ a. a.command) l)

module _ (rule : Rule) (choice : Choice) (caps : Capacities) (journal : List ℕ) (lent : Buffers) where
  -- the accepted commands of the run
  abbrev pub accepted : List Command
  accepted = accepted_commands (whole rule choice caps journal lent)

  -- the answer buffer on return
  abbrev pub answer_buffer : List ℕ
  answer_buffer = (entry_under rule choice caps journal lent).buffers.answers

  -- the first k answers that the buffer holds are those to the first k commands
  pub read_back : MateRule rule → Serves rule choice → all_bytes journal ≡ true → (k : ℕ) → k ≤ length accepted
      → decode_first k answer_buffer ≡ answers_from choice (empty_state rule) (take k accepted)
  unfolding entry_under outcome over accepted_commands commands_of bytes_of_answers
  read_back r serves are k h = go (refused_or_ran rule choice caps journal (length lent.work) (length lent.answers) (length lent.report)) h
    where
      start : State
      start = empty_state rule

      taken : List Accepted
      taken = (within rule choice caps journal lent).accepted

      go : ((refusal : Refusal) × (whole rule choice caps journal lent ≡ refused_at_start refusal)) ⊎ WellStarted rule choice caps journal lent
          → k ≤ length accepted
          → decode_first k (outcome rule caps lent (whole rule choice caps journal lent)).buffers.answers
          ≡ answers_from choice start (take k accepted)
      go (inl (refusal, e)) h = rw e (read_accepted choice caps start [] tt tt lent.answers k (rw e at h))
      go (inr well) h =
          let w = run_answered (length lent.answers) choice caps start journal in
          let range = (good_exactly caps).0 well.good_capacities_lem in
          let read = run_fits (length lent.answers) choice caps start journal are in
          let fit = all_answers_fit choice caps range start taken (empty_sound caps rule r) (unfold empty_state empty_book in serves) (empty_metres_fit rule) read w in
          let runs = (ran_exactly rule choice caps journal (length lent.work) (length lent.answers) (length lent.report)).1 well in
          rw runs (read_accepted choice caps start taken w fit (drop (length (bytes_of_answers taken)) lent.answers) k (rw runs at h))
