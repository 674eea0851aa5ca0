-- The run in code: how far it has come, what it will come to, and what each command does to it. With answers it comes to what it leaves behind.
use Rattle.std.specs.Prelude.{Option, None, Some, Result, Ok, Err, List, [], ◌∷◌, ◌++◌, map, ◌≡◌, ℕ, ◌+◌, ◌-◌, ◌≤◌, ◌<◌, length, take, drop, get_or}
use Rattle.graph.specs.Network.{Network, edge_count}
use Rattle.naming.specs.Book.{feed_all}
use Rattle.naming.specs.State.{State}
use Rattle.commands.specs.Command.{Reading, command, read_command}
use Rattle.commands.specs.Answer.{answer_bytes}
use Rattle.commands.specs.Facts.{addition}
use Rattle.commands.specs.Text.{text_from}
use Rattle.commands.specs.Run.{Run, run_within, commands_of, bytes_of_answers, place_after}
use Rattle.commands.specs.Entry.{over, number_of}
use Rattle.commands.specs.Register.{register_routes}
use Rattle.numbers.specs.declared.Shape.{Shape}
use Rattle.refusals.specs.declared.Refusal.{Refusal}
use Rattle.refusals.specs.declared.Refusal.TheVariants as R
use Rattle.forest.specs.Promise.{state_of}
use Rattle.reading.specs.declared.read.Order.{Order}
use Rattle.reading.specs.Inside.Reads.{meaning}
use Rattle.step.specs.declared.Reply.{Reply}
use Rattle.step.specs.Promise.{capacities_of, reply_answer, reply_size, ReplyFits}
use Rattle.run.specs.declared.Pace.{Pace}
use Rattle.run.specs.declared.Progress.{Progress}
use Rattle.run.specs.Promise.{six_numbers}

-- The progress of a run that has come so far in its journal, with a network of this size: one that goes on, and one that has ended.
abbrev pub ended : Shape → Pace → Option Refusal → Progress
ended shape pace refusal =
    record { shape = shape; place = pace.place; commands = pace.commands; written = pace.written; refusal = refusal }

abbrev pub going : Shape → Pace → Progress
going shape pace = ended shape pace None

abbrev pub at_start : Shape → Progress
at_start shape = going shape (record { place = 0; commands = 0; written = 0 })

-- The run ended by a refusal.
abbrev pub refused_progress : Progress → Refusal → Progress
refused_progress p refusal =
    record { shape = p.shape; place = p.place; commands = p.commands; written = p.written; refusal = Some refusal }

-- The run one command further: the network's new size, the place of the next command, and the bytes of all answers with this one's.
abbrev pub one_further : Progress → Shape → ℕ → ℕ → Progress
one_further p next place written =
    record { shape = next; place = place; commands = p.commands + 1; written = written; refusal = None }

-- So it is if the reply is taken; a refusal stays one.
abbrev pub further : Progress → Shape → ℕ → Result ℕ Refusal → Result Progress Refusal
further p next place (Ok written) = Ok (one_further p next place written)
further p next place (Err refusal) = Err refusal

-- What becomes of a run with a network of this size, where that is how far it comes.
abbrev pub comes_to : Shape → Result Pace Refusal → Result Progress Refusal
comes_to shape (Ok pace) = Ok (going shape pace)
comes_to shape (Err refusal) = Err refusal

-- The answer buffer with more bytes behind those that are written.
unfoldable pub written_behind : ℕ → List ℕ → List ℕ → List ℕ
written_behind written bytes answers = take written answers ++ over bytes (drop written answers)

-- What is left of a run: the run of the rest of the journal, from the state that the table holds, with the room that is left.
unfoldable pub left_of : Progress → List ℕ → ℕ → List ℕ → Run
left_of p journal room t =
    run_within
    (room - p.written)
    register_routes
    (capacities_of p.shape.limits)
    (state_of p.shape t)
    (text_from p.place 0 (drop p.place journal))

-- A state's network, with what the accepted commands of a run add to it.
abbrev pub network_after : State → Run → Network
network_after s run = (feed_all s.book (map addition (commands_of run))).network

-- What a run leaves behind: the six numbers of the report, and the answer buffer.
pub record Behind : Type 0 where
  pub numbers : List ℕ
  pub answers : List ℕ

-- A run that ends here leaves this behind.
unfoldable pub leaves : Progress → List ℕ → Behind
leaves p answers = record { numbers = six_numbers p; answers = answers }

-- The six numbers of one that takes this course from here on.
unfoldable pub numbers_after : Progress → List ℕ → Run → List ℕ
numbers_after p t rest =
    number_of rest.refusal
    ∷ (p.place + place_after rest.accepted)
    ∷ (p.commands + length rest.accepted)
    ∷ (p.written + length (bytes_of_answers rest.accepted))
    ∷ (network_after (state_of p.shape t) rest).vertices
    ∷ edge_count (network_after (state_of p.shape t) rest)
    ∷ []

-- And what it leaves behind.
unfoldable pub leaves_after : Progress → List ℕ → List ℕ → Run → Behind
leaves_after p t answers rest =
    record { numbers = numbers_after p t rest; answers = written_behind p.written (bytes_of_answers rest.accepted) answers }

-- What the run will leave behind, where it takes the course that the definition gives it.
abbrev pub will_leave : Progress → List ℕ → List ℕ → List ℕ → Behind
will_leave p journal t answers = leaves_after p t answers (left_of p journal (length answers) t)

-- An account of what a run comes to: one that ends here, with this answer buffer; and one that takes the course that the definition gives it,
-- over this journal, from this table and this answer buffer. And what must hold of the bytes that are counted, for the run to go on.
pub record Account (E : Type 0) : Type 1 where
  pub here : Progress → List ℕ → E
  pub later : Progress → List ℕ → List ℕ → List ℕ → E
  pub Fits : Progress → List ℕ → List ℕ → List ℕ → Type 0

-- That of the run with answers is what it leaves behind. The answers written so far stand in the buffer.
abbrev pub with_answers : Account Behind
with_answers = record { here = leaves; later = will_leave; Fits = λ p journal t answers. p.written ≤ length answers }

-- A run that can go on, by an account: the bytes that are counted fit, and no more commands are counted than bytes were read.
pub record Going {E : Type 0} (account : Account E) (p : Progress) (journal t answers : List ℕ) : Type 0 where
  pub written_fits : account.Fits p journal t answers
  pub counted : p.commands ≤ p.place

-- A run that is at a command of the journal.
pub record Underway {E : Type 0} (account : Account E) (p : Progress) (journal t answers : List ℕ) : Type 0 where
  pub going : Going account p journal t answers
  pub at_command : p.place < length journal
  pub short : length journal ≤ 65536

-- What stands at the run's place.
abbrev pub read_here : Progress → List ℕ → Reading
read_here p journal = read_command (get_or journal p.place 0) (drop (p.place + 1) journal)

-- A run at whose place this order stands, with so many bytes of operands.
pub record Ready
    {E : Type 0} (account : Account E) (p : Progress) (order : Order) (width : ℕ) (journal t answers : List ℕ) : Type 0 where
  pub underway : Underway account p journal t answers
  pub reads : read_here p journal ≡ command (meaning order) width

-- A reply can be answered: its notices can be counted, and what is written stands in the buffer.
pub record Answerable (written : ℕ) (reply : Reply) (answers : List ℕ) : Type 0 where
  pub fits : ReplyFits reply
  pub written_fits : written ≤ length answers

-- What becomes of a reply: its bytes stand behind those written before, and are counted with them;
pub record IsAnswered (written : ℕ) (t : List ℕ) (next : Shape) (reply : Reply) (old new : List ℕ) (all : ℕ) : Type 0 where
  pub room : reply_size reply ≤ length old - written
  pub stands : new ≡ written_behind written (answer_bytes (reply_answer next t reply)) old
  pub counted : all ≡ written + reply_size reply

-- or there is no room for it.
pub record WithoutRoom (written : ℕ) (reply : Reply) (old new : List ℕ) (refusal : Refusal) : Type 0 where
  pub short : length old - written < reply_size reply
  pub untouched : new ≡ old
  pub no_room : refusal ≡ R.NoRoom

abbrev pub Answered : ℕ → List ℕ → Shape → Reply → List ℕ → List ℕ → Result ℕ Refusal → Type 0
Answered written t next reply old new (Ok all) = IsAnswered written t next reply old new all
Answered written t next reply old new (Err refusal) = WithoutRoom written reply old new refusal

-- A run that has come so far with a table and an answer buffer, can go on, and is to come to this end.
pub record SoFar {E : Type 0} (account : Account E) (end : E) (p : Progress) (journal t answers : List ℕ) : Type 0 where
  pub going : Going account p journal t answers
  pub will : account.later p journal t answers ≡ end

-- The run is a command further, and is to come to what it was to come to before.
pub record OneOn {E : Type 0} (account : Account E) (p p' : Progress) (journal old new old_answers new_answers : List ℕ) : Type 0 where
  pub so_far : SoFar account (account.later p journal old old_answers) p' journal new new_answers
  pub is_further : p.place < p'.place

-- What a command does to a run: so it is, or it is refused, and has come to that.
abbrev pub GoesOn : {E : Type 0} → Account E → Progress → List ℕ → List ℕ → List ℕ → List ℕ → List ℕ → Result Progress Refusal → Type 0
GoesOn account p journal old new old_answers new_answers (Ok p') = OneOn account p p' journal old new old_answers new_answers
GoesOn account p journal old new old_answers new_answers (Err refusal) =
    account.here (refused_progress p refusal) new_answers ≡ account.later p journal old old_answers
