-- Demand 2 of the answers, and what those about sizes, exchanges, routes and lengths say, at every point of every run; and that the two
-- routes which the answer buffer holds on return for a 0C serve.
use mathlib.Core.Bool.{true}
use mathlib.Core.List.{List, [], ◌∷◌}
use mathlib.Core.Option.{none, some}
use mathlib.Core.Path.{◌≡◌, sym, ◌∙◌, ap, subst}
use Prim.Native.Nat.{ℕ, zero, suc}
use native.Mathlib.Nat.{le_refl}
use lib.ListN.{length, take, get_elem?}
use lib.Seq.{take-length}
use Rattle.graph.specs.Network.{Rule, MateRule}
use Rattle.graph.specs.Route.{Choice, Serves, serve}
use Rattle.naming.specs.Book.{empty_book}
use Rattle.naming.specs.State.{State, empty_state}
use Rattle.commands.specs.Bytes.{all_bytes}
use Rattle.commands.specs.Command.{Command, routes_between}
use Rattle.commands.specs.Answer.{plain, routes_are}
use Rattle.commands.specs.Refusal.{Capacities, refusal_of}
use Rattle.commands.specs.Facts.{after, routes_answer, answer, state_after}
use Rattle.commands.specs.Entry.{whole_run, accepted_commands, book_after, Buffers, entry_under}
use Rattle.commands.specs.Register.{register_rule, register_routes, register}
use Rattle.commands.specs.Decode.{decode_first}
use Rattle.commands.proofs.Cases.{impossible}
use Rattle.commands.proofs.StateAfter.{book_after_commands, rule_after_commands}
use Rattle.commands.proofs.RunBooks.{NoneRefused, whole_run_not_refused, whole_run_sound}
use Rattle.commands.proofs.Routes.{routes_asked}
use Rattle.commands.proofs.WholeRun.{register-mates, register_serves}
use Rattle.commands.proofs.AnswersTell.{AnswersTell, answers_tell}
use Rattle.commands.proofs.ReadBack.{accepted, answer_buffer, read_back, answer_at}

-- Every run, with the answer buffer on return.
module _ (rule : Rule) (r : MateRule rule) (choice : Choice) (serves : Serves rule choice) (caps : Capacities) (journal : List ℕ) (lent : Buffers) where
  -- after every number of the accepted commands the answers say so of the network then
  pub run_answers_tell : (k : ℕ) → AnswersTell choice (state_after (empty_state rule) (take k (accepted rule choice caps journal lent)))
  run_answers_tell k =
      answers_tell
      choice
      (state_after (empty_state rule) (take k (accepted rule choice caps journal lent)))
      (whole_run_sound rule choice caps journal (length lent.work) (length lent.answers) (length lent.report) r k).laws
      (unfold empty_state empty_book in (subst (λ own. Serves own choice) (sym (rule_after_commands (empty_state rule) _)) serves))

  -- and the answers that the buffer holds are those: answer i is to command i from the state after the commands before it
  pub answer_in_buffer : all_bytes journal ≡ true → (i : ℕ) (c : Command) → get_elem? (accepted rule choice caps journal lent) i ≡ some c
      → get_elem? (decode_first (length (accepted rule choice caps journal lent)) (answer_buffer rule choice caps journal lent)) i
      ≡ some (answer choice (state_after (empty_state rule) (take i (accepted rule choice caps journal lent))) c)
  answer_in_buffer are i c e =
      let cs = accepted rule choice caps journal lent in
      rw (read_back rule choice caps journal lent r serves are (length cs) (le_refl _), take-length cs) (answer_at choice (empty_state rule) cs i c e)

-- of commands none of which is refused, each is not refused in the state after those before it
not_refused_at : (caps : Capacities) (s : State) (cs : List Command) → NoneRefused caps s cs
    → (i : ℕ) (c : Command) → get_elem? cs i ≡ some c → refusal_of caps (state_after s (take i cs)) c ≡ none
unfolding state_after
not_refused_at caps s [] n i c e = impossible (cc)
not_refused_at caps s (d ∷ later) n zero c e =
    let same : d ≡ c = cc in
    subst (λ x. refusal_of caps s x ≡ none) same n.0
not_refused_at caps s (d ∷ later) n (suc i) c e = not_refused_at caps (after s d) later n.1 i c e

-- Answer i that the buffer holds is two routes, and they serve a and b in the network after the first i of the commands.
pub record RoutesAt (rule : Rule) (commands : List Command) (buffer : List ℕ) (i a b : ℕ) : Type 0 where
  pub first : List ℕ
  pub second : List ℕ
  pub answer_is : get_elem? (decode_first (length commands) buffer) i ≡ some (plain (routes_are first second))
  pub they_serve : serve (book_after rule (take i commands)).network a b (record { first = first; second = second }) ≡ true

-- So it is for each 0C of the commands, counted from 0.
abbrev pub RoutesServe : Rule → List Command → List ℕ → Type 0
RoutesServe rule commands buffer = (i a b : ℕ) → get_elem? commands i ≡ some (routes_between a b) → RoutesAt rule commands buffer i a b

-- whichever routes a run is given, those that the answer buffer holds on return serve
pub routes_in_buffer_serve : (rule : Rule) → MateRule rule → (choice : Choice) → Serves rule choice
    → (caps : Capacities) (journal : List ℕ) → all_bytes journal ≡ true
    → (lent : Buffers)
    → RoutesServe
    rule
    (accepted_commands (whole_run rule choice caps journal (length lent.work) (length lent.answers) (length lent.report)))
    (entry_under rule choice caps journal lent).buffers.answers
unfolding routes_answer
routes_in_buffer_serve rule r choice serves caps journal are lent i a b e =
    let commands = accepted rule choice caps journal lent in
    let s = state_after (empty_state rule) (take i commands) in
    let tell = run_answers_tell rule r choice serves caps journal lent i in
    let not_refused = whole_run_not_refused rule choice caps journal (length lent.work) (length lent.answers) (length lent.report) in
    let asked = routes_asked caps s a b (not_refused_at caps (empty_state rule) commands not_refused i (routes_between a b) e) in
    record {
      first = (choice s.book.network a b).first;
      second = (choice s.book.network a b).second;
      answer_is = answer_in_buffer rule r choice serves caps journal lent are i (routes_between a b) e ∙ ap some (tell.routes a b);
      they_serve = rw (← book_after_commands rule (take i commands)) (tell.routes_serve a b asked _ _ (tell.routes a b));
    }

-- so do those that the register gives
pub register_routes-serve : (caps : Capacities) (journal : List ℕ) → all_bytes journal ≡ true
    → (lent : Buffers)
    → RoutesServe
    register_rule
    (accepted_commands (whole_run register_rule register_routes caps journal (length lent.work) (length lent.answers) (length lent.report)))
    (register caps journal lent).buffers.answers
unfolding register
register_routes-serve = routes_in_buffer_serve register_rule register-mates register_routes register_serves
