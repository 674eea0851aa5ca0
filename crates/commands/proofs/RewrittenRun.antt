-- A journal is answered as before once it is rewritten: where a span of 02 has no mate, and where spans of 02 lie in one duct and each span has
-- a duct of its own, the networks are alike after each command.
use mathlib.Core.Bool.{true, not}
use mathlib.Core.List.{List, [], ◌∷◌, map}
use mathlib.Core.Logic.{◌⊎◌, inl, inr}
use mathlib.Core.Option.{Option}
use mathlib.Core.Path.{◌≡◌, refl, ap}
use Prim.Native.Nat.{ℕ, ◌+◌}
use native.Mathlib.Omega.{arith}
use lib.Dec.{eqb}
use Rattle.graph.specs.Lists.{all_in}
use Rattle.graph.specs.Network.{same_duct, one_duct, edge_between, edge_in_duct}
use Rattle.graph.specs.Route.{Choice}
use Rattle.graph.proofs.Truth.{and_left, and_right, ne_eqb}
use Rattle.graph.proofs.Ducts.{same_duct-mates, no_duct_no_mate, one_duct-mates, other_duct_no_mate}
use Rattle.graph.proofs.RoutesImage.{serve_alike}
use Rattle.naming.specs.State.{State, empty_state}
use Rattle.commands.specs.Command.{Command, add_span, add_duct_span, command_byte}
use Rattle.commands.specs.Answer.{answer_bytes}
use Rattle.commands.specs.Facts.{after, facts, addition_of, addition, operands_of, demands_of}
use Rattle.commands.specs.Refusal.{Refusal, refusal_number, Capacities, cabinet_known, span_known, cabinets_known, spans_known, met, cause, meets, full_for, is_full, lines, refusal_of}
use Rattle.commands.specs.Text.{Read, followed_by}
use Rattle.commands.specs.Run.{stop, and_then, accepted_in, run_over, run_text, commands_of}
use Rattle.commands.specs.Ducts.{ductless}
use Rattle.commands.specs.Rewrite.{in_own_duct, rewrite_command, rewrite_from, RunsAlike}
use Rattle.commands.proofs.EachRewritten.{Is02, Unchanged, each_rewritten}
use Rattle.commands.proofs.Spelled.{operand_width, reads_from}
use Rattle.commands.proofs.RunBooks.{Sound}
use Rattle.commands.proofs.Simulated.{Apart, StandsFor, itself, in_duct_lem, spans_after, Paired, states_empty, with_one_more_lem}

-- The first run is under the rule of request 3, and the second under that of request 7, where each span has the duct of its number plus 1.
abbrev own_ducts : Apart
own_ducts =
    record {
      rule = same_duct;
      rule' = one_duct;
      duct_of = λ number. number + 1;
      mates = same_duct-mates;
      mates' = one_duct-mates;
      alone = no_duct_no_mate;
      alone' = λ t n before e f its own. other_duct_no_mate e f (λ same. absurd (omega (arith, before, its, own, same)));
    }

-- two states of these runs, with so many spans
abbrev pub PairedStates : ℕ → State → State → Type 0
PairedStates = Paired own_ducts

-- before the first command
pub paired_empty : PairedStates 0 (empty_state same_duct) (empty_state one_duct)
paired_empty = states_empty own_ducts

-- a span in a duct of its own is refused as a 02 is
refused_as_02 : (caps : Capacities) (s : State) (x y n : ℕ) → refusal_of caps s (add_duct_span x y (n + 1)) ≡ refusal_of caps s (add_span x y)
unfolding refusal_of lines cabinets_known spans_known meets is_full full_for addition addition_of facts operands_of demands_of all_in cabinet_known span_known met cause refusal_number edge_between edge_in_duct
refused_as_02 caps s x y n = rw (ne_eqb (n + 1) 0 (λ e. absurd (omega (arith, e))))

-- so what a command other than 0B is rewritten to stands for it
rewritten_for : (spans : ℕ) (c : Command) → not (eqb (command_byte c) 0x0B) ≡ true → StandsFor own_ducts spans c (rewrite_command spans c)
rewritten_for spans c other = go (each_rewritten c other)
  where
    go : Is02 c ⊎ Unchanged c → StandsFor own_ducts spans c (rewrite_command spans c)
    go (inl w) =
        rw w.is
        (unfold rewrite_command in_own_duct facts edge_between in in_duct_lem refl (λ caps s. refused_as_02 caps s w.from w.to spans))
    go (inr left) = rw (left.as_it_is spans) (itself left.adds_none)

-- Commands without 0B, and the same rewritten, from such states: they are run alike.
pub run_rewritten : (old new : Choice) (caps : Capacities) (place : ℕ) {spans : ℕ} {s s' : State} → PairedStates spans s s' → Sound caps s
    → (rs : List Read) (end : Option Refusal) → ductless (map (λ r. r.command) rs) ≡ true
    → RunsAlike
    spans
    s
    s'
    (run_text old caps s (record { commands = rs; refusal = end }))
    (run_text new caps s' (record { commands = reads_from place (rewrite_from spans (map (λ r. r.command) rs)); refusal = end }))
unfolding ductless all_in rewrite_from reads_from followed_by stop and_then accepted_in commands_of
run_rewritten old new caps place {spans} {s} {s'} p sound [] end free =
    unfold run_text run_over in record { same_commands = refl; same_answers = tt; same_refusal = refl }
run_rewritten old new caps place {spans} {s} {s'} p sound (r ∷ later) end free =
    let this = not (eqb (command_byte r.command) 0x0B) in
    with_one_more_lem p old new caps sound r _ (rewritten_for spans r.command (and_left this _ free)) (record { commands = later; refusal = end }) _
    (RunsAlike spans s s') (λ q. record { same_commands = refl; same_answers = tt; same_refusal = refl })
    (λ answered next still.
    let rest =
    run_rewritten old new caps (place + 1 + operand_width (rewrite_command spans r.command))
    {spans = spans_after spans r.command} {s = after s r.command} {s' = after s' (rewrite_command spans r.command)} next still later end (and_right this _ free) in
    record {
      same_commands = ap (λ l. rewrite_command spans r.command ∷ l) rest.same_commands;
      same_answers = (
        record {
          same_bytes = λ other. ap answer_bytes (answered (λ asks. absurd (other asks)));
          same_pairs = serve_alike p.books.alike.networks;
        },
        rest.same_answers,
      );
      same_refusal = rest.same_refusal;
    })
