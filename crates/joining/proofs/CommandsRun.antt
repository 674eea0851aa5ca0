-- Runs over commands alone, one list after another: which refusal they meet first, and what they are answered, whatever the places of the
-- commands and, for the refusal, whatever routes are chosen.
use mathlib.Core.List.{List, [], ◌∷◌, ◌++◌, map}
use mathlib.Core.Option.{Option, none, some}
use mathlib.Core.Path.{◌≡◌, refl, sym, ◌∙◌, ap}
use Rattle.graph.specs.Route.{Choice}
use Rattle.naming.specs.State.{State}
use Rattle.commands.specs.Command.{Command}
use Rattle.commands.specs.Answer.{Answer}
use Rattle.commands.specs.Facts.{after, state_after, answer}
use Rattle.commands.specs.Refusal.{Refusal, Capacities, refusal_of}
use Rattle.commands.specs.Text.{Read, Text}
use Rattle.commands.specs.Run.{Run, stop, and_then, accepted_in, run_over, run_text, commands_of}
use Rattle.commands.proofs.Cases.{impossible}
use Rattle.commands.proofs.NameList.{answers_from}
use Rattle.commands.proofs.RunBooks.{NoneRefused}

-- The first refusal, or else the second.
unfoldable pub or_else : Option Refusal → Option Refusal → Option Refusal
or_else (some r) second = some r
or_else none second = second

-- What ends the run of a list of commands: the first refusal that one of them meets, and what ends the list where none does.
unfoldable pub refusal_in : Capacities → State → List Command → Option Refusal → Option Refusal
refusal_in caps s [] end = end
refusal_in caps s (c ∷ later) end = or_else (refusal_of caps s c) (refusal_in caps (after s c) later end)

module _ (caps : Capacities) where
  -- the run over commands that were read is refused so, under every choice of routes
  pub run_refusal : (choice : Choice) (s : State) (l : List Read) (end : Option Refusal)
      → (run_over choice caps s l end).refusal ≡ refusal_in caps s (map (λ r. r.command) l) end
  unfolding run_over refusal_in or_else stop and_then
  run_refusal choice s [] end = refl
  run_refusal choice s (r ∷ later) end = go (refusal_of caps s r.command) (run_refusal choice (after s r.command) later end)
    where
      go : (o : Option Refusal) → (run_over choice caps (after s r.command) later end).refusal
          ≡ refusal_in caps (after s r.command) (map (λ r. r.command) later) end
          → (elim o as (λ x. Run)
          [ some cause ↦ stop cause | none ↦ and_then (accepted_in choice s r) (run_over choice caps (after s r.command) later end) ]).refusal
          ≡ or_else o (refusal_in caps (after s r.command) (map (λ r. r.command) later) end)
      go (some q) ih = refl
      go none ih = ih

  -- where the first of them is not refused, the others decide
  pub refusal_goes_on : (s : State) (c : Command) (later : List Command) (end : Option Refusal) → refusal_of caps s c ≡ none
      → refusal_in caps s (c ∷ later) end ≡ refusal_in caps (after s c) later end
  unfolding refusal_in or_else
  refusal_goes_on s c later end e = ap (λ o. or_else o (refusal_in caps (after s c) later end)) e

  -- where it is, that is all
  pub refusal_at_once : (s : State) (c : Command) (later : List Command) (end : Option Refusal) (r : Refusal) → refusal_of caps s c ≡ some r
      → refusal_in caps s (c ∷ later) end ≡ some r
  unfolding refusal_in or_else
  refusal_at_once s c later end r e = ap (λ o. or_else o (refusal_in caps (after s c) later end)) e

  -- commands one list after another
  pub refusal_behind : (s : State) (cs ds : List Command) (end : Option Refusal)
      → refusal_in caps s (cs ++ ds) end ≡ or_else (refusal_in caps s cs none) (refusal_in caps (state_after s cs) ds end)
  unfolding refusal_in state_after or_else
  refusal_behind s [] ds end = refl
  refusal_behind s (c ∷ cs) ds end =
      ap (or_else (refusal_of caps s c)) (refusal_behind (after s c) cs ds end) ∙ both (refusal_of caps s c) (refusal_in caps (after s c) cs none) _
    where
      both : (o p q : Option Refusal) → or_else o (or_else p q) ≡ or_else (or_else o p) q
      both (some r) p q = refl
      both none p q = refl

  -- where nothing is refused, no command is, and nothing ends the list
  pub none_in : (s : State) (cs : List Command) (end : Option Refusal) → refusal_in caps s cs end ≡ none → NoneRefused caps s cs × (end ≡ none)
  none_in s [] end e = (tt, unfold refusal_in in e)
  none_in s (c ∷ cs) end e = go (refusal_of caps s c) refl (none_in (after s c) cs end)
    where
      go : (o : Option Refusal) → refusal_of caps s c ≡ o → (refusal_in caps (after s c) cs end ≡ none → NoneRefused caps (after s c) cs × (end ≡ none))
          → ((refusal_of caps s c ≡ none) × NoneRefused caps (after s c) cs) × (end ≡ none)
      go (some r) d ih = let no = sym (refusal_at_once s c cs end r d) ∙ e in impossible (cc)
      go none d ih = let rest = ih (sym (refusal_goes_on s c cs end d) ∙ e) in ((d, rest.0), rest.1)

  -- and all commands that were read are accepted
  accepted_all : (choice : Choice) (s : State) (l : List Read) (end : Option Refusal) → NoneRefused caps s (map (λ r. r.command) l)
      → map (λ a. a.command) (run_over choice caps s l end).accepted ≡ map (λ r. r.command) l
  unfolding run_over and_then accepted_in
  accepted_all choice s [] end n = refl
  accepted_all choice s (r ∷ later) end n =
      ap (λ o. map (λ a. a.command) (next o).accepted) n.0
      ∙ ap (λ (cs : List Command). r.command ∷ cs) (accepted_all choice (after s r.command) later end n.1)
    where
      next : Option Refusal → Run
      next o = elim o as (λ x. Run) [ some cause ↦ stop cause | none ↦ and_then (accepted_in choice s r) (run_over choice caps (after s r.command) later end) ]

  -- So where the run of a text ends without a refusal, none of its commands is refused, and it was read to its end;
  pub none_refused : (choice : Choice) (s : State) (t : Text) → (run_text choice caps s t).refusal ≡ none
      → NoneRefused caps s (map (λ r. r.command) t.commands) × (t.refusal ≡ none)
  unfolding run_text
  none_refused choice s t e =
      none_in s (map (λ r. r.command) t.commands) t.refusal (sym (run_refusal choice s t.commands t.refusal) ∙ e)

  -- and all of them are accepted.
  pub takes_all : (choice : Choice) (s : State) (t : Text) → (run_text choice caps s t).refusal ≡ none
      → commands_of (run_text choice caps s t) ≡ map (λ r. r.command) t.commands
  unfolding commands_of run_text
  takes_all choice s t e = accepted_all choice s t.commands t.refusal (none_refused choice s t e).0

-- answers to commands one list after another
pub answers_behind_lem : (choice : Choice) (s : State) (cs ds : List Command)
    → answers_from choice s (cs ++ ds) ≡ answers_from choice s cs ++ answers_from choice (state_after s cs) ds
unfolding answers_from state_after
answers_behind_lem choice s [] ds = refl
answers_behind_lem choice s (c ∷ cs) ds = ap (λ (l : List Answer). answer choice s c ∷ l) (answers_behind_lem choice (after s c) cs ds)
