-- The state after commands, one after another, and its book.
use mathlib.Core.List.{List, [], ◌∷◌, map}
use mathlib.Core.Path.{◌≡◌, refl, ◌∙◌}
use Rattle.graph.specs.Network.{Rule, add_vertex, add_edge}
use Rattle.naming.specs.Book.{Addition, vertex, edge, neither, enter_vertex, enter_edge, feed, feed_all}
use Rattle.naming.specs.State.{State, empty_state, after_addition, after_recording}
use Rattle.commands.specs.Command.{Command}
use Rattle.commands.specs.Facts.{addition, after, state_after}
use Rattle.commands.specs.Run.{Accepted}
use Rattle.commands.specs.Entry.{book_after}

-- its book is fed what the commands add
pub book_fed : (s : State) (cs : List Command) → (state_after s cs).book ≡ feed_all s.book (map addition cs)
unfolding state_after after after_addition after_recording feed_all
book_fed s [] = refl
book_fed s (c ∷ later) = book_fed (after s c) later

-- so from an empty network the book after any commands is the naming book fed these
pub book_after_commands : (rule : Rule) (cs : List Command) → (state_after (empty_state rule) cs).book ≡ book_after rule cs
unfolding empty_state book_after
book_after_commands rule cs = book_fed (empty_state rule) cs

-- no command changes the rule of mates
pub rule_after : (s : State) (c : Command) → (after s c).book.network.rule ≡ s.book.network.rule
unfolding after after_addition after_recording feed
rule_after s c = go (addition c)
  where
    go : (a : Addition) → (feed s.book a).network.rule ≡ s.book.network.rule
    go vertex = unfold enter_vertex add_vertex in refl
    go (edge e) = unfold enter_edge add_edge in refl
    go neither = refl

-- nor do several
pub rule_after_commands : (s : State) (cs : List Command) → (state_after s cs).book.network.rule ≡ s.book.network.rule
unfolding state_after
rule_after_commands s [] = refl
rule_after_commands s (c ∷ later) = rule_after_commands (after s c) later ∙ rule_after s c

-- the state after accepted commands
unfoldable pub state_fed : State → List Accepted → State
state_fed s l = state_after s (map (λ a. a.command) l)

-- no commands leave the state as it is
pub fed_none : (s : State) → state_fed s [] ≡ s
unfolding state_fed state_after
fed_none s = refl

-- behind an accepted command it goes on from the state after it
pub fed_more : (s : State) (a : Accepted) (later : List Accepted) → state_fed s (a ∷ later) ≡ state_fed (after s a.command) later
unfolding state_fed state_after
fed_more s a later = refl
