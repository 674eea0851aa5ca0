-- The exchanges of a run (request 2) counted in two ways: by the commands that marked them, and ring by ring.
use Rattle.std.specs.Prelude.{cond, List, [], ◌∷◌, ◌≡◌, ℕ, suc, ◌≤◌, eqb, length, take}
use Rattle.graph.specs.Network.{Rule}
use Rattle.graph.specs.Groups.{bridge_block}
use Rattle.naming.specs.State.{State, empty_state, marks_with}
use Rattle.naming.specs.Total.{over_groups}
use Rattle.commands.specs.Command.{Command, command_byte}
use Rattle.commands.specs.Facts.{state_after}

-- How many of the commands are 09.
unfoldable pub mark_commands : List Command → ℕ
mark_commands [] = 0
mark_commands (c ∷ later) =
    let rest = mark_commands later in
    cond (eqb (command_byte c) 0x09) (suc rest) rest

-- The counts of exchanges of all rings added up, each ring counted once.
unfoldable pub exchanges_of_rings : State → ℕ
exchanges_of_rings s = over_groups s.book.network.vertices (bridge_block s.book.network) (marks_with s)

-- The claim about the accepted commands of a run: after each number of them, from none to all, the exchanges of all rings are as many as
-- the commands of 09 among them. (`exchanges_add_up`)
abbrev pub ExchangesAddUp : Rule → List Command → Type 0
ExchangesAddUp rule commands =
    (k : ℕ) → k ≤ length commands
    → exchanges_of_rings (state_after (empty_state rule) (take k commands)) ≡ mark_commands (take k commands)
