-- Journals without ducts (request 3).
use Rattle.std.specs.Prelude.{Bool, not, List, map, ℕ, eqb}
use Rattle.graph.specs.Lists.{all_in}
use Rattle.commands.specs.Command.{Command, command_byte}
use Rattle.commands.specs.Text.{text_of}

-- None of the commands is 0B.
unfoldable pub ductless : List Command → Bool
ductless = all_in (λ c. not (eqb (command_byte c) 0x0B))

-- None of the journal's commands is.
unfoldable pub ductless_journal : List ℕ → Bool
ductless_journal journal = ductless (map (λ r. r.command) (text_of journal).commands)
