-- The bytes of numbers that are stored one behind another.
use Rattle.std.specs.Prelude.{List, [], ◌∷◌, ◌++◌, ℕ}
use Rattle.commands.specs.Bytes.{two_bytes}

-- Those of each, in order.
abbrev pub number_bytes : List ℕ → List ℕ
number_bytes [] = []
number_bytes (x ∷ numbers) = two_bytes x ++ number_bytes numbers
