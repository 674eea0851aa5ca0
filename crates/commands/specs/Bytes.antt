-- Numbers as bytes, high byte first.
use Rattle.std.specs.Prelude.{Bool, List, [], ◌∷◌, ◌++◌, ℕ, ◌+◌, ◌*◌, ◌/◌, ◌%◌, ltb}
use Rattle.graph.specs.Lists.{all_in}

-- The number that two bytes give.
unfoldable pub number : ℕ → ℕ → ℕ
number high low = high * 256 + low

-- A number below 65,536 in two bytes.
unfoldable pub two_bytes : ℕ → List ℕ
two_bytes n = n / 256 % 256 ∷ n % 256 ∷ []

-- A number below 4,294,967,296 in four bytes.
unfoldable pub four_bytes : ℕ → List ℕ
four_bytes n = two_bytes (n / 65536) ++ two_bytes n

-- Every number of the list is a byte. (`register_run` has it of its journal, from the type.)
unfoldable pub all_bytes : List ℕ → Bool
all_bytes = all_in (λ b. ltb b 256)
