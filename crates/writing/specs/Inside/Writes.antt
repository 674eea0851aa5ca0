-- The codes and fields of answers without notices.
use Rattle.std.specs.Prelude.{Option, None, Some, List, ◌∷◌, map, ◌++◌, ℕ, length}
use Rattle.commands.specs.Bytes.{two_bytes}
use Rattle.commands.specs.Field.{span, fields_bytes}
use Rattle.numbers.specs.declared.Edge.{Edge}
use Rattle.writing.specs.Inside.Items.{each_bytes}

-- The number of an edge, if there is one.
abbrev pub number_of : Option Edge → Option ℕ
number_of (Some e) = Some e.0
number_of None = None

-- The answers to 05 and 0E: a byte, and a number if there is one.
unfoldable pub option_bytes : ℕ → Option ℕ → List ℕ
option_bytes code (Some n) = code ∷ 1 ∷ two_bytes n
option_bytes code None = code ∷ 0 ∷ two_bytes 0

-- The answers to 06 and 07: a byte, a count and as many numbers.
unfoldable pub list_bytes : ℕ → (ℕ → ℕ) → ℕ → List ℕ
list_bytes code f count = code ∷ two_bytes count ++ each_bytes (λ i. two_bytes (f i)) count

-- A route in the answer to 0C: the count of its spans, and the spans.
unfoldable pub route_bytes : List ℕ → List ℕ
route_bytes ss = two_bytes (length ss) ++ fields_bytes (map span ss)
