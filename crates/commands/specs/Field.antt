-- The fields that commands and answers are made of: numbers, by what they are the numbers of.
use Rattle.std.specs.Prelude.{List, [], ◌∷◌, ◌++◌, ℕ}
use Rattle.commands.specs.Bytes.{two_bytes}

-- The kinds of groups.
pub data Kind : Type 0 where
  district : Kind
  ring : Kind
  mesh : Kind

-- A cabinet, a span, the name of a group of a kind or another number, each in two bytes; or a byte.
pub data Field : Type 0 where
  cabinet : ℕ → Field
  span : ℕ → Field
  name : Kind → ℕ → Field
  number : ℕ → Field
  byte : ℕ → Field

unfoldable pub field_bytes : Field → List ℕ
field_bytes (cabinet n) = two_bytes n
field_bytes (span n) = two_bytes n
field_bytes (name kind n) = two_bytes n
field_bytes (number n) = two_bytes n
field_bytes (byte n) = n ∷ []

-- The bytes of fields, one after another.
unfoldable pub fields_bytes : List Field → List ℕ
fields_bytes [] = []
fields_bytes (f ∷ fs) = field_bytes f ++ fields_bytes fs
