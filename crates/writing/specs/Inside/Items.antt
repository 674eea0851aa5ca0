-- The bytes of items that are written one behind another.
use Rattle.std.specs.Prelude.{List, [], ◌++◌, ℕ, zero, suc, ◌≡◌, length, refl}
use Rattle.commands.specs.Bytes.{two_bytes}

-- Those of the first n items, where f gives those of each.
unfoldable pub each_bytes : (ℕ → List ℕ) → ℕ → List ℕ
each_bytes f zero = []
each_bytes f (suc n) = each_bytes f n ++ f n

-- a number takes two
pub length_two_bytes : (n : ℕ) → length (two_bytes n) ≡ 2
unfolding two_bytes
length_two_bytes n = refl
