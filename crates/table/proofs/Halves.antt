-- Two numbers below 65,536 kept in one word.
use Rattle.std.proofs.Common.{◌≡◌, ℕ, ◌+◌, ◌*◌, ◌/◌, ◌%◌, ◌<◌, mod-eq_of_lt}
use lib.Arith.{digits_div, digits_mod}

-- the upper half
pub high_half : (a b : ℕ) → a < 65536 → b < 65536 → (a % 65536 * 65536 + b % 65536) / 65536 ≡ a
high_half a b h k = rw (mod-eq_of_lt h, mod-eq_of_lt k) (digits_div a k)

-- the lower half
pub low_half : (a b : ℕ) → a < 65536 → b < 65536 → (a % 65536 * 65536 + b % 65536) % 65536 ≡ b
low_half a b h k = rw (mod-eq_of_lt h, mod-eq_of_lt k) (digits_mod a k)
