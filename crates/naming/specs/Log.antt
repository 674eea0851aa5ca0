-- The whole part of the logarithm to base 2, and the highest one bit.
use Rattle.std.specs.Prelude.{Bool, cond, ℕ, zero, suc, ◌/◌, ◌%◌, ◌^◌, eqb, leb}

-- The greatest number up to n that passes the test; 0 where none does.
unfoldable pub greatest : (ℕ → Bool) → ℕ → ℕ
greatest p zero = 0
greatest p (suc n) =
    let lower = greatest p n in
    cond (p (suc n)) (suc n) lower

-- The whole part of log2 k: the highest e for which 2 to the power e is at most k. (For k = 0 there is none, and this gives 0.)
unfoldable pub whole_log2 : ℕ → ℕ
whole_log2 k = greatest (λ e. leb (2 ^ e) k) k

-- The bit of k at this place, counted from 0, is one.
unfoldable pub one_bit : ℕ → ℕ → Bool
one_bit k place = eqb (k / 2 ^ place % 2) 1

-- L(k) of request 1: the place of the highest one bit of k, counted from 0; L(0) is 0. (`highest_bit_is_log2`: the whole part of log2 k.)
unfoldable pub highest_bit : ℕ → ℕ
highest_bit k = greatest (one_bit k) k
