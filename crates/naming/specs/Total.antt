-- Sums: of a number for each item, and of a number for each group.
use Rattle.std.specs.Prelude.{Bool, not, cond, ℕ, zero, suc, ◌+◌}
use Rattle.graph.specs.Below.{any_below}
use Rattle.naming.specs.Rename.{Grouping}

-- The sum of f over the numbers below n.
unfoldable pub total : ℕ → (ℕ → ℕ) → ℕ
total zero f = 0
total (suc n) f = total n f + f n

-- Item x is the first of its group.
unfoldable pub is_first : Grouping → ℕ → Bool
is_first groups x = not (any_below x (groups x))

-- The sum of f over the groups of the items below n, each group counted once, at its first item.
unfoldable pub over_groups : ℕ → Grouping → (ℕ → ℕ) → ℕ
over_groups n groups f = total n (λ x. cond (is_first groups x) (f x) 0)
