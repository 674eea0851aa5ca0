-- Numbers stored one after another stand over the front of a buffer.
use mathlib.Core.List.{List, [], ◌∷◌}
use mathlib.Core.Path.{◌≡◌, refl}
use Prim.Native.Nat.{ℕ, ◌≤◌}
use native.Mathlib.Omega.{arith}
use lib.ListN.{length, set}
use Rattle.commands.specs.Entry.{over}

-- six of them
pub stored_over : (l : List ℕ) (a b c d e f : ℕ) → 6 ≤ length l
    → set (set (set (set (set (set l 0 a) 1 b) 2 c) 3 d) 4 e) 5 f ≡ over (a ∷ b ∷ c ∷ d ∷ e ∷ f ∷ []) l
unfolding over
stored_over [] a b c d e f h = absurd (omega arith)
stored_over (x₀ ∷ []) a b c d e f h = absurd (omega arith)
stored_over (x₀ ∷ x₁ ∷ []) a b c d e f h = absurd (omega arith)
stored_over (x₀ ∷ x₁ ∷ x₂ ∷ []) a b c d e f h = absurd (omega arith)
stored_over (x₀ ∷ x₁ ∷ x₂ ∷ x₃ ∷ []) a b c d e f h = absurd (omega arith)
stored_over (x₀ ∷ x₁ ∷ x₂ ∷ x₃ ∷ x₄ ∷ []) a b c d e f h = absurd (omega arith)
stored_over (x₀ ∷ x₁ ∷ x₂ ∷ x₃ ∷ x₄ ∷ x₅ ∷ l) a b c d e f h = refl
