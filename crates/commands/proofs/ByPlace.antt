-- Tables by place: what holds of each entry and of what stands beyond them holds at every place.
use mathlib.Core.List.{List, [], ◌∷◌}
use Prim.Native.Nat.{ℕ, zero, suc, ◌≤◌}
use native.Mathlib.Omega.{arith}
use lib.ListN.{length, get_or}

-- It holds of every entry, by its place from 0 on.
abbrev pub Each : {A : Type 0} → (ℕ → A → Type 0) → List A → Type 0
Each P [] = Unit
Each P (x ∷ xs) = P 0 x × Each (λ i. P (suc i)) xs

-- so it is shown entry by entry, one behind another
infixr 60 ◌also◌
pub ◌also◌ : {X Y : Type 0} → X → Y → X × Y
x also y = (x, y)

-- then it holds at every place
pub each_at : {A : Type 0} (P : ℕ → A → Type 0) (xs : List A) (beyond : A) → Each P xs → ((i : ℕ) → length xs ≤ i → P i beyond)
    → (i : ℕ) → P i (get_or xs i beyond)
each_at P [] beyond each b i = b i (omega arith)
each_at P (x ∷ xs) beyond each b zero = each.0
each_at P (x ∷ xs) beyond each b (suc i) = each_at (λ j. P (suc j)) xs beyond each.1 (λ j h. b (suc j) (omega arith)) i
