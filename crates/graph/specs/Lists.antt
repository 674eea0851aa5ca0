-- Words about lists.
use Rattle.std.specs.Prelude.{Bool, true, false, not, ◌&&◌, ◌||◌, List, [], ◌∷◌, ℕ, eqb}

-- Every element of the list passes the test.
unfoldable pub all_in : {A : Type 0} → (A → Bool) → List A → Bool
all_in f [] = true
all_in f (x ∷ xs) = f x && all_in f xs

-- Number x stands in the list.
unfoldable pub is_in : ℕ → List ℕ → Bool
is_in x [] = false
is_in x (y ∷ ys) = eqb x y || is_in x ys

-- No number stands in the list twice.
unfoldable pub distinct : List ℕ → Bool
distinct [] = true
distinct (x ∷ xs) = not (is_in x xs) && distinct xs

-- Each number of the list comes before all that stand behind it.
unfoldable pub ordered : (ℕ → ℕ → Bool) → List ℕ → Bool
ordered before [] = true
ordered before (x ∷ xs) = all_in (before x) xs && ordered before xs
