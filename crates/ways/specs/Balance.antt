-- Balance: how many used edges leave a set of vertices more than enter it.
use Rattle.std.specs.Prelude.{Bool, true, false, not, cond, ◌&&◌, List, [], ◌∷◌, ◌≡◌, ℕ, ◌+◌, ◌-◌}
use Rattle.graph.specs.Below.{count}
use Rattle.graph.specs.Network.{Network, Loss, edge, edge_count, other_end, mates, nothing}
use Rattle.ways.specs.Used.{Used, is_used}

-- A set of vertices.
abbrev pub Set : Type 0
Set = ℕ → Bool

-- 1 for a vertex of the set, 0 for another.
unfoldable pub inside : Set → ℕ → ℕ
inside set x = cond (set x) 1 0

-- The vertex from which edge s is used, and the one to which.
unfoldable pub used_from : Used → ℕ → ℕ
used_from u s = u s - 1

unfoldable pub used_to : Network → Used → ℕ → ℕ
used_to g u s = other_end (edge g s) (used_from u s)

-- Edge s is used and leaves the set, or enters it.
unfoldable pub leaves : Network → Used → Set → ℕ → Bool
leaves g u set s = is_used u s && set (used_from u s) && not (set (used_to g u s))

unfoldable pub enters : Network → Used → Set → ℕ → Bool
enters g u set s = is_used u s && not (set (used_from u s)) && set (used_to g u s)

-- How many leave it, and how many enter it.
unfoldable pub leaving : Network → Used → Set → ℕ
leaving g u set = count (edge_count g) (leaves g u set)

unfoldable pub entering : Network → Used → Set → ℕ
entering g u set = count (edge_count g) (enters g u set)

-- The edges in use carry k ways from a to b: of every set with a and without b, k more leave than enter.
abbrev pub Balanced : Network → Used → ℕ → ℕ → ℕ → Type 0
Balanced g u a b k = (set : Set) → set a ≡ true → set b ≡ false → leaving g u set ≡ entering g u set + k

-- A move from x to y: for every set what leaves less what enters grows by 1 where x alone is in it, and falls by 1 where y alone is.
abbrev pub Move : Network → Used → Used → ℕ → ℕ → Type 0
Move g u u' x y =
    (set : Set) → leaving g u' set + entering g u set + inside set y ≡ leaving g u set + entering g u' set + inside set x

-- The loss of edges, each with its mates.
unfoldable pub loss_of_all : Network → List ℕ → Loss
loss_of_all g [] = nothing
loss_of_all g (s ∷ ss) = λ t. cond (mates g s t) true (loss_of_all g ss t)
