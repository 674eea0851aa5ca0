-- Edges in use: which are used and in which direction, which steps one way more may take, and what becomes of it when a way is taken.
use Rattle.std.specs.Prelude.{Bool, true, false, not, cond, ◌&&◌, ◌||◌, List, [], ◌∷◌, ◌≡◌, ◌⊎◌, ℕ, suc, ◌<◌, eqb}
use Rattle.graph.specs.Below.{any_below}
use Rattle.graph.specs.Network.{Network, edge, edge_count, touches, other_end, mates}
use Rattle.graph.specs.Cycle.{Step}
use Rattle.ways.specs.Search.{Allowed}

-- For each edge 0 if it is not used, or 1 + the end from which it is.
abbrev pub Used : Type 0
Used = ℕ → ℕ

unfoldable pub unused : Used
unused s = 0

unfoldable pub is_used : Used → ℕ → Bool
is_used u s = not (eqb (u s) 0)

-- Edge s is used, or a mate of it.
unfoldable pub mate_used : Network → Used → ℕ → Bool
mate_used g u s = any_below (edge_count g) (λ t. mates g s t && is_used u t)

-- One way more may go along an edge of which no mate is used, or back along one that is.
unfoldable pub one_more : Network → Used → Allowed
one_more g u s x = not (mate_used g u s) || eqb (u s) (suc (other_end (edge g s) x))

-- Along used edges, in the direction in which they are used.
unfoldable pub along_used : Used → Allowed
along_used u s x = eqb (u s) (suc x)

-- A step from vertex x along edge s is taken: an edge that was not used is used from x, and one that was used is so no longer.
unfoldable pub step_taken : Used → ℕ → ℕ → Used
step_taken u x s =
    let changed = cond (eqb (u s) 0) (suc x) 0 in
    λ t. cond (eqb t s) changed (u t)

-- The steps of a way from vertex x are taken.
unfoldable pub way_taken : Used → ℕ → List Step → Used
way_taken u x [] = u
way_taken u x (p ∷ ps) = way_taken (step_taken u x p.along) p.to ps

-- What holds of the edges in use: they are edges of the network, used from one of their ends, and no two of them are mates.
pub record Usable (g : Network) (u : Used) : Type 0 where
  pub known : (s : ℕ) → is_used u s ≡ true → s < edge_count g
  pub from_an_end : (s : ℕ) → is_used u s ≡ true → (u s ≡ suc (edge g s).left) ⊎ (u s ≡ suc (edge g s).right)
  pub no_mates : (s t : ℕ) → is_used u s ≡ true → is_used u t ≡ true → mates g s t ≡ true → s ≡ t

-- A step from vertex x along edge s fits what is used: x is an end of s, and s is used or no mate of it is.
pub record StepFits (g : Network) (u : Used) (x s : ℕ) : Type 0 where
  pub known : s < edge_count g
  pub at_end : touches (edge g s) x ≡ true
  pub used_or_free : (is_used u s ≡ true) ⊎ (mate_used g u s ≡ false)

-- The steps of a way from vertex x fit, each when those before it are taken.
pub data WayFits (g : Network) : Used → ℕ → List Step → Type 0 where
  ends : {u : Used} {x : ℕ} → WayFits g u x []
  goes_further : {u : Used} {x : ℕ} {p : Step} {ps : List Step} → StepFits g u x p.along → p.to ≡ other_end (edge g p.along) x
      → WayFits g (step_taken u x p.along) p.to ps → WayFits g u x (p ∷ ps)
