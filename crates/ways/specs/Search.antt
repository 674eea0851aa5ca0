-- The search for a way: which vertices lead to a goal over steps that are allowed, and by which step each.
use Rattle.std.specs.Prelude.{Bool, true, false, not, cond, ◌&&◌, List, [], ◌∷◌, ◌++◌, ◌≡◌, ℕ, zero, suc, ◌<◌, eqb, ltb, length, get_or}
use Rattle.graph.specs.Lists.{is_in}
use Rattle.graph.specs.Network.{Network, edge, edge_count, touches, other_end}
use Rattle.graph.specs.Cycle.{Step}

-- Which steps may be taken: along an edge, from one of its ends.
abbrev pub Allowed : Type 0
Allowed = ℕ → ℕ → Bool

-- Every step of a walk from vertex x may be taken.
unfoldable pub all_allowed : Allowed → ℕ → List Step → Bool
all_allowed allowed x [] = true
all_allowed allowed x (p ∷ ps) = allowed p.along x && all_allowed allowed p.to ps

-- A vertex that was reached, and its step towards the goal.
pub record Link : Type 0 where
  pub vertex : ℕ
  pub along : ℕ
  pub to : ℕ

-- What a search has found: the links, the latest first, and the vertices in the order in which they were reached, the goal first.
pub record Found : Type 0 where
  pub links : List Link
  pub order : List ℕ

-- At the start the goal alone is reached.
unfoldable pub at_goal : ℕ → Found
at_goal b = record { links = []; order = b ∷ [] }

-- One link more: the other end of edge s is reached, and its step leads along s to vertex y.
unfoldable pub linked : Network → ℕ → ℕ → Found → Found
linked g y s f =
    let x = other_end (edge g s) y in
    record { links = record { vertex = x; along = s; to = y } ∷ f.links; order = f.order ++ x ∷ [] }

-- Edge s seen from vertex y: where it has y for an end, its other end is reached, if it was not and if the step from there may be taken.
unfoldable pub look : Network → Allowed → ℕ → ℕ → Found → Found
look g allowed y s f =
    let x = other_end (edge g s) y in
    cond (touches (edge g s) y && not (is_in x f.order) && allowed s x) (linked g y s f) f

-- The edges below k seen from vertex y, the last of them first.
unfoldable pub look_below : Network → Allowed → ℕ → ℕ → Found → Found
look_below g allowed y zero f = f
look_below g allowed y (suc s) f = look_below g allowed y s (look g allowed y s f)

-- Turn i: all edges are seen from the vertex that was reached i-th, counted from 0, if so many were.
unfoldable pub turn : Network → Allowed → ℕ → Found → Found
turn g allowed i f = cond (ltb i (length f.order)) (look_below g allowed (get_or f.order i 0) (edge_count g) f) f

-- The first n turns.
unfoldable pub turns : Network → Allowed → ℕ → Found → Found
turns g allowed zero f = f
turns g allowed (suc n) f = turn g allowed n (turns g allowed n f)

-- As many turns as there are vertices.
unfoldable pub search : Network → Allowed → ℕ → Found
search g allowed b = turns g allowed g.vertices (at_goal b)

-- The way from vertex x by the links: a link leads to a vertex that was reached before it, so what is left of the links goes on from there.
unfoldable pub way_by : List Link → ℕ → List Step
way_by [] x = []
way_by (l ∷ ls) x = cond (eqb l.vertex x) (record { along = l.along; to = l.to } ∷ way_by ls l.to) (way_by ls x)

-- The way from a to b, where a is reached.
unfoldable pub way : Network → Allowed → ℕ → ℕ → List Step
way g allowed a b = way_by (search g allowed b).links a

-- 1 + the edge of vertex x's step towards the goal, by the links; 0 if it has none.
unfoldable pub step_of : List Link → ℕ → ℕ
step_of [] x = 0
step_of (l ∷ ls) x = cond (eqb l.vertex x) (suc l.along) (step_of ls x)

-- A link that fits: along edge s from a vertex that was not reached to y, which was.
pub record Fits (g : Network) (y s : ℕ) (f : Found) : Type 0 where
  pub known : s < edge_count g
  pub at_end : touches (edge g s) y ≡ true
  pub reached : is_in y f.order ≡ true
  pub new : is_in (other_end (edge g s) y) f.order ≡ false

-- What a search for ways to b may have found at any moment, whichever steps may be taken.
pub data Orderly (g : Network) (b : ℕ) : Found → Type 0 where
  starts : Orderly g b (at_goal b)
  goes_further : {f : Found} (y s : ℕ) → Fits g y s f → Orderly g b f → Orderly g b (linked g y s f)
