-- Routes (request 5): walks that come by no vertex twice, and two of them that no loss of one edge meets both.
use Rattle.std.specs.Prelude.{Bool, true, false, not, ◌&&◌, List, [], ◌∷◌, ◌≡◌, ℕ, ◌<◌, eqb}
use Rattle.graph.specs.Lists.{all_in, distinct}
use Rattle.graph.specs.Network.{Network, Rule, Proper, edge, other_end, mates}
use Rattle.graph.specs.Groups.{bridge_block}
use Rattle.graph.specs.Cycle.{Step, leads}
use Rattle.graph.specs.Travel.{visited}

-- The steps along edges, one after another, from vertex a on: each leads to the other end of its edge.
unfoldable pub steps_along : Network → ℕ → List ℕ → List Step
steps_along g a [] = []
steps_along g a (s ∷ ss) =
    let next = other_end (edge g s) a in
    record { along = s; to = next } ∷ steps_along g next ss

-- A route from a to b, by its edges in travelling order: they lead from a to b, and come by no vertex twice.
unfoldable pub is_route : Network → ℕ → ℕ → List ℕ → Bool
is_route g a b ss = leads g a (steps_along g a ss) b && distinct (visited a (steps_along g a ss))

-- No edge of one list is an edge of the other or a mate of one.
unfoldable pub apart : Network → List ℕ → List ℕ → Bool
apart g ss ts = all_in (λ s. all_in (λ t. not (mates g s t)) ts) ss

-- Two routes (request 5: working and standby route).
pub record Routes : Type 0 where
  pub first : List ℕ
  pub second : List ℕ

-- They serve a and b: both are routes from a to b, and they are apart.
unfoldable pub serve : Network → ℕ → ℕ → Routes → Bool
serve g a b r = is_route g a b r.first && is_route g a b r.second && apart g r.first r.second

-- A choice of two routes, by the network and the two vertices alone.
abbrev pub Choice : Type 0
Choice = Network → ℕ → ℕ → Routes

-- What is asked of a choice, and all that is: under a rule of mates, whichever two different vertices of whichever network share a
-- bridge-block, the two routes that it gives serve them.
abbrev pub Serves : Rule → Choice → Type 0
Serves rule choice =
    (g : Network) → g.rule ≡ rule → Proper g
    → (a b : ℕ) → a < g.vertices → b < g.vertices → eqb a b ≡ false → bridge_block g a b ≡ true
    → serve g a b (choice g a b) ≡ true
