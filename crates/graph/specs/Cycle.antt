-- Walks and simple cycles, as the papers word them.
use Rattle.std.specs.Prelude.{Bool, true, false, not, ◌&&◌, ◌||◌, List, [], ◌∷◌, ◌≡◌, ℕ, eqb, ltb}
use Rattle.graph.specs.Network.{Network, Edge, edge, edge_count, mates}

-- One step of a walk: along an edge to a vertex.
pub record Step : Type 0 where
  pub along : ℕ
  pub to : ℕ

-- The edge joins the two vertices, in either direction.
unfoldable pub joins : Edge → ℕ → ℕ → Bool
joins e x y = (eqb e.left x && eqb e.right y) || (eqb e.left y && eqb e.right x)

-- The steps lead from vertex v to vertex w over edges of the network.
unfoldable pub leads : Network → ℕ → List Step → ℕ → Bool
leads g v [] w = eqb v w
leads g v (p ∷ ps) w = ltb p.along (edge_count g) && joins (edge g p.along) v p.to && leads g p.to ps w

-- Some step passes the test.
unfoldable pub any_step : (Step → Bool) → List Step → Bool
any_step f [] = false
any_step f (p ∷ ps) = f p || any_step f ps

-- The steps cross edge s.
unfoldable pub crosses : ℕ → List Step → Bool
crosses s = any_step (λ p. eqb p.along s)

-- No two steps lead to one vertex, and no two cross one edge or two mates.
unfoldable pub simple : Network → List Step → Bool
simple g [] = true
simple g (p ∷ ps) = not (any_step (λ q. eqb q.to p.to || mates g q.along p.along) ps) && simple g ps

-- A simple cycle: a walk from a vertex back to it, no vertex twice and no two edges mates.
pub record Cycle (g : Network) : Type 0 where
  pub start : ℕ
  pub steps : List Step
  pub closed : leads g start steps start ≡ true
  pub is_simple : simple g steps ≡ true

-- Some simple cycle holds both edges.
pub record OnCycle (g : Network) (s t : ℕ) : Type 0 where
  pub cycle : Cycle g
  pub holds_first : crosses s cycle.steps ≡ true
  pub holds_second : crosses t cycle.steps ≡ true
