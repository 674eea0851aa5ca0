-- Block paths: how blocks and the vertices between them lead from one vertex to another.
use Rattle.std.specs.Prelude.{Bool, true, not, ◌&&◌, List, [], ◌∷◌, ◌≡◌, ℕ, eqb, ltb}
use Rattle.graph.specs.Network.{Network, edge_count}
use Rattle.graph.specs.Cycle.{Step, any_step}
use Rattle.graph.specs.Block.{block, on_block}

-- The steps lead from vertex a to vertex b, each within one block, which is given by any one of its edges.
unfoldable pub blocks_lead : Network → ℕ → List Step → ℕ → Bool
blocks_lead g a [] b = eqb a b
blocks_lead g a (p ∷ ps) b =
    ltb p.along (edge_count g) && on_block g p.along a && on_block g p.along p.to && blocks_lead g p.to ps b

-- No step leads back to a, and no two lead to one vertex.
unfoldable pub fresh : ℕ → List Step → Bool
fresh a [] = true
fresh a (p ∷ ps) = not (any_step (λ q. eqb q.to a) (p ∷ ps)) && fresh p.to ps

-- Neighbouring steps go through different blocks.
unfoldable pub blocks_differ : Network → List Step → Bool
blocks_differ g [] = true
blocks_differ g (p ∷ []) = true
blocks_differ g (p ∷ q ∷ ps) = not (block g p.along q.along) && blocks_differ g (q ∷ ps)

-- A block path from a to b.
pub record BlockPath (g : Network) (a : ℕ) (steps : List Step) (b : ℕ) : Type 0 where
  pub lead : blocks_lead g a steps b ≡ true
  pub all_fresh : fresh a steps ≡ true
  pub all_differ : blocks_differ g steps ≡ true
