-- Blocks (document 01: meshes): groups of edges.
use Rattle.std.specs.Prelude.{Bool, true, ◌&&◌, ◌||◌, List, [], ◌++◌, map, ◌⊎◌, ◌≡◌, ℕ, zero, suc}
use Rattle.std.proofs.Math.Option.{Option}
use Rattle.graph.specs.Below.{any_below, least_below, listed}
use Rattle.graph.specs.Labels.{Pair, same}
use Rattle.graph.specs.Network.{Network, edge, edge_count, touches, other_end, mates, without, joined}
use Rattle.graph.specs.Cycle.{OnCycle}

-- Edges s and t share a block, as the papers word it: they are one edge or mates, or some simple cycle holds both.
abbrev pub ShareBlock : Network → ℕ → ℕ → Type 0
ShareBlock g s t = (mates g s t ≡ true) ⊎ OnCycle g s t

-- Edges s and t meet at vertex c, and their other ends are joined without c.
unfoldable pub link_at : Network → ℕ → ℕ → ℕ → Bool
link_at g c s t =
    touches (edge g s) c && touches (edge g t) c && joined g (without g c) (other_end (edge g s) c) (other_end (edge g t) c)

unfoldable pub link : Network → ℕ → ℕ → Bool
link g s t = link_at g (edge g s).left s t || link_at g (edge g s).right s t

-- All pairs s, t that pass the test, s below n and t below m.
unfoldable pub pairs_below : ℕ → ℕ → (ℕ → ℕ → Bool) → List Pair
pairs_below zero m f = []
pairs_below (suc s) m f = map (λ t. record { left = s; right = t }) (listed m (f s)) ++ pairs_below s m f

unfoldable pub links : Network → List Pair
links g = pairs_below (edge_count g) (edge_count g) (link g)

-- The same, as it computes: a chain of links leads from s to t.
unfoldable pub block : Network → ℕ → ℕ → Bool
block g = same (links g)

-- Vertex x is on the block of edge s: some edge of that block has x for an end.
unfoldable pub on_block : Network → ℕ → ℕ → Bool
on_block g s x = any_below (edge_count g) (λ t. block g s t && touches (edge g t) x)

-- Edge s is at vertex a, and its block has an edge at vertex b.
unfoldable pub at_both : Network → ℕ → ℕ → ℕ → Bool
at_both g a b s = touches (edge g s) a && on_block g s b

-- The least edge of the block that has edges at both vertices, of those at the first; none where there is no such block.
unfoldable pub shared_block : Network → ℕ → ℕ → Option ℕ
shared_block g a b = least_below (edge_count g) (at_both g a b)
