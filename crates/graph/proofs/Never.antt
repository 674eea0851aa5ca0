-- The rule of document 01, by which no other edge is lost with an edge: it is a rule of mates, under it every edge is the least of its
-- mates, and two parallel edges are a simple cycle.
use mathlib.Core.Bool.{true, false, false≢true}
use mathlib.Core.Path.{◌≡◌, sym, ◌∙◌}
use Prim.Native.Nat.{ℕ, ◌<◌}
use lib.Dec.{eqb}
use Rattle.graph.specs.Network.{Network, MateRule, Proper, never, parallel, edge, edge_count, mates-never}
use Rattle.graph.specs.Cycle.{OnCycle}
use Rattle.graph.specs.Between.{least_mate}
use Rattle.graph.specs.Travel.{first_mate}
use Rattle.graph.proofs.Truth.{eqb_eq}
use Rattle.graph.proofs.Travel.{first_mate_lem, first_mate_least}
use Rattle.graph.proofs.CommonCycle.{parallel_edges_on_cycle}

-- "no other edge" is a rule of mates
pub never-mates : MateRule never
unfolding never
never-mates =
    record {
      symmetric = λ e f k. k;
      transitive = λ e f h k l. k;
      only_parallel = λ e f k. absurd (false≢true k);
    }

-- every edge is the least of its mates
pub first_mate-never : (g : Network) → g.rule ≡ never → (s : ℕ) → first_mate g s ≡ s
first_mate-never g none s = eqb_eq (first_mate g s) s (sym (mates-never g none (first_mate g s) s) ∙ first_mate_lem g s)

pub least_never : (g : Network) → g.rule ≡ never → (s : ℕ) → least_mate g s ≡ true
least_never g none s = rw (first_mate-never g none s) at (first_mate_least g (rw none never-mates) s)

-- two different edges between one pair of vertices are a simple cycle (document 01: two spans between one pair are such a cycle)
pub parallel_edges_on_cycle_never : (g : Network) → Proper g → g.rule ≡ never → (s t : ℕ) → s < edge_count g → t < edge_count g
    → eqb s t ≡ false → parallel (edge g s) (edge g t) ≡ true → OnCycle g s t
parallel_edges_on_cycle_never g proper none s t h k d =
    parallel_edges_on_cycle g proper s t h k (mates-never g none s t ∙ d)
