-- Mates are parallel: they join the same vertices, share a block, and are lost with either of their ends.
use mathlib.Core.Bool.{true}
use mathlib.Core.Logic.{⊎_elim}
use mathlib.Core.Path.{◌≡◌, ◌∙◌}
use Prim.Native.Nat.{ℕ, ◌<◌}
use Rattle.graph.specs.Network.{Network, MateRule, edge, edge_count, mates, loss_of, without, joined}
use Rattle.graph.specs.Cycle.{joins}
use Rattle.graph.specs.Block.{block}
use Rattle.graph.proofs.Truth.{false_of_not, not_both}
use Rattle.graph.proofs.Block.{block_refl}
use Rattle.graph.proofs.Joined.{joined_less_lost}
use Rattle.graph.proofs.Mates.{mates_cases}
use Rattle.graph.proofs.Walks.{joins_swap}
use Rattle.graph.proofs.Joins.{joins-touches, parallel-joins}
use Rattle.graph.proofs.Links.{parallel_edges_share_block}

module _ (g : Network) (rule : MateRule g.rule) where
  -- mates join the same vertices
  pub mates-joins : (s t : ℕ) → mates g s t ≡ true → (x y : ℕ) → joins (edge g s) x y ≡ true → joins (edge g t) x y ≡ true
  mates-joins s t e x y j =
      ⊎_elim (λ i. rw (← i) j)
      (λ r. parallel-joins (edge g s) (edge g t) (rule.only_parallel (edge g s) (edge g t) r) x y j)
      (mates_cases g s t e)

  -- mates share a block
  pub mates_share_block : (s t : ℕ) → s < edge_count g → t < edge_count g → mates g s t ≡ true → block g s t ≡ true
  mates_share_block s t h k e =
      ⊎_elim (λ i. rw i (block_refl g t))
      (λ r. parallel_edges_share_block g s t h k (rule.only_parallel (edge g s) (edge g t) r))
      (mates_cases g s t e)

  -- what is joined without an end of an edge is joined without the edge
  pub joined_without_end_edge : (t x c : ℕ) → joins (edge g t) x c ≡ true → (u v : ℕ)
      → joined g (without g c) u v ≡ true → joined g (loss_of g t) u v ≡ true
  unfolding loss_of without
  joined_without_end_edge t x c j =
      joined_less_lost g (without g c) (loss_of g t)
      (λ s h n. false_of_not (mates g t s) (λ m.
      not_both (joins-touches (edge g s) c x (joins_swap (edge g s) c x ∙ mates-joins t s m x c j)) n))
