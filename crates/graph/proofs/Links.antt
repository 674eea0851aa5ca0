-- Links: two edges meet at a vertex, and their other ends are joined without it.
use mathlib.Core.Bool.{true}
use mathlib.Core.Path.{◌≡◌}
use Prim.Native.Nat.{ℕ, ◌<◌}
use Rattle.graph.specs.Network.{Network, edge, edge_count, other_end, parallel, without, joined}
use Rattle.graph.specs.Cycle.{joins}
use Rattle.graph.specs.Block.{link, block}
use Rattle.graph.proofs.Joined.{joined_refl}
use Rattle.graph.proofs.Block.{link-block}
use Rattle.graph.proofs.Ends.{link_at_lem, at_link}
use Rattle.graph.proofs.Walks.{joins-ends}
use Rattle.graph.proofs.Joins.{joins-touches, joins_other, touches-joins, parallel-joins}

-- two edges meet at a vertex, one leads from there to the first vertex and the other to the second, and those are joined without it
pub record Link (g : Network) (s t : ℕ) : Type 0 where
  pub meeting : ℕ
  pub first : ℕ
  pub second : ℕ
  pub first_ends : joins (edge g s) meeting first ≡ true
  pub second_ends : joins (edge g t) meeting second ≡ true
  pub around : joined g (without g meeting) first second ≡ true

-- what a link is made of
pub link-parts : (g : Network) (s t : ℕ) → link g s t ≡ true → Link g s t
link-parts g s t e =
    let (c, k) = link_at_lem g s t e in
    record {
      meeting = c;
      first = other_end (edge g s) c;
      second = other_end (edge g t) c;
      first_ends = touches-joins (edge g s) c k.first;
      second_ends = touches-joins (edge g t) c k.second;
      around = k.others;
    }

-- and it is a link where they are given
pub link_of_parts : (g : Network) (s t : ℕ) → Link g s t → link g s t ≡ true
link_of_parts g s t k =
    let c = k.meeting in
    at_link g c s t
    (record {
      first = joins-touches (edge g s) c k.first k.first_ends;
      second = joins-touches (edge g t) c k.second k.second_ends;
      others = rw (joins_other (edge g s) c k.first k.first_ends, joins_other (edge g t) c k.second k.second_ends) k.around;
    })

-- linked edges share a block
pub linked_edges_share_block : (g : Network) (s t : ℕ) → s < edge_count g → t < edge_count g → Link g s t → block g s t ≡ true
linked_edges_share_block g s t h i k = link-block g s t h i (link_of_parts g s t k)

-- parallel edges share a block
pub parallel_edges_share_block : (g : Network) (s t : ℕ) → s < edge_count g → t < edge_count g
    → parallel (edge g s) (edge g t) ≡ true → block g s t ≡ true
parallel_edges_share_block g s t h i p =
    let c = (edge g s).left in
    let a = (edge g s).right in
    linked_edges_share_block g s t h i
    (record {
      meeting = c;
      first = a;
      second = a;
      first_ends = joins-ends (edge g s);
      second_ends = parallel-joins (edge g s) (edge g t) p c a (joins-ends (edge g s));
      around = joined_refl g (without g c) a;
    })
