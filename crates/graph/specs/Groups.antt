-- Components, bridge-blocks and the classes that outlive two losses: the three ways in which vertices form groups.
use Rattle.std.specs.Prelude.{Bool, not, ◌&&◌, ◌||◌, ℕ}
use Rattle.graph.specs.Below.{all_below}
use Rattle.graph.specs.Network.{Network, Loss, edge, edge_count, nothing, loss_of, joined}

-- Vertices x and y share a component (document 01: a district).
unfoldable pub component : Network → ℕ → ℕ → Bool
component g = joined g nothing

-- The loss parts a and b: they are joined without it, and not with it.
unfoldable pub parts : Network → Loss → ℕ → ℕ → Bool
parts g lost a b = component g a b && not (joined g lost a b)

-- Edge s is a bridge (document 01: sole between its ends): its own loss parts its ends.
unfoldable pub bridge : Network → ℕ → Bool
bridge g s = not (joined g (loss_of g s) (edge g s).left (edge g s).right)

-- Vertices x and y share a bridge-block (document 01: a ring): they share a component, and still do after the loss of any one edge.
unfoldable pub bridge_block : Network → ℕ → ℕ → Bool
bridge_block g x y = component g x y && all_below (edge_count g) (λ s. joined g (loss_of g s) x y)

-- The loss of edges s and t, each with its mates; they may be one.
unfoldable pub loss_of_both : Network → ℕ → ℕ → Loss
loss_of_both g s t r = loss_of g s r || loss_of g t r

-- Vertices x and y outlive two losses (request 12): they share a component, and still do after the loss of any two edges, which may be one.
unfoldable pub outlive_two : Network → ℕ → ℕ → Bool
outlive_two g x y =
    component g x y && all_below (edge_count g) (λ s. all_below (edge_count g) (λ t. joined g (loss_of_both g s t) x y))
