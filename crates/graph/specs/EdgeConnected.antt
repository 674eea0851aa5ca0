-- k-edge-connected vertices, in the words of document 000 (definition 2.2), and vertices that outlive k losses.
use Rattle.std.specs.Prelude.{true, ◌||◌, List, [], ◌∷◌, ◌≡◌, ℕ, ◌<◌, ◌≤◌, length}
use Rattle.graph.specs.Lists.{is_in}
use Rattle.graph.specs.Network.{Network, Loss, edge_count, mates, nothing, joined}

-- Vertices x and y are k-edge-connected: after the removal of any set of at most k - 1 edges they are still joined.
abbrev pub EdgeConnected : ℕ → Network → ℕ → ℕ → Type 0
EdgeConnected k g x y = (removed : List ℕ) → length removed < k → joined g (λ s. is_in s removed) x y ≡ true

-- The loss of several edges, each with its mates.
unfoldable pub loss_of_all : Network → List ℕ → Loss
loss_of_all g [] = nothing
loss_of_all g (s ∷ ss) = λ t. mates g s t || loss_of_all g ss t

-- Every number of the list is that of an edge.
abbrev pub OnlyEdges : Network → List ℕ → Type 0
OnlyEdges g ss = (s : ℕ) → is_in s ss ≡ true → s < edge_count g

-- Vertices x and y outlive k losses: after the loss of at most k edges, each with its mates, they are still joined.
abbrev pub Outlives : ℕ → Network → ℕ → ℕ → Type 0
Outlives k g x y = (ss : List ℕ) → length ss ≤ k → OnlyEdges g ss → joined g (loss_of_all g ss) x y ≡ true
