-- Networks under the rule of request 7, and which of their vertices outlive two losses (request 12).
use Rattle.std.specs.Prelude.{List, [], ◌∷◌, map, ℕ}
use Rattle.graph.specs.Below.{listed, tabulate}
use Rattle.graph.specs.Network.{Network, Edge, edge_between as between, edge_in_duct as in_duct}
use Rattle.graph.specs.Groups.{outlive_two}
use Rattle.graph.specs.Examples.{duct_network}

-- For each vertex the vertices with which it outlives two losses.
unfoldable pub classes_of : Network → List (List ℕ)
classes_of g = tabulate g.vertices (λ x. listed g.vertices (outlive_two g x))

-- A network, and for each vertex the vertices that are to be found so.
pub record Classed : Type 0 where
  pub network : Network
  pub classes : List (List ℕ)

unfoldable pub classed : ℕ → List Edge → List (List ℕ) → Classed
classed n edges classes = record { network = duct_network n edges; classes = classes }

-- What is to be found in each network, and what the definition gives.
unfoldable pub told : List Classed → List (List (List ℕ))
told = map (λ e. e.classes)

unfoldable pub found : List Classed → List (List (List ℕ))
found = map (λ e. classes_of e.network)

-- Without edges: each vertex with itself alone.
unfoldable pub without_edges : List Classed
without_edges = classed 0 [] [] ∷ classed 1 [] ((0 ∷ []) ∷ []) ∷ classed 2 [] ((0 ∷ []) ∷ (1 ∷ []) ∷ []) ∷ []

-- Between two vertices. One edge; two mates; one edge in each of two ducts: not enough. One in each of three: enough. Mates count once.
-- Two ducts, one of three edges and one of two, entered from either side: not enough; with an edge more for which none is told: enough.
-- Two edges with no duct told and one in a duct: not enough; with one in another duct: enough.
unfoldable pub between_two : List Classed
between_two =
    classed 2 (between 0 1 ∷ []) ((0 ∷ []) ∷ (1 ∷ []) ∷ [])
    ∷ classed 2 (in_duct 0 1 7 ∷ in_duct 1 0 7 ∷ []) ((0 ∷ []) ∷ (1 ∷ []) ∷ [])
    ∷ classed 2 (in_duct 0 1 7 ∷ in_duct 0 1 8 ∷ []) ((0 ∷ []) ∷ (1 ∷ []) ∷ [])
    ∷ classed 2 (in_duct 0 1 7 ∷ in_duct 0 1 8 ∷ in_duct 0 1 9 ∷ []) ((0 ∷ 1 ∷ []) ∷ (0 ∷ 1 ∷ []) ∷ [])
    ∷ classed 2 (in_duct 0 1 7 ∷ in_duct 1 0 8 ∷ in_duct 1 0 7 ∷ in_duct 0 1 8 ∷ in_duct 0 1 7 ∷ []) ((0 ∷ []) ∷ (1 ∷ []) ∷ [])
    ∷ classed 2 (in_duct 0 1 7 ∷ in_duct 1 0 8 ∷ in_duct 1 0 7 ∷ in_duct 0 1 8 ∷ in_duct 0 1 7 ∷ between 0 1 ∷ [])
    ((0 ∷ 1 ∷ []) ∷ (0 ∷ 1 ∷ []) ∷ [])
    ∷ classed 2 (between 0 1 ∷ between 1 0 ∷ in_duct 0 1 7 ∷ []) ((0 ∷ []) ∷ (1 ∷ []) ∷ [])
    ∷ classed 2 (between 0 1 ∷ between 1 0 ∷ in_duct 0 1 7 ∷ in_duct 0 1 8 ∷ []) ((0 ∷ 1 ∷ []) ∷ (0 ∷ 1 ∷ []) ∷ [])
    ∷ []

-- Rings. A triangle: not enough. With mates at one side: not enough either; with a second duct there: enough for the ends of that side.
-- With a second duct at two sides: enough for all. Four sides, two opposite ones of them with a second duct: two classes. The complete
-- network of four vertices: enough. Two vertices with three others between them: enough for the two, which no edge joins.
unfoldable pub rings : List Classed
rings =
    classed 3 (between 0 1 ∷ between 1 2 ∷ between 2 0 ∷ []) ((0 ∷ []) ∷ (1 ∷ []) ∷ (2 ∷ []) ∷ [])
    ∷ classed 3 (between 0 1 ∷ between 1 2 ∷ between 2 0 ∷ between 1 0 ∷ []) ((0 ∷ []) ∷ (1 ∷ []) ∷ (2 ∷ []) ∷ [])
    ∷ classed 3 (between 0 1 ∷ between 1 2 ∷ between 2 0 ∷ in_duct 1 0 7 ∷ []) ((0 ∷ 1 ∷ []) ∷ (0 ∷ 1 ∷ []) ∷ (2 ∷ []) ∷ [])
    ∷ classed 3 (between 0 1 ∷ between 1 2 ∷ between 2 0 ∷ in_duct 1 0 7 ∷ in_duct 1 2 7 ∷ [])
    ((0 ∷ 1 ∷ 2 ∷ []) ∷ (0 ∷ 1 ∷ 2 ∷ []) ∷ (0 ∷ 1 ∷ 2 ∷ []) ∷ [])
    ∷ classed 4 (between 0 1 ∷ between 1 2 ∷ between 2 3 ∷ between 3 0 ∷ in_duct 0 1 7 ∷ in_duct 2 3 7 ∷ [])
    ((0 ∷ 1 ∷ []) ∷ (0 ∷ 1 ∷ []) ∷ (2 ∷ 3 ∷ []) ∷ (2 ∷ 3 ∷ []) ∷ [])
    ∷ classed 4 (between 0 1 ∷ between 0 2 ∷ between 0 3 ∷ between 1 2 ∷ between 1 3 ∷ between 2 3 ∷ [])
    ((0 ∷ 1 ∷ 2 ∷ 3 ∷ []) ∷ (0 ∷ 1 ∷ 2 ∷ 3 ∷ []) ∷ (0 ∷ 1 ∷ 2 ∷ 3 ∷ []) ∷ (0 ∷ 1 ∷ 2 ∷ 3 ∷ []) ∷ [])
    ∷ classed 5 (between 0 2 ∷ between 0 3 ∷ between 0 4 ∷ between 1 2 ∷ between 1 3 ∷ between 1 4 ∷ [])
    ((0 ∷ 1 ∷ []) ∷ (0 ∷ 1 ∷ []) ∷ (2 ∷ []) ∷ (3 ∷ []) ∷ (4 ∷ []) ∷ [])
    ∷ []

-- Two rings. Triangles that meet at one vertex: not enough. Three ducts between 0 and 1 and three between 1 and 2: enough for all. Three
-- between 0 and 1 and three between 2 and 3: two classes, joined by one edge or in two components, there beside a vertex without edges.
unfoldable pub two_rings : List Classed
two_rings =
    classed 5 (between 0 1 ∷ between 1 2 ∷ between 2 0 ∷ between 2 3 ∷ between 3 4 ∷ between 4 2 ∷ [])
    ((0 ∷ []) ∷ (1 ∷ []) ∷ (2 ∷ []) ∷ (3 ∷ []) ∷ (4 ∷ []) ∷ [])
    ∷ classed 3 (between 0 1 ∷ in_duct 0 1 7 ∷ in_duct 1 0 8 ∷ between 1 2 ∷ in_duct 2 1 7 ∷ in_duct 1 2 8 ∷ [])
    ((0 ∷ 1 ∷ 2 ∷ []) ∷ (0 ∷ 1 ∷ 2 ∷ []) ∷ (0 ∷ 1 ∷ 2 ∷ []) ∷ [])
    ∷ classed 4 (between 0 1 ∷ in_duct 0 1 7 ∷ in_duct 1 0 8 ∷ between 2 3 ∷ in_duct 3 2 7 ∷ in_duct 2 3 8 ∷ between 1 2 ∷ [])
    ((0 ∷ 1 ∷ []) ∷ (0 ∷ 1 ∷ []) ∷ (2 ∷ 3 ∷ []) ∷ (2 ∷ 3 ∷ []) ∷ [])
    ∷ classed 5 (between 0 1 ∷ in_duct 0 1 7 ∷ in_duct 1 0 8 ∷ between 2 3 ∷ in_duct 3 2 7 ∷ in_duct 2 3 8 ∷ [])
    ((0 ∷ 1 ∷ []) ∷ (0 ∷ 1 ∷ []) ∷ (2 ∷ 3 ∷ []) ∷ (2 ∷ 3 ∷ []) ∷ (4 ∷ []) ∷ [])
    ∷ []
