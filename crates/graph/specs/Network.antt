-- A network: vertices, the edges between them, and which edges are lost together.
use Rattle.std.specs.Prelude.{Bool, true, false, not, cond, ◌&&◌, ◌||◌, List, [], ◌∷◌, ◌++◌, ◌≡◌, ℕ, suc, ◌<◌, eqb, length, get_or}
use Rattle.std.proofs.Math.Bool.{or-false}
use Rattle.std.proofs.Common.{◌∙◌, ap}
use Rattle.graph.specs.Labels.{Pair, same}

-- An edge (document 01: a span) by its two ends, in the order in which they were entered, and the duct that it lies in: 0 where none is told.
pub record Edge : Type 0 where
  pub left : ℕ
  pub right : ℕ
  pub duct : ℕ

-- The edge between two vertices, in the order in which they are entered, with no duct told.
unfoldable pub edge_between : ℕ → ℕ → Edge
edge_between a b = record { left = a; right = b; duct = 0 }

-- The same, in a duct.
unfoldable pub edge_in_duct : ℕ → ℕ → ℕ → Edge
edge_in_duct a b d = record { left = a; right = b; duct = d }

-- Vertex c (document 01: a cabinet) is an end of the edge.
unfoldable pub touches : Edge → ℕ → Bool
touches e c = eqb e.left c || eqb e.right c

-- The end of the edge that is not c, where c is one of its two ends.
unfoldable pub other_end : Edge → ℕ → ℕ
other_end e c = cond (eqb e.left c) e.right e.left

-- The two edges join the same two vertices, in either direction.
unfoldable pub parallel : Edge → Edge → Bool
parallel e f = (eqb e.left f.left && eqb e.right f.right) || (eqb e.left f.right && eqb e.right f.left)

-- Which edges are lost together: a test of two edges' own data, never of their numbers or of the network around them.
abbrev pub Rule : Type 0
Rule = Edge → Edge → Bool

-- The rule of document 01: no other edge is lost with an edge.
unfoldable pub never : Rule
never e f = false

-- The rule of request 3: an edge is lost with the edges of its duct between the same two vertices. An edge with no duct told is lost alone.
unfoldable pub same_duct : Rule
same_duct e f = not (eqb e.duct 0) && eqb e.duct f.duct && parallel e f

-- The rule of request 7, one duct unless told otherwise: an edge is lost with the edges of its duct between the same two vertices, and those
-- with no duct told lie in one. (It is the duct of no edge that has one told: document 02 refuses duct 0, so none is entered in it.)
unfoldable pub one_duct : Rule
one_duct e f = eqb e.duct f.duct && parallel e f

-- What every law asks of a rule.
pub record MateRule (rule : Rule) : Type 0 where
  pub symmetric : (e f : Edge) → rule e f ≡ true → rule f e ≡ true
  pub transitive : (e f h : Edge) → rule e f ≡ true → rule f h ≡ true → rule e h ≡ true
  pub only_parallel : (e f : Edge) → rule e f ≡ true → parallel e f ≡ true

-- Vertices are numbered from 0, and so are edges, apart: edge s stands at place s of the list.
pub record Network : Type 0 where
  pub rule : Rule
  pub vertices : ℕ
  pub edges : List Edge

-- How many edges there are.
unfoldable pub edge_count : Network → ℕ
edge_count g = length g.edges

-- Edge s. Where there is none the value says nothing, and no answer depends on it.
unfoldable pub edge : Network → ℕ → Edge
edge g s = get_or g.edges s (edge_between 0 0)

-- The network with one vertex more, and with one edge more. The new one takes the next number.
unfoldable pub add_vertex : Network → Network
add_vertex g = record { rule = g.rule; vertices = suc g.vertices; edges = g.edges }

unfoldable pub add_edge : Network → Edge → Network
add_edge g e = record { rule = g.rule; vertices = g.vertices; edges = g.edges ++ e ∷ [] }

-- Every edge joins two different vertices of the network.
pub record Proper (g : Network) : Type 0 where
  pub left_known : (s : ℕ) → s < edge_count g → (edge g s).left < g.vertices
  pub right_known : (s : ℕ) → s < edge_count g → (edge g s).right < g.vertices
  pub no_loop : (s : ℕ) → s < edge_count g → eqb (edge g s).left (edge g s).right ≡ false

-- Edges s and t are mates: they are one edge, or the rule has them lost together.
unfoldable pub mates : Network → ℕ → ℕ → Bool
mates g s t = eqb s t || g.rule (edge g s) (edge g t)

-- Under the rule of document 01 every edge is its own only mate.
pub mates-never : (g : Network) → g.rule ≡ never → (s t : ℕ) → mates g s t ≡ eqb s t
unfolding mates never
mates-never g rule_is s t = ap (λ r. eqb s t || r (edge g s) (edge g t)) rule_is ∙ or-false (eqb s t)

-- A loss: which edges are gone, by number.
abbrev pub Loss : Type 0
Loss = ℕ → Bool

unfoldable pub nothing : Loss
nothing s = false

-- The loss of edge s (document 01: its removal) is the loss of its mates.
unfoldable pub loss_of : Network → ℕ → Loss
loss_of g s = mates g s

-- The loss of vertex c is the loss of the edges that touch it.
unfoldable pub without : Network → ℕ → Loss
without g c s = touches (edge g s) c

-- The ends of the edges that are not lost. The list's first edge has number 0, and behind it every number is one less.
unfoldable pub kept : Loss → List Edge → List Pair
kept lost [] = []
kept lost (e ∷ es) =
    let rest = kept (λ s. lost (suc s)) es in
    cond (lost 0) rest (record { left = e.left; right = e.right } ∷ rest)

-- Vertices x and y are joined by edges that are not lost.
unfoldable pub joined : Network → Loss → ℕ → ℕ → Bool
joined g lost = same (kept lost g.edges)
