-- What a caller may say of the working table, and what the operations on it promise. `Holds`, `state_of` and what is read from the table
-- one item at a time are never opened outside this crate: a caller knows of them only what stands here.
use Rattle.std.specs.Prelude.{◌≡◌, ℕ, suc, ◌+◌, ◌*◌, ◌<◌, ◌≤◌, List, length, drop, ◌≢◌, refl}
use Rattle.std.specs.Prelude as P
use Rattle.std.proofs.Math.Option.{Option, none, some}
use Rattle.std.proofs.Math.Logic.{∥∥₁_prop}
use Rattle.std.proofs.Common.{◌∙◌, arith}
use Rattle.graph.specs.Below.{tabulate, length_tabulate}
use Rattle.graph.specs.Network.{Network, edge_in_duct, Proper, edge_count}
use Rattle.graph.specs.Groups.{component, bridge_block}
use Rattle.naming.specs.Rename.{Grouping, Change, name_of, changes_between}
use Rattle.naming.specs.Book.{Book, vertex, edge}
use Rattle.naming.specs.Survey.{Survey}
use Rattle.naming.specs.State.{State, Agree, empty_state, after_addition, records_mark, records_survey, after_recording}
use Rattle.numbers.specs.declared.Limits.{Limits}
use Rattle.table.specs.Inside.Column
use Rattle.table.specs.Inside.Layout.{cell, vertex_area, edge_area}
use Rattle.numbers.specs.declared.Shape.{Shape}
use Rattle.forest.specs.declared.VertexGroups.{VertexGroups}
use Rattle.forest.specs.declared.VertexGroups.TheVariants as G
use Rattle.forest.specs.declared.Growth.{Growth}
use Rattle.numbers.specs.declared.Edge.{Edge}
pub use Rattle.table.specs.Same.{IsSame}
pub use Rattle.forest.specs.Rule.{table_rule, table_rule_lem}
use Rattle.forest.specs.Inside.Words.{group_area}
use Rattle.forest.specs.Inside.Valid.{Sound, stored_edge, network_of, book_of, marked_in, surveys_in}
use Rattle.forest.specs.Inside.Held.{sound}

-- How many words a table takes for so many vertices and edges.
unfoldable pub words_needed : Limits → ℕ
words_needed limits = limits.vertices * Column.per_vertex + limits.edges * Column.per_edge

-- for each vertex as many as there are columns of vertices, and so for each edge
pub words_needed_lem : (limits : Limits) → words_needed limits ≡ limits.vertices * Column.per_vertex + limits.edges * Column.per_edge
unfolding words_needed
words_needed_lem limits = refl

-- The table holds a network of this shape.
unfoldable pub Holds : Shape → List ℕ → Type 0
Holds shape t = ∥ Sound shape.limits shape.vertices shape.edges t ∥₁

-- which is a mere fact, so that a network in a working table keeps it
pub holds_prop : (shape : Shape) (t : List ℕ) → IsProp (Holds shape t)
unfolding Holds
holds_prop shape t = ∥∥₁_prop

-- The state that it holds. Of each edge's surveys it keeps one.
unfoldable pub state_of : Shape → List ℕ → State
state_of shape t =
    record {
      book = book_of shape.limits shape.vertices shape.edges t;
      marked = marked_in shape.limits shape.vertices t;
      surveys = surveys_in shape.limits shape.edges t;
    }

abbrev pub book_in : Shape → List ℕ → Book
book_in shape t = (state_of shape t).book

abbrev pub network_in : Shape → List ℕ → Network
network_in shape t = (state_of shape t).book.network

-- its network has as many vertices and edges as the shape says
pub vertices_held : (shape : Shape) (t : List ℕ) → (network_in shape t).vertices ≡ shape.vertices
unfolding state_of book_of network_of
vertices_held shape t = refl

pub edges_held : (shape : Shape) (t : List ℕ) → edge_count (network_in shape t) ≡ shape.edges
unfolding state_of book_of network_of edge_count
edges_held shape t = length_tabulate shape.edges (stored_edge t shape.limits)

-- for which there are words
pub vertices_fit : (shape : Shape) (t : List ℕ) → Holds shape t → shape.vertices ≤ shape.limits.vertices
unfolding Holds
vertices_fit shape t holds = (sound holds).valid.vertices_fit

pub edges_fit : (shape : Shape) (t : List ℕ) → Holds shape t → shape.edges ≤ shape.limits.edges
unfolding Holds
edges_fit shape t holds = (sound holds).valid.edges_fit

-- of which there are few
pub small_vertices : (shape : Shape) (t : List ℕ) → Holds shape t → shape.limits.vertices ≤ 4096
unfolding Holds
small_vertices shape t holds = (sound holds).valid.small_vertices

pub small_edges : (shape : Shape) (t : List ℕ) → Holds shape t → shape.limits.edges ≤ 8192
unfolding Holds
small_edges shape t holds = (sound holds).valid.small_edges

-- and so they are few
pub few_vertices : (shape : Shape) (t : List ℕ) → Holds shape t → shape.vertices ≤ 4096
few_vertices shape t holds = omega (arith, vertices_fit shape t holds, small_vertices shape t holds)

pub few_edges : (shape : Shape) (t : List ℕ) → Holds shape t → shape.edges ≤ 8192
few_edges shape t holds = omega (arith, edges_fit shape t holds, small_edges shape t holds)

-- each edge joins two different vertices, and which edges are lost together is the table's rule
pub proper_held : (shape : Shape) (t : List ℕ) → Holds shape t → Proper (network_in shape t)
unfolding Holds state_of book_of
proper_held shape t holds = (sound holds).valid.proper

pub rule_held : (shape : Shape) (t : List ℕ) → (network_in shape t).rule ≡ table_rule
unfolding state_of book_of network_of
rule_held shape t = refl

-- The words beyond those of the vertices and edges are as before.
pub record SameBeyond (limits : Limits) (old new : List ℕ) : Type 0 where
  pub as_long : length new ≡ length old
  pub beyond : drop (words_needed limits) new ≡ drop (words_needed limits) old

-- so they are where nothing is done
pub same_beyond_refl : (limits : Limits) (t : List ℕ) → SameBeyond limits t t
same_beyond_refl limits t = record { as_long = refl; beyond = refl }

-- and where one thing is done after another
pub same_beyond_trans : {limits : Limits} {x y z : List ℕ} → SameBeyond limits x y → SameBeyond limits y z → SameBeyond limits x z
same_beyond_trans p q = record { as_long = q.as_long ∙ p.as_long; beyond = q.beyond ∙ p.beyond }

-- A run begins: any table that is long enough holds the empty book.
pub record Begun (limits : Limits) (t : List ℕ) (shape : Shape) : Type 0 where
  pub shape_is : shape ≡ record { limits = limits; vertices = 0; edges = 0 }
  pub holds : Holds shape t
  pub state_is : state_of shape t ≡ empty_state table_rule

abbrev pub one_vertex_more : Shape → Shape
one_vertex_more shape = record { limits = shape.limits; vertices = shape.vertices + 1; edges = shape.edges }

abbrev pub one_edge_more : Shape → Shape
one_edge_more shape = record { limits = shape.limits; vertices = shape.vertices; edges = shape.edges + 1 }

-- One vertex more.
pub record VertexAdded (shape : Shape) (old new : List ℕ) : Type 0 where
  pub holds : Holds (one_vertex_more shape) new
  pub state_is : state_of (one_vertex_more shape) new ≡ after_addition (state_of shape old) vertex
  pub same_beyond : SameBeyond shape.limits old new

-- The names of the vertices and the groups that they name, by the kind of group.
abbrev pub vertex_names : VertexGroups → Book → List ℕ
vertex_names G.Components b = b.components
vertex_names G.BridgeBlocks b = b.bridge_blocks

abbrev pub vertex_groups : VertexGroups → Network → Grouping
vertex_groups G.Components g = component g
vertex_groups G.BridgeBlocks g = bridge_block g

-- Change i of those that are written down: a vertex whose name of that kind changed, with its new name.
unfoldable pub vertex_change_at : Shape → VertexGroups → List ℕ → ℕ → Change
vertex_change_at shape groups t i =
    let x = cell t (group_area shape.limits groups) Column.changed i in
    record { item = x; name = cell t (group_area shape.limits groups) Column.name x }

-- The same of the edges, whose block name changed.
unfoldable pub edge_change_at : Shape → List ℕ → ℕ → Change
edge_change_at shape t i =
    let s = cell t (edge_area shape.limits) Column.changed i in
    record { item = s; name = cell t (edge_area shape.limits) Column.name s }

-- The first k changes that are written down are those between two lists of names.
abbrev pub VerticesChanged : Shape → VertexGroups → List ℕ → ℕ → Book → Book → Type 0
VerticesChanged shape groups t k old new =
    tabulate k (vertex_change_at shape groups t) ≡ changes_between (vertex_names groups old) (vertex_names groups new)

-- One edge more, between a and b in duct d: the state, the changes of each kind, and the new edge's block name.
pub record EdgeAdded (shape : Shape) (a b d : ℕ) (old new : List ℕ) (growth : Growth) : Type 0 where
  pub holds : Holds (one_edge_more shape) new
  pub state_is : state_of (one_edge_more shape) new ≡ after_addition (state_of shape old) (edge (edge_in_duct a b d))
  pub components_changed : VerticesChanged (one_edge_more shape) G.Components new growth.components (book_in shape old) (book_in (one_edge_more shape) new)
  pub bridge_blocks_changed : VerticesChanged (one_edge_more shape) G.BridgeBlocks new growth.bridge_blocks (book_in shape old) (book_in (one_edge_more shape) new)
  pub blocks_changed : tabulate growth.blocks (edge_change_at (one_edge_more shape) new)
      ≡ changes_between (book_in shape old).blocks (book_in (one_edge_more shape) new).blocks
  -- there are no more changes than items
  pub few_components : growth.components ≤ shape.vertices
  pub few_bridge_blocks : growth.bridge_blocks ≤ shape.vertices
  pub few_blocks : growth.blocks ≤ shape.edges
  pub block-name : growth.block.0 ≡ name_of (book_in (one_edge_more shape) new).blocks shape.edges
  pub same_beyond : SameBeyond shape.limits old new

-- A vertex is marked.
pub record VertexMarked (shape : Shape) (x : ℕ) (old new : List ℕ) : Type 0 where
  pub holds : Holds shape new
  pub state_is : state_of shape new ≡ after_recording (state_of shape old) (records_mark x)
  pub same_beyond : SameBeyond shape.limits old new

-- A survey of an edge is entered: what is kept agrees with the whole list of them.
pub record SurveyEntered (shape : Shape) (r : Survey) (old new : List ℕ) : Type 0 where
  pub holds : Holds shape new
  pub agrees : Agree (state_of shape new) (after_recording (state_of shape old) (records_survey r))
  pub same_beyond : SameBeyond shape.limits old new

-- The length that a survey gives, if there is one.
abbrev pub length_given : Option Survey → P.Option ℕ
length_given none = P.None
length_given (some r) = P.Some r.metres

-- The shared block, by its name, or that there is none.
abbrev pub shared_name : List ℕ → Option ℕ → P.Option Edge
shared_name names none = P.None
shared_name names (some s) = P.Some (record { 0 = name_of names s })

-- Bridge i and cut vertex i of those that are written down.
unfoldable pub bridge_at : Shape → List ℕ → ℕ → ℕ
bridge_at shape t i = cell t (vertex_area shape.limits) Column.right_edge i

unfoldable pub cut_at : Shape → List ℕ → ℕ → ℕ
cut_at shape t i = cell t (vertex_area shape.limits) Column.path_vertex (suc i)

-- A list is written down: its items are those read one at a time. The state is as before.
pub record ListWritten (shape : Shape) (old new : List ℕ) (at : ℕ → ℕ) (count : ℕ) (list : List ℕ) : Type 0 where
  pub holds : Holds shape new
  pub state_is : state_of shape new ≡ state_of shape old
  pub is_list : tabulate count at ≡ list
  pub same_beyond : SameBeyond shape.limits old new

-- The scratch words, of which each vertex has so many and each edge one. An operation may overwrite them, and what it has written down
-- (changes, a list) lies there: it is read before the next operation or store.
abbrev pub scratch_words : ℕ
scratch_words = 4

unfoldable pub vertex_scratch : Shape → List ℕ → ℕ → ℕ → ℕ
vertex_scratch shape t k x = cell t (vertex_area shape.limits) (Column.path_vertex + k) x

unfoldable pub edge_scratch : Shape → List ℕ → ℕ → ℕ
edge_scratch shape t s = cell t (edge_area shape.limits) Column.changed s

-- A scratch word is stored: all that the table holds is kept, and every other scratch word.
pub record VertexScratchStored (shape : Shape) (k x value : ℕ) (old new : List ℕ) : Type 0 where
  pub holds : Holds shape new
  pub state_is : state_of shape new ≡ state_of shape old
  pub stored : vertex_scratch shape new k x ≡ value
  pub other_words : (j y : ℕ) → j < scratch_words → y < shape.limits.vertices → (j ≡ k → y ≢ x) → vertex_scratch shape new j y ≡ vertex_scratch shape old j y
  pub edge_words : (s : ℕ) → s < shape.limits.edges → edge_scratch shape new s ≡ edge_scratch shape old s
  pub same_beyond : SameBeyond shape.limits old new

pub record EdgeScratchStored (shape : Shape) (s value : ℕ) (old new : List ℕ) : Type 0 where
  pub holds : Holds shape new
  pub state_is : state_of shape new ≡ state_of shape old
  pub stored : edge_scratch shape new s ≡ value
  pub other_words : (r : ℕ) → r < shape.limits.edges → (r ≢ s) → edge_scratch shape new r ≡ edge_scratch shape old r
  pub vertex_words : (j y : ℕ) → j < scratch_words → y < shape.limits.vertices → vertex_scratch shape new j y ≡ vertex_scratch shape old j y
  pub same_beyond : SameBeyond shape.limits old new
