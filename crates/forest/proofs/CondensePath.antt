-- The path that is written down: which blocks one edge more between its ends makes one.
use Rattle.std.proofs.Common.{◌≡◌, ℕ, suc, ◌<◌, ◌≤◌, Bool, false, ◌&&◌, ◌||◌, eqb, List, ◌∷◌, map, length, sym, ap, ◌∙◌, subst, ap₂, arith}
use Rattle.graph.specs.Below.{tabulate}
use Rattle.graph.specs.Network.{Network, edge_in_duct}
use Rattle.graph.specs.Cycle.{Step}
use Rattle.graph.specs.Block.{block}
use Rattle.graph.specs.BlockPath.{BlockPath}
use Rattle.graph.proofs.Truth.{eqb_swap}
use Rattle.graph.proofs.EdgeMoreBlocks.{on_path, joins_path, block_edge_within}
use Rattle.naming.proofs.Listed.{map_tabulate}
use Rattle.naming.proofs.Merge.{in_merged}
use Rattle.numbers.specs.declared.Limits.{Limits}
use Rattle.table.specs.Inside.Column
use Rattle.forest.specs.Inside.Climb.{path_vertex, path_edge}
use Rattle.forest.specs.Inside.Route.{step_at, steps_of}
use Rattle.forest.proofs.Columns.{among}
use Rattle.forest.proofs.Networks.{edge_count_lem}
use Rattle.forest.proofs.Frames.{Frame}
use Rattle.forest.proofs.EdgeToAdd.{EdgeToAdd, edge_of, before, after, proper_after, number-alone, number-apart}
use Rattle.forest.proofs.Values.{in_merged_steps}
use Rattle.forest.proofs.ClimbStore.{steps_same}

-- The first k edges of the path that is written down.
abbrev pub edges_of : List ℕ → Limits → ℕ → List ℕ
edges_of t limits k = tabulate k (λ i. path_edge t limits i)

-- The first k vertices of that path.
abbrev pub vertices_of : List ℕ → Limits → ℕ → List ℕ
vertices_of t limits k = tabulate k (λ i. path_vertex t limits i)

-- A path of blocks between the ends of the new edge, written down in a table as long as the given one: k steps, at least one, over
-- vertices and edges that the network has.
pub record PathWritten (new : EdgeToAdd) (t : List ℕ) (k : ℕ) : Type 0 where
  pub as_long : length t ≡ length new.t
  pub start : path_vertex t new.limits 0 ≡ new.a
  pub path : BlockPath (before new) new.a (steps_of t new.limits k) new.b
  pub some : 0 < k
  pub few : k < new.n
  pub vertices_known : (i : ℕ) → i ≤ k → path_vertex t new.limits i < new.n
  pub edges_known : (i : ℕ) → i < k → path_edge t new.limits i < new.m

-- it stays written where its columns stay
pub path_kept : {new : EdgeToAdd} {vs es t t' : List ℕ} {k : ℕ} → PathWritten new t k → Frame new.limits vs es t t'
    → among vs Column.path_vertex ≡ false → among vs Column.path_edge ≡ false → PathWritten new t' k
path_kept {new} {vs} {es} {t} {t'} {k} w f p q =
    record {
      as_long = f.same_length ∙ w.as_long;
      start = vertex 0 (omega arith) ∙ w.start;
      path = subst (λ ps. BlockPath (before new) new.a ps new.b) (sym (steps_same t t' new.limits k edge (λ i h. vertex (suc i) h))) w.path;
      some = w.some;
      few = w.few;
      vertices_known = λ i h. rw (vertex i h) (w.vertices_known i h);
      edges_known = λ i h. rw (edge i h) (w.edges_known i h);
    }
  where
    room : k < new.limits.vertices
    room = omega (arith, w.few, new.valid.vertices_fit)

    vertex : (i : ℕ) → i ≤ k → path_vertex t' new.limits i ≡ path_vertex t new.limits i
    vertex i h = f.vertex_word Column.path_vertex i (omega arith) (omega (arith, room)) p

    edge : (i : ℕ) → i < k → path_edge t' new.limits i ≡ path_edge t new.limits i
    edge i h = f.vertex_word Column.path_edge i (omega arith) (omega (arith, room)) q

module _ {new : EdgeToAdd} {t : List ℕ} {k : ℕ} (w : PathWritten new t k) where
  open new use {limits, n, m, valid, a, b}

  abbrev g : Network
  g = before new

  abbrev steps : List Step
  steps = steps_of t limits k

  edges_are : map (λ p. p.along) steps ≡ edges_of t limits k
  unfolding steps_of step_at
  edges_are = map_tabulate (λ (p : Step). p.along) k _

  -- an edge is in a block of the path
  on_path_merged : (s : ℕ) → on_path g steps s ≡ in_merged (block g) (edges_of t limits k) s
  on_path_merged s = sym (in_merged_steps (block g) (λ p. p.along) steps s) ∙ ap (λ (l : List ℕ). in_merged (block g) l s) edges_are

  joins_merged : (s : ℕ) → joins_path g steps s ≡ in_merged (block g) (m ∷ edges_of t limits k) s
  unfolding joins_path in_merged
  joins_merged s =
      ap₂ ◌||◌ (ap (eqb s) (edge_count_lem limits n m new.t) ∙ eqb_swap s m ∙ sym (number-alone new s)) (on_path_merged s)

  -- the blocks of the path and the new edge become one
  pub blocks_merge : (s u : ℕ)
      → block (after new) s u
      ≡ (block (before new) s u
      || (in_merged (block (before new)) (m ∷ edges_of t limits k) s && in_merged (block (before new)) (m ∷ edges_of t limits k) u))
  unfolding edge_in_duct
  blocks_merge s u =
      block_edge_within g (edge_of new) valid.proper (proper_after new) w.path s u
      ∙ ap₂ (λ c d. block g s u || (c && d)) (joins_merged s) (joins_merged u)

  -- an old edge is in those blocks exactly if it is in one of the path
  pub merged_old : (s : ℕ) → s < m
      → in_merged (block (before new)) (m ∷ edges_of t limits k) s ≡ in_merged (block (before new)) (edges_of t limits k) s
  unfolding in_merged
  merged_old s h = ap (λ (c : Bool). c || in_merged (block g) (edges_of t limits k) s) (number-apart new s h)
