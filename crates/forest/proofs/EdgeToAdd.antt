-- One edge more, whether it joins two components or lies within one: what is given, what storing it does, and what the table is to hold
-- behind it.
use Rattle.std.proofs.Common.{◌≡◌, ℕ, suc, ◌+◌, ◌*◌, ◌/◌, ◌%◌, ◌<◌, true, false, eqb, List, length, refl, ap, ◌∙◌, subst, ap₂, mod-eq_of_lt, arith}
use Rattle.graph.specs.Below.{tabulate}
use Rattle.graph.specs.Network.{Network, Edge, edge_in_duct, Proper, add_edge}
use Rattle.graph.specs.Groups.{component, bridge_block}
use Rattle.graph.specs.Block.{block}
use Rattle.graph.proofs.Truth.{ne_eqb}
use Rattle.graph.proofs.VertexMore.{proper_edge_more}
use Rattle.graph.proofs.Grows.{block_next}
use Rattle.naming.specs.Book.{enter_edge}
use Rattle.naming.proofs.Listed.{tabulate_same}
use Rattle.numbers.specs.declared.Limits.{Limits}
use Rattle.table.specs.Inside.Column
use Rattle.table.specs.Inside.Layout.{cell, vertex_area, bridge_block_area, edge_area}
use Rattle.table.specs.Inside.Merge.{name_in}
use Rattle.table.specs.Inside.KindValid.{KindValid, Counts}
use Rattle.table.proofs.Cells.{length-put, cell-put-same, cell_put_other_column, cell_put_elsewhere}
use Rattle.table.proofs.Halves.{high_half, low_half}
use Rattle.forest.specs.Inside.Tree.{Grown, edge_table}
use Rattle.forest.specs.Inside.Valid.{stored_edge, network_of, book_of, marked_in, surveys_in, ForestValid, Valid}
use Rattle.forest.specs.Promise.{SameBeyond}
use Rattle.forest.proofs.Columns.{within, apart, edge_columns, survey_columns, within_among}
use Rattle.forest.proofs.Networks.{SameEdges, network-same, vertex_count, edge_count_lem}
use Rattle.forest.proofs.Frames.{Frame, ◌then◌, frame_edge, same_edges}
use Rattle.forest.proofs.KeptSurveys.{kept_same, none_kept, surveys_same, surveys_more, same_surveys}
use Rattle.forest.proofs.Changes.{ChangesListed}

-- A valid table of n vertices and m edges that has room for one edge more, and that edge: its ends, two different vertices of the table,
-- and its duct.
pub record EdgeToAdd : Type 0 where
  pub limits : Limits
  pub n : ℕ
  pub m : ℕ
  pub t : List ℕ
  pub valid : Valid limits n m t
  pub room : m < limits.edges
  pub a : ℕ
  pub b : ℕ
  pub d : ℕ
  pub a_known : a < n
  pub b_known : b < n
  pub differ : a ≡ b → ⊥
  pub duct_small : d < 65536

module _ (new : EdgeToAdd) where
  open new use {limits, n, m, t, valid, room, a, b, d, a_known, b_known, differ, duct_small}

  -- The edge; the network without it, and with it.
  abbrev pub edge_of : Edge
  edge_of = edge_in_duct a b d

  abbrev pub before : Network
  before = network_of limits n m t

  abbrev pub after : Network
  after = add_edge before edge_of

  -- Its ends are in two components.
  abbrev pub Apart : Type 0
  Apart = component before a b ≡ false

  -- They are in one.
  abbrev pub Within : Type 0
  Within = component before a b ≡ true

  -- The table with the edge stored.
  abbrev pub edge_stored : List ℕ
  edge_stored = edge_table t limits m a b d

  -- What is to be shown of the table that an operation leaves, and of the changes that it tells.
  pub record Grows (grown : Grown) : Type 0 where
    pub valid_after : Valid limits n (suc m) grown.table
    pub book_after_lem : book_of limits n (suc m) grown.table ≡ enter_edge (book_of limits n m t) edge_of
    pub marked_after : (x : ℕ) → marked_in limits n grown.table x ≡ marked_in limits n t x
    pub surveys_after_lem : surveys_in limits (suc m) grown.table ≡ surveys_in limits m t
    -- the items of each kind that change their name are written down
    pub components : ChangesListed (vertex_area limits) n n grown.components t grown.table
    pub bridge_blocks_lem : ChangesListed (bridge_block_area limits) n n grown.bridge_blocks t grown.table
    pub blocks : ChangesListed (edge_area limits) m (suc m) grown.blocks t grown.table
    -- the name of the new edge's block
    pub block-name : grown.block ≡ name_in grown.table (edge_area limits) m
    pub same_beyond : SameBeyond limits t grown.table

  -- the ends of the edges are known and different, those of the new one too
  pub proper_after : Proper after
  unfolding edge_in_duct
  proper_after =
      proper_edge_more before edge_of valid.proper
      (rw (vertex_count limits n m t) a_known)
      (rw (vertex_count limits n m t) b_known)
      (ne_eqb a b differ)

  -- no old edge shares a block with the number that the new one gets
  pub number-alone : (s : ℕ) → block before m s ≡ eqb m s
  number-alone s = subst (λ (c : ℕ). block before c s ≡ eqb c s) (edge_count_lem limits n m t) (block_next before s)

  pub number-apart : (s : ℕ) → s < m → block before m s ≡ false
  number-apart s h = number-alone s ∙ ne_eqb m s (λ q. omega arith)

  -- an edge is stored in its own columns
  pub stored_frame : (vs es : List ℕ) → within edge_columns es ≡ true → Frame limits vs es t edge_stored
  unfolding edge_table
  stored_frame vs es q =
      frame_edge limits vs es t Column.ends m _ (omega arith) room (within_among edge_columns es q Column.ends refl)
      then frame_edge limits vs es _ Column.duct m d (omega arith) room (within_among edge_columns es q Column.duct refl)

  -- the words of the old edges stay
  old_word : (c s : ℕ) → s < m → cell edge_stored (edge_area limits) c s ≡ cell t (edge_area limits) c s
  unfolding edge_table
  old_word c s h =
      cell_put_elsewhere _ (edge_area limits) Column.duct m d c s room (omega (arith, room)) (λ q. omega arith)
      ∙ cell_put_elsewhere t (edge_area limits) Column.ends m _ c s room (omega (arith, room)) (λ q. omega arith)

  -- so do those edges
  pub stored_old : SameEdges limits m t edge_stored
  unfolding stored_edge
  stored_old s h =
      ap₂ (λ (e d : ℕ). edge_in_duct (e / 65536) (e % 65536) (d % 65536)) (old_word Column.ends s h) (old_word Column.duct s h)

  -- the new edge's duct is its whole word
  duct_word : cell edge_stored (edge_area limits) Column.duct m ≡ d
  unfolding edge_table
  duct_word =
      cell-put-same _ (edge_area limits) Column.per_edge Column.duct m d
      (omega (arith, valid.long, length-put t (edge_area limits) Column.ends m (a % 65536 * 65536 + b % 65536))) (omega arith) room

  -- the new edge is read as it was stored
  pub stored_new : stored_edge edge_stored limits m ≡ edge_of
  unfolding stored_edge edge_table
  stored_new =
      ap₂ (λ (e d : ℕ). edge_in_duct (e / 65536) (e % 65536) d) ends (ap (λ (w : ℕ). w % 65536) duct_word ∙ mod-eq_of_lt duct_small)
      ∙ ap₂ (λ (x y : ℕ). edge_in_duct x y d) (high_half a b a_small b_small) (low_half a b a_small b_small)
    where
      a_small : a < 65536
      a_small = omega (arith, valid.vertices_fit, valid.small_vertices)

      b_small : b < 65536
      b_small = omega (arith, valid.vertices_fit, valid.small_vertices)

      ends : cell edge_stored (edge_area limits) Column.ends m ≡ a % 65536 * 65536 + b % 65536
      ends =
          cell_put_other_column _ (edge_area limits) Column.duct m d Column.ends m room room (λ q. omega arith)
          ∙ cell-put-same t (edge_area limits) Column.per_edge Column.ends m _ (omega (arith, valid.long)) (omega arith) room

  network_stored : network_of limits n (suc m) edge_stored ≡ after
  unfolding network_of add_edge tabulate
  network_stored = rw (stored_new, tabulate_same m (stored_edge edge_stored limits) (stored_edge t limits) stored_old)

  -- so a table that keeps the stored edges holds the network with the new one
  pub network_after_lem : {vs es t' : List ℕ} → Frame limits vs es edge_stored t' → apart edge_columns es ≡ true → network_of limits n (suc m) t' ≡ after
  network_after_lem {vs} {es} {t'} f q = network-same limits n (suc m) edge_stored t' (same_edges f (suc m) room q) ∙ network_stored

  -- nothing is kept of the new edge, and of the old ones what was
  surveys_stored : surveys_in limits (suc m) edge_stored ≡ surveys_in limits m t
  surveys_stored =
      surveys_more limits m edge_stored (none_kept limits edge_stored m (rw duct_word duct_small))
      ∙ surveys_same limits m t edge_stored
      (λ s h. kept_same limits t edge_stored s (old_word Column.duct s h) (old_word Column.survey s h))

  -- so a table that keeps those words has the surveys from before
  pub surveys_with_edge : {vs es t' : List ℕ} → Frame limits vs es edge_stored t' → apart survey_columns es ≡ true
      → surveys_in limits (suc m) t' ≡ surveys_in limits m t
  surveys_with_edge f q = same_surveys f (suc m) room q ∙ surveys_stored

  -- it is valid if the names, sizes, marks and forest that it holds are
  pub valid_with_edge : {t' : List ℕ} → network_of limits n (suc m) t' ≡ after → length t' ≡ length t
      → KindValid t' (vertex_area limits) n (component after)
      → KindValid t' (bridge_block_area limits) n (bridge_block after)
      → Counts t' (bridge_block_area limits) n (bridge_block after) Column.mark_count (marked_in limits n t')
      → KindValid t' (edge_area limits) (suc m) (block after)
      → ForestValid t' limits n (suc m) after
      → Valid limits n (suc m) t'
  valid_with_edge same as_long components bridge_blocks_lem marks blocks forest =
      record {
        long = rw as_long valid.long;
        small_vertices = valid.small_vertices;
        small_edges = valid.small_edges;
        vertices_fit = valid.vertices_fit;
        edges_fit = room;
        proper = rw same proper_after;
        components = rw same components;
        bridge_blocks_lem = rw same bridge_blocks_lem;
        marks = rw same marks;
        blocks = rw same blocks;
        forest = rw same forest;
      }
