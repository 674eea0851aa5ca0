-- What the operations on a network do and tell, over the words that a network holds: the laws of the table's words, as the operations use them.
use Rattle.std.proofs.Common.{◌≡◌, ℕ, ◌+◌, ◌/◌, ◌%◌, ◌<◌, true, false, eqb, List, sym, refl}
use Rattle.graph.specs.Network.{edge_in_duct, parallel, one_duct, edge, mates}
use Rattle.graph.specs.Groups.{component, bridge}
use Rattle.graph.specs.Block.{shared_block}
use Rattle.graph.specs.Between.{bridges_between, cuts_between}
use Rattle.numbers.specs.declared.Shape.{Shape}
use Rattle.table.proofs.KindNames.{same-group}
use Rattle.table.specs.Inside.Column
use Rattle.table.specs.Inside.Layout.{cell, put, vertex_area, edge_area}
use Rattle.table.specs.Inside.Merge.{name_in}
use Rattle.forest.specs.declared.Growth.{Growth}
use Rattle.forest.specs.declared.VertexGroups.{VertexGroups}
use Rattle.forest.specs.declared.VertexGroups.TheVariants as G
use Rattle.forest.specs.Rule.{table_rule}
use Rattle.forest.specs.Inside.Words.{group_area}
use Rattle.forest.specs.Inside.Climb.{climb_table}
use Rattle.forest.specs.Inside.Queries.{bridge_in, are_pair, ends_agree, lost_together, shared_in, bridges_found, cuts_count}
use Rattle.forest.specs.Inside.Tree.{vertex_table, mark_table, GrowsTo, edge_grown}
use Rattle.forest.specs.Inside.Surveys.{survey_table}
use Rattle.forest.specs.Inside.Held.{sound}
use Rattle.forest.specs.Inside.Valid.{stored_edge, book_of}
use Rattle.forest.specs.Promise.{Holds, state_of, book_in, network_in, VertexAdded, EdgeAdded, VertexMarked, SurveyEntered, ListWritten, bridge_at, cut_at, shared_name, vertex_groups}
use Rattle.forest.specs.Promise.{scratch_words, VertexScratchStored, EdgeScratchStored, rule_held}
use Rattle.forest.proofs.AddVertex.{vertex_added}
use Rattle.forest.proofs.AddEdge.{edge_added}
use Rattle.forest.proofs.Marks.{vertex_marked}
use Rattle.forest.proofs.Surveys.{survey-entered}
use Rattle.forest.proofs.Scratch.{vertex_scratch_stored, edge_scratch_stored}
use Rattle.forest.proofs.QueryBridges.{bridges_written_lem}
use Rattle.forest.proofs.QueryCuts.{cuts_written}
use Rattle.forest.proofs.QueryNames.{bridge_in_lem, edge_held}
use Rattle.forest.proofs.QueryShared.{shared_in_lem}

module _ (shape : Shape) (t : List ℕ) (holds : Holds shape t) where
  -- one vertex more
  pub adds_vertex : (t' : List ℕ) → shape.vertices < shape.limits.vertices → t' ≡ vertex_table t shape.limits shape.vertices → VertexAdded shape t t'
  unfolding Holds
  adds_vertex t' room e =
      let s = sound holds in
      rw e (vertex_added shape.limits shape.vertices shape.edges t s.valid room s.bridges_named)

  -- one edge more
  pub adds_edge : (a b d : ℕ) (t' : List ℕ) (growth : Growth) → shape.edges < shape.limits.edges → a < shape.vertices → b < shape.vertices → (a ≡ b → ⊥) → d < 65536
      → GrowsTo t' growth (edge_grown t shape.limits shape.edges a b d) → EdgeAdded shape a b d t t' growth
  unfolding Holds
  adds_edge a b d t' growth room a_known b_known differ small grows =
      let s = sound holds in
      edge_added
      (record {
        limits = shape.limits;
        n = shape.vertices;
        m = shape.edges;
        t = t;
        valid = s.valid;
        room = room;
        a = a;
        b = b;
        d = d;
        a_known = a_known;
        b_known = b_known;
        differ = differ;
        duct_small = small;
      })
      s.bridges_named
      t'
      growth
      grows

  -- a mark
  pub marks_vertex : (x : ℕ) (t' : List ℕ) → x < shape.vertices → (state_of shape t).marked x ≡ false → t' ≡ mark_table t shape.limits x → VertexMarked shape x t t'
  unfolding Holds state_of
  marks_vertex x t' known unmarked e =
      let s = sound holds in
      rw e (vertex_marked shape.limits shape.vertices shape.edges t s.valid x known unmarked s.bridges_named)

  -- a survey
  pub enters_survey : (s day metres : ℕ) (t' : List ℕ) → s < shape.edges → metres < 65536 → t' ≡ survey_table t shape.limits s day metres
      → SurveyEntered shape (record { measured = s; day = day; metres = metres }) t t'
  unfolding Holds
  enters_survey s day metres t' known small e =
      let h = sound holds in
      rw e (survey-entered shape.limits shape.vertices shape.edges t h.valid s day metres known h.bridges_named small)

  -- whether two vertices share a group: their names are one
  pub shares_group : (groups : VertexGroups) (a b : ℕ) → a < shape.vertices → b < shape.vertices
      → eqb (name_in t (group_area shape.limits groups) a) (name_in t (group_area shape.limits groups) b) ≡ vertex_groups groups (network_in shape t) a b
  unfolding Holds state_of book_of
  shares_group G.Components a b h l = sym (same-group (sound holds).valid.components a b h l)
  shares_group G.BridgeBlocks a b h l = sym (same-group (sound holds).valid.bridge_blocks_lem a b h l)

  -- whether an edge is a bridge
  pub tells_bridge : (s : ℕ) → s < shape.edges → bridge_in t shape.limits s ≡ bridge (network_in shape t) s
  unfolding Holds state_of book_of
  tells_bridge s h = bridge_in_lem (sound holds).valid s h

  -- the block that two vertices share
  pub tells_shared : (a b : ℕ) → a < shape.vertices → b < shape.vertices → (a ≡ b → ⊥)
      → shared_in t shape.limits a b ≡ shared_name (book_in shape t).blocks (shared_block (network_in shape t) a b)
  unfolding Holds state_of book_of
  tells_shared a b h l differ = shared_in_lem (sound holds).valid a b h l differ

  -- the bridges and the cut vertices between two vertices
  pub writes_bridges : (a b count : ℕ) (t' : List ℕ) → a < shape.vertices → b < shape.vertices → component (network_in shape t) a b ≡ true
      → t' ≡ (bridges_found t shape.limits a b).table → count ≡ (bridges_found t shape.limits a b).count
      → ListWritten shape t t' (bridge_at shape t') count (bridges_between (network_in shape t) a b)
  writes_bridges a b count t' h l joined e c = rw (e, c) (bridges_written_lem shape t holds a b h l joined)

  pub writes_cuts : (a b count : ℕ) (t' : List ℕ) → a < shape.vertices → b < shape.vertices → component (network_in shape t) a b ≡ true
      → t' ≡ climb_table t shape.limits a b → count ≡ cuts_count t shape.limits a b
      → ListWritten shape t t' (cut_at shape t') count (cuts_between (network_in shape t) a b)
  writes_cuts a b count t' h l joined e c = rw (e, c) (cuts_written shape t holds a b h l joined)

  -- scratch words
  pub stores_vertex_scratch : (k x v : ℕ) (t' : List ℕ) → k < scratch_words → x < shape.limits.vertices → t' ≡ put t (vertex_area shape.limits) (Column.path_vertex + k) x v
      → VertexScratchStored shape k x v t t'
  stores_vertex_scratch k x v t' h l e = rw e (vertex_scratch_stored shape t holds k x v h l)

  pub stores_edge_scratch : (s v : ℕ) (t' : List ℕ) → s < shape.limits.edges → t' ≡ put t (edge_area shape.limits) Column.changed s v → EdgeScratchStored shape s v t t'
  stores_edge_scratch s v t' h e = rw e (edge_scratch_stored shape t holds s v h)

module _ (shape : Shape) (t : List ℕ) where
  -- whether two edges are mates: they are one, or lost together by the table's rule and what it has stored
  by_rule : (s r : ℕ) → s < shape.edges → r < shape.edges
      → lost_together t shape.limits s r ≡ (network_in shape t).rule (edge (network_in shape t) s) (edge (network_in shape t) r)
  unfolding lost_together ends_agree are_pair table_rule one_duct parallel stored_edge edge_in_duct
  by_rule s r h k = rw (rule_held shape t, edge_held shape t s h, edge_held shape t r k) refl

  pub tells_same : (s r : ℕ) → eqb s r ≡ true → mates (network_in shape t) s r ≡ true
  unfolding mates
  tells_same s r e = rw e

  pub tells_other : (s r : ℕ) → eqb s r ≡ false → s < shape.edges → r < shape.edges → mates (network_in shape t) s r ≡ lost_together t shape.limits s r
  unfolding mates
  tells_other s r e h k = rw e (sym (by_rule s r h k))

  -- the two ends of an edge
  pub tells_left : (s : ℕ) → s < shape.edges → cell t (edge_area shape.limits) Column.ends s / 65536 ≡ (edge (network_in shape t) s).left
  unfolding edge_in_duct stored_edge
  tells_left s h = rw (edge_held shape t s h) refl

  pub tells_right : (s : ℕ) → s < shape.edges → cell t (edge_area shape.limits) Column.ends s % 65536 ≡ (edge (network_in shape t) s).right
  unfolding edge_in_duct stored_edge
  tells_right s h = rw (edge_held shape t s h) refl
