-- One edge more keeps the promise, whether it links two components or condenses a path.
use Rattle.std.proofs.Common.{◌≡◌, ℕ, suc, ◌<◌, true, false, eqb, ◌⊎◌, List, [], sym, refl, ◌∙◌, subst, inl, inr, le_refl, add-one, arith}
use Rattle.graph.specs.Groups.{component}
use Rattle.graph.proofs.Truth.{true_or_false}
use Rattle.naming.specs.Book.{feed}
use Rattle.naming.specs.BridgeNames.{BridgesNamed}
use Rattle.naming.specs.State.{after_addition}
use Rattle.naming.proofs.BridgeNames.{bridges_named_edge}
use Rattle.table.specs.Inside.Column
use Rattle.table.specs.Inside.Layout.{vertex_area, bridge_block_area, edge_area}
use Rattle.table.specs.Inside.Merge.{name_in}
use Rattle.table.proofs.KindNames.{name_in_list, same-group}
use Rattle.forest.specs.declared.Growth.{Growth}
use Rattle.forest.specs.Inside.Tree.{GrowsTo, edge_grown}
use Rattle.forest.specs.Inside.Valid.{book_of, Sound}
use Rattle.forest.specs.Promise.{Holds, state_of, vertex_change_at, edge_change_at, EdgeAdded}
use Rattle.forest.proofs.Networks.{state_is}
use Rattle.forest.proofs.ValidBook.{book_laws}
use Rattle.forest.proofs.Changes.{ChangesListed, changes_written, changes_few}
use Rattle.forest.proofs.Columns.{edge_columns}
use Rattle.forest.proofs.EdgeToAdd.{EdgeToAdd, edge_of, before, edge_stored, Grows, proper_after, stored_frame}
use Rattle.forest.proofs.Link.{link_grows}
use Rattle.forest.proofs.Condense.{condense_grows}

module _ (new : EdgeToAdd) where
  open new use {limits, n, m, t, valid, a, b, d, a_known, b_known}

  -- the component names at the ends tell whether the two share a component
  ends_share : eqb (name_in (edge_stored new) (vertex_area limits) a) (name_in (edge_stored new) (vertex_area limits) b) ≡ component (before new) a b
  ends_share = rw (kept a a_known, kept b b_known) (sym (same-group valid.components a b a_known b_known))
    where
      kept : (x : ℕ) → x < n → name_in (edge_stored new) (vertex_area limits) x ≡ name_in t (vertex_area limits) x
      kept x h = (stored_frame new [] edge_columns refl).vertex_word Column.name x (omega arith) (omega (arith, valid.vertices_fit)) refl

  -- whichever way the table grows, it holds the network with the edge, and the changes are written down
  grows : Grows new (edge_grown t limits m a b d)
  unfolding edge_grown
  grows = go (true_or_false (component (before new) a b))
    where
      go : (component (before new) a b ≡ true) ⊎ (component (before new) a b ≡ false) → Grows new (edge_grown t limits m a b d)
      go (inl e) = rw (ends_share ∙ e) (condense_grows new e)
      go (inr e) = rw (ends_share ∙ e) (link_grows new e)

  -- and its bridges are named as they should be
  sound_after : BridgesNamed (book_of limits n m t) → Sound limits n (suc m) (edge_grown t limits m a b d).table
  unfolding book_of
  sound_after named =
      record {
        valid = grows.valid_after;
        bridges_named =
            subst BridgesNamed (sym grows.book_after_lem)
            (bridges_named_edge (book_of limits n m t) (book_laws valid) (edge_of new) (proper_after new) named);
      }

  -- so one edge more keeps the promise
  pub edge_added : BridgesNamed (book_of limits n m t) → (t' : List ℕ) (growth : Growth) → GrowsTo t' growth (edge_grown t limits m a b d)
      → EdgeAdded (record { limits = limits; vertices = n; edges = m }) a b d t t' growth
  unfolding Holds state_of book_of after_addition feed vertex_change_at edge_change_at
  edge_added named t' growth to =
      rw to.table_is
      record {
        holds = rw add-one (∣ sound_after named ∣₁);
        state_is = rw add-one (state_is grows.book_after_lem grows.marked_after grows.surveys_after_lem);
        components_changed = changes_written (vertex_area limits) n n growth.components t after (le_refl n) components;
        bridge_blocks_changed = changes_written (bridge_block_area limits) n n growth.bridge_blocks t after (le_refl n) bridge_blocks_lem;
        blocks_changed = rw add-one (changes_written (edge_area limits) m (suc m) growth.blocks t after (omega arith) blocks);
        few_components = changes_few (vertex_area limits) n n growth.components t after (le_refl n) components;
        few_bridge_blocks = changes_few (bridge_block_area limits) n n growth.bridge_blocks t after (le_refl n) bridge_blocks_lem;
        few_blocks = changes_few (edge_area limits) m (suc m) growth.blocks t after (omega arith) blocks;
        block-name = rw add-one (to.block_is ∙ grows.block-name ∙ sym (name_in_list after (edge_area limits) (suc m) m (omega arith)));
        same_beyond = grows.same_beyond;
      }
    where
      after : List ℕ
      after = (edge_grown t limits m a b d).table

      components : ChangesListed (vertex_area limits) n n growth.components t after
      components = rw to.components_are grows.components

      bridge_blocks_lem : ChangesListed (bridge_block_area limits) n n growth.bridge_blocks t after
      bridge_blocks_lem = rw to.bridge_blocks_are grows.bridge_blocks_lem

      blocks : ChangesListed (edge_area limits) m (suc m) growth.blocks t after
      blocks = rw to.blocks_are grows.blocks
