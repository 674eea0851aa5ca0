-- Linking two components, the table before the hanging: the new edge is stored, and the components' names are merged.
use Rattle.std.proofs.Common.{◌≡◌, ℕ, true, ◌⊎◌, List, sym, refl, ◌∙◌, inl, inr}
use Rattle.graph.specs.Network.{Network, Edge, touches, edge_in_duct}
use Rattle.graph.specs.Groups.{component}
use Rattle.graph.proofs.Truth.{or_left, or_right, and_both}
use Rattle.graph.proofs.Mates.{component_refl}
use Rattle.graph.proofs.Ends.{touches_left, touches_right, touches-ends}
use Rattle.table.specs.Inside.Column
use Rattle.forest.proofs.Columns.{among, within, component_columns}
use Rattle.forest.proofs.Frames.{Frame, ◌then◌, frame_merge}
use Rattle.forest.proofs.EdgeToAdd.{EdgeToAdd, edge_of, before, Apart, edge_stored, stored_frame}
use Rattle.forest.proofs.LinkMerge.{component_merges, ends_listed, merge, listed_frame, law}
use Rattle.forest.proofs.LinkSides.{Sides, loser, winner, either_side, sides, changed_are}
use Rattle.forest.proofs.LinkHang.{Linking}

module _ (new : EdgeToAdd) where
  open new use {limits, n, a, b, d}

  abbrev g : Network
  g = before new

  abbrev e : Edge
  e = edge_of new

  -- what is stored before the hanging
  pub merged_frame : (vs es : List ℕ) → within component_columns vs ≡ true → among vs Column.path_vertex ≡ true
      → Frame limits vs es (edge_stored new) (merge new).table
  merged_frame vs es p i =
      listed_frame new vs es i
      then frame_merge limits vs es (ends_listed new) (merge new).table (law new).kept p

  -- all that the hanging asks for
  pub linking : Apart new → Linking new (merge new).table (merge new).count (loser new) (winner new)
  unfolding edge_in_duct
  linking apart = go (loser new) (winner new) (sides new apart)
    where
      go : (u v : ℕ) → Sides new u v → Linking new (merge new).table (merge new).count u v
      go u v s =
          record {
            apart = apart;
            frame = stored_frame new _ _ refl then merged_frame _ _ refl refl;
            changed = changed_are new s;
            at_loser = at_loser s.ends;
            at_winner = at_winner s.ends;
            ends = λ y q. ends y s.ends (touches-ends e y q);
            loser_known = s.loser_known;
            winner_known = s.winner_known;
            parted = s.parted;
            met =
                component_merges n g a b d u v s.loser_known s.winner_known
                ∙ or_right
                (component g u v)
                (and_both
                (either_side new s u ∙ or_left (component_refl g u) (component g v u))
                (either_side new s v ∙ or_right (component g u v) (component_refl g v)));
            smaller = s.smaller;
          }
        where
          at_loser : ((u ≡ b) × (v ≡ a)) ⊎ ((u ≡ a) × (v ≡ b)) → touches e u ≡ true
          at_loser (inl q) = rw q.0 (touches_right e)
          at_loser (inr q) = rw q.0 (touches_left e)

          at_winner : ((u ≡ b) × (v ≡ a)) ⊎ ((u ≡ a) × (v ≡ b)) → touches e v ≡ true
          at_winner (inl q) = rw q.1 (touches_left e)
          at_winner (inr q) = rw q.1 (touches_right e)

          ends : (y : ℕ) → ((u ≡ b) × (v ≡ a)) ⊎ ((u ≡ a) × (v ≡ b)) → (a ≡ y) ⊎ (b ≡ y) → (y ≡ u) ⊎ (y ≡ v)
          ends y (inl q) (inl p) = inr (sym p ∙ sym q.1)
          ends y (inl q) (inr p) = inl (sym p ∙ sym q.0)
          ends y (inr q) (inl p) = inl (sym p ∙ sym q.0)
          ends y (inr q) (inr p) = inr (sym p ∙ sym q.1)
