-- Linking two components: the side that keeps its name and the side that loses it, whose vertices change theirs.
use Rattle.std.proofs.Common.{◌≡◌, ℕ, ◌<◌, ◌≤◌, true, false, cond, not, ◌||◌, eqb, ◌⊎◌, List, [], ◌∷◌, sym, refl, ap, ◌∙◌, ap₂, inl, inr, arith}
use mathlib.Core.Bool.{or_comm, or-false}
use Rattle.graph.specs.Below.{listed, tabulate}
use Rattle.graph.specs.Network.{Network}
use Rattle.graph.specs.Groups.{component}
use Rattle.graph.proofs.Truth.{true_or_false, false_of_not, not_both, or_cases, or_neither_left, not_of_true, not_of_false, eq-eqb, eqb_same}
use Rattle.graph.proofs.Below.{listed_same}
use Rattle.graph.proofs.Mates.{component_sym, component_trans, component_swap}
use Rattle.naming.specs.Rename.{size}
use Rattle.naming.proofs.Merge.{in_merged}
use Rattle.table.specs.Inside.Column
use Rattle.table.specs.Inside.Layout.{cell, vertex_area}
use Rattle.table.specs.Inside.Merge.{name_in, size_in, items_from, better_name, best_over, best_listed}
use Rattle.table.proofs.KindNames.{name_known, same-group}
use Rattle.forest.specs.Inside.Tree.{path_vertices}
use Rattle.forest.proofs.KindWords.{SameWords}
use Rattle.forest.proofs.Frames.{same_components}
use Rattle.forest.proofs.Columns.{edge_columns}
use Rattle.forest.proofs.EdgeToAdd.{EdgeToAdd, before, Apart, edge_stored, stored_frame}
use Rattle.forest.proofs.LinkMerge.{in_either, better_cases, ends_listed, merge, kept_name, before_merge, first_item, second_item, law}

-- Of the ends of a new edge between two components, v keeps its component's name, and u, whose component is no larger, does not.
pub record Sides (new : EdgeToAdd) (u v : ℕ) : Type 0 where
  pub ends : ((u ≡ new.b) × (v ≡ new.a)) ⊎ ((u ≡ new.a) × (v ≡ new.b))
  pub loser_known : u < new.n
  pub winner_known : v < new.n
  pub parted : component (before new) u v ≡ false
  pub winner : name_in new.t (vertex_area new.limits) v ≡ kept_name new
  pub smaller : size new.n (component (before new)) u ≤ size new.n (component (before new)) v

module _ (new : EdgeToAdd) where
  open new use {limits, n, t, valid, a, b, a_known, b_known}

  abbrev g : Network
  g = before new

  abbrev t₁ : List ℕ
  t₁ = edge_stored new

  abbrev t₂ : List ℕ
  t₂ = ends_listed new

  abbrev t₃ : List ℕ
  t₃ = (merge new).table

  abbrev w : ℕ
  w = kept_name new

  abbrev name : ℕ → ℕ
  name x = name_in t (vertex_area limits) x

  word₂ : SameWords t t₂ (vertex_area limits) n
  word₂ = same_components (before_merge new) n valid.vertices_fit refl

  size_of : (x : ℕ) → x < n → size_in t₂ (vertex_area limits) (name x) ≡ size n (component g) x
  size_of x h = word₂ Column.size (name x) refl (name_known valid.components x h) ∙ valid.components.sized x h

  best_is : w ≡ better_name t₂ (vertex_area limits) (name a) (name b)
  unfolding best_listed best_over items_from path_vertices
  best_is =
      ap₂
      (better_name t₂ (vertex_area limits))
      (ap (name_in t₂ (vertex_area limits)) (first_item new) ∙ word₂ Column.name a refl a_known)
      (ap (name_in t₂ (vertex_area limits)) (second_item new) ∙ word₂ Column.name b refl b_known)

  -- The end that loses its component's name, and the one that keeps it.
  abbrev pub loser : ℕ
  loser = cond (eqb (name_in t₁ (vertex_area limits) a) w) b a

  abbrev pub winner : ℕ
  winner = cond (eqb (name_in t₁ (vertex_area limits) a) w) a b

  -- which side is which
  pub sides : Apart new → Sides new loser winner
  sides apart = go (better_cases t₂ (vertex_area limits) (name a) (name b))
    where
      name₁ : name_in t₁ (vertex_area limits) a ≡ name a
      name₁ = (stored_frame new [] edge_columns refl).vertex_word Column.name a (omega arith) (omega (arith, valid.vertices_fit)) refl

      go : ((better_name t₂ (vertex_area limits) (name a) (name b) ≡ name a) × (size_in t₂ (vertex_area limits) (name b) ≤ size_in t₂ (vertex_area limits) (name a)))
          ⊎ ((better_name t₂ (vertex_area limits) (name a) (name b) ≡ name b) × (size_in t₂ (vertex_area limits) (name a) ≤ size_in t₂ (vertex_area limits) (name b)))
          → Sides new loser winner
      go (inl q) =
          rw
          (eq-eqb (name_in t₁ (vertex_area limits) a) w (name₁ ∙ sym (best_is ∙ q.0)))
          record {
            ends = inl (refl, refl);
            loser_known = b_known;
            winner_known = a_known;
            parted = component_swap g b a ∙ apart;
            winner = sym (best_is ∙ q.0);
            smaller = omega (arith, q.1, size_of a a_known, size_of b b_known);
          }
      go (inr q) =
          rw
          (ap (λ k. eqb k w) name₁ ∙ ap (eqb (name a)) (best_is ∙ q.0) ∙ sym (same-group valid.components a b a_known b_known) ∙ apart)
          record {
            ends = inr (refl, refl);
            loser_known = a_known;
            winner_known = b_known;
            parted = apart;
            winner = sym (best_is ∙ q.0);
            smaller = omega (arith, q.1, size_of a a_known, size_of b b_known);
          }

  module _ {u v : ℕ} (s : Sides new u v) where
    -- the components of the two sides are those of the two ends
    pub either_side : (x : ℕ) → in_merged (component (before new)) (a ∷ b ∷ []) x ≡ (component (before new) u x || component (before new) v x)
    unfolding in_merged
    either_side x = go s.ends
      where
        go : ((u ≡ b) × (v ≡ a)) ⊎ ((u ≡ a) × (v ≡ b)) → in_either g a b x ≡ (component g u x || component g v x)
        go (inl q) = rw (q.0, q.1, or-false (component g b x)) (or_comm (component g a x) (component g b x))
        go (inr q) = rw (q.0, q.1, or-false (component g b x))

    -- the vertices of the losing component are those that change their name
    pub changes : (x : ℕ) → x < n → not (eqb (name_in t₂ (vertex_area limits) x) (name_in t₃ (vertex_area limits) x)) ≡ component g u x
    changes x h = go (true_or_false (in_merged (component g) (a ∷ b ∷ []) x))
      where
        side : (component g u x ≡ true) ⊎ (component g v x ≡ true) → not (component g x v) ≡ component g u x
        side (inl q) =
            not_of_false (false_of_not (component g x v) (λ k. not_both (component_trans g u x v q k) s.parted)) ∙ sym q
        side (inr q) =
            not_of_true (component_sym g v x q)
            ∙ sym (false_of_not (component g u x) (λ k. not_both (component_trans g u x v k (component_sym g v x q)) s.parted))

        go : (in_merged (component g) (a ∷ b ∷ []) x ≡ true) ⊎ (in_merged (component g) (a ∷ b ∷ []) x ≡ false)
            → not (eqb (name_in t₂ (vertex_area limits) x) (name_in t₃ (vertex_area limits) x)) ≡ component g u x
        go (inl q) =
            ap₂ (λ i j. not (eqb i j)) (word₂ Column.name x refl h) ((law new).taken x h q ∙ sym s.winner)
            ∙ ap not (sym (same-group valid.components x v h s.winner_known))
            ∙ side (or_cases (component g u x) (component g v x) (sym (either_side x) ∙ q))
        go (inr q) =
            ap (λ j. not (eqb (name_in t₂ (vertex_area limits) x) j)) ((law new).stays x h q)
            ∙ ap not (eqb_same (name_in t₂ (vertex_area limits) x))
            ∙ sym (or_neither_left (component g u x) (component g v x) (sym (either_side x) ∙ q))

    -- they are written down
    pub changed_are : tabulate (merge new).count (cell (merge new).table (vertex_area limits) Column.changed) ≡ listed n (component (before new) u)
    changed_are = (law new).changed ∙ listed_same n _ _ changes
