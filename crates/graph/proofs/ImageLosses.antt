-- The losses of several edges of an image, and which vertices of it outlive them.
use mathlib.Core.Bool.{true, false, ◌||◌}
use mathlib.Core.List.{List, [], ◌∷◌, map}
use mathlib.Core.Logic.{◌⊎◌, inl, inr, ◌↔◌}
use mathlib.Core.Path.{◌≡◌, sym, ◌∙◌, ap₂}
use Prim.Native.Nat.{ℕ, ◌≤◌}
use native.Mathlib.Omega.{arith}
use lib.ListN.{length, length-map}
use Rattle.graph.specs.Below.{any_below}
use Rattle.graph.specs.Network.{Network, Loss, MateRule, edge_count, mates, nothing, loss_of}
use Rattle.graph.specs.Groups.{outlive_two}
use Rattle.graph.specs.EdgeConnected.{loss_of_all, OnlyEdges, Outlives}
use Rattle.graph.proofs.Truth.{true_or_false, bool_ext}
use Rattle.graph.proofs.Below.{NoneBelow, none_below, some_below}
use Rattle.graph.proofs.Members.{is_in_head, is_in_tail}
use Rattle.graph.proofs.Mates.{mates_refl, mates-lost_together}
use Rattle.graph.proofs.Outlives.{only_edges_nil, only_edges_cons, outlive_two_exactly}
use Rattle.graph.proofs.Image.{Image, LossImage, nothing_image, edge_loss_image, joined_image}

-- two losses together are the image of two losses together
both_image : {g h : Network} {p : ℕ → ℕ} {lost lost' more more' : Loss} → LossImage g h p lost lost' → LossImage g h p more more'
    → LossImage g h p (λ s. lost s || more s) (λ r. lost' r || more' r)
both_image v w =
    record {
      agrees = λ s k. ap₂ ◌||◌ (v.agrees s k) (w.agrees s k);
      mates_alike = λ r t m. ap₂ ◌||◌ (v.mates_alike r t m) (w.mates_alike r t m);
    }

-- the loss of edges of h is the image of the loss of no more edges of g
record LossesOf (g h : Network) (p : ℕ → ℕ) (rs : List ℕ) : Type 0 where
  edges : List ℕ
  few : length edges ≤ length rs
  known : OnlyEdges g edges
  is : LossImage g h p (loss_of_all g edges) (loss_of_all h rs)

module _ {g h : Network} {f p : ℕ → ℕ} (i : Image g h f p) (rule : MateRule h.rule) where
  -- the loss of the images of edges is the image of the loss of the edges
  losses_image : (ss : List ℕ) → OnlyEdges g ss → LossImage g h p (loss_of_all g ss) (loss_of_all h (map p ss))
  unfolding loss_of_all loss_of
  losses_image [] k = nothing_image
  losses_image (s ∷ ss) k =
      both_image (edge_loss_image i rule s (p s) (k s (is_in_head s ss)) (mates_refl h (p s)))
      (losses_image ss (λ t e. k t (is_in_tail t s ss e)))

  -- the images of edges are edges
  images_known : (ss : List ℕ) → OnlyEdges g ss → OnlyEdges h (map p ss)
  images_known [] k = only_edges_nil h
  images_known (s ∷ ss) k =
      only_edges_cons h (p s) (map p ss) (i.edge_known s (k s (is_in_head s ss))) (images_known ss (λ t e. k t (is_in_tail t s ss e)))

  -- the loss of an edge that is no mate of the image of one is the image of the loss of nothing
  other_loss_image : (r : ℕ) → NoneBelow (edge_count g) (λ s. mates h r (p s)) → LossImage g h p nothing (loss_of h r)
  unfolding nothing loss_of
  other_loss_image r none = record { agrees = none; mates_alike = mates-lost_together h rule r }

  -- whichever edges are lost, their loss is the image of a loss
  losses_of : (rs : List ℕ) → LossesOf g h p rs
  unfolding loss_of_all loss_of nothing
  losses_of [] = record { edges = []; few = omega arith; known = only_edges_nil g; is = nothing_image }
  losses_of (r ∷ rs) = go (losses_of rs) (true_or_false (any_below (edge_count g) (λ s. mates h r (p s))))
    where
      go : LossesOf g h p rs
          → (any_below (edge_count g) (λ s. mates h r (p s)) ≡ true) ⊎ (any_below (edge_count g) (λ s. mates h r (p s)) ≡ false)
          → LossesOf g h p (r ∷ rs)
      go w (inl e) =
          let s = some_below (edge_count g) (λ s. mates h r (p s)) e in
          record {
            edges = s.at ∷ w.edges;
            few = omega (arith, w.few);
            known = only_edges_cons g s.at w.edges s.below w.known;
            is = both_image (edge_loss_image i rule s.at r s.below s.passes) w.is;
          }
      go w (inr e) =
          record {
            edges = w.edges;
            few = omega (arith, w.few);
            known = w.known;
            is = both_image (other_loss_image r (none_below (edge_count g) (λ s. mates h r (p s)) e)) w.is;
          }

  -- images of vertices outlive as many losses as the vertices
  pub outlives_image : (k x y : ℕ) → Outlives k h (f x) (f y) ↔ Outlives k g x y
  outlives_image k x y = (
    λ w ss l known.
        sym (joined_image i rule (losses_image ss known) x y) ∙ w (map p ss) (rw (length-map ss p) l) (images_known ss known),
    λ w rs l known.
        let o = losses_of rs in
        joined_image i rule o.is x y ∙ w o.edges (omega (arith, o.few, l)) o.known,
  )

  -- images of vertices outlive two losses exactly if the vertices do
  pub outlive_two_image : (x y : ℕ) → outlive_two h (f x) (f y) ≡ outlive_two g x y
  outlive_two_image x y =
      bool_ext (outlive_two h (f x) (f y)) (outlive_two g x y)
      (λ e. (outlive_two_exactly g x y).1 ((outlives_image 2 x y).0 ((outlive_two_exactly h (f x) (f y)).0 e)))
      (λ e. (outlive_two_exactly h (f x) (f y)).1 ((outlives_image 2 x y).1 ((outlive_two_exactly g x y).0 e)))
