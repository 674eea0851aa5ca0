-- One edge more: whatever outlived so many losses still does.
use mathlib.Core.Bool.{true, false, ◌||◌}
use mathlib.Core.List.{List, [], ◌∷◌}
use mathlib.Core.Logic.{◌⊎◌, inl, inr}
use mathlib.Core.Path.{◌≡◌, sym, ◌∙◌}
use Prim.Native.Nat.{ℕ, ◌<◌, ◌≤◌}
use native.Mathlib.Omega.{arith}
use lib.ListN.{length}
use Rattle.graph.specs.Below.{any_below}
use Rattle.graph.specs.Network.{Network, Edge, MateRule, edge_count, add_edge, mates, nothing}
use Rattle.graph.specs.Groups.{outlive_two}
use Rattle.graph.specs.EdgeConnected.{loss_of_all, OnlyEdges, Outlives}
use Rattle.graph.proofs.Truth.{true_or_false, false_of_not, not_both, or_left, or_right, or_cases}
use Rattle.graph.proofs.Below.{some_below, none_below}
use Rattle.graph.proofs.Members.{is_in_head, is_in_tail}
use Rattle.graph.proofs.Joined.{joined_less_lost, joined_old, old_or_new}
use Rattle.graph.proofs.Mates.{mates_sym, mates_trans}
use Rattle.graph.proofs.MateLoss.{mates_old}
use Rattle.graph.proofs.Outlives.{only_edges_nil, only_edges_cons, outlive_two_exactly}

module _ (g : Network) (e : Edge) (rule : MateRule g.rule) where
  -- the network with one edge more
  abbrev more : Network
  more = add_edge g e

  -- the rule is the same
  more_rule : MateRule more.rule
  unfolding add_edge
  more_rule = rule

  -- no more edges of the network, whose loss takes every old edge that the loss of these edges takes once there is one edge more
  record OldLosses (rs : List ℕ) : Type 0 where
    edges : List ℕ
    few : length edges ≤ length rs
    known : OnlyEdges g edges
    cover : (t : ℕ) → t < edge_count g → loss_of_all more rs t ≡ true → loss_of_all g edges t ≡ true

  -- an edge that takes no old edge adds nothing
  none_old : (r : ℕ) (rs : List ℕ) → OldLosses rs → ((t : ℕ) → t < edge_count g → mates more r t ≡ false) → OldLosses (r ∷ rs)
  unfolding loss_of_all
  none_old r rs o none =
      record { edges = o.edges; few = omega (arith, o.few); known = o.known; cover = λ t h l. o.cover t h (rw (none t h) at l) }

  -- an edge that takes no more old edges than edge s adds edge s
  one_old : (r : ℕ) (rs : List ℕ) → OldLosses rs → (s : ℕ) → s < edge_count g
      → ((t : ℕ) → t < edge_count g → mates more r t ≡ true → mates g s t ≡ true) → OldLosses (r ∷ rs)
  unfolding loss_of_all
  one_old r rs o s k takes =
      record {
        edges = s ∷ o.edges;
        few = omega (arith, o.few);
        known = only_edges_cons g s o.edges k o.known;
        cover = λ t h l. go t h (or_cases (mates more r t) (loss_of_all more rs t) l);
      }
    where
      go : (t : ℕ) → t < edge_count g → (mates more r t ≡ true) ⊎ (loss_of_all more rs t ≡ true)
          → (mates g s t || loss_of_all g o.edges t) ≡ true
      go t h (inl m) = or_left (takes t h m) (loss_of_all g o.edges t)
      go t h (inr l) = or_right (mates g s t) (o.cover t h l)

  -- an old edge takes those that it took, and the new one those of an old mate, or none
  another : (r : ℕ) (rs : List ℕ) → OldLosses rs → (r < edge_count g) ⊎ (r ≡ edge_count g) → OldLosses (r ∷ rs)
  another r rs o (inl k) = one_old r rs o r k (λ t h m. sym (mates_old g e r t k h) ∙ m)
  another r rs o (inr q) = go (true_or_false (any_below (edge_count g) (mates more r)))
    where
      go : (any_below (edge_count g) (mates more r) ≡ true) ⊎ (any_below (edge_count g) (mates more r) ≡ false) → OldLosses (r ∷ rs)
      go (inl y) =
          let s = some_below (edge_count g) (mates more r) y in
          one_old r rs o s.at s.below (λ t h m.
          sym (mates_old g e s.at t s.below h)
          ∙ mates_trans more more_rule s.at r t (mates_sym more more_rule r s.at s.passes) m)
      go (inr n) = none_old r rs o (none_below (edge_count g) (mates more r) n)

  -- so every list of edges has such
  old_losses : (rs : List ℕ) → OnlyEdges more rs → OldLosses rs
  unfolding loss_of_all nothing
  old_losses [] known = record { edges = []; few = omega arith; known = only_edges_nil g; cover = λ t h l. l }
  old_losses (r ∷ rs) known =
      another r rs (old_losses rs (λ t i. known t (is_in_tail t r rs i))) (old_or_new g e r (known r (is_in_head r rs)))

  -- what outlived so many losses still does
  pub outlives_grows : (k x y : ℕ) → Outlives k g x y → Outlives k more x y
  outlives_grows k x y w rs few known =
      let o = old_losses rs known in
      joined_old g e (loss_of_all more rs) x y
      (joined_less_lost g (loss_of_all g o.edges) (loss_of_all more rs)
      (λ t h kept. false_of_not (loss_of_all more rs t) (λ l. not_both (o.cover t h l) kept)) x y
      (w o.edges (omega (arith, o.few)) o.known))

  -- so vertices that outlived two losses do so with one edge more
  pub outlive_two_grows : (x y : ℕ) → outlive_two g x y ≡ true → outlive_two more x y ≡ true
  outlive_two_grows x y two = (outlive_two_exactly more x y).1 (outlives_grows 2 x y ((outlive_two_exactly g x y).0 two))
