-- Bridges and blocks: a bridge is an edge whose block holds its mates alone.
use mathlib.Core.Bool.{Bool, true, false, not, ◌&&◌}
use mathlib.Core.Logic.{⊎_elim, ◌↔◌}
use mathlib.Core.Path.{◌≡◌, refl, sym, ◌∙◌, subst}
use Prim.Native.Nat.{ℕ, ◌<◌}
use lib.Dec.{eqb}
use Rattle.graph.specs.Network.{Network, MateRule, Proper, edge, edge_count, touches, mates, loss_of, without, joined}
use Rattle.graph.specs.Groups.{bridge}
use Rattle.graph.specs.Cycle.{joins, any_step}
use Rattle.graph.specs.Block.{block}
use Rattle.graph.proofs.Truth.{true_or_false, false_of_not, not_both, bool_ext, and_left, and_right, and_both, not_of_true}
use Rattle.graph.proofs.Truth.{not_of_false, false_of_not_true, or_neither, eqb_eq, eqb_same, eqb_swap}
use Rattle.graph.proofs.Joined.{joined_refl, joined_sym, joined_trans, joined_least}
use Rattle.graph.proofs.Walks.{joins-ends, joins_swap, joins-joined, walk_joined}
use Rattle.graph.proofs.Joins.{touches_no_third, joins_back}
use Rattle.graph.proofs.Block.{block_sym}
use Rattle.graph.proofs.Links.{linked_edges_share_block}
use Rattle.graph.proofs.Steps.{any_more}
use Rattle.graph.proofs.Ear.{Through, block_around}
use Rattle.graph.proofs.Mates.{mates_sym}
use Rattle.graph.proofs.CommonCycle.{no_mate_crossed}

-- an edge that shares its block with one that is no mate is no bridge
pub shared_no_bridge : (g : Network) → Proper g → MateRule g.rule → (s t : ℕ) → s < edge_count g → t < edge_count g
    → block g s t ≡ true → mates g s t ≡ false → bridge g s ≡ false
unfolding bridge loss_of
shared_no_bridge g proper rule s t h k e n =
    not_of_true
    (walk_joined g (loss_of g s) way.steps (edge g s).left (edge g s).right way.lead
    (false_of_not (any_step (λ q. mates g s q.along) way.steps) crossed))
  where
    way : Through g t (edge g s).left (edge g s).right
    way = block_around g proper t s k (block_sym g s t e)

    crossed : any_step (λ q. mates g s q.along) way.steps ≡ true → ⊥
    crossed c =
        not_both
        (any_more (λ q. mates g s q.along) (λ q. mates g q.along s) (λ q. mates_sym g rule s q.along) way.steps c)
        (no_mate_crossed g rule t s (edge g s).left (edge g s).right (joins-ends (edge g s)) way
        (false_of_not (mates g t s) (λ i. not_both (mates_sym g rule t s i) n)))

-- a bridge and its mates are a block by themselves
pub lone_edge : (g : Network) → Proper g → MateRule g.rule → (s t : ℕ) → s < edge_count g → t < edge_count g
    → bridge g s ≡ true → block g s t ≡ true → mates g s t ≡ true
lone_edge g proper rule s t h k b e =
    ⊎_elim (λ m. m) (λ n. absurd (not_both b (shared_no_bridge g proper rule s t h k e n))) (true_or_false (mates g s t))

-- vertex y is not the left end of edge s, and without that is joined to the right end
far_side : Network → ℕ → ℕ → Bool
far_side g s y = not (eqb y (edge g s).left) && joined g (without g (edge g s).left) y (edge g s).right

module _ (g : Network) (s : ℕ) (h : s < edge_count g)
    (alone : (t : ℕ) → t < edge_count g → block g s t ≡ true → mates g s t ≡ true) where
  far_step : (e x y : ℕ) → e < edge_count g → loss_of g s e ≡ false → joins (edge g e) x y ≡ true
      → far_side g s x ≡ true → far_side g s y ≡ true
  unfolding far_side loss_of without
  far_step e x y k n j f =
      ⊎_elim (λ i. absurd (back i)) (λ i. and_both (not_of_false i) (on i)) (true_or_false (eqb y a))
    where
      a : ℕ
      a = (edge g s).left

      b : ℕ
      b = (edge g s).right

      to_x : joined g (without g a) x b ≡ true
      to_x = and_right (not (eqb x a)) (joined g (without g a) x b) f

      not_x : eqb x a ≡ false
      not_x = false_of_not_true (eqb x a) (and_left (not (eqb x a)) (joined g (without g a) x b) f)

      back : eqb y a ≡ true → ⊥
      back i =
          not_both
          (alone e k (linked_edges_share_block g s e h k
          (record {
            meeting = a;
            first = b;
            second = x;
            first_ends = joins-ends (edge g s);
            second_ends = subst (λ (z : ℕ). joins (edge g e) z x ≡ true) (eqb_eq y a i) (joins_swap (edge g e) y x ∙ j);
            around = joined_sym g (without g a) x b to_x;
          })))
          n

      on : eqb y a ≡ false → joined g (without g a) y b ≡ true
      on i =
          joined_trans g (without g a) y x b
          (joins-joined g (without g a) e k
          (false_of_not (touches (edge g e) a) (λ c. not_both (touches_no_third (edge g e) a x y j c) (or_neither not_x i)))
          y x (joins_swap (edge g e) y x ∙ j))
          to_x

  far_edge : (e : ℕ) → e < edge_count g → loss_of g s e ≡ false → far_side g s (edge g e).left ≡ far_side g s (edge g e).right
  far_edge e k n =
      bool_ext (far_side g s (edge g e).left) (far_side g s (edge g e).right)
      (far_step e (edge g e).left (edge g e).right k n (joins-ends (edge g e)))
      (far_step e (edge g e).right (edge g e).left k n (joins_back (edge g e)))

-- an edge whose block holds its mates alone is a bridge
pub bridge_of_alone : (g : Network) → Proper g → (s : ℕ) → s < edge_count g
    → ((t : ℕ) → t < edge_count g → block g s t ≡ true → mates g s t ≡ true) → bridge g s ≡ true
unfolding bridge far_side
bridge_of_alone g proper s h alone =
    not_of_false (false_of_not (joined g (loss_of g s) a b) (λ e. not_both there (sym (same e) ∙ here)))
  where
    a : ℕ
    a = (edge g s).left

    b : ℕ
    b = (edge g s).right

    same : joined g (loss_of g s) a b ≡ true → far_side g s a ≡ far_side g s b
    same = joined_least (λ x y. far_side g s x ≡ far_side g s y)
        (record { refl = λ x. refl; symm = λ x y p. sym p; trans = λ x y z p q. p ∙ q }) g (loss_of g s) (far_edge g s h alone) a b

    here : far_side g s a ≡ false
    here = rw eqb_same

    there : far_side g s b ≡ true
    there = and_both (not_of_false (eqb_swap b a ∙ proper.no_loop s h)) (joined_refl g (without g a) b)

-- the bridges are the edges whose blocks hold their mates alone
pub bridge_is_lone : (g : Network) → Proper g → MateRule g.rule → (s : ℕ) → s < edge_count g
    → (bridge g s ≡ true) ↔ ((t : ℕ) → t < edge_count g → block g s t ≡ true → mates g s t ≡ true)
bridge_is_lone g proper rule s h = (λ b t k. lone_edge g proper rule s t h k b, bridge_of_alone g proper s h)
