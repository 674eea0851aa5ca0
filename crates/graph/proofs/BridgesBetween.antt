-- The bridges between two vertices: exactly those, none twice, in an order that is strict and total on them.
use mathlib.Core.Bool.{true, false, ◌&&◌}
use mathlib.Core.List.{List, [], reverse}
use mathlib.Core.Logic.{inl, inr, ⊎_elim, ◌≢◌}
use mathlib.Core.Path.{◌≡◌, sym, ◌∙◌, ap}
use Prim.Native.Nat.{ℕ, ◌<◌}
use native.Mathlib.Omega.{arith}
use lib.Dec.{ltb}
use Rattle.graph.specs.Below.{any_below}
use Rattle.graph.specs.Lists.{is_in, distinct, ordered}
use Rattle.graph.specs.Network.{Network, Loss, MateRule, edge, edge_count, mates, nothing, loss_of, joined}
use Rattle.graph.specs.Groups.{component, parts, bridge}
use Rattle.graph.specs.Between.{least_mate, is_bridge_between, bridge_before, bridges_between}
use Rattle.graph.proofs.Truth.{true_or_false, false_of_not, not_both, bool_ext, not_of_false, false_of_not_true, and_left, and_right}
use Rattle.graph.proofs.Truth.{and_both, ltb_lt, lt-ltb, ltb_ge}
use Rattle.graph.proofs.Below.{any_below_lem, none_below, some_below}
use Rattle.graph.proofs.Joined.{joined_sym, joined_trans, joined-edge, joined_less_lost}
use Rattle.graph.proofs.Mates.{mates_sym, mates_carry}
use Rattle.graph.proofs.Losses.{AtEnd, joined_stays, joined_or_at_ends}
use Rattle.graph.proofs.Sort.{Strict, ordered_unique, is_in_sorted, distinct_sorted, sorted_none}
use Rattle.graph.proofs.Parting.{Parting, parting_strict, parting_ordered, parting_reversed, parts-component}
use Rattle.graph.proofs.Parting.{parts-apart, parts_swap, parts_across, parts_self}

module _ (g : Network) where
  -- an edge that has a mate below it is not the least of its mates
  not_least : (s t : ℕ) → t < s → mates g t s ≡ true → least_mate g s ≡ true → ⊥
  unfolding least_mate
  not_least s t h m e = not_both (any_below_lem s (λ u. mates g u s) t h m) (false_of_not_true (any_below s (λ u. mates g u s)) e)

  -- of mates only one is the least
  pub least_mates_differ : MateRule g.rule → (s t : ℕ) → least_mate g s ≡ true → least_mate g t ≡ true → s ≢ t → mates g s t ≡ false
  least_mates_differ r s t e f d = false_of_not (mates g s t) (λ m. ⊎_elim
      (λ k. not_least t s (ltb_lt s t k) m f)
      (λ k. not_least s t (omega (arith, ltb_ge s t k)) (mates_sym g r s t m) e)
      (true_or_false (ltb s t)))

  module _ (a b : ℕ) where
    -- a bridge between a and b is the least of its mates
    pub bridge_between_least : (s : ℕ) → is_bridge_between g a b s ≡ true → least_mate g s ≡ true
    unfolding is_bridge_between
    bridge_between_least s e = and_left (least_mate g s) (parts g (loss_of g s) a b) e

    -- the loss of a bridge between a and b parts them
    pub bridge-between-parts : (s : ℕ) → is_bridge_between g a b s ≡ true → parts g (loss_of g s) a b ≡ true
    unfolding is_bridge_between
    bridge-between-parts s e = and_right (least_mate g s) (parts g (loss_of g s) a b) e

  module _ (r : MateRule g.rule) where
    -- what is joined to x by edges that do not lead to edge s is joined to it without s
    pub joined-without-edge : (s : ℕ) (lost : Loss) (x : ℕ) → joined g lost x (edge g s).left ≡ false
        → (y : ℕ) → joined g lost x y ≡ true → joined g (loss_of g s) x y ≡ true
    unfolding loss_of
    joined-without-edge s lost x n = joined_stays g lost (mates g s) x (λ t h k i. false_of_not (mates g s t) (λ m. not_both
        (mates_carry g r (λ u v. (joined g lost x u ≡ true) × (joined g lost x v ≡ true)) (λ u v p. (p.1, p.0)) s t m
        (i, joined_trans g lost x (edge g t).left (edge g t).right i (joined-edge g lost t h k))).0
        n))

    -- a vertex of the component of edge t is joined to one of its ends, also where t is lost
    pub joined_to_end : (t x : ℕ) → component g x (edge g t).left ≡ true → AtEnd g (loss_of g t) t x
    unfolding loss_of component
    joined_to_end t x e = ⊎_elim inl (λ p. p.0)
        (joined_or_at_ends g r (mates g t) nothing t (λ s k l. l) x (edge g t).left e)

    -- where the loss of t parts x from s, t is joined to x without s
    pub reached_without_edge : (s t : ℕ) → t < edge_count g → mates g s t ≡ false → (x : ℕ)
        → joined g (loss_of g t) x (edge g s).left ≡ false → component g x (edge g t).left ≡ true
        → joined g (loss_of g s) x (edge g t).left ≡ true
    unfolding loss_of
    reached_without_edge s t h m x n e = ⊎_elim (stay (edge g t).left)
        (λ i. joined_trans g (mates g s) x (edge g t).right (edge g t).left (stay (edge g t).right i)
        (joined_sym g (mates g s) (edge g t).left (edge g t).right (joined-edge g (mates g s) t h m)))
        (joined_to_end t x e)
      where
        stay : (y : ℕ) → joined g (loss_of g t) x y ≡ true → joined g (loss_of g s) x y ≡ true
        stay = joined-without-edge s (loss_of g t) x n

    module _ (a b : ℕ) where
      -- a bridge between a and b is an edge of the network
      pub bridge_between_known : (s : ℕ) → is_bridge_between g a b s ≡ true → s < edge_count g
      unfolding loss_of component
      bridge_between_known s e = ltb_lt s (edge_count g)
          (⊎_elim (λ k. k) (λ k. ⊎_elim (mate k) none (true_or_false (any_below (edge_count g) (mates g s))))
          (true_or_false (ltb s (edge_count g))))
        where
          mate : ltb s (edge_count g) ≡ false → any_below (edge_count g) (mates g s) ≡ true → ltb s (edge_count g) ≡ true
          mate k q = let w = some_below (edge_count g) (mates g s) q in
              absurd (not_least s w.at (omega (arith, w.below, ltb_ge s (edge_count g) k)) (mates_sym g r s w.at w.passes)
              (bridge_between_least a b s e))

          none : any_below (edge_count g) (mates g s) ≡ false → ltb s (edge_count g) ≡ true
          none q = absurd (not_both
              (joined_less_lost g nothing (mates g s) (λ t h i. none_below (edge_count g) (mates g s) q t h) a b
              (parts-component g (loss_of g s) a b (bridge-between-parts a b s e)))
              (parts-apart g (loss_of g s) a b (bridge-between-parts a b s e)))

      -- the loss of a bridge between a and b parts its own ends
      pub bridge_between_is_bridge : (s : ℕ) → is_bridge_between g a b s ≡ true → bridge g s ≡ true
      unfolding bridge loss_of component
      bridge_between_is_bridge s e = not_of_false (false_of_not (joined g (mates g s) (edge g s).left (edge g s).right) (λ j. not_both
          (⊎_elim (λ i. i)
          (λ p. joined_trans g (mates g s) a (edge g s).left b (to_left j a p.0)
          (joined_sym g (mates g s) b (edge g s).left (to_left j b p.1)))
          (joined_or_at_ends g r (mates g s) nothing s (λ t k l. l) a b
          (parts-component g (loss_of g s) a b (bridge-between-parts a b s e))))
          (parts-apart g (loss_of g s) a b (bridge-between-parts a b s e))))
        where
          to_left : joined g (mates g s) (edge g s).left (edge g s).right ≡ true → (x : ℕ) → AtEnd g (mates g s) s x
              → joined g (mates g s) x (edge g s).left ≡ true
          to_left j x (inl k) = k
          to_left j x (inr k) = joined_trans g (mates g s) x (edge g s).right (edge g s).left k
              (joined_sym g (mates g s) (edge g s).left (edge g s).right j)

      -- two bridges between a and b are no mates
      pub bridges_between_no_mates : (s t : ℕ) → is_bridge_between g a b s ≡ true → is_bridge_between g a b t ≡ true
          → s ≢ t → mates g s t ≡ false
      bridges_between_no_mates s t e f =
          least_mates_differ r s t (bridge_between_least a b s e) (bridge_between_least a b t f)

      -- of two different ones the first comes before the second exactly if its left end is joined to the start without the second
      bridge_before_left : (s t : ℕ) → is_bridge_between g a b s ≡ true → is_bridge_between g a b t ≡ true → s ≢ t
          → (x : ℕ) → bridge_before g x s t ≡ joined g (loss_of g t) x (edge g s).left
      unfolding bridge_before loss_of
      bridge_before_left s t e f d x =
          bool_ext (bridge_before g x s t) (joined g (mates g t) x (edge g s).left)
          (and_left (joined g (mates g t) x (edge g s).left) (joined g (mates g t) x (edge g s).right))
          (λ k. and_both k (joined_trans g (mates g t) x (edge g s).left (edge g s).right k
          (joined-edge g (mates g t) s (bridge_between_known s e) (bridges_between_no_mates t s f e (λ q. d (sym q))))))

      -- none comes before itself
      not_before_self : (s : ℕ) → is_bridge_between g a b s ≡ true → (x : ℕ) → bridge_before g x s s ≡ false
      unfolding bridge_before bridge
      not_before_self s e x = false_of_not (bridge_before g x s s) (λ k. not_both
          (joined_trans g (loss_of g s) (edge g s).left x (edge g s).right
          (joined_sym g (loss_of g s) x (edge g s).left
          (and_left (joined g (loss_of g s) x (edge g s).left) (joined g (loss_of g s) x (edge g s).right) k))
          (and_right (joined g (loss_of g s) x (edge g s).left) (joined g (loss_of g s) x (edge g s).right) k))
          (false_of_not_true (joined g (loss_of g s) (edge g s).left (edge g s).right) (bridge_between_is_bridge s e)))

      bridge_parting : Parting g (is_bridge_between g a b) (loss_of g) (λ s. (edge g s).left) (bridge_before g) a b
      bridge_parting = record {
        parted = bridge-between-parts a b;
        stays = λ s e. joined-without-edge s;
        reaches = λ s t e f d. reached_without_edge s t (bridge_between_known t f) (bridges_between_no_mates s t e f d);
        other = bridge_before_left;
        self_left = λ s e. not_before_self s e a;
        self_right = λ s e. not_before_self s e b;
      }

      -- "comes before" is strict and total on the bridges between a and b
      pub bridge_before_strict : Strict (bridge_before g a) (is_bridge_between g a b)
      bridge_before_strict = parting_strict bridge_parting

      -- their list is in that order
      pub bridges_between-ordered : ordered (bridge_before g a) (bridges_between g a b) ≡ true
      unfolding bridges_between
      bridges_between-ordered = parting_ordered bridge_parting (edge_count g)

  module _ (a b : ℕ) where
    -- exactly the bridges between a and b, of the edges that there are, are in their list
    pub bridges_between_exactly : (s : ℕ) → is_in s (bridges_between g a b) ≡ (ltb s (edge_count g) && is_bridge_between g a b s)
    unfolding bridges_between
    bridges_between_exactly s = is_in_sorted (bridge_before g a) (edge_count g) (is_bridge_between g a b) s

    -- exactly the bridges between a and b are in their list
    pub bridges_between_all : MateRule g.rule → (s : ℕ) → is_in s (bridges_between g a b) ≡ is_bridge_between g a b s
    bridges_between_all r s = bridges_between_exactly s
        ∙ bool_ext (ltb s (edge_count g) && is_bridge_between g a b s) (is_bridge_between g a b s)
        (and_right (ltb s (edge_count g)) (is_bridge_between g a b s))
        (λ e. and_both (lt-ltb s (edge_count g) (bridge_between_known r a b s e)) e)

    -- none of them twice
    pub bridges_between-distinct : distinct (bridges_between g a b) ≡ true
    unfolding bridges_between
    bridges_between-distinct = distinct_sorted (bridge_before g a) (edge_count g) (is_bridge_between g a b)

    -- the bridges between b and a are those between a and b
    pub bridge_between_swap : (s : ℕ) → is_bridge_between g b a s ≡ is_bridge_between g a b s
    unfolding is_bridge_between
    bridge_between_swap s = ap (λ p. least_mate g s && p) (parts_swap g (loss_of g s) b a)

    -- and their list is turned round
    pub bridges_between_reversed : MateRule g.rule → bridges_between g b a ≡ reverse (bridges_between g a b)
    unfolding bridges_between
    bridges_between_reversed r = parting_reversed (bridge_parting r a b) (edge_count g) (is_bridge_between g b a) bridge_between_swap

    no_bridges : ((lost : Loss) → parts g lost a b ≡ false) → bridges_between g a b ≡ []
    unfolding bridges_between
    no_bridges w = sorted_none (bridge_before g a) (edge_count g) (is_bridge_between g a b) (λ s h.
        false_of_not (is_bridge_between g a b s) (λ e. not_both (bridge-between-parts a b s e) (w (loss_of g s))))

    -- across components there is none
    pub bridges_between_across : component g a b ≡ false → bridges_between g a b ≡ []
    bridges_between_across e = no_bridges (λ lost. parts_across g lost a b e)

    -- a list in order of exactly the bridges, none twice, is theirs
    pub bridges_between_unique : MateRule g.rule → (l : List ℕ) → ((s : ℕ) → is_in s l ≡ is_bridge_between g a b s)
        → distinct l ≡ true → ordered (bridge_before g a) l ≡ true → l ≡ bridges_between g a b
    bridges_between_unique r l m d o = ordered_unique (bridge_before_strict r a b) l (bridges_between g a b) (λ s k. sym (m s) ∙ k)
        (λ s. m s ∙ sym (bridges_between_all r s)) d bridges_between-distinct o (bridges_between-ordered r a b)

  -- from a vertex to itself there is none
  pub bridges_between_self : (a : ℕ) → bridges_between g a a ≡ []
  bridges_between_self a = no_bridges a a (λ lost. parts_self g lost a)
