-- The use of each edge when a step is taken: that of its own edge, of that edge's other mates, and of every other edge.
use mathlib.Core.Bool.{Bool, true, false, not, ◌&&◌}
use mathlib.Core.Logic.{◌⊎◌, inl, inr, ⊎_elim}
use mathlib.Core.Path.{◌≡◌, refl, sym, ◌∙◌, ap}
use Prim.Native.Nat.{ℕ, suc, ◌<◌}
use native.Mathlib.Omega.{arith}
use lib.Dec.{eqb}
use Rattle.graph.specs.Network.{Network, MateRule, edge, edge_count, mates}
use Rattle.graph.proofs.Truth.{true_or_false, false_of_not, not_both, bool_ext, and_left, and_right, and_both, false_of_not_true}
use Rattle.graph.proofs.Truth.{eqb_eq, eq-eqb, ne_eqb}
use Rattle.graph.proofs.Below.{any_below_lem, some_below, any_below-same}
use Rattle.graph.proofs.Mates.{mates_refl, mates_sym, mates_trans, mates_swap}
use Rattle.ways.specs.Used.{Used, is_used, mate_used, step_taken, Usable, StepFits}
use Rattle.ways.proofs.UsedSteps.{used_from_lem, not_used, taken_off, taken_new, taken_again, UsedThen, newly, before, used_then, free_of_mates}
use Rattle.routes.specs.declared.uses.Use.TheVariants as U
use Rattle.routes.specs.Inside.Lists.{used_along, use_of}
use Rattle.routes.specs.Inside.Walks.{taken_use, mates_use, is_other_mate}

-- an edge that was used is free when a step along it is taken, and so are its mates
used_taken : (a left : Bool) → taken_use (used_along a) left ≡ U.Free
unfolding used_along taken_use
used_taken true left = refl
used_taken false left = refl

mates_freed : (a : Bool) → mates_use (used_along a) ≡ U.Free
unfolding used_along mates_use
mates_freed true = refl
mates_freed false = refl

module _ (g : Network) (u : Used) (s : ℕ) where
  -- the use of an edge that is used
  where_used : is_used u s ≡ true → use_of g u s ≡ used_along (eqb (u s) (suc (edge g s).left))
  unfolding use_of
  where_used e = rw e

  -- of one that is not, but a mate of which is
  where_mate_used : is_used u s ≡ false → mate_used g u s ≡ true → use_of g u s ≡ U.MateUsed
  unfolding use_of
  where_mate_used n m = rw (n, m)

  -- and of one of which no mate is
  where_free : is_used u s ≡ false → mate_used g u s ≡ false → use_of g u s ≡ U.Free
  unfolding use_of
  where_free n m = rw (n, m)

  -- a mate of a used edge is one of which a mate is used
  mate_used_lem : (t : ℕ) → t < edge_count g → is_used u t ≡ true → mates g s t ≡ true → mate_used g u s ≡ true
  unfolding mate_used
  mate_used_lem t h e m = any_below_lem (edge_count g) (λ t. mates g s t && is_used u t) t h (and_both m e)

  -- an edge each mate of which is not used is one of which none is
  no_mate_used : ((t : ℕ) → mates g s t ≡ true → is_used u t ≡ true → ⊥) → mate_used g u s ≡ false
  unfolding mate_used
  no_mate_used f = false_of_not (mate_used g u s) (λ e.
      let b = some_below (edge_count g) (λ t. mates g s t && is_used u t) e in
      let t = b.at in
      f t (and_left (mates g s t) (is_used u t) b.passes) (and_right (mates g s t) (is_used u t) b.passes))

module _ (g : Network) (rule : MateRule g.rule) (u : Used) (x s : ℕ) (usable : Usable g u) (fits : StepFits g u x s) where
  -- what is used once the step is taken
  abbrev next : Used
  next = step_taken u x s

  -- where the step's edge was used, no mate of it is used then
  none_then : is_used u s ≡ true → (t : ℕ) → mates g s t ≡ true → is_used next t ≡ true → ⊥
  unfolding is_used
  none_then k t m e = go (used_then u x s t e)
    where
      go : UsedThen u x s t → ⊥
      go (newly q n _) = not_both k n
      go (before l _) = not_both e (ap (λ v. not (eqb v 0)) (ap next (sym (usable.no_mates s t k l m)) ∙ taken_again u x s k))

  -- where it was not, it is used from the step's beginning
  new_then : mate_used g u s ≡ false → (is_used u s ≡ false) × (next s ≡ suc x)
  new_then f =
      let n = false_of_not (is_used u s) (λ k. free_of_mates g u s s f fits.known k (mates_refl g s)) in
      (n, taken_new u x s (not_used u s n))

  -- the use of the step's edge
  pub own_use : use_of g next s ≡ taken_use (use_of g u s) (eqb (edge g s).left x)
  unfolding taken_use
  own_use = ⊎_elim was_used was_free fits.used_or_free
    where
      was_used : is_used u s ≡ true → use_of g next s ≡ taken_use (use_of g u s) (eqb (edge g s).left x)
      was_used k = where_free g next s (false_of_not (is_used next s) (none_then k s (mates_refl g s))) (no_mate_used g next s (none_then k))
          ∙ rw (where_used g u s k, used_taken (eqb (u s) (suc (edge g s).left)) (eqb (edge g s).left x))

      was_free : mate_used g u s ≡ false → use_of g next s ≡ taken_use (use_of g u s) (eqb (edge g s).left x)
      was_free f =
          let (n, new) = new_then f in
          where_used g next s (used_from_lem next s x new) ∙ rw (new, where_free g u s n f) (ap used_along (same_end x (edge g s).left))
        where
          same_end : (a b : ℕ) → eqb (suc a) (suc b) ≡ eqb b a
          same_end a b = bool_ext (eqb (suc a) (suc b)) (eqb b a)
              (λ e. eq-eqb b a (omega (arith, eqb_eq (suc a) (suc b) e))) (λ e. eq-eqb (suc a) (suc b) (omega (arith, eqb_eq b a e)))

  -- that of its other mates
  pub mate_use : (r : ℕ) → is_other_mate g s r ≡ true → use_of g next r ≡ mates_use (use_of g u s)
  unfolding is_other_mate mates_use
  mate_use r o = ⊎_elim was_used was_free fits.used_or_free
    where
      m : mates g s r ≡ true
      m = and_right (not (eqb s r)) (mates g s r) o

      was_used : is_used u s ≡ true → use_of g next r ≡ mates_use (use_of g u s)
      was_used k = where_free g next r (false_of_not (is_used next r) (none_then k r m))
          (no_mate_used g next r (λ t l e. none_then k t (mates_trans g rule s r t m l) e))
          ∙ rw (where_used g u s k, mates_freed (eqb (u s) (suc (edge g s).left)))

      was_free : mate_used g u s ≡ false → use_of g next r ≡ mates_use (use_of g u s)
      was_free f =
          let (n, new) = new_then f in
          where_mate_used g next r (false_of_not (is_used next r) (λ e. go (used_then u x s r e)))
          (mate_used_lem g next r s fits.known (used_from_lem next s x new) (mates_sym g rule s r m))
          ∙ rw (where_free g u s n f)
        where
          go : UsedThen u x s r → ⊥
          go (newly q _ _) = not_both (eq-eqb s r (sym q)) (false_of_not_true (eqb s r) (and_left (not (eqb s r)) (mates g s r) o))
          go (before l _) = free_of_mates g u s r f (usable.known r l) l m

  -- and that of every other edge, which stays
  pub other_use : (r : ℕ) → mates g s r ≡ false → use_of g next r ≡ use_of g u r
  unfolding use_of is_used mate_used
  other_use r n = rw (
    taken_off u x s r differs,
    any_below-same (edge_count g) (λ t. mates g r t && is_used next t) (λ t. mates g r t && is_used u t)
        (λ t h. agree t (true_or_false (eqb t s))),
  )
    where
      differs : eqb r s ≡ false
      differs = ne_eqb r s (λ q. not_both (mates_refl g s) (rw q at n))

      agree : (t : ℕ) → (eqb t s ≡ true) ⊎ (eqb t s ≡ false) → (mates g r t && is_used next t) ≡ (mates g r t && is_used u t)
      agree t (inl q) = rw (eqb_eq t s q, mates_swap g rule r s, n)
      agree t (inr d) = ap (λ v. mates g r t && not (eqb v 0)) (taken_off u x s t d)
