-- The use of an edge tells which steps may be taken along it.
use mathlib.Core.Bool.{Bool, true, false, not, cond, ◌&&◌, ◌||◌}
use mathlib.Core.Logic.{◌⊎◌, inl, inr}
use mathlib.Core.Path.{◌≡◌, refl, sym}
use Prim.Native.Nat.{ℕ, suc, ◌<◌}
use lib.Dec.{eqb, eqb-zero-suc, eqb-suc-suc}
use Rattle.graph.specs.Network.{Network, Edge, edge, edge_count, touches, other_end, mates, Proper}
use Rattle.graph.proofs.Truth.{true_or_false, and_both, eqb_eq, eqb_same, eqb_swap}
use Rattle.graph.proofs.Below.{any_below_lem}
use Rattle.graph.proofs.Mates.{mates_refl}
use Rattle.graph.proofs.Ends.{other_end-touches}
use Rattle.ways.specs.Used.{Used, is_used, mate_used, one_more, along_used, Usable}
use Rattle.ways.proofs.UsedSteps.{used_from_lem, not_used}
use Rattle.routes.specs.declared.search.Allowance.{Allowance}
use Rattle.routes.specs.declared.search.Allowance.TheVariants as A
use Rattle.routes.specs.declared.uses.Use.{Use}
use Rattle.routes.specs.declared.uses.Use.TheVariants as U
use Rattle.routes.specs.Inside.Lists.{used_along, use_of}
use Rattle.routes.specs.Inside.Searches.{may_step, allowed_by}

-- whether an edge of this use is used, and none of its mates
unfoldable is_free : Use → Bool
is_free U.Free = true
is_free U.MateUsed = false
is_free U.FromLeft = false
is_free U.FromRight = false

-- one of an edge's two ends is the right one exactly if it is not the left one
right_or_left : (e : Edge) (x : ℕ) → eqb e.left e.right ≡ false → touches e x ≡ true → eqb e.right x ≡ not (eqb e.left x)
unfolding touches
right_or_left e x d t = go (eqb e.left x) refl t
  where
    go : (b : Bool) → eqb e.left x ≡ b → (b || eqb e.right x) ≡ true → eqb e.right x ≡ not b
    go true k t = rw (← eqb_eq e.left x k, eqb_swap e.right e.left) d
    go false k t = t

-- and then the other end is the left one
left_or_other : (e : Edge) (x : ℕ) → eqb e.left e.right ≡ false → not (eqb e.left x) ≡ eqb e.left (other_end e x)
unfolding other_end
left_or_other e x d = go (eqb e.left x)
  where
    go : (b : Bool) → not b ≡ eqb e.left (cond b e.right e.left)
    go true = sym d
    go false = sym (eqb_same e.left)

-- one way more may go along an edge of which no mate is used, and along one that is used from its other end
one_or_back : (used : Use) (left : Bool) → may_step A.OneMore used left ≡ (is_free used || may_step A.AlongUsed used (not left))
unfolding may_step is_free
one_or_back U.Free left = refl
one_or_back U.MateUsed left = refl
one_or_back U.FromLeft left = refl
one_or_back U.FromRight true = refl
one_or_back U.FromRight false = refl

module _ (g : Network) (proper : Proper g) (u : Used) (usable : Usable g u) (s : ℕ) (known : s < edge_count g) where
  -- the use of an edge that is used from its left end, and of one that is used from its right
  left_use : u s ≡ suc (edge g s).left → use_of g u s ≡ U.FromLeft
  unfolding use_of used_along
  left_use e = rw (used_from_lem u s (edge g s).left e, e, eqb_same (suc (edge g s).left))

  right_use : u s ≡ suc (edge g s).right → use_of g u s ≡ U.FromRight
  unfolding use_of used_along
  right_use e =
      rw (
        used_from_lem u s (edge g s).right e,
        e,
        eqb-suc-suc (edge g s).right (edge g s).left,
        eqb_swap (edge g s).right (edge g s).left,
        proper.no_loop s known,
      )

  -- no way along used edges goes along one that is not used
  unused_barred : (x : ℕ) (a : Bool) → is_used u s ≡ false → may_step A.AlongUsed (use_of g u s) a ≡ eqb (u s) (suc x)
  unfolding use_of may_step
  unused_barred x a k = rw (k, not_used u s k, eqb-zero-suc x) (go (mate_used g u s))
    where
      go : (m : Bool) → may_step A.AlongUsed (cond m U.MateUsed U.Free) a ≡ false
      go true = refl
      go false = refl

  -- along another it may go exactly if the edge is used from where the step begins
  along_allowed : (x : ℕ) → touches (edge g s) x ≡ true → may_step A.AlongUsed (use_of g u s) (eqb (edge g s).left x) ≡ eqb (u s) (suc x)
  unfolding may_step
  along_allowed x t = go (true_or_false (is_used u s))
    where
      from : (u s ≡ suc (edge g s).left) ⊎ (u s ≡ suc (edge g s).right)
          → may_step A.AlongUsed (use_of g u s) (eqb (edge g s).left x) ≡ eqb (u s) (suc x)
      from (inl e) = rw (left_use e, e, eqb-suc-suc (edge g s).left x)
      from (inr e) =
          rw (right_use e, e, eqb-suc-suc (edge g s).right x, right_or_left (edge g s) x (proper.no_loop s known) t)

      go : (is_used u s ≡ true) ⊎ (is_used u s ≡ false)
          → may_step A.AlongUsed (use_of g u s) (eqb (edge g s).left x) ≡ eqb (u s) (suc x)
      go (inl k) = from (usable.from_an_end s k)
      go (inr k) = unused_barred x (eqb (edge g s).left x) k

  -- an edge that is used is a mate of itself
  own_mate_used : is_used u s ≡ true → mate_used g u s ≡ true
  unfolding mate_used
  own_mate_used k = any_below_lem (edge_count g) (λ t. mates g s t && is_used u t) s known (and_both (mates_refl g s) k)

  -- one that is not used is free exactly if no mate is
  unused_free : is_used u s ≡ false → is_free (use_of g u s) ≡ not (mate_used g u s)
  unfolding use_of is_free
  unused_free k = rw k (go (mate_used g u s))
    where
      go : (m : Bool) → is_free (cond m U.MateUsed U.Free) ≡ not m
      go true = refl
      go false = refl

  -- and so is any
  free_exactly : is_free (use_of g u s) ≡ not (mate_used g u s)
  unfolding is_free
  free_exactly = go (true_or_false (is_used u s))
    where
      from : is_used u s ≡ true → (u s ≡ suc (edge g s).left) ⊎ (u s ≡ suc (edge g s).right)
          → is_free (use_of g u s) ≡ not (mate_used g u s)
      from k (inl e) = rw (left_use e, own_mate_used k)
      from k (inr e) = rw (right_use e, own_mate_used k)

      go : (is_used u s ≡ true) ⊎ (is_used u s ≡ false) → is_free (use_of g u s) ≡ not (mate_used g u s)
      go (inl k) = from k (usable.from_an_end s k)
      go (inr k) = unused_free k

  -- so the use tells whether a step from a vertex may be taken
  pub may_step_allowed : (allowance : Allowance) (x : ℕ) → touches (edge g s) x ≡ true
      → may_step allowance (use_of g u s) (eqb (edge g s).left x) ≡ allowed_by g u allowance s x
  unfolding allowed_by one_more along_used
  may_step_allowed A.OneMore x t =
      rw (
        one_or_back (use_of g u s) (eqb (edge g s).left x),
        free_exactly,
        left_or_other (edge g s) x (proper.no_loop s known),
        along_allowed (other_end (edge g s) x) (other_end-touches (edge g s) x),
      )
  may_step_allowed A.AlongUsed x t = along_allowed x t
