-- The cabinets whose ring holds an exchange, counted one after another, and their share in thousandths.
use mathlib.Core.Bool.{Bool, true, false, cond}
use mathlib.Core.List.{List}
use mathlib.Core.Path.{◌≡◌, refl, sym, ◌∙◌, ap, subst}
use Prim.Native.Nat.{ℕ, suc, ◌+◌, ◌*◌, ◌/◌, ◌%◌, ◌≤◌, ◌<◌}
use native.Mathlib.Nat.{mul-le-mul_left}
use native.Mathlib.Numerals.{add-one}
use native.Mathlib.Omega.{arith}
use lib.Dec.{ltb}
use mir.Val.{bool_byte}
use Rattle.graph.specs.Below.{count}
use Rattle.graph.proofs.Truth.{ltb_lt, ltb_ge}
use Rattle.commands.specs.Exchange.{ring_holds_exchange, with_exchange, thousandths, share_with_exchange}
use Rattle.commands.proofs.Thousandths.{Nearest, below_nearest, next_nearest, even_nearest, share_exactly}
use Rattle.commands.proofs.Exchange.{with_exchange_at_most}
use Rattle.numbers.specs.declared.Shape.{Shape}
use Rattle.forest.specs.Promise.{Holds, state_of, vertices_held, few_vertices}

-- a test more: it adds 1 where it passes, and 0 where it does not
pub counted_next : (p : ℕ → Bool) (i so_far : ℕ) (passes : Bool) → so_far ≡ count i p → passes ≡ p i
    → so_far + bool_byte passes ≡ count (i + 1) p
unfolding count
counted_next p i so_far passes e d = rw (add-one, e, d) (step (p i) (count i p))
  where
    step : (b : Bool) (c : ℕ) → c + bool_byte b ≡ cond b (suc c) c
    step true c = omega arith
    step false c = omega arith

-- those below the number of cabinets are all
pub all_counted : (shape : Shape) (t : List ℕ) (i found : ℕ) → i ≡ shape.vertices → found ≡ count i (ring_holds_exchange (state_of shape t))
    → found ≡ with_exchange (state_of shape t)
unfolding with_exchange
all_counted shape t i found last e =
    e ∙ ap (λ n. count n (ring_holds_exchange (state_of shape t))) (last ∙ sym (vertices_held shape t))

-- no more cabinets are counted than a table holds
pub few_with_exchange : (shape : Shape) (t : List ℕ) → Holds shape t → with_exchange (state_of shape t) ≤ 4096
few_with_exchange shape t holds = omega (arith, with_exchange_at_most (state_of shape t), vertices_held shape t, few_vertices shape t holds)

-- With what goes up, the thousandths below are the nearest.
module _ (part whole up : ℕ) (some : 0 < whole) where
  -- for an exact half, 1 from an odd number
  pub half_goes_up : 2 * (1000 * part % whole) ≡ whole → up ≡ 1000 * part / whole % 2 → Nearest part whole (1000 * part / whole + up)
  half_goes_up half e = rw e (even_nearest part whole some half)

  -- else 1 if more than half of one is over
  pub rest_goes_up : (2 * (1000 * part % whole) ≡ whole → ⊥) → up ≡ bool_byte (ltb whole (2 * (1000 * part % whole)))
      → Nearest part whole (1000 * part / whole + up)
  rest_goes_up no_half e = go (ltb whole (2 * (1000 * part % whole))) refl
    where
      go : (b : Bool) → ltb whole (2 * (1000 * part % whole)) ≡ b → Nearest part whole (1000 * part / whole + up)
      go true more = subst (Nearest part whole) (omega (arith, e, ap bool_byte more)) (next_nearest part whole some (ltb_lt _ _ more))
      go false less =
          let h : 2 * (1000 * part % whole) < whole = omega (arith, no_half, ltb_ge whole (2 * (1000 * part % whole)) less) in
          subst (Nearest part whole) (omega (arith, e, ap bool_byte less)) (below_nearest part whole some h)

-- the nearest is at most twice 1000 parts, for 0 is no nearer
pub few_nearest : (part whole t : ℕ) → 0 < whole → Nearest part whole t → t ≤ 2000 * part
few_nearest part whole t some near = omega (arith, near.none_nearer 0, mul-le-mul_left t some)

-- what is computed for the nearest thousandth is the share
pub nearest_is_share : (part whole t result : ℕ) → 0 < whole → Nearest part whole t → result ≡ t → result ≡ thousandths part whole
nearest_is_share part whole t result some near e = e ∙ sym ((share_exactly part whole t some).1 near)

-- the share of those counted in all cabinets
pub share_of_counted : (shape : Shape) (t : List ℕ) (part : ℕ) → part ≡ with_exchange (state_of shape t)
    → thousandths part shape.vertices ≡ share_with_exchange (state_of shape t)
unfolding share_with_exchange
share_of_counted shape t part e = rw (e, vertices_held shape t)
