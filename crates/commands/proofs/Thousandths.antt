-- The share of a part in a whole (request 10): no thousandth is nearer than the one given, and of two equally near it is the even one.
use mathlib.Core.Bool.{Bool, true, false}
use mathlib.Core.Logic.{◌↔◌, ◌⊎◌, inl, inr, ◌≢◌}
use mathlib.Core.Path.{◌≡◌, refl, sym, subst}
use Prim.Native.Nat.{ℕ, zero, suc, ◌+◌, ◌-◌, ◌*◌, ◌/◌, ◌%◌, ◌≤◌, ◌<◌}
use native.Mathlib.Nat.{mod-lt, mod-add-div', mul-le-mul_right}
use native.Mathlib.Omega.{arith}
use lib.Dec.{ltb}
use Rattle.graph.proofs.Truth.{ltb_lt, ltb_ge}
use Rattle.commands.specs.Exchange.{thousandths}
use Rattle.commands.proofs.Cases.{le_or_gt}

-- How far 1000 parts are from t wholes: the greater less the lesser.
abbrev pub distance : ℕ → ℕ → ℕ → ℕ
distance part whole t = (1000 * part - t * whole) + (t * whole - 1000 * part)

-- t is the nearest thousandth: none is nearer, and where another is as near, t is even.
pub record Nearest (part whole t : ℕ) : Type 0 where
  pub none_nearer : (u : ℕ) → distance part whole t ≤ distance part whole u
  pub even_of_two : (u : ℕ) → u ≢ t → distance part whole u ≡ distance part whole t → t % 2 ≡ 0

-- there is at most one such: between two even ones that are equally near there is another, nearer than both
nearest_is_one : (part whole t u : ℕ) → 0 < whole → Nearest part whole t → Nearest part whole u → t ≡ u
nearest_is_one part whole t u some at_t at_u = go (le_or_gt t u) (le_or_gt u t)
  where
    apart : (t u : ℕ) → t < u → Nearest part whole t → Nearest part whole u → ⊥
    apart t u less at_t at_u =
        let near : distance part whole t ≡ distance part whole u = omega (arith, at_t.none_nearer u, at_u.none_nearer t) in
        let even = at_t.even_of_two u (λ e. omega (arith, e)) (sym near) in
        let even' = at_u.even_of_two t (λ e. omega (arith, e)) near in
        let two_more : suc (suc t) ≤ u = omega (arith, even, even') in
        omega (arith, near, at_t.none_nearer (suc t), mul-le-mul_right whole two_more)

    go : (t ≤ u) ⊎ (u < t) → (u ≤ t) ⊎ (t < u) → t ≡ u
    go (inl h) (inl k) = omega arith
    go (inl h) (inr k) = absurd (apart t u k at_t at_u)
    go (inr h) k = absurd (apart u t h at_u at_t)

-- t is the nearest if it is at most half a thousandth off, and just half of one only if it is even: any other is a thousandth or more from t
near_enough : (part whole t : ℕ) → 2 * distance part whole t ≤ whole → (2 * distance part whole t ≡ whole → t % 2 ≡ 0) → Nearest part whole t
near_enough part whole t half even =
    record { none_nearer = λ u. none u (le_or_gt u t) (le_or_gt t u); even_of_two = λ u differs near. two u differs near (le_or_gt u t) }
  where
    none : (u : ℕ) → (u ≤ t) ⊎ (t < u) → (t ≤ u) ⊎ (u < t) → distance part whole t ≤ distance part whole u
    none u (inl h) (inl k) = omega (arith, mul-le-mul_right whole h, mul-le-mul_right whole k)
    none u (inl h) (inr k) = omega (arith, half, mul-le-mul_right {m = suc u} whole k)
    none u (inr h) k = omega (arith, half, mul-le-mul_right {m = suc t} whole h)

    two : (u : ℕ) → u ≢ t → distance part whole u ≡ distance part whole t → (u ≤ t) ⊎ (t < u) → t % 2 ≡ 0
    two u differs near (inl h) =
        let less : suc u ≤ t = omega (arith, differs) in
        even (omega (arith, half, near, mul-le-mul_right whole less))
    two u differs near (inr h) = even (omega (arith, half, near, mul-le-mul_right {m = suc t} whole h))

-- By twice what is over, the nearest is the thousandths below, the next, or of these two the even one.
module _ (part whole : ℕ) (some : 0 < whole) where
  -- 1000 parts are so many wholes, and less than one over
  is : 1000 * part % whole + 1000 * part / whole * whole ≡ 1000 * part
  is = mod-add-div' (1000 * part) whole

  rest : 1000 * part % whole < whole
  rest = mod-lt (1000 * part) some

  pub below_nearest : 2 * (1000 * part % whole) < whole → Nearest part whole (1000 * part / whole)
  below_nearest less = near_enough part whole _ (omega (arith, is, less)) (λ e. absurd (omega (arith, is, less, e)))

  pub next_nearest : whole < 2 * (1000 * part % whole) → Nearest part whole (suc (1000 * part / whole))
  next_nearest more = near_enough part whole _ (omega (arith, is, rest, more)) (λ e. absurd (omega (arith, is, rest, more, e)))

  pub even_nearest : 2 * (1000 * part % whole) ≡ whole → Nearest part whole (1000 * part / whole + 1000 * part / whole % 2)
  even_nearest half = go (le_or_gt (below % 2) 0)
    where
      below : ℕ
      below = 1000 * part / whole

      even : (t : ℕ) → t ≡ below + below % 2 → 2 * distance part whole t ≤ whole → Nearest part whole (below + below % 2)
      even t e near = subst (Nearest part whole) e (near_enough part whole t near (λ d. omega (arith, e)))

      go : (below % 2 ≤ 0) ⊎ (0 < below % 2) → Nearest part whole (below + below % 2)
      go (inl h) = even below (omega arith) (omega (arith, is, half))
      go (inr h) = even (suc below) (omega arith) (omega (arith, is, half))

-- no thousandth is nearer than the one given, and of two equally near the even one is given
pub nearest_given : (part whole : ℕ) → 0 < whole → Nearest part whole (thousandths part whole)
unfolding thousandths
nearest_given part zero some = absurd (omega arith)
nearest_given part (suc n) some = go (ltb twice (suc n)) refl (ltb (suc n) twice) refl
  where
    twice : ℕ
    twice = 2 * (1000 * part % suc n)

    given : {t u : ℕ} → Nearest part (suc n) t → u ≡ t → Nearest part (suc n) u
    given near e = subst (Nearest part (suc n)) (sym e) near

    go : (b : Bool) → ltb twice (suc n) ≡ b → (c : Bool) → ltb (suc n) twice ≡ c → Nearest part (suc n) (thousandths part (suc n))
    go true less c d = rw less (given (below_nearest part (suc n) some (ltb_lt twice (suc n) less)) (omega arith))
    go false d true more = rw (d, more) (given (next_nearest part (suc n) some (ltb_lt (suc n) twice more)) (omega arith))
    go false d false e =
        let half : twice ≡ suc n = omega (arith, ltb_ge twice (suc n) d, ltb_ge (suc n) twice e) in
        rw (d, e) (given (even_nearest part (suc n) some half) (omega arith))

-- so t is the share exactly if it is the nearest
pub share_exactly : (part whole t : ℕ) → 0 < whole → (thousandths part whole ≡ t) ↔ Nearest part whole t
share_exactly part whole t some = (
  λ e. subst (Nearest part whole) e (nearest_given part whole some),
  λ at. nearest_is_one part whole (thousandths part whole) t some (nearest_given part whole some) at,
)

-- in a whole that is nothing it is 0
pub share_of-nothing : (part : ℕ) → thousandths part 0 ≡ 0
share_of-nothing part = unfold thousandths in refl

-- a share that is a whole number of thousandths is given as it is
pub share_exact : (part whole t : ℕ) → 0 < whole → t * whole ≡ 1000 * part → thousandths part whole ≡ t
share_exact part whole t some e =
    (share_exactly part whole t some).1 (near_enough part whole t (omega (arith, e)) (λ d. absurd (omega (arith, e, d))))

-- none of any number are 0 thousandths, and all of some 1000
pub share_of_no_part : (whole : ℕ) → thousandths 0 whole ≡ 0
share_of_no_part zero = share_of-nothing 0
share_of_no_part (suc n) = share_exact 0 (suc n) 0 (omega arith) (omega arith)

pub share_of_all : (whole : ℕ) → 0 < whole → thousandths whole whole ≡ 1000
share_of_all whole some = share_exact whole whole 1000 some refl

-- a part no greater than the whole is at most 1000 thousandths of it
pub share_within : (part whole : ℕ) → part ≤ whole → thousandths part whole ≤ 1000
share_within part zero h = rw (share_of-nothing part) (omega arith)
share_within part (suc n) h = go (le_or_gt (thousandths part (suc n)) 1000)
  where
    go : (thousandths part (suc n) ≤ 1000) ⊎ (1000 < thousandths part (suc n)) → thousandths part (suc n) ≤ 1000
    go (inl l) = l
    go (inr l) = absurd (omega (arith, (nearest_given part (suc n) (omega arith)).none_nearer 1000, mul-le-mul_right {m = 1001} (suc n) l))
