-- Tests as equations: what `b ≡ true` and `b ≡ false` give, and how they are shown.
use mathlib.Core.Bool.{Bool, true, false, not, ◌&&◌, ◌||◌, true≢false, false≢true}
use mathlib.Core.Logic.{◌⊎◌, inl, inr, ◌≢◌}
use mathlib.Core.Path.{◌≡◌, refl, sym, ◌∙◌, ap, subst}
use Prim.Native.Nat.{ℕ, ◌≤◌, ◌<◌}
use native.Mathlib.Omega.{arith}
use lib.Dec.{T, eqb, leb, ltb, eqb→eq, eqb_refl, leb→le, le→leb, ltb→lt, lt→ltb, nltb→le}

pub to_T : {b : Bool} → b ≡ true → T b
to_T e = subst T (sym e) tt

pub of_T : (b : Bool) → T b → b ≡ true
of_T true t = refl
of_T false t = absurd t

-- a test holds or fails
pub true_or_false : (b : Bool) → (b ≡ true) ⊎ (b ≡ false)
true_or_false true = inl refl
true_or_false false = inr refl

pub false_of_not : (b : Bool) → (b ≡ true → ⊥) → b ≡ false
false_of_not true n = absurd (n refl)
false_of_not false n = refl

pub not_both : {b : Bool} → b ≡ true → b ≡ false → ⊥
not_both p q = true≢false (sym p ∙ q)

-- two tests are equal if each follows from the other
pub bool_ext : (a b : Bool) → (a ≡ true → b ≡ true) → (b ≡ true → a ≡ true) → a ≡ b
bool_ext true b f g = sym (f refl)
bool_ext false true f g = g refl
bool_ext false false f g = refl

pub not_of_false : {b : Bool} → b ≡ false → not b ≡ true
not_of_false e = ap not e

pub not_of_true : {b : Bool} → b ≡ true → not b ≡ false
not_of_true e = ap not e

pub false_of_not_true : (b : Bool) → not b ≡ true → b ≡ false
false_of_not_true true e = sym e
false_of_not_true false e = refl

pub true_of_not_false : (b : Bool) → not b ≡ false → b ≡ true
true_of_not_false true e = refl
true_of_not_false false e = sym e

pub and_left : (a b : Bool) → (a && b) ≡ true → a ≡ true
and_left true b e = refl
and_left false b e = e

pub and_right : (a b : Bool) → (a && b) ≡ true → b ≡ true
and_right true b e = e
and_right false b e = absurd (false≢true e)

pub and_both : {a b : Bool} → a ≡ true → b ≡ true → (a && b) ≡ true
and_both {a = true} p q = q
and_both {a = false} p q = p

pub and_not : (a : Bool) {b : Bool} → b ≡ false → (a && b) ≡ false
and_not true q = q
and_not false q = refl

pub or_left : {a : Bool} → a ≡ true → (b : Bool) → (a || b) ≡ true
or_left {a = true} p b = refl
or_left {a = false} p b = absurd (false≢true p)

pub or_right : (a : Bool) {b : Bool} → b ≡ true → (a || b) ≡ true
or_right true q = refl
or_right false q = q

pub or_cases : (a b : Bool) → (a || b) ≡ true → (a ≡ true) ⊎ (b ≡ true)
or_cases true b e = inl refl
or_cases false b e = inr e

pub or_neither_left : (a b : Bool) → (a || b) ≡ false → a ≡ false
or_neither_left true b e = e
or_neither_left false b e = refl

pub or_neither_right : (a b : Bool) → (a || b) ≡ false → b ≡ false
or_neither_right true b e = absurd (true≢false e)
or_neither_right false b e = e

pub or_neither : {a b : Bool} → a ≡ false → b ≡ false → (a || b) ≡ false
or_neither {a = true} p q = p
or_neither {a = false} p q = q

pub eqb_eq : (m n : ℕ) → eqb m n ≡ true → m ≡ n
eqb_eq m n e = eqb→eq m n (to_T e)

pub eqb_same : (n : ℕ) → eqb n n ≡ true
eqb_same n = of_T (eqb n n) (eqb_refl n)

pub eq-eqb : (m n : ℕ) → m ≡ n → eqb m n ≡ true
eq-eqb m n e = subst (λ (k : ℕ). eqb m k ≡ true) e (eqb_same m)

pub ne_eqb : (m n : ℕ) → m ≢ n → eqb m n ≡ false
ne_eqb m n d = false_of_not (eqb m n) (λ e. d (eqb_eq m n e))

pub eqb_ne : (m n : ℕ) → eqb m n ≡ false → m ≢ n
eqb_ne m n e d = not_both (eq-eqb m n d) e

pub eqb_swap : (m n : ℕ) → eqb m n ≡ eqb n m
eqb_swap m n =
    bool_ext (eqb m n) (eqb n m) (λ e. eq-eqb n m (sym (eqb_eq m n e))) (λ e. eq-eqb m n (sym (eqb_eq n m e)))

pub ltb_lt : (m n : ℕ) → ltb m n ≡ true → m < n
ltb_lt m n e = ltb→lt m n (to_T e)

pub lt-ltb : (m n : ℕ) → m < n → ltb m n ≡ true
lt-ltb m n h = of_T (ltb m n) (lt→ltb m n h)

pub ltb_ge : (m n : ℕ) → ltb m n ≡ false → n ≤ m
ltb_ge m n e = nltb→le m n (to_T (not_of_false e))

pub ge_ltb : (m n : ℕ) → n ≤ m → ltb m n ≡ false
ge_ltb m n h = false_of_not (ltb m n) (λ e. go (ltb_lt m n e))
  where
    go : m < n → ⊥
    go l = omega arith

pub leb_le : (m n : ℕ) → leb m n ≡ true → m ≤ n
leb_le m n e = leb→le m n (to_T e)

pub le-leb : (m n : ℕ) → m ≤ n → leb m n ≡ true
le-leb m n h = of_T (leb m n) (le→leb m n h)
