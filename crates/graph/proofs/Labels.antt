-- Laws of groups from pairs: an equivalence, the least one that joins every pair.
use mathlib.Core.Bool.{Bool, true, false, cond, ◌||◌, ◌&&◌, and-true, and-false, or-false}
use mathlib.Core.List.{List, [], ◌∷◌, ◌++◌}
use mathlib.Core.Logic.{Equivalence, ◌⊎◌, inl, inr}
use mathlib.Core.Path.{◌≡◌, refl, sym, ◌∙◌, ap, subst}
use Prim.Native.Nat.{ℕ}
use lib.Dec.{eqb}
use Rattle.graph.specs.Labels.{Pair, relabel, labels, same}
use Rattle.graph.proofs.Truth.{true_or_false, or_cases, or_left, or_right, and_left, and_right, and_both, eqb_eq, eqb_same, eq-eqb, eqb_swap}

-- R holds of every pair of the list
abbrev pub Within : (ℕ → ℕ → Type 0) → List Pair → Type 0
Within R [] = Unit
Within R (p ∷ ps) = R p.left p.right × Within R ps

-- what holds of every pair passes on to what follows from it
pub within_map : {R S : ℕ → ℕ → Type 0} → ((x y : ℕ) → R x y → S x y) → (ps : List Pair) → Within R ps → Within S ps
within_map f [] w = tt
within_map f (p ∷ ps) w = (f p.left p.right w.0, within_map f ps w.1)

-- what holds of the pairs of each of two lists holds of those of both together
pub within_append : (R : ℕ → ℕ → Type 0) (ps qs : List Pair) → Within R ps → Within R qs → Within R (ps ++ qs)
within_append R [] qs v w = w
within_append R (p ∷ ps) qs v w = (v.0, within_append R ps qs v.1 w)

-- and what holds of those of both together holds of those of each
pub within_parts : (R : ℕ → ℕ → Type 0) (ps qs : List Pair) → Within R (ps ++ qs) → Within R ps × Within R qs
within_parts R [] qs w = (tt, w)
within_parts R (p ∷ ps) qs w = let r = within_parts R ps qs w.1 in ((w.0, r.0), r.1)

-- how two groups become one: two items share a group after it, by the test q before it and two items a and b
abbrev pub merged : (ℕ → ℕ → Bool) → ℕ → ℕ → ℕ → ℕ → Bool
merged q a b x y = q x y || (q x a && q b y) || (q x b && q a y)

-- the three ways to share a group after two groups become one
pub data Merged (q : ℕ → ℕ → Bool) (a b x y : ℕ) : Type 0 where
  before : q x y ≡ true → Merged q a b x y
  across : q x a ≡ true → q b y ≡ true → Merged q a b x y
  back : q x b ≡ true → q a y ≡ true → Merged q a b x y

-- which of the three ways it is
pub merged_ways : (q : ℕ → ℕ → Bool) (a b x y : ℕ) → merged q a b x y ≡ true → Merged q a b x y
merged_ways q a b x y e = first (or_cases (q x y || (q x a && q b y)) (q x b && q a y) e)
  where
    second : (q x y ≡ true) ⊎ ((q x a && q b y) ≡ true) → Merged q a b x y
    second (inl h) = before h
    second (inr h) = across (and_left (q x a) (q b y) h) (and_right (q x a) (q b y) h)

    first : ((q x y || (q x a && q b y)) ≡ true) ⊎ ((q x b && q a y) ≡ true) → Merged q a b x y
    first (inl h) = second (or_cases (q x y) (q x a && q b y) h)
    first (inr h) = back (and_left (q x b) (q a y) h) (and_right (q x b) (q a y) h)

-- each of the three ways is one
pub merged_true : (q : ℕ → ℕ → Bool) (a b x y : ℕ) → Merged q a b x y → merged q a b x y ≡ true
merged_true q a b x y (before h) = or_left (or_left h (q x a && q b y)) (q x b && q a y)
merged_true q a b x y (across h k) = or_left (or_right (q x y) (and_both h k)) (q x b && q a y)
merged_true q a b x y (back h k) = or_right (q x y || (q x a && q b y)) (and_both h k)

-- what shared a group before shares one after
pub merged_before : (q : ℕ → ℕ → Bool) (a b : ℕ) {x y : ℕ} → q x y ≡ true → merged q a b x y ≡ true
merged_before q a b {x} {y} h = merged_true q a b x y (before h)

-- the two items share a group after
pub merged_here : (q : ℕ → ℕ → Bool) → ((x : ℕ) → q x x ≡ true) → (a b : ℕ) → merged q a b a b ≡ true
merged_here q r a b = merged_true q a b a b (across (r a) (r b))

-- an equivalence that holds of what shared a group before, and of the two items, holds of what shares a group after
pub merged_least : (R : ℕ → ℕ → Type 0) → Equivalence R → (q : ℕ → ℕ → Bool) (a b : ℕ)
    → ((x y : ℕ) → q x y ≡ true → R x y) → R a b
    → (x y : ℕ) → merged q a b x y ≡ true → R x y
merged_least R w q a b f r x y e = go (merged_ways q a b x y e)
  where
    go : Merged q a b x y → R x y
    go (before h) = f x y h
    go (across h k) = w.trans x a y (f x a h) (w.trans a b y r (f b y k))
    go (back h k) = w.trans x b y (f x b h) (w.trans b a y (w.symm a b r) (f a y k))

-- every item shares its own group
pub same_refl : (ps : List Pair) (x : ℕ) → same ps x x ≡ true
unfolding same
same_refl ps x = eqb_same (labels ps x)

-- sharing a group is symmetric
pub same_sym : (ps : List Pair) (x y : ℕ) → same ps x y ≡ true → same ps y x ≡ true
unfolding same
same_sym ps x y e = eq-eqb (labels ps y) (labels ps x) (sym (eqb_eq (labels ps x) (labels ps y) e))

-- sharing a group is transitive
pub same_trans : (ps : List Pair) (x y z : ℕ) → same ps x y ≡ true → same ps y z ≡ true → same ps x z ≡ true
unfolding same
same_trans ps x y z e f =
    eq-eqb (labels ps x) (labels ps z) (eqb_eq (labels ps x) (labels ps y) e ∙ eqb_eq (labels ps y) (labels ps z) f)

-- sharing a group is an equivalence
pub same_equivalence : (ps : List Pair) → Equivalence (λ x y. same ps x y ≡ true)
same_equivalence ps = record { refl = same_refl ps; symm = same_sym ps; trans = same_trans ps }

-- with no pairs every item is alone
pub same_none : (x y : ℕ) → same [] x y ≡ eqb x y
unfolding same labels
same_none x y = refl

-- two numbers that become equal when a becomes b
eqb_merged : (u v a b : ℕ) → eqb (cond (eqb u a) b u) (cond (eqb v a) b v) ≡ merged eqb a b u v
eqb_merged u v a b = go (true_or_false (eqb u a)) (true_or_false (eqb v a))
  where
    go : (eqb u a ≡ true) ⊎ (eqb u a ≡ false) → (eqb v a ≡ true) ⊎ (eqb v a ≡ false)
        → eqb (cond (eqb u a) b u) (cond (eqb v a) b v) ≡ merged eqb a b u v
    go (inl h) (inl k) = rw (h, k, eqb_same b, eq-eqb u v (eqb_eq u a h ∙ sym (eqb_eq v a k)))
    go (inl h) (inr k) =
        let a_v : eqb a v ≡ false = eqb_swap a v ∙ k in
        let u_v : eqb u v ≡ false = ap (λ w. eqb w v) (eqb_eq u a h) ∙ a_v in
        rw (h, k, u_v, a_v, and-false, or-false)
    go (inr h) (inl k) =
        let a_v : eqb a v ≡ true = eqb_swap a v ∙ k in
        let u_v : eqb u v ≡ false = ap (eqb u) (eqb_eq v a k) ∙ h in
        rw (h, k, u_v, a_v, and-true)
    go (inr h) (inr k) = rw (h, k, eqb_swap a v, k) (simp (and-false, or-false))

-- one pair more makes the groups of its two items one, and leaves the others
pub same-one_more : (p : Pair) (ps : List Pair) (x y : ℕ)
    → same (p ∷ ps) x y
    ≡ (same ps x y || (same ps x p.left && same ps p.right y) || (same ps x p.right && same ps p.left y))
unfolding same labels relabel
same-one_more p ps x y = eqb_merged (labels ps x) (labels ps y) (labels ps p.left) (labels ps p.right)

-- whatever equivalence holds of every pair holds of any two items that share a group
pub same_least : (R : ℕ → ℕ → Type 0) → Equivalence R → (ps : List Pair) → Within R ps
    → (x y : ℕ) → same ps x y ≡ true → R x y
same_least R q [] w x y e = subst (R x) (eqb_eq x y (sym (same_none x y) ∙ e)) (q.refl x)
same_least R q (p ∷ ps) w x y e =
    merged_least R q (same ps) p.left p.right (same_least R q ps w.1) w.0 x y (sym (same-one_more p ps x y) ∙ e)

-- two items that share a group still do with one pair more
pub same_more : (p : Pair) (ps : List Pair) (x y : ℕ) → same ps x y ≡ true → same (p ∷ ps) x y ≡ true
same_more p ps x y e = same-one_more p ps x y ∙ merged_before (same ps) p.left p.right e

-- the ends of every pair share a group
pub same-joins : (ps : List Pair) → Within (λ x y. same ps x y ≡ true) ps
same-joins [] = tt
same-joins (p ∷ ps) = (
  same-one_more p ps p.left p.right ∙ merged_here (same ps) (same_refl ps) p.left p.right,
  within_map (same_more p ps) ps (same-joins ps),
)
