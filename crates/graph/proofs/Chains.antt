-- Chains of pairs: what it is to share a group.
use mathlib.Core.Bool.{true}
use mathlib.Core.List.Memᴰ
use mathlib.Core.List.{List, [], ◌∷◌, Memᴰ}
use mathlib.Core.Logic.{Equivalence, ◌⊎◌, inl, inr, ⊎_swap, ◌↔◌}
use mathlib.Core.Path.{◌≡◌, refl, sym, subst}
use Prim.Native.Nat.{ℕ}
use Rattle.graph.specs.Labels.{Pair, same}
use Rattle.graph.proofs.Labels.{Within, same_refl, same_sym, same_trans, same-joins, same_least}

-- some pair of the list joins x and y, in either direction
abbrev pub Linked : List Pair → ℕ → ℕ → Type 0
Linked ps x y = Memᴰ (record { left = x; right = y }) ps ⊎ Memᴰ (record { left = y; right = x }) ps

-- a chain of pairs leads from one item to another
pub data Chain (ps : List Pair) : ℕ → ℕ → Type 0 where
  stop : {x : ℕ} → Chain ps x x
  link : {x y z : ℕ} → Linked ps x y → Chain ps y z → Chain ps x z

-- what holds of every member holds of every pair
pub within_of_members : (R : ℕ → ℕ → Type 0) (ps : List Pair) → ((p : Pair) → Memᴰ p ps → R p.left p.right) → Within R ps
within_of_members R [] f = tt
within_of_members R (p ∷ ps) f = (f p (Memᴰ.head refl), within_of_members R ps (λ q m. f q (Memᴰ.tail m)))

-- what holds of every pair holds of every member
pub within_member : (R : ℕ → ℕ → Type 0) (ps : List Pair) → Within R ps → (p : Pair) → Memᴰ p ps → R p.left p.right
within_member R [] w p m = absurd (Memᴰ.not-nil m)
within_member R (q ∷ ps) w p m = go (within_member R ps w.1 p) (Memᴰ.cases_cons m)
  where
    go : (Memᴰ p ps → R p.left p.right) → (p ≡ q) ⊎ Memᴰ p ps → R p.left p.right
    go f (inl e) = subst (λ (r : Pair). R r.left r.right) (sym e) w.0
    go f (inr n) = f n

-- a chain goes on with a second one
pub chain_trans : (ps : List Pair) (x y z : ℕ) → Chain ps x y → Chain ps y z → Chain ps x z
chain_trans ps x y z c d = go c d
  where
    go : {u : ℕ} → Chain ps u y → Chain ps y z → Chain ps u z
    go stop d = d
    go (link l c) d = link l (go c d)

-- a chain leads back
pub chain_sym : (ps : List Pair) (x y : ℕ) → Chain ps x y → Chain ps y x
chain_sym ps x y c = go c stop
  where
    go : {u : ℕ} → Chain ps u y → Chain ps u x → Chain ps y x
    go stop d = d
    go (link l c) d = go c (link (⊎_swap l) d)

-- chains are an equivalence
pub chain_equivalence : (ps : List Pair) → Equivalence (Chain ps)
chain_equivalence ps = record { refl = λ x. stop; symm = chain_sym ps; trans = chain_trans ps }

-- two items that share a group have a chain between them
same-chain : (ps : List Pair) (x y : ℕ) → same ps x y ≡ true → Chain ps x y
same-chain ps =
    same_least (Chain ps) (chain_equivalence ps) ps (within_of_members (Chain ps) ps (λ p m. link (inl m) stop))

-- two items with a chain between them share a group
chain_same : (ps : List Pair) (x y : ℕ) → Chain ps x y → same ps x y ≡ true
chain_same ps x y stop = same_refl ps x
chain_same ps x z (link {y = y} l c) = same_trans ps x y z (go l) (chain_same ps y z c)
  where
    each : (p : Pair) → Memᴰ p ps → same ps p.left p.right ≡ true
    each = within_member (λ x y. same ps x y ≡ true) ps (same-joins ps)

    go : Linked ps x y → same ps x y ≡ true
    go (inl m) = each (record { left = x; right = y }) m
    go (inr m) = same_sym ps y x (each (record { left = y; right = x }) m)

-- two items share a group exactly if a chain of pairs leads from one to the other
pub same_is_chain : (ps : List Pair) (x y : ℕ) → (same ps x y ≡ true) ↔ Chain ps x y
same_is_chain ps x y = (same-chain ps x y, chain_same ps x y)
