-- Laws of blocks as they compute: the least equivalence of edges that holds of every link.
use mathlib.Core.Bool.{Bool, true, false, cond}
use mathlib.Core.List.{List, [], ◌∷◌, ◌++◌, map}
use mathlib.Core.Logic.{◌⊎◌, inl, inr, Equivalence}
use mathlib.Core.Path.{◌≡◌, refl, sym, subst}
use Prim.Native.Nat.{ℕ, zero, suc, ◌<◌}
use native.Mathlib.Nat.{eq-or-lt_of_le}
use native.Mathlib.Omega.{arith}
use Rattle.graph.specs.Below.{listed}
use Rattle.graph.specs.Labels.{Pair}
use Rattle.graph.specs.Network.{Network, edge_count}
use Rattle.graph.specs.Block.{link, links, pairs_below, block}
use Rattle.graph.proofs.Truth.{not_both, bool_ext}
use Rattle.graph.proofs.Labels.{Within, within_append, within_parts, same_refl, same_sym, same_trans, same-joins, same_least}

-- P holds of every number of the list
abbrev All : (ℕ → Type 0) → List ℕ → Type 0
All P [] = Unit
All P (x ∷ xs) = P x × All P xs

all_append : (P : ℕ → Type 0) (xs ys : List ℕ) → All P xs → All P ys → All P (xs ++ ys)
all_append P [] ys a b = b
all_append P (x ∷ xs) ys a b = (a.0, all_append P xs ys a.1 b)

all_last : (P : ℕ → Type 0) (xs : List ℕ) (y : ℕ) → All P (xs ++ y ∷ []) → All P xs × P y
all_last P [] y a = (tt, a.0)
all_last P (x ∷ xs) y a = let r = all_last P xs y a.1 in ((a.0, r.0), r.1)

abbrev row : ℕ → ℕ → (ℕ → ℕ → Bool) → List Pair
row s m f = map (λ t. record { left = s; right = t }) (listed m (f s))

row_within : (R : ℕ → ℕ → Type 0) (s : ℕ) (ts : List ℕ) → All (R s) ts
    → Within R (map (λ t. record { left = s; right = t }) ts)
row_within R s [] a = tt
row_within R s (t ∷ ts) a = (a.0, row_within R s ts a.1)

within_row : (R : ℕ → ℕ → Type 0) (s : ℕ) (ts : List ℕ) → Within R (map (λ t. record { left = s; right = t }) ts)
    → All (R s) ts
within_row R s [] a = tt
within_row R s (t ∷ ts) a = (a.0, within_row R s ts a.1)

all_listed : (P : ℕ → Type 0) (n : ℕ) (p : ℕ → Bool) → ((t : ℕ) → t < n → p t ≡ true → P t) → All P (listed n p)
unfolding listed
all_listed P zero p f = tt
all_listed P (suc n) p f = go (p n) (f n (omega arith)) (all_listed P n p (λ t h. f t (omega arith)))
  where
    go : (b : Bool) → (b ≡ true → P n) → All P (listed n p) → All P (cond b (listed n p ++ n ∷ []) (listed n p))
    go true k a = all_append P (listed n p) (n ∷ []) a (k refl, tt)
    go false k a = a

listed_all : (P : ℕ → Type 0) (n : ℕ) (p : ℕ → Bool) → All P (listed n p) → (t : ℕ) → t < n → p t ≡ true → P t
unfolding listed
listed_all P zero p a t h e = absurd (omega arith)
listed_all P (suc n) p a t h e = go (p n) refl a (eq-or-lt_of_le (omega arith)) (λ c l. listed_all P n p c t l e)
  where
    go : (b : Bool) → p n ≡ b → All P (cond b (listed n p ++ n ∷ []) (listed n p)) → (t ≡ n) ⊎ (t < n)
        → (All P (listed n p) → t < n → P t) → P t
    go true k c (inl q) f = subst P (sym q) (all_last P (listed n p) n c).1
    go false k c (inl q) f = absurd (not_both e (rw q k))
    go true k c (inr l) f = f (all_last P (listed n p) n c).0 l
    go false k c (inr l) f = f c l

within_pairs : (R : ℕ → ℕ → Type 0) (n m : ℕ) (f : ℕ → ℕ → Bool)
    → ((s t : ℕ) → s < n → t < m → f s t ≡ true → R s t) → Within R (pairs_below n m f)
unfolding pairs_below
within_pairs R zero m f w = tt
within_pairs R (suc n) m f w =
    within_append R (row n m f) (pairs_below n m f)
    (row_within R n (listed m (f n)) (all_listed (R n) m (f n) (λ t h e. w n t (omega arith) h e)))
    (within_pairs R n m f (λ s t h k e. w s t (omega arith) k e))

pairs_within : (R : ℕ → ℕ → Type 0) (n m : ℕ) (f : ℕ → ℕ → Bool)
    → Within R (pairs_below n m f) → (s t : ℕ) → s < n → t < m → f s t ≡ true → R s t
unfolding pairs_below
pairs_within R zero m f a s t h k e = absurd (omega arith)
pairs_within R (suc n) m f a s t h k e = go (eq-or-lt_of_le (omega arith)) (pairs_within R n m f both.1 s t)
  where
    both : Within R (row n m f) × Within R (pairs_below n m f)
    both = within_parts R (row n m f) (pairs_below n m f) a

    go : (s ≡ n) ⊎ (s < n) → (s < n → t < m → f s t ≡ true → R s t) → R s t
    go (inl q) r = rw q (listed_all (R n) m (f n) (within_row R n (listed m (f n)) both.0) t k (rw q at e))
    go (inr l) r = r l k e

-- every edge shares a block with itself
pub block_refl : (g : Network) (s : ℕ) → block g s s ≡ true
unfolding block
block_refl g s = same_refl (links g) s

-- to share a block is symmetric
pub block_sym : (g : Network) (s t : ℕ) → block g s t ≡ true → block g t s ≡ true
unfolding block
block_sym g s t e = same_sym (links g) s t e

-- and transitive
pub block_trans : (g : Network) (s t u : ℕ) → block g s t ≡ true → block g t u ≡ true → block g s u ≡ true
unfolding block
block_trans g s t u e f = same_trans (links g) s t u e f

-- so it is an equivalence
pub block_equivalence : (g : Network) → Equivalence (λ s t. block g s t ≡ true)
block_equivalence g = record { refl = block_refl g; symm = block_sym g; trans = block_trans g }

-- the order of the two edges does not matter
pub block_swap : (g : Network) (s t : ℕ) → block g s t ≡ block g t s
block_swap g s t = bool_ext (block g s t) (block g t s) (block_sym g s t) (block_sym g t s)

-- linked edges share a block
pub link-block : (g : Network) (s t : ℕ) → s < edge_count g → t < edge_count g → link g s t ≡ true → block g s t ≡ true
unfolding block links
link-block g s t h k e =
    pairs_within (λ s t. block g s t ≡ true) (edge_count g) (edge_count g) (link g) (same-joins (links g)) s t h k e

-- whatever equivalence holds of every two linked edges holds of any two edges of one block
pub block_least : (R : ℕ → ℕ → Type 0) → Equivalence R → (g : Network)
    → ((s t : ℕ) → s < edge_count g → t < edge_count g → link g s t ≡ true → R s t)
    → (s t : ℕ) → block g s t ≡ true → R s t
unfolding block links
block_least R q g w s t e = same_least R q (links g) (within_pairs R (edge_count g) (edge_count g) (link g) w) s t e

-- both are edges, or they are one number
abbrev EqualOrBelow : ℕ → ℕ → ℕ → Type 0
EqualOrBelow n s t = (s ≡ t) ⊎ ((s < n) × (t < n))

equal_or_below_symm : (n s t : ℕ) → EqualOrBelow n s t → EqualOrBelow n t s
equal_or_below_symm n s t (inl p) = inl (sym p)
equal_or_below_symm n s t (inr p) = inr (p.1, p.0)

equal_or_below_trans : (n s t u : ℕ) → EqualOrBelow n s t → EqualOrBelow n t u → EqualOrBelow n s u
equal_or_below_trans n s t u (inl p) q = rw p q
equal_or_below_trans n s t u (inr p) (inl q) = inr (p.0, rw q at p.1)
equal_or_below_trans n s t u (inr p) (inr q) = inr (p.0, q.1)

-- a number that is no edge is a block alone
pub block_below : (g : Network) (s t : ℕ) → block g s t ≡ true → (s ≡ t) ⊎ ((s < edge_count g) × (t < edge_count g))
block_below g =
    block_least (EqualOrBelow (edge_count g))
    (record { refl = λ s. inl refl; symm = equal_or_below_symm (edge_count g); trans = equal_or_below_trans (edge_count g) })
    g (λ s t h k e. inr (h, k))
