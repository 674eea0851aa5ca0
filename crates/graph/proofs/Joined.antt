-- Laws of `joined`: vertices joined by the edges that are not lost.
use mathlib.Core.Bool.{Bool, true, false, ◌||◌, ◌&&◌}
use mathlib.Core.List.{List, [], ◌∷◌}
use mathlib.Core.Logic.{Equivalence, ◌⊎◌, inl, inr}
use mathlib.Core.Path.{◌≡◌, sym, ◌∙◌, subst, fun_ext}
use Prim.Native.Nat.{ℕ, zero, suc, ◌<◌}
use native.Mathlib.Nat.{not-suc-le-zero}
use native.Mathlib.Omega.{arith}
use lib.ListN.{length, get_or, length-append, get_or-append}
use lib.Seq.{get_or-append_seam}
use Rattle.graph.specs.Labels.{Pair, same}
use Rattle.graph.specs.Network.{Network, Edge, edge_between, Loss, edge, edge_count, add_edge, joined, kept}
use Rattle.graph.proofs.Truth.{true_or_false, not_both, bool_ext}
use Rattle.graph.proofs.Below.{below_or_last}
use Rattle.graph.proofs.Labels.{Within, merged, merged_before, merged_here, merged_least}
use Rattle.graph.proofs.Labels.{same_refl, same_sym, same_trans, same_equivalence, same-joins, same_least, same-one_more}

abbrev at : List Edge → ℕ → Edge
at es s = get_or es s (edge_between 0 0)

-- what holds of the ends of every edge that is not lost holds of the pairs that are kept
kept_within : (R : ℕ → ℕ → Type 0) (lost : Loss) (es : List Edge)
    → ((s : ℕ) → s < length es → lost s ≡ false → R (at es s).left (at es s).right)
    → Within R (kept lost es)
unfolding kept
kept_within R lost [] w = tt
kept_within R lost (e ∷ es) w =
    go (kept_within R (λ s. lost (suc s)) es (λ s h. w (suc s) (omega arith))) (true_or_false (lost 0))
  where
    go : Within R (kept (λ s. lost (suc s)) es) → (lost 0 ≡ true) ⊎ (lost 0 ≡ false) → Within R (kept lost (e ∷ es))
    go later (inl h) = rw h later
    go later (inr h) = rw h (w 0 (omega arith) h, later)

-- what holds of the pairs that are kept holds of the ends of every edge that is not lost
kept_each : (R : ℕ → ℕ → Type 0) (lost : Loss) (es : List Edge) → Within R (kept lost es)
    → (s : ℕ) → s < length es → lost s ≡ false → R (at es s).left (at es s).right
unfolding kept
kept_each R lost [] w s h k = absurd (not-suc-le-zero h)
kept_each R lost (e ∷ es) w zero h k = (rw k at w).0
kept_each R lost (e ∷ es) w (suc s) h k =
    kept_each R (λ s. lost (suc s)) es (go (true_or_false (lost 0))) s (omega arith) k
  where
    go : (lost 0 ≡ true) ⊎ (lost 0 ≡ false) → Within R (kept (λ s. lost (suc s)) es)
    go (inl d) = rw d at w
    go (inr d) = (rw d at w).1

-- every vertex is joined to itself
pub joined_refl : (g : Network) (lost : Loss) (x : ℕ) → joined g lost x x ≡ true
unfolding joined
joined_refl g lost x = same_refl (kept lost g.edges) x

-- being joined is symmetric
pub joined_sym : (g : Network) (lost : Loss) (x y : ℕ) → joined g lost x y ≡ true → joined g lost y x ≡ true
unfolding joined
joined_sym g lost x y e = same_sym (kept lost g.edges) x y e

-- being joined is transitive
pub joined_trans : (g : Network) (lost : Loss) (x y z : ℕ)
    → joined g lost x y ≡ true → joined g lost y z ≡ true → joined g lost x z ≡ true
unfolding joined
joined_trans g lost x y z e f = same_trans (kept lost g.edges) x y z e f

-- being joined is an equivalence
pub joined_equivalence : (g : Network) (lost : Loss) → Equivalence (λ x y. joined g lost x y ≡ true)
joined_equivalence g lost = record { refl = joined_refl g lost; symm = joined_sym g lost; trans = joined_trans g lost }

-- being joined is symmetric, as an equation
pub joined_swap : (g : Network) (lost : Loss) (x y : ℕ) → joined g lost x y ≡ joined g lost y x
joined_swap g lost x y = bool_ext (joined g lost x y) (joined g lost y x) (joined_sym g lost x y) (joined_sym g lost y x)

-- an edge that is not lost joins its ends
pub joined-edge : (g : Network) (lost : Loss) (s : ℕ) → s < edge_count g → lost s ≡ false
    → joined g lost (edge g s).left (edge g s).right ≡ true
unfolding joined edge edge_count
joined-edge g lost s h k =
    kept_each (λ x y. joined g lost x y ≡ true) lost g.edges (same-joins (kept lost g.edges)) s h k

-- whatever equivalence holds of the ends of every edge that is not lost holds of any two joined vertices
pub joined_least : (R : ℕ → ℕ → Type 0) → Equivalence R → (g : Network) (lost : Loss)
    → ((s : ℕ) → s < edge_count g → lost s ≡ false → R (edge g s).left (edge g s).right)
    → (x y : ℕ) → joined g lost x y ≡ true → R x y
unfolding joined edge edge_count
joined_least R q g lost w x y e = same_least R q (kept lost g.edges) (kept_within R lost g.edges w) x y e

-- where the ends of every edge that is not lost are joined in a second network, what is joined in the first is joined in the second
pub joined_into : (g g' : Network) (lost lost' : Loss)
    → ((s : ℕ) → s < edge_count g → lost s ≡ false → joined g' lost' (edge g s).left (edge g s).right ≡ true)
    → (x y : ℕ) → joined g lost x y ≡ true → joined g' lost' x y ≡ true
joined_into g g' lost lost' = joined_least (λ x y. joined g' lost' x y ≡ true) (joined_equivalence g' lost') g lost

-- with less lost, what was joined stays joined
pub joined_less_lost : (g : Network) (lost less : Loss)
    → ((s : ℕ) → s < edge_count g → lost s ≡ false → less s ≡ false)
    → (x y : ℕ) → joined g lost x y ≡ true → joined g less x y ≡ true
joined_less_lost g lost less w = joined_into g g lost less (λ s h k. joined-edge g less s h (w s h k))

-- losses that agree on the edges that there are join alike
pub joined_same_loss : (g : Network) (lost lost' : Loss)
    → ((s : ℕ) → s < edge_count g → lost s ≡ lost' s)
    → (x y : ℕ) → joined g lost x y ≡ joined g lost' x y
joined_same_loss g lost lost' w x y =
    bool_ext
    (joined g lost x y)
    (joined g lost' x y)
    (joined_less_lost g lost lost' (λ s h k. sym (w s h) ∙ k) x y)
    (joined_less_lost g lost' lost (λ s h k. w s h ∙ k) x y)

-- being joined, were two further vertices joined, is an equivalence
pub merged_equivalence : (g : Network) (lost : Loss) (a b : ℕ) → Equivalence (λ x y. merged (joined g lost) a b x y ≡ true)
unfolding joined
merged_equivalence g lost a b = subst (λ (q : ℕ → ℕ → Bool). Equivalence (λ x y. q x y ≡ true)) more (same_equivalence (p ∷ ps))
  where
    p : Pair
    p = record { left = a; right = b }

    ps : List Pair
    ps = kept lost g.edges

    more : same (p ∷ ps) ≡ merged (same ps) a b
    more = fun_ext (λ x. fun_ext (same-one_more p ps x))

-- a network with one edge more has one edge more
pub edge_count_more : (g : Network) (e : Edge) → edge_count (add_edge g e) ≡ suc (edge_count g)
unfolding edge_count add_edge
edge_count_more g e = rw (length-append g.edges (e ∷ [])) (omega arith)

-- the old edges keep their numbers
pub edge_old : (g : Network) (e : Edge) (s : ℕ) → s < edge_count g → edge (add_edge g e) s ≡ edge g s
unfolding edge_count add_edge edge
edge_old g e s h = get_or-append g.edges (e ∷ []) (edge_between 0 0) s h

-- the new edge takes the next number
pub edge_new : (g : Network) (e : Edge) → edge (add_edge g e) (edge_count g) ≡ e
unfolding edge_count add_edge edge
edge_new g e = get_or-append_seam g.edges e [] (edge_between 0 0)

-- an edge of a network with one edge more is an old one or the new one
pub old_or_new : (g : Network) (e : Edge) (s : ℕ) → s < edge_count (add_edge g e) → (s < edge_count g) ⊎ (s ≡ edge_count g)
old_or_new g e s h = below_or_last (edge_count g) s (rw (edge_count_more g e) at h)

-- what holds of every old edge, and of the new edge, holds of every edge of a network with one edge more
pub each_edge_more : (P : ℕ → Edge → Type 0) (g : Network) (e : Edge)
    → ((s : ℕ) → s < edge_count g → P s (edge g s))
    → P (edge_count g) e
    → (s : ℕ) → s < edge_count (add_edge g e) → P s (edge (add_edge g e) s)
each_edge_more P g e old new s h = go (old_or_new g e s h)
  where
    go : (s < edge_count g) ⊎ (s ≡ edge_count g) → P s (edge (add_edge g e) s)
    go (inl l) = rw (edge_old g e s l) (old s l)
    go (inr d) = rw (d, edge_new g e) new

-- what was joined stays joined with one edge more
pub joined_old : (g : Network) (e : Edge) (lost : Loss) (x y : ℕ)
    → joined g lost x y ≡ true → joined (add_edge g e) lost x y ≡ true
joined_old g e lost = joined_into g (add_edge g e) lost lost old
  where
    old : (s : ℕ) → s < edge_count g → lost s ≡ false → joined (add_edge g e) lost (edge g s).left (edge g s).right ≡ true
    old s h k = rw (edge_old g e s h) at (joined-edge (add_edge g e) lost s (omega (arith, edge_count_more g e)) k)

-- a new edge that is lost changes nothing
pub joined_new_lost : (g : Network) (e : Edge) (lost : Loss) → lost (edge_count g) ≡ true
    → (x y : ℕ) → joined (add_edge g e) lost x y ≡ joined g lost x y
joined_new_lost g e lost k x y = bool_ext (joined (add_edge g e) lost x y) (joined g lost x y) down (joined_old g e lost x y)
  where
    P : ℕ → Edge → Type 0
    P s f = lost s ≡ false → joined g lost f.left f.right ≡ true

    down : joined (add_edge g e) lost x y ≡ true → joined g lost x y ≡ true
    down = joined_into (add_edge g e) g lost lost (each_edge_more P g e (joined-edge g lost) (λ d. absurd (not_both k d))) x y

-- a new edge that is not lost is one pair more
pub joined_new_kept : (g : Network) (e : Edge) (lost : Loss) → lost (edge_count g) ≡ false
    → (x y : ℕ)
    → joined (add_edge g e) lost x y
    ≡ (joined g lost x y
    || (joined g lost x e.left && joined g lost e.right y)
    || (joined g lost x e.right && joined g lost e.left y))
joined_new_kept g e lost k x y = bool_ext (joined (add_edge g e) lost x y) (merged q a b x y) down up
  where
    a : ℕ
    a = e.left

    b : ℕ
    b = e.right

    q : ℕ → ℕ → Bool
    q = joined g lost

    P : ℕ → Edge → Type 0
    P s f = lost s ≡ false → merged q a b f.left f.right ≡ true

    each : (s : ℕ) → s < edge_count (add_edge g e) → P s (edge (add_edge g e) s)
    each = each_edge_more P g e (λ s h d. merged_before q a b (joined-edge g lost s h d)) (λ d. merged_here q (joined_refl g lost) a b)

    down : joined (add_edge g e) lost x y ≡ true → merged q a b x y ≡ true
    down = joined_least (λ x y. merged q a b x y ≡ true) (merged_equivalence g lost a b) (add_edge g e) lost each x y

    new : joined (add_edge g e) lost a b ≡ true
    new = rw (edge_new g e) at (joined-edge (add_edge g e) lost (edge_count g) (omega (arith, edge_count_more g e)) k)

    up : merged q a b x y ≡ true → joined (add_edge g e) lost x y ≡ true
    up = merged_least (λ x y. joined (add_edge g e) lost x y ≡ true) (joined_equivalence (add_edge g e) lost) q a b (joined_old g e lost) new x y
