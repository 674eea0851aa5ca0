-- The lists of edges by their entries: where an entry leads, what it passes over, and that the words of a table give the entries.
use mathlib.Core.Bool.{Bool, true, false, cond}
use mathlib.Core.List.{List}
use mathlib.Core.Logic.{◌⊎◌, inl, inr}
use mathlib.Core.Path.{◌≡◌, refl, sym, ◌∙◌, subst}
use Prim.Native.Nat.{ℕ, zero, suc, ◌/◌, ◌%◌, ◌≤◌, ◌<◌, min}
use native.Mathlib.Omega.{arith}
use lib.Dec.{eqb}
use Rattle.graph.specs.Network.{Network, edge, edge_count, touches}
use Rattle.graph.proofs.Truth.{true_or_false, eqb_eq, eqb_ne}
use Rattle.ways.specs.Search.{Allowed, Found, look, look_below}
use Rattle.numbers.specs.declared.Shape.{Shape}
use Rattle.forest.specs.Promise.{Holds, network_in, few_edges, vertex_scratch}
use Rattle.routes.specs.Inside.Frame.{head_column}
use Rattle.routes.specs.Inside.Lists.{last_at, entries_of, Linked, entry_behind}
use Rattle.routes.proofs.Frames.{edges_are}

-- the last edge itself is the entry where it is at the vertex, and is passed over elsewhere
pub last_here : (g : Network) (x k : ℕ) → touches (edge g k) x ≡ true → last_at g x (suc k) ≡ suc k
unfolding last_at
last_here g x k e = rw e

pub last_passed : (g : Network) (x k : ℕ) → touches (edge g k) x ≡ false → last_at g x (suc k) ≡ last_at g x k
unfolding last_at
last_passed g x k e = rw e

-- an entry of the edges below k is at most k
pub last_small : (g : Network) (x k : ℕ) → last_at g x k ≤ k
unfolding last_at
last_small g x zero = omega arith
last_small g x (suc k) = go (touches (edge g k) x) (last_small g x k)
  where
    go : (b : Bool) → last_at g x k ≤ k → cond b (suc k) (last_at g x k) ≤ suc k
    go true h = omega arith
    go false h = omega arith

-- it leads to an edge below k
pub last_below : (g : Network) (x k s : ℕ) → last_at g x k ≡ suc s → s < k
last_below g x k s e = omega (arith, last_small g x k, e)

-- which is at the vertex
pub last_touches : (g : Network) (x k s : ℕ) → last_at g x k ≡ suc s → touches (edge g s) x ≡ true
unfolding last_at
last_touches g x zero s e = absurd (omega arith)
last_touches g x (suc k) s e = go (true_or_false (touches (edge g k) x)) (last_touches g x k s)
  where
    go : (touches (edge g k) x ≡ true) ⊎ (touches (edge g k) x ≡ false) → (last_at g x k ≡ suc s → touches (edge g s) x ≡ true)
        → touches (edge g s) x ≡ true
    go (inl p) f = subst (λ n. touches (edge g n) x ≡ true) (omega (arith, last_here g x k p, e)) p
    go (inr p) f = f (sym (last_passed g x k p) ∙ e)

-- no edge from the entry on, below k, is at the vertex
pub none_from_last : (g : Network) (x k r : ℕ) → last_at g x k ≤ r → r < k → touches (edge g r) x ≡ false
none_from_last g x zero r h l = absurd (omega arith)
none_from_last g x (suc k) r h l = go (true_or_false (touches (edge g k) x)) (true_or_false (eqb k r)) (none_from_last g x k r)
  where
    go : (touches (edge g k) x ≡ true) ⊎ (touches (edge g k) x ≡ false) → (eqb k r ≡ true) ⊎ (eqb k r ≡ false)
        → (last_at g x k ≤ r → r < k → touches (edge g r) x ≡ false) → touches (edge g r) x ≡ false
    go (inl p) q f = absurd (omega (arith, last_here g x k p, h, l))
    go (inr p) (inl q) f = subst (λ n. touches (edge g n) x ≡ false) (eqb_eq k r q) p
    go (inr p) (inr q) f = f (omega (arith, last_passed g x k p, h)) (omega (arith, eqb_ne k r q))

-- so that the edges which are passed over show nothing
pub look_from_last : (g : Network) (allowed : Allowed) (y k : ℕ) (f : Found)
    → look_below g allowed y k f ≡ look_below g allowed y (last_at g y k) f
unfolding look_below last_at look
look_from_last g allowed y zero f = refl
look_from_last g allowed y (suc k) f = go (true_or_false (touches (edge g k) y)) (look_from_last g allowed y k f)
  where
    go : (touches (edge g k) y ≡ true) ⊎ (touches (edge g k) y ≡ false)
        → look_below g allowed y k f ≡ look_below g allowed y (last_at g y k) f
        → look_below g allowed y (suc k) f ≡ look_below g allowed y (last_at g y (suc k)) f
    go (inl p) e = rw (last_here g y k p)
    go (inr p) e = rw (last_passed g y k p, p) e

-- the two entries of an edge give that of either end
entry_of_end : (g : Network) (s x : ℕ) → edge_count g ≤ 8192 → s < edge_count g → touches (edge g s) x ≡ true
    → min (cond (eqb (edge g s).left x) (entries_of g s / 16384) (entries_of g s % 16384)) s ≡ last_at g x s
unfolding entries_of touches
entry_of_end g s x few h e = go (true_or_false (eqb (edge g s).left x))
  where
    go : (eqb (edge g s).left x ≡ true) ⊎ (eqb (edge g s).left x ≡ false)
        → min (cond (eqb (edge g s).left x) (entries_of g s / 16384) (entries_of g s % 16384)) s ≡ last_at g x s
    go (inl p) = rw (p, eqb_eq (edge g s).left x p) (omega (arith, last_small g x s, last_small g (edge g s).right s))
    go (inr p) = rw (p, eqb_eq (edge g s).right x (rw p at e)) (omega (arith, last_small g x s, last_small g (edge g s).left s))

-- an entry is never more than the edge that it stands behind
pub behind_small : (shape : Shape) (t : List ℕ) (x s : ℕ) → entry_behind shape t x s ≤ s
unfolding entry_behind
behind_small shape t x s = omega arith

module _ {shape : Shape} {g : Network} {t : List ℕ} (holds : Holds shape t) (is : network_in shape t ≡ g)
    (w : Linked shape g (edge_count g) t) where
  -- the entry behind an edge in the list of one of its ends
  pub entry_behind_is : (x s : ℕ) → s < edge_count g → touches (edge g s) x ≡ true → entry_behind shape t x s ≡ last_at g x s
  unfolding entry_behind
  entry_behind_is x s h e = rw (w.entries s h, is) (entry_of_end g s x (omega (arith, few_edges shape t holds, edges_are shape g t is)) h e)

  -- the first entry of a vertex's list
  pub first_entry_is : (x : ℕ) → x < shape.vertices → min (vertex_scratch shape t head_column x) shape.edges ≡ last_at g x (edge_count g)
  first_entry_is x h = omega (arith, w.heads x h, last_small g x (edge_count g), edges_are shape g t is)
