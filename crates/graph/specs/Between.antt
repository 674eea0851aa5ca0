-- The edges, and the vertices, whose single loss parts two given vertices, in travelling order.
use Rattle.std.specs.Prelude.{Bool, false, not, cond, ◌&&◌, List, [], ◌∷◌, ◌≡◌, refl, ℕ, zero, suc, ◌≤◌, eqb}
use Rattle.std.proofs.Common.{ap, arith, ne_eqb}
use Rattle.std.proofs.Math.Path.{fun_ext}
use Rattle.graph.specs.Below.{any_below, listed}
use Rattle.graph.specs.Network.{Network, never, edge, edge_count, mates, mates-never, loss_of, without, joined}
use Rattle.graph.specs.Groups.{parts}

-- x put into a list before the first that it comes before.
unfoldable pub insert : (ℕ → ℕ → Bool) → ℕ → List ℕ → List ℕ
insert before x [] = x ∷ []
insert before x (y ∷ ys) =
    let later = insert before x ys in
    cond (before x y) (x ∷ y ∷ ys) (y ∷ later)

unfoldable pub sort : (ℕ → ℕ → Bool) → List ℕ → List ℕ
sort before [] = []
sort before (x ∷ xs) = insert before x (sort before xs)

-- No mate of edge s has a lesser number.
unfoldable pub least_mate : Network → ℕ → Bool
least_mate g s = not (any_below s (λ t. mates g t s))

-- The loss of edge s parts a and b (document 01: it is a sole span between them). Of a set of mates the least stands for all.
unfoldable pub is_bridge_between : Network → ℕ → ℕ → ℕ → Bool
is_bridge_between g a b s = least_mate g s && parts g (loss_of g s) a b

-- Under document 01's rule of mates this is document 01's sentence: the loss of edge s, and of no other, parts them.
pub bridge-between-never : (g : Network) → g.rule ≡ never → (a b s : ℕ) → is_bridge_between g a b s ≡ parts g (λ t. eqb s t) a b
unfolding is_bridge_between least_mate loss_of any_below
bridge-between-never g rule_is a b s =
    rw no_lesser_mate (ap (λ lost. parts g lost a b) (fun_ext (mates-never g rule_is s)))
  where
    up_to : (n : ℕ) → n ≤ s → any_below n (λ t. mates g t s) ≡ false
    up_to zero h = refl
    up_to (suc n) h = rw (up_to n (omega arith), mates-never g rule_is n s) (ne_eqb n s (λ q. omega arith))

    no_lesser_mate : any_below s (λ t. mates g t s) ≡ false
    no_lesser_mate = up_to s (omega arith)

-- Of two bridges between a and b, s comes before t: with t lost, both ends of s are still joined to a.
unfoldable pub bridge_before : Network → ℕ → ℕ → ℕ → Bool
bridge_before g a s t = joined g (loss_of g t) a (edge g s).left && joined g (loss_of g t) a (edge g s).right

unfoldable pub bridges_between : Network → ℕ → ℕ → List ℕ
bridges_between g a b = sort (bridge_before g a) (listed (edge_count g) (is_bridge_between g a b))

-- Vertex c is a cut vertex between a and b (document 01: a cut cabinet): neither of them, and its loss parts them.
unfoldable pub is_cut_between : Network → ℕ → ℕ → ℕ → Bool
is_cut_between g a b c = not (eqb c a) && not (eqb c b) && parts g (without g c) a b

-- Of two cut vertices between a and b, c comes before d: with d lost, c is still joined to a.
unfoldable pub cut_before : Network → ℕ → ℕ → ℕ → Bool
cut_before g a c d = joined g (without g d) a c

unfoldable pub cuts_between : Network → ℕ → ℕ → List ℕ
cuts_between g a b = sort (cut_before g a) (listed g.vertices (is_cut_between g a b))
