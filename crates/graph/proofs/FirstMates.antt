-- Laws of the least of an edge's mates.
use mathlib.Core.Bool.{true}
use mathlib.Core.Logic.{⊎_elim}
use mathlib.Core.Option.{Option, none, some}
use mathlib.Core.Path.{◌≡◌}
use Prim.Native.Nat.{ℕ, ◌≤◌}
use native.Mathlib.Omega.{arith}
use lib.Dec.{eqb}
use Rattle.graph.specs.Network.{Network, MateRule, mates}
use Rattle.graph.specs.Between.{least_mate}
use Rattle.graph.specs.Travel.{first_mate}
use Rattle.graph.proofs.Truth.{true_or_false, not_both, eqb_eq, eqb_ne}
use Rattle.graph.proofs.Below.{Least, found, missing, least_below_lem}
use Rattle.graph.proofs.Mates.{mates_sym, mates_trans}
use Rattle.graph.proofs.BridgesBetween.{least_mates_differ}
use Rattle.graph.proofs.Travel.{first_mate_lem, first_mate_least}

-- the first mate of an edge has no greater number
pub first_mate_low : (g : Network) (s : ℕ) → first_mate g s ≤ s
unfolding first_mate
first_mate_low g s = go (least_below_lem s (λ t. mates g t s))
  where
    go : {o : Option ℕ} → Least s (λ t. mates g t s) o → let k : ℕ = elim o [ some t ↦ t | none ↦ s ] in k ≤ s
    go (found t h m n) = omega arith
    go (missing n) = omega arith

module _ (g : Network) (rule : MateRule g.rule) where
  -- an edge is a mate of its first mate
  pub mate_of_first : (s : ℕ) → mates g s (first_mate g s) ≡ true
  mate_of_first s = mates_sym g rule (first_mate g s) s (first_mate_lem g s)

  -- mates of which both are the least of their mates are one edge
  pub least_mates_one : (s t : ℕ) → least_mate g s ≡ true → least_mate g t ≡ true → mates g s t ≡ true → s ≡ t
  least_mates_one s t k l m =
      ⊎_elim (eqb_eq s t) (λ d. absurd (not_both m (least_mates_differ g rule s t k l (eqb_ne s t d)))) (true_or_false (eqb s t))

  -- mates have one first mate
  pub mates_first : (s t : ℕ) → mates g s t ≡ true → first_mate g s ≡ first_mate g t
  mates_first s t m =
      least_mates_one (first_mate g s) (first_mate g t) (first_mate_least g rule s) (first_mate_least g rule t)
      (mates_trans g rule (first_mate g s) s (first_mate g t) (first_mate_lem g s)
      (mates_trans g rule s t (first_mate g t) m (mate_of_first t)))

  -- edges that have one first mate are mates
  pub first_mates : (s t : ℕ) → first_mate g s ≡ first_mate g t → mates g s t ≡ true
  first_mates s t q = mates_trans g rule s (first_mate g s) t (mate_of_first s) (rw q (first_mate_lem g t))

  -- the least of mates is its own first mate
  pub least_first : (s : ℕ) → least_mate g s ≡ true → first_mate g s ≡ s
  least_first s k = least_mates_one (first_mate g s) s (first_mate_least g rule s) k (first_mate_lem g s)
