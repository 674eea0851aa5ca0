-- What a walk meets, in the order in which it first meets it.
use Rattle.std.specs.Prelude.{Bool, not, cond, ◌&&◌, List, [], ◌∷◌, map, ℕ, eqb}
use Rattle.std.proofs.Math.Option.{none, some}
use Rattle.graph.specs.Below.{least_below}
use Rattle.graph.specs.Network.{Network, mates}
use Rattle.graph.specs.Cycle.{Step}

-- The numbers of a list that pass the test, each where it first stands.
unfoldable pub firsts : (ℕ → Bool) → List ℕ → List ℕ
firsts p [] = []
firsts p (x ∷ xs) =
    let later = firsts (λ y. p y && not (eqb y x)) xs in
    cond (p x) (x ∷ later) later

-- The vertices that a walk from vertex a visits.
unfoldable pub visited : ℕ → List Step → List ℕ
visited a ps = a ∷ map (λ p. p.to) ps

-- The least of the mates of edge s.
unfoldable pub first_mate : Network → ℕ → ℕ
first_mate g s = elim (least_below s (λ t. mates g t s)) [ some t ↦ t | none ↦ s ]

-- The edges that a walk crosses, each as the least of its mates.
unfoldable pub crossed : Network → List Step → List ℕ
crossed g ps = map (λ p. first_mate g p.along) ps
