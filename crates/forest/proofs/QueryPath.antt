-- The path that a climb leaves in the table, read from its start.
use Rattle.std.proofs.Common.{◌≡◌, ℕ, zero, suc, ◌-◌, ◌∷◌, refl, ap, arith}
use Rattle.graph.specs.Below.{tabulate}
use Rattle.graph.specs.Cycle.{Step}
use Rattle.graph.proofs.PathCuts.{starts, inner}
use Rattle.naming.proofs.Listed.{tabulate_first}

-- steps that lead from each vertex to the next start from those vertices
pub starts_tabulate : (k : ℕ) (v : ℕ → ℕ) (step : ℕ → Step) → ((i : ℕ) → (step i).to ≡ v (suc i))
    → starts (v 0) (tabulate k step) ≡ tabulate k v
unfolding starts tabulate
starts_tabulate zero v step f = refl
starts_tabulate (suc k) v step f =
    rw (tabulate_first k step, tabulate_first k v, f 0)
    (ap (λ l. v 0 ∷ l) (starts_tabulate k (λ i. v (suc i)) (λ i. step (suc i)) (λ i. f (suc i))))

-- the vertices between the ends of a path
pub inner_tabulate : (k : ℕ) (v : ℕ → ℕ) (step : ℕ → Step) → ((i : ℕ) → (step i).to ≡ v (suc i))
    → inner (tabulate k step) ≡ tabulate (k - 1) (λ i. v (suc i))
unfolding inner tabulate
inner_tabulate zero v step f = refl
inner_tabulate (suc k) v step f =
    let e : suc k - 1 ≡ k = omega arith in
    rw (tabulate_first k step, e, f 0) (starts_tabulate k (λ i. v (suc i)) (λ i. step (suc i)) (λ i. f (suc i)))
