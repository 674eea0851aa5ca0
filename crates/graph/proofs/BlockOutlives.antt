-- Two vertices share a block exactly if they outlive the loss of any other vertex: what a mesh does for a lost cabinet, and that
-- nothing else does it.
use mathlib.Core.Bool.{true, false}
use mathlib.Core.List.{List, [], ◌∷◌}
use mathlib.Core.Logic.{◌↔◌}
use mathlib.Core.Option.{some}
use mathlib.Core.Path.{◌≡◌, refl, ◌∙◌, subst}
use Prim.Native.Nat.{ℕ, ◌<◌}
use lib.Dec.{eqb}
use Rattle.graph.specs.Network.{Network, edge_count, without, joined, Proper}
use Rattle.graph.specs.Groups.{component}
use Rattle.graph.specs.Cycle.{Step}
use Rattle.graph.specs.Block.{shared_block, on_block}
use Rattle.graph.specs.BlockPath.{BlockPath}
use Rattle.graph.proofs.Truth.{not_both, eq-eqb, eqb_swap}
use Rattle.graph.proofs.BlockVertices.{block_outlives_vertex}
use Rattle.graph.proofs.SharedBlock.{shared_block_some, shared_block_found}
use Rattle.graph.proofs.BlockPath.{onward, stays, steps_to_next, start_fresh, visited_differs, end_visited, block-component, path_parts_at_vertex}
use Rattle.graph.proofs.BlockPathExists.{component_block_path}

-- some block has both vertices on it
pub record OnOneBlock (g : Network) (x y : ℕ) : Type 0 where
  pub by : ℕ
  pub known : by < edge_count g
  pub first : on_block g by x ≡ true
  pub second : on_block g by y ≡ true

-- the two vertices share a component, and are still joined after the loss of any one other vertex
pub record OutliveVertices (g : Network) (x y : ℕ) : Type 0 where
  pub together : component g x y ≡ true
  pub outlives : (c : ℕ) → eqb c x ≡ false → eqb c y ≡ false → joined g (without g c) x y ≡ true

module _ (g : Network) (proper : Proper g) where
  -- a block path between vertices that outlive the loss of any other has one step
  one_block : {x y : ℕ} {ps : List Step} → BlockPath g x ps y → eqb x y ≡ false
      → ((c : ℕ) → eqb c x ≡ false → eqb c y ≡ false → joined g (without g c) x y ≡ true) → OnOneBlock g x y
  one_block {x} {y} {ps = []} path d w = absurd (not_both (eq-eqb x y (stays path)) d)
  one_block {x} {y} {ps = p ∷ []} path d w =
      let o = onward path in
      record {
        by = p.along;
        known = o.known;
        first = o.on_start;
        second = subst (λ z. on_block g p.along z ≡ true) (stays o.rest) o.on_end;
      }
  one_block {x} {y} {ps = p ∷ q ∷ ps} path d w =
      let o = onward path in
      let n = eqb_swap p.to y ∙ visited_differs y p.to (q ∷ ps) (end_visited o.rest) (start_fresh o.rest) in
      absurd
      (not_both
      (w p.to (eqb_swap p.to x ∙ o.away) n)
      (path_parts_at_vertex g proper path p.to (steps_to_next p.to p (q ∷ ps) refl) n))

  -- two vertices share a block exactly if they share a component and outlive the loss of any other vertex
  pub shares_block_exactly : (x y : ℕ) → eqb x y ≡ false → OnOneBlock g x y ↔ OutliveVertices g x y
  shares_block_exactly x y d = (
    λ b. record {
      together = block-component g b.by x y b.first b.second;
      outlives = λ c. block_outlives_vertex g proper b.by c x y b.first b.second;
    },
    λ o. one_block (component_block_path g x y o.together).1 d o.outlives,
  )

  -- so the block of two vertices is found exactly if they outlive the loss of any other vertex
  pub shared_block_found_exactly : (x y : ℕ) → eqb x y ≡ false → ((t : ℕ) × (shared_block g x y ≡ some t)) ↔ OutliveVertices g x y
  shared_block_found_exactly x y d = (
    λ f. let r = shared_block_some g x y f.0 f.1 in
        (shares_block_exactly x y d).0 (record { by = f.0; known = r.known; first = r.on_first; second = r.on_second }),
    λ o. let b = (shares_block_exactly x y d).1 o in shared_block_found g x y b.by b.first b.second,
  )
