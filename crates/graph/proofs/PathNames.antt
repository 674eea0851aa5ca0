-- The bridges between the ends of a block path, where the edges have names and that of a bridge is the least of its mates: then the names
-- of the edges by which the steps are given are the bridges.
use mathlib.Core.Bool.{true, false, cond}
use mathlib.Core.List.{List, [], ◌∷◌}
use mathlib.Core.Logic.{◌⊎◌, inl, inr}
use mathlib.Core.Path.{◌≡◌, refl, ◌∙◌}
use Prim.Native.Nat.{ℕ, ◌<◌}
use Rattle.graph.specs.Network.{Network, Proper, MateRule, edge_count}
use Rattle.graph.specs.Groups.{bridge, bridge_block}
use Rattle.graph.specs.Cycle.{Step}
use Rattle.graph.specs.Between.{bridges_between}
use Rattle.graph.specs.Travel.{first_mate}
use Rattle.graph.specs.BlockPath.{BlockPath}
use Rattle.graph.proofs.Truth.{true_or_false, not_of_false}
use Rattle.graph.proofs.BlockPath.{Onward, onward}
use Rattle.graph.proofs.BridgeVertices.{bridge_of_block_vertices}
use Rattle.graph.proofs.PathBridges.{path_bridges, bridges_of_block_path}

-- each bridge has the least of its mates for a name
abbrev pub NamedByLeast : Network → (ℕ → ℕ) → Type 0
NamedByLeast g name = (s : ℕ) → s < edge_count g → bridge g s ≡ true → name s ≡ first_mate g s

-- the names of the edges by which the steps of a path from a between different bridge-blocks are given, in the order of the path
unfoldable pub parting_names : (ℕ → ℕ) → Network → ℕ → List Step → List ℕ
parting_names name g a [] = []
parting_names name g a (p ∷ ps) =
    let later = parting_names name g p.to ps in
    cond (bridge_block g a p.to) later (name p.along ∷ later)

module _ (g : Network) (proper : Proper g) (rule : MateRule g.rule) (name : ℕ → ℕ) (named : NamedByLeast g name) where
  -- the edge of such a step is a bridge, and so its name is the least of its mates
  path_bridges_named : {a b : ℕ} {ps : List Step} → BlockPath g a ps b → path_bridges g a ps ≡ parting_names name g a ps
  unfolding path_bridges parting_names
  path_bridges_named {ps = []} path = refl
  path_bridges_named {a} {b} {ps = p ∷ ps} path = go (path_bridges_named o.rest) (true_or_false (bridge_block g a p.to))
    where
      o : Onward g a p ps b
      o = onward path

      go : path_bridges g p.to ps ≡ parting_names name g p.to ps → (bridge_block g a p.to ≡ true) ⊎ (bridge_block g a p.to ≡ false)
          → path_bridges g a (p ∷ ps) ≡ parting_names name g a (p ∷ ps)
      go rest (inl w) = rw (w, rest)
      go rest (inr n) =
          rw (
            n,
            rest,
            named p.along o.known
                (bridge_of_block_vertices g proper rule p.along o.known a p.to o.on_start o.on_end o.away ∙ not_of_false n),
          )

  -- the bridges between the ends of a block path are those names, in its order
  pub bridges_of_named_steps : {a b : ℕ} {ps : List Step} → BlockPath g a ps b → bridges_between g a b ≡ parting_names name g a ps
  bridges_of_named_steps path = bridges_of_block_path g proper rule path ∙ path_bridges_named path
