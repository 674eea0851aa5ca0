-- The groups and lists of a network are those of the network in which each set of mates is one edge.
use mathlib.Core.List.{map, map-id}
use mathlib.Core.Path.{◌≡◌, sym, ◌∙◌}
use Prim.Native.Nat.{ℕ, ◌<◌}
use Rattle.graph.specs.Network.{Network, MateRule, Proper, edge_count}
use Rattle.graph.specs.Groups.{component, bridge, bridge_block, outlive_two}
use Rattle.graph.specs.Block.{block}
use Rattle.graph.specs.Between.{bridges_between, cuts_between}
use Rattle.graph.specs.Reduced.{reduced, reduced_number, full_number}
use Rattle.graph.proofs.Image.{component_image}
use Rattle.graph.proofs.ImageBlocks.{bridge_image, bridge_block_image, block_image}
use Rattle.graph.proofs.ImageLosses.{outlive_two_image}
use Rattle.graph.proofs.ImageLists.{bridges_between_image, cuts_between_image}
use Rattle.graph.proofs.Never.{least_never}
use Rattle.graph.proofs.Reduced.{reduced-never, reduced_rule, full_least, reduced_image, image_reduced, reduced_proper}

module _ (g : Network) (rule : MateRule g.rule) where
  -- the components are those of the reduced network
  pub component-reduced : (x y : ℕ) → component g x y ≡ component (reduced g) x y
  component-reduced x y = sym (component_image (image_reduced g rule) (reduced_rule g) x y)

  -- an edge is a bridge exactly if the edge that stands for it and its mates is one
  pub bridge-reduced : (s : ℕ) → s < edge_count g → bridge g s ≡ bridge (reduced g) (reduced_number g s)
  bridge-reduced s k = sym (bridge_image (image_reduced g rule) (reduced_rule g) s k)

  -- the bridge-blocks are those of the reduced network
  pub bridge_block-reduced : (x y : ℕ) → bridge_block g x y ≡ bridge_block (reduced g) x y
  bridge_block-reduced x y = sym (bridge_block_image (image_reduced g rule) rule (reduced_rule g) x y)

  -- vertices outlive two losses exactly if they do in the reduced network
  pub outlive_two-reduced : (x y : ℕ) → outlive_two g x y ≡ outlive_two (reduced g) x y
  outlive_two-reduced x y = sym (outlive_two_image (image_reduced g rule) (reduced_rule g) x y)

  -- edges share a block exactly if the edges that stand for them and their mates do
  pub block-reduced : (s t : ℕ) → s < edge_count g → t < edge_count g
      → block g s t ≡ block (reduced g) (reduced_number g s) (reduced_number g t)
  block-reduced s t k l = sym (block_image (image_reduced g rule) rule (reduced_rule g) s t k l)

  -- the bridges between two vertices are those of the reduced network, in the same order
  pub bridges_between-reduced : (a b : ℕ) → map (reduced_number g) (bridges_between g a b) ≡ bridges_between (reduced g) a b
  bridges_between-reduced a b =
      sym (bridges_between_image (image_reduced g rule) rule (reduced_rule g)
      (λ s k e. least_never (reduced g) (reduced-never g) (reduced_number g s)) a b)

  -- and the bridges of the reduced network are those of the network
  pub bridges_between_full : (a b : ℕ) → bridges_between g a b ≡ map (full_number g) (bridges_between (reduced g) a b)
  bridges_between_full = bridges_between_image (reduced_image g rule) (reduced_rule g) rule (λ k l e. full_least g k l)

  -- the cut vertices between two vertices are those of the reduced network, in the same order
  pub cuts_between-reduced : Proper g → (a b : ℕ) → cuts_between g a b ≡ cuts_between (reduced g) a b
  cuts_between-reduced proper a b =
      cuts_between_image (reduced_image g rule) rule (reduced_proper g proper) proper a b ∙ map-id (cuts_between (reduced g) a b)
