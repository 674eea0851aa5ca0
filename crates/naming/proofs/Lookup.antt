-- Laws of the look-up of a group: whose it is, what its size counts, that the bridge-blocks of a component add up to it, and that it is the
-- same in books that are alike.
use mathlib.Core.Bool.{true, cond}
use mathlib.Core.List.{List}
use mathlib.Core.Logic.{◌↔◌}
use mathlib.Core.Path.{◌≡◌, sym, ◌∙◌, ap, ap₂}
use Prim.Native.Nat.{ℕ, ◌<◌}
use lib.Dec.{eqb}
use Rattle.graph.specs.Below.{count}
use Rattle.graph.specs.Network.{Network, MateRule}
use Rattle.graph.specs.Groups.{component, bridge_block}
use Rattle.graph.proofs.Below.{count_same}
use Rattle.graph.proofs.BridgeBlock.{bridge_block-component}
use Rattle.graph.proofs.Alike.{component_alike, bridge_block_alike}
use Rattle.naming.specs.Rename.{Grouping, size, name_of}
use Rattle.naming.specs.Book.{Book}
use Rattle.naming.specs.Lookup.{Group, group_of, component_of, bridge_block_of, over_bridge_blocks}
use Rattle.naming.proofs.Equivalent.{Equivalent, group_swap, size_same}
use Rattle.naming.proofs.Naming.{Naming, group_by_name}
use Rattle.naming.proofs.GroupSum.{over_groups-same, parts_add_up}
use Rattle.naming.proofs.Book.{component_laws, bridge_block_laws}
use Rattle.naming.proofs.AlikeBooks.{AlikeBooks}

module _ (n : ℕ) (groups : Grouping) (e : Equivalent groups) (names : List ℕ) (named : Naming n groups names) where
  -- two items of one group have one look-up
  one_look_up : (x y : ℕ) → x < n → y < n → groups x y ≡ true → group_of n names groups x ≡ group_of n names groups y
  unfolding group_of
  one_look_up x y h k one =
      ap₂ (λ name (size : ℕ). let g : Group = record { name = name; size = size } in g) (named.one_name x y h k one) (size_same n groups e x y one)

  -- and only they have
  pub look_up_exactly : (x y : ℕ) → x < n → y < n → (group_of n names groups x ≡ group_of n names groups y) ↔ (groups x y ≡ true)
  unfolding group_of
  look_up_exactly x y h k = (λ q. named.one_group x y h k (ap (λ (g : Group). g.name) q), one_look_up x y h k)

  -- the item that a group is named by has the same look-up
  pub look_up_by_name : (x : ℕ) → x < n → group_of n names groups (name_of names x) ≡ group_of n names groups x
  look_up_by_name x h = sym (one_look_up x (name_of names x) h (named.name_below x h) (named.name_within x h))

  -- the size that is told is how many items have the name that is told
  pub size_by_name : (x : ℕ) → x < n → (group_of n names groups x).size ≡ count n (λ y. eqb (name_of names y) (group_of n names groups x).name)
  unfolding group_of size
  size_by_name x h =
      count_same n (groups x) (λ y. eqb (name_of names y) (name_of names x))
      (λ y k. group_swap groups e x y ∙ group_by_name n groups names named y x k h)

-- the sizes of the bridge-blocks of a component, each counted once, add up to the component's, in every network, by any rule of mates
pub bridge_blocks_add_up : (g : Network) (x : ℕ)
    → over_bridge_blocks g x (size g.vertices (bridge_block g)) ≡ size g.vertices (component g) x
unfolding over_bridge_blocks
bridge_blocks_add_up g x =
    parts_add_up
    g.vertices
    (bridge_block g)
    (component g)
    (bridge_block_laws.equivalent g)
    (component_laws.equivalent g)
    (bridge_block-component g)
    x

-- so do the sizes that are looked up, whoever gives them
pub sizes_add_up : (b : Book) (x : ℕ) (sizes : ℕ → ℕ) → ((y : ℕ) → y < b.network.vertices → (bridge_block_of b y).size ≡ sizes y)
    → over_bridge_blocks b.network x sizes ≡ (component_of b x).size
unfolding component_of bridge_block_of group_of over_bridge_blocks
sizes_add_up b x sizes are =
    over_groups-same b.network.vertices (bridge_block b.network) _ _
    (λ y h. ap (λ n. cond (component b.network x y) n 0) (sym (are y h)))
    ∙ bridge_blocks_add_up b.network x

-- a look-up is the same where the items, the names and the groups are
group_of-same : {n n' : ℕ} {names names' : List ℕ} {groups groups' : Grouping} → n' ≡ n → names' ≡ names
    → ((x y : ℕ) → groups' x y ≡ groups x y) → (x : ℕ) → group_of n' names' groups' x ≡ group_of n names groups x
group_of-same p q r x = λ i. group_of (p i) (q i) (λ y z. r y z i) x

-- as those of components and of bridge-blocks are in books that are alike
pub component_of_alike : {b b' : Book} → AlikeBooks b b' → MateRule b'.network.rule → (x : ℕ) → component_of b' x ≡ component_of b x
unfolding component_of
component_of_alike a rule' = group_of-same a.networks.as_many_vertices a.same_components (component_alike a.networks rule')

pub bridge_block_of_alike : {b b' : Book} → AlikeBooks b b' → MateRule b.network.rule → MateRule b'.network.rule
    → (x : ℕ) → bridge_block_of b' x ≡ bridge_block_of b x
unfolding bridge_block_of
bridge_block_of_alike a rule rule' =
    group_of-same a.networks.as_many_vertices a.same_bridge_blocks (bridge_block_alike a.networks rule rule')
