-- One vertex more: no group changes, and the new vertex is alone.
use mathlib.Core.Bool.{Bool, true, false, and-false, and-not_self}
use mathlib.Core.Logic.{Equivalence}
use mathlib.Core.Path.{◌≡◌, refl, sym, ◌∙◌}
use Prim.Native.Nat.{ℕ, ◌≤◌, ◌<◌}
use native.Mathlib.Omega.{arith}
use lib.Dec.{eqb}
use Rattle.graph.specs.Below.{all_below}
use Rattle.graph.specs.Network.{Network, Edge, Loss, Proper, edge, touches, nothing, edge_count, add_vertex, add_edge, mates, loss_of, without, joined}
use Rattle.graph.specs.Groups.{component, parts, bridge_block, loss_of_both, outlive_two}
use Rattle.graph.specs.Block.{link, link_at, links, block}
use Rattle.graph.specs.Between.{is_cut_between}
use Rattle.graph.proofs.Truth.{bool_ext, or_neither, and_left, and_both, eqb_eq, eqb_same, ne_eqb}
use Rattle.graph.proofs.Below.{all_below_lem}
use Rattle.graph.proofs.Joined.{joined_refl, joined_least, joined_same_loss, each_edge_more}

-- one vertex more changes no component
pub component_vertex_more : (g : Network) (x y : ℕ) → component (add_vertex g) x y ≡ component g x y
unfolding component joined add_vertex
component_vertex_more g x y = refl

-- one vertex more changes no bridge-block
pub bridge_block_vertex_more : (g : Network) (x y : ℕ) → bridge_block (add_vertex g) x y ≡ bridge_block g x y
unfolding bridge_block component loss_of mates joined edge edge_count add_vertex
bridge_block_vertex_more g x y = refl

-- one vertex more changes nothing of which vertices outlive two losses
pub outlive_two_vertex_more : (g : Network) (x y : ℕ) → outlive_two (add_vertex g) x y ≡ outlive_two g x y
unfolding outlive_two component loss_of_both loss_of mates joined edge edge_count add_vertex
outlive_two_vertex_more g x y = refl

-- one vertex more changes no block
pub block_vertex_more : (g : Network) (s t : ℕ) → block (add_vertex g) s t ≡ block g s t
unfolding block links link link_at without joined edge edge_count add_vertex
block_vertex_more g s t = refl

-- a number that is no vertex is joined to nothing but itself
pub joined-alone : (g : Network) → Proper g → (lost : Loss) (v x : ℕ) → g.vertices ≤ v → joined g lost v x ≡ eqb v x
joined-alone g proper lost v x h =
    bool_ext (joined g lost v x) (eqb v x) (λ e. sym (apart v x e) ∙ eqb_same v) (λ e. rw (eqb_eq v x e) (joined_refl g lost x))
  where
    no : (y : ℕ) → y < g.vertices → eqb v y ≡ false
    no y l = ne_eqb v y (omega arith)

    q : Equivalence (λ y z. eqb v y ≡ eqb v z)
    q = record { refl = λ y. refl; symm = λ y z p. sym p; trans = λ x y z p q. p ∙ q }

    apart : (y z : ℕ) → joined g lost y z ≡ true → eqb v y ≡ eqb v z
    apart = joined_least (λ y z. eqb v y ≡ eqb v z) q g lost
        (λ s l k. no (edge g s).left (proper.left_known s l) ∙ sym (no (edge g s).right (proper.right_known s l)))

-- a number that is no vertex shares no component with another
pub component-alone : (g : Network) → Proper g → (v x : ℕ) → g.vertices ≤ v → component g v x ≡ eqb v x
unfolding component
component-alone g proper v x h = joined-alone g proper nothing v x h

-- a number that is no vertex shares no bridge-block with another
pub bridge_block-alone : (g : Network) → Proper g → (v x : ℕ) → g.vertices ≤ v → bridge_block g v x ≡ eqb v x
unfolding bridge_block
bridge_block-alone g proper v x h = bool_ext (bridge_block g v x) (eqb v x) down up
  where
    each : ℕ → Bool
    each s = joined g (loss_of g s) v x

    down : bridge_block g v x ≡ true → eqb v x ≡ true
    down e = sym (component-alone g proper v x h) ∙ and_left (component g v x) (all_below (edge_count g) each) e

    up : eqb v x ≡ true → bridge_block g v x ≡ true
    up e = and_both (component-alone g proper v x h ∙ e) (all_below_lem (edge_count g) each (λ s l. joined-alone g proper (loss_of g s) v x h ∙ e))

-- the new vertex shares no component with another
pub component_new_vertex : (g : Network) → Proper g → (x : ℕ) → component (add_vertex g) g.vertices x ≡ eqb g.vertices x
component_new_vertex g proper x =
    component_vertex_more g g.vertices x ∙ component-alone g proper g.vertices x (omega arith)

-- the new vertex shares no bridge-block with another
pub bridge_block_new_vertex : (g : Network) → Proper g → (x : ℕ) → bridge_block (add_vertex g) g.vertices x ≡ eqb g.vertices x
bridge_block_new_vertex g proper x =
    bridge_block_vertex_more g g.vertices x ∙ bridge_block-alone g proper g.vertices x (omega arith)

-- no edge touches a number that is no vertex, so its loss is the loss of nothing
pub without-alone : (g : Network) → Proper g → (c : ℕ) → g.vertices ≤ c → (s : ℕ) → s < edge_count g → without g c s ≡ nothing s
unfolding without touches nothing
without-alone g proper c h s l = or_neither (no (edge g s).left (proper.left_known s l)) (no (edge g s).right (proper.right_known s l))
  where
    no : (y : ℕ) → y < g.vertices → eqb y c ≡ false
    no y k = ne_eqb y c (omega arith)

-- a number that is no vertex is no cut vertex
pub not_cut_alone : (g : Network) → Proper g → (a b c : ℕ) → g.vertices ≤ c → is_cut_between g a b c ≡ false
unfolding is_cut_between parts component
not_cut_alone g proper a b c h =
    rw (joined_same_loss g (without g c) nothing (without-alone g proper c h) a b, and-not_self, and-false)

-- one vertex more keeps a network proper
pub proper_vertex_more : (g : Network) → Proper g → Proper (add_vertex g)
unfolding add_vertex edge edge_count
proper_vertex_more g proper = record {
  left_known = λ s h. omega (arith, proper.left_known s h);
  right_known = λ s h. omega (arith, proper.right_known s h);
  no_loop = proper.no_loop;
}

-- one edge more between two different vertices keeps a network proper
pub proper_edge_more : (g : Network) (e : Edge) → Proper g
    → e.left < g.vertices → e.right < g.vertices → eqb e.left e.right ≡ false → Proper (add_edge g e)
unfolding add_edge
proper_edge_more g e proper h k d = record {
  left_known = each_edge_more (λ s f. f.left < g.vertices) g e proper.left_known h;
  right_known = each_edge_more (λ s f. f.right < g.vertices) g e proper.right_known k;
  no_loop = each_edge_more (λ s f. eqb f.left f.right ≡ false) g e proper.no_loop d;
}
