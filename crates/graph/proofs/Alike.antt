-- Two networks alike: the ends of their edges and the mates among them are the same, and so all their groups and lists are.
use mathlib.Core.Bool.{true, false, not}
use mathlib.Core.List.{map-id}
use mathlib.Core.Logic.{◌⊎◌, inl, inr}
use mathlib.Core.Path.{◌≡◌, sym, ◌∙◌, ap, ap₂}
use Prim.Native.Nat.{ℕ, suc, ◌<◌}
use native.Mathlib.Omega.{arith}
use lib.Dec.{eqb}
use Rattle.graph.specs.Network.{Network, Edge, MateRule, Proper, edge, edge_count, parallel, add_vertex, add_edge, mates}
use Rattle.graph.specs.Groups.{component, bridge, bridge_block, outlive_two}
use Rattle.graph.specs.Cycle.{joins}
use Rattle.graph.specs.Block.{block, at_both, shared_block}
use Rattle.graph.specs.Between.{least_mate, bridges_between, cuts_between}
use Rattle.graph.proofs.Truth.{eqb_swap}
use Rattle.graph.proofs.Below.{any_below-same, least_below-same}
use Rattle.graph.proofs.Mates.{parallel_carries, mates_refl, mates_swap}
use Rattle.graph.proofs.Ducts.{parallel_sym}
use Rattle.graph.proofs.Joined.{edge_count_more, edge_old, edge_new, old_or_new, each_edge_more}
use Rattle.graph.proofs.MateLoss.{mates_old, mates_new}
use Rattle.graph.proofs.Image.{Image, component_image}
use Rattle.graph.proofs.ImageBlocks.{bridge_image, bridge_block_image, block_image_any, at_both_image}
use Rattle.graph.proofs.ImageLosses.{outlive_two_image}
use Rattle.graph.proofs.ImageLists.{bridges_between_image, cuts_between_image}

-- Two networks alike: as many vertices and edges, the same ends in either direction, the same mates.
pub record Alike (g h : Network) : Type 0 where
  pub as_many_vertices : h.vertices ≡ g.vertices
  pub as_many_edges : edge_count h ≡ edge_count g
  pub same_ends : (s : ℕ) → s < edge_count g → parallel (edge h s) (edge g s) ≡ true
  pub same-mates : (s t : ℕ) → s < edge_count g → t < edge_count g → mates h s t ≡ mates g s t

-- a network is like another that is like it
pub alike_sym : {g h : Network} → Alike g h → Alike h g
alike_sym {g} {h} a =
    record {
      as_many_vertices = sym a.as_many_vertices;
      as_many_edges = sym a.as_many_edges;
      same_ends = λ s k. parallel_sym (edge h s) (edge g s) (a.same_ends s (rw a.as_many_edges at k));
      same-mates = λ s t k l. sym (a.same-mates s t (rw a.as_many_edges at k) (rw a.as_many_edges at l));
    }

-- of two networks alike each is an image of the other, number for number
pub alike_image : {g h : Network} → Alike g h → Image g h (λ x. x) (λ s. s)
unfolding parallel joins
alike_image {g} {h} a =
    record {
      one_vertex = λ x y q. q;
      edge_known = λ s k. rw a.as_many_edges k;
      ends_go = a.same_ends;
      mates_go = a.same-mates;
      no_other = λ r x k t. record { at = r; below = rw a.as_many_edges at k; passes = mates_refl h r };
    }

-- a network like a proper one is proper
pub proper_alike : {g h : Network} → Alike g h → Proper g → Proper h
proper_alike {g} {h} a proper =
    record { left_known = λ s k. (ends s k).0; right_known = λ s k. (ends s k).1; no_loop = λ s k. (ends s k).2 }
  where
    P : ℕ → ℕ → Type 0
    P x y = (x < h.vertices) × (y < h.vertices) × (eqb x y ≡ false)

    ends : (s : ℕ) → s < edge_count h → P (edge h s).left (edge h s).right
    ends s k =
        let l : s < edge_count g = rw a.as_many_edges at k in
        parallel_carries P (λ x y e. (e.1, e.0, eqb_swap y x ∙ e.2)) (edge h s) (edge g s) (a.same_ends s l)
        (rw a.as_many_vertices (proper.left_known s l, proper.right_known s l, proper.no_loop s l))

module _ {g h : Network} (a : Alike g h) where
  -- the least of mates is the same edge in both
  least_mate_alike : (s : ℕ) → s < edge_count g → least_mate h s ≡ least_mate g s
  unfolding least_mate
  least_mate_alike s k =
      ap not (any_below-same s (λ t. mates h t s) (λ t. mates g t s) (λ t l. a.same-mates t s (omega arith) k))

  module _ (rule : MateRule h.rule) where
    -- networks alike have the same components
    pub component_alike : (x y : ℕ) → component h x y ≡ component g x y
    component_alike = component_image (alike_image a) rule

    -- and the same bridges
    pub bridge_alike : (s : ℕ) → s < edge_count g → bridge h s ≡ bridge g s
    bridge_alike = bridge_image (alike_image a) rule

    -- and the same vertices outlive two losses
    pub outlive_two_alike : (x y : ℕ) → outlive_two h x y ≡ outlive_two g x y
    outlive_two_alike = outlive_two_image (alike_image a) rule

    -- and the same cut vertices between two vertices, in the same order
    pub cuts_between_alike : Proper g → (x y : ℕ) → cuts_between h x y ≡ cuts_between g x y
    cuts_between_alike proper x y =
        cuts_between_image (alike_image a) rule proper (proper_alike a proper) x y ∙ map-id (cuts_between g x y)

module _ {g h : Network} (a : Alike g h) (rule : MateRule g.rule) (rule' : MateRule h.rule) where
  -- networks alike have the same bridge-blocks
  pub bridge_block_alike : (x y : ℕ) → bridge_block h x y ≡ bridge_block g x y
  bridge_block_alike = bridge_block_image (alike_image a) rule rule'

  -- and the same blocks
  pub block_alike : (s t : ℕ) → block h s t ≡ block g s t
  block_alike = block_image_any (alike_image a) rule rule' (λ s t q. q) (λ s k. rw a.as_many_edges at k)

  -- and the same block that two vertices share
  pub shared_block_alike : (x y : ℕ) → shared_block h x y ≡ shared_block g x y
  unfolding shared_block
  shared_block_alike x y =
      rw a.as_many_edges (least_below-same (edge_count g) (at_both h x y) (at_both g x y) (at_both_image (alike_image a) rule rule' x y))

  -- and the same bridges between two vertices, in the same order
  pub bridges_between_alike : (x y : ℕ) → bridges_between h x y ≡ bridges_between g x y
  bridges_between_alike x y =
      bridges_between_image (alike_image a) rule rule' (λ s k e. least_mate_alike a s k ∙ e) x y ∙ map-id (bridges_between g x y)

-- networks alike are so with one vertex more each
pub alike_vertex_more : {g h : Network} → Alike g h → Alike (add_vertex g) (add_vertex h)
unfolding add_vertex edge_count edge mates
alike_vertex_more a =
    record {
      as_many_vertices = ap suc a.as_many_vertices;
      as_many_edges = a.as_many_edges;
      same_ends = a.same_ends;
      same-mates = a.same-mates;
    }

module _ {g h : Network} (a : Alike g h) (e e' : Edge) where
  -- a new edge with the same ends
  ends_more : parallel e' e ≡ true
      → (s : ℕ) → s < edge_count (add_edge g e) → parallel (edge (add_edge h e') s) (edge (add_edge g e) s) ≡ true
  ends_more ends =
      each_edge_more (λ s f. parallel (edge (add_edge h e') s) f ≡ true) g e
      (λ s k. rw (edge_old h e' s (rw a.as_many_edges k)) (a.same_ends s k))
      (rw (← a.as_many_edges, edge_new h e') ends)

  -- a new edge with the same mates
  mates_more : MateRule g.rule → MateRule h.rule
      → ((s : ℕ) → s < edge_count g → h.rule (edge h s) e' ≡ g.rule (edge g s) e)
      → (s t : ℕ) → s < edge_count (add_edge g e) → t < edge_count (add_edge g e) → mates (add_edge h e') s t ≡ mates (add_edge g e) s t
  unfolding add_edge
  mates_more rule rule' new s t k l = go (old_or_new g e s k) (old_or_new g e t l)
    where
      old : (s : ℕ) → s < edge_count g → mates (add_edge h e') s (edge_count g) ≡ mates (add_edge g e) s (edge_count g)
      old s k =
          ap (mates (add_edge h e') s) (sym a.as_many_edges)
          ∙ mates_new h e' s (rw a.as_many_edges k) ∙ new s k ∙ sym (mates_new g e s k)

      go : (s < edge_count g) ⊎ (s ≡ edge_count g) → (t < edge_count g) ⊎ (t ≡ edge_count g)
          → mates (add_edge h e') s t ≡ mates (add_edge g e) s t
      go (inl i) (inl j) =
          mates_old h e' s t (rw a.as_many_edges i) (rw a.as_many_edges j) ∙ a.same-mates s t i j ∙ sym (mates_old g e s t i j)
      go (inl i) (inr q) = rw q (old s i)
      go (inr q) (inl j) = mates_swap (add_edge h e') rule' s t ∙ rw q (old t j) ∙ mates_swap (add_edge g e) rule t s
      go (inr q) (inr r) = ap₂ (mates (add_edge h e')) q r ∙ mates_refl (add_edge h e') (edge_count g)
          ∙ sym (ap₂ (mates (add_edge g e)) q r ∙ mates_refl (add_edge g e) (edge_count g))

  -- networks alike are so with one edge more each, where the new edges have the same ends and the same mates
  pub alike_edge_more : MateRule g.rule → MateRule h.rule → parallel e' e ≡ true
      → ((s : ℕ) → s < edge_count g → h.rule (edge h s) e' ≡ g.rule (edge g s) e) → Alike (add_edge g e) (add_edge h e')
  unfolding add_edge
  alike_edge_more rule rule' ends new =
      record {
        as_many_vertices = a.as_many_vertices;
        as_many_edges = edge_count_more h e' ∙ ap suc a.as_many_edges ∙ sym (edge_count_more g e);
        same_ends = ends_more ends;
        same-mates = mates_more rule rule' new;
      }
