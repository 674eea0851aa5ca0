-- The bridges, bridge-blocks and blocks of an image are those of the network that it is the image of.
use mathlib.Core.Bool.{true, not, ◌&&◌}
use mathlib.Core.Logic.{⊎_elim}
use mathlib.Core.Path.{◌≡◌, sym, ◌∙◌, ap, ap₂}
use Prim.Native.Nat.{ℕ, ◌<◌}
use Rattle.graph.specs.Network.{Network, MateRule, edge, edge_count, touches, mates, loss_of, without, joined}
use Rattle.graph.specs.Groups.{bridge, bridge_block}
use Rattle.graph.specs.Block.{link, block, on_block, at_both}
use Rattle.graph.proofs.Truth.{bool_ext}
use Rattle.graph.proofs.Below.{Below}
use Rattle.graph.proofs.Joined.{joined_swap}
use Rattle.graph.proofs.Joins.{joins_carries, joins-touches}
use Rattle.graph.proofs.Mates.{mates_refl, mates_sym}
use Rattle.graph.proofs.MateEdges.{mates_share_block}
use Rattle.graph.proofs.BridgeBlock.{bridge_block_is_joined_off_bridges}
use Rattle.graph.proofs.Block.{block_refl, block_trans, block_equivalence, block_least, block_below}
use Rattle.graph.proofs.Ends.{link_sym}
use Rattle.graph.proofs.Links.{Link, link-parts, linked_edges_share_block}
use Rattle.graph.proofs.BlockVertices.{on_block_lem, block_on}
use Rattle.graph.proofs.BridgeVertices.{bridge-mates}
use Rattle.graph.proofs.Image.{Image, LossImage, ImageOf, Follows, follows_equivalence, image_equivalence, EndsOf, image_ends, image_joins}
use Rattle.graph.proofs.Image.{edge_loss_image, vertex_loss_image, joined_image}

-- edge r of h is the image of edge s of g, or a mate of it
abbrev pub EdgeOf : Network → Network → (ℕ → ℕ) → ℕ → ℕ → Type 0
EdgeOf g h p s r = (s < edge_count g) × (mates h r (p s) ≡ true)

module _ {g h : Network} {f p : ℕ → ℕ} (i : Image g h f p) (rule : MateRule h.rule) where
  -- the image of an edge is a bridge exactly if the edge is
  pub bridge_image : (s : ℕ) → s < edge_count g → bridge h (p s) ≡ bridge g s
  unfolding bridge
  bridge_image s k =
      ap not
      (joins_carries (λ u v. joined h (loss_of h (p s)) u v ≡ joined g (loss_of g s) (edge g s).left (edge g s).right)
      (λ u v e. joined_swap h (loss_of h (p s)) v u ∙ e) (edge h (p s)) _ _ (i.ends_go s k)
      (joined_image i rule (edge_loss_image i rule s (p s) k (mates_refl h (p s))) (edge g s).left (edge g s).right))

  -- the images of linked edges share a block
  link_image : (s t : ℕ) → s < edge_count g → t < edge_count g → link g s t ≡ true → block h (p s) (p t) ≡ true
  link_image s t k l e =
      let w = link-parts g s t e in
      linked_edges_share_block h (p s) (p t) (i.edge_known s k) (i.edge_known t l)
      (record {
        meeting = f w.meeting;
        first = f w.first;
        second = f w.second;
        first_ends = image_joins i s k w.meeting w.first w.first_ends;
        second_ends = image_joins i t l w.meeting w.second w.second_ends;
        around = joined_image i rule (vertex_loss_image i rule w.meeting) w.first w.second ∙ w.around;
      })

  -- what is linked to the image of an edge, or to a mate of its image, is so the image of an edge of the same block
  link_back : (r t : ℕ) → t < edge_count h → Link h r t → (s : ℕ) → EdgeOf g h p s r
      → ImageOf (EdgeOf g h p) (λ u. block g s u ≡ true) t
  link_back r t l w s (k, m) =
      record {
        of = u.at;
        is = (u.below, u.passes);
        holds = linked_edges_share_block g s u.at k u.below
            (record {
              meeting = e.from;
              first = e.to;
              second = d.to;
              first_ends = e.over;
              second_ends = rw (i.one_vertex d.from e.from (d.from_is ∙ sym e.from_is)) at d.over;
              around = sym (joined_image i rule (vertex_loss_image i rule e.from) e.to d.to)
                  ∙ rw (e.from_is, e.to_is, d.to_is) w.around;
            });
      }
    where
      e : EndsOf g f s w.meeting w.first
      e = image_ends i rule s r k m w.meeting w.first w.first_ends

      u : Below (edge_count g) (λ u. mates h t (p u))
      u = i.no_other t e.from l (rw e.from_is (joins-touches (edge h t) w.meeting w.second w.second_ends))

      d : EndsOf g f u.at w.meeting w.second
      d = image_ends i rule u.at t u.below u.passes w.meeting w.second w.second_ends

module _ {g h : Network} {f p : ℕ → ℕ} (i : Image g h f p) (rule : MateRule g.rule) (rule' : MateRule h.rule) where
  -- the bridges of the image are the image of the bridges
  bridge_loss_image : LossImage g h p (bridge g) (bridge h)
  bridge_loss_image = record { agrees = bridge_image i rule'; mates_alike = bridge-mates h rule' }

  -- images of vertices share a bridge-block exactly if the vertices do
  pub bridge_block_image : (x y : ℕ) → bridge_block h (f x) (f y) ≡ bridge_block g x y
  bridge_block_image x y =
      bridge_block_is_joined_off_bridges h rule' (f x) (f y) ∙ joined_image i rule' bridge_loss_image x y
      ∙ sym (bridge_block_is_joined_off_bridges g rule x y)

  -- images of edges share a block exactly if the edges do
  pub block_image : (s t : ℕ) → s < edge_count g → t < edge_count g → block h (p s) (p t) ≡ block g s t
  block_image s t k l = bool_ext (block h (p s) (p t)) (block g s t) back
      (block_least (λ s t. block h (p s) (p t) ≡ true)
      (image_equivalence p (λ r t. block h r t ≡ true) (block_equivalence h)) g (link_image i rule') s t)
    where
      R : ℕ → ℕ → Type 0
      R s u = block g s u ≡ true

      follows : (r t : ℕ) → block h r t ≡ true → Follows (EdgeOf g h p) R r t
      follows =
          block_least (Follows (EdgeOf g h p) R) (follows_equivalence (EdgeOf g h p) R (block_equivalence g)) h
          (λ r t k l e. (
            link_back i rule' r t l (link-parts h r t e),
            link_back i rule' t r k (link-parts h t r (link_sym h r t e)),
          ))

      back : block h (p s) (p t) ≡ true → block g s t ≡ true
      back e =
          let u = (follows (p s) (p t) e).0 s (k, mates_refl h (p s)) in
          block_trans g s u.of t u.holds
          (mates_share_block g rule u.of t u.is.0 l
          (sym (i.mates_go u.of t u.is.0 l) ∙ mates_sym h rule' (p t) (p u.of) u.is.1))

  -- where different numbers have different images, and only edges have images that are edges, images of numbers share a block exactly if the
  -- numbers do, whether they are edges or not
  pub block_image_any : ((s t : ℕ) → p s ≡ p t → s ≡ t) → ((s : ℕ) → p s < edge_count h → s < edge_count g)
      → (s t : ℕ) → block h (p s) (p t) ≡ block g s t
  block_image_any one known s t =
      bool_ext (block h (p s) (p t)) (block g s t)
      (λ e. ⊎_elim (λ q. rw (one s t q) (block_refl g t))
      (λ k. sym (block_image s t (known s k.0) (known t k.1)) ∙ e) (block_below h (p s) (p t) e))
      (λ e. ⊎_elim (λ q. rw q (block_refl h (p t))) (λ k. block_image s t k.0 k.1 ∙ e) (block_below g s t e))

  -- the image of a vertex is on the block of the image of an edge exactly if the vertex is on the edge's block
  pub on_block_image : (s x : ℕ) → s < edge_count g → on_block h (p s) (f x) ≡ on_block g s x
  unfolding without
  on_block_image s x k = bool_ext (on_block h (p s) (f x)) (on_block g s x) back on
    where
      same : (t : ℕ) → t < edge_count g → touches (edge h (p t)) (f x) ≡ touches (edge g t) x
      same t l = (vertex_loss_image i rule' x).agrees t l

      on : on_block g s x ≡ true → on_block h (p s) (f x) ≡ true
      on e =
          let o = on_block_lem g s x e in
          block_on h (p s) (p o.by) (f x) (i.edge_known o.by o.known) (block_image s o.by k o.known ∙ o.within)
          (same o.by o.known ∙ o.at)

      back : on_block h (p s) (f x) ≡ true → on_block g s x ≡ true
      back e =
          let o = on_block_lem h (p s) (f x) e in
          let t = i.no_other o.by x o.known o.at in
          let known = i.edge_known t.at t.below in
          block_on g s t.at x t.below
          (sym (block_image s t.at k t.below)
          ∙ block_trans h (p s) o.by (p t.at) o.within (mates_share_block h rule' o.by (p t.at) o.known known t.passes))
          (sym (same t.at t.below) ∙ sym ((vertex_loss_image i rule' x).mates_alike o.by (p t.at) t.passes) ∙ o.at)

  -- the image of an edge is at the image of one vertex and its block has the image of another, exactly if so it is with edge and vertices
  pub at_both_image : (x y s : ℕ) → s < edge_count g → at_both h (f x) (f y) (p s) ≡ at_both g x y s
  unfolding at_both without
  at_both_image x y s k = ap₂ ◌&&◌ ((vertex_loss_image i rule' x).agrees s k) (on_block_image s y k)
