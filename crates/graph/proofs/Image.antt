-- A network that holds an image of another: what is joined in the image is what was joined, and nothing else is joined to it.
use mathlib.Core.Bool.{true, false, not, ◌&&◌}
use mathlib.Core.Logic.{Equivalence}
use mathlib.Core.Path.{◌≡◌, refl, sym, ◌∙◌, ap₂}
use Prim.Native.Nat.{ℕ, ◌<◌}
use Rattle.graph.specs.Network.{Network, Loss, MateRule, edge, edge_count, touches, mates, nothing, loss_of, without, joined}
use Rattle.graph.specs.Groups.{component, parts}
use Rattle.graph.specs.Cycle.{joins}
use Rattle.graph.proofs.Truth.{bool_ext}
use Rattle.graph.proofs.Below.{Below}
use Rattle.graph.proofs.Joined.{joined_equivalence, joined_least}
use Rattle.graph.proofs.Walks.{joins-ends, joins_swap, joins_least, joins-joined}
use Rattle.graph.proofs.Joins.{joins_back, joins_carries, joins-touches, touches-joins}
use Rattle.graph.proofs.Mates.{mates_refl, mates_sym, loss_of-mates, mates-lost_together}
use Rattle.graph.proofs.MateEdges.{mates-joins}

-- Network h holds an image of network g: vertex x of g is vertex f x of h, and edge s is edge p s.
pub record Image (g h : Network) (f p : ℕ → ℕ) : Type 0 where
  -- different vertices have different images
  pub one_vertex : (x y : ℕ) → f x ≡ f y → x ≡ y
  pub edge_known : (s : ℕ) → s < edge_count g → p s < edge_count h
  -- ends go to ends, in either direction
  pub ends_go : (s : ℕ) → s < edge_count g → joins (edge h (p s)) (f (edge g s).left) (f (edge g s).right) ≡ true
  -- mates go to mates, and no others do
  pub mates_go : (s t : ℕ) → s < edge_count g → t < edge_count g → mates h (p s) (p t) ≡ mates g s t
  -- at the vertices of the image h has no edges but those of the image and their mates
  pub no_other : (r x : ℕ) → r < edge_count h → touches (edge h r) (f x) ≡ true → Below (edge_count g) (λ s. mates h r (p s))

-- vertex v is the image of vertex x
abbrev pub VertexOf : (ℕ → ℕ) → ℕ → ℕ → Type 0
VertexOf f x v = f x ≡ v

-- v is the image of an item of which P holds
pub record ImageOf (Of : ℕ → ℕ → Type 0) (P : ℕ → Type 0) (v : ℕ) : Type 0 where
  pub of : ℕ
  pub is : Of of v
  pub holds : P of

-- R relates whatever u is the image of to something that v is the image of, and the other way round
abbrev pub Follows : (ℕ → ℕ → Type 0) → (ℕ → ℕ → Type 0) → ℕ → ℕ → Type 0
Follows Of R u v = ((x : ℕ) → Of x u → ImageOf Of (R x) v) × ((y : ℕ) → Of y v → ImageOf Of (R y) u)

-- where R is an equivalence, so is this
pub follows_equivalence : (Of R : ℕ → ℕ → Type 0) → Equivalence R → Equivalence (Follows Of R)
follows_equivalence Of R q =
    record {
      refl = λ u. (here u, here u);
      symm = λ u v w. (w.1, w.0);
      trans = λ u v w k l. (on u v w k.0 l.0, on w v u l.1 k.1);
    }
  where
    here : (u x : ℕ) → Of x u → ImageOf Of (R x) u
    here u x i = record { of = x; is = i; holds = q.refl x }

    on : (u v w : ℕ) → ((x : ℕ) → Of x u → ImageOf Of (R x) v) → ((x : ℕ) → Of x v → ImageOf Of (R x) w)
        → (x : ℕ) → Of x u → ImageOf Of (R x) w
    on u v w k l x i =
        let y = k x i in
        let z = l y.of y.is in
        record { of = z.of; is = z.is; holds = q.trans x y.of z.of y.holds z.holds }

-- an equivalence, asked of images, is an equivalence
pub image_equivalence : (f : ℕ → ℕ) (R : ℕ → ℕ → Type 0) → Equivalence R → Equivalence (λ x y. R (f x) (f y))
image_equivalence f R q =
    record { refl = λ x. q.refl (f x); symm = λ x y. q.symm (f x) (f y); trans = λ x y z. q.trans (f x) (f y) (f z) }

-- A loss of h is the image of a loss of g: of the images of edges it takes those of the edges that are lost in g, and it takes mates
-- together.
pub record LossImage (g h : Network) (p : ℕ → ℕ) (lost lost' : Loss) : Type 0 where
  pub agrees : (s : ℕ) → s < edge_count g → lost' (p s) ≡ lost s
  pub mates_alike : (r t : ℕ) → mates h r t ≡ true → lost' r ≡ lost' t

-- the loss of nothing is the image of the loss of nothing
pub nothing_image : {g h : Network} {p : ℕ → ℕ} → LossImage g h p nothing nothing
unfolding nothing
nothing_image = record { agrees = λ s k. refl; mates_alike = λ r t m. refl }

-- edge s joins vertices of which u and v are the images
pub record EndsOf (g : Network) (f : ℕ → ℕ) (s u v : ℕ) : Type 0 where
  pub from : ℕ
  pub to : ℕ
  pub from_is : f from ≡ u
  pub to_is : f to ≡ v
  pub over : joins (edge g s) from to ≡ true

module _ {g h : Network} {f p : ℕ → ℕ} (i : Image g h f p) where
  -- the image of an edge joins the images of the vertices that the edge joins
  pub image_joins : (s : ℕ) → s < edge_count g → (x y : ℕ) → joins (edge g s) x y ≡ true → joins (edge h (p s)) (f x) (f y) ≡ true
  image_joins s k =
      joins_least (λ x y. joins (edge h (p s)) (f x) (f y) ≡ true) (λ x y j. joins_swap (edge h (p s)) (f y) (f x) ∙ j) (edge g s)
      (i.ends_go s k)

module _ {g h : Network} {f p : ℕ → ℕ} (i : Image g h f p) (rule : MateRule h.rule) where
  -- a mate of the image of an edge joins the images of the vertices that the edge joins, and no others
  pub image_ends : (s r : ℕ) → s < edge_count g → mates h r (p s) ≡ true
      → (u v : ℕ) → joins (edge h r) u v ≡ true → EndsOf g f s u v
  image_ends s r k m u v j =
      joins_least (EndsOf g f s) swap (edge h (p s))
      (joins_carries (EndsOf g f s) swap (edge h (p s)) (f (edge g s).left) (f (edge g s).right) (i.ends_go s k)
      (record { from = (edge g s).left; to = (edge g s).right; from_is = refl; to_is = refl; over = joins-ends (edge g s) }))
      u v (mates-joins h rule r (p s) m u v j)
    where
      swap : (u v : ℕ) → EndsOf g f s u v → EndsOf g f s v u
      swap u v e =
          record {
            from = e.to;
            to = e.from;
            from_is = e.to_is;
            to_is = e.from_is;
            over = joins_swap (edge g s) e.to e.from ∙ e.over;
          }

  -- the loss of an edge's image, or of a mate of its image, is the image of the edge's loss
  pub edge_loss_image : (s r : ℕ) → s < edge_count g → mates h r (p s) ≡ true → LossImage g h p (loss_of g s) (loss_of h r)
  unfolding loss_of
  edge_loss_image s r k m =
      record {
        agrees = λ t l. loss_of-mates h rule r (p s) m (p t) ∙ i.mates_go s t k l;
        mates_alike = mates-lost_together h rule r;
      }

  -- the loss of a vertex's image is the image of the vertex's loss
  pub vertex_loss_image : (c : ℕ) → LossImage g h p (without g c) (without h (f c))
  unfolding without
  vertex_loss_image c =
      record {
        agrees = λ s k. bool_ext (touches (edge h (p s)) (f c)) (touches (edge g s) c) (back s k) (λ t.
            joins-touches (edge h (p s)) (f c) _ (image_joins i s k c _ (touches-joins (edge g s) c t)));
        mates_alike = λ r t m.
            bool_ext (touches (edge h r) (f c)) (touches (edge h t) (f c)) (over r t m) (over t r (mates_sym h rule r t m));
      }
    where
      back : (s : ℕ) → s < edge_count g → touches (edge h (p s)) (f c) ≡ true → touches (edge g s) c ≡ true
      back s k t =
          let e = image_ends s (p s) k (mates_refl h (p s)) (f c) _ (touches-joins (edge h (p s)) (f c) t) in
          rw (i.one_vertex e.from c e.from_is) at (joins-touches (edge g s) e.from e.to e.over)

      over : (r t : ℕ) → mates h r t ≡ true → touches (edge h r) (f c) ≡ true → touches (edge h t) (f c) ≡ true
      over r t m k = joins-touches (edge h t) (f c) _ (mates-joins h rule r t m (f c) _ (touches-joins (edge h r) (f c) k))

  module _ {lost lost' : Loss} (w : LossImage g h p lost lost') where
    -- an edge of h that is not lost joins the image of x to the image of a vertex that is joined to x
    edge_back : (r : ℕ) → r < edge_count h → lost' r ≡ false → (u v : ℕ) → joins (edge h r) u v ≡ true
        → (x : ℕ) → f x ≡ u → ImageOf (VertexOf f) (λ y. joined g lost x y ≡ true) v
    edge_back r k n u v j x q = record {
      of = e.to;
      is = e.to_is;
      holds = joins-joined g lost s.at s.below
          (sym (w.agrees s.at s.below) ∙ sym (w.mates_alike r (p s.at) s.passes) ∙ n) x e.to
          (rw (i.one_vertex e.from x (e.from_is ∙ sym q)) at e.over);
    }
      where
        s : Below (edge_count g) (λ s. mates h r (p s))
        s = i.no_other r x k (rw q (joins-touches (edge h r) u v j))

        e : EndsOf g f s.at u v
        e = image_ends s.at r s.below s.passes u v j

    -- what is joined to the image of x is the image of a vertex that is joined to x
    pub joined_image_closed : (x v : ℕ) → joined h lost' (f x) v ≡ true
        → ImageOf (VertexOf f) (λ y. joined g lost x y ≡ true) v
    joined_image_closed x v e =
        (joined_least (Follows (VertexOf f) (λ x y. joined g lost x y ≡ true))
        (follows_equivalence (VertexOf f) (λ x y. joined g lost x y ≡ true) (joined_equivalence g lost)) h lost'
        (λ r k n. (edge_back r k n _ _ (joins-ends (edge h r)), edge_back r k n _ _ (joins_back (edge h r))))
        (f x) v e).0 x refl

    -- images of vertices are joined exactly if the vertices are
    pub joined_image : (x y : ℕ) → joined h lost' (f x) (f y) ≡ joined g lost x y
    joined_image x y =
        bool_ext (joined h lost' (f x) (f y)) (joined g lost x y)
        (λ e. let z = joined_image_closed x (f y) e in rw (i.one_vertex z.of y z.is) at z.holds)
        (joined_least (λ x y. joined h lost' (f x) (f y) ≡ true)
        (image_equivalence f (λ u v. joined h lost' u v ≡ true) (joined_equivalence h lost')) g lost
        (λ s k n. joins-joined h lost' (p s) (i.edge_known s k) (w.agrees s k ∙ n) _ _ (i.ends_go s k)) x y)

  -- images of vertices share a component exactly if the vertices do
  pub component_image : (x y : ℕ) → component h (f x) (f y) ≡ component g x y
  unfolding component
  component_image = joined_image nothing_image

  -- a component that holds an image of a vertex holds nothing but images
  pub component_image_closed : (x v : ℕ) → component h (f x) v ≡ true → ImageOf (VertexOf f) (λ y. component g x y ≡ true) v
  unfolding component
  component_image_closed = joined_image_closed nothing_image

  -- the image of a loss parts images of vertices exactly if the loss parts the vertices
  pub parts_image : {lost lost' : Loss} → LossImage g h p lost lost' → (a b : ℕ) → parts h lost' (f a) (f b) ≡ parts g lost a b
  unfolding parts
  parts_image w a b = ap₂ (λ c j. c && not j) (component_image a b) (joined_image w a b)
