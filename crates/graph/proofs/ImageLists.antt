-- The bridges and the cut vertices between two vertices of an image, in travelling order, are the images of those between the vertices.
use mathlib.Core.Bool.{true, false, not, ◌&&◌, false≢true}
use mathlib.Core.List.{List, [], ◌∷◌, map}
use mathlib.Core.Logic.{⊎_elim}
use mathlib.Core.Path.{◌≡◌, refl, sym, ◌∙◌, ap, ap₂}
use Prim.Native.Nat.{ℕ, ◌<◌}
use native.Mathlib.Omega.{arith}
use Rattle.graph.specs.Lists.{is_in}
use Rattle.graph.specs.Network.{Network, MateRule, Proper, edge_count}
use Rattle.graph.specs.Groups.{component}
use Rattle.graph.specs.Cycle.{Step, leads}
use Rattle.graph.specs.Between.{least_mate, is_bridge_between, bridges_between, is_cut_between, cuts_between}
use Rattle.graph.specs.Travel.{firsts, visited, first_mate, crossed}
use Rattle.graph.proofs.Truth.{true_or_false, eqb_eq, eq-eqb}
use Rattle.graph.proofs.Members.{is_in_cases}
use Rattle.graph.proofs.Walks.{FirstStep, leads_first, first_leads, leads_none, component_walk}
use Rattle.graph.proofs.MappedLists.{eqb_mapped, map_same, firsts_mapped}
use Rattle.graph.proofs.FirstMates.{first_mate_low, mate_of_first, least_mates_one, mates_first, first_mates, least_first}
use Rattle.graph.proofs.Travel.{first_mate_lem, first_mate_least, bridges_in_travelling_order, cuts_in_travelling_order}
use Rattle.graph.proofs.BridgesBetween.{bridge_between_least, bridge_between_known, bridges_between_all, bridges_between_across}
use Rattle.graph.proofs.CutsBetween.{cuts_between_across}
use Rattle.graph.proofs.Image.{Image, image_joins, edge_loss_image, vertex_loss_image, component_image, parts_image}

-- the image of a walk
unfoldable pub image_steps : (ℕ → ℕ) → (ℕ → ℕ) → List Step → List Step
image_steps f p = map (λ q. record { along = p q.along; to = f q.to })

-- the vertices that it visits are the images of those that the walk visits
pub visited_image : (f p : ℕ → ℕ) (v : ℕ) (ps : List Step) → visited (f v) (image_steps f p ps) ≡ map f (visited v ps)
unfolding image_steps visited
visited_image f p v [] = refl
visited_image f p v (q ∷ ps) = ap (λ l. f v ∷ l) (visited_image f p q.to ps)

module _ {g h : Network} {f p : ℕ → ℕ} (i : Image g h f p) where
  -- it leads from image to image
  pub leads_image : (ps : List Step) (v w : ℕ) → leads g v ps w ≡ true → leads h (f v) (image_steps f p ps) (f w) ≡ true
  unfolding image_steps
  leads_image [] v w l = leads_none h (f v) (f w) ∙ eq-eqb (f v) (f w) (ap f (eqb_eq v w (sym (leads_none g v w) ∙ l)))
  leads_image (q ∷ ps) v w l =
      let a = leads_first g v q ps w l in
      first_leads h (f v) (record { along = p q.along; to = f q.to }) (image_steps f p ps) (f w)
      (record {
        known = i.edge_known q.along a.known;
        over = image_joins i q.along a.known v q.to a.over;
        later = leads_image ps q.to w a.later;
      })

  module _ (rule : MateRule h.rule) where
    -- an image of a vertex is a cut vertex between images exactly if the vertex is one
    cut_between_image : (a b c : ℕ) → is_cut_between h (f a) (f b) (f c) ≡ is_cut_between g a b c
    unfolding is_cut_between
    cut_between_image a b c =
        ap₂ ◌&&◌
        (ap₂ (λ x y. not x && not y) (eqb_mapped f c a (i.one_vertex c a)) (eqb_mapped f c b (i.one_vertex c b)))
        (parts_image i rule (vertex_loss_image i rule c) a b)

    -- the cut vertices between images of vertices are the images of those between the vertices, in the same order
    pub cuts_between_image : Proper g → Proper h → (a b : ℕ) → cuts_between h (f a) (f b) ≡ map f (cuts_between g a b)
    cuts_between_image proper proper' a b = ⊎_elim one_component two_components (true_or_false (component g a b))
      where
        one_component : component g a b ≡ true → cuts_between h (f a) (f b) ≡ map f (cuts_between g a b)
        one_component e =
            let w = component_walk g a b e in
            sym (cuts_in_travelling_order h (f a) (f b) (image_steps f p w.steps) (leads_image w.steps a b w.lead) proper')
            ∙ ap (firsts (is_cut_between h (f a) (f b))) (visited_image f p a w.steps)
            ∙ firsts_mapped f (is_cut_between g a b) (is_cut_between h (f a) (f b)) (visited a w.steps)
            (λ c k. cut_between_image a b c) (λ x y k l. i.one_vertex x y)
            ∙ ap (map f) (cuts_in_travelling_order g a b w.steps w.lead proper)

        two_components : component g a b ≡ false → cuts_between h (f a) (f b) ≡ map f (cuts_between g a b)
        two_components e =
            cuts_between_across h (f a) (f b) (component_image i rule a b ∙ e) ∙ sym (ap (map f) (cuts_between_across g a b e))

module _ {g h : Network} {f p : ℕ → ℕ} (i : Image g h f p) (rule : MateRule g.rule) (rule' : MateRule h.rule) where
  -- the least of the mates of an edge's image
  abbrev first : ℕ → ℕ
  first s = first_mate h (p s)

  -- what the image of a walk crosses is the image of what the walk crosses
  crossed_image : (ps : List Step) (v w : ℕ) → leads g v ps w ≡ true → crossed h (image_steps f p ps) ≡ map first (crossed g ps)
  unfolding crossed image_steps
  crossed_image [] v w l = refl
  crossed_image (q ∷ ps) v w l =
      let a = leads_first g v q ps w l in
      let k : first_mate g q.along < edge_count g = omega (arith, first_mate_low g q.along, a.known) in
      ap₂ ◌∷◌
      (mates_first h rule' (p q.along) (p (first_mate g q.along))
      (i.mates_go q.along (first_mate g q.along) a.known k ∙ mate_of_first g rule q.along))
      (crossed_image ps q.to w a.later)

  -- an edge of g that is the least of its mates
  record LeastEdge (s : ℕ) : Type 0 where
    known : s < edge_count g
    least : least_mate g s ≡ true

  -- a walk crosses such edges alone
  crossed_least : (ps : List Step) (v w : ℕ) → leads g v ps w ≡ true → (s : ℕ) → is_in s (crossed g ps) ≡ true → LeastEdge s
  unfolding crossed is_in
  crossed_least [] v w l s e = absurd (false≢true e)
  crossed_least (q ∷ ps) v w l s e =
      ⊎_elim (λ k. rw k here) (crossed_least ps q.to w a.later s) (is_in_cases s (first_mate g q.along) (crossed g ps) e)
    where
      a : FirstStep g v q ps w
      a = leads_first g v q ps w l

      here : LeastEdge (first_mate g q.along)
      here = record { known = omega (arith, first_mate_low g q.along, a.known); least = first_mate_least g rule q.along }

  -- such an edge is a bridge between two vertices exactly if the least of the mates of its image is one between their images
  bridge_between_image : (a b s : ℕ) → LeastEdge s → is_bridge_between h (f a) (f b) (first s) ≡ is_bridge_between g a b s
  unfolding is_bridge_between
  bridge_between_image a b s c =
      ap₂ ◌&&◌ (first_mate_least h rule' (p s) ∙ sym c.least)
      (parts_image i rule' (edge_loss_image i rule' s (first s) c.known (first_mate_lem h (p s))) a b)

  -- the least of the mates of the images of two such edges are two
  first_one : (s t : ℕ) → LeastEdge s → LeastEdge t → first s ≡ first t → s ≡ t
  first_one s t c d q =
      least_mates_one g rule s t c.least d.least
      (sym (i.mates_go s t c.known d.known) ∙ first_mates h rule' (p s) (p t) q)

  -- the bridges between images of vertices are the images of those between the vertices, each as the least of its mates, in the same order
  pub bridges_between_first_mates : (a b : ℕ) → bridges_between h (f a) (f b) ≡ map (λ s. first_mate h (p s)) (bridges_between g a b)
  bridges_between_first_mates a b = ⊎_elim one_component two_components (true_or_false (component g a b))
    where
      one_component : component g a b ≡ true → bridges_between h (f a) (f b) ≡ map first (bridges_between g a b)
      one_component e =
          let w = component_walk g a b e in
          let c = crossed_least w.steps a b w.lead in
          sym (bridges_in_travelling_order h rule' (f a) (f b) (image_steps f p w.steps) (leads_image i w.steps a b w.lead))
          ∙ ap (firsts (is_bridge_between h (f a) (f b))) (crossed_image w.steps a b w.lead)
          ∙ firsts_mapped first (is_bridge_between g a b) (is_bridge_between h (f a) (f b)) (crossed g w.steps)
          (λ s k. bridge_between_image a b s (c s k)) (λ s t k l. first_one s t (c s k) (c t l))
          ∙ ap (map first) (bridges_in_travelling_order g rule a b w.steps w.lead)

      two_components : component g a b ≡ false → bridges_between h (f a) (f b) ≡ map first (bridges_between g a b)
      two_components e =
          bridges_between_across h (f a) (f b) (component_image i rule' a b ∙ e) ∙ sym (ap (map first) (bridges_between_across g a b e))

  -- where the least of mates goes to the least of mates, they are the images of those between the vertices
  pub bridges_between_image : ((s : ℕ) → s < edge_count g → least_mate g s ≡ true → least_mate h (p s) ≡ true)
      → (a b : ℕ) → bridges_between h (f a) (f b) ≡ map p (bridges_between g a b)
  bridges_between_image least a b =
      bridges_between_first_mates a b
      ∙ map_same first p (bridges_between g a b) (λ s e.
      let k = sym (bridges_between_all g a b rule s) ∙ e in
      least_first h rule' (p s) (least s (bridge_between_known g rule a b s k) (bridge_between_least g a b s k)))
