-- Routes in an image: two that serve two vertices have images that serve their images. So in networks alike the same two serve.
use mathlib.Core.Bool.{true, not}
use mathlib.Core.List.{List, [], ◌∷◌, map, map-id, map-map}
use mathlib.Core.Path.{◌≡◌, refl, sym, ◌∙◌, ap, ap₂, subst}
use Prim.Native.Nat.{ℕ, ◌<◌}
use Rattle.graph.specs.Lists.{all_in, is_in, distinct}
use Rattle.graph.specs.Network.{Network, edge, edge_count, other_end, mates}
use Rattle.graph.specs.Cycle.{Step, leads}
use Rattle.graph.specs.Travel.{visited}
use Rattle.graph.specs.Route.{steps_along, is_route, apart, Routes, serve}
use Rattle.graph.proofs.Truth.{bool_ext, and_left, and_right, and_both, not_of_false}
use Rattle.graph.proofs.Members.{all_in_lem}
use Rattle.graph.proofs.MappedLists.{all_in_mapped, distinct_mapped}
use Rattle.graph.proofs.Routes.{walk_is_route, route_known, apart-mates, served}
use Rattle.graph.proofs.Image.{Image}
use Rattle.graph.proofs.ImageLists.{image_steps, visited_image, leads_image}
use Rattle.graph.proofs.Alike.{Alike, alike_image, alike_sym}

-- the edges of the steps along edges are these
pub along_back : (g : Network) (a : ℕ) (ss : List ℕ) → map (λ q. q.along) (steps_along g a ss) ≡ ss
unfolding steps_along
along_back g a [] = refl
along_back g a (s ∷ ss) = ap (λ l. s ∷ l) (along_back g (other_end (edge g s) a) ss)

-- the edges of the images of steps are the images of their edges
pub along_image : (f p : ℕ → ℕ) (ps : List Step) → map (λ q. q.along) (image_steps f p ps) ≡ map p (map (λ q. q.along) ps)
unfolding image_steps
along_image f p ps = map-map _ _ ps ∙ sym (map-map p _ ps)

-- The images of two routes.
unfoldable pub routes_image : (ℕ → ℕ) → Routes → Routes
routes_image p r = record { first = map p r.first; second = map p r.second }

module _ {g h : Network} {f p : ℕ → ℕ} (i : Image g h f p) where
  -- the image of a route is one between the images
  pub route_image : (a b : ℕ) (ss : List ℕ) → is_route g a b ss ≡ true → is_route h (f a) (f b) (map p ss) ≡ true
  unfolding is_route
  route_image a b ss r =
      subst (λ l. is_route h (f a) (f b) l ≡ true) (along_image f p steps ∙ ap (map p) (along_back g a ss))
      (walk_is_route h (image_steps f p steps) (f a) (f b)
      (leads_image i steps a b (and_left (leads g a steps b) _ r))
      (ap distinct (visited_image f p a steps)
      ∙ distinct_mapped f i.one_vertex (visited a steps)
      ∙ and_right (leads g a steps b) (distinct (visited a steps)) r))
    where
      steps : List Step
      steps = steps_along g a ss

  -- lists of known edges that are apart have images that are
  apart_image : (ss ts : List ℕ) → ((s : ℕ) → is_in s ss ≡ true → s < edge_count g) → ((t : ℕ) → is_in t ts ≡ true → t < edge_count g)
      → apart g ss ts ≡ true → apart h (map p ss) (map p ts) ≡ true
  unfolding apart
  apart_image ss ts known known' w =
      all_in_mapped p (λ s. all_in (λ t. not (mates h s t)) (map p ts)) ss
      ∙ all_in_lem _ ss (λ s k.
      all_in_mapped p (λ t. not (mates h (p s) t)) ts
      ∙ all_in_lem _ ts (λ t l. not_of_false (i.mates_go s t (known s k) (known' t l) ∙ apart-mates g ss ts (unfold apart in w) s t k l)))

  -- two routes that serve have images that serve the images
  pub serve_image : (a b : ℕ) (r : Routes) → serve g a b r ≡ true → serve h (f a) (f b) (routes_image p r) ≡ true
  unfolding serve routes_image
  serve_image a b r e =
      let w = served g a b r (unfold serve in e) in
      and_both (and_both (route_image a b r.first w.0) (route_image a b r.second w.1))
      (apart_image r.first r.second (route_known g a b r.first w.0) (route_known g a b r.second w.1) w.2)

-- two routes serve in a network where they serve in one like it
serves_alike : {g h : Network} → Alike g h → (a b : ℕ) (r : Routes) → serve g a b r ≡ true → serve h a b r ≡ true
unfolding routes_image
serves_alike {g} {h} like a b r e =
    subst (λ (q : Routes). serve h a b q ≡ true)
    (ap₂ (λ ss ts. record { first = ss; second = ts }) (map-id r.first) (map-id r.second))
    (serve_image (alike_image like) a b r e)

-- so networks alike have the same routes that serve
pub serve_alike : {g h : Network} → Alike g h → (a b : ℕ) (r : Routes) → serve h a b r ≡ serve g a b r
serve_alike {g} {h} like a b r = bool_ext (serve h a b r) (serve g a b r) (serves_alike (alike_sym like) a b r) (serves_alike like a b r)
