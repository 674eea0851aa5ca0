-- Two networks beside each other: the blocks that vertices of the second share, the bridges and cut vertices between them, and the routes that
-- serve them, are those of the second, raised.
use mathlib.Core.Bool.{true, false, not, ◌&&◌}
use mathlib.Core.List.{List, [], ◌∷◌, map}
use mathlib.Core.Option
use mathlib.Core.Path.{◌≡◌, refl, sym, ◌∙◌, ap, ap₂}
use Prim.Native.Nat.{ℕ, ◌+◌, ◌<◌}
use native.Mathlib.Omega.{arith}
use Rattle.graph.specs.Lists.{is_in, distinct}
use Rattle.graph.specs.Network.{Network, MateRule, edge, edge_count, mates}
use Rattle.graph.specs.Groups.{bridge}
use Rattle.graph.specs.Block.{on_block, at_both, shared_block}
use Rattle.graph.specs.Between.{least_mate, bridges_between, cuts_between}
use Rattle.graph.specs.Cycle.{Step, joins, leads}
use Rattle.graph.specs.Travel.{visited}
use Rattle.graph.specs.Route.{steps_along, is_route, Routes, serve}
use Rattle.graph.proofs.Truth.{false_of_not, not_both, and_left, and_right, and_both, eqb_eq, eq-eqb}
use Rattle.graph.proofs.Below.{any_below-same, least_below-same}
use Rattle.graph.proofs.BelowSum.{any_behind, least_behind}
use Rattle.graph.proofs.Walks.{leads_none, leads_first, first_leads}
use Rattle.graph.proofs.Joins.{joins-touches}
use Rattle.graph.proofs.Mates.{mates_refl, mates_sym}
use Rattle.graph.proofs.MateEdges.{mates-joins}
use Rattle.graph.proofs.MappedLists.{is_in_mapped, distinct_mapped}
use Rattle.graph.proofs.Routes.{walk_is_route, route_known, apart_by, apart-mates, served}
use Rattle.graph.proofs.Image.{EndsOf, image_ends}
use Rattle.graph.proofs.ImageBlocks.{bridge_image, at_both_image}
use Rattle.graph.proofs.ImageLists.{image_steps, visited_image, bridges_between_image, cuts_between_image}
use Rattle.graph.proofs.RoutesImage.{along_back, along_image, routes_image}
use Rattle.graph.proofs.SideBySide.{beside, Beside, count_beside, first_away, mates_of_second, at_second, second_image, beside_proper, rule_of_both, rule_of_second}

module _ {b g : Network} (w : Beside b g) (rule : MateRule b.rule) where
  abbrev both : Network
  both = beside b g

  abbrev m : ℕ
  m = b.vertices

  abbrev k : ℕ
  k = edge_count b

  -- an edge of the first is no mate of an edge of the second
  no_mates_between : (t s : ℕ) → t < k → s < edge_count g → mates both t (k + s) ≡ false
  no_mates_between t s l l' =
      false_of_not (mates both t (k + s)) (λ e.
      let over = (second_image w).ends_go s l' in
      let back = mates-joins both (rule_of_both w rule) (k + s) t (mates_sym both (rule_of_both w rule) t (k + s) e) _ _ over in
      not_both (joins-touches (edge both t) _ _ back) (first_away w t _ l))

  -- the least of mates is so in both
  least_mate_of_second : (s : ℕ) → s < edge_count g → least_mate both (k + s) ≡ least_mate g s
  unfolding least_mate
  least_mate_of_second s l =
      ap not
      (any_behind k (λ t. mates both t (k + s)) (λ t h. no_mates_between t s h l) s
      ∙ any_below-same s _ _ (λ t h. mates_of_second w t s (omega arith) l))

  -- The bridges between vertices of the second, in travelling order.
  pub bridges_of_second : (x y : ℕ) → bridges_between both (m + x) (m + y) ≡ map (λ s. k + s) (bridges_between g x y)
  bridges_of_second =
      bridges_between_image (second_image w) (rule_of_second w rule) (rule_of_both w rule) (λ s l e. least_mate_of_second s l ∙ e)

  -- The cut vertices between them.
  pub cuts_of_second : (x y : ℕ) → cuts_between both (m + x) (m + y) ≡ map (λ x. m + x) (cuts_between g x y)
  cuts_of_second = cuts_between_image (second_image w) (rule_of_both w rule) w.second_proper (beside_proper w)

  -- An edge of the second is a bridge exactly if it is one there.
  pub bridge_of_second : (s : ℕ) → s < edge_count g → bridge both (k + s) ≡ bridge g s
  bridge_of_second = bridge_image (second_image w) (rule_of_both w rule)

  -- The block that two of its vertices share.
  pub shared_block_of_second : (x y : ℕ) → shared_block both (m + x) (m + y) ≡ Option.map (λ s. k + s) (shared_block g x y)
  unfolding shared_block
  shared_block_of_second x y =
      rw (count_beside b g)
      (least_behind k (at_both both (m + x) (m + y)) (λ s h. unfold at_both in ap (λ c. c && on_block both s (m + y)) (first_away w s x h)) (edge_count g)
      ∙ ap (Option.map (λ s. k + s))
      (least_below-same (edge_count g) _ (at_both g x y) (at_both_image (second_image w) (rule_of_second w rule) (rule_of_both w rule) x y)))

  -- steps of the second that are these, raised, and lead from a to c
  record StepsBack (a c : ℕ) (ps : List Step) : Type 0 where
    steps : List Step
    are : ps ≡ image_steps (λ x. m + x) (λ s. k + s) steps
    lead : leads g a steps c ≡ true

  -- what leads from a vertex of the second to another are steps of it
  steps_back : (ps : List Step) (a c : ℕ) → leads both (m + a) ps (m + c) ≡ true → StepsBack a c ps
  unfolding image_steps
  steps_back [] a c l =
      record {
        steps = [];
        are = refl;
        lead = leads_none g a c ∙ eq-eqb a c (omega (arith, eqb_eq (m + a) (m + c) (sym (leads_none both (m + a) (m + c)) ∙ l)));
      }
  steps_back (q ∷ ps) a c l =
      let first = leads_first both (m + a) q ps (m + c) l in
      let s = at_second w q.along a first.known (joins-touches _ _ _ first.over) in
      let along_is : q.along ≡ k + s.at = eqb_eq q.along (k + s.at) s.passes in
      let e : EndsOf g (λ x. m + x) s.at (m + a) q.to =
      image_ends (second_image w) (rule_of_both w rule) s.at q.along s.below
      (ap (λ r. mates both r (k + s.at)) along_is ∙ mates_refl both (k + s.at)) (m + a) q.to first.over in
      let rest = steps_back ps e.to c (ap (λ v. leads both v ps (m + c)) e.to_is ∙ first.later) in
      record {
        steps = record { along = s.at; to = e.to } ∷ rest.steps;
        are = ap₂ (λ (p : Step) (l : List Step). p ∷ l) (λ i. record { along = along_is i; to = sym e.to_is i }) rest.are;
        lead =
            first_leads g a (record { along = s.at; to = e.to }) rest.steps c
            (record {
              known = s.below;
              over = ap (λ v. joins (edge g s.at) v e.to) (omega (arith, e.from_is)) ∙ e.over;
              later = rest.lead;
            });
      }

  -- a route of the second that is this one, raised
  record RouteBack (a c : ℕ) (ss : List ℕ) : Type 0 where
    edges : List ℕ
    are : ss ≡ map (λ s. k + s) edges
    route : is_route g a c edges ≡ true

  route_back : (a c : ℕ) (ss : List ℕ) → is_route both (m + a) (m + c) ss ≡ true → RouteBack a c ss
  unfolding is_route
  route_back a c ss r =
      let steps = steps_along both (m + a) ss in
      let q = steps_back steps a c (and_left (leads both (m + a) steps (m + c)) _ r) in
      record {
        edges = map (λ q. q.along) q.steps;
        are = sym (along_back both (m + a) ss) ∙ ap (map (λ q. q.along)) q.are ∙ along_image (λ x. m + x) (λ s. k + s) q.steps;
        route =
            walk_is_route g q.steps a c q.lead
            (sym (distinct_mapped (λ x. m + x) (second_image w).one_vertex (visited a q.steps))
            ∙ ap distinct (sym (visited_image (λ x. m + x) (λ s. k + s) a q.steps) ∙ ap (visited (m + a)) (sym q.are))
            ∙ and_right (leads both (m + a) steps (m + c)) _ r);
      }

  -- two routes of the second that are these, raised, and serve there
  pub record ServeBack (a c : ℕ) (r : Routes) : Type 0 where
    pub pair : Routes
    pub is : r ≡ routes_image (λ s. k + s) pair
    pub serves : serve g a c pair ≡ true

  -- Whatever two routes serve vertices of the second are two that serve there, raised.
  pub serve_back : (a c : ℕ) (r : Routes) → serve both (m + a) (m + c) r ≡ true → ServeBack a c r
  unfolding serve routes_image
  serve_back a c r e =
      let q = served both (m + a) (m + c) r (unfold serve in e) in
      let one = route_back a c r.first q.0 in
      let two = route_back a c r.second q.1 in
      record {
        pair = record { first = one.edges; second = two.edges };
        is = λ i. record { first = one.are i; second = two.are i };
        serves =
            and_both (and_both one.route two.route)
            (apart_by g one.edges two.edges (λ s t i j.
            sym (mates_of_second w s t (route_known g a c one.edges one.route s i) (route_known g a c two.edges two.route t j))
            ∙ apart-mates both r.first r.second q.2 (k + s) (k + t)
            (ap (is_in (k + s)) one.are ∙ is_in_mapped (λ s. k + s) (λ x y e. omega (arith, e)) s one.edges ∙ i)
            (ap (is_in (k + t)) two.are ∙ is_in_mapped (λ s. k + s) (λ x y e. omega (arith, e)) t two.edges ∙ j)));
      }
