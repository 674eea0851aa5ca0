-- The two routes that this register gives serve whatever two vertices share a bridge-block.
use mathlib.Core.Bool.{Bool, true, false, not, cond, false≢true}
use mathlib.Core.List.{List, [], ◌∷◌}
use mathlib.Core.Logic.{◌⊎◌, inl, inr, ⊎_elim, ◌↔◌}
use mathlib.Core.Path.{◌≡◌, refl, sym, ◌∙◌, ap, subst}
use Prim.Native.Nat.{ℕ, suc, ◌≤◌, ◌<◌}
use native.Mathlib.Omega.{arith}
use lib.Dec.{eqb}
use lib.ListN.{length}
use Rattle.graph.specs.Lists.{is_in, distinct}
use Rattle.graph.specs.Network.{Network, Rule, Proper, MateRule, edge, edge_count, touches, other_end, mates, nothing, loss_of, joined}
use Rattle.graph.specs.Groups.{component, bridge_block}
use Rattle.graph.specs.Cycle.{Step, leads}
use Rattle.graph.specs.Travel.{visited}
use Rattle.graph.specs.Route.{is_route, Routes, serve, Serves}
use Rattle.graph.proofs.Truth.{true_or_false, false_of_not, not_both, not_of_false, not_of_true, false_of_not_true}
use Rattle.graph.proofs.Truth.{and_left, and_right, and_both, or_cases, or_neither_left, or_neither_right, eqb_eq, eq-eqb}
use Rattle.graph.proofs.Members.{is_in_head, is_in_tail, is_in_cases, distinct_head, distinct_tail}
use Rattle.graph.proofs.Mates.{mates_sym}
use Rattle.graph.proofs.Joined.{joined_same_loss}
use Rattle.graph.proofs.Ends.{other_end-touches}
use Rattle.graph.proofs.Joins.{joins-touches, other_end_back}
use Rattle.graph.proofs.BridgeBlock.{bridge_block-component, bridge_block_lasts}
use Rattle.graph.proofs.Routes.{walk_is_route, route_differ, route_known, apart_by, served_share}
use Rattle.ways.specs.Search.{Allowed, search, all_allowed, way}
use Rattle.ways.specs.Used.{Used, unused, is_used, mate_used, one_more, along_used, step_taken, way_taken, Usable}
use Rattle.ways.specs.Balance.{Set, used_from, used_to, Balanced, loss_of_all}
use Rattle.ways.specs.TwoRoutes.{edges_of, way_more, with_one_more, none_back, way_used, routes_used, two_routes}
use Rattle.ways.proofs.SearchClosed.{goal_reached, reached_closed}
use Rattle.ways.proofs.SearchWay.{way-leads, way_allowed, way-distinct}
use Rattle.ways.proofs.UsedSteps.{used_from_lem, not_used, taken_off, taken_new, taken_again}
use Rattle.ways.proofs.UsedSteps.{UsedThen, newly, before, used_then, free_of_mates, unused_usable}
use Rattle.ways.proofs.UsedSteps.{way_usable, Goes, arrives, steps, goes_least, lasting_goes, along_lasting, more_fits, along_fits}
use Rattle.ways.proofs.Balance.{unused_balanced, one_way_more, one_way_less}
use Rattle.ways.proofs.BalanceCuts.{used_suc, used_joins, used_leads_on, no_way_more_parts}

module _ (u : Used) (x s : ℕ) (a : along_used u s x ≡ true) where
  -- an edge along which a step may be taken is used
  step_used : is_used u s ≡ true
  unfolding along_used
  step_used = used_from_lem u s x (eqb_eq (u s) (suc x) a)

  -- when it is taken, the edge is used no longer
  step_frees : is_used (step_taken u x s) s ≡ false
  unfolding is_used
  step_frees = rw (taken_again u x s step_used)

  -- and no edge is that was not
  step_uses_none : (t : ℕ) → is_used (step_taken u x s) t ≡ true → is_used u t ≡ true
  step_uses_none t e = go (used_then u x s t e)
    where
      go : UsedThen u x s t → is_used u t ≡ true
      go (newly q k _) = absurd (not_both step_used k)
      go (before k _) = k

module _ {g : Network} where
  -- a way along used edges uses none that was not
  pub along_uses_none : {u : Used} {x y : ℕ} {ps : List Step} → Goes g along_used u x ps y
      → (t : ℕ) → is_used (way_taken u x ps) t ≡ true → is_used u t ≡ true
  along_uses_none = goes_least (λ u v x y. (t : ℕ) → is_used v t ≡ true → is_used u t ≡ true)
      (λ u x t e. e) (λ u v w x y z f h t e. f t (h t e)) (λ u x s f a. step_uses_none u x s a)

  -- its own edges were used, and are no longer when it is taken
  pub along_frees : {u : Used} {x y : ℕ} {ps : List Step} → Goes g along_used u x ps y
      → (t : ℕ) → is_in t (edges_of ps) ≡ true → (is_used u t ≡ true) × (is_used (way_taken u x ps) t ≡ false)
  unfolding edges_of way_taken is_in
  along_frees arrives t i = absurd (false≢true i)
  along_frees {u} {x} (steps {p = p} {ps = ps} f a q later) t i = go (along_frees later t) (is_in_cases t p.along (edges_of ps) i)
    where
      next : Used
      next = step_taken u x p.along

      go : (is_in t (edges_of ps) ≡ true → (is_used next t ≡ true) × (is_used (way_taken next p.to ps) t ≡ false))
          → (t ≡ p.along) ⊎ (is_in t (edges_of ps) ≡ true) → (is_used u t ≡ true) × (is_used (way_taken next p.to ps) t ≡ false)
      go r (inl e) = rw e (
        step_used u x p.along a,
        false_of_not (is_used (way_taken next p.to ps) p.along) (λ k.
            not_both (along_uses_none later p.along k) (step_frees u x p.along a)),
      )
      go r (inr k) = (step_uses_none u x p.along a t (r k).0, (r k).1)

-- a way that does not go along edge s leaves its use as it was
taken_beside : (ps : List Step) (u : Used) (x s : ℕ) → is_in s (edges_of ps) ≡ false → way_taken u x ps s ≡ u s
unfolding edges_of way_taken is_in
taken_beside [] u x s n = refl
taken_beside (p ∷ ps) u x s n =
    taken_beside ps (step_taken u x p.along) p.to s (or_neither_right (eqb s p.along) (is_in s (edges_of ps)) n)
    ∙ taken_off u x p.along s (or_neither_left (eqb s p.along) (is_in s (edges_of ps)) n)

-- a way along different edges that are not used uses each of them when it is taken
taken_used : (ps : List Step) (u : Used) (x : ℕ) → distinct (edges_of ps) ≡ true
    → ((s : ℕ) → is_in s (edges_of ps) ≡ true → is_used u s ≡ false)
    → (s : ℕ) → is_in s (edges_of ps) ≡ true → is_used (way_taken u x ps) s ≡ true
unfolding edges_of way_taken is_in is_used
taken_used [] u x d w s i = absurd (false≢true i)
taken_used (p ∷ ps) u x d w s i = ⊎_elim
    (λ q. rw q (used_from_lem (way_taken next p.to ps) p.along x (taken_beside ps next p.to p.along beside
    ∙ taken_new u x p.along (not_used u p.along (w p.along (is_in_head p.along (edges_of ps)))))))
    (taken_used ps next p.to (distinct_tail p.along (edges_of ps) d) (λ t k.
    ap (λ v. not (eqb v 0)) (taken_off u x p.along t (false_of_not (eqb t p.along) (λ q.
    not_both k (rw (eqb_eq t p.along q) beside))))
    ∙ w t (is_in_tail t p.along (edges_of ps) k)) s)
    (is_in_cases s p.along (edges_of ps) i)
  where
    next : Used
    next = step_taken u x p.along

    beside : is_in p.along (edges_of ps) ≡ false
    beside = distinct_head p.along (edges_of ps) d

-- where one way more goes along no used edge, none of its edges has a mate that is used
none_back_free : (g : Network) (u : Used) (ps : List Step) (x : ℕ) → all_allowed (one_more g u) x ps ≡ true → none_back u ps ≡ true
    → (s : ℕ) → is_in s (edges_of ps) ≡ true → mate_used g u s ≡ false
unfolding edges_of is_in all_allowed one_more none_back
none_back_free g u [] x a n s i = absurd (false≢true i)
none_back_free g u (p ∷ ps) x a n s i = ⊎_elim
    (λ q. rw q (⊎_elim
    (false_of_not_true (mate_used g u p.along))
    (λ k. absurd (not_both (used_from_lem u p.along back (eqb_eq (u p.along) (suc back) k))
    (false_of_not_true (is_used u p.along) (and_left (not (is_used u p.along)) (none_back u ps) n))))
    (or_cases (not (mate_used g u p.along)) (eqb (u p.along) (suc back))
    (and_left (one_more g u p.along x) (all_allowed (one_more g u) p.to ps) a))))
    (none_back_free g u ps p.to (and_right (one_more g u p.along x) (all_allowed (one_more g u) p.to ps) a)
    (and_right (not (is_used u p.along)) (none_back u ps) n) s)
    (is_in_cases s p.along (edges_of ps) i)
  where
    back : ℕ
    back = other_end (edge g p.along) x

-- the edges in use are usable and carry k ways from a to b
pub record Carries (g : Network) (u : Used) (a b k : ℕ) : Type 0 where
  pub usable : Usable g u
  pub balanced : Balanced g u a b k

-- where nothing is used they carry none
pub unused_carries : (g : Network) (a b : ℕ) → Carries g unused a b 0
unused_carries g a b = record { usable = unused_usable g; balanced = unused_balanced g a b }

-- where no loss of one edge parts a and b, none of at most one does
outlives_one : (g : Network) (a b : ℕ) → bridge_block g a b ≡ true → (ss : List ℕ) → length ss ≤ 1
    → ((s : ℕ) → is_in s ss ≡ true → s < edge_count g) → joined g (loss_of_all g ss) a b ≡ true
unfolding loss_of_all loss_of component nothing
outlives_one g a b e [] h k = bridge_block-component g a b e
outlives_one g a b e (s ∷ []) h k =
    joined_same_loss g (loss_of_all g (s ∷ [])) (mates g s) (λ t i. cond_test (mates g s t)) a b
    ∙ bridge_block_lasts g a b e s (k s (is_in_head s []))
  where
    cond_test : (c : Bool) → cond c true false ≡ c
    cond_test true = refl
    cond_test false = refl
outlives_one g a b e (s ∷ t ∷ ss) h k = absurd (omega arith)

-- the vertices that a search for vertex b does not reach
pub unreached : Network → Allowed → ℕ → Set
unreached g allowed b x = not (is_in x (search g allowed b).order)

-- the search for b reaches a, and the way from a leads to b over steps that may be taken, by no vertex twice
pub record WayFound (g : Network) (allowed : Allowed) (a b : ℕ) : Type 0 where
  pub reached : is_in a (search g allowed b).order ≡ true
  pub lead : leads g a (way g allowed a b) b ≡ true
  pub all_allowed_lem : all_allowed allowed a (way g allowed a b) ≡ true
  pub differ : distinct (visited a (way g allowed a b)) ≡ true

-- a way that is found is a route
pub found_route : (g : Network) (allowed : Allowed) (a b : ℕ) → WayFound g allowed a b → is_route g a b (edges_of (way g allowed a b)) ≡ true
unfolding edges_of
found_route g allowed a b f = walk_is_route g (way g allowed a b) a b f.lead f.differ

module _ (g : Network) (proper : Proper g) (b : ℕ) (known : b < g.vertices) (allowed : Allowed) where
  -- no step that may be taken leads from a vertex that is not reached to one that is
  pub unreached_shut : (x s : ℕ) → unreached g allowed b x ≡ true → s < edge_count g → touches (edge g s) x ≡ true → allowed s x ≡ true
      → unreached g allowed b (other_end (edge g s) x) ≡ true
  unfolding unreached
  unreached_shut x s n h t a = not_of_false (false_of_not (is_in y (search g allowed b).order) (λ r.
      not_both (rw back at (reached_closed g proper allowed b known y s r h (other_end-touches (edge g s) x) (rw back a)))
      (false_of_not_true (is_in x (search g allowed b).order) n)))
    where
      y : ℕ
      y = other_end (edge g s) x

      back : other_end (edge g s) y ≡ x
      back = other_end_back (edge g s) x t

  -- where the search reaches a, the way from a is found
  pub reached_found : (a : ℕ) → is_in a (search g allowed b).order ≡ true → WayFound g allowed a b
  reached_found a r = record {
    reached = r;
    lead = way-leads g proper allowed b known a r;
    all_allowed_lem = way_allowed g proper allowed b known a r;
    differ = way-distinct g proper allowed b known a r;
  }

  -- the goal is reached, so a way from a is found unless it can be that a is not reached and the goal is
  pub way_found : (a : ℕ) → (unreached g allowed b a ≡ true → unreached g allowed b b ≡ false → ⊥) → WayFound g allowed a b
  unfolding unreached
  way_found a w = reached_found a (⊎_elim (λ e. e)
      (λ n. absurd (w (not_of_false n) (not_of_true (goal_reached g proper allowed b known))))
      (true_or_false (is_in a (search g allowed b).order)))

module _ (g : Network) (proper : Proper g) (rule : MateRule g.rule) (a b : ℕ) (known : b < g.vertices) where
  module _ (share : bridge_block g a b ≡ true) (u : Used) (k : ℕ) (few : k ≤ 1) (c : Carries g u a b k) where
    -- while at most one way is carried between two vertices of a bridge-block, one way more is found
    pub more_found_lem : WayFound g (one_more g u) a b
    more_found_lem = way_found g proper b known (one_more g u) a (λ p q.
        let shut = unreached_shut g proper b known (one_more g u) in
        let cut = no_way_more_parts g rule u c.usable (unreached g (one_more g u) b) shut a b k c.balanced p q in
        not_both (outlives_one g a b share cut.edges (omega (arith, cut.many)) (λ s i. c.usable.known s (cut.used s i)))
        cut.parted)

    -- and with it one way more is carried
    pub one_more_lem : Carries g (with_one_more g a b u) a b (suc k)
    unfolding with_one_more way_more
    one_more_lem =
        let f = more_found_lem in
        let ps = way g (one_more g u) a b in
        record {
          usable = way_usable g rule c.usable (more_fits g rule u a b ps f.lead f.all_allowed_lem f.differ);
          balanced = one_way_more g u a b k ps f.lead f.differ rule f.all_allowed_lem c.balanced;
        }

  module _ (u : Used) (k : ℕ) (c : Carries g u a b (suc k)) where
    -- while a way is carried, a way along used edges is found
    pub along_found : WayFound g (along_used u) a b
    unfolding along_used used_to
    along_found = way_found g proper b known (along_used u) a (λ p q. not_both
        (used_leads_on g u a b k c.balanced (unreached g (along_used u) b) p (λ s e n.
        unreached_shut g proper b known (along_used u) (used_from u s) s n (c.usable.known s e)
        (joins-touches (edge g s) (used_from u s) (used_to g u s) (used_joins g u s c.usable e))
        (eq-eqb (u s) (suc (used_from u s)) (used_suc u s e))))
        q)

    -- it is a route
    pub along_route : is_route g a b (edges_of (way_used g a b u)) ≡ true
    unfolding way_used
    along_route = found_route g (along_used u) a b along_found

    -- each of its steps fits when its turn comes
    pub along_goes : Goes g along_used u a (way_used g a b u) b
    unfolding way_used
    along_goes = lasting_goes (along_lasting g) (way_used g a b u) u a b along_found.lead along_found.all_allowed_lem along_found.differ

    -- and without it one way less is carried
    pub one_less : Carries g (way_taken u a (way_used g a b u)) a b k
    unfolding way_used
    one_less =
        let f = along_found in
        let ps = way g (along_used u) a b in
        record {
          usable = way_usable g rule c.usable (along_fits g u a b ps f.lead f.all_allowed_lem f.differ);
          balanced = one_way_less g u a b k ps f.lead f.differ f.all_allowed_lem c.balanced;
        }

  -- where two ways are carried, the two routes along them serve: no two used edges are mates, and what the first uses the second does not
  carried_serve : (u : Used) → Carries g u a b 2 → serve g a b (routes_used g a b u) ≡ true
  unfolding serve routes_used
  carried_serve u c = and_both (and_both (along_route u 1 c) (along_route rest 0 (one_less u 1 c)))
      (apart_by g (edges_of (way_used g a b u)) (edges_of (way_used g a b rest)) (λ s t i k. false_of_not (mates g s t) (never s t i k)))
    where
      rest : Used
      rest = way_taken u a (way_used g a b u)

      never : (s t : ℕ) → is_in s (edges_of (way_used g a b u)) ≡ true → is_in t (edges_of (way_used g a b rest)) ≡ true → mates g s t ≡ true → ⊥
      never s t i k m =
          let gone = along_frees (along_goes u 1 c) s i in
          let left = (along_frees (along_goes rest 0 (one_less u 1 c)) t k).0 in
          let one = c.usable.no_mates s t gone.0 (along_uses_none (along_goes u 1 c) t left) m in
          not_both left (rw one at gone.1)

  -- the first way, what is used after it, and the second way
  abbrev one : List Step
  one = way_more g a b unused

  abbrev used : Used
  used = with_one_more g a b unused

  abbrev two : List Step
  two = way_more g a b used

  module _ (share : bridge_block g a b ≡ true) where
    -- the first way is carried
    carries_one : Carries g used a b 1
    carries_one = one_more_lem share unused 0 (omega arith) (unused_carries g a b)

    -- where the second goes along no used edge, the two serve: all edges of the first are used, and no edge of the second has a used mate
    ways_serve : none_back used two ≡ true → serve g a b (record { first = edges_of one; second = edges_of two }) ≡ true
    unfolding serve way_more with_one_more unused is_used
    ways_serve n = and_both (and_both first_route (found_route g (one_more g used) a b second))
        (apart_by g (edges_of one) (edges_of two) (λ s t i k. false_of_not (mates g s t) (λ m.
        free_of_mates g used t s (none_back_free g used two a second.all_allowed_lem n t k) (route_known g a b (edges_of one) first_route s i)
        (taken_used one unused a (route_differ g a b (edges_of one) first_route) (λ t j. refl) s i) (mates_sym g rule s t m))))
      where
        first_route : is_route g a b (edges_of one) ≡ true
        first_route = found_route g (one_more g unused) a b (more_found_lem share unused 0 (omega arith) (unused_carries g a b))

        second : WayFound g (one_more g used) a b
        second = more_found_lem share used 1 (omega arith) carries_one

    -- so the two routes serve in either case
    shared_serve : serve g a b (two_routes g a b) ≡ true
    unfolding two_routes with_one_more
    shared_serve = go (none_back used two) refl
      where
        go : (c : Bool) → none_back used two ≡ c
            → serve g a b (cond c (record { first = edges_of one; second = edges_of two }) (routes_used g a b (way_taken used a two))) ≡ true
        go true n = ways_serve n
        go false n = carried_serve (with_one_more g a b used) (one_more_lem share used 1 (omega arith) carries_one)

-- whatever the rule of mates, the two routes serve
pub two_routes-serve : (rule : Rule) → MateRule rule → Serves rule two_routes
two_routes-serve rule r g same proper a b ka kb d = shared_serve g proper (subst MateRule (sym same) r) a b kb

-- The crews' sentence of request 5 and its converse: a shared bridge-block (document 01: a ring) implies two routes, and two vertices
-- that two routes serve share one. (A vertex and itself are served by two routes without edges.)
pub ring_exactly : (g : Network) → Proper g → MateRule g.rule → (a b : ℕ) → b < g.vertices
    → (bridge_block g a b ≡ true) ↔ ((r : Routes) × (serve g a b r ≡ true))
ring_exactly g proper rule a b kb = (
  λ share. (two_routes g a b, shared_serve g proper rule a b kb share),
  λ s. served_share g rule a b s.0 s.1,
)
