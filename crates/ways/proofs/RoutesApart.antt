-- As many routes, any two of them apart, lead from one vertex to another as ways are found. (Menger's theorem, with mates lost together.)
use mathlib.Core.Bool.{Bool, true, false, not, ◌&&◌}
use mathlib.Core.List.{List, [], ◌∷◌}
use mathlib.Core.Logic.{◌⊎◌, inl, inr, ◌↔◌}
use mathlib.Core.Path.{◌≡◌, refl, sym, ◌∙◌, ap}
use Prim.Native.Nat.{ℕ, zero, suc, ◌≤◌, ◌<◌}
use native.Mathlib.Omega.{arith}
use lib.ListN.{length}
use Rattle.graph.specs.Lists.{all_in}
use Rattle.graph.specs.Network.{Network, Loss, Proper, MateRule, mates, nothing}
use Rattle.graph.specs.Groups.{outlive_two}
use Rattle.graph.specs.EdgeConnected.{loss_of_all, Outlives}
use Rattle.graph.specs.Route.{is_route, apart}
use Rattle.graph.proofs.Truth.{true_or_false, false_of_not_true, and_left, and_right, and_both}
use Rattle.graph.proofs.Members.{all_in_lem, each_in}
use Rattle.graph.proofs.Routes.{route_joined, apart_spared}
use Rattle.ways.specs.Used.{Used, unused, is_used, way_taken}
use Rattle.ways.specs.TwoRoutes.{edges_of, way_used}
use Rattle.ways.specs.WaysFound.{ways_taken, ways_found}
use Rattle.ways.specs.RoutesApart.{all_apart, RoutesApart}
use Rattle.ways.proofs.TwoRoutes.{Carries, unused_carries, one_less}
use Rattle.ways.proofs.TwoRoutes.{along_uses_none, along_route, along_goes}
use Rattle.ways.proofs.WaysCarried.{along_uses, along_apart}
use Rattle.ways.proofs.WaysFound.{ways_found_carried, ways_found_exactly, outlive_two_three_ways}

-- what passes one test passes another that follows from it
all_follow : {A : Type 0} (f h : A → Bool) → ((x : A) → f x ≡ true → h x ≡ true) → (l : List A) → all_in f l ≡ true → all_in h l ≡ true
unfolding all_in
all_follow f h w [] e = refl
all_follow f h w (x ∷ l) e = and_both (w x (and_left (f x) (all_in f l) e)) (all_follow f h w l (and_right (f x) (all_in f l) e))

-- and what passes two tests passes both
all_both : {A : Type 0} (f h : A → Bool) (l : List A) → all_in f l ≡ true → all_in h l ≡ true → all_in (λ x. f x && h x) l ≡ true
unfolding all_in
all_both f h [] e i = refl
all_both f h (x ∷ l) e i =
    and_both (and_both (and_left (f x) (all_in f l) e) (and_left (h x) (all_in h l) i))
    (all_both f h l (and_right (f x) (all_in f l) e) (and_right (h x) (all_in h l) i))

-- Routes along used edges: as many as are carried.
pub record RoutesAlong (g : Network) (u : Used) (a b k : ℕ) : Type 0 where
  pub found : RoutesApart g a b k
  pub all_used : all_in (all_in (is_used u)) found.routes ≡ true

module _ (g : Network) (proper : Proper g) (rule : MateRule g.rule) (a b : ℕ) (known : b < g.vertices) where
  -- a route along used edges is apart from those along what it leaves
  one_route_more : (u : Used) (k : ℕ) → Carries g u a b (suc k) → RoutesAlong g (way_taken u a (way_used g a b u)) a b k
      → RoutesAlong g u a b (suc k)
  unfolding all_in all_apart
  one_route_more u k c later =
      record {
        found =
            record {
              routes = route ∷ later.found.routes;
              many = ap suc later.found.many;
              all_routes = and_both (along_route g proper rule a b known u k c) later.found.all_routes;
              all_apart_lem =
                  and_both
                  (all_follow (all_in (is_used rest)) (apart g route) (λ ts e.
                  along_apart g proper rule a b known u k c ts (each_in (is_used rest) ts e)) later.found.routes later.all_used)
                  later.found.all_apart_lem;
            };
        all_used =
            and_both (all_in_lem (is_used u) route (along_uses g proper rule a b known u k c))
            (all_follow (all_in (is_used rest)) (all_in (is_used u)) (λ ts e. all_follow (is_used rest) (is_used u)
            (along_uses_none (along_goes g proper rule a b known u k c)) ts e) later.found.routes later.all_used);
      }
    where
      route : List ℕ
      route = edges_of (way_used g a b u)

      rest : Used
      rest = way_taken u a (way_used g a b u)

  -- so as many routes are found along what is used as ways are carried
  carried_routes : (k : ℕ) (u : Used) → Carries g u a b k → RoutesAlong g u a b k
  unfolding all_in all_apart
  carried_routes zero u c = record { found = record { routes = []; many = refl; all_routes = refl; all_apart_lem = refl }; all_used = refl }
  carried_routes (suc k) u c =
      one_route_more u k c (carried_routes k (way_taken u a (way_used g a b u)) (one_less g proper rule a b known u k c))

-- no edge of the list is lost
spared : Loss → List ℕ → Bool
spared lost r = all_in (λ t. not (lost t)) r

-- Of lists that are apart, all but at most one: those that the loss of edge s with its mates does not meet.
record Rest (g : Network) (s : ℕ) (rs : List (List ℕ)) : Type 0 where
  rest : List (List ℕ)
  many : length rs ≤ suc (length rest)
  within : (f : List ℕ → Bool) → all_in f rs ≡ true → all_in f rest ≡ true
  all_spared : all_in (spared (mates g s)) rest ≡ true
  all_apart_lem : all_apart g rest ≡ true

module _ (g : Network) (rule : MateRule g.rule) where
  -- there are such
  but_one_spared : (s : ℕ) (rs : List (List ℕ)) → all_apart g rs ≡ true → Rest g s rs
  unfolding all_in all_apart spared
  but_one_spared s [] w = record { rest = []; many = omega arith; within = λ f e. e; all_spared = refl; all_apart_lem = refl }
  but_one_spared s (r ∷ rs) w =
      go (true_or_false (spared (mates g s) r)) (but_one_spared s rs (and_right (all_in (apart g r) rs) (all_apart g rs) w))
    where
      go : (spared (mates g s) r ≡ true) ⊎ (spared (mates g s) r ≡ false) → Rest g s rs → Rest g s (r ∷ rs)
      go (inl e) t =
          record {
            rest = r ∷ t.rest;
            many = omega (arith, t.many);
            within = λ f i. and_both (and_left (f r) (all_in f rs) i) (t.within f (and_right (f r) (all_in f rs) i));
            all_spared = and_both e t.all_spared;
            all_apart_lem = and_both (t.within (apart g r) (and_left (all_in (apart g r) rs) (all_apart g rs) w)) t.all_apart_lem;
          }
      go (inr e) t =
          record {
            rest = rs;
            many = omega arith;
            within = λ f i. and_right (f r) (all_in f rs) i;
            all_spared = all_follow (apart g r) (spared (mates g s)) (λ ts i. apart_spared g rule r ts i s e) rs
                (and_left (all_in (apart g r) rs) (all_apart g rs) w);
            all_apart_lem = and_right (all_in (apart g r) rs) (all_apart g rs) w;
          }

  -- what the loss of edge s spares, and the loss of others, the loss of all spares
  both_spare : (s : ℕ) (ss r : List ℕ) → spared (mates g s) r ≡ true → spared (loss_of_all g ss) r ≡ true
      → spared (loss_of_all g (s ∷ ss)) r ≡ true
  unfolding spared loss_of_all
  both_spare s ss r e f = all_in_lem (λ t. not (loss_of_all g (s ∷ ss) t)) r (λ t i.
      rw (false_of_not_true (mates g s t) (each_in (λ t. not (mates g s t)) r e t i)) (each_in (λ t. not (loss_of_all g ss t)) r f t i))

  -- so the loss of fewer edges than there are lists spares one of them
  one_spared : (ss : List ℕ) (rs : List (List ℕ)) (f : List ℕ → Bool) → length ss < length rs → all_apart g rs ≡ true → all_in f rs ≡ true
      → (r : List ℕ) × (f r ≡ true) × (spared (loss_of_all g ss) r ≡ true)
  unfolding all_in spared loss_of_all nothing
  one_spared [] [] f h w e = absurd (omega arith)
  one_spared [] (r ∷ rs) f h w e = (r, and_left (f r) (all_in f rs) e, all_in_lem (λ t. not false) r (λ t i. refl))
  one_spared (s ∷ ss) rs f h w e =
      let t = but_one_spared s rs w in
      let one =
      one_spared ss t.rest (λ r. f r && spared (mates g s) r) (omega (arith, t.many)) t.all_apart_lem
      (all_both f (spared (mates g s)) t.rest (t.within f e) t.all_spared)
      in (
        one.0,
        and_left (f one.0) (spared (mates g s) one.0) one.1,
        both_spare s ss one.0 (and_right (f one.0) (spared (mates g s) one.0) one.1) one.2,
      )

module _ (g : Network) (proper : Proper g) (rule : MateRule g.rule) (a b : ℕ) (known : b < g.vertices) where
  -- between the ends of k + 1 routes, any two of them apart, the loss of any k edges is outlived
  routes_outlive : (k : ℕ) → RoutesApart g a b (suc k) → Outlives k g a b
  unfolding spared
  routes_outlive k p ss few i =
      let one = one_spared g rule ss p.routes (is_route g a b) (omega (arith, p.many)) p.all_apart_lem p.all_routes in
      route_joined g (loss_of_all g ss) a b one.0 one.1 one.2

  -- k ways are found exactly if there are k routes, any two of them apart
  pub routes_exactly : (k : ℕ) → (ways_found g a b k ≡ true) ↔ RoutesApart g a b k
  unfolding ways_found
  routes_exactly zero = (λ e. (carried_routes g proper rule a b known 0 unused (unused_carries g a b)).found, λ p. refl)
  routes_exactly (suc k) = (
    λ e. (carried_routes g proper rule a b known (suc k) (ways_taken g a b (suc k))
        (ways_found_carried g proper rule a b known (suc k) e)).found,
    λ p. (ways_found_exactly g proper rule a b known k).1 (routes_outlive k p),
  )

  -- Two vertices outlive two losses exactly if there are three routes from one to the other, any two of them apart. (From a vertex to
  -- itself lead routes without edges.)
  pub three_routes_exactly : (outlive_two g a b ≡ true) ↔ RoutesApart g a b 3
  three_routes_exactly =
      let told = outlive_two_three_ways g proper rule a b known in
      (λ e. (routes_exactly 3).0 (sym told ∙ e), λ p. told ∙ (routes_exactly 3).1 p)
