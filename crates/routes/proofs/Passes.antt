-- A pass, which is a search and what becomes of the way that it finds, and the passes that find two routes.
use mathlib.Core.Bool.{Bool, true, false, not, ◌||◌}
use mathlib.Core.List.{List}
use mathlib.Core.Path.{◌≡◌, refl, sym, ◌∙◌, ap}
use Prim.Native.Nat.{ℕ, suc, ◌≤◌, ◌<◌}
use native.Mathlib.Omega.{arith}
use lib.Dec.{eqb}
use lib.ListN.{length, length-map}
use Rattle.graph.specs.Below.{length_tabulate}
use Rattle.graph.specs.Lists.{is_in}
use Rattle.graph.specs.Network.{Network, MateRule, Proper, edge_count}
use Rattle.graph.specs.Groups.{bridge_block}
use Rattle.graph.proofs.Truth.{true_of_not_false, false_of_not_true, or_neither_left, or_neither_right}
use Rattle.graph.proofs.Routes.{walk_is_route, route_known}
use Rattle.ways.specs.Search.{search, way}
use Rattle.ways.specs.Used.{Used, unused, one_more, along_used, way_taken, WayFits}
use Rattle.ways.specs.TwoRoutes.{edges_of, way_more, with_one_more, none_back, way_used, routes_used, two_routes}
use Rattle.ways.proofs.SearchWay.{way_short}
use Rattle.ways.proofs.UsedSteps.{more_fits, along_fits}
use Rattle.ways.proofs.TwoRoutes.{Carries, unused_carries, WayFound, more_found_lem, one_more_lem, along_found, one_less}
use Rattle.numbers.specs.declared.Shape.{Shape}
use Rattle.forest.specs.Promise.{Holds, state_of, network_in, SameBeyond, vertices_held, vertices_fit, same_beyond_trans, vertex_scratch}
use Rattle.routes.specs.declared.search.Allowance.{Allowance}
use Rattle.routes.specs.declared.search.Allowance.TheVariants as A
use Rattle.routes.specs.declared.Lengths.{Lengths}
use Rattle.routes.specs.Inside.Frame.{next_column, order_column, first_column, search_only, column_only, edges_only, Written}
use Rattle.routes.specs.Inside.Lists.{Listed, ListsBuilt}
use Rattle.routes.specs.Inside.Searches.{allowed_by, Searched}
use Rattle.routes.specs.Inside.Walks.{WayWritten, WayDone, TakesBack}
use Rattle.routes.specs.Inside.Passes.{pass_only, taken_only, PassWritten, PassTaken}
use Rattle.routes.specs.Promise.{edge_at, RoutesFound}
use Rattle.routes.proofs.Frames.{only_trans, only_wider, held_known, held_proper, held_rule, same-network, written_only, listed_only}

module _ (shape : Shape) (allowance : Allowance) (a b : ℕ) (old : List ℕ) (holds : Holds shape old) (known : b < shape.vertices) where
  -- the way of a search from a vertex that it reaches has fewer edges than there are vertices
  way_short_in : (g : Network) (u : Used) → network_in shape old ≡ g → is_in a (search g (allowed_by g u allowance) b).order ≡ true
      → length (way g (allowed_by g u allowance) a b) < g.vertices
  way_short_in g u is reached =
      way_short g (held_proper shape g old is holds) (allowed_by g u allowance) b (held_known shape g old is b known) a reached

  -- so there are words for it where it is written down
  few_written : (g : Network) (u : Used) → network_in shape old ≡ g → is_in a (search g (allowed_by g u allowance) b).order ≡ true
      → (column count : ℕ) (t : List ℕ) → Written shape column count t (edges_of (way g (allowed_by g u allowance) a b))
      → count ≤ shape.limits.vertices
  unfolding edges_of
  few_written g u is reached column count t stands =
      omega (
        arith,
        length_tabulate count (vertex_scratch shape t column),
        ap length stands,
        length-map (way g (allowed_by g u allowance) a b) (λ p. p.along),
        way_short_in g u is reached,
        vertices_held shape old,
        ap (λ n. n.vertices) is,
        vertices_fit shape old holds,
      )

  -- a search, and the way written down
  pub pass_written : {column : ℕ} {mid new : List ℕ} {count : ℕ} → Searched shape allowance a b old mid
      → WayWritten shape column a b mid new count → PassWritten shape allowance column a b old new count
  unfolding search_only column_only pass_only way
  pass_written {column} searched w =
      record {
        only = only_trans
            (only_wider (λ j e. or_neither_left (eqb j next_column || eqb j order_column) (eqb j column) e) (λ e. refl) searched.only)
            (only_wider (λ j e. or_neither_right (eqb j next_column || eqb j order_column) (eqb j column) e) (λ e. refl) w.only);
        written = λ g u is listed usable reached.
            let s = searched.found g u is listed usable reached in
            rw s.same_way at
            (w.written
            g
            s.so_far
            (same-network searched.only ∙ is)
            s.orderly
            s.next_is
            s.reached
            (rw s.same_way (way_short_in g u is reached)));
      }

  -- the same, and the way taken
  pub pass_taken : {mid new : List ℕ} {count : ℕ} → PassWritten shape allowance first_column a b old mid count
      → WayDone shape first_column a count mid new → PassTaken shape allowance a b old new count
  unfolding pass_only taken_only edges_only
  pass_taken {mid} {new} {count} p w =
      record {
        only = only_trans (only_wider (λ j e. e) (λ e. refl) p.only) (only_wider (λ j e. refl) (λ e. e) w.only);
        written = λ g u is listed usable reached.
            let stands = p.written g u is listed usable reached in
            written_only
            w.only
            first_column
            count
            _
            (omega arith)
            refl
            (few_written g u is reached first_column count mid stands)
            stands;
        taken = λ g u is listed usable reached fits.
            w.taken
            g
            u
            (way g (allowed_by g u allowance) a b)
            (same-network p.only ∙ is)
            (listed_only p.only refl refl g is u listed)
            usable
            fits
            (way_short_in g u is reached)
            (p.written g u is listed usable reached);
      }

-- The passes between two vertices of one bridge-block.
module _ (shape : Shape) (a b : ℕ) (old : List ℕ) (holds : Holds shape old) (known : b < shape.vertices)
    (share : bridge_block (network_in shape old) a b ≡ true) where
  abbrev g : Network
  g = network_in shape old

  abbrev proper : Proper g
  proper = held_proper shape g old refl holds

  abbrev rule : MateRule g.rule
  rule = held_rule shape g old refl

  abbrev goal_known : b < g.vertices
  goal_known = held_known shape g old refl b known

  -- one way more, where at most one is taken
  module _ (u : Used) (k : ℕ) (few : k ≤ 1) (c : Carries g u a b k) where
    more : WayFound g (one_more g u) a b
    more = more_found_lem g proper rule a b goal_known share u k few c

    more_reached : is_in a (search g (allowed_by g u A.OneMore) b).order ≡ true
    unfolding allowed_by
    more_reached = more.reached

    more_way_fits : WayFits g u a (way_more g a b u)
    unfolding way_more
    more_way_fits = more_fits g rule u a b _ more.lead more.all_allowed_lem more.differ

    -- when it is taken
    more_listed : {t new : List ℕ} {count : ℕ} → network_in shape t ≡ g → Listed shape g u t
        → PassTaken shape A.OneMore a b t new count → Listed shape g (with_one_more g a b u) new
    unfolding allowed_by with_one_more way_more
    more_listed is listed p = p.taken g u is listed c.usable more_reached more_way_fits

    -- its edges are known
    more_known : (s : ℕ) → is_in s (edges_of (way_more g a b u)) ≡ true → s < edge_count g
    unfolding way_more edges_of
    more_known = route_known g a b _ (walk_is_route g _ a b more.lead more.differ)

  -- a route along used edges, where at least one way is taken
  module _ (u : Used) (k : ℕ) (c : Carries g u a b (suc k)) where
    along : WayFound g (along_used u) a b
    along = along_found g proper rule a b goal_known u k c

    along_reached : is_in a (search g (allowed_by g u A.AlongUsed) b).order ≡ true
    unfolding allowed_by
    along_reached = along.reached

    along_listed : {t new : List ℕ} {count : ℕ} → network_in shape t ≡ g → Listed shape g u t
        → PassTaken shape A.AlongUsed a b t new count → Listed shape g (way_taken u a (way_used g a b u)) new
    unfolding allowed_by way_used
    along_listed is listed p =
        p.taken g u is listed c.usable along_reached (along_fits g u a b _ along.lead along.all_allowed_lem along.differ)

  -- what is used by one way
  abbrev one : Used
  one = with_one_more g a b unused

  carries_one : Carries g one a b 1
  carries_one = one_more_lem g proper rule a b goal_known share unused 0 (omega arith) (unused_carries g a b)

  -- and by two
  abbrev two : Used
  two = with_one_more g a b one

  carries_two : Carries g two a b 2
  carries_two = one_more_lem g proper rule a b goal_known share one 1 (omega arith) carries_one

  module _ {t₁ t₂ t₃ : List ℕ} {m n : ℕ} (built : ListsBuilt shape old t₁) (first : PassTaken shape A.OneMore a b t₁ t₂ m)
      (second : PassWritten shape A.OneMore order_column a b t₂ t₃ n) where
    is₁ : network_in shape t₁ ≡ g
    is₁ = same-network built.only

    is₂ : network_in shape t₂ ≡ g
    is₂ = same-network first.only ∙ is₁

    is₃ : network_in shape t₃ ≡ g
    is₃ = same-network second.only ∙ is₂

    state₃ : state_of shape t₃ ≡ state_of shape old
    state₃ = second.only.state_is ∙ first.only.state_is ∙ built.only.state_is

    beyond₃ : SameBeyond shape.limits old t₃
    beyond₃ =
        same_beyond_trans built.only.same_beyond (same_beyond_trans first.only.same_beyond second.only.same_beyond)

    listed₂ : Listed shape g one t₂
    listed₂ = more_listed unused 0 (omega arith) (unused_carries g a b) is₁ built.listed first

    listed₃ : Listed shape g one t₃
    unfolding pass_only
    listed₃ = listed_only second.only refl refl g is₂ one listed₂

    -- both ways stand
    first_way : Written shape first_column m t₂ (edges_of (way_more g a b unused))
    unfolding allowed_by way_more
    first_way =
        first.written g unused is₁ built.listed (unused_carries g a b).usable (more_reached unused 0 (omega arith) (unused_carries g a b))

    first_stays : Written shape first_column m t₃ (edges_of (way_more g a b unused))
    unfolding pass_only way_more allowed_by
    first_stays =
        written_only second.only first_column m _ (omega arith) refl
        (few_written shape A.OneMore a b old holds known g unused refl
        (more_reached unused 0 (omega arith) (unused_carries g a b)) first_column m t₂ first_way)
        first_way

    second_way : Written shape order_column n t₃ (edges_of (way_more g a b one))
    unfolding allowed_by way_more
    second_way = second.written g one is₂ listed₂ carries_one.usable (more_reached one 1 (omega arith) carries_one)

    -- whether the second goes back along the first
    goes_back : (answer : Bool) → TakesBack shape order_column n t₃ answer → answer ≡ not (none_back one (way_more g a b one))
    goes_back answer back = back.told g one (way_more g a b one) listed₃ (more_known one 1 (omega arith) carries_one) second_way

    -- where it does not, the two ways are the routes
    pub two_ways_found : TakesBack shape order_column n t₃ false → RoutesFound shape a b old t₃ (record { first = m; second = n })
    unfolding two_routes edge_at
    two_ways_found back =
        let none = true_of_not_false (none_back one (way_more g a b one)) (sym (goes_back false back)) in
        record {
          holds = second.only.holds;
          state_is = state₃;
          first_is = rw none first_stays;
          second_is = rw none second_way;
          same_beyond = beyond₃;
        }

    -- where it does, they are found along what both use
    pub routes_found : {t₄ t₅ new : List ℕ} {lengths : Lengths} → TakesBack shape order_column n t₃ true
        → WayDone shape order_column a n t₃ t₄ → PassTaken shape A.AlongUsed a b t₄ t₅ lengths.first
        → PassWritten shape A.AlongUsed order_column a b t₅ new lengths.second → RoutesFound shape a b old new lengths
    unfolding two_routes routes_used way_more with_one_more way_used edge_at allowed_by edges_only taken_only pass_only
    routes_found {t₅ = t₅} {lengths = lengths} back done third fourth =
        let some = false_of_not_true (none_back one (way_more g a b one)) (sym (goes_back true back)) in
        let is₄ = same-network done.only ∙ is₃ in
        let is₅ = same-network third.only ∙ is₄ in
        let listed₄ =
        done.taken g one (way_more g a b one) is₃ listed₃ carries_one.usable (more_way_fits one 1 (omega arith) carries_one)
        (way_short_in shape A.OneMore a b old holds known g one refl (more_reached one 1 (omega arith) carries_one)) second_way
        in
        let listed₅ = along_listed two 1 carries_two is₄ listed₄ third in
        let rest = way_taken two a (way_used g a b two) in
        let carries_rest = one_less g proper rule a b goal_known two 1 carries_two in
        let route = third.written g two is₄ listed₄ carries_two.usable (along_reached two 1 carries_two) in
        record {
          holds = fourth.only.holds;
          state_is = fourth.only.state_is ∙ third.only.state_is ∙ done.only.state_is ∙ state₃;
          first_is = rw some
              (written_only fourth.only first_column lengths.first _ (omega arith) refl
              (few_written shape A.AlongUsed a b old holds known g two refl (along_reached two 1 carries_two) first_column lengths.first
              t₅ route)
              route);
          second_is = rw some (fourth.written g rest is₅ listed₅ carries_rest.usable (along_reached rest 0 carries_rest));
          same_beyond =
              same_beyond_trans beyond₃
              (same_beyond_trans done.only.same_beyond (same_beyond_trans third.only.same_beyond fourth.only.same_beyond));
        }
