-- The turns of a search.
use mathlib.Core.Bool.{true}
use mathlib.Core.List.{List, [], ◌∷◌}
use mathlib.Core.Path.{◌≡◌, sym, ◌∙◌, ap, subst}
use Prim.Native.Nat.{ℕ, suc, ◌≤◌, ◌<◌}
use native.Mathlib.Omega.{arith}
use lib.ListN.{length, get_or}
use Rattle.graph.specs.Below.{tabulate}
use Rattle.graph.specs.Lists.{is_in}
use Rattle.graph.specs.Network.{Network, edge_count}
use Rattle.graph.proofs.Truth.{not_of_false, ne_eqb, lt-ltb, ge_ltb}
use Rattle.naming.proofs.Listed.{get_or-tabulate}
use Rattle.ways.specs.Search.{Allowed, Found, at_goal, look_below, turn, turns, search, way, step_of, starts}
use Rattle.ways.specs.Used.{Used, Usable}
use Rattle.ways.proofs.SearchOrder.{at_place_in, later_turns_grow}
use Rattle.ways.proofs.SearchClosed.{reached_known}
use Rattle.ways.proofs.SearchWay.{grown_way}
use Rattle.numbers.specs.declared.Shape.{Shape}
use Rattle.forest.specs.Promise.{Holds, network_in, vertices_held, vertex_scratch}
use Rattle.routes.specs.declared.search.Allowance.{Allowance}
use Rattle.routes.specs.Inside.Frame.{next_column, order_column, search_only}
use Rattle.routes.specs.Inside.Lists.{Listed}
use Rattle.routes.specs.Inside.Searches.{allowed_by, next_word, Searching, Goes, LookedAll, Turned, Begun, WayStands, Searched}
use Rattle.routes.proofs.Frames.{only_refl, only_trans, same-network}
use Rattle.routes.proofs.SearchesLook.{search_keeps_lists, found_is, vertices_are, proper_is, word_reached}

-- a turn sees all edges from the vertex at its place in the order
turn_there : (g : Network) (allowed : Allowed) (i : ℕ) (f : Found) → i < length f.order
    → turn g allowed i f ≡ look_below g allowed (get_or f.order i 0) (edge_count g) f
unfolding turn
turn_there g allowed i f h = rw (lt-ltb i (length f.order) h)

-- and none where no vertex has that place
turn_beyond : (g : Network) (allowed : Allowed) (i : ℕ) (f : Found) → length f.order ≤ i → turn g allowed i f ≡ f
unfolding turn
turn_beyond g allowed i f h = rw (ge_ltb i (length f.order) h)

-- the vertex at a place of the order, by its word
at_place : {shape : Shape} {g : Network} {u : Used} {b : ℕ} {f : Found} {t : List ℕ} {found : ℕ} → Searching shape g u b f t found
    → (i : ℕ) → i < found → get_or f.order i 0 ≡ vertex_scratch shape t order_column i
at_place {shape} {t = t} {found = found} w i h =
    ap (λ l. get_or l i 0) (sym w.order_is) ∙ get_or-tabulate found (vertex_scratch shape t order_column) 0 i h

-- a turn is done
pub turn_looks : {shape : Shape} {allowance : Allowance} {i y found found' : ℕ} {old new : List ℕ} → i < found
    → y ≡ vertex_scratch shape old order_column i → LookedAll shape allowance y found old new found'
    → Turned shape allowance i found old new found'
turn_looks {shape} {allowance} {i} {y} {found} {found'} {old} {new} h e l =
    record {
      only = l.only;
      goes = λ g u b f w ready.
          let there : i < length f.order = omega (arith, h, found_is w) in
          let y_is = at_place w i h ∙ sym e in
          subst (λ k. Searching shape g u b k new found')
          (sym (turn_there g (allowed_by g u allowance) i f there
          ∙ ap (λ z. look_below g (allowed_by g u allowance) z (edge_count g) f) y_is))
          (l.goes g u b f w (subst (λ z. is_in z f.order ≡ true) y_is (at_place_in f.order i there)));
    }

-- or there is nothing to do
pub turn_stays : (shape : Shape) (allowance : Allowance) (i found : ℕ) (t : List ℕ) → Holds shape t → found ≤ i
    → Turned shape allowance i found t t found
turn_stays shape allowance i found t holds h =
    record {
      only = only_refl shape search_only t holds;
      goes = λ g u b f w ready.
          subst (λ k. Searching shape g u b k t found)
          (sym (turn_beyond g (allowed_by g u allowance) i f (omega (arith, h, found_is w)))) w;
    }

-- a search begins
begun_searching : {shape : Shape} {b : ℕ} {old new : List ℕ} → Begun shape b old new → b < shape.vertices → (g : Network) (u : Used)
    → network_in shape old ≡ g → Listed shape g u old → Usable g u → Searching shape g u b (at_goal b) new 1
unfolding at_goal next_word step_of tabulate
begun_searching {shape} {b} {old} {new} w h g u is l usable =
    record {
      network_is = same-network w.only ∙ is;
      listed = search_keeps_lists w.only g u is l;
      usable = usable;
      goal_known = omega (arith, h, ap (λ k. k.vertices) (sym is) ∙ vertices_held shape old);
      orderly = starts;
      next_is = w.goal_next;
      order_is = ap (λ x. x ∷ []) w.goal_first;
    }

-- The first n turns are done.
abbrev pub Turning : Shape → Allowance → ℕ → ℕ → List ℕ → List ℕ → ℕ → Type 0
Turning shape allowance n = Goes shape allowance (λ g allowed f. turns g allowed n f) (λ g f. Unit)

-- none at first
pub turning_first : (shape : Shape) (allowance : Allowance) (found : ℕ) (t : List ℕ) → Holds shape t
    → Turning shape allowance 0 found t t found
unfolding turns
turning_first shape allowance found t holds = record { only = only_refl shape search_only t holds; goes = λ g u b f w ready. w }

-- then one more
pub turning_next : {shape : Shape} {allowance : Allowance} {n m found mid found' : ℕ} {old t new : List ℕ} → m ≡ suc n
    → Turning shape allowance n found old t mid → Turned shape allowance n mid t new found' → Turning shape allowance m found old new found'
unfolding turns
turning_next {allowance = allowance} {n} e w v =
    record {
      only = only_trans w.only v.only;
      goes = λ g u b f q ready. rw e (v.goes g u b (turns g (allowed_by g u allowance) n f) (w.goes g u b f q ready) tt);
    }

module _ (shape : Shape) (allowance : Allowance) (a b n found : ℕ) (old t new : List ℕ) (begun : Begun shape b old t)
    (known : b < shape.vertices) (v : Turning shape allowance n 1 t new found) where
  module _ (g : Network) (u : Used) (is : network_in shape old ≡ g) (l : Listed shape g u old) (usable : Usable g u) where
    abbrev allowed : Allowed
    allowed = allowed_by g u allowance

    -- what the first n turns have found
    turned : Searching shape g u b (turns g allowed n (at_goal b)) new found
    turned = v.goes g u b (at_goal b) (begun_searching begun known g u is l usable) tt

    -- where a is reached by then, the way from it is that of the whole search
    stands : n ≤ shape.vertices → is_in a (turns g allowed n (at_goal b)).order ≡ true → WayStands shape g allowed a b new
    unfolding search way
    stands h reached =
        record {
          so_far = turns g allowed n (at_goal b);
          orderly = turned.orderly;
          next_is = turned.next_is;
          reached = reached;
          same_way = sym (grown_way (later_turns_grow g allowed n g.vertices (at_goal b) (omega (arith, h, vertices_are turned))) a reached);
        }

  -- a search may end when a is reached
  pub turning_stops : n ≤ shape.vertices → (word : ℕ) → word ≡ vertex_scratch shape new next_column a → (word ≡ 0 → ⊥)
      → Searched shape allowance a b old new
  turning_stops h word word_is ne =
      record {
        only = only_trans begun.only v.only;
        found = λ g u is l usable reached.
            let w = turned g u is l usable in
            let inside = reached_known g (proper_is w v.only.holds) (allowed_by g u allowance) b w.goal_known a reached in
            stands g u is l usable h
            (word_reached w a (omega (arith, inside, vertices_are w))
            ∙ not_of_false (ne_eqb (vertex_scratch shape new next_column a) 0 (λ e. ne (word_is ∙ e))));
      }

  -- and ends with the last turn
  pub turning_last : n ≡ shape.vertices → Searched shape allowance a b old new
  unfolding search
  turning_last e =
      record {
        only = only_trans begun.only v.only;
        found = λ g u is l usable reached.
            let w = turned g u is l usable in
            stands g u is l usable (omega (arith, e))
            (subst (λ k. is_in a (turns g (allowed_by g u allowance) k (at_goal b)).order ≡ true) (omega (arith, e, vertices_are w)) reached);
      }
