-- In networks alike the same routes are found.
use mathlib.Core.Bool.{Bool, true, false, not, cond, ◌&&◌, ◌||◌, or_comm}
use mathlib.Core.List.{[], ◌∷◌, ◌++◌}
use mathlib.Core.Path.{◌≡◌, refl, sym, ◌∙◌, ap}
use Prim.Native.Nat.{ℕ, zero, suc, ◌≤◌, ◌<◌}
use native.Mathlib.Nat.{le_refl}
use native.Mathlib.Omega.{arith}
use lib.Dec.{eqb, ltb}
use lib.ListN.{length, get_or}
use Rattle.graph.specs.Lists.{is_in}
use Rattle.graph.specs.Network.{Network, Edge, edge, edge_count, touches, other_end, parallel, mates}
use Rattle.graph.proofs.Below.{any_below-same}
use Rattle.graph.proofs.Mates.{parallel_carries}
use Rattle.graph.proofs.Ends.{other_end-touches}
use Rattle.graph.proofs.Joins.{touches-joins, joins_other, parallel-joins}
use Rattle.graph.proofs.Alike.{Alike}
use Rattle.ways.specs.Search.{Allowed, Found, at_goal, linked, look, look_below, turn, turns, search, way}
use Rattle.ways.specs.Used.{Used, unused, is_used, mate_used, one_more, along_used, way_taken}
use Rattle.ways.specs.TwoRoutes.{way_more, with_one_more, way_used, routes_used, two_routes}

-- parallel edges touch the same vertices
parallel-touches : (e f : Edge) → parallel e f ≡ true → (x : ℕ) → touches e x ≡ touches f x
unfolding touches
parallel-touches e f p x =
    parallel_carries (λ l r. (eqb l x || eqb r x) ≡ touches f x) (λ l r q. or_comm (eqb r x) (eqb l x) ∙ q) e f p refl

-- at either end they lead to the same vertex
parallel_other : (e f : Edge) → parallel e f ≡ true → (x : ℕ) → touches f x ≡ true → other_end e x ≡ other_end f x
parallel_other e f p x t =
    sym (joins_other f x (other_end e x) (parallel-joins e f p x (other_end e x) (touches-joins e x (parallel-touches e f p x ∙ t))))

module _ {g h : Network} (a : Alike g h) where
  -- the two allow the same steps along edges of the networks
  abbrev SameSteps : Allowed → Allowed → Type 0
  SameSteps before after = (s x : ℕ) → s < edge_count g → touches (edge g s) x ≡ true → after s x ≡ before s x

  module _ {before after : Allowed} (agree : SameSteps before after) where
    -- each look is the same
    look_alike : (y s : ℕ) (f : Found) → s < edge_count g → look h after y s f ≡ look g before y s f
    unfolding look linked
    look_alike y s f k = rw (parallel-touches (edge h s) (edge g s) (a.same_ends s k) y) (go (touches (edge g s) y) refl)
      where
        found : Bool → ℕ → Bool → Found
        found t x b =
            cond (t && not (is_in x f.order) && b)
            (record { links = record { vertex = x; along = s; to = y } ∷ f.links; order = f.order ++ x ∷ [] }) f

        go : (t : Bool) → touches (edge g s) y ≡ t
            → found t (other_end (edge h s) y) (after s (other_end (edge h s) y))
            ≡ found t (other_end (edge g s) y) (before s (other_end (edge g s) y))
        go true t = rw (parallel_other (edge h s) (edge g s) (a.same_ends s k) y t)
            (ap (found true (other_end (edge g s) y)) (agree s (other_end (edge g s) y) k (other_end-touches (edge g s) y)))
        go false t = refl

    -- so are all looks from one vertex
    look_below_alike : (y n : ℕ) (f : Found) → n ≤ edge_count g → look_below h after y n f ≡ look_below g before y n f
    unfolding look_below
    look_below_alike y zero f k = refl
    look_below_alike y (suc n) f k = rw (look_alike y n f k) (look_below_alike y n (look g before y n f) (omega arith))

    -- so is each turn
    turn_alike : (i : ℕ) (f : Found) → turn h after i f ≡ turn g before i f
    unfolding turn
    turn_alike i f =
        rw a.as_many_edges
        (ap (λ r. cond (ltb i (length f.order)) r f) (look_below_alike (get_or f.order i 0) (edge_count g) f (le_refl _)))

    -- and all turns
    turns_alike : (n : ℕ) (f : Found) → turns h after n f ≡ turns g before n f
    unfolding turns
    turns_alike zero f = refl
    turns_alike (suc n) f = rw (turns_alike n f) (turn_alike n (turns g before n f))

    -- so the same ways are found
    way_alike : (x b : ℕ) → way h after x b ≡ way g before x b
    unfolding way search
    way_alike x b = rw (turns_alike h.vertices (at_goal b), a.as_many_vertices)

  -- one way more may take the same steps
  one_more_alike : (u : Used) → SameSteps (one_more g u) (one_more h u)
  unfolding one_more mate_used
  one_more_alike u s x k t =
      rw (a.as_many_edges, parallel_other (edge h s) (edge g s) (a.same_ends s k) x t)
      (ap (λ m. not m || eqb (u s) (suc (other_end (edge g s) x)))
      (any_below-same (edge_count g) (λ t. mates h s t && is_used u t) (λ t. mates g s t && is_used u t)
      (λ t l. ap (λ m. m && is_used u t) (a.same-mates s t k l))))

  -- so the same way is the one more
  way_more_alike : (x y : ℕ) (u : Used) → way_more h x y u ≡ way_more g x y u
  unfolding way_more
  way_more_alike x y u = way_alike (one_more_alike u) x y

  -- and after it the same is used
  with_one_more_alike : (x y : ℕ) (u : Used) → with_one_more h x y u ≡ with_one_more g x y u
  unfolding with_one_more
  with_one_more_alike x y u = ap (way_taken u x) (way_more_alike x y u)

  -- along used edges there are the same ways
  way_used_alike : (x y : ℕ) (u : Used) → way_used h x y u ≡ way_used g x y u
  unfolding way_used
  way_used_alike x y u = way_alike {before = along_used u} (λ s z k t. refl) x y

  -- and the same two routes
  routes_used_alike : (x y : ℕ) (u : Used) → routes_used h x y u ≡ routes_used g x y u
  unfolding routes_used
  routes_used_alike x y u = rw (way_used_alike x y u, way_used_alike x y (way_taken u x (way_used g x y u)))

  -- networks alike have the same two routes
  pub alike_routes : (x y : ℕ) → two_routes h x y ≡ two_routes g x y
  unfolding two_routes
  alike_routes x y =
      let used = with_one_more g x y unused in
      rw (
        way_more_alike x y unused,
        with_one_more_alike x y unused,
        way_more_alike x y used,
        routes_used_alike x y (way_taken used x (way_more g x y used)),
      )
