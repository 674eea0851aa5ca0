-- What a search reaches: the goal, vertices of the network alone, and every vertex from which a step that may be taken leads to one
-- that it reaches.
use mathlib.Core.Bool.{Bool, true, false, not, cond, ◌&&◌, false≢true}
use mathlib.Core.List.{List, [], ◌∷◌}
use mathlib.Core.Logic.{⊎_elim}
use mathlib.Core.Path.{◌≡◌, refl, sym, ◌∙◌, subst}
use Prim.Native.Nat.{ℕ, zero, suc, ◌≤◌, ◌<◌}
use native.Mathlib.Nat.{le_refl}
use native.Mathlib.Omega.{arith}
use lib.Dec.{ltb}
use lib.ListN.{length, get_or}
use Rattle.graph.specs.Lists.{is_in}
use Rattle.graph.specs.Network.{Network, Proper, edge, edge_count, touches, other_end}
use Rattle.graph.proofs.Truth.{or_left, eqb_same, ltb_lt, ltb_ge}
use Rattle.graph.proofs.Below.{below_or_last}
use Rattle.graph.proofs.Members.{is_in_cases}
use Rattle.graph.proofs.Places.{At}
use Rattle.ways.specs.Search.{Allowed, Found, at_goal, linked, look, look_below, turn, turns, search, Orderly, starts}
use Rattle.ways.proofs.SearchOrder.{reached_linked, in_order_known, order_fits, goal_in_order, at_place_in}
use Rattle.ways.proofs.SearchOrder.{Grown, grown_reached, grown_place, look_grows, look_below_grows, turns_orderly}

-- every member of a list stands at a place of it
in_at_place : (x : ℕ) (l : List ℕ) → is_in x l ≡ true → (i : ℕ) × At l i x
unfolding is_in
in_at_place x [] e = absurd (false≢true e)
in_at_place x (y ∷ l) e = ⊎_elim
    (λ q. (0, record { known = omega arith; is = sym q }))
    (λ k. let (i, a) = in_at_place x l k in (suc i, record { known = omega (arith, a.known); is = a.is }))
    (is_in_cases x y l e)

module _ (g : Network) (allowed : Allowed) where
  -- vertex y is done: every step into it that may be taken comes from a vertex that is reached
  abbrev Done : Found → ℕ → Type 0
  Done f y =
      (s : ℕ) → s < edge_count g → touches (edge g s) y ≡ true → allowed s (other_end (edge g s) y) ≡ true
      → is_in (other_end (edge g s) y) f.order ≡ true

  -- what is done stays so
  grown_done : {f h : Found} → Grown g allowed f h → (y : ℕ) → Done f y → Done h y
  grown_done q y d s k t a = grown_reached q (other_end (edge g s) y) (d s k t a)

  -- a look along an edge reaches its other end, where that step may be taken
  look_reaches : (y s : ℕ) (f : Found) → touches (edge g s) y ≡ true → allowed s (other_end (edge g s) y) ≡ true
      → is_in (other_end (edge g s) y) (look g allowed y s f).order ≡ true
  unfolding look linked
  look_reaches y s f t a = rw (t, a) (go (is_in x f.order) refl)
    where
      x : ℕ
      x = other_end (edge g s) y

      go : (i : Bool) → is_in x f.order ≡ i → is_in x (cond (not i && true) (linked g y s f) f).order ≡ true
      go true i = i
      go false i = reached_linked g y s f x ∙ or_left (eqb_same x) (is_in x f.order)

  -- looks along all edges below n
  look_below_reaches : (y n : ℕ) (f : Found) → n ≤ edge_count g → is_in y f.order ≡ true
      → (s : ℕ) → s < n → touches (edge g s) y ≡ true → allowed s (other_end (edge g s) y) ≡ true
      → is_in (other_end (edge g s) y) (look_below g allowed y n f).order ≡ true
  unfolding look_below
  look_below_reaches y zero f k r s l t a = absurd (omega arith)
  look_below_reaches y (suc n) f k r s l t a = ⊎_elim
      (λ m. look_below_reaches y n (look g allowed y n f) (omega arith) stays s m t a)
      (λ e. grown_reached (look_below_grows g allowed y n (look g allowed y n f) (omega arith) stays) (other_end (edge g s) y)
      (last e))
      (below_or_last n s l)
    where
      stays : is_in y (look g allowed y n f).order ≡ true
      stays = grown_reached (look_grows g allowed y n f k r) y r

      last : s ≡ n → is_in (other_end (edge g s) y) (look g allowed y n f).order ≡ true
      last e = subst (λ m. is_in (other_end (edge g s) y) (look g allowed y m f).order ≡ true) e (look_reaches y s f t a)

  -- the vertices at the first n places are done
  abbrev FirstDone : Found → ℕ → Type 0
  FirstDone f n = (i : ℕ) → i < n → i < length f.order → Done f (get_or f.order i 0)

  -- a turn does one more
  turn_done : (n : ℕ) (f : Found) → FirstDone f n → FirstDone (turn g allowed n f) (suc n)
  unfolding turn
  turn_done n f d = go (ltb n (length f.order)) refl
    where
      y : ℕ
      y = get_or f.order n 0

      h : Found
      h = look_below g allowed y (edge_count g) f

      go : (t : Bool) → ltb n (length f.order) ≡ t → FirstDone (cond t h f) (suc n)
      go true e i k l = rw (grown_place grown i within).1 (⊎_elim before last (below_or_last n i k))
        where
          here : n < length f.order
          here = ltb_lt n (length f.order) e

          within : i < length f.order
          within = omega (arith, here, k)

          reached : is_in y f.order ≡ true
          reached = at_place_in f.order n here

          grown : Grown g allowed f h
          grown = look_below_grows g allowed y (edge_count g) f (le_refl _) reached

          before : i < n → Done h (get_or f.order i 0)
          before m = grown_done grown (get_or f.order i 0) (d i m within)

          last : i ≡ n → Done h (get_or f.order i 0)
          last q = rw q (look_below_reaches y (edge_count g) f (le_refl _) reached)
      go false e i k l = d i (omega (arith, ltb_ge n (length f.order) e)) l

  -- so n turns do the first n
  turns_done : (n : ℕ) (f : Found) → FirstDone (turns g allowed n f) n
  unfolding turns
  turns_done zero f = λ i k l. absurd (omega arith)
  turns_done (suc n) f = turn_done n (turns g allowed n f) (turns_done n f)

-- what a search finds is orderly
pub search_orderly : (g : Network) (allowed : Allowed) (b : ℕ) → Orderly g b (search g allowed b)
unfolding search
search_orderly g allowed b = turns_orderly g allowed g.vertices starts

module _ (g : Network) (proper : Proper g) (allowed : Allowed) (b : ℕ) (known : b < g.vertices) where
  -- the goal is reached
  pub goal_reached : is_in b (search g allowed b).order ≡ true
  goal_reached = goal_in_order (search_orderly g allowed b)

  -- only vertices of the network are reached
  pub reached_known : (x : ℕ) → is_in x (search g allowed b).order ≡ true → x < g.vertices
  reached_known = in_order_known proper known (search_orderly g allowed b)

  -- from a vertex that is not reached no step that may be taken leads to one that is
  pub reached_closed : (y s : ℕ) → is_in y (search g allowed b).order ≡ true → s < edge_count g → touches (edge g s) y ≡ true
      → allowed s (other_end (edge g s) y) ≡ true → is_in (other_end (edge g s) y) (search g allowed b).order ≡ true
  unfolding search
  reached_closed y s e =
      let o = search_orderly g allowed b in
      let (i, a) = in_at_place y (search g allowed b).order e in
      subst (Done g allowed (search g allowed b)) a.is
      (turns_done g allowed g.vertices (at_goal b) i (omega (arith, a.known, order_fits proper known o)) a.known) s
