-- What a search has found, at every moment of it: vertices in the order in which they were reached, none twice, and a link for each but
-- the goal.
use mathlib.Core.Bool.{Bool, true, false, not, cond, ◌&&◌, ◌||◌}
use mathlib.Core.List.{List, [], ◌∷◌, ◌++◌}
use mathlib.Core.Logic.{⊎_elim}
use mathlib.Core.Path.{◌≡◌, refl, sym, ◌∙◌, subst}
use Prim.Native.Nat.{ℕ, zero, suc, ◌≤◌, ◌<◌}
use native.Mathlib.Nat.{le_refl}
use native.Mathlib.Omega.{arith}
use lib.Dec.{eqb, ltb}
use lib.ListN.{length, get_or, length-append, get_or-append}
use Rattle.graph.specs.Lists.{all_in, is_in, distinct}
use Rattle.graph.specs.Network.{Network, Proper, edge, edge_count, touches, other_end}
use Rattle.graph.proofs.Truth.{not_of_false, or_right, and_both, eqb_swap, ne_eqb, lt-ltb, ltb_lt}
use Rattle.graph.proofs.Below.{below_or_last}
use Rattle.graph.proofs.Members.{is_in_head, is_in_tail, is_in_last, distinct_last, all_in-append, each_in}
use Rattle.graph.proofs.Ends.{touched_known, other_end-touches}
use Rattle.graph.proofs.Lengths.{distinct-length}
use Rattle.ways.specs.Search.{Allowed, Found, at_goal, linked, look, look_below, turn, turns, step_of, Fits, Orderly, starts, goes_further}

-- links of steps that may be taken were added, one after another
pub data Grown (g : Network) (allowed : Allowed) (f : Found) : Found → Type 0 where
  same : Grown g allowed f f
  more : {h : Found} (y s : ℕ) → Fits g y s h → allowed s (other_end (edge g s) y) ≡ true → Grown g allowed f h
      → Grown g allowed f (linked g y s h)

-- the vertices reached with one link more
pub reached_linked : (g : Network) (y s : ℕ) (f : Found) (x : ℕ)
    → is_in x (linked g y s f).order ≡ (eqb x (other_end (edge g s) y) || is_in x f.order)
unfolding linked
reached_linked g y s f x = is_in_last x (other_end (edge g s) y) f.order

-- those that were reached stay so
pub reached_before : (g : Network) (y s : ℕ) (f : Found) (x : ℕ) → is_in x f.order ≡ true → is_in x (linked g y s f).order ≡ true
reached_before g y s f x e = reached_linked g y s f x ∙ or_right (eqb x (other_end (edge g s) y)) e

-- a test that all pass, and one more
all_in_last : (p : ℕ → Bool) (x : ℕ) (l : List ℕ) → p x ≡ true → all_in p l ≡ true → all_in p (l ++ x ∷ []) ≡ true
unfolding all_in
all_in_last p x l e w = all_in-append p l (x ∷ []) w (and_both e refl)

-- what stands at a place of a list is in it
pub at_place_in : (l : List ℕ) (i : ℕ) → i < length l → is_in (get_or l i 0) l ≡ true
at_place_in [] i k = absurd (omega arith)
at_place_in (y ∷ l) zero k = is_in_head y l
at_place_in (y ∷ l) (suc i) k = is_in_tail (get_or l i 0) y l (at_place_in l i (omega arith))

module _ {g : Network} {b : ℕ} where
  -- no vertex stands in the order twice
  pub order_distinct : {f : Found} → Orderly g b f → distinct f.order ≡ true
  unfolding at_goal linked is_in distinct
  order_distinct starts = refl
  order_distinct (goes_further {f} y s w o) = distinct_last (other_end (edge g s) y) f.order w.new (order_distinct o)

  -- the goal is reached
  pub goal_in_order : {f : Found} → Orderly g b f → is_in b f.order ≡ true
  unfolding at_goal
  goal_in_order starts = is_in_head b []
  goal_in_order (goes_further {f} y s w o) = reached_before g y s f b (goal_in_order o)

  -- a vertex is in the order exactly if it is the goal or has a step
  pub in_order_exactly : {f : Found} → Orderly g b f → (x : ℕ) → is_in x f.order ≡ (eqb x b || not (eqb (step_of f.links x) 0))
  unfolding at_goal linked is_in step_of
  in_order_exactly starts x = refl
  in_order_exactly (goes_further {f} y s w o) x = is_in_last x (other_end (edge g s) y) f.order
      ∙ rw (eqb_swap x (other_end (edge g s) y), in_order_exactly o x) (go (eqb (other_end (edge g s) y) x) (eqb x b) (step_of f.links x))
    where
      go : (c d : Bool) (k : ℕ) → (c || (d || not (eqb k 0))) ≡ (d || not (eqb (cond c (suc s) k) 0))
      go true d k = sym (or_right d (not_of_false (ne_eqb (suc s) 0 (λ e. omega arith))))
      go false d k = refl

  module _ (proper : Proper g) (known : b < g.vertices) where
    -- only vertices of the network are in the order
    order_known : {f : Found} → Orderly g b f → all_in (λ x. ltb x g.vertices) f.order ≡ true
    unfolding at_goal linked all_in
    order_known starts = all_in_last (λ x. ltb x g.vertices) b [] (lt-ltb b g.vertices known) refl
    order_known (goes_further {f} y s w o) =
        all_in_last (λ x. ltb x g.vertices) (other_end (edge g s) y) f.order
        (lt-ltb (other_end (edge g s) y) g.vertices
        (touched_known g proper s (other_end (edge g s) y) w.known (other_end-touches (edge g s) y))) (order_known o)

    -- each of them is one
    pub in_order_known : {f : Found} → Orderly g b f → (x : ℕ) → is_in x f.order ≡ true → x < g.vertices
    in_order_known {f} o x e = ltb_lt x g.vertices (each_in (λ x. ltb x g.vertices) f.order (order_known o) x e)

    -- no more vertices are reached than there are
    pub order_fits : {f : Found} → Orderly g b f → length f.order ≤ g.vertices
    order_fits {f} o = distinct-length g.vertices f.order (order_distinct o) (order_known o)

    -- and fewer where one is not reached
    pub order_fits_more : {f : Found} → Orderly g b f → (x : ℕ) → x < g.vertices → is_in x f.order ≡ false
        → length f.order < g.vertices
    order_fits_more {f} o x k e =
        omega (
          arith,
          length-append f.order (x ∷ []),
          distinct-length g.vertices (f.order ++ x ∷ []) (distinct_last x f.order e (order_distinct o))
              (all_in_last (λ x. ltb x g.vertices) x f.order (lt-ltb x g.vertices k) (order_known o)),
        )

module _ {g : Network} {allowed : Allowed} where
  -- what was reached stays reached
  pub grown_reached : {f h : Found} → Grown g allowed f h → (x : ℕ) → is_in x f.order ≡ true → is_in x h.order ≡ true
  grown_reached same x e = e
  grown_reached (more {h} y s w a q) x e = reached_before g y s h x (grown_reached q x e)

  -- and in its place
  pub grown_place : {f h : Found} → Grown g allowed f h → (i : ℕ) → i < length f.order
      → (i < length h.order) × (get_or h.order i 0 ≡ get_or f.order i 0)
  unfolding linked
  grown_place same i k = (k, refl)
  grown_place (more {h} y s w a q) i k =
      let (l, e) = grown_place q i k in (
        omega (arith, l, length-append h.order (other_end (edge g s) y ∷ [])),
        get_or-append h.order (other_end (edge g s) y ∷ []) 0 i l ∙ e,
      )

  -- what has grown goes on growing
  pub grown_trans : {f h k : Found} → Grown g allowed f h → Grown g allowed h k → Grown g allowed f k
  grown_trans p same = p
  grown_trans p (more y s w a q) = more y s w a (grown_trans p q)

  -- what was orderly stays so
  pub grown_orderly : {b : ℕ} {f h : Found} → Orderly g b f → Grown g allowed f h → Orderly g b h
  grown_orderly o same = o
  grown_orderly o (more y s w a q) = goes_further y s w (grown_orderly o q)

module _ (g : Network) (allowed : Allowed) where
  -- a look adds a link that fits, or nothing
  pub look_grows : (y s : ℕ) (f : Found) → s < edge_count g → is_in y f.order ≡ true → Grown g allowed f (look g allowed y s f)
  unfolding look linked
  look_grows y s f k r = go (touches (edge g s) y) refl (is_in x f.order) refl (allowed s x) refl
    where
      x : ℕ
      x = other_end (edge g s) y

      go : (t : Bool) → touches (edge g s) y ≡ t → (i : Bool) → is_in x f.order ≡ i → (a : Bool) → allowed s x ≡ a
          → Grown g allowed f (cond (t && not i && a) (linked g y s f) f)
      go true t false i true a = more y s (record { known = k; at_end = t; reached = r; new = i }) a same
      go true t false i false a = same
      go true t true i a b = same
      go false t i j a b = same

  -- so do looks along many edges
  pub look_below_grows : (y n : ℕ) (f : Found) → n ≤ edge_count g → is_in y f.order ≡ true
      → Grown g allowed f (look_below g allowed y n f)
  unfolding look_below
  look_below_grows y zero f k r = same
  look_below_grows y (suc n) f k r =
      let q = look_grows y n f k r in
      grown_trans q (look_below_grows y n (look g allowed y n f) (omega arith) (grown_reached q y r))

  -- a turn only adds
  pub turn_grows : (i : ℕ) (f : Found) → Grown g allowed f (turn g allowed i f)
  unfolding turn
  turn_grows i f = go (ltb i (length f.order)) refl
    where
      go : (t : Bool) → ltb i (length f.order) ≡ t
          → Grown g allowed f (cond t (look_below g allowed (get_or f.order i 0) (edge_count g) f) f)
      go true e = look_below_grows (get_or f.order i 0) (edge_count g) f (le_refl _)
          (at_place_in f.order i (ltb_lt i (length f.order) e))
      go false e = same

  -- so do turns
  pub turns_grow : (n : ℕ) (f : Found) → Grown g allowed f (turns g allowed n f)
  unfolding turns
  turns_grow zero f = same
  turns_grow (suc n) f = grown_trans (turns_grow n f) (turn_grows n (turns g allowed n f))

  -- and the turns after some
  pub later_turns_grow : (i n : ℕ) (f : Found) → i ≤ n → Grown g allowed (turns g allowed i f) (turns g allowed n f)
  unfolding turns
  later_turns_grow i zero f h =
      let none : 0 ≡ i = omega arith in
      subst (λ k. Grown g allowed (turns g allowed k f) f) none same
  later_turns_grow i (suc n) f h = ⊎_elim
      (λ l. grown_trans (later_turns_grow i n f (omega arith)) (turn_grows n (turns g allowed n f)))
      (λ e. subst (λ k. Grown g allowed (turns g allowed k f) (turns g allowed (suc n) f)) (sym e) same)
      (below_or_last (suc n) i (omega arith))

  -- turns leave a search orderly
  pub turns_orderly : {b : ℕ} (n : ℕ) {f : Found} → Orderly g b f → Orderly g b (turns g allowed n f)
  turns_orderly n {f} o = grown_orderly o (turns_grow n f)
