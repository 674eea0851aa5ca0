-- A search under way: what its words tell, and what becomes of it when an edge is seen from a vertex.
use mathlib.Core.Bool.{Bool, true, false, not, cond, ◌&&◌, ◌||◌, and-false}
use mathlib.Core.List.{List}
use mathlib.Core.Path.{◌≡◌, refl, sym, ◌∙◌, ap, subst}
use Prim.Native.Nat.{ℕ, suc, ◌%◌, ◌<◌}
use native.Mathlib.Omega.{arith}
use lib.Dec.{eqb}
use lib.ListN.{length}
use Rattle.graph.specs.Below.{tabulate, length_tabulate}
use Rattle.graph.specs.Lists.{is_in}
use Rattle.graph.specs.Network.{Network, edge, edge_count, touches, other_end, Proper}
use Rattle.graph.proofs.Truth.{not_both, not_of_false, not_of_true, eqb_eq, eqb_same, eqb_swap, eq-eqb, ne_eqb}
use Rattle.graph.proofs.Ends.{touched_known, other_end-touches}
use Rattle.naming.proofs.Listed.{tabulate_same}
use Rattle.ways.specs.Search.{Allowed, Found, linked, look, step_of, Fits, Orderly, goes_further}
use Rattle.ways.specs.Used.{Used}
use Rattle.ways.proofs.SearchOrder.{goal_in_order, in_order_exactly, order_fits_more}
use Rattle.numbers.specs.declared.Shape.{Shape}
use Rattle.forest.specs.Promise.{Holds, network_in, vertices_held, edges_held, proper_held, vertex_scratch, edge_scratch}
use Rattle.routes.specs.declared.search.Allowance.{Allowance}
use Rattle.routes.specs.Inside.Frame.{next_column, order_column, Only, search_only, Written}
use Rattle.routes.specs.declared.uses.Use.{Use}
use Rattle.routes.specs.Inside.Lists.{bits_of, Listed}
use Rattle.routes.specs.Inside.Searches.{may_step, allowed_by, next_word, NextIs, Searching, Looked, Reached}
use Rattle.routes.proofs.Frames.{edges_are, only_refl, same-network, listed_only}
use Rattle.routes.proofs.UseBits.{same_bits}
use Rattle.routes.proofs.SearchesAllowed.{may_step_allowed}

-- a search leaves the lists and uses as they are
pub search_keeps_lists : {shape : Shape} {old new : List ℕ} → Only shape search_only old new → (g : Network) (u : Used)
    → network_in shape old ≡ g → Listed shape g u old → Listed shape g u new
unfolding search_only
search_keeps_lists only g u is = listed_only only refl refl g is u

-- a look along an edge whose other end is reached adds nothing
look_skips : (g : Network) (allowed : Allowed) (y s : ℕ) (f : Found) → is_in (other_end (edge g s) y) f.order ≡ true
    → look g allowed y s f ≡ f
unfolding look
look_skips g allowed y s f e = rw (e, and-false (touches (edge g s) y))

-- nor does one where the step may not be taken
look_bars : (g : Network) (allowed : Allowed) (y s : ℕ) (f : Found) → allowed s (other_end (edge g s) y) ≡ false
    → look g allowed y s f ≡ f
unfolding look
look_bars g allowed y s f e =
    rw (e, and-false (touches (edge g s) y && not (is_in (other_end (edge g s) y) f.order)))

-- else the look adds a link
look-links : (g : Network) (allowed : Allowed) (y s : ℕ) (f : Found) → touches (edge g s) y ≡ true
    → is_in (other_end (edge g s) y) f.order ≡ false → allowed s (other_end (edge g s) y) ≡ true
    → look g allowed y s f ≡ linked g y s f
unfolding look
look-links g allowed y s f t i a = rw (t, i, a)

-- the word of a vertex's step is 0 exactly if it is not reached
next_reached : (g : Network) (b : ℕ) {f : Found} → Orderly g b f → (x : ℕ) → is_in x f.order ≡ not (eqb (next_word b f x) 0)
unfolding next_word
next_reached g b {f} o x = in_order_exactly o x ∙ go (eqb x b) (step_of f.links x)
  where
    go : (c : Bool) (k : ℕ) → (c || not (eqb k 0)) ≡ not (eqb (cond c 1 k) 0)
    go true k = refl
    go false k = refl

-- the words of vertices' steps with one link more
next_linked : (g : Network) (b y s : ℕ) (f : Found) (z : ℕ) → eqb b (other_end (edge g s) y) ≡ false
    → next_word b (linked g y s f) z ≡ cond (eqb z (other_end (edge g s) y)) (suc s) (next_word b f z)
unfolding next_word linked step_of
next_linked g b y s f z d = rw (eqb_swap x z) (go (eqb z x) refl (step_of f.links z))
  where
    x : ℕ
    x = other_end (edge g s) y

    go : (c : Bool) → eqb z x ≡ c → (k : ℕ) → cond (eqb z b) 1 (cond c (suc s) k) ≡ cond c (suc s) (cond (eqb z b) 1 k)
    go true e k = rw (eqb_eq z x e, eqb_swap x b, d)
    go false e k = refl

module _ {shape : Shape} {g : Network} {u : Used} {b : ℕ} {f : Found} {t : List ℕ} {found : ℕ} (w : Searching shape g u b f t found) where
  -- as many vertices are reached as were counted
  pub found_is : length f.order ≡ found
  found_is = ap length (sym w.order_is) ∙ length_tabulate found (vertex_scratch shape t order_column)

  -- the network is proper, with as many vertices as the shape says
  pub vertices_are : g.vertices ≡ shape.vertices
  vertices_are = ap (λ h. h.vertices) (sym w.network_is) ∙ vertices_held shape t

  pub proper_is : Holds shape t → Proper g
  proper_is holds = subst Proper w.network_is (proper_held shape t holds)

  -- a vertex's word tells whether it is reached
  pub word_reached : (x : ℕ) → x < shape.vertices → is_in x f.order ≡ not (eqb (vertex_scratch shape t next_column x) 0)
  word_reached x h = next_reached g b w.orderly x ∙ ap (λ n. not (eqb n 0)) (sym (w.next_is x h))

  module _ {new : List ℕ} {found' : ℕ} (holds : Holds shape t) (y s : ℕ) (fits : Fits g y s f)
      (r : Reached shape (other_end (edge g s) y) s found t new found') where
    abbrev x : ℕ
    x = other_end (edge g s) y

    -- a vertex that was not reached has a place in the order
    one_fits : found < shape.vertices
    one_fits =
        omega (
          arith,
          found_is,
          vertices_are,
          order_fits_more (proper_is holds) w.goal_known w.orderly x
              (touched_known g (proper_is holds) s x fits.known (other_end-touches (edge g s) y)) fits.new,
        )

    -- with it the words are those of one link more
    linked_next : NextIs shape b (linked g y s f) new
    linked_next z h =
        r.next_is one_fits z h
        ∙ ap (λ n. cond (eqb z x) (suc s) n) (w.next_is z h)
        ∙ sym (next_linked g b y s f z (ne_eqb b x (λ e. not_both (rw e at (goal_in_order w.orderly)) fits.new)))

    before_last : tabulate found (vertex_scratch shape new order_column) ≡ f.order
    before_last =
        tabulate_same found (vertex_scratch shape new order_column) (vertex_scratch shape t order_column)
        (λ i h. r.order_is one_fits i (omega (arith, one_fits, h)) ∙ rw (ne_eqb i found (λ e. omega arith)))
        ∙ w.order_is

    at_last : vertex_scratch shape new order_column found ≡ x
    at_last = r.order_is one_fits found one_fits ∙ rw (eqb_same found)

    linked_order : Written shape order_column found' new (linked g y s f).order
    unfolding linked tabulate
    linked_order = rw (r.one_more_lem one_fits, before_last, at_last)

    -- and the search goes on
    linked_searching : Searching shape g u b (linked g y s f) new found'
    linked_searching =
        record {
          network_is = same-network r.only ∙ w.network_is;
          listed = search_keeps_lists r.only g u w.network_is w.listed;
          usable = w.usable;
          goal_known = w.goal_known;
          orderly = goes_further y s fits w.orderly;
          next_is = linked_next;
          order_is = linked_order;
        }

module _ (shape : Shape) (t : List ℕ) (holds : Holds shape t) (y s x left right : ℕ) (known : s < shape.edges)
    (ends_are : (left ≡ (edge (network_in shape t) s).left) × (right ≡ (edge (network_in shape t) s).right))
    (other_is : x ≡ cond (eqb left y) right left) where
  -- the end of an edge that is not y, by its two ends
  by_ends : x ≡ other_end (edge (network_in shape t) s) y
  unfolding other_end
  by_ends = other_is ∙ rw (ends_are.0, ends_are.1)

  -- it is a vertex
  pub other_known : x < shape.vertices
  other_known =
      omega (
        arith,
        by_ends,
        vertices_held shape t,
        touched_known (network_in shape t) (proper_held shape t holds) s (other_end (edge (network_in shape t) s) y)
            (omega (arith, known, edges_held shape t)) (other_end-touches (edge (network_in shape t) s) y),
      )

  module _ {g : Network} {u : Used} {b : ℕ} {f : Found} {found : ℕ} (w : Searching shape g u b f t found) where
    -- in the network that is searched it is the same
    other_there : x ≡ other_end (edge g s) y
    other_there = by_ends ∙ ap (λ h. other_end (edge h s) y) w.network_is

    -- its word tells whether it is reached
    other_reached : is_in (other_end (edge g s) y) f.order ≡ not (eqb (vertex_scratch shape t next_column x) 0)
    other_reached = rw (← other_there) (word_reached w x other_known)

    -- and the edge's two bits whether the step from it may be taken
    other_allowed : (allowance : Allowance) (used : Use) → bits_of used ≡ edge_scratch shape t s % 4
        → allowed_by g u allowance s (other_end (edge g s) y) ≡ may_step allowance used (eqb left x)
    other_allowed allowance used used_is =
        let k : s < edge_count g = omega (arith, known, edges_are shape g t w.network_is) in
        let left_is : (edge g s).left ≡ left = ap (λ h. (edge h s).left) (sym w.network_is) ∙ sym ends_are.0 in
        sym (may_step_allowed g (proper_is w holds) u w.usable s k allowance (other_end (edge g s) y) (other_end-touches (edge g s) y))
        ∙ rw (← other_there, left_is, same_bits (sym (w.listed.uses s k) ∙ sym used_is))

  module _ (allowance : Allowance) (found : ℕ) where
    -- an edge is seen along which the step from its other end may not be taken
    pub look_barred : (used : Use) → may_step allowance used (eqb left x) ≡ false → bits_of used ≡ edge_scratch shape t s % 4
        → Looked shape allowance y s found t t found
    look_barred used barred used_is =
        record {
          only = only_refl shape search_only t holds;
          goes = λ g u b f w ready.
              subst (λ h. Searching shape g u b h t found)
              (sym (look_bars g (allowed_by g u allowance) y s f (other_allowed w allowance used used_is ∙ barred))) w;
        }

    module _ (word : ℕ) (word_is : word ≡ vertex_scratch shape t next_column x) where
      -- or whose other end is reached
      pub look_reached : (word ≡ 0 → ⊥) → Looked shape allowance y s found t t found
      look_reached ne =
          record {
            only = only_refl shape search_only t holds;
            goes = λ g u b f w ready.
                subst (λ h. Searching shape g u b h t found)
                (sym (look_skips g (allowed_by g u allowance) y s f
                (other_reached w ∙ not_of_false (ne_eqb (vertex_scratch shape t next_column x) 0 (λ e. ne (word_is ∙ e)))))) w;
          }

      -- or is reached now
      pub look-linked : (used : Use) {new : List ℕ} {found' : ℕ} → word ≡ 0 → may_step allowance used (eqb left x) ≡ true
          → bits_of used ≡ edge_scratch shape t s % 4 → Reached shape x s found t new found' → Looked shape allowance y s found t new found'
      look-linked used {new} {found'} e may used_is r =
          record {
            only = r.only;
            goes = λ g u b f w ready.
                let new_there = other_reached w ∙ not_of_true (eq-eqb (vertex_scratch shape t next_column x) 0 (sym word_is ∙ e)) in
                subst (λ h. Searching shape g u b h new found')
                (sym (look-links g (allowed_by g u allowance) y s f ready.1 new_there (other_allowed w allowance used used_is ∙ may)))
                (linked_searching w holds y s
                (record {
                  known = omega (arith, known, edges_are shape g t w.network_is);
                  at_end = ready.1;
                  reached = ready.0;
                  new = new_there;
                })
                (rw (other_there w) at r));
          }
