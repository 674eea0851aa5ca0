-- How a way is written down edge by edge, from the steps that a search has left.
use mathlib.Core.Bool.{true}
use mathlib.Core.List.{List, [], ◌∷◌, ◌++◌, append_assoc, append-nil}
use mathlib.Core.Path.{◌≡◌, refl, sym, ◌∙◌, ap, subst}
use Prim.Native.Nat.{ℕ, suc, ◌+◌, ◌-◌, ◌≤◌, ◌<◌}
use native.Mathlib.Numerals.{add-one}
use native.Mathlib.Omega.{arith}
use lib.Dec.{eqb}
use lib.ListN.{length, length-append, length-map}
use Rattle.graph.specs.Below.{tabulate, length_tabulate}
use Rattle.graph.specs.Lists.{is_in}
use Rattle.graph.specs.Network.{Network, edge, edge_count, other_end}
use Rattle.graph.proofs.Truth.{false_of_not_true, eqb_ne, ne_eqb, lt-ltb}
use Rattle.graph.proofs.Ends.{touched_known}
use Rattle.naming.proofs.Listed.{tabulate_same}
use Rattle.ways.specs.Search.{Found, way_by, step_of, Orderly}
use Rattle.ways.specs.TwoRoutes.{edges_of}
use Rattle.ways.proofs.SearchOrder.{in_order_exactly}
use Rattle.ways.proofs.SearchWay.{way-at_goal, NextStep, way_goes_on}
use Rattle.numbers.specs.declared.Shape.{Shape}
use Rattle.forest.specs.Promise.{network_in, vertices_held, vertices_fit, proper_held, scratch_words, vertex_scratch, VertexScratchStored}
use Rattle.routes.specs.Inside.Frame.{next_column, Only, column_only, Written}
use Rattle.routes.specs.Inside.Lists.{far_end}
use Rattle.routes.specs.Inside.Searches.{next_word, NextIs}
use Rattle.routes.proofs.Frames.{same-network, only_vertex}

-- the first i edges of the way from a are written down, and the way goes on from vertex x
pub record WrittenTo (shape : Shape) (column a : ℕ) (f : Found) (t : List ℕ) (x i : ℕ) : Type 0 where
  pub reached : is_in x f.order ≡ true
  pub split : edges_of (way_by f.links a) ≡ tabulate i (vertex_scratch shape t column) ++ edges_of (way_by f.links x)

module _ {shape : Shape} {column a : ℕ} {f : Found} where
  -- at first none is
  pub write_begins : (t : List ℕ) → is_in a f.order ≡ true → WrittenTo shape column a f t a 0
  unfolding tabulate
  write_begins t e = record { reached = e; split = refl }

  module _ {g : Network} {b : ℕ} {t : List ℕ} {x i : ℕ} (orderly : Orderly g b f) (w : WrittenTo shape column a f t x i) where
    -- at the goal all of it is
    pub write_ends : x ≡ b → Written shape column i t (edges_of (way_by f.links a))
    unfolding edges_of
    write_ends q = sym (w.split ∙ rw (q, way-at_goal orderly) (append-nil (tabulate i (vertex_scratch shape t column))))

    -- there are no more of them than the way has
    pub written_fits : i ≤ length (way_by f.links a)
    unfolding edges_of
    written_fits =
        let front = tabulate i (vertex_scratch shape t column) in
        let later = edges_of (way_by f.links x) in
        omega (
          arith,
          length-map (way_by f.links a) (λ p. p.along),
          ap length w.split,
          length-append front later,
          length_tabulate i (vertex_scratch shape t column),
        )

    module _ (old : List ℕ) (is : network_in shape old ≡ g) (next : NextIs shape b f old) (above : 1 < column)
        (only : Only shape (column_only column) old t) (n : x ≡ b → ⊥) where
      some_step : step_of f.links x ≡ 0 → ⊥
      some_step = eqb_ne (step_of f.links x) 0
          (false_of_not_true (eqb (step_of f.links x) 0) (rw (ne_eqb x b n) at (sym (in_order_exactly orderly x) ∙ w.reached)))

      step_on : NextStep g f x (step_of f.links x - 1)
      step_on = way_goes_on orderly x (step_of f.links x - 1) (omega (arith, some_step))

      -- the word of a vertex that is not the goal is that of its step
      step_word : vertex_scratch shape t next_column x ≡ step_of f.links x
      unfolding column_only next_word
      step_word =
          let inside = rw (← is, vertices_held shape old) at
          (touched_known g (rw (← same-network only ∙ is) (proper_held shape t only.holds))
          (step_of f.links x - 1) x step_on.known step_on.at_end) in
          only.columns next_column x (omega arith) (ne_eqb next_column column (λ q. omega (arith, above)))
          (omega (arith, inside, vertices_fit shape t only.holds))
          ∙ next x inside ∙ rw (ne_eqb x b n)

      -- there is one
      pub step_stands : vertex_scratch shape t next_column x ≡ 0 → ⊥
      step_stands e = some_step (sym step_word ∙ e)

      next_step : (s : ℕ) → suc s ≡ vertex_scratch shape t next_column x → NextStep g f x s
      next_step s e = subst (NextStep g f x) (omega (arith, e, step_word)) step_on

    -- it is stored, and the way goes on from its other end
    pub write_goes_on : (old new : List ℕ) (s : ℕ) → network_in shape old ≡ g → NextIs shape b f old → 1 < column → column < scratch_words
        → i < shape.vertices → Only shape (column_only column) old t → (x ≡ b → ⊥) → suc s ≡ vertex_scratch shape t next_column x
        → VertexScratchStored shape column i s t new → (y : ℕ) → y ≡ far_end (network_in shape new) s x
        → WrittenTo shape column a f new y (i + 1)
    unfolding edges_of tabulate far_end
    write_goes_on old new s is next above fits inside only n e v y q =
        record {
          reached = rw to on.reached;
          split = rw (add-one i, v.stored, kept, to)
              (w.split ∙ ap (λ ps. front ++ edges_of ps) on.goes_on
              ∙ sym (append_assoc front (s ∷ []) (edges_of (way_by f.links (other_end (edge g s) x)))));
        }
      where
        front : List ℕ
        front = tabulate i (vertex_scratch shape t column)

        on : NextStep g f x s
        on = next_step old is next above only n s e

        is_then : network_in shape new ≡ g
        is_then = same-network (only_vertex v) ∙ same-network only ∙ is

        to : y ≡ other_end (edge g s) x
        to = q ∙ rw (is_then, lt-ltb s (edge_count g) on.known)

        kept : tabulate i (vertex_scratch shape new column) ≡ front
        kept = tabulate_same i (vertex_scratch shape new column) (vertex_scratch shape t column)
            (λ j h. v.other_words column j fits (omega (arith, vertices_fit shape new v.holds)) (λ r z. omega (arith, z)))
