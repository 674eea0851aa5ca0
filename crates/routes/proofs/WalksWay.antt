-- How a way that is written down is taken, step by step.
use mathlib.Core.List.{List, [], ◌∷◌, nil≢cons, cons≢nil, head-eq_of_cons-eq, tail-eq_of_cons-eq}
use mathlib.Core.Path.{◌≡◌, refl, sym, ◌∙◌, ap}
use Prim.Native.Nat.{ℕ, suc, ◌+◌, ◌≤◌, ◌<◌}
use native.Mathlib.Numerals.{add-one}
use native.Mathlib.Omega.{arith}
use lib.ListN.{length, drop, get_or, length-map, drop_of_length-le}
use lib.Seq.{drop-cons}
use Rattle.graph.specs.Below.{length_tabulate}
use Rattle.graph.specs.Network.{Network, edge_count}
use Rattle.graph.specs.Cycle.{Step}
use Rattle.graph.proofs.Truth.{lt-ltb}
use Rattle.naming.proofs.Listed.{get_or-tabulate}
use Rattle.ways.specs.Used.{Used, step_taken, way_taken, Usable, WayFits, goes_further}
use Rattle.ways.specs.TwoRoutes.{edges_of}
use Rattle.ways.proofs.UsedSteps.{step_usable}
use Rattle.numbers.specs.declared.Shape.{Shape}
use Rattle.forest.specs.Promise.{Holds, network_in, vertices_held, vertices_fit, scratch_words, vertex_scratch}
use Rattle.routes.specs.Inside.Frame.{Only, edges_only, Written}
use Rattle.routes.specs.Inside.Lists.{Listed, far_end}
use Rattle.routes.specs.Inside.Walks.{StepDone}
use Rattle.routes.proofs.Frames.{edges_are, held_rule, only_refl, same-network}

-- a step is taken where there is its edge
pub record Stepped (shape : Shape) (x s : ℕ) (old new : List ℕ) : Type 0 where
  pub only : Only shape edges_only old new
  pub done : s < shape.edges → StepDone shape x s old new

-- so it is where it is done
pub stepped_then : {shape : Shape} {x s : ℕ} {old mid new : List ℕ} → StepDone shape x s old mid → new ≡ mid → Stepped shape x s old new
stepped_then v q = record { only = rw q v.only; done = λ h. rw q v }

-- and where nothing is done without an edge
pub stepped_not : {shape : Shape} {x s : ℕ} {old new : List ℕ} → Holds shape old → shape.edges ≤ s → new ≡ old → Stepped shape x s old new
stepped_not {shape} {old = old} holds h q = record { only = rw q (only_refl shape edges_only old holds); done = λ l. absurd (omega arith) }

-- as many are written down as the list has
written_length : (shape : Shape) (column count : ℕ) (t list : List ℕ) → Written shape column count t list → length list ≡ count
written_length shape column count t list w = ap length (sym w) ∙ length_tabulate count (vertex_scratch shape t column)

-- the first i steps of the way from a are taken: with the rest from vertex x, what is used is what the whole way leaves
pub record TakenTo (shape : Shape) (g : Network) (u : Used) (a : ℕ) (ps : List Step) (t : List ℕ) (x i : ℕ) : Type 0 where
  pub used : Used
  pub rest : List Step
  pub listed : Listed shape g used t
  pub usable : Usable g used
  pub fits : WayFits g used x rest
  pub same_whole : way_taken used x rest ≡ way_taken u a ps
  pub edges_left : drop i (edges_of ps) ≡ edges_of rest

module _ {shape : Shape} {g : Network} {u : Used} {a : ℕ} {ps : List Step} where
  module _ (column count : ℕ) (old : List ℕ) (written : Written shape column count old (edges_of ps)) where
    -- where as many are taken as were written down, all are
    pub take_ends : {t : List ℕ} {x i : ℕ} → TakenTo shape g u a ps t x i → count ≤ i → Listed shape g (way_taken u a ps) t
    unfolding edges_of way_taken
    take_ends {t} {x} {i} w h = go w.rest (sym w.edges_left ∙ drop_of_length-le (edges_of ps) {i = i} (omega (arith, many)))
        w.same_whole
      where
        many : length (edges_of ps) ≡ count
        many = written_length shape column count old (edges_of ps) written

        go : (rest : List Step) → edges_of rest ≡ [] → way_taken w.used x rest ≡ way_taken u a ps → Listed shape g (way_taken u a ps) t
        go [] e q = rw (← q) w.listed
        go (p ∷ rest) e q = absurd (cons≢nil e)

    -- a step more is taken
    pub take_goes_on : {t new : List ℕ} {x i : ℕ} → network_in shape old ≡ g → length ps < g.vertices → column < scratch_words
        → Only shape edges_only old t → TakenTo shape g u a ps t x i → i < count → (s : ℕ) → s ≡ vertex_scratch shape t column i
        → (s < shape.edges → StepDone shape x s t new) → (y : ℕ) → y ≡ far_end (network_in shape new) s x
        → TakenTo shape g u a ps new y (i + 1)
    unfolding edges_of way_taken far_end edges_only
    take_goes_on {t} {new} {x} {i} is short known only w h s e done y q =
        go w.rest (sym w.edges_left ∙ at_place) w.fits w.same_whole
      where
        many : length (edges_of ps) ≡ count
        many = written_length shape column count old (edges_of ps) written

        here : get_or (edges_of ps) i 0 ≡ s
        here = ap (λ l. get_or l i 0) (sym written) ∙ get_or-tabulate count (vertex_scratch shape old column) 0 i h
            ∙ sym (only.columns column i known refl (omega (
              arith,
              many,
              length-map ps (λ p. p.along),
              ap (λ h. h.vertices) is,
              vertices_held shape old,
              vertices_fit shape t only.holds,
            ))) ∙ sym e

        at_place : drop i (edges_of ps) ≡ s ∷ drop (suc i) (edges_of ps)
        at_place = drop-cons (edges_of ps) i 0 (omega (arith, many)) ∙ ap (λ n. n ∷ drop (suc i) (edges_of ps)) here

        is_then : network_in shape t ≡ g
        is_then = same-network only ∙ is

        go : (rest : List Step) → edges_of rest ≡ s ∷ drop (suc i) (edges_of ps) → WayFits g w.used x rest
            → way_taken w.used x rest ≡ way_taken u a ps → TakenTo shape g u a ps new y (i + 1)
        go [] l f same = absurd (nil≢cons l)
        go (p ∷ rest) l (goes_further f to later) same =
            record {
              used = step_taken w.used x p.along;
              rest = rest;
              listed = rw along (step.taken g w.used is_then w.listed w.usable (rw along at f));
              usable = step_usable g (held_rule shape g old is) w.used x p.along w.usable f;
              fits = rw there later;
              same_whole = rw there same;
              edges_left = rw (add-one i) (sym (tail-eq_of_cons-eq l));
            }
          where
            along : p.along ≡ s
            along = head-eq_of_cons-eq l

            inside : s < edge_count g
            inside = rw along at f.known

            step : StepDone shape x s t new
            step = done (omega (arith, inside, edges_are shape g old is))

            there : y ≡ p.to
            there = q ∙ rw (same-network step.only ∙ is_then, lt-ltb s (edge_count g) inside, ← along) (sym to)
