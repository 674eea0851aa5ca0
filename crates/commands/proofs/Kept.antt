-- What every accepted command keeps: the network stays within the capacities, and every edge joins two different vertices of it.
use mathlib.Core.Bool.{true, false, not, ◌&&◌, ◌||◌}
use mathlib.Core.Option.{none}
use mathlib.Core.Path.{◌≡◌}
use Prim.Native.Nat.{◌≤◌, ◌<◌}
use native.Mathlib.Omega.{arith}
use lib.Dec.{eqb, ltb}
use Rattle.graph.specs.Lists.{all_in}
use Rattle.graph.specs.Network.{Rule, Network, Edge, edge_count, add_vertex, add_edge, Proper}
use Rattle.graph.proofs.Truth.{and_left, and_right, ltb_lt, false_of_not_true}
use Rattle.graph.proofs.Joined.{edge_count_more}
use Rattle.graph.proofs.VertexMore.{proper_vertex_more, proper_edge_more}
use Rattle.naming.specs.Book.{Book, empty_book, enter_vertex, enter_edge, feed}
use Rattle.naming.specs.State.{State, after_addition, after_recording}
use Rattle.naming.proofs.Book.{empty_proper}
use Rattle.commands.specs.Command.{Command}
use Rattle.commands.specs.Facts.{Facts, adds_cabinet, adds_span, adds_nothing, facts, operands_of, demands_of, addition_of, addition, after}
use Rattle.commands.specs.Refusal.{equal_cabinets, refusal_number, Capacities, cabinet_known, cabinets_known, met, cause, meets, full_for, is_full, refusal_of}
use Rattle.commands.proofs.Cases.{leb_gt}
use Rattle.commands.proofs.Causes.{not_refused_exactly}

-- the network is within the capacities, and proper
pub record WithinCapacities (caps : Capacities) (g : Network) : Type 0 where
  pub cabinets_fit : g.vertices ≤ caps.cabinets
  pub spans_fit : edge_count g ≤ caps.spans
  pub proper : Proper g

-- an empty network is
pub empty_fits : (caps : Capacities) (rule : Rule) → WithinCapacities caps (empty_book rule).network
unfolding empty_book edge_count
empty_fits caps rule =
    record {
      cabinets_fit = omega arith;
      spans_fit = omega arith;
      proper = empty_proper rule;
    }

-- The network of a book, within the capacities.
module _ (caps : Capacities) (b : Book) (fits : WithinCapacities caps b.network) where
  -- a cabinet more
  cabinet_more_lem : b.network.vertices < caps.cabinets → WithinCapacities caps (enter_vertex b).network
  unfolding enter_vertex add_vertex edge_count
  cabinet_more_lem few =
      record {
        cabinets_fit = few;
        spans_fit = fits.spans_fit;
        proper = proper_vertex_more b.network fits.proper;
      }

  -- a span more, between two different cabinets
  span_more_lem : (e : Edge) → edge_count b.network < caps.spans → e.left < b.network.vertices → e.right < b.network.vertices
      → eqb e.left e.right ≡ false → WithinCapacities caps (enter_edge b e).network
  unfolding enter_edge add_edge
  span_more_lem e few left right different =
      record {
        cabinets_fit = fits.cabinets_fit;
        spans_fit = rw (edge_count_more b.network e) few;
        proper = proper_edge_more b.network e fits.proper left right different;
      }

-- by what the command adds
kept_by_facts : (caps : Capacities) (s : State) (f : Facts) → WithinCapacities caps s.book.network
    → all_in (cabinet_known s.book.network) (operands_of f) ≡ true
    → all_in (λ d. not (eqb (refusal_number (cause d)) (refusal_number equal_cabinets)) || met s d) (demands_of f) ≡ true
    → full_for caps s.book.network (addition_of f) ≡ false
    → WithinCapacities caps (feed s.book (addition_of f)).network
unfolding operands_of demands_of addition_of feed full_for all_in cabinet_known met cause refusal_number
kept_by_facts caps s adds_cabinet fits known differ few = cabinet_more_lem caps s.book fits (leb_gt _ _ few)
kept_by_facts caps s (adds_span e operands demands) fits known differ few =
    let left = ltb e.left s.book.network.vertices in
    let right = ltb e.right s.book.network.vertices in
    let others = all_in (cabinet_known s.book.network) operands in
    span_more_lem
    caps
    s.book
    fits
    e
    (leb_gt _ _ few)
    (ltb_lt _ _ (and_left left (right && others) known))
    (ltb_lt _ _ (and_left right others (and_right left (right && others) known)))
    (false_of_not_true _ (and_left (not (eqb e.left e.right)) _ differ))
kept_by_facts caps s (adds_nothing q) fits known differ few = fits

-- every command that is not refused keeps the network within the capacities, and proper
pub kept : (caps : Capacities) (s : State) (c : Command) → WithinCapacities caps s.book.network → refusal_of caps s c ≡ none
    → WithinCapacities caps (after s c).book.network
unfolding after after_addition after_recording addition cabinets_known meets is_full
kept caps s c fits e =
    let n = (not_refused_exactly caps s c).0 e in
    kept_by_facts caps s (facts c) fits n.cabinets_known_lem n.different_cabinets n.not_full
