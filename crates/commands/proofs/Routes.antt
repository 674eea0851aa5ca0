-- The routes that 0C is answered with: what a 0C that is not refused asks for, and what a choice that serves gives it.
use mathlib.Core.Bool.{Bool, true, false, not, ◌&&◌, and-true}
use mathlib.Core.Logic.{◌↔◌}
use mathlib.Core.Option.{none, some}
use mathlib.Core.Path.{◌≡◌, refl, sym, ◌∙◌, subst}
use Prim.Native.Nat.{ℕ, ◌+◌, ◌≤◌, ◌<◌}
use lib.Dec.{eqb, ltb}
use lib.ListN.{length}
use Rattle.graph.specs.Lists.{is_in, all_in}
use Rattle.graph.specs.Network.{Network, Proper, edge_count}
use Rattle.graph.specs.Groups.{bridge_block}
use Rattle.graph.specs.Route.{Routes, serve, Choice, Serves}
use Rattle.graph.proofs.Truth.{and_left, and_right, and_both, ltb_lt, lt-ltb, false_of_not_true, not_of_false}
use Rattle.graph.proofs.Routes.{served, routes_short, route_known}
use Rattle.naming.specs.State.{State}
use Rattle.commands.specs.Command.{Command, routes_between}
use Rattle.commands.specs.Facts.{facts, operands_of, demands_of, addition_of, addition, after}
use Rattle.commands.specs.Refusal.{no_shared_ring, refusal_number, Capacities, cabinet_known, span_known, cabinets_known, spans_known, met, cause, meets, full_for, is_full, refusal_of}
use Rattle.commands.proofs.StateAfter.{rule_after}
use Rattle.commands.proofs.Causes.{no_shared_ring_exactly, not_refused_exactly}

-- two different cabinets of the network that share a ring
pub record InOneRing (g : Network) (a b : ℕ) : Type 0 where
  pub first_known : a < g.vertices
  pub second_known : b < g.vertices
  pub different : eqb a b ≡ false
  pub shared : bridge_block g a b ≡ true

-- a 0C that is not refused asks for the routes between two such
pub routes_asked : (caps : Capacities) (s : State) (a b : ℕ) → refusal_of caps s (routes_between a b) ≡ none
    → InOneRing s.book.network a b
unfolding cabinets_known meets facts operands_of demands_of all_in cabinet_known met cause refusal_number
routes_asked caps s a b e =
    let g = s.book.network in
    let n = (not_refused_exactly caps s (routes_between a b)).0 e in
    let first = ltb a g.vertices in
    record {
      first_known = ltb_lt _ _ (and_left first _ n.cabinets_known_lem);
      second_known = ltb_lt _ _ (and_left (ltb b g.vertices) true (and_right first _ n.cabinets_known_lem));
      different = false_of_not_true (eqb a b) (and_left _ true n.different_cabinets);
      shared = and_left (bridge_block g a b) true n.one_ring;
    }

-- 14 when the two share no ring, in one statement: it is refused with 14 exactly if they are two different known cabinets that share none
pub no_ring_exactly : (caps : Capacities) (s : State) (a b : ℕ) → (refusal_of caps s (routes_between a b) ≡ some no_shared_ring)
    ↔ ((a < s.book.network.vertices)
    × ((b < s.book.network.vertices) × ((eqb a b ≡ false) × (bridge_block s.book.network a b ≡ false))))
unfolding cabinets_known spans_known meets is_full full_for addition addition_of facts operands_of demands_of all_in cabinet_known span_known met cause refusal_number
no_ring_exactly caps s a b =
    let exactly = no_shared_ring_exactly caps s (routes_between a b) in (
      λ e.
          let h = exactly.0 e in (
            ltb_lt _ _ (and_left first _ h.0),
            (
              ltb_lt _ _ (and_left second true (and_right first _ h.0)),
              (false_of_not_true (eqb a b) (and_left other true h.1.1.0), and_false_left ring h.1.1.1.1.1.1.1),
            ),
          ),
      λ h.
          exactly.1 (
            and_both (lt-ltb _ _ h.0) (and_both (lt-ltb _ _ h.1.0) refl),
            (
              refl,
              (
                and_both (not_of_false h.1.1.0) refl,
                (refl, (refl, (refl, (refl, rw h.1.1.1 refl)))),
              ),
            ),
          ),
    )
  where
    first : Bool
    first = ltb a s.book.network.vertices

    second : Bool
    second = ltb b s.book.network.vertices

    other : Bool
    other = not (eqb a b)

    ring : Bool
    ring = bridge_block s.book.network a b

    and_false_left : (x : Bool) → (x && true) ≡ false → x ≡ false
    and_false_left x e = sym (and-true x) ∙ e

-- a choice that serves still does after a command, since that leaves the rule of mates as it is
pub serves_after : (choice : Choice) (s : State) (c : Command) → Serves s.book.network.rule choice
    → Serves (after s c).book.network.rule choice
serves_after choice s c serves = subst (λ rule. Serves rule choice) (sym (rule_after s c)) serves

-- Two routes that serve: both have together no more spans than there are, and known ones only.
pub record Served (g : Network) (a b : ℕ) (r : Routes) : Type 0 where
  pub they_serve : serve g a b r ≡ true
  pub short : length r.first + length r.second ≤ edge_count g
  pub first_known : (x : ℕ) → is_in x r.first ≡ true → x < edge_count g
  pub second_known : (x : ℕ) → is_in x r.second ≡ true → x < edge_count g

-- such are those that a choice which serves gives for two cabinets of one ring
pub given_served : (choice : Choice) (g : Network) → Proper g → Serves g.rule choice → (a b : ℕ) → InOneRing g a b
    → Served g a b (choice g a b)
given_served choice g proper serves a b asked =
    let r = choice g a b in
    let e = serves g refl proper a b asked.first_known asked.second_known asked.different asked.shared in
    record {
      they_serve = e;
      short = routes_short g a b r e;
      first_known = route_known g a b r.first (served g a b r e).0;
      second_known = route_known g a b r.second (served g a b r e).1;
    }
