-- How a command that is accepted alone fares behind another journal (request 9), where it is raised: it is accepted where there is room for
-- what it adds, and else meets 9.
use mathlib.Core.Bool.{Bool, true, false, not, ◌&&◌, ◌||◌}
use mathlib.Core.List.{List, [], ◌∷◌}
use mathlib.Core.Option.{none, some}
use mathlib.Core.Path.{◌≡◌, refl, ◌∙◌, ap, ap₂}
use Prim.Native.Nat.{ℕ, ◌+◌}
use lib.Dec.{eqb, ltb}
use Rattle.graph.specs.Lists.{all_in}
use Rattle.graph.specs.Network.{Network, MateRule, edge_count}
use Rattle.graph.specs.Groups.{component, bridge_block}
use Rattle.graph.proofs.MappedLists.{all_in_mapped}
use Rattle.graph.proofs.SideBySide.{beside, Beside, eqb_raised, ltb_raised, count_beside, component_of_second, bridge_block_of_second}
use Rattle.naming.specs.Book.{Book}
use Rattle.naming.specs.State.{State}
use Rattle.naming.proofs.SideBySideBooks.{beside_book, networks}
use Rattle.commands.specs.Field.{Field, cabinet, span, name, number, byte}
use Rattle.commands.specs.Command.{Command}
use Rattle.commands.specs.Facts.{Demand, differ, no_exchange, some_duct, share_district, share_ring, facts, operands_of, demands_of}
use Rattle.commands.specs.Refusal.{Refusal, full, refusal_number, Capacities, cabinet_known, span_known, cabinets_known, spans_known, met, cause, meets, is_full, refusal_of}
use Rattle.commands.specs.Join.{Counts, counts_of, raise_field, raise_fields, raise_command}
use Rattle.commands.proofs.Causes.{full_exactly, not_refused_exactly}
use Rattle.joining.proofs.Raised.{raise_demand, raised_operands, raised_demands}
use Rattle.joining.proofs.BesideStates.{BesideState, BesideSound, books_beside}

-- tests that agree agree of a list
all_in-same : {A : Type 0} (test test' : A → Bool) (l : List A) → ((x : A) → test x ≡ test' x) → all_in test l ≡ all_in test' l
unfolding all_in
all_in-same test test' [] same = refl
all_in-same test test' (x ∷ l) same = ap₂ ◌&&◌ (same x) (all_in-same test test' l same)

module _ {caps : Capacities} {one s s' : State} (w : BesideSound caps one s) (q : BesideState one s s') where
  abbrev by : Counts
  by = counts_of one

  abbrev m : ℕ
  m = one.book.network.vertices

  abbrev k : ℕ
  k = edge_count one.book.network

  abbrev g : Network
  g = s.book.network

  abbrev two : Beside one.book.network s.book.network
  two = networks (books_beside w)

  abbrev rule : MateRule one.book.network.rule
  rule = w.first_sound.laws.mate_rule

  -- the network is both
  pub network_is : s'.book.network ≡ beside one.book.network g
  unfolding beside_book
  network_is = ap (λ (b : Book). b.network) q.book_is

  pub vertices_are : s'.book.network.vertices ≡ m + g.vertices
  unfolding beside
  vertices_are = ap (λ (h : Network). h.vertices) network_is

  pub edges_are : edge_count s'.book.network ≡ k + edge_count g
  edges_are = ap edge_count network_is ∙ count_beside one.book.network g

  -- the same cabinets and spans are known, raised
  cabinet_known_raised : (f : Field) → cabinet_known s'.book.network (raise_field by f) ≡ cabinet_known g f
  unfolding cabinet_known raise_field counts_of
  cabinet_known_raised (cabinet a) = ap (ltb (m + a)) vertices_are ∙ ltb_raised m a g.vertices
  cabinet_known_raised (span x) = refl
  cabinet_known_raised (name kind n) = refl
  cabinet_known_raised (number n) = refl
  cabinet_known_raised (byte n) = refl

  span_known_raised : (f : Field) → span_known s'.book.network (raise_field by f) ≡ span_known g f
  unfolding span_known raise_field counts_of
  span_known_raised (cabinet a) = refl
  span_known_raised (span x) = ap (ltb (k + x)) edges_are ∙ ltb_raised k x (edge_count g)
  span_known_raised (name kind n) = refl
  span_known_raised (number n) = refl
  span_known_raised (byte n) = refl

  -- the same demands are met
  met_raised : (d : Demand) → met s' (raise_demand m d) ≡ met s d
  unfolding met raise_demand
  met_raised (differ a b) = ap not (eqb_raised m a b)
  met_raised (no_exchange a) = ap not (q.new_marks_lem a)
  met_raised (some_duct d) = refl
  met_raised (share_district a b) = ap (λ (h : Network). component h (m + a) (m + b)) network_is ∙ component_of_second two rule a b
  met_raised (share_ring a b) = ap (λ (h : Network). bridge_block h (m + a) (m + b)) network_is ∙ bridge_block_of_second two rule a b

  cause_raised : (d : Demand) → cause (raise_demand m d) ≡ cause d
  unfolding cause raise_demand
  cause_raised (differ a b) = refl
  cause_raised (no_exchange a) = refl
  cause_raised (some_duct d) = refl
  cause_raised (share_district a b) = refl
  cause_raised (share_ring a b) = refl

  meets_raised : (r : Refusal) (c : Command) → meets r s' (raise_command by c) ≡ meets r s c
  unfolding meets counts_of
  meets_raised r c =
      ap (all_in (λ d. not (eqb (refusal_number (cause d)) (refusal_number r)) || met s' d)) (raised_demands by c)
      ∙ all_in_mapped (raise_demand m) _ (demands_of (facts c))
      ∙ all_in-same _ _ (demands_of (facts c)) (λ d.
      ap₂ (λ (p : Refusal) b. not (eqb (refusal_number p) (refusal_number r)) || b) (cause_raised d) (met_raised d))

  cabinets_known_raised : (c : Command) → cabinets_known s' (raise_command by c) ≡ cabinets_known s c
  unfolding cabinets_known raise_fields
  cabinets_known_raised c =
      ap (all_in (cabinet_known s'.book.network)) (raised_operands by c)
      ∙ all_in_mapped (raise_field by) _ (operands_of (facts c)) ∙ all_in-same _ _ (operands_of (facts c)) cabinet_known_raised

  spans_known_raised : (c : Command) → spans_known s' (raise_command by c) ≡ spans_known s c
  unfolding spans_known raise_fields
  spans_known_raised c =
      ap (all_in (span_known s'.book.network)) (raised_operands by c)
      ∙ all_in_mapped (raise_field by) _ (operands_of (facts c)) ∙ all_in-same _ _ (operands_of (facts c)) span_known_raised

  -- A command that is not refused alone is not refused where there is room for what it adds,
  pub accepted_raised : (c : Command) → refusal_of caps s c ≡ none → is_full caps s' (raise_command by c) ≡ false
      → refusal_of caps s' (raise_command by c) ≡ none
  accepted_raised c e room =
      let n = (not_refused_exactly caps s c).0 e in
      (not_refused_exactly caps s' (raise_command by c)).1
      (record {
        cabinets_known_lem = cabinets_known_raised c ∙ n.cabinets_known_lem;
        spans_known_lem = spans_known_raised c ∙ n.spans_known_lem;
        different_cabinets = meets_raised _ c ∙ n.different_cabinets;
        no_exchange_lem = meets_raised _ c ∙ n.no_exchange_lem;
        some_duct_lem = meets_raised _ c ∙ n.some_duct_lem;
        not_full = room;
        one_district = meets_raised _ c ∙ n.one_district;
        one_ring = meets_raised _ c ∙ n.one_ring;
      })

  -- and meets 9 where there is none.
  pub full_raised : (c : Command) → refusal_of caps s c ≡ none → is_full caps s' (raise_command by c) ≡ true
      → refusal_of caps s' (raise_command by c) ≡ some full
  full_raised c e no_room_lem =
      let n = (not_refused_exactly caps s c).0 e in
      (full_exactly caps s' (raise_command by c)).1 (
        cabinets_known_raised c ∙ n.cabinets_known_lem,
        (
          spans_known_raised c ∙ n.spans_known_lem,
          (meets_raised _ c ∙ n.different_cabinets, (meets_raised _ c ∙ n.no_exchange_lem, (meets_raised _ c ∙ n.some_duct_lem, no_room_lem))),
        ),
      )
