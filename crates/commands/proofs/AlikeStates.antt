-- States that are alike: their networks are, names and marks are the same, and for each span the same record of its length holds. Every
-- command is refused in both alike, and answered alike under choices that give the same routes.
use mathlib.Core.Bool.{true, not, ◌&&◌, ◌||◌}
use mathlib.Core.Option.{Option, none, some}
use mathlib.Core.Path.{◌≡◌, refl, ◌∙◌, ap, ap₂, fun_ext}
use Prim.Native.Nat.{ℕ}
use lib.Dec.{eqb, leb, ltb}
use Rattle.graph.specs.Lists.{all_in}
use Rattle.graph.specs.Below.{any_below, count}
use Rattle.graph.specs.Network.{Network, MateRule, Proper}
use Rattle.graph.specs.Block.{shared_block}
use Rattle.graph.specs.Route.{Choice}
use Rattle.graph.proofs.Truth.{and_left, ltb_lt}
use Rattle.graph.proofs.Alike.{Alike, component_alike, bridge_alike, bridge_block_alike, shared_block_alike, bridges_between_alike, cuts_between_alike}
use Rattle.naming.specs.Book.{Book, Addition, vertex, edge, neither, feed}
use Rattle.naming.specs.Survey.{holding}
use Rattle.naming.specs.State.{State}
use Rattle.naming.proofs.AlikeBooks.{AlikeBooks}
use Rattle.naming.proofs.Lookup.{component_of_alike, bridge_block_of_alike}
use Rattle.commands.specs.Field.{Field, cabinet, span, name, number, byte}
use Rattle.commands.specs.Command.{Command, add_cabinet, add_span, district_name, ring_name, shared_mesh, sole_spans, cut_cabinets, is_sole, mark_exchange, holds_exchange, add_duct_span, routes_between, record_length, span_length, exchange_share, command_byte}
use Rattle.commands.specs.Answer.{plain, district_is, ring_is, sole_spans_are, cut_cabinets_are, sole_is, exchange_held, share_is, cabinet_added, notices}
use Rattle.commands.specs.Exchange.{ring_holds_exchange, with_exchange, thousandths, share_with_exchange}
use Rattle.commands.specs.Facts.{Demand, differ, no_exchange, some_duct, share_district, share_ring, Facts, adds_cabinet, adds_span, adds_nothing, facts, asks, mesh_answer, routes_answer, length_answer, operands_of, demands_of, addition_of, addition, span_answer, answer_to, answer}
use Rattle.commands.specs.Refusal.{Refusal, equal_cabinets, already_exchange, no_duct, two_districts, no_shared_ring, refusal_number, Capacities, cabinet_known, span_known, cabinets_known, spans_known, met, cause, meets, full_for, is_full, lines, refusal_of}
use Rattle.commands.proofs.Causes.{not_refused_exactly}

-- the choice gives networks alike the same routes
abbrev pub SameRoutes : Choice → Type 0
SameRoutes choice = (g h : Network) → Alike g h → (a b : ℕ) → choice h a b ≡ choice g a b

-- Two states with the same names, marks and records that hold, over networks that are alike.
pub record AlikeStates (s s' : State) : Type 0 where
  pub books : AlikeBooks s.book s'.book
  pub same_marks : (x : ℕ) → s'.marked x ≡ s.marked x
  pub same_records : (x : ℕ) → holding s'.surveys x ≡ holding s.surveys x

module _ {s s' : State} (a : AlikeStates s s') (rule : MateRule s.book.network.rule) (rule' : MateRule s'.book.network.rule) where
  abbrev networks : Alike s.book.network s'.book.network
  networks = a.books.networks

  -- the same cabinets and spans are known
  cabinet_known_alike : (f : Field) → cabinet_known s'.book.network f ≡ cabinet_known s.book.network f
  unfolding cabinet_known
  cabinet_known_alike (cabinet x) = ap (ltb x) networks.as_many_vertices
  cabinet_known_alike (span x) = refl
  cabinet_known_alike (name kind n) = refl
  cabinet_known_alike (number n) = refl
  cabinet_known_alike (byte n) = refl

  span_known_alike : (f : Field) → span_known s'.book.network f ≡ span_known s.book.network f
  unfolding span_known
  span_known_alike (cabinet x) = refl
  span_known_alike (span x) = ap (ltb x) networks.as_many_edges
  span_known_alike (name kind n) = refl
  span_known_alike (number n) = refl
  span_known_alike (byte n) = refl

  -- the same demands are met
  met_alike : (d : Demand) → met s' d ≡ met s d
  unfolding met
  met_alike (differ x y) = refl
  met_alike (no_exchange x) = ap not (a.same_marks x)
  met_alike (some_duct d) = refl
  met_alike (share_district x y) = component_alike networks rule' x y
  met_alike (share_ring x y) = bridge_block_alike networks rule rule' x y

  meets_alike : (r : Refusal) (c : Command) → meets r s' c ≡ meets r s c
  unfolding meets
  meets_alike r c =
      ap (λ test. all_in test (demands_of (facts c)))
      (fun_ext (λ d. ap (λ is. not (eqb (refusal_number (cause d)) (refusal_number r)) || is) (met_alike d)))

  -- and the same is full
  full_alike : (caps : Capacities) (x : Addition) → full_for caps s'.book.network x ≡ full_for caps s.book.network x
  unfolding full_for
  full_alike caps vertex = ap (leb caps.cabinets) networks.as_many_vertices
  full_alike caps (edge e) = ap (leb caps.spans) networks.as_many_edges
  full_alike caps neither = refl

  -- so a command is refused in one state as it is in the other
  pub refusal_alike : (caps : Capacities) (c : Command) → refusal_of caps s' c ≡ refusal_of caps s c
  unfolding refusal_of lines cabinets_known spans_known is_full
  refusal_alike caps c =
      rw (
        fun_ext cabinet_known_alike,
        fun_ext span_known_alike,
        meets_alike equal_cabinets c,
        meets_alike already_exchange c,
        meets_alike no_duct c,
        full_alike caps _,
        meets_alike two_districts c,
        meets_alike no_shared_ring c,
      )

  -- the same rings hold an exchange
  ring_holds_alike : (x : ℕ) → ring_holds_exchange s' x ≡ ring_holds_exchange s x
  unfolding ring_holds_exchange
  ring_holds_alike x =
      ap₂ any_below networks.as_many_vertices
      (fun_ext (λ y. ap₂ ◌&&◌ (bridge_block_alike networks rule rule' x y) (a.same_marks y)))

  share_alike : share_with_exchange s' ≡ share_with_exchange s
  unfolding share_with_exchange with_exchange
  share_alike =
      ap₂ thousandths (ap₂ count networks.as_many_vertices (fun_ext ring_holds_alike)) networks.as_many_vertices

  mesh_alike : (o : Option ℕ) → mesh_answer s'.book o ≡ mesh_answer s.book o
  unfolding mesh_answer
  mesh_alike none = refl
  mesh_alike (some t) = rw a.books.same_blocks

  -- an added span is answered with its number, its mesh name and the notices, which are the same where the books after it are alike too
  pub span_alike : (b b' : Book) → AlikeBooks b b' → span_answer s'.book b' ≡ span_answer s.book b
  unfolding span_answer notices
  span_alike b b' after =
      rw (
        networks.as_many_edges,
        after.same_blocks,
        after.same_components,
        after.same_bridge_blocks,
        a.books.same_components,
        a.books.same_bridge_blocks,
        a.books.same_blocks,
      )

  module _ (choice choice' : Choice) where
    -- where the command asks for routes, the two choices give the same
    abbrev RoutesAlike : Command → Type 0
    RoutesAlike c = command_byte c ≡ 0x0C → (x y : ℕ) → choice' s'.book.network x y ≡ choice s.book.network x y

    -- the answer to a question is the same in both
    abbrev ToldAlike : Facts → Type 0
    ToldAlike adds_cabinet = Unit
    ToldAlike (adds_span e operands demands) = Unit
    ToldAlike (adds_nothing q) = q.told choice' s' ≡ q.told choice s

    -- so it is with every question about known spans
    question_alike : Proper s.book.network → (c : Command) → spans_known s c ≡ true → RoutesAlike c → ToldAlike (facts c)
    unfolding facts asks spans_known operands_of all_in span_known command_byte
    question_alike proper add_cabinet known routes = tt
    question_alike proper (add_span x y) known routes = tt
    question_alike proper (district_name x) known routes = ap district_is (component_of_alike a.books rule' x)
    question_alike proper (ring_name x) known routes = ap ring_is (bridge_block_of_alike a.books rule rule' x)
    question_alike proper (shared_mesh x y) known routes =
        ap (mesh_answer s'.book) (shared_block_alike networks rule rule' x y) ∙ mesh_alike (shared_block s.book.network x y)
    question_alike proper (sole_spans x y) known routes = ap sole_spans_are (bridges_between_alike networks rule rule' x y)
    question_alike proper (cut_cabinets x y) known routes = ap cut_cabinets_are (cuts_between_alike networks rule' proper x y)
    question_alike proper (is_sole x) known routes = ap sole_is (bridge_alike networks rule' x (ltb_lt _ _ (and_left _ true known)))
    question_alike proper (mark_exchange x) known routes = refl
    question_alike proper (holds_exchange x) known routes = ap exchange_held (ring_holds_alike x)
    question_alike proper (add_duct_span x y d) known routes = tt
    question_alike proper (routes_between x y) known routes = ap routes_answer (routes refl x y)
    question_alike proper (record_length x day metres) known routes = refl
    question_alike proper (span_length x) known routes = ap length_answer (a.same_records x)
    question_alike proper exchange_share known routes = ap share_is share_alike

    -- so a command that is not refused is answered in one state as it is in the other, where the books after it are alike
    pub answer_alike : (caps : Capacities) → Proper s.book.network → (c : Command) → refusal_of caps s c ≡ none → RoutesAlike c
        → AlikeBooks (feed s.book (addition c)) (feed s'.book (addition c)) → answer choice' s' c ≡ answer choice s c
    unfolding answer addition
    answer_alike caps proper c accepted routes after =
        go (facts c) (question_alike proper c ((not_refused_exactly caps s c).0 accepted).spans_known_lem routes) after
      where
        go : (f : Facts) → ToldAlike f → AlikeBooks (feed s.book (addition_of f)) (feed s'.book (addition_of f))
            → answer_to choice' s' f ≡ answer_to choice s f
        go adds_cabinet q after = unfold answer_to in ap cabinet_added networks.as_many_vertices
        go (adds_span e operands demands) q after = unfold answer_to addition_of in span_alike _ _ after
        go (adds_nothing question) q after = unfold answer_to in ap plain q
