-- The table of causes: the refusals with their numbers, and which of them a command meets first.
use Rattle.std.specs.Prelude.{Bool, true, false, not, ◌||◌, List, [], ◌∷◌, ℕ, eqb, leb, ltb}
use Rattle.std.proofs.Math.Option.{Option, none, some}
use Rattle.graph.specs.Lists.{all_in}
use Rattle.graph.specs.Network.{Network, edge_count}
use Rattle.graph.specs.Groups.{component, bridge_block}
use Rattle.naming.specs.Book.{Addition, vertex, edge, neither}
use Rattle.naming.specs.State.{State}
use Rattle.commands.specs.Field.{Field, cabinet, span, name, number, byte}
use Rattle.commands.specs.Command.{Command}
use Rattle.commands.specs.Facts.{Demand, differ, no_exchange, some_duct, share_district, share_ring, facts, operands_of, demands_of, addition}

pub data Refusal : Type 0 where
  bad_capacity : Refusal
  short_buffer : Refusal
  long_journal : Refusal
  bad_byte : Refusal
  cut_operands : Refusal
  unknown_cabinet : Refusal
  unknown_span : Refusal
  equal_cabinets : Refusal
  full : Refusal
  two_districts : Refusal
  no_room : Refusal
  already_exchange : Refusal
  no_duct : Refusal
  no_shared_ring : Refusal
  duct_told : Refusal
  long_result : Refusal
  refused_journal : Refusal
  bad_seam : Refusal
  long_join : Refusal

unfoldable pub refusal_number : Refusal → ℕ
refusal_number bad_capacity = 1
refusal_number short_buffer = 2
refusal_number long_journal = 3
refusal_number bad_byte = 4
refusal_number cut_operands = 5
refusal_number unknown_cabinet = 6
refusal_number unknown_span = 7
refusal_number equal_cabinets = 8
refusal_number full = 9
refusal_number two_districts = 10
refusal_number no_room = 11
refusal_number already_exchange = 12
refusal_number no_duct = 13
refusal_number no_shared_ring = 14
refusal_number duct_told = 15
refusal_number long_result = 16
refusal_number refused_journal = 17
refusal_number bad_seam = 18
refusal_number long_join = 19

-- A line of the table: whether its cause is there, and its refusal.
pub record Line : Type 0 where
  pub applies : Bool
  pub refusal : Refusal

-- The refusal of the first line that applies.
unfoldable pub first_that_applies : List Line → Option Refusal
first_that_applies [] = none
first_that_applies (l ∷ ls) = elim l.applies [ true ↦ some l.refusal | false ↦ first_that_applies ls ]

-- The most cabinets and spans that a run may hold: C and S.
pub record Capacities : Type 0 where
  pub cabinets : ℕ
  pub spans : ℕ

-- The field, if it is a cabinet, is a known one.
unfoldable pub cabinet_known : Network → Field → Bool
cabinet_known g (cabinet a) = ltb a g.vertices
cabinet_known g (span x) = true
cabinet_known g (name kind n) = true
cabinet_known g (number n) = true
cabinet_known g (byte n) = true

-- The field, if it is a span, is a known one.
unfoldable pub span_known : Network → Field → Bool
span_known g (cabinet a) = true
span_known g (span x) = ltb x (edge_count g)
span_known g (name kind n) = true
span_known g (number n) = true
span_known g (byte n) = true

-- The cabinets that a command names are all known, and so are the spans.
unfoldable pub cabinets_known : State → Command → Bool
cabinets_known s c = all_in (cabinet_known s.book.network) (operands_of (facts c))

unfoldable pub spans_known : State → Command → Bool
spans_known s c = all_in (span_known s.book.network) (operands_of (facts c))

-- The demand is met.
unfoldable pub met : State → Demand → Bool
met s (differ a b) = not (eqb a b)
met s (no_exchange a) = not (s.marked a)
met s (some_duct d) = not (eqb d 0)
met s (share_district a b) = component s.book.network a b
met s (share_ring a b) = bridge_block s.book.network a b

-- The refusal where it is not.
unfoldable pub cause : Demand → Refusal
cause (differ a b) = equal_cabinets
cause (no_exchange a) = already_exchange
cause (some_duct d) = no_duct
cause (share_district a b) = two_districts
cause (share_ring a b) = no_shared_ring

-- All demands of the command that could give this refusal are met.
unfoldable pub meets : Refusal → State → Command → Bool
meets r s c = all_in (λ d. not (eqb (refusal_number (cause d)) (refusal_number r)) || met s d) (demands_of (facts c))

-- There are as many cabinets as there may be where one is added, or as many spans.
unfoldable pub full_for : Capacities → Network → Addition → Bool
full_for caps g vertex = leb caps.cabinets g.vertices
full_for caps g (edge e) = leb caps.spans (edge_count g)
full_for caps g neither = false

unfoldable pub is_full : Capacities → State → Command → Bool
is_full caps s c = full_for caps s.book.network (addition c)

-- The lines of the table that a command read whole can meet, in their order; room for the answer comes after them.
unfoldable pub lines : Capacities → State → Command → List Line
lines caps s c =
    record { applies = not (cabinets_known s c); refusal = unknown_cabinet }
    ∷ record { applies = not (spans_known s c); refusal = unknown_span }
    ∷ record { applies = not (meets equal_cabinets s c); refusal = equal_cabinets }
    ∷ record { applies = not (meets already_exchange s c); refusal = already_exchange }
    ∷ record { applies = not (meets no_duct s c); refusal = no_duct }
    ∷ record { applies = is_full caps s c; refusal = full }
    ∷ record { applies = not (meets two_districts s c); refusal = two_districts }
    ∷ record { applies = not (meets no_shared_ring s c); refusal = no_shared_ring }
    ∷ []

unfoldable pub refusal_of : Capacities → State → Command → Option Refusal
refusal_of caps s c = first_that_applies (lines caps s c)
