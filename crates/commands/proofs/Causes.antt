-- Each refusal of what stands in a journal is given exactly for its cause, where no earlier line of the table applies.
use mathlib.Core.Bool.{Bool, true, false, not, ◌||◌}
use mathlib.Core.List.{List, [], ◌∷◌}
use mathlib.Core.Logic.Iff
use mathlib.Core.Logic.{◌↔◌}
use mathlib.Core.Option.{none, some}
use mathlib.Core.Path.{◌≡◌, refl}
use Prim.Native.Nat.{ℕ, ◌<◌}
use native.Mathlib.Omega.{arith}
use lib.Dec.{eqb}
use lib.ListN.{length}
use Rattle.graph.specs.Lists.{all_in}
use Rattle.graph.proofs.Truth.{not_of_true, not_of_false, false_of_not_true, true_of_not_false, and_left, and_right, and_both}
use Rattle.naming.specs.State.{State}
use Rattle.commands.specs.Command.{Command, form, Reading, unknown_byte, cut_off, command, read_command}
use Rattle.commands.specs.Facts.{Demand, differ, no_exchange, some_duct, share_district, share_ring, facts, demands_of}
use Rattle.commands.specs.Refusal.{Refusal, bad_byte, cut_operands, unknown_cabinet, unknown_span, equal_cabinets, full, two_districts, already_exchange, no_duct, no_shared_ring, refusal_number, Capacities, cabinets_known, spans_known, met, cause, meets, is_full, lines, refusal_of}
use Rattle.commands.proofs.Reading.{is_command, width_of, no_command_exactly, cut_off_exactly}
use Rattle.commands.proofs.Steps.{RefusedFor, for_byte, for_operands, for_command}
use Rattle.commands.proofs.Table.{given_exactly, stage, Between, given_between, NoneOf, none_exactly}

-- `not b` holds exactly if b does not
pub not_is_true : (b : Bool) → (not b ≡ true) ↔ (b ≡ false)
not_is_true b = (false_of_not_true b, not_of_false)

-- `not b` does not hold exactly if b does
pub not_is_false : (b : Bool) → (not b ≡ false) ↔ (b ≡ true)
not_is_false b = (true_of_not_false b, not_of_true)

-- all of the demands that could give this refusal are met
abbrev MetFor : Refusal → State → List Demand → Type 0
MetFor r s ds = all_in (λ d. not (eqb (refusal_number (cause d)) (refusal_number r)) || met s d) ds ≡ true

-- where every demand that could give one of the five refusals is met, every demand is
each_met : (s : State) (ds : List Demand) → MetFor equal_cabinets s ds → MetFor already_exchange s ds → MetFor no_duct s ds
    → MetFor two_districts s ds → MetFor no_shared_ring s ds → all_in (met s) ds ≡ true
unfolding all_in cause refusal_number
each_met s [] p q d r n = refl
each_met s (differ a b ∷ ds) p q d r n =
    let this = met s (differ a b) in
    and_both
    (and_left this _ p)
    (each_met s ds (and_right this _ p) (and_right true _ q) (and_right true _ d) (and_right true _ r) (and_right true _ n))
each_met s (no_exchange a ∷ ds) p q d r n =
    let this = met s (no_exchange a) in
    and_both
    (and_left this _ q)
    (each_met s ds (and_right true _ p) (and_right this _ q) (and_right true _ d) (and_right true _ r) (and_right true _ n))
each_met s (some_duct a ∷ ds) p q d r n =
    let this = met s (some_duct a) in
    and_both
    (and_left this _ d)
    (each_met s ds (and_right true _ p) (and_right true _ q) (and_right this _ d) (and_right true _ r) (and_right true _ n))
each_met s (share_district a b ∷ ds) p q d r n =
    let this = met s (share_district a b) in
    and_both
    (and_left this _ r)
    (each_met s ds (and_right true _ p) (and_right true _ q) (and_right true _ d) (and_right this _ r) (and_right true _ n))
each_met s (share_ring a b ∷ ds) p q d r n =
    let this = met s (share_ring a b) in
    and_both
    (and_left this _ n)
    (each_met s ds (and_right true _ p) (and_right true _ q) (and_right true _ d) (and_right true _ r) (and_right this _ n))

-- the refusals of a command that was read are those of this stage
pub table_stage : (caps : Capacities) (s : State) (c : Command) (r : Refusal) → refusal_of caps s c ≡ some r → Between 2 2 r
unfolding refusal_of lines stage
table_stage caps s c r = given_between 2 2 (lines caps s c) r refl

module _ (caps : Capacities) (s : State) (c : Command) where
  -- unknown cabinet: a cabinet is not known
  pub unknown_cabinet_exactly : (refusal_of caps s c ≡ some unknown_cabinet) ↔ (cabinets_known s c ≡ false)
  unfolding refusal_of lines refusal_number
  unknown_cabinet_exactly = simp not_is_true at (given_exactly 0 unknown_cabinet (lines caps s c) refl)

  -- unknown span: the cabinets are known, and a span is not
  pub unknown_span_exactly : (refusal_of caps s c ≡ some unknown_span) ↔ ((cabinets_known s c ≡ true) × (spans_known s c ≡ false))
  unfolding refusal_of lines refusal_number
  unknown_span_exactly = simp (not_is_true, not_is_false) at (given_exactly 1 unknown_span (lines caps s c) refl)

  -- equal cabinets: everything is known, and two cabinets are equal that the command wants different
  pub equal_cabinets_exactly : (refusal_of caps s c ≡ some equal_cabinets)
      ↔ ((cabinets_known s c ≡ true) × ((spans_known s c ≡ true) × (meets equal_cabinets s c ≡ false)))
  unfolding refusal_of lines refusal_number
  equal_cabinets_exactly = simp (not_is_true, not_is_false) at (given_exactly 2 equal_cabinets (lines caps s c) refl)

  -- already an exchange: none of these, and a cabinet is an exchange that the command wants to be none
  pub already_exchange_exactly : (refusal_of caps s c ≡ some already_exchange)
      ↔ ((cabinets_known s c ≡ true)
      × ((spans_known s c ≡ true) × ((meets equal_cabinets s c ≡ true) × (meets already_exchange s c ≡ false))))
  unfolding refusal_of lines refusal_number
  already_exchange_exactly = simp (not_is_true, not_is_false) at (given_exactly 3 already_exchange (lines caps s c) refl)

  -- no duct: none of these, and the duct is 0
  pub no_duct_exactly : (refusal_of caps s c ≡ some no_duct)
      ↔ ((cabinets_known s c ≡ true)
      × ((spans_known s c ≡ true)
      × ((meets equal_cabinets s c ≡ true) × ((meets already_exchange s c ≡ true) × (meets no_duct s c ≡ false)))))
  unfolding refusal_of lines refusal_number
  no_duct_exactly = simp (not_is_true, not_is_false) at (given_exactly 4 no_duct (lines caps s c) refl)

  -- full: none of these, and the command adds a cabinet to C cabinets or a span to S spans
  pub full_exactly : (refusal_of caps s c ≡ some full)
      ↔ ((cabinets_known s c ≡ true)
      × ((spans_known s c ≡ true)
      × ((meets equal_cabinets s c ≡ true)
      × ((meets already_exchange s c ≡ true) × ((meets no_duct s c ≡ true) × (is_full caps s c ≡ true))))))
  unfolding refusal_of lines refusal_number
  full_exactly = simp not_is_false at (given_exactly 5 full (lines caps s c) refl)

  -- two districts: none of these, and two cabinets share no district that the command wants in one
  pub two_districts_exactly : (refusal_of caps s c ≡ some two_districts)
      ↔ ((cabinets_known s c ≡ true)
      × ((spans_known s c ≡ true)
      × ((meets equal_cabinets s c ≡ true)
      × ((meets already_exchange s c ≡ true)
      × ((meets no_duct s c ≡ true) × ((is_full caps s c ≡ false) × (meets two_districts s c ≡ false)))))))
  unfolding refusal_of lines refusal_number
  two_districts_exactly = simp (not_is_true, not_is_false) at (given_exactly 6 two_districts (lines caps s c) refl)

  -- no shared ring: none of these, and two cabinets share no ring that the command wants in one
  pub no_shared_ring_exactly : (refusal_of caps s c ≡ some no_shared_ring)
      ↔ ((cabinets_known s c ≡ true)
      × ((spans_known s c ≡ true)
      × ((meets equal_cabinets s c ≡ true)
      × ((meets already_exchange s c ≡ true)
      × ((meets no_duct s c ≡ true)
      × ((is_full caps s c ≡ false) × ((meets two_districts s c ≡ true) × (meets no_shared_ring s c ≡ false))))))))
  unfolding refusal_of lines refusal_number
  no_shared_ring_exactly = simp (not_is_true, not_is_false) at (given_exactly 7 no_shared_ring (lines caps s c) refl)

  -- none of the eight causes
  pub record NotRefused : Type 0 where
    pub cabinets_known_lem : cabinets_known s c ≡ true
    pub spans_known_lem : spans_known s c ≡ true
    pub different_cabinets : meets equal_cabinets s c ≡ true
    pub no_exchange_lem : meets already_exchange s c ≡ true
    pub some_duct_lem : meets no_duct s c ≡ true
    pub not_full : is_full caps s c ≡ false
    pub one_district : meets two_districts s c ≡ true
    pub one_ring : meets no_shared_ring s c ≡ true

  not_refused : NoneOf (lines caps s c) → NotRefused
  unfolding lines
  not_refused f =
      record {
        cabinets_known_lem = true_of_not_false _ f.0;
        spans_known_lem = true_of_not_false _ f.1.0;
        different_cabinets = true_of_not_false _ f.1.1.0;
        no_exchange_lem = true_of_not_false _ f.1.1.1.0;
        some_duct_lem = true_of_not_false _ f.1.1.1.1.0;
        not_full = f.1.1.1.1.1.0;
        one_district = true_of_not_false _ f.1.1.1.1.1.1.0;
        one_ring = true_of_not_false _ f.1.1.1.1.1.1.1.0;
      }

  no_line : NotRefused → NoneOf (lines caps s c)
  unfolding lines
  no_line n = (
    not_of_true n.cabinets_known_lem,
    (
      not_of_true n.spans_known_lem,
      (
        not_of_true n.different_cabinets,
        (not_of_true n.no_exchange_lem, (not_of_true n.some_duct_lem, (n.not_full, (not_of_true n.one_district, (not_of_true n.one_ring, tt))))),
      ),
    ),
  )

  -- a command is not refused exactly if none of the eight causes is there
  pub not_refused_exactly : (refusal_of caps s c ≡ none) ↔ NotRefused
  unfolding refusal_of
  not_refused_exactly = Iff.trans (none_exactly (lines caps s c)) (not_refused, no_line)

  -- every demand has its line in the table: a command that is not refused meets all its demands
  pub demands_met : refusal_of caps s c ≡ none → all_in (met s) (demands_of (facts c)) ≡ true
  unfolding meets
  demands_met e =
      let n = not_refused_exactly.0 e in
      each_met s (demands_of (facts c)) n.different_cabinets n.no_exchange_lem n.some_duct_lem n.one_district n.one_ring

module _ (caps : Capacities) (s : State) where
  -- a command that was read is refused exactly as the table says
  pub table_decides : (c : Command) (width : ℕ) (r : Refusal) → RefusedFor caps s (command c width) r ↔ (refusal_of caps s c ≡ some r)
  table_decides c width r = (go, for_command)
    where
      go : {c : Command} {width : ℕ} {r : Refusal} → RefusedFor caps s (command c width) r → refusal_of caps s c ≡ some r
      go (for_command e) = e

  -- what is read is refused for one cause
  pub refused_for_one : {read : Reading} {r q : Refusal} → RefusedFor caps s read r → RefusedFor caps s read q → r ≡ q
  refused_for_one for_byte for_byte = refl
  refused_for_one for_operands for_operands = refl
  refused_for_one (for_command e) (for_command d) = cc

  -- what is read is refused at its stage
  pub refused_stage : {read : Reading} {r : Refusal} → RefusedFor caps s read r → Between 1 2 r
  unfolding stage
  refused_stage for_byte = record { from = omega arith; to = omega arith }
  refused_stage for_operands = record { from = omega arith; to = omega arith }
  refused_stage (for_command {c = c} {q = r} d) =
      let n = table_stage caps s c r d in
      record { from = omega arith; to = omega arith }

  on_unknown_byte : {read : Reading} → RefusedFor caps s read bad_byte → read ≡ unknown_byte
  unfolding stage
  on_unknown_byte for_byte = refl
  on_unknown_byte (for_command {c = c} e) = absurd (omega (arith, (table_stage caps s c bad_byte e).from))

  on_cut_off : {read : Reading} → RefusedFor caps s read cut_operands → read ≡ cut_off
  unfolding stage
  on_cut_off for_operands = refl
  on_cut_off (for_command {c = c} e) = absurd (omega (arith, (table_stage caps s c cut_operands e).from))

  -- bad byte: the byte is no command's
  pub bad_byte_exactly : (byte : ℕ) (bytes : List ℕ)
      → RefusedFor caps s (read_command byte bytes) bad_byte ↔ (is_command byte ≡ false)
  bad_byte_exactly byte bytes = Iff.trans (on_unknown_byte, λ e. rw e for_byte) (no_command_exactly byte bytes)

  -- cut operands: the byte is a command's, and its operands are longer than what follows
  pub cut_operands_exactly : (byte : ℕ) (bytes : List ℕ) → RefusedFor caps s (read_command byte bytes) cut_operands
      ↔ ((is_command byte ≡ true) × (length bytes < width_of (form byte)))
  cut_operands_exactly byte bytes = Iff.trans (on_cut_off, λ e. rw e for_operands) (cut_off_exactly byte bytes)
