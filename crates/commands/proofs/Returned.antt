-- The returned number: which run it stands for.
use mathlib.Core.Bool.{true, false}
use mathlib.Core.List.{List}
use mathlib.Core.Logic.Iff
use mathlib.Core.Logic.{◌↔◌, ◌⊎◌, inl, inr, ◌≢◌}
use mathlib.Core.Option.{Option, none, some}
use mathlib.Core.Path.{◌≡◌, refl, sym, ◌∙◌, ap, subst}
use Prim.Native.Nat.{ℕ, ◌≤◌, ◌<◌}
use native.Mathlib.Omega.{arith}
use lib.Dec.{ltb}
use lib.ListN.{length}
use Rattle.graph.specs.Network.{Rule}
use Rattle.graph.specs.Route.{Choice}
use Rattle.naming.specs.State.{State, empty_state}
use Rattle.commands.specs.Command.{Command, form, read_command}
use Rattle.commands.specs.Refusal.{Refusal, bad_capacity, short_buffer, long_journal, bad_byte, cut_operands, unknown_cabinet, unknown_span, equal_cabinets, full, two_districts, no_room, already_exchange, no_duct, no_shared_ring, refusal_number, Capacities, cabinets_known, spans_known, meets, is_full, refusal_of}
use Rattle.commands.specs.Text.{text_of}
use Rattle.commands.specs.Run.{Run, run_text, fitting, run_within}
use Rattle.commands.specs.Entry.{good_capacities, short_buffers, Whole, refused_at_start, whole_run, number_of, Buffers, outcome, entry_under}
use Rattle.commands.proofs.Room.{RoomForAll, CutAt, cut_where_no_room, all_fit_whole, cut_at-stop}
use Rattle.commands.proofs.Reading.{is_command, width_of}
use Rattle.commands.proofs.Cases.{impossible}
use Rattle.commands.proofs.Steps.{RefusedFor}
use Rattle.commands.proofs.StateAfter.{state_fed}
use Rattle.commands.proofs.Place.{RefusedAt, refused_at_place, refused_exactly, StopsWithin, stops_within}
use Rattle.commands.proofs.Table.{same_number, number_above_zero, stage, Between}
use Rattle.commands.proofs.Causes.{unknown_cabinet_exactly, unknown_span_exactly, equal_cabinets_exactly, already_exchange_exactly, no_duct_exactly, full_exactly, two_districts_exactly, no_shared_ring_exactly, bad_byte_exactly, cut_operands_exactly, refused_stage}
use Rattle.commands.proofs.Refused.{ByteAt, CommandAt, byte_refused_exactly, command_refused_exactly}
use Rattle.commands.proofs.Start.{StartsWell, start_stage, bad_capacity_exactly, short_buffer_exactly, long_journal_exactly, ran_exactly, refused_or_ran}

-- a refusal's number is returned for that refusal alone
pub number_exactly : (o : Option Refusal) (r : Refusal) → (number_of o ≡ refusal_number r) ↔ (o ≡ some r)
unfolding number_of
number_exactly none r = (λ e. absurd (omega (arith, number_above_zero r)), λ e. impossible (cc))
number_exactly (some s) r = (λ e. ap some (same_number s r e), λ e. ap number_of e)

-- 0 is returned where there is no refusal
pub zero_exactly : (o : Option Refusal) → (number_of o ≡ 0) ↔ (o ≡ none)
unfolding number_of
zero_exactly none = (λ e. refl, λ e. refl)
zero_exactly (some s) = (λ e. absurd (omega (arith, number_above_zero s)), λ e. impossible (cc))

-- the run within the room, against the run without regard to room
module _ (room : ℕ) (choice : Choice) (caps : Capacities) (s : State) (journal : List ℕ) where
  -- it is refused for want of room exactly if the next answer does not fit
  pub no_room_exactly : ((run_within room choice caps s (text_of journal)).refusal ≡ some no_room)
      ↔ CutAt room (run_text choice caps s (text_of journal)).accepted
  unfolding run_within stage
  no_room_exactly = (λ e. go e (cut_where_no_room room all.accepted), λ c. rw (cut_at-stop room all.accepted all.refusal c))
    where
      all : Run
      all = run_text choice caps s (text_of journal)

      go : (fitting room all.accepted all.refusal).refusal ≡ some no_room
          → RoomForAll room all.accepted ⊎ CutAt room all.accepted → CutAt room all.accepted
      go e (inl w) =
          let at = refused_at_place choice caps s journal (rw (all_fit_whole room all.accepted all.refusal w) at e) in
          absurd (omega (arith, (refused_stage caps _ at.is_so).to))
      go e (inr c) = c

  -- it ends in any other way exactly if all answers fit and the run without regard to room ends so
  pub otherwise_exactly : (end : Option Refusal) → end ≢ some no_room → ((run_within room choice caps s (text_of journal)).refusal ≡ end)
      ↔ (RoomForAll room (run_text choice caps s (text_of journal)).accepted × ((run_text choice caps s (text_of journal)).refusal ≡ end))
  unfolding run_within
  otherwise_exactly end n = (
    λ e. go e (cut_where_no_room room all.accepted),
    λ f. rw (all_fit_whole room all.accepted all.refusal f.0) f.1,
  )
    where
      all : Run
      all = run_text choice caps s (text_of journal)

      go : (fitting room all.accepted all.refusal).refusal ≡ end
          → RoomForAll room all.accepted ⊎ CutAt room all.accepted → RoomForAll room all.accepted × (all.refusal ≡ end)
      go e (inl w) = (w, rw (all_fit_whole room all.accepted all.refusal w) at e)
      go e (inr c) = absurd (n (sym e ∙ ap (λ (r : Run). r.refusal) (cut_at-stop room all.accepted all.refusal c)))

  -- it is refused at no earlier stage
  pub run_stage : (r : Refusal) → (run_within room choice caps s (text_of journal)).refusal ≡ some r → Between 1 3 r
  unfolding stage
  run_stage r e = go (stops_within room choice caps s journal)
    where
      go : StopsWithin room choice caps s journal (run_within room choice caps s (text_of journal)) → Between 1 3 r
      go (inl stops) =
          let at : RefusedAt caps s journal (run_within room choice caps s (text_of journal)).accepted r = rw e at stops in
          let n = refused_stage caps _ at.is_so in
          record { from = omega arith; to = omega arith }
      go (inr n) = let same : no_room ≡ r = cc n.0 in subst (Between 1 3) same (record { from = omega arith; to = omega arith })

-- the entry, with what it is handed
module _ (rule : Rule) (choice : Choice) (caps : Capacities) (journal : List ℕ) (lent : Buffers) where
  -- the whole run
  abbrev pub whole : Whole
  whole = whole_run rule choice caps journal (length lent.work) (length lent.answers) (length lent.report)

  -- the run within the answer buffer
  abbrev pub within : Run
  within = run_within (length lent.answers) choice caps (empty_state rule) (text_of journal)

  -- the run without regard to room
  abbrev pub unbounded : Run
  unbounded = run_text choice caps (empty_state rule) (text_of journal)

  -- none of the causes at the start
  abbrev pub WellStarted : Type 0
  WellStarted = StartsWell caps (length journal) (length lent.work) (length lent.report)

  -- a run refused at the start returns that refusal's number
  pub returned_at_start : (r : Refusal) → whole ≡ refused_at_start r → (entry_under rule choice caps journal lent).returned ≡ refusal_number r
  unfolding entry_under outcome
  returned_at_start r e = rw e

  -- a run that starts returns the number of its own refusal, or 0
  pub returned_by_run : WellStarted → (entry_under rule choice caps journal lent).returned ≡ number_of within.refusal
  unfolding entry_under outcome
  returned_by_run w = rw ((ran_exactly rule choice caps journal _ _ _).1 w)

  -- a refusal's number is returned for a refusal at the start, or for one of the run
  returned_for : (r : Refusal) → (entry_under rule choice caps journal lent).returned ≡ refusal_number r
      → (whole ≡ refused_at_start r) ⊎ (WellStarted × (within.refusal ≡ some r))
  returned_for r e = go (refused_or_ran rule choice caps journal _ _ _)
    where
      go : ((s : Refusal) × (whole ≡ refused_at_start s)) ⊎ WellStarted → (whole ≡ refused_at_start r) ⊎ (WellStarted × (within.refusal ≡ some r))
      go (inl (s, d)) = inl (d ∙ ap refused_at_start (same_number s r (sym (returned_at_start s d) ∙ e)))
      go (inr w) = inr (w, (number_exactly within.refusal r).0 (sym (returned_by_run w) ∙ e))

  -- the numbers of the start are returned exactly where the start is refused so
  pub start_returned_exactly : (r : Refusal) → stage r ≤ 0
      → ((entry_under rule choice caps journal lent).returned ≡ refusal_number r) ↔ (whole ≡ refused_at_start r)
  start_returned_exactly r h = (λ e. go (returned_for r e), returned_at_start r)
    where
      go : (whole ≡ refused_at_start r) ⊎ (WellStarted × (within.refusal ≡ some r)) → whole ≡ refused_at_start r
      go (inl d) = d
      go (inr w) = absurd (omega (arith, (run_stage _ choice caps _ journal r w.1).from))

  -- 1: C or S is out of its range
  pub one_exactly : ((entry_under rule choice caps journal lent).returned ≡ 1) ↔ (good_capacities caps ≡ false)
  unfolding refusal_number stage
  one_exactly = Iff.trans (start_returned_exactly bad_capacity (omega arith)) (bad_capacity_exactly rule choice caps journal _ _ _)

  -- 2: the capacities are good, and the working table or the report is too short
  pub two_exactly : ((entry_under rule choice caps journal lent).returned ≡ 2)
      ↔ ((good_capacities caps ≡ true) × (short_buffers caps (length lent.work) (length lent.report) ≡ true))
  unfolding refusal_number stage
  two_exactly = Iff.trans (start_returned_exactly short_buffer (omega arith)) (short_buffer_exactly rule choice caps journal _ _ _)

  -- 3: neither, and the journal is too long
  pub three_exactly : ((entry_under rule choice caps journal lent).returned ≡ 3)
      ↔ ((good_capacities caps ≡ true)
      × ((short_buffers caps (length lent.work) (length lent.report) ≡ false) × (ltb 65536 (length journal) ≡ true)))
  unfolding refusal_number stage
  three_exactly = Iff.trans (start_returned_exactly long_journal (omega arith)) (long_journal_exactly rule choice caps journal _ _ _)

  -- the others are returned exactly where the run is refused so
  pub run_returned_exactly : (r : Refusal) → 1 ≤ stage r
      → ((entry_under rule choice caps journal lent).returned ≡ refusal_number r) ↔ (WellStarted × (within.refusal ≡ some r))
  run_returned_exactly r h = (
    λ e. go (returned_for r e),
    λ w. returned_by_run w.0 ∙ (number_exactly within.refusal r).1 w.1,
  )
    where
      go : (whole ≡ refused_at_start r) ⊎ (WellStarted × (within.refusal ≡ some r)) → WellStarted × (within.refusal ≡ some r)
      go (inl d) = absurd (omega (arith, (start_stage rule choice caps journal _ _ _ r d).to))
      go (inr w) = w

  -- 11: the run starts, and is cut before an answer for which there is no room
  pub eleven_exactly : ((entry_under rule choice caps journal lent).returned ≡ 11)
      ↔ (WellStarted × CutAt (length lent.answers) unbounded.accepted)
  unfolding refusal_number stage
  eleven_exactly =
      Iff.trans
      (run_returned_exactly no_room (omega arith))
      (Iff.and Iff.rfl (no_room_exactly (length lent.answers) choice caps (empty_state rule) journal))

  -- those of what is read: the run starts, all answers before it fit, and the command where they end is refused so
  pub read_returned_exactly : (r : Refusal) → Between 1 2 r → ((entry_under rule choice caps journal lent).returned ≡ refusal_number r)
      ↔ (WellStarted
      × (RoomForAll (length lent.answers) unbounded.accepted
      × RefusedAt caps (empty_state rule) journal unbounded.accepted r))
  unfolding stage
  read_returned_exactly r h =
      Iff.trans
      (run_returned_exactly r h.from)
      (Iff.and
      Iff.rfl
      (Iff.trans
      (otherwise_exactly (length lent.answers) choice caps (empty_state rule) journal (some r) not_room)
      (Iff.and Iff.rfl (refused_exactly choice caps (empty_state rule) journal r))))
    where
      not_room : some r ≢ some no_room
      not_room e = let same : r ≡ no_room = cc in omega (arith, ap stage same)

  -- the state after the commands before the one refused
  abbrev pub reached : State
  reached = state_fed (empty_state rule) unbounded.accepted

  -- the run starts, the answers before the refused command fit, and this is so of what stands there
  abbrev pub Stopped : Type 0 → Type 0
  Stopped X = WellStarted × (RoomForAll (length lent.answers) unbounded.accepted × X)

  -- the byte where the accepted commands end meets the cause
  abbrev pub StoppedAtByte : (ℕ → List ℕ → Type 0) → Type 0
  StoppedAtByte Cause = Stopped (ByteAt journal unbounded.accepted Cause)

  -- the command where the accepted commands end stands there whole, and meets the cause
  abbrev pub StoppedAtCommand : (Command → Type 0) → Type 0
  StoppedAtCommand Cause = Stopped (CommandAt journal unbounded.accepted Cause)

  byte_returned_exactly : (r : Refusal) → Between 1 2 r → (Cause : ℕ → List ℕ → Type 0)
      → ((byte : ℕ) (bytes : List ℕ) → RefusedFor caps reached (read_command byte bytes) r ↔ Cause byte bytes)
      → ((entry_under rule choice caps journal lent).returned ≡ refusal_number r) ↔ StoppedAtByte Cause
  byte_returned_exactly r h Cause f =
      Iff.trans
      (read_returned_exactly r h)
      (Iff.and Iff.rfl (Iff.and Iff.rfl (byte_refused_exactly caps (empty_state rule) journal unbounded.accepted r Cause f)))

  command_returned_exactly : (r : Refusal) → Between 2 2 r → (Cause : Command → Type 0)
      → ((c : Command) → (refusal_of caps reached c ≡ some r) ↔ Cause c)
      → ((entry_under rule choice caps journal lent).returned ≡ refusal_number r) ↔ StoppedAtCommand Cause
  command_returned_exactly r h Cause f =
      Iff.trans
      (read_returned_exactly r (record { from = omega arith; to = h.to }))
      (Iff.and
      Iff.rfl
      (Iff.and Iff.rfl (command_refused_exactly caps (empty_state rule) journal unbounded.accepted r Cause h.from f)))

  -- 4: the byte is no command's (`known_bytes` says which are)
  pub four_exactly : ((entry_under rule choice caps journal lent).returned ≡ 4)
      ↔ StoppedAtByte (λ byte bytes. is_command byte ≡ false)
  unfolding refusal_number stage
  four_exactly = byte_returned_exactly bad_byte (omega arith) _ (bad_byte_exactly caps reached)

  -- 5: the byte is a command's, and its operands are cut off by the journal's end
  pub five_exactly : ((entry_under rule choice caps journal lent).returned ≡ 5)
      ↔ StoppedAtByte (λ byte bytes. (is_command byte ≡ true) × (length bytes < width_of (form byte)))
  unfolding refusal_number stage
  five_exactly = byte_returned_exactly cut_operands (omega arith) _ (cut_operands_exactly caps reached)

  -- 6: the command is read whole, and a cabinet number is not yet given
  pub six_exactly : ((entry_under rule choice caps journal lent).returned ≡ 6) ↔ StoppedAtCommand (λ c. cabinets_known reached c ≡ false)
  unfolding refusal_number stage
  six_exactly = command_returned_exactly unknown_cabinet (omega arith) _ (unknown_cabinet_exactly caps reached)

  -- 7: the cabinet numbers are given, and a span number is not
  pub seven_exactly : ((entry_under rule choice caps journal lent).returned ≡ 7)
      ↔ StoppedAtCommand (λ c. (cabinets_known reached c ≡ true) × (spans_known reached c ≡ false))
  unfolding refusal_number stage
  seven_exactly = command_returned_exactly unknown_span (omega arith) _ (unknown_span_exactly caps reached)

  -- 8: all numbers are given, and two cabinets are equal that the command wants different
  pub eight_exactly : ((entry_under rule choice caps journal lent).returned ≡ 8)
      ↔ StoppedAtCommand
      (λ c. (cabinets_known reached c ≡ true) × ((spans_known reached c ≡ true) × (meets equal_cabinets reached c ≡ false)))
  unfolding refusal_number stage
  eight_exactly = command_returned_exactly equal_cabinets (omega arith) _ (equal_cabinets_exactly caps reached)

  -- 12: none of these, and a cabinet is an exchange that the command wants to be none
  pub twelve_exactly : ((entry_under rule choice caps journal lent).returned ≡ 12)
      ↔ StoppedAtCommand
      (λ c.
      (cabinets_known reached c ≡ true)
      × ((spans_known reached c ≡ true) × ((meets equal_cabinets reached c ≡ true) × (meets already_exchange reached c ≡ false))))
  unfolding refusal_number stage
  twelve_exactly = command_returned_exactly already_exchange (omega arith) _ (already_exchange_exactly caps reached)

  -- 13: none of these, and the duct is 0
  pub thirteen_exactly : ((entry_under rule choice caps journal lent).returned ≡ 13)
      ↔ StoppedAtCommand
      (λ c.
      (cabinets_known reached c ≡ true)
      × ((spans_known reached c ≡ true)
      × ((meets equal_cabinets reached c ≡ true) × ((meets already_exchange reached c ≡ true) × (meets no_duct reached c ≡ false)))))
  unfolding refusal_number stage
  thirteen_exactly = command_returned_exactly no_duct (omega arith) _ (no_duct_exactly caps reached)

  -- 9: none of these, and the command adds a cabinet to C cabinets or a span to S spans
  pub nine_exactly : ((entry_under rule choice caps journal lent).returned ≡ 9)
      ↔ StoppedAtCommand
      (λ c.
      (cabinets_known reached c ≡ true)
      × ((spans_known reached c ≡ true)
      × ((meets equal_cabinets reached c ≡ true)
      × ((meets already_exchange reached c ≡ true) × ((meets no_duct reached c ≡ true) × (is_full caps reached c ≡ true))))))
  unfolding refusal_number stage
  nine_exactly = command_returned_exactly full (omega arith) _ (full_exactly caps reached)

  -- 10: none of these, and two cabinets share no district that the command wants in one
  pub ten_exactly : ((entry_under rule choice caps journal lent).returned ≡ 10)
      ↔ StoppedAtCommand
      (λ c.
      (cabinets_known reached c ≡ true)
      × ((spans_known reached c ≡ true)
      × ((meets equal_cabinets reached c ≡ true)
      × ((meets already_exchange reached c ≡ true)
      × ((meets no_duct reached c ≡ true) × ((is_full caps reached c ≡ false) × (meets two_districts reached c ≡ false)))))))
  unfolding refusal_number stage
  ten_exactly = command_returned_exactly two_districts (omega arith) _ (two_districts_exactly caps reached)

  -- 14: none of these, and two cabinets share no ring that the command wants in one
  pub fourteen_exactly : ((entry_under rule choice caps journal lent).returned ≡ 14)
      ↔ StoppedAtCommand
      (λ c.
      (cabinets_known reached c ≡ true)
      × ((spans_known reached c ≡ true)
      × ((meets equal_cabinets reached c ≡ true)
      × ((meets already_exchange reached c ≡ true)
      × ((meets no_duct reached c ≡ true)
      × ((is_full caps reached c ≡ false) × ((meets two_districts reached c ≡ true) × (meets no_shared_ring reached c ≡ false))))))))
  unfolding refusal_number stage
  fourteen_exactly = command_returned_exactly no_shared_ring (omega arith) _ (no_shared_ring_exactly caps reached)

  -- 0: the run starts, all answers fit, and no command is refused
  pub nought_exactly : ((entry_under rule choice caps journal lent).returned ≡ 0)
      ↔ (WellStarted × (RoomForAll (length lent.answers) unbounded.accepted × (unbounded.refusal ≡ none)))
  nought_exactly =
      Iff.trans
      (λ e. go e (refused_or_ran rule choice caps journal _ _ _), λ w. returned_by_run w.0 ∙ (zero_exactly within.refusal).1 w.1)
      (Iff.and Iff.rfl (otherwise_exactly (length lent.answers) choice caps (empty_state rule) journal none (λ e. impossible (cc))))
    where
      go : (entry_under rule choice caps journal lent).returned ≡ 0 → ((s : Refusal) × (whole ≡ refused_at_start s)) ⊎ WellStarted
          → WellStarted × (within.refusal ≡ none)
      go e (inl (s, d)) = absurd (omega (arith, number_above_zero s, returned_at_start s d))
      go e (inr w) = (w, (zero_exactly within.refusal).0 (sym (returned_by_run w) ∙ e))
