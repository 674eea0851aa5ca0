-- The forecast to the byte, against runs with buffers that are long enough: what is promised of its length and of its refusals, that it is no
-- longer than the first forecast, and what it says of the journal's front.
use mathlib.Core.Bool.{true, false}
use mathlib.Core.List.{List}
use mathlib.Core.Logic.{◌↔◌, ◌⊎◌, inl, inr, ◌≢◌}
use mathlib.Core.Option.{Option, none}
use mathlib.Core.Path.{◌≡◌, refl, sym, ◌∙◌, ap, subst}
use Prim.Native.Nat.{ℕ, ◌+◌, ◌≤◌, ◌<◌}
use native.Mathlib.Nat.{suc-add}
use native.Mathlib.Omega.{arith}
use lib.Dec.{ltb}
use lib.ListN.{length, get_or, take}
use lib.Seq.{length-take-le}
use Rattle.graph.specs.Route.{Choice}
use Rattle.graph.proofs.Truth.{true_or_false, or_neither, ltb_ge, ge_ltb}
use Rattle.naming.specs.State.{State, empty_state}
use Rattle.commands.specs.Refusal.{Refusal, Capacities, first_that_applies}
use Rattle.commands.specs.Text.{text_of}
use Rattle.commands.specs.Run.{Accepted, place_after}
use Rattle.commands.specs.Entry.{work_needed, good_capacities, short_buffers, start_lines, report_of, over, Buffers, outcome, entry_under}
use Rattle.commands.specs.Register.{register_rule, register_routes, register, ample_run}
use Rattle.commands.specs.Forecast.{forecast}
use Rattle.commands.specs.Exact.{exact_run, exact_forecast, LongEnough, ToTheByte, RefusedAlike}
use Rattle.commands.proofs.Cases.{le_or_gt}
use Rattle.commands.proofs.Room.{RoomForAll, CutAt, cut_where_no_room, not_cut}
use Rattle.commands.proofs.Steps.{RunsTo, ends, refuses, accepts, accepted_width_fits, steps_are_the_run}
use Rattle.commands.proofs.ReadFront.{read_of_front, behind_of_front}
use Rattle.commands.proofs.Place.{whole_run_steps}
use Rattle.commands.proofs.TextRun.{NotOfCommand, run_ends_as_text}
use Rattle.commands.proofs.Returned.{whole, WellStarted, eleven_exactly, nought_exactly}
use Rattle.commands.proofs.WholeRun.{register-mates, register_serves}
use Rattle.commands.proofs.ForecastExactly.{forecast_of_whole}
use Rattle.commands.proofs.ForecastRoom.{room_for_text}
use Rattle.journal.proofs.ExactForecast.{ample, needed, Starts, StartsAlike, same_run, starts_alike, number_as_run, ample_buffers, exact_two_exactly, exact_nought_exactly}
use Rattle.journal.proofs.ExactEnds.{exact_run-made, exact_of_whole, starts_beyond, exact_with_nought, exact_stopped_lem, exact_place_in_journal}

-- capacities, a journal and the length of the working table
module _ (caps : Capacities) (journal : List ℕ) (n : ℕ) where
  -- with long enough buffers a run starts where the forecast does
  starts_long_enough : Starts caps journal n → (lent : Buffers) → LongEnough caps lent
      → WellStarted register_rule register_routes caps journal lent
  unfolding short_buffers
  starts_long_enough w lent long =
      record {
        good_capacities_lem = w.good_capacities_lem;
        long_buffers = or_neither (ge_ltb (length lent.work) (work_needed caps) long.0) (ge_ltb (length lent.report) 6 long.1);
        short_journal = w.short_journal;
      }

  -- and meets 11 exactly with less room than all answers take
  eleven_below : Starts caps journal n → (lent : Buffers) → LongEnough caps lent
      → ((register caps journal lent).returned ≡ 11) ↔ (length lent.answers < needed caps journal)
  unfolding register ample_run
  eleven_below w lent long = (
    λ e. less (le_or_gt (needed caps journal) (length lent.answers)) e,
    λ h. cut h (cut_where_no_room (length lent.answers) l),
  )
    where
      l : List Accepted
      l = (ample caps journal).accepted

      less : (needed caps journal ≤ length lent.answers) ⊎ (length lent.answers < needed caps journal)
          → (register caps journal lent).returned ≡ 11 → length lent.answers < needed caps journal
      less (inl room) e = absurd (not_cut (length lent.answers) l room ((eleven_exactly register_rule register_routes caps journal lent).0 e).1)
      less (inr h) e = h

      cut : length lent.answers < needed caps journal → RoomForAll (length lent.answers) l ⊎ CutAt (length lent.answers) l
          → (register caps journal lent).returned ≡ 11
      cut h (inl room) = absurd (omega (arith, h, room))
      cut h (inr at) = (eleven_exactly register_rule register_routes caps journal lent).1 (starts_long_enough w lent long, at)

  -- its start is decided as the forecast's, unless that is refused with 2
  alike_if_long : (exact_forecast caps journal n).number ≢ 2 → (lent : Buffers) → LongEnough caps lent → StartsAlike caps journal n lent
  unfolding start_lines first_that_applies
  alike_if_long not_two lent long = go (true_or_false (good_capacities caps)) (true_or_false (ltb n (work_needed caps)))
    where
      go : (good_capacities caps ≡ true) ⊎ (good_capacities caps ≡ false)
          → (ltb n (work_needed caps) ≡ true) ⊎ (ltb n (work_needed caps) ≡ false)
          → StartsAlike caps journal n lent
      go (inr bad) t = rw bad
      go (inl good) (inl short) = absurd (not_two ((exact_two_exactly caps journal n).1 (good, short)))
      go (inl good) (inr fits) =
          starts_alike caps journal n lent (ge_ltb (length lent.work) (work_needed caps) long.0 ∙ sym fits) long.1

  -- the report of a run that is the forecast's
  reported : Starts caps journal n → (lent : Buffers) → whole register_rule register_routes caps journal lent ≡ exact_run caps journal n
      → (register caps journal lent).buffers.report ≡ over (report_of register_rule (ample caps journal)) lent.report
  unfolding register entry_under outcome
  reported w lent same = rw (same ∙ exact_run-made caps journal n w)

  -- Accepted: its length is what a run with long enough buffers takes, to the byte.
  pub exact_to_the_byte : (exact_forecast caps journal n).number ≡ 0 → (lent : Buffers) → LongEnough caps lent
      → ToTheByte caps journal (exact_forecast caps journal n).length lent
  unfolding register ample_run over report_of
  exact_to_the_byte e lent long =
      rw (exact_with_nought caps journal n e) (
      record {
        accepted = taken;
        written = λ room.
            ap (λ l. get_or l 3 0)
            (reported w lent (same_run caps journal n lent alike (λ eleven. omega (arith, taken room, eleven))));
        meets_eleven = (eleven_below w lent long).1;
      }
      )
    where
      w : Starts caps journal n
      w = ((exact_nought_exactly caps journal n).0 e).0

      alike : StartsAlike caps journal n lent
      alike = alike_if_long (λ two. omega (arith, e, two)) lent long

      taken : needed caps journal ≤ length lent.answers → (register caps journal lent).returned ≡ 0
      taken room =
          (nought_exactly register_rule register_routes caps journal lent).1
          (starts_long_enough w lent long, (room, ((exact_nought_exactly caps journal n).0 e).1))

  -- Refused, but not for its own table: a run with long enough buffers is refused alike, unless it meets 11. (It is accepted alike, too.)
  pub exact_refused_alike : (exact_forecast caps journal n).number ≢ 2 → (lent : Buffers) → LongEnough caps lent
      → RefusedAlike caps journal (exact_forecast caps journal n).number (exact_forecast caps journal n).place lent
  unfolding over report_of
  exact_refused_alike not_two lent long =
      record {
        same_number = λ never. sym (number_as_run caps journal n lent alike never);
        same_place = λ never beyond.
            ap (λ l. get_or l 1 0) (reported (starts_beyond caps journal n beyond) lent (same_run caps journal n lent alike never))
            ∙ sym (ap (λ f. f.place) (exact_stopped_lem caps journal n beyond));
      }
    where
      alike : StartsAlike caps journal n lent
      alike = alike_if_long not_two lent long

  -- Accepted: the first forecast accepts the journal too, and its length is no shorter.
  pub exact_no_longer : (exact_forecast caps journal n).number ≡ 0
      → ((forecast journal).number ≡ 0) × ((exact_forecast caps journal n).length ≤ (forecast journal).length)
  unfolding ample_run
  exact_no_longer e =
      let (w, accepted) = (exact_nought_exactly caps journal n).0 e in
      let read = (run_ends_as_text register_routes caps (empty_state register_rule) (text_of journal) (subst NotOfCommand (sym accepted) tt)).0 in
      rw
      (exact_with_nought caps journal n e, forecast_of_whole journal w.short_journal (sym read ∙ accepted))
      (refl, room_for_text register_rule register-mates register_routes register_serves caps journal (ample_buffers caps journal n))

-- the journal up to where the accepted commands end is accepted whole, with the same answers
front_runs : (choice : Choice) (caps : Capacities) {s : State} {journal : List ℕ} {l : List Accepted} {end : Option Refusal}
    → RunsTo choice caps s journal l end → RunsTo choice caps s (take (place_after l) journal) l none
unfolding place_after
front_runs choice caps ends = ends
front_runs choice caps (refuses e) = ends
front_runs choice caps (accepts {byte = byte} {bytes = bytes} {a = a} {later = later} w rest) =
    let m = a.width + place_after later in
    let behind = behind_of_front a.width (place_after later) bytes (accepted_width_fits choice caps _ byte bytes a w) in
    rw
    (suc-add a.width (place_after later))
    (accepts
    (record {
      was_read = read_of_front byte bytes a.command a.width m w.was_read (omega arith);
      not_refused = w.not_refused;
      answered = w.answered;
    })
    (rw (← behind) at (front_runs choice caps rest)))

-- capacities, a journal that is refused behind the start, and the length of the working table
module _ (caps : Capacities) (journal : List ℕ) (n : ℕ) where
  -- its front up to the place of the refusal
  abbrev pub before : List ℕ
  before = take (exact_forecast caps journal n).place journal

  -- it is accepted with the same answers
  ample_before : 3 < (exact_forecast caps journal n).number → ample caps before ≡ record { accepted = (ample caps journal).accepted; refusal = none }
  unfolding ample_run text_of
  ample_before beyond =
      rw
      (exact_stopped_lem caps journal n beyond)
      (steps_are_the_run register_routes caps 0
      (front_runs register_routes caps (whole_run_steps register_routes caps (empty_state register_rule) journal)))

  -- Stopped: the front is forecast at that place, with the bytes of the answers before it, and with long enough buffers a run of the whole
  -- journal meets 11 exactly with less room than that.
  pub exact_before : 3 < (exact_forecast caps journal n).number
      → (exact_forecast caps before n ≡ record { number = 0; place = (exact_forecast caps journal n).place; length = needed caps journal })
      × ((lent : Buffers) → LongEnough caps lent
      → ((register caps journal lent).returned ≡ 11) ↔ (length lent.answers < (exact_forecast caps before n).length))
  exact_before beyond = (front, λ lent long. rw front (eleven_below caps journal n (starts_beyond caps journal n beyond) lent long))
    where
      w : Starts caps journal n
      w = starts_beyond caps journal n beyond

      size : length before ≡ (exact_forecast caps journal n).place
      size = length-take-le _ journal (exact_place_in_journal caps journal n)

      starts : Starts caps before n
      starts =
          record {
            good_capacities_lem = w.good_capacities_lem;
            long_buffers = w.long_buffers;
            short_journal =
                ge_ltb 65536 (length before)
                (omega (arith, size, exact_place_in_journal caps journal n, ltb_ge 65536 (length journal) w.short_journal));
          }

      front : exact_forecast caps before n ≡ record { number = 0; place = (exact_forecast caps journal n).place; length = needed caps journal }
      front = exact_of_whole caps before n starts (ap (λ r. r.refusal) (ample_before beyond)) ∙ rw (size, ample_before beyond) refl
