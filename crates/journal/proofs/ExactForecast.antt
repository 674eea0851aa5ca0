-- The forecast to the byte (request 11): it returns what a run with ample room returns, and so each number exactly for its cause.
use mathlib.Core.Bool.{Bool, true, false, ◌||◌}
use mathlib.Core.List.{List}
use mathlib.Core.Logic.Iff
use mathlib.Core.Logic.{◌↔◌, ◌⊎◌, inl, inr, ◌≢◌}
use mathlib.Core.Option.{Option, none, some}
use mathlib.Core.Path.{◌≡◌, refl, sym, ◌∙◌, ap}
use Prim.Native.Nat.{ℕ, ◌≤◌}
use native.Mathlib.Nat.{le_of_eq}
use native.Mathlib.Omega.{arith}
use lib.Dec.{ltb}
use lib.ListN.{length, replicate, length-replicate}
use Rattle.graph.proofs.Truth.{ge_ltb}
use Rattle.naming.specs.State.{empty_state}
use Rattle.commands.specs.Refusal.{Refusal, refusal_number, Capacities, first_that_applies}
use Rattle.commands.specs.Run.{Run, run_within, bytes_of_answers}
use Rattle.commands.specs.Entry.{work_needed, good_capacities, short_buffers, start_lines, Whole, refused_at_start, ran, whole_unless, whole_run, number_of, Buffers, outcome, entry_under}
use Rattle.commands.specs.Register.{register_rule, register_routes, register, ample_run}
use Rattle.commands.specs.Forecast.{no_forecast}
use Rattle.commands.specs.Exact.{exact_run, exact_of, exact_forecast}
use Rattle.commands.proofs.Table.{Between}
use Rattle.commands.proofs.Room.{RoomForAll, CutAt, cut_where_no_room, all_fit_whole, not_cut}
use Rattle.commands.proofs.Place.{RefusedAt}
use Rattle.commands.proofs.Start.{StartsWell, start_decides, refused_or_ran}
use Rattle.commands.proofs.Returned.{whole, WellStarted, one_exactly, two_exactly, three_exactly, eleven_exactly, read_returned_exactly, nought_exactly}

-- what is told of a whole run has the number that the entry returns for it
number_of_lem : (caps : Capacities) (end : ℕ) (lent : Buffers) (w : Whole) → (exact_of end w).number ≡ (outcome register_rule caps lent w).returned
unfolding exact_of outcome no_forecast number_of
number_of_lem caps end lent (refused_at_start r) = refl
number_of_lem caps end lent (ran run) = go run.refusal refl
  where
    go : (o : Option Refusal) → run.refusal ≡ o → (exact_of end (ran run)).number ≡ number_of run.refusal
    go (some r) e = rw (e, exact_of)
    go none e = rw (e, exact_of)

-- capacities and a journal
module _ (caps : Capacities) (journal : List ℕ) where
  -- the run with ample room
  abbrev pub ample : Run
  ample = ample_run register_routes caps journal

  -- the bytes that all its answers take
  abbrev pub needed : ℕ
  needed = length (bytes_of_answers ample.accepted)

-- capacities, a journal and the length of the working table
module _ (caps : Capacities) (journal : List ℕ) (n : ℕ) where
  -- none of the causes at the start: the capacities are good, the table is long enough, and the journal is not too long
  abbrev pub Starts : Type 0
  Starts = StartsWell caps (length journal) n 6

  -- the start of a run with these buffers is decided as that of the forecast
  abbrev pub StartsAlike : Buffers → Type 0
  StartsAlike lent =
      first_that_applies (start_lines caps (length journal) (length lent.work) (length lent.report))
      ≡ first_that_applies (start_lines caps (length journal) n 6)

  -- unless it meets 11, that run is the one that the forecast makes
  pub same_run : (lent : Buffers) → StartsAlike lent → (register caps journal lent).returned ≢ 11
      → whole register_rule register_routes caps journal lent ≡ exact_run caps journal n
  unfolding register exact_run whole_run whole_unless run_within ample_run
  same_run lent same never =
      go
      (refused_or_ran register_rule register_routes caps journal _ _ _)
      (cut_where_no_room (length lent.answers) (ample caps journal).accepted)
    where
      go : ((r : Refusal) × (whole register_rule register_routes caps journal lent ≡ refused_at_start r))
          ⊎ WellStarted register_rule register_routes caps journal lent
          → RoomForAll (length lent.answers) (ample caps journal).accepted ⊎ CutAt (length lent.answers) (ample caps journal).accepted
          → whole register_rule register_routes caps journal lent ≡ exact_run caps journal n
      go start (inl room) = rw (all_fit_whole (length lent.answers) (ample caps journal).accepted (ample caps journal).refusal room, same)
      go (inl (r, e)) (inr cut) =
          let refused = (start_decides register_rule register_routes caps journal _ _ _ r).0 e in
          e ∙ rw (sym same ∙ refused) refl
      go (inr w) (inr cut) = absurd (never ((eleven_exactly register_rule register_routes caps journal lent).1 (w, cut)))

  -- of the buffers the table alone can be too short
  pub short_table : short_buffers caps n 6 ≡ ltb n (work_needed caps)
  unfolding short_buffers
  short_table = go (ltb n (work_needed caps))
    where
      go : (b : Bool) → (b || ltb 6 6) ≡ b
      go true = refl
      go false = refl

  -- A run as the forecast makes it: its working table is too short exactly if the forecast's is, its report is long enough, and it does not
  -- meet 11.
  pub record Likewise (lent : Buffers) : Type 0 where
    pub table_alike : ltb (length lent.work) (work_needed caps) ≡ ltb n (work_needed caps)
    pub long_report : 6 ≤ length lent.report
    pub not_eleven : (register caps journal lent).returned ≢ 11

  -- such a start is decided alike
  pub starts_alike : (lent : Buffers) → ltb (length lent.work) (work_needed caps) ≡ ltb n (work_needed caps) → 6 ≤ length lent.report
      → StartsAlike lent
  unfolding start_lines short_buffers
  starts_alike lent e h = rw (e, ge_ltb (length lent.report) 6 h)

  -- and a run with such a start returns the forecast's number, unless it meets 11
  pub number_as_run : (lent : Buffers) → StartsAlike lent → (register caps journal lent).returned ≢ 11
      → (exact_forecast caps journal n).number ≡ (register caps journal lent).returned
  unfolding exact_forecast register entry_under
  number_as_run lent same never =
      number_of_lem caps (length journal) lent (exact_run caps journal n)
      ∙ ap (λ w. (outcome register_rule caps lent w).returned) (sym (same_run lent same never))

  -- The forecast returns what a run as it makes it returns.
  pub exact_as_run : (lent : Buffers) → Likewise lent → (exact_forecast caps journal n).number ≡ (register caps journal lent).returned
  exact_as_run lent as_here = number_as_run lent (starts_alike lent as_here.table_alike as_here.long_report) as_here.not_eleven

  -- So it returns each number exactly where that run does, and so exactly for its cause (`four_exactly` to `fourteen_exactly`).
  pub exact_exactly : (lent : Buffers) → Likewise lent → (k : ℕ)
      → ((exact_forecast caps journal n).number ≡ k) ↔ ((register caps journal lent).returned ≡ k)
  exact_exactly lent as_here k = (λ e. sym (exact_as_run lent as_here) ∙ e, λ e. exact_as_run lent as_here ∙ e)

  -- There is such a run: with just the room that all answers take.
  abbrev pub ample_buffers : Buffers
  ample_buffers = record { work = replicate n 0; answers = replicate (needed caps journal) 0; report = replicate 6 0 }

  pub ample_buffers_lem : Likewise ample_buffers
  unfolding ample_run register
  ample_buffers_lem =
      record {
        table_alike = ap (λ k. ltb k (work_needed caps)) (length-replicate {A = ℕ} n 0);
        long_report = omega arith;
        not_eleven = λ e.
            not_cut (length ample_buffers.answers) (ample caps journal).accepted
            (le_of_eq (sym (length-replicate {A = ℕ} (needed caps journal) 0)))
            ((eleven_exactly register_rule register_routes caps journal ample_buffers).0 e).1;
      }

  -- It never returns 11.
  pub exact_never_eleven : (exact_forecast caps journal n).number ≢ 11
  exact_never_eleven e = ample_buffers_lem.not_eleven ((exact_exactly ample_buffers ample_buffers_lem 11).0 e)

  -- 1: C or S is out of its range
  pub exact_one_exactly : ((exact_forecast caps journal n).number ≡ 1) ↔ (good_capacities caps ≡ false)
  unfolding register
  exact_one_exactly =
      Iff.trans (exact_exactly ample_buffers ample_buffers_lem 1) (one_exactly register_rule register_routes caps journal ample_buffers)

  -- 2: the capacities are good, and the working table is too short
  pub exact_two_exactly : ((exact_forecast caps journal n).number ≡ 2)
      ↔ ((good_capacities caps ≡ true) × (ltb n (work_needed caps) ≡ true))
  unfolding register
  exact_two_exactly =
      Iff.trans
      (exact_exactly ample_buffers ample_buffers_lem 2)
      (rw (length-replicate {A = ℕ} n 0, short_table) at (two_exactly register_rule register_routes caps journal ample_buffers))

  -- 3: neither, and the journal is too long
  pub exact_three_exactly : ((exact_forecast caps journal n).number ≡ 3)
      ↔ ((good_capacities caps ≡ true) × ((ltb n (work_needed caps) ≡ false) × (ltb 65536 (length journal) ≡ true)))
  unfolding register
  exact_three_exactly =
      Iff.trans
      (exact_exactly ample_buffers ample_buffers_lem 3)
      (rw (length-replicate {A = ℕ} n 0, short_table) at (three_exactly register_rule register_routes caps journal ample_buffers))

  -- that run has room for all answers
  without_room : {X : Type 0}
      → (WellStarted register_rule register_routes caps journal ample_buffers
      × (RoomForAll (length ample_buffers.answers) (ample caps journal).accepted × X))
      ↔ (Starts × X)
  without_room = (
    λ f. (rw (length-replicate {A = ℕ} n 0) at f.0, f.1.1),
    λ f. (rw (length-replicate {A = ℕ} n 0) f.0, (le_of_eq (sym (length-replicate {A = ℕ} (needed caps journal) 0)), f.1)),
  )

  -- 0: none of these, and the run with ample room is not refused
  pub exact_nought_exactly : ((exact_forecast caps journal n).number ≡ 0) ↔ (Starts × ((ample caps journal).refusal ≡ none))
  unfolding register ample_run
  exact_nought_exactly =
      Iff.trans
      (exact_exactly ample_buffers ample_buffers_lem 0)
      (Iff.trans (nought_exactly register_rule register_routes caps journal ample_buffers) without_room)

  -- 4 to 10 and 12 to 14: none of these, and the command where the accepted ones end is refused so
  pub exact_stopped_exactly : (r : Refusal) → Between 1 2 r
      → ((exact_forecast caps journal n).number ≡ refusal_number r)
      ↔ (Starts × RefusedAt caps (empty_state register_rule) journal (ample caps journal).accepted r)
  unfolding register ample_run
  exact_stopped_exactly r h =
      Iff.trans
      (exact_exactly ample_buffers ample_buffers_lem (refusal_number r))
      (Iff.trans (read_returned_exactly register_rule register_routes caps journal ample_buffers r h) without_room)
