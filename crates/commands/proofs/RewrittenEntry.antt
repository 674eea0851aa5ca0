-- What a planner sees of a journal that is rewritten: where no 0C is accepted, the run of the result returns the number that the journal's run
-- returned on the old reading, and leaves the same answers; routes serve in both readings alike; and with the room that is forecast nothing is
-- asked of the two runs.
use mathlib.Core.Bool.{Bool, true, not}
use mathlib.Core.List.{List, [], ◌∷◌, ◌++◌, map}
use mathlib.Core.Path.{◌≡◌, refl, sym, ap, ap₂}
use Prim.Native.Nat.{ℕ, zero, suc, ◌≤◌, ◌<◌}
use native.Mathlib.Omega.{arith}
use lib.Dec.{eqb}
use lib.ListN.{length, take}
use Rattle.graph.specs.Lists.{all_in}
use Rattle.graph.specs.Network.{same_duct}
use Rattle.graph.specs.Route.{Routes, serve, Choice, Serves}
use Rattle.graph.proofs.Truth.{and_left, and_right, false_of_not_true, eqb_ne}
use Rattle.graph.proofs.Ducts.{same_duct-mates}
use Rattle.naming.specs.State.{State}
use Rattle.commands.specs.Bytes.{all_bytes}
use Rattle.commands.specs.Forecast.{sufficient, forecast}
use Rattle.commands.specs.Command.{command_byte}
use Rattle.commands.specs.Refusal.{Capacities, refusal_number}
use Rattle.commands.specs.Run.{Accepted, bytes_of_answers}
use Rattle.commands.specs.Entry.{Whole, refused_at_start, ran, Buffers, whole_run, number_of, over, outcome}
use Rattle.commands.specs.Facts.{after, state_after}
use Rattle.commands.specs.Register.{register_rule}
use Rattle.commands.specs.Text.{commands_in}
use Rattle.commands.specs.Rewrite.{rewrite, AnsweredAlike, WholesAlike, Ample, AnsweredAsBefore}
use Rattle.commands.proofs.WholeRun.{register-mates}
use Rattle.commands.proofs.ForecastExactly.{forecast_of_whole, forecast_nought_exactly}
use Rattle.commands.proofs.RewriteExactly.{rewrite_nought_exactly}
use Rattle.commands.proofs.RewrittenText.{rewrite_answered}
use Rattle.commands.proofs.RewrittenRoom.{rewritten_forecast, forecast_is_ample}

-- none of the accepted commands is 0C
unfoldable pub routeless : List Accepted → Bool
routeless = all_in (λ a. not (eqb (command_byte a.command) 0x0C))

abbrev pub Routeless : Whole → Type 0
Routeless (refused_at_start r) = Unit
Routeless (ran run) = routeless run.accepted ≡ true

-- answers alike, none of them to a 0C, are the same bytes
bytes_alike : (s s' : State) (l l' : List Accepted) → AnsweredAlike s s' l l' → routeless l ≡ true → bytes_of_answers l' ≡ bytes_of_answers l
unfolding bytes_of_answers routeless all_in
bytes_alike s s' [] [] w free = refl
bytes_alike s s' [] (a' ∷ l') w free = absurd w
bytes_alike s s' (a ∷ l) [] w free = absurd w
bytes_alike s s' (a ∷ l) (a' ∷ l') w free =
    let other = not (eqb (command_byte a.command) 0x0C) in
    ap₂ ◌++◌
    (w.0.same_bytes (eqb_ne (command_byte a.command) 0x0C (false_of_not_true _ (and_left other _ free))))
    (bytes_alike (after s a.command) (after s' a'.command) l l' w.1 (and_right other _ free))

-- before each command the same two routes serve in both networks
pub pairs_alike : (s s' : State) (l l' : List Accepted) → AnsweredAlike s s' l l' → (i : ℕ) → i < length l → (x y : ℕ) (r : Routes)
    → serve (state_after s' (take i (map (λ a. a.command) l'))).book.network x y r
    ≡ serve (state_after s (take i (map (λ a. a.command) l))).book.network x y r
unfolding state_after
pairs_alike s s' [] l' w i h x y r = absurd (omega (arith, h))
pairs_alike s s' (a ∷ l) [] w i h x y r = absurd w
pairs_alike s s' (a ∷ l) (a' ∷ l') w zero h x y r = w.0.same_pairs x y r
pairs_alike s s' (a ∷ l) (a' ∷ l') w (suc i) h x y r = pairs_alike (after s a.command) (after s' a'.command) l l' w.1 i (omega (arith, h)) x y r

-- What whole runs return and leave, but for the report.
pub record SameSeen (caps : Capacities) (lent : Buffers) (old new : Whole) : Type 0 where
  pub same_returned : (outcome register_rule caps lent new).returned ≡ (outcome same_duct caps lent old).returned
  pub same_answers : (outcome register_rule caps lent new).buffers.answers ≡ (outcome same_duct caps lent old).buffers.answers
  pub same_work : (outcome register_rule caps lent new).buffers.work ≡ (outcome same_duct caps lent old).buffers.work

wholes_seen : (caps : Capacities) (lent : Buffers) (old new : Whole) → WholesAlike old new → Routeless old → SameSeen caps lent old new
unfolding outcome
wholes_seen caps lent (refused_at_start r) (refused_at_start r') w free =
    record { same_returned = ap refusal_number w; same_answers = refl; same_work = refl }
wholes_seen caps lent (refused_at_start r) (ran new) w free = absurd w
wholes_seen caps lent (ran old) (refused_at_start r') w free = absurd w
wholes_seen caps lent (ran old) (ran new) w free =
    record {
      same_returned = ap number_of w.same_refusal;
      same_answers = ap (λ l. over l lent.answers) (bytes_alike _ _ _ _ w.same_answers free);
      same_work = refl;
    }

-- So the entry under the register's rule returns and leaves for the result what the entry under the old rule does for the journal.
pub seen_as_before : (journal result : List ℕ) → AnsweredAsBefore journal result
    → (caps : Capacities) (old new : Choice) (lent : Buffers)
    → let before = whole_run same_duct old caps journal (length lent.work) (length lent.answers) (length lent.report) in
    let rewritten = whole_run register_rule new caps result (length lent.work) (length lent.answers) (length lent.report) in
    Ample before → Ample rewritten → Routeless before
    → SameSeen caps lent before rewritten
seen_as_before journal result w caps old new lent ample ample' free =
    wholes_seen caps lent _ _ (w caps old new _ _ _ _ ample ample') free

-- a journal that the forecast accepts is forecast what suffices for its commands
foretold : (journal : List ℕ) → (forecast journal).number ≡ 0 → sufficient (commands_in journal) ≡ (forecast journal).length
foretold journal e =
    let (short, whole) = (forecast_nought_exactly journal).0 e in
    sym (ap (λ f. f.length) (forecast_of_whole journal short whole))

-- With the room that is forecast for the journal, and with choices of routes that serve, the runs are alike: nothing is asked of them besides.
pub alike_in_forecast_room : (room : ℕ) (journal : List ℕ) → all_bytes journal ≡ true → (rewrite room journal).number ≡ 0
    → (caps : Capacities) (old new : Choice) → Serves same_duct old → Serves register_rule new
    → (work_length answers_length report_length : ℕ) → (forecast journal).length ≤ answers_length
    → WholesAlike
    (whole_run same_duct old caps journal work_length answers_length report_length)
    (whole_run register_rule new caps (rewrite room journal).result work_length answers_length report_length)
alike_in_forecast_room room journal are e caps old new serves serves' work_length answers_length report_length enough =
    let result = (rewrite room journal).result in
    let f = (rewrite_nought_exactly room journal).0 e in
    let g = rewritten_forecast room journal are e in
    rewrite_answered room journal are e caps old new work_length answers_length answers_length report_length
    (forecast_is_ample same_duct same_duct-mates old serves caps journal work_length answers_length report_length
    (omega (arith, enough, foretold journal f.0)))
    (forecast_is_ample register_rule register-mates new serves' caps result work_length answers_length report_length
    (omega (arith, enough, foretold result (ap (λ r. r.number) g), ap (λ r. r.length) g)))
