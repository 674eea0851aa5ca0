-- Places in a journal: each accepted command stands where the one before it ended, and a refused one begins where the accepted ones end.
use mathlib.Core.List.{List, [], ◌∷◌}
use mathlib.Core.Logic.{◌↔◌, ◌⊎◌, inl, inr}
use mathlib.Core.Option.{Option, none, some}
use mathlib.Core.Path.{◌≡◌, refl, sym, ◌∙◌, ap}
use Prim.Native.Nat.{ℕ, zero, suc, ◌+◌, ◌≤◌, ◌<◌}
use native.Mathlib.Nat.{suc-add, not-suc-le-zero, le_trans, le_of_eq}
use native.Mathlib.Omega.{arith}
use lib.ListN.{length, take, drop, get_elem?, length-drop, drop_of_length-le}
use lib.Seq.{drop-drop}
use Rattle.graph.specs.Route.{Choice}
use Rattle.naming.specs.State.{State}
use Rattle.commands.specs.Command.{read_command}
use Rattle.commands.specs.Refusal.{Refusal, no_room, Capacities}
use Rattle.commands.specs.Answer.{answer_bytes}
use Rattle.commands.specs.Text.{text_of}
use Rattle.commands.specs.Run.{Accepted, Run, run_text, fitting, run_within, bytes_of_answers, place_after}
use Rattle.commands.proofs.Cases.{impossible}
use Rattle.commands.proofs.Placed.{Stands}
use Rattle.commands.proofs.TextPlaces.{text_in_journal}
use Rattle.commands.proofs.TextRun.{run_place_in_text}
use Rattle.commands.proofs.Room.{RoomForAll, CutAt, cut_where_no_room, all_fit_whole, cut_at-stop, cut_before_end, Prefix, fitting_is_prefix}
use Rattle.commands.proofs.Steps.{RefusedFor, WasAccepted, RunsTo, ends, refuses, accepts, run_takes_steps, accepted_width_fits}
use Rattle.commands.proofs.StateAfter.{state_fed, fed_none, fed_more}
use Rattle.commands.proofs.Causes.{refused_for_one}

-- behind an accepted command the place counts on from the end of its operands
pub next_place : (a : Accepted) (later : List Accepted) (byte : ℕ) (bytes : List ℕ)
    → drop (place_after (a ∷ later)) (byte ∷ bytes) ≡ drop (place_after later) (drop a.width bytes)
unfolding place_after
next_place a later byte bytes = rw (suc-add a.width (place_after later)) (sym (drop-drop (place_after later) a.width bytes))

-- where the accepted commands end, in the state after them, stands a command that is refused
abbrev pub RefusedAt : Capacities → State → List ℕ → List Accepted → Refusal → Type 0
RefusedAt caps s journal l r = Stands (place_after l) journal (λ byte bytes. RefusedFor caps (state_fed s l) (read_command byte bytes) r)

-- the journal ends where the accepted commands end, or a command is refused there
abbrev pub StopsAt : Capacities → State → List ℕ → List Accepted → Option Refusal → Type 0
StopsAt caps s journal l none = place_after l ≡ length journal
StopsAt caps s journal l (some r) = RefusedAt caps s journal l r

-- every run stops in one of these two ways
pub stops_at_place : (choice : Choice) (caps : Capacities) {s : State} {journal : List ℕ} {l : List Accepted} (end : Option Refusal)
    → RunsTo choice caps s journal l end → StopsAt caps s journal l end
unfolding place_after
stops_at_place choice caps none ends = refl
stops_at_place choice caps (some r) (refuses {s = s} e) = record { byte = _; bytes = _; at_place = refl; is_so = rw (fed_none s) e }
stops_at_place choice caps none (accepts {s = s} {byte = byte} {bytes = bytes} {a = a} {later = later} e rest) =
    omega (arith, accepted_width_fits choice caps s byte bytes a e, simp length-drop at (stops_at_place choice caps none rest))
stops_at_place choice caps (some r) (accepts {s = s} {byte = byte} {bytes = bytes} {a = a} {later = later} e rest) =
    let there = stops_at_place choice caps (some r) rest in
    record {
      byte = there.byte;
      bytes = there.bytes;
      at_place = next_place a later byte bytes ∙ there.at_place;
      is_so = rw (fed_more s a later) there.is_so;
    }

-- accepted command k stands at its place, and is accepted in the state after the k commands before it
pub record AcceptedAt (choice : Choice) (caps : Capacities) (s : State) (journal : List ℕ) (l : List Accepted) (k : ℕ) : Type 0 where
  pub byte : ℕ
  pub bytes : List ℕ
  pub this : Accepted
  pub is_kth : get_elem? l k ≡ some this
  pub at_place : drop (place_after (take k l)) journal ≡ byte ∷ bytes
  pub accepts : WasAccepted choice caps (state_fed s (take k l)) (read_command byte bytes) this

-- so it is with every accepted command
pub accepted_at_place : (choice : Choice) (caps : Capacities) {s : State} {journal : List ℕ} {l : List Accepted} {end : Option Refusal}
    → RunsTo choice caps s journal l end → (k : ℕ) → k < length l → AcceptedAt choice caps s journal l k
unfolding place_after
accepted_at_place choice caps ends k h = absurd (not-suc-le-zero h)
accepted_at_place choice caps (refuses e) k h = absurd (not-suc-le-zero h)
accepted_at_place choice caps (accepts {s = s} {a = a} e rest) zero h =
    record { byte = _; bytes = _; this = a; is_kth = refl; at_place = refl; accepts = rw (fed_none s) e }
accepted_at_place choice caps (accepts {s = s} {byte = byte} {bytes = bytes} {a = a} {later = later} e rest) (suc k) h =
    let there = accepted_at_place choice caps rest k (omega arith) in
    record {
      byte = there.byte;
      bytes = there.bytes;
      this = there.this;
      is_kth = there.is_kth;
      at_place = next_place a (take k later) byte bytes ∙ there.at_place;
      accepts = rw (fed_more s a (take k later)) there.accepts;
    }

get_elem_drop : (l : List Accepted) (k : ℕ) (a : Accepted) (later : List Accepted) → drop k l ≡ a ∷ later → get_elem? l k ≡ some a
get_elem_drop [] zero a later e = impossible (cc)
get_elem_drop [] (suc k) a later e = impossible (cc)
get_elem_drop (x ∷ l) zero a later e = cc
get_elem_drop (x ∷ l) (suc k) a later e = get_elem_drop l k a later e

-- the run from a state over a journal, without regard to room
module _ (choice : Choice) (caps : Capacities) (s : State) (journal : List ℕ) where
  -- its steps
  pub whole_run_steps : RunsTo choice caps s journal (run_text choice caps s (text_of journal)).accepted (run_text choice caps s (text_of journal)).refusal
  unfolding text_of
  whole_run_steps = run_takes_steps choice caps s 0 0 journal

  -- a run that is not refused has read the whole journal
  pub journal_is_read_whole : (run_text choice caps s (text_of journal)).refusal ≡ none
      → place_after (run_text choice caps s (text_of journal)).accepted ≡ length journal
  journal_is_read_whole e = stops_at_place choice caps none (rw e at whole_run_steps)

  -- a refused command begins where the accepted ones end
  pub refused_at_place : {r : Refusal} → (run_text choice caps s (text_of journal)).refusal ≡ some r
      → RefusedAt caps s journal (run_text choice caps s (text_of journal)).accepted r
  refused_at_place {r} e = stops_at_place choice caps (some r) (rw e at whole_run_steps)

  -- and if the command there is refused, that is what ended the run
  pub refused_exactly : (r : Refusal)
      → ((run_text choice caps s (text_of journal)).refusal ≡ some r)
      ↔ RefusedAt caps s journal (run_text choice caps s (text_of journal)).accepted r
  refused_exactly r = (refused_at_place, λ at. go at (run_text choice caps s (text_of journal)).refusal whole_run_steps)
    where
      go : RefusedAt caps s journal (run_text choice caps s (text_of journal)).accepted r
          → (end : Option Refusal) → RunsTo choice caps s journal (run_text choice caps s (text_of journal)).accepted end → end ≡ some r
      go at none steps =
          let read = drop_of_length-le journal (le_of_eq (sym (stops_at_place choice caps none steps))) in
          impossible (cc at.at_place)
      go at (some q) steps =
          let there = stops_at_place choice caps (some q) steps in
          let same : there.byte ∷ there.bytes ≡ at.byte ∷ at.bytes = sym there.at_place ∙ at.at_place in
          let read : read_command there.byte there.bytes ≡ read_command at.byte at.bytes = cc in
          ap some (refused_for_one caps _ (rw read at there.is_so) at.is_so)

  -- every accepted command stands where those before it end
  pub each_at_its_place : (k : ℕ) → k < length (run_text choice caps s (text_of journal)).accepted
      → AcceptedAt choice caps s journal (run_text choice caps s (text_of journal)).accepted k
  each_at_its_place = accepted_at_place choice caps whole_run_steps

  -- the place is in the journal, or its end
  pub run_place_in_journal : place_after (run_text choice caps s (text_of journal)).accepted ≤ length journal
  run_place_in_journal = le_trans (run_place_in_text choice caps s (text_of journal)) (text_in_journal journal)

-- where the accepted commands end stands one that is accepted, and the room that is left is too short for its answer
pub record NoRoomAt (room : ℕ) (choice : Choice) (caps : Capacities) (s : State) (journal : List ℕ) (l : List Accepted) : Type 0 where
  pub byte : ℕ
  pub bytes : List ℕ
  pub this : Accepted
  pub at_place : drop (place_after l) journal ≡ byte ∷ bytes
  pub accepts : WasAccepted choice caps (state_fed s l) (read_command byte bytes) this
  pub no_room_lem : room < length (bytes_of_answers l) + length (answer_bytes this.answer)

-- the whole journal was read, or a command was refused, or there was no room for the answer to one
abbrev pub StopsWithin : ℕ → Choice → Capacities → State → List ℕ → Run → Type 0
StopsWithin room choice caps s journal r =
    StopsAt caps s journal r.accepted r.refusal
    ⊎ ((r.refusal ≡ some no_room) × NoRoomAt room choice caps s journal r.accepted)

place_of_first : (n : ℕ) (l : List Accepted) → place_after (take n l) ≤ place_after l
unfolding place_after
place_of_first zero l = omega arith
place_of_first (suc n) [] = omega arith
place_of_first (suc n) (a ∷ l) = omega (arith, place_of_first n l)

-- so do those of a list that begins it
pub place_of_prefix : (l m : List Accepted) → Prefix l m → place_after l ≤ place_after m
place_of_prefix l m p = omega (arith, place_of_first (length l) m, ap place_after p.same)

-- the run from a state over a journal, with so much room
module _ (room : ℕ) (choice : Choice) (caps : Capacities) (s : State) (journal : List ℕ) where
  -- it accepts the first of the commands that are accepted without regard to room
  pub within_is_prefix : Prefix (run_within room choice caps s (text_of journal)).accepted (run_text choice caps s (text_of journal)).accepted
  unfolding run_within
  within_is_prefix = fitting_is_prefix room (run_text choice caps s (text_of journal)).accepted (run_text choice caps s (text_of journal)).refusal

  -- the place is in the journal, or its end
  pub place_within_journal : place_after (run_within room choice caps s (text_of journal)).accepted ≤ length journal
  place_within_journal = le_trans (place_of_prefix _ _ within_is_prefix) (run_place_in_journal choice caps s journal)

  -- a run within the room stops in one of these ways
  pub stops_within : StopsWithin room choice caps s journal (run_within room choice caps s (text_of journal))
  unfolding run_within
  stops_within = go (cut_where_no_room room all.accepted)
    where
      all : Run
      all = run_text choice caps s (text_of journal)

      go : RoomForAll room all.accepted ⊎ CutAt room all.accepted
          → StopsWithin room choice caps s journal (fitting room all.accepted all.refusal)
      go (inl w) =
          inl (rw (all_fit_whole room all.accepted all.refusal w) (stops_at_place choice caps all.refusal (whole_run_steps choice caps s journal)))
      go (inr c) =
          let at = each_at_its_place choice caps s journal c.count (cut_before_end room all.accepted c) in
          let kth = get_elem_drop all.accepted c.count c.next c.later c.splits in
          let same : c.next ≡ at.this = cc at.is_kth in
          inr
          (rw (cut_at-stop room all.accepted all.refusal c) (
            refl,
            record {
              byte = at.byte;
              bytes = at.bytes;
              this = at.this;
              at_place = at.at_place;
              accepts = at.accepts;
              no_room_lem = rw same at c.no_room_lem;
            },
          ))
