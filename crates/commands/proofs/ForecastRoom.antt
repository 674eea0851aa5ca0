-- The length that is forecast suffices: no run of the journal that has so much room is refused for want of room.
use mathlib.Core.Bool.{Bool, true, false, cond}
use mathlib.Core.List.{List, [], ◌∷◌, map}
use mathlib.Core.Logic.{◌≢◌}
use mathlib.Core.Path.{◌≡◌, refl, sym, ap, subst}
use Prim.Native.Nat.{ℕ, zero, suc, ◌+◌, ◌*◌, ◌≤◌, ◌<◌}
use native.Mathlib.Nat.{mul-le-mul}
use native.Mathlib.Omega.{arith}
use lib.ListN.{length, take}
use Rattle.graph.specs.Network.{Rule, MateRule, edge_count}
use Rattle.graph.specs.Route.{Choice, Serves}
use Rattle.naming.specs.Book.{Addition, empty_book}
use Rattle.naming.specs.State.{State, empty_state}
use Rattle.naming.specs.Log.{whole_log2, highest_bit}
use Rattle.naming.proofs.Log.{log2_monotone, highest_bit_is_log2}
use Rattle.commands.specs.Field.{district, ring, mesh}
use Rattle.commands.specs.Command.{Command}
use Rattle.commands.specs.Answer.{Answer, answer_bytes}
use Rattle.commands.specs.Facts.{Facts, adds_cabinet, adds_span, adds_nothing, facts, addition_of, addition, after, answer, state_after}
use Rattle.commands.specs.Refusal.{Capacities}
use Rattle.commands.specs.Text.{text_of}
use Rattle.commands.specs.Run.{Accepted, run_text, run_within, bytes_of_answers}
use Rattle.commands.specs.Entry.{Buffers, entry_under}
use Rattle.commands.specs.WholeRun.{items_of, notices_in, count_kind}
use Rattle.commands.specs.Forecast.{is_cabinet, is_span, count_adding, cabinet_commands, span_commands, longest_plain, plain_lengths, length_for, sufficient}
use Rattle.commands.proofs.Room.{RoomForAll, not_cut, Prefix, bytes_of_more}
use Rattle.commands.proofs.Report.{cabinets_after, spans_after_lem, cabinets_from_none, spans_from_none}
use Rattle.commands.proofs.NameList.{answers_from}
use Rattle.commands.proofs.Place.{whole_run_steps, within_is_prefix}
use Rattle.commands.proofs.Returned.{unbounded, eleven_exactly}
use Rattle.commands.proofs.TextRun.{run_accepts_first}
use Rattle.commands.proofs.RunBooks.{Sound, empty_sound, sound_after, NoneRefused, Answered, steps_answered, answered_not_refused}
use Rattle.commands.proofs.NoticeOrder.{length_by_kind}
use Rattle.commands.proofs.NoticeBound.{few_in_all}
use Rattle.commands.proofs.Routes.{serves_after}
use Rattle.commands.proofs.AnswerLength.{longest_of, answer_no_longer}
use Rattle.commands.proofs.ForecastFits.{text_fits}

-- the notices in answers, of every kind
abbrev notices_in_all : List Answer → ℕ
notices_in_all told = count_kind district told + count_kind ring told + count_kind mesh told

-- the greatest lengths of the answers to commands but for their notices, added up
unfoldable longest_lengths : ℕ → ℕ → List Command → ℕ
longest_lengths c s [] = 0
longest_lengths c s (k ∷ later) = longest_of c s (facts k) + longest_lengths c s later

-- 3 for each command that adds a cabinet, 7 for each that adds a span, and what is said of the others
longest_by_kind : (c s : ℕ) (ks : List Command) → longest_lengths c s ks ≡ 3 * cabinet_commands ks + 7 * span_commands ks + plain_lengths c s ks
unfolding longest_lengths cabinet_commands span_commands count_adding plain_lengths addition
longest_by_kind c s [] = refl
longest_by_kind c s (k ∷ later) = go (facts k) (longest_by_kind c s later)
  where
    go : (f : Facts) → longest_lengths c s later ≡ 3 * cabinet_commands later + 7 * span_commands later + plain_lengths c s later
        → longest_of c s f + longest_lengths c s later
        ≡ 3 * cond (is_cabinet (addition_of f)) (suc (count_adding is_cabinet later)) (count_adding is_cabinet later)
        + 7 * cond (is_span (addition_of f)) (suc (count_adding is_span later)) (count_adding is_span later)
        + (longest_plain c s f + plain_lengths c s later)
    go adds_cabinet e = unfold longest_of is_cabinet is_span addition_of longest_plain in omega arith
    go (adds_span x operands demands) e = unfold longest_of is_cabinet is_span addition_of longest_plain in omega arith
    go (adds_nothing q) e = unfold longest_of is_cabinet is_span addition_of longest_plain in omega arith

-- the first of the commands have no more
first_no_longer : (c s n : ℕ) (ks : List Command) → longest_lengths c s (take n ks) ≤ longest_lengths c s ks
unfolding longest_lengths
first_no_longer c s zero ks = omega arith
first_no_longer c s (suc n) [] = omega arith
first_no_longer c s (suc n) (k ∷ later) = omega (arith, first_no_longer c s n later)

-- nor do they add more
first_adds_no_more : (p : Addition → Bool) (n : ℕ) (ks : List Command) → count_adding p (take n ks) ≤ count_adding p ks
unfolding count_adding
first_adds_no_more p zero ks = omega arith
first_adds_no_more p (suc n) [] = omega arith
first_adds_no_more p (suc n) (k ∷ later) = go (p (addition k)) (first_adds_no_more p n later)
  where
    go : (t : Bool) → count_adding p (take n later) ≤ count_adding p later
        → cond t (suc (count_adding p (take n later))) (count_adding p (take n later)) ≤ cond t (suc (count_adding p later)) (count_adding p later)
    go true h = omega arith
    go false h = h

-- the answers to commands that were accepted, where they leave at most c cabinets and s spans
answers_no_longer : (choice : Choice) (caps : Capacities) (c s : ℕ) (state : State) (l : List Accepted) → Sound caps state
    → Serves state.book.network.rule choice → Answered choice caps state l
    → let ks = map (λ a. a.command) l in
    (state_after state ks).book.network.vertices ≤ c
    → edge_count (state_after state ks).book.network ≤ s
    → length (bytes_of_answers l) ≤ longest_lengths c s ks + 5 * notices_in_all (answers_from choice state ks)
unfolding bytes_of_answers longest_lengths answers_from count_kind
answers_no_longer choice caps c s state [] sound serves w few_cabinets few_spans = omega arith
answers_no_longer choice caps c s state (a ∷ later) sound serves w few_cabinets few_spans =
    omega (
      arith,
      bytes_of_more a later,
      ap (λ x. length (answer_bytes x)) w.1,
      answer_no_longer state c s
          (omega (arith, few_cabinets, cabinets_after state (map (λ b. b.command) (a ∷ later))))
          (omega (arith, few_spans, spans_after_lem state (map (λ b. b.command) (a ∷ later))))
          choice
          caps
          sound
          serves
          a.command
          w.0,
      length_by_kind (notices_in (answer choice state a.command)),
      answers_no_longer choice caps c s (after state a.command) later
          (sound_after caps state a.command sound w.0)
          (serves_after choice state a.command serves)
          w.2
          (unfold state_after in few_cabinets)
          (unfold state_after in few_spans),
    )

-- k times L(k) grows with k
times_log_grows : (j k : ℕ) → j ≤ k → j * whole_log2 j ≤ k * highest_bit k
times_log_grows j k h = rw (highest_bit_is_log2 k) (mul-le-mul h (log2_monotone j k h))

module _ (rule : Rule) (mates : MateRule rule) (choice : Choice) (serves : Serves rule choice) (caps : Capacities) where
  -- from an empty network, c commands that add a cabinet and s that add a span bring no more notices than demand 3 allows
  notices_no_more : (c s : ℕ) (ks : List Command) → NoneRefused caps (empty_state rule) ks → cabinet_commands ks ≤ c → span_commands ks ≤ s
      → notices_in_all (answers_from choice (empty_state rule) ks) ≤ 2 * (c * highest_bit c) + s * highest_bit s
  unfolding items_of
  notices_no_more c s ks n few_cabinets few_spans =
      omega (
        arith,
        few_in_all choice caps district start ks sound n,
        few_in_all choice caps ring start ks sound n,
        few_in_all choice caps mesh start ks sound n,
        times_log_grows cabinets c (omega (arith, cabinets_from_none rule ks)),
        times_log_grows spans s (omega (arith, spans_from_none rule ks)),
      )
    where
      start : State
      start = empty_state rule

      sound : Sound caps start
      sound = empty_sound caps rule mates

      cabinets : ℕ
      cabinets = (state_after start ks).book.network.vertices

      spans : ℕ
      spans = edge_count (state_after start ks).book.network

  -- commands accepted from an empty network, which are the first of some commands: the length for all of these is room for their answers
  room_for_first : (l : List Accepted) (ks : List Command) → Answered choice caps (empty_state rule) l → Prefix (map (λ a. a.command) l) ks
      → RoomForAll (sufficient ks) l
  unfolding sufficient length_for
  room_for_first l ks w first =
      omega (
        arith,
        answers_no_longer choice caps c s start l (empty_sound caps rule mates) (unfold empty_state empty_book in serves) w
            (omega (arith, cabinets_from_none rule done, few_cabinets))
            (omega (arith, spans_from_none rule done, few_spans)),
        notices_no_more c s done (answered_not_refused choice caps start l w) few_cabinets few_spans,
        subst (λ m. longest_lengths c s m ≤ longest_lengths c s ks) (sym first.same) (first_no_longer c s (length done) ks),
        longest_by_kind c s ks,
      )
    where
      start : State
      start = empty_state rule

      done : List Command
      done = map (λ a. a.command) l

      c : ℕ
      c = cabinet_commands ks

      s : ℕ
      s = span_commands ks

      few_cabinets : cabinet_commands done ≤ c
      few_cabinets =
          unfold cabinet_commands in
          subst (λ m. count_adding is_cabinet m ≤ count_adding is_cabinet ks) (sym first.same) (first_adds_no_more is_cabinet (length done) ks)

      few_spans : span_commands done ≤ s
      few_spans =
          unfold span_commands in
          subst (λ m. count_adding is_span m ≤ count_adding is_span ks) (sym first.same) (first_adds_no_more is_span (length done) ks)

-- The run of a journal under a rule of mates and a choice of routes that serves, for any capacities and buffers.
module _ (rule : Rule) (mates : MateRule rule) (choice : Choice) (serves : Serves rule choice) (caps : Capacities) (journal : List ℕ) (lent : Buffers) where
  -- the length for the commands that the journal spells, up to its end or to what cannot be read, is room for all answers
  pub room_for_text : RoomForAll (sufficient (map (λ r. r.command) (text_of journal).commands)) (unbounded rule choice caps journal lent).accepted
  room_for_text =
      let run = unbounded rule choice caps journal lent in
      room_for_first
      rule
      mates
      choice
      serves
      caps
      run.accepted
      (map (λ r. r.command) (text_of journal).commands)
      (steps_answered choice caps (whole_run_steps choice caps (empty_state rule) journal))
      (run_accepts_first choice caps (empty_state rule) (text_of journal))

  -- so with as much no run is refused for want of room
  pub never_without_room : sufficient (map (λ r. r.command) (text_of journal).commands) ≤ length lent.answers
      → (entry_under rule choice caps journal lent).returned ≢ 11
  never_without_room h e =
      let cut = ((eleven_exactly rule choice caps journal lent).0 e).1 in
      let l = (unbounded rule choice caps journal lent).accepted in
      not_cut (length lent.answers) l (omega (arith, room_for_text)) cut

-- the first of the answers have no more bytes
bytes_of_first : (n : ℕ) (l : List Accepted) → length (bytes_of_answers (take n l)) ≤ length (bytes_of_answers l)
unfolding bytes_of_answers
bytes_of_first zero l = omega arith
bytes_of_first (suc n) [] = omega arith
bytes_of_first (suc n) (a ∷ l) = omega (arith, bytes_of_more a (take n l), bytes_of_more a l, bytes_of_first n l)

-- Under a rule of mates and a choice of routes that serves, for any capacities and a journal that is not too long:
module _
    (rule : Rule) (mates : MateRule rule) (choice : Choice) (serves : Serves rule choice)
    (caps : Capacities) (journal : List ℕ) (short : length journal ≤ 65536)
  where
    -- what a run answers with ample room fits 32 bits
    pub all_answers_fit : length (bytes_of_answers (run_text choice caps (empty_state rule) (text_of journal)).accepted) < 4294967296
    all_answers_fit =
        omega (
          arith,
          room_for_first rule mates choice serves caps
              (run_text choice caps (empty_state rule) (text_of journal)).accepted
              (map (λ r. r.command) (text_of journal).commands)
              (steps_answered choice caps (whole_run_steps choice caps (empty_state rule) journal))
              (run_accepts_first choice caps (empty_state rule) (text_of journal)),
          text_fits journal short,
        )

    -- and so does what it answers with any room
    pub run_answers_fit : (room : ℕ) → length (bytes_of_answers (run_within room choice caps (empty_state rule) (text_of journal)).accepted) < 4294967296
    run_answers_fit room =
        let first = within_is_prefix room choice caps (empty_state rule) journal in
        omega (
          arith,
          ap (λ l. length (bytes_of_answers l)) first.same,
          bytes_of_first
              (length (run_within room choice caps (empty_state rule) (text_of journal)).accepted)
              (run_text choice caps (empty_state rule) (text_of journal)).accepted,
          all_answers_fit,
        )
