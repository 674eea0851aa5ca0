-- How a result is answered (request 9): by the first's own answers, then the second's, raised, then one for each seam; and it is accepted
-- exactly if both networks with the seams fit.
use mathlib.Core.Bool.{Bool, true, false, cond, ◌&&◌, false≢true}
use mathlib.Core.List.{List, [], ◌∷◌, ◌++◌, map, map-append, append_assoc}
use mathlib.Core.Logic.{◌⊎◌, inl, inr}
use mathlib.Core.Option.{Option, none, some}
use mathlib.Core.Path.{◌≡◌, refl, sym, ◌∙◌, ap, ap₂, subst}
use Prim.Native.Nat.{ℕ, ◌+◌, ◌≤◌}
use native.Mathlib.Omega.{arith}
use lib.Dec.{leb, ltb}
use lib.ListN.{length, take, length-append, length-map}
use lib.Seq.{take-length}
use Rattle.graph.specs.Lists.{all_in}
use Rattle.graph.specs.Network.{Rule, edge_count}
use Rattle.graph.specs.Route.{Choice, Serves}
use Rattle.graph.proofs.Truth.{true_or_false, false_of_not, not_both, and_left, and_right, and_both, or_neither_left, or_neither_right, leb_le, le-leb}
use Rattle.graph.proofs.SideBySide.{Raises, one_duct_raises}
use Rattle.naming.specs.Book.{empty_book}
use Rattle.naming.specs.State.{State, empty_state}
use Rattle.commands.specs.Bytes.{all_bytes}
use Rattle.commands.specs.Command.{Command}
use Rattle.commands.specs.Answer.{Answer}
use Rattle.commands.specs.Facts.{facts, after, state_after, span_answer, answer_to, answer}
use Rattle.commands.specs.Refusal.{Refusal, full, Capacities}
use Rattle.commands.specs.Text.{Text, text_of, commands_in, place_behind, journal_bytes}
use Rattle.commands.specs.Run.{Accepted, run_text, run_within, commands_of}
use Rattle.commands.specs.Entry.{accepted_commands, Buffers, entry_under}
use Rattle.commands.specs.Register.{register_rule, register_routes, ample_run}
use Rattle.commands.specs.Decode.{decode_first}
use Rattle.commands.specs.Join.{Counts, counts_of, raise_command, Seam, seam_command, join_capacities, run_alone, is_some, is_refused, state_behind, counts_in, good_seam, joined_bytes, RaisedAnswer, RaisedAnswers, SeamAnswers, JoinedAnswers, fit_together, AnsweredJoined}
use Rattle.commands.proofs.StateAfter.{rule_after_commands}
use Rattle.commands.proofs.Spelled.{AllSpelled, commands_of_reads, journal_read_back}
use Rattle.commands.proofs.ReadFits.{text_spelled}
use Rattle.commands.proofs.Behind.{text_behind_lem}
use Rattle.commands.proofs.NameList.{answers_from}
use Rattle.commands.proofs.Decode.{answers_in}
use Rattle.commands.proofs.RunBooks.{NoneRefused, Answered, Sound, empty_sound, sound_after_all, steps_answered, answers_of_run}
use Rattle.commands.proofs.Known.{KnownState, empty_known, known_after_all}
use Rattle.commands.proofs.Place.{whole_run_steps}
use Rattle.commands.proofs.WholeRun.{register-mates}
use Rattle.commands.proofs.Room.{all_fit_whole}
use Rattle.commands.proofs.Start.{ran_exactly}
use Rattle.commands.proofs.Returned.{nought_exactly}
use Rattle.commands.proofs.ReadBack.{accepted, read_back}
use Rattle.joining.proofs.CommandsRun.{or_else, refusal_in, run_refusal, refusal_behind, none_refused, takes_all, answers_behind_lem}
use Rattle.joining.proofs.BesideStates.{BesideState, BesideSound, beside_first, beside_after}
use Rattle.joining.proofs.RaisedRefusals.{vertices_are, edges_are}
use Rattle.joining.proofs.RaisedAnswers.{told_raised}
use Rattle.joining.proofs.JoinedRun.{within, sound_beside_after, sound_beside_all, beside_all, second_refusal, seams_refusal, edges_after_seam}
use Rattle.joining.proofs.JoinedText.{FewCounts, all_bytes_both, journal_bytes_are, journal_bytes_behind, raised_spelled, seams_spelled}

abbrev caps : Capacities
caps = join_capacities

abbrev start : State
start = empty_state register_rule

-- The register's rule has raised spans lost together exactly if it has the spans lost together.
pub register_raises : Raises register_rule
unfolding register_rule
register_raises = one_duct_raises

-- A journal that is accepted alone: it is no longer than a journal may be and read to its end, and none of its commands is refused.
pub record Alone (journal : List ℕ) : Type 0 where
  pub short : ltb 65536 (length journal) ≡ false
  pub whole : (text_of journal).refusal ≡ none
  pub none_refused : NoneRefused join_capacities (empty_state register_rule) (commands_in journal)

-- the refusal of a run alone is the same under every choice
alone_refusal : (choice : Choice) (journal : List ℕ) → (run_alone choice journal).refusal ≡ refusal_in caps start (commands_in journal) (text_of journal).refusal
unfolding run_alone ample_run run_text
alone_refusal choice journal = run_refusal caps choice start (text_of journal).commands (text_of journal).refusal

-- Whether a journal is refused does not hang on the routes that are chosen.
pub refused_for_any_choice : (choice choice' : Choice) (journal : List ℕ) → (run_alone choice journal).refusal ≡ (run_alone choice' journal).refusal
refused_for_any_choice choice choice' journal = alone_refusal choice journal ∙ sym (alone_refusal choice' journal)

none_of : (o : Option Refusal) → is_some o ≡ false → o ≡ none
unfolding is_some
none_of none e = refl
none_of (some r) e = absurd (false≢true (sym e))

-- the run of a journal that is not refused ends without a refusal, under every choice
pub alone-accepted : (choice : Choice) (journal : List ℕ) → is_refused journal ≡ false → (run_alone choice journal).refusal ≡ none
unfolding is_refused
alone-accepted choice journal e =
    refused_for_any_choice choice register_routes journal
    ∙ none_of (run_alone register_routes journal).refusal (or_neither_right (ltb 65536 (length journal)) _ e)

-- so it is accepted alone
pub accepted-alone : (journal : List ℕ) → is_refused journal ≡ false → Alone journal
unfolding is_refused run_alone ample_run
accepted-alone journal e =
    let both = none_refused caps register_routes start (text_of journal) (alone-accepted register_routes journal e) in
    record { short = or_neither_left (ltb 65536 (length journal)) _ e; whole = both.1; none_refused = both.0 }

-- the commands that it accepts are all
alone_commands : (choice : Choice) (journal : List ℕ) → is_refused journal ≡ false
    → map (λ a. a.command) (run_alone choice journal).accepted ≡ commands_in journal
unfolding run_alone ample_run commands_of
alone_commands choice journal e = takes_all caps choice start (text_of journal) (alone-accepted choice journal e)

-- each of them was answered as the definition has it
alone_answered : (choice : Choice) (journal : List ℕ) → Answered choice caps start (run_alone choice journal).accepted
unfolding run_alone ample_run
alone_answered choice journal = steps_answered choice caps (whole_run_steps choice caps start journal)

-- Where the entry returns 0, it has accepted all of the journal's commands.
pub all_accepted : (choice : Choice) (journal : List ℕ) (lent : Buffers) → (entry_under register_rule choice caps journal lent).returned ≡ 0
    → accepted register_rule choice caps journal lent ≡ commands_in journal
unfolding accepted_commands run_within
all_accepted choice journal lent e =
    let n = (nought_exactly register_rule choice caps journal lent).0 e in
    let runs = (ran_exactly register_rule choice caps journal (length lent.work) (length lent.answers) (length lent.report)).1 n.0 in
    let t = text_of journal in
    ap accepted_commands runs
    ∙ ap commands_of (all_fit_whole (length lent.answers) (run_text choice caps start t).accepted (run_text choice caps start t).refusal n.1.0)
    ∙ takes_all caps choice start t n.1.1

-- commands that are spelled, one list after another
spelled_both : (cs ds : List Command) → AllSpelled cs → AllSpelled ds → AllSpelled (cs ++ ds)
spelled_both [] ds p q = q
spelled_both (c ∷ cs) ds p q = (p.0, spelled_both cs ds p.1 q)

-- the second's answers behind the first journal, command by command
answers_raised : (choice own : Choice) (one : State) → Serves one.book.network.rule choice → {s s' : State} → BesideSound caps one s
    → BesideState one s s' → (l : List Accepted) → Answered own caps s l
    → RaisedAnswers one s l (answers_from choice s' (map (raise_command (counts_of one)) (map (λ a. a.command) l)))
unfolding answers_from
answers_raised choice own one serves w q [] n = tt
answers_raised choice own one serves {s} {s'} w q (a ∷ l) n = (
  subst (λ (x : Answer). RaisedAnswer one s (record { command = a.command; answer = x; width = a.width }) (answer choice s' (raise_command (counts_of one) a.command)))
      (sym n.1) (told_raised w q choice own a.width serves a.command n.0),
  answers_raised choice own one serves {s = after s a.command} {s' = after s' (raise_command (counts_of one) a.command)} (sound_beside_after caps w a.command n.0) (beside_after caps w q a.command n.0) l n.2,
)

-- the answers to the seams
seams_answered : (choice : Choice) (by : Counts) (t : State) (xs : List Seam)
    → SeamAnswers (edge_count t.book.network) xs (answers_from choice t (map (seam_command by) xs))
unfolding answers_from answer answer_to facts seam_command span_answer
seams_answered choice by t [] = tt
seams_answered choice by t (x ∷ xs) = (
  record { mesh_name = _; told = _; is_added = refl },
  subst (λ (n : ℕ). SeamAnswers n xs (answers_from choice (after t (seam_command by x)) (map (seam_command by) xs)))
      (edges_after_seam by t x) (seams_answered choice by (after t (seam_command by x)) xs),
)

-- networks that fit, and whether so many spans more do
together_if_fit : (cabinets spans more : ℕ) → within caps cabinets spans ≡ true
    → (leb cabinets 4096 && leb (spans + more) 8192) ≡ leb (spans + more) caps.spans
unfolding within join_capacities
together_if_fit cabinets spans more e = ap (λ b. b && leb (spans + more) 8192) (and_left (leb cabinets 4096) _ e)

together_unless : (cabinets spans more : ℕ) → within caps cabinets spans ≡ false → (leb cabinets 4096 && leb (spans + more) 8192) ≡ false
unfolding within join_capacities
together_unless cabinets spans more e =
    false_of_not (leb cabinets 4096 && leb (spans + more) 8192) (λ f.
    not_both
    (and_both (and_left (leb cabinets 4096) _ f)
    (le-leb spans 8192 (omega (arith, leb_le (spans + more) 8192 (and_right (leb cabinets 4096) (leb (spans + more) 8192) f)))))
    e)

-- Two journals that are accepted alone, and good seams between them whose ducts are numbers of two bytes.
pub record Joinable (first second : List ℕ) (xs : List Seam) : Type 0 where
  pub first_bytes : all_bytes first ≡ true
  pub second_bytes : all_bytes second ≡ true
  pub first_accepted : is_refused first ≡ false
  pub second_accepted : is_refused second ≡ false
  pub good_seams : all_in (good_seam (counts_in first).cabinets (counts_in second).cabinets) xs ≡ true
  pub ducts_fit_lem : all_in (λ x. ltb x.duct 65536) xs ≡ true

module _ {first second : List ℕ} {xs : List Seam} (w : Joinable first second xs) where
  abbrev one : State
  one = state_behind first

  abbrev two : State
  two = state_behind second

  abbrev by : Counts
  by = counts_in first

  alone_one : Alone first
  alone_one = accepted-alone first w.first_accepted

  alone_two : Alone second
  alone_two = accepted-alone second w.second_accepted

  start_sound : Sound caps start
  start_sound = empty_sound caps register_rule register-mates

  one_sound : Sound caps one
  unfolding state_behind
  one_sound = sound_after_all caps start (commands_in first) start_sound alone_one.none_refused

  two_sound : Sound caps two
  unfolding state_behind
  two_sound = sound_after_all caps start (commands_in second) start_sound alone_two.none_refused

  one_rule : one.book.network.rule ≡ register_rule
  unfolding state_behind
  one_rule = rule_after_commands start (commands_in first) ∙ unfold empty_state empty_book in refl

  begins : BesideSound caps one start
  begins =
      record {
        first_sound = one_sound;
        second_sound = start_sound;
        one_rule = sym (one_rule ∙ unfold empty_state empty_book in refl);
        raises = subst Raises (sym one_rule) register_raises;
      }

  one_known : KnownState one
  unfolding state_behind
  one_known = known_after_all caps start (empty_known register_rule) (commands_in first) alone_one.none_refused

  at_first : BesideState one start one
  at_first = beside_first register_rule one one_known

  few : FewCounts by
  unfolding counts_in counts_of join_capacities
  few = record { few_cabinets = one_sound.fits.cabinets_fit; few_spans = one_sound.fits.spans_fit }

  -- the commands behind the first journal, and their bytes
  abbrev seconds : List Command
  seconds = map (raise_command by) (commands_in second)

  abbrev seams : List Command
  seams = map (seam_command by) xs

  result_is : joined_bytes first second xs ≡ first ++ journal_bytes (seconds ++ seams)
  unfolding joined_bytes
  result_is =
      append_assoc first (journal_bytes seconds) (journal_bytes seams) ∙ ap (λ l. first ++ l) (sym (journal_bytes_behind seconds seams))

  all_spelled : AllSpelled (seconds ++ seams)
  unfolding join_capacities counts_in counts_of
  all_spelled =
      spelled_both seconds seams
      (raised_spelled caps (omega arith) (omega arith) by few start start_sound (commands_in second) alone_two.none_refused (text_spelled second w.second_bytes))
      (seams_spelled by few (counts_in second).cabinets two_sound.fits.cabinets_fit xs w.good_seams w.ducts_fit_lem)

  -- the commands of the result
  pub commands_of_result : commands_in (joined_bytes first second xs) ≡ commands_in first ++ (seconds ++ seams)
  commands_of_result =
      let behind_first = place_behind (text_of first).commands + 0 in
      ap commands_in result_is
      ∙ ap (λ (t : Text). map (λ r. r.command) t.commands) (text_behind_lem first (journal_bytes (seconds ++ seams)) alone_one.whole)
      ∙ map-append (λ r. r.command) (text_of first).commands _
      ∙ ap (λ (l : List Command). commands_in first ++ l)
      (ap (λ (t : Text). map (λ r. r.command) t.commands) (journal_read_back behind_first (seconds ++ seams) all_spelled)
      ∙ commands_of_reads behind_first (seconds ++ seams))

  -- and what ends it: nothing
  result_whole : (text_of (joined_bytes first second xs)).refusal ≡ none
  result_whole =
      ap (λ (l : List ℕ). (text_of l).refusal) result_is
      ∙ ap (λ (t : Text). t.refusal) (text_behind_lem first (journal_bytes (seconds ++ seams)) alone_one.whole)
      ∙ ap (λ (t : Text). t.refusal) (journal_read_back (place_behind (text_of first).commands + 0) (seconds ++ seams) all_spelled)

  -- the state of both networks before the seams
  abbrev t : State
  t = state_after one seconds

  beside_end : BesideState one two t
  unfolding state_behind counts_in
  beside_end = beside_all caps begins at_first (commands_in second) alone_two.none_refused

  sound_end : BesideSound caps one two
  unfolding state_behind
  sound_end = sound_beside_all caps begins (commands_in second) alone_two.none_refused

  -- its refusal
  refusal_of_first : refusal_in caps start (commands_in first) none ≡ none
  refusal_of_first =
      ap (refusal_in caps start (commands_in first)) (sym alone_one.whole) ∙ sym (alone_refusal register_routes first)
      ∙ alone-accepted register_routes first w.first_accepted

  no_cabinets : start.book.network.vertices ≡ 0
  unfolding empty_state empty_book
  no_cabinets = refl

  no_spans : edge_count start.book.network ≡ 0
  unfolding empty_state empty_book edge_count
  no_spans = refl

  seconds_refused : refusal_in caps one seconds none
      ≡ cond (within caps ((counts_in first).cabinets + (counts_in second).cabinets) ((counts_in first).spans + (counts_in second).spans)) none (some full)
  unfolding state_behind counts_in counts_of
  seconds_refused =
      second_refusal caps one begins at_first (omega (arith, no_cabinets, one_sound.fits.cabinets_fit)) (omega (arith, no_spans, one_sound.fits.spans_fit))
      (commands_in second) alone_two.none_refused

  seams_refused : edge_count t.book.network ≤ caps.spans
      → refusal_in caps t seams none
      ≡ cond (leb ((counts_in first).spans + (counts_in second).spans + length xs) caps.spans) none (some full)
  unfolding counts_in counts_of
  seams_refused h =
      seams_refusal caps by (counts_in second).cabinets t (vertices_are sound_end beside_end) h xs w.good_seams
      ∙ ap (λ (n : ℕ). cond (leb (n + length xs) caps.spans) none (some full)) (edges_are sound_end beside_end)

  spans_fit : within caps ((counts_in first).cabinets + (counts_in second).cabinets) ((counts_in first).spans + (counts_in second).spans) ≡ true
      → edge_count t.book.network ≤ caps.spans
  unfolding within counts_in counts_of
  spans_fit e = omega (arith, leb_le _ caps.spans (and_right (leb _ caps.cabinets) _ e), edges_are sound_end beside_end)

  -- With ample room the result is accepted exactly if both networks with the seams fit.
  pub joined_accepted_exactly : (choice : Choice)
      → (run_alone choice (joined_bytes first second xs)).refusal ≡ cond (fit_together first second xs) none (some full)
  unfolding or_else state_behind fit_together
  joined_accepted_exactly choice =
      alone_refusal choice (joined_bytes first second xs)
      ∙ ap₂ (refusal_in caps start) commands_of_result result_whole
      ∙ refusal_behind caps start (commands_in first) (seconds ++ seams) none
      ∙ ap (λ (o : Option Refusal). or_else o (refusal_in caps one' (seconds ++ seams) none)) refusal_of_first
      ∙ refusal_behind caps one seconds seams none ∙ go (true_or_false fit)
    where
      one' : State
      one' = state_after start (commands_in first)

      cabinets : ℕ
      cabinets = (counts_in first).cabinets + (counts_in second).cabinets

      spans : ℕ
      spans = (counts_in first).spans + (counts_in second).spans

      fit : Bool
      fit = within caps cabinets spans

      go : (fit ≡ true) ⊎ (fit ≡ false)
          → or_else (refusal_in caps one seconds none) (refusal_in caps t seams none) ≡ cond (fit_together first second xs) none (some full)
      go (inl e) =
          ap (λ (o : Option Refusal). or_else o (refusal_in caps t seams none)) (seconds_refused ∙ ap (λ b. cond b none (some full)) e)
          ∙ seams_refused (spans_fit e) ∙ sym (ap (λ b. cond b none (some full)) (together_if_fit cabinets spans (length xs) e))
      go (inr e) =
          ap (λ (o : Option Refusal). or_else o (refusal_in caps t seams none)) (seconds_refused ∙ ap (λ b. cond b none (some full)) e)
          ∙ sym (ap (λ b. cond b none (some full)) (together_unless cabinets spans (length xs) e))

  -- the first's answers are its own
  first_answers : (choice : Choice) → answers_from choice start (commands_in first) ≡ answers_in (run_alone choice first).accepted
  first_answers choice =
      sym (answers_of_run choice caps start (run_alone choice first).accepted (alone_answered choice first)
      ∙ ap (answers_from choice start) (alone_commands choice first w.first_accepted))

  -- the second's are raised
  second_answers : (choice own : Choice) → Serves register_rule choice
      → RaisedAnswers one start (run_alone own second).accepted (answers_from choice one seconds)
  unfolding counts_in
  second_answers choice own serves =
      subst (λ (cs : List Command). RaisedAnswers one start (run_alone own second).accepted (answers_from choice one (map (raise_command (counts_of one)) cs)))
      (alone_commands own second w.second_accepted)
      (answers_raised choice own one (subst (λ (rule : Rule). Serves rule choice) (sym one_rule) serves) begins at_first
      (run_alone own second).accepted (alone_answered own second))

  -- and the seams' are those of added spans
  seam_answers : (choice : Choice) → SeamAnswers ((counts_in first).spans + (counts_in second).spans) xs (answers_from choice t seams)
  unfolding counts_in counts_of
  seam_answers choice =
      subst (λ (n : ℕ). SeamAnswers n xs (answers_from choice t seams)) (edges_are sound_end beside_end)
      (seams_answered choice by t xs)

  -- the result's bytes are bytes
  result_bytes : all_bytes (joined_bytes first second xs) ≡ true
  result_bytes = rw result_is (all_bytes_both first _ w.first_bytes (journal_bytes_are (seconds ++ seams)))

  -- there are as many commands as both journals have and seams
  count_of_result : length (commands_in first ++ (seconds ++ seams)) ≡ length (commands_in first) + length (commands_in second) + length xs
  count_of_result =
      let second_count = length-map (commands_in second) (raise_command by) in
      let seam-count = length-map xs (seam_command by) in
      length-append (commands_in first) (seconds ++ seams) ∙ ap (λ n. length (commands_in first) + n) (length-append seconds seams)
      ∙ omega (arith, second_count, seam-count)

  -- The answers that are decoded from the buffer of a run that accepts the result.
  pub joined_answers : (choice own : Choice) → Serves register_rule choice → (lent : Buffers)
      → (entry_under register_rule choice caps (joined_bytes first second xs) lent).returned ≡ 0
      → JoinedAnswers choice own first second xs
      (decode_first (length (commands_in first) + length (commands_in second) + length xs) (entry_under register_rule choice caps (joined_bytes first second xs) lent).buffers.answers)
  unfolding state_behind
  joined_answers choice own serves lent e =
      record {
        of_first = answers_from choice start (commands_in first);
        of_second = answers_from choice one seconds;
        of_seams = answers_from choice t seams;
        in_order = decoded;
        first_as_before = first_answers choice;
        second_raised = second_answers choice own serves;
        seams_added = seam_answers choice;
      }
    where
      result : List ℕ
      result = joined_bytes first second xs

      taken : accepted register_rule choice caps result lent ≡ commands_in first ++ (seconds ++ seams)
      taken = all_accepted choice result lent e ∙ commands_of_result

      count : ℕ
      count = length (commands_in first) + length (commands_in second) + length xs

      decoded : decode_first count (entry_under register_rule choice caps result lent).buffers.answers
          ≡ answers_from choice start (commands_in first) ++ answers_from choice one seconds ++ answers_from choice t seams
      decoded =
          read_back register_rule choice caps result lent register-mates serves result_bytes count (omega (arith, ap length taken, count_of_result))
          ∙ ap₂ (λ (k : ℕ) (cs : List Command). answers_from choice start (take k cs)) (sym count_of_result) taken
          ∙ ap (answers_from choice start) (take-length (commands_in first ++ (seconds ++ seams)))
          ∙ answers_behind_lem choice start (commands_in first) (seconds ++ seams)
          ∙ ap (λ (l : List Answer). answers_from choice start (commands_in first) ++ l) (answers_behind_lem choice one seconds seams)
          ∙ sym (append_assoc (answers_from choice start (commands_in first)) (answers_from choice one seconds) (answers_from choice t seams))

-- So the result is answered as is promised.
pub answered_joined : {first second : List ℕ} {xs : List Seam} → Joinable first second xs → AnsweredJoined first second xs (joined_bytes first second xs)
answered_joined w = record { answers_joined = joined_answers w; accepted_exactly = joined_accepted_exactly w }
