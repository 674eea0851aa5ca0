-- What the steps of a join come to: the number, the length and the buffer are those of the joining.
use mathlib.Core.Bool.{Bool, true, false, cond, ◌||◌, false≢true}
use mathlib.Core.List.{List, ◌++◌, map}
use mathlib.Core.Logic.{◌⊎◌, inl, inr}
use mathlib.Core.Option.{Option, none, some}
use mathlib.Core.Path.{◌≡◌, refl, sym, ◌∙◌, ap, ap₂, subst}
use Prim.Native.Nat.{ℕ, ◌+◌, ◌*◌, ◌≤◌}
use native.Mathlib.Omega.{arith}
use lib.Dec.{ltb}
use lib.ListN.{length, length-append, length-map}
use lib.Seq.{sets, length-sets}
use Rattle.std.specs.Prelude.{Result, Ok, Err}
use Rattle.graph.specs.Lists.{all_in}
use Rattle.graph.proofs.Truth.{true_or_false, not_of_true, not_of_false, or_neither, or_neither_left, or_neither_right, ltb_ge}
use Rattle.commands.specs.Refusal as Table
use Rattle.commands.specs.Refusal.{refusal_number, Line, first_that_applies}
use Rattle.commands.specs.Text.{text_of, commands_in, journal_bytes}
use Rattle.commands.specs.Entry.{work_needed, over}
use Rattle.commands.specs.Join as Join
use Rattle.commands.specs.Join.{raise_command, join_capacities, is_refused, counts_in, good_seam, joined_bytes, join_lines, Joining, joining_unless, join}
use Rattle.commands.proofs.Table.{given_exactly, none_exactly, number_above_zero}
use Rattle.storing.proofs.Sets.{sets_behind, sets_front}
use Rattle.refusals.specs.declared.Refusal.{Refusal}
use Rattle.refusals.specs.declared.Refusal.TheVariants.{ShortBuffer, RefusedJournal, BadSeam, LongJoin}
use Rattle.refusals.specs.Causes.{cause_of}
use Rattle.joining.specs.declared.seams.Counts.{Counts}
use Rattle.joining.specs.declared.seams.Seam.{Seam}
use Rattle.joining.specs.Promise.{seam_of}
use Rattle.joining.specs.Told.{ducts_fit, tells_number, tells_length, Joined}
use Rattle.joining.specs.Inside.Seams.{one_of, look_at, seam_bytes}
use Rattle.joining.specs.Inside.Alone.{alone_of, both_of, counted_of, CountsBoth}
use Rattle.joining.specs.Inside.Joined.{Puttable, Stored, put_journals}
use Rattle.joining.proofs.JoinedAnswers.{accepted-alone}
use Rattle.joining.proofs.JoinedText.{journal_length_raised, length_of_commands, length_of-joined}

module _ (work_length : ℕ) (first second : List ℕ) (xs : List Seam) (out : List ℕ) where
  abbrev seams : List Join.Seam
  seams = map seam_of xs

  abbrev joined : Joining
  joined = join work_length (length out) first second seams

  -- A join that is refused leaves the buffer as it is.
  abbrev refused : Refusal → Stored
  refused refusal = record { place = Err refusal; out = out }

  -- What the four steps leave, each behind the one before: the seams are stored behind both journals, where these are stored;
  abbrev pub seams_behind : Counts → Result ℕ Refusal → List ℕ → Stored
  seams_behind c (Err refusal) left = record { place = Err refusal; out = left }
  seams_behind c (Ok front) left = record { place = Ok (front + length xs * 7); out = sets left front (seam_bytes c xs) }

  abbrev both_put : Counts → Stored
  both_put c = put_journals first second (length xs) c out

  -- these where the seams are good;
  abbrev pub journals_behind : Counts → Result Unit Refusal → Stored
  journals_behind c (Err refusal) = refused refusal
  journals_behind c (Ok looked) = seams_behind c (both_put c).place (both_put c).out

  -- and they are looked at where both journals are counted.
  abbrev pub stages_from : Result Counts Refusal → Stored
  stages_from (Err refusal) = refused refusal
  stages_from (Ok c) = journals_behind c (look_at c xs)

  abbrev pub last_stage : Stored
  last_stage = stages_from (counted_of work_length first second)

  -- This is what a joining returns and leaves.
  pub record Leaves (j : Joining) (s : Stored) : Type 0 where
    pub number_is : tells_number s.place ≡ j.number
    pub length_is : tells_length s.place ≡ length j.result
    pub output_is : s.out ≡ over j.result out

  -- a join that is refused leaves the buffer as it was
  leaves_refused : (refusal : Refusal) → first_that_applies (join_lines work_length (length out) first second seams) ≡ some (cause_of refusal)
      → last_stage ≡ refused refusal → Leaves joined last_stage
  unfolding join joining_unless tells_number tells_length over
  leaves_refused refusal e s =
      subst (λ (j : Joining). Leaves j last_stage) (sym (ap (λ (o : Option Table.Refusal). joining_unless o (joined_bytes first second seams)) e))
      (subst (Leaves (joining_unless (some (cause_of refusal)) (joined_bytes first second seams))) (sym s)
      (record { number_is = refl; length_is = refl; output_is = refl }))

  -- both networks counted
  abbrev counts : Counts
  counts = record { cabinets = (counts_in first).cabinets; spans = (counts_in first).spans; others = (counts_in second).cabinets }

  abbrev good : Bool
  good = all_in (good_seam (counts_in first).cabinets (counts_in second).cabinets) seams

  -- where a seam is not good
  all_bad : good ≡ false → stages_from (Ok counts) ≡ refused BadSeam
  unfolding look_at
  all_bad e = ap (λ b. journals_behind counts (cond b (Ok tt) (Err BadSeam))) e

  -- where all are
  all_good : good ≡ true → stages_from (Ok counts) ≡ seams_behind counts (both_put counts).place (both_put counts).out
  unfolding look_at
  all_good e = ap (λ b. journals_behind counts (cond b (Ok tt) (Err BadSeam))) e

  abbrev front : ℕ
  front = length first + length second

  abbrev size : ℕ
  size = front + length xs * 7

  -- both journals stored
  abbrev second_raised : List ℕ
  second_raised = journal_bytes (map (raise_command (one_of counts)) (commands_in second))

  abbrev begun : Stored
  begun = record { place = Ok front; out = sets out 0 (first ++ second_raised) }

  -- and the result is too long
  too_long : (ltb 65536 size || ltb (length out) size) ≡ true
      → seams_behind counts (both_put counts).place (both_put counts).out ≡ refused LongJoin
  unfolding put_journals
  too_long e = ap (λ b. let s = cond b (refused LongJoin) begun in seams_behind counts s.place s.out) e

  -- or fits
  both_stored : (text_of second).refusal ≡ none → (ltb 65536 size || ltb (length out) size) ≡ false
      → seams_behind counts (both_put counts).place (both_put counts).out
      ≡ record { place = Ok size; out = sets out 0 (joined_bytes first second seams) }
  unfolding put_journals joined_bytes one_of seam_bytes
  both_stored whole e =
      ap (λ b. let s = cond b (refused LongJoin) begun in seams_behind counts s.place s.out) e
      ∙ ap (λ (l : List ℕ). record { place = Ok size; out = l }) (sets_behind out 0 front (first ++ second_raised) (seam_bytes counts xs) front_is)
    where
      front_is : front ≡ 0 + length (first ++ second_raised)
      front_is =
          omega (
            arith,
            length-append first second_raised,
            journal_length_raised (one_of counts) (commands_in second),
            length_of_commands second whole,
          )

  -- the line of the table for what the code tests
  size_is : (text_of second).refusal ≡ none → length (joined_bytes first second seams) ≡ size
  size_is whole = length_of-joined first second seams whole ∙ ap (λ n. front + n * 7) (length-map xs seam_of)

  leaves_stored : (text_of second).refusal ≡ none → (ltb 65536 size || ltb (length out) size) ≡ false
      → joined ≡ record { number = 0; result = joined_bytes first second seams }
      → last_stage ≡ record { place = Ok size; out = sets out 0 (joined_bytes first second seams) } → Leaves joined last_stage
  unfolding tells_number tells_length
  leaves_stored whole fits is s =
      let room = ltb_ge (length out) size (or_neither_right (ltb 65536 size) (ltb (length out) size) fits) in
      subst (λ (j : Joining). Leaves j last_stage) (sym is)
      (subst (Leaves (record { number = 0; result = joined_bytes first second seams })) (sym s)
      (record {
        number_is = refl;
        length_is = sym (size_is whole);
        output_is = sets_front out (joined_bytes first second seams) (omega (arith, room, size_is whole));
      }))

  -- what both journals come to
  counted_short : ltb work_length (work_needed join_capacities) ≡ true → counted_of work_length first second ≡ Err ShortBuffer
  unfolding counted_of
  counted_short e = ap (λ b. cond b (Err ShortBuffer) (both_of (alone_of first) (alone_of second))) e

  counted_long : ltb work_length (work_needed join_capacities) ≡ false → counted_of work_length first second ≡ both_of (alone_of first) (alone_of second)
  unfolding counted_of
  counted_long e = ap (λ b. cond b (Err ShortBuffer) (both_of (alone_of first) (alone_of second))) e

  -- each, by whether it is refused
  abbrev both_by : Bool → Bool → Result Counts Refusal
  both_by a b =
      both_of
      (cond a (Err RefusedJournal) (Ok (record { cabinets = (counts_in first).cabinets; spans = (counts_in first).spans })))
      (cond b (Err RefusedJournal) (Ok (record { cabinets = (counts_in second).cabinets; spans = (counts_in second).spans })))

  refused_both : (is_refused first || is_refused second) ≡ true → both_of (alone_of first) (alone_of second) ≡ Err RefusedJournal
  unfolding both_of alone_of
  refused_both e = go (is_refused first) (is_refused second) e
    where
      go : (a b : Bool) → (a || b) ≡ true → both_by a b ≡ Err RefusedJournal
      go true b e = refl
      go false true e = refl
      go false false e = absurd (false≢true e)

  counted_both : is_refused first ≡ false → is_refused second ≡ false → both_of (alone_of first) (alone_of second) ≡ Ok counts
  unfolding both_of alone_of
  counted_both e f = ap₂ both_by e f

  abbrev lines : List Line
  lines = join_lines work_length (length out) first second seams

  joining_is : first_that_applies lines ≡ none → joined ≡ record { number = 0; result = joined_bytes first second seams }
  unfolding join joining_unless
  joining_is e = ap (λ (o : Option Table.Refusal). joining_unless o (joined_bytes first second seams)) e

  -- So the steps leave what joining leaves.
  pub stages_leave : Leaves joined last_stage
  unfolding join_lines refusal_number
  stages_leave = by_table (true_or_false (ltb work_length (work_needed join_capacities)))
    where
      whole : is_refused second ≡ false → (text_of second).refusal ≡ none
      whole f = (accepted-alone second f).whole

      long_is : is_refused second ≡ false
          → (ltb 65536 (length (joined_bytes first second seams)) || ltb (length out) (length (joined_bytes first second seams)))
          ≡ (ltb 65536 size || ltb (length out) size)
      long_is f = ap (λ n. ltb 65536 n || ltb (length out) n) (size_is (whole f))

      by_size : (ltb work_length (work_needed join_capacities) ≡ false) → is_refused first ≡ false → is_refused second ≡ false → good ≡ true
          → last_stage ≡ seams_behind counts (both_put counts).place (both_put counts).out
          → ((ltb 65536 size || ltb (length out) size) ≡ true) ⊎ ((ltb 65536 size || ltb (length out) size) ≡ false) → Leaves joined last_stage
      by_size t e f g s (inl l) =
          leaves_refused LongJoin
          ((given_exactly 3 Table.long_join lines refl).1 (t, (or_neither e f, (not_of_true g, long_is f ∙ l)))) (s ∙ too_long l)
      by_size t e f g s (inr l) =
          leaves_stored (whole f) l
          (joining_is ((none_exactly lines).1 (t, (or_neither e f, (not_of_true g, (long_is f ∙ l, tt)))))) (s ∙ both_stored (whole f) l)

      by_seams : (ltb work_length (work_needed join_capacities) ≡ false) → is_refused first ≡ false → is_refused second ≡ false
          → last_stage ≡ stages_from (Ok counts) → (good ≡ true) ⊎ (good ≡ false) → Leaves joined last_stage
      by_seams t e f s (inl g) = by_size t e f g (s ∙ all_good g) (true_or_false (ltb 65536 size || ltb (length out) size))
      by_seams t e f s (inr g) =
          leaves_refused BadSeam ((given_exactly 2 Table.bad_seam lines refl).1 (t, (or_neither e f, not_of_false g))) (s ∙ all_bad g)

      by_journals : (ltb work_length (work_needed join_capacities) ≡ false)
          → ((is_refused first || is_refused second) ≡ true) ⊎ ((is_refused first || is_refused second) ≡ false) → Leaves joined last_stage
      by_journals t (inl e) =
          leaves_refused RefusedJournal ((given_exactly 1 Table.refused_journal lines refl).1 (t, e))
          (ap stages_from (counted_long t ∙ refused_both e))
      by_journals t (inr e) =
          let one = or_neither_left (is_refused first) (is_refused second) e in
          let two = or_neither_right (is_refused first) (is_refused second) e in
          by_seams t one two (ap stages_from (counted_long t ∙ counted_both one two)) (true_or_false good)

      by_table : (ltb work_length (work_needed join_capacities) ≡ true) ⊎ (ltb work_length (work_needed join_capacities) ≡ false) → Leaves joined last_stage
      by_table (inl e) = leaves_refused ShortBuffer ((given_exactly 0 Table.short_buffer lines refl).1 e) (ap stages_from (counted_short e))
      by_table (inr e) = by_journals e (true_or_false (is_refused first || is_refused second))

  -- Where both journals are counted they can be stored.
  pub looked_puttable : {c : Counts} → Ok c ≡ counted_of work_length first second → Puttable first second
  looked_puttable {c} counted = by_table (true_or_false (ltb work_length (work_needed join_capacities)))
    where
      not_refused : (refusal : Refusal) → counted_of work_length first second ≡ Err refusal → ⊥
      not_refused refusal e = let both : Ok c ≡ Err refusal = counted ∙ e in cc

      by_journals : ltb work_length (work_needed join_capacities) ≡ false
          → ((is_refused first || is_refused second) ≡ true) ⊎ ((is_refused first || is_refused second) ≡ false) → Puttable first second
      by_journals t (inl e) = absurd (not_refused RefusedJournal (counted_long t ∙ refused_both e))
      by_journals t (inr e) =
          let alone_one = accepted-alone first (or_neither_left (is_refused first) (is_refused second) e) in
          let alone_two = accepted-alone second (or_neither_right (is_refused first) (is_refused second) e) in
          record {
            short = ltb_ge 65536 (length first) alone_one.short;
            readable = record { short = ltb_ge 65536 (length second) alone_two.short; whole = alone_two.whole };
          }

      by_table : (ltb work_length (work_needed join_capacities) ≡ true) ⊎ (ltb work_length (work_needed join_capacities) ≡ false) → Puttable first second
      by_table (inl e) = absurd (not_refused ShortBuffer (counted_short e))
      by_table (inr e) = by_journals e (true_or_false (is_refused first || is_refused second))

  -- Where both are stored, there is room for the seams.
  pub record RoomBehind (front : ℕ) (left : List ℕ) : Type 0 where
    pub short : front + length xs * 7 ≤ 65536
    pub room : front + length xs * 7 ≤ length left

  pub room_for_seams : (c : Counts) {n : ℕ} {left : List ℕ} → record { place = Ok n; out = left } ≡ put_journals first second (length xs) c out
      → RoomBehind n left
  unfolding put_journals
  room_for_seams c {n} {left} is = go (true_or_false (ltb 65536 size || ltb (length out) size))
    where
      bytes : List ℕ
      bytes = first ++ journal_bytes (map (raise_command (one_of c)) (commands_in second))

      stored : Bool → Stored
      stored b = cond b (refused LongJoin) (record { place = Ok front; out = sets out 0 bytes })

      behind : record { place = Ok n; out = left } ≡ stored false → (n ≡ front) × (left ≡ sets out 0 bytes)
      behind e =
          let at : Ok n ≡ Ok front = ap (λ (s : Stored). s.place) e in
          (cc, ap (λ (s : Stored). s.out) e)

      go : ((ltb 65536 size || ltb (length out) size) ≡ true) ⊎ ((ltb 65536 size || ltb (length out) size) ≡ false) → RoomBehind n left
      go (inl e) = absurd (let both : Ok n ≡ Err LongJoin = ap (λ (s : Stored). s.place) (is ∙ ap stored e) in cc)
      go (inr e) =
          let w = behind (is ∙ ap stored e) in
          record {
            short = omega (arith, w.0, ltb_ge 65536 size (or_neither_left (ltb 65536 size) (ltb (length out) size) e));
            room = omega (
              arith,
              w.0,
              ap length w.1,
              length-sets out 0 bytes,
              ltb_ge (length out) size (or_neither_right (ltb 65536 size) (ltb (length out) size) e),
            );
          }

  -- What they leave, wherever the join ends: where a journal is refused, or the table too short;
  pub left_uncounted : {refusal : Refusal} → Err refusal ≡ counted_of work_length first second → refused refusal ≡ last_stage
  left_uncounted counted = ap stages_from counted

  module _ {c : Counts} (counted : Ok c ≡ counted_of work_length first second) where
    -- at a seam that is not good;
    pub left_looked : {refusal : Refusal} → Err refusal ≡ look_at c xs → refused refusal ≡ last_stage
    left_looked looked = ap (journals_behind c) looked ∙ ap stages_from counted

    module _ {looked_at : Unit} (looked : Ok looked_at ≡ look_at c xs) {place : Result ℕ Refusal} {left : List ℕ}
        (put : record { place = place; out = left } ≡ put_journals first second (length xs) c out) where
      -- with the journals stored, or refused for their length, and the seams behind them
      pub left_put : seams_behind c place left ≡ last_stage
      left_put =
          ap (λ (s : Stored). seams_behind c s.place s.out) put
          ∙ ap (journals_behind c) looked
          ∙ ap stages_from counted

-- So the function that takes the steps joins.
module _ (first second : List ℕ) (xs : List Seam) (table lent : List ℕ) {counted : Result Counts Refusal} {left_table : List ℕ}
    (counts : CountsBoth first second counted table left_table) where
  pub joined_so : {told : Result ℕ Refusal} {left : List ℕ}
      → record { place = told; out = left } ≡ last_stage (length table) first second xs lent
      → (tells_number told ≡ 0 → ducts_fit xs ≡ true) → Joined first second xs told table left_table lent left
  joined_so last fit =
      let leaves = subst (Leaves (length table) first second xs lent _) (sym last) (stages_leave (length table) first second xs lent) in
      record {
        number_is = leaves.number_is;
        length_is = leaves.length_is;
        work_is = counts.work_is;
        output_is = leaves.output_is;
        are_bytes = counts.are_bytes;
        ducts_fit_lem = fit;
      }

  -- a refusal is not told by 0
  pub refused_so : {refusal : Refusal} {left : List ℕ}
      → record { place = Err refusal; out = left } ≡ last_stage (length table) first second xs lent
      → Joined first second xs (Err refusal) table left_table lent left
  unfolding tells_number
  refused_so {refusal} last = joined_so last (λ e. absurd (omega (arith, e, number_above_zero (cause_of refusal))))
