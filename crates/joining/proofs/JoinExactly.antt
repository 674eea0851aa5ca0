-- When joining is refused, number by number (request 9), and that each is given exactly for its cause.
use mathlib.Core.Bool.{true, false, cond, ◌||◌}
use mathlib.Core.List.{List, [], ◌++◌}
use mathlib.Core.Logic.Iff
use mathlib.Core.Logic.{◌↔◌}
use mathlib.Core.Option.{Option, none, some}
use mathlib.Core.Path.{◌≡◌, refl, sym, ◌∙◌, ap}
use Prim.Native.Nat.{ℕ}
use lib.Dec.{ltb}
use lib.ListN.{length, drop, replicate, length-replicate}
use Rattle.graph.specs.Lists.{all_in}
use Rattle.commands.specs.Refusal.{Refusal, short_buffer, refused_journal, bad_seam, long_join, refusal_number, Line, first_that_applies}
use Rattle.commands.specs.Entry.{work_needed, number_of, over}
use Rattle.commands.specs.Join.{Seam, join_capacities, is_refused, counts_in, good_seam, joined_bytes, join_lines, Joining, joining_unless, join, joined_work}
use Rattle.commands.proofs.Table.{given_exactly, none_exactly}
use Rattle.commands.proofs.Causes.{not_is_true, not_is_false}
use Rattle.commands.proofs.Returned.{number_exactly, zero_exactly}
use Rattle.joining.proofs.GoodSeams.{BadAmong, bad_among_exactly}

-- the number is that of the refusal, if there is one
pub number_of_joining : (o : Option Refusal) (result : List ℕ) → (joining_unless o result).number ≡ number_of o
unfolding joining_unless number_of
number_of_joining none result = refl
number_of_joining (some r) result = refl

module _ (work_length room : ℕ) (first second : List ℕ) (seams : List Seam) where
  abbrev lines : List Line
  lines = join_lines work_length room first second seams

  abbrev joined : Joining
  joined = join work_length room first second seams

  -- The working table is too short; a journal is refused; all seams are good; the result is too long.
  abbrev pub ShortTable : Type 0
  ShortTable = ltb work_length (work_needed join_capacities) ≡ true

  abbrev pub LongTable : Type 0
  LongTable = ltb work_length (work_needed join_capacities) ≡ false

  abbrev pub BothAccepted : Type 0
  BothAccepted = (is_refused first || is_refused second) ≡ false

  abbrev pub GoodSeams : Type 0
  GoodSeams = all_in (good_seam (counts_in first).cabinets (counts_in second).cabinets) seams ≡ true

  abbrev pub TooLong : Type 0
  TooLong = (ltb 65536 (length (joined_bytes first second seams)) || ltb room (length (joined_bytes first second seams))) ≡ true

  abbrev pub Fitting : Type 0
  Fitting = (ltb 65536 (length (joined_bytes first second seams)) || ltb room (length (joined_bytes first second seams))) ≡ false

  given_by : (r : Refusal) → (joined.number ≡ refusal_number r) ↔ (first_that_applies lines ≡ some r)
  unfolding join
  given_by r =
      let is = number_of_joining (first_that_applies lines) (joined_bytes first second seams) in
      let exactly = number_exactly (first_that_applies lines) r in
      (λ e. exactly.0 (sym is ∙ e), λ e. is ∙ exactly.1 e)

  -- 2: the working table is shorter than W
  pub join_two_exactly : (joined.number ≡ 2) ↔ ShortTable
  unfolding join_lines refusal_number
  join_two_exactly = Iff.trans (given_by short_buffer) (given_exactly 0 short_buffer lines refl)

  -- 17: it is long enough, and a run so sized refuses one of the journals
  pub seventeen_exactly : (joined.number ≡ 17) ↔ (LongTable × ((is_refused first || is_refused second) ≡ true))
  unfolding join_lines refusal_number
  seventeen_exactly = Iff.trans (given_by refused_journal) (given_exactly 1 refused_journal lines refl)

  -- 18: neither of these, and a seam names a cabinet that its journal lacks, or duct 0
  pub eighteen_exactly : (joined.number ≡ 18)
      ↔ (LongTable × (BothAccepted × BadAmong (counts_in first).cabinets (counts_in second).cabinets seams))
  unfolding join_lines refusal_number
  eighteen_exactly =
      let exactly = Iff.trans (given_by bad_seam) (simp not_is_true at (given_exactly 2 bad_seam lines refl)) in
      let bad = bad_among_exactly (counts_in first).cabinets (counts_in second).cabinets seams in (
        λ e. let w = exactly.0 e in (w.0, (w.1.0, bad.0 w.1.1)),
        λ w. exactly.1 (w.0, (w.1.0, bad.1 w.1.1)),
      )

  -- 19: none of these, and the result exceeds 65,536 bytes or the output buffer
  pub nineteen_exactly : (joined.number ≡ 19) ↔ (LongTable × (BothAccepted × (GoodSeams × TooLong)))
  unfolding join_lines refusal_number
  nineteen_exactly = Iff.trans (given_by long_join) (simp not_is_false at (given_exactly 3 long_join lines refl))

  -- 0: none of these
  pub join_nought_exactly : (joined.number ≡ 0) ↔ (LongTable × (BothAccepted × (GoodSeams × Fitting)))
  unfolding join_lines join
  join_nought_exactly =
      let is = number_of_joining (first_that_applies lines) (joined_bytes first second seams) in
      let exactly = zero_exactly (first_that_applies lines) in (
        λ e.
            let n = (none_exactly lines).0 (exactly.0 (sym is ∙ e)) in
            (n.0, (n.1.0, ((not_is_false _).0 n.1.1.0, n.1.1.1.0))),
        λ w. is ∙ exactly.1 ((none_exactly lines).1 (w.0, (w.1.0, ((not_is_false _).1 w.1.1.0, (w.1.1.1, tt))))),
      )

  -- with 0 comes the whole result
  pub join_with_nought : joined.number ≡ 0 → joined.result ≡ joined_bytes first second seams
  unfolding join joining_unless
  join_with_nought e =
      let is = number_of_joining (first_that_applies lines) (joined_bytes first second seams) in
      ap (λ (o : Option Refusal). (joining_unless o (joined_bytes first second seams)).result) ((zero_exactly (first_that_applies lines)).0 (sym is ∙ e))

  -- and with a refusal no byte
  pub join_refused_empty : (r : Refusal) → first_that_applies lines ≡ some r → joined.result ≡ []
  unfolding join joining_unless
  join_refused_empty r e = ap (λ (o : Option Refusal). (joining_unless o (joined_bytes first second seams)).result) e

-- The working table is as before where it is too short;
pub short_table_stays : (work : List ℕ) → ltb (length work) (work_needed join_capacities) ≡ true → joined_work work ≡ work
unfolding joined_work
short_table_stays work e = ap (λ b. cond b work (over (replicate (work_needed join_capacities) 0) work)) e

-- else its first W numbers are 0, and those beyond are as before.
pub long_table_cleared : (work : List ℕ) → ltb (length work) (work_needed join_capacities) ≡ false
    → joined_work work ≡ replicate (work_needed join_capacities) 0 ++ drop (work_needed join_capacities) work
unfolding joined_work over
long_table_cleared work e =
    ap (λ b. cond b work (over (replicate (work_needed join_capacities) 0) work)) e
    ∙ ap (λ (n : ℕ). replicate (work_needed join_capacities) 0 ++ drop n work) (length-replicate (work_needed join_capacities) 0)
