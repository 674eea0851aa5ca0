-- The refusals at the start of a run: each is given exactly for its cause, where no earlier line of the table applies.
use mathlib.Core.Bool.{true, false, ◌&&◌}
use mathlib.Core.List.{List}
use mathlib.Core.Logic.Iff
use mathlib.Core.Logic.{◌↔◌, ◌⊎◌, inl, inr}
use mathlib.Core.Option.{Option, none, some}
use mathlib.Core.Path.{◌≡◌, refl}
use Prim.Native.Nat.{ℕ, ◌≤◌}
use lib.Dec.{leb, ltb}
use lib.ListN.{length}
use Rattle.graph.specs.Network.{Rule}
use Rattle.graph.specs.Route.{Choice}
use Rattle.graph.proofs.Truth.{not_of_true, true_of_not_false, and_left, and_right, and_both, leb_le, le-leb}
use Rattle.naming.specs.State.{empty_state}
use Rattle.commands.specs.Refusal.{Refusal, bad_capacity, short_buffer, long_journal, refusal_number, Line, Capacities, first_that_applies}
use Rattle.commands.specs.Text.{text_of}
use Rattle.commands.specs.Run.{Run, run_within}
use Rattle.commands.specs.Entry.{good_capacities, short_buffers, start_lines, refused_at_start, ran, whole_unless, whole_run}
use Rattle.commands.proofs.Cases.{impossible}
use Rattle.commands.proofs.Table.{given_exactly, stage, Between, given_between, NoneOf, none_exactly}
use Rattle.commands.proofs.Causes.{not_is_true, not_is_false}

-- C is 1 to 4,096, and S is 1 to 8,192
pub record InRange (caps : Capacities) : Type 0 where
  pub some_cabinets : 1 ≤ caps.cabinets
  pub few_cabinets : caps.cabinets ≤ 4096
  pub some_spans : 1 ≤ caps.spans
  pub few_spans : caps.spans ≤ 8192

-- the test of the capacities says so
pub good_exactly : (caps : Capacities) → (good_capacities caps ≡ true) ↔ InRange caps
unfolding good_capacities
good_exactly caps = (to, from)
  where
    to : good_capacities caps ≡ true → InRange caps
    to e =
        let p = leb 1 caps.cabinets in
        let q = leb caps.cabinets 4096 in
        let r = leb 1 caps.spans in
        let s = leb caps.spans 8192 in
        let pqr = and_left (p && q && r) s e in
        let pq = and_left (p && q) r pqr in
        record {
          some_cabinets = leb_le _ _ (and_left p q pq);
          few_cabinets = leb_le _ _ (and_right p q pq);
          some_spans = leb_le _ _ (and_right (p && q) r pqr);
          few_spans = leb_le _ _ (and_right (p && q && r) s e);
        }

    from : InRange caps → good_capacities caps ≡ true
    from r =
        and_both
        (and_both (and_both (le-leb _ _ r.some_cabinets) (le-leb _ _ r.few_cabinets)) (le-leb _ _ r.some_spans))
        (le-leb _ _ r.few_spans)

-- none of the three causes at the start
pub record StartsWell (caps : Capacities) (journal_length work_length report_length : ℕ) : Type 0 where
  pub good_capacities_lem : good_capacities caps ≡ true
  pub long_buffers : short_buffers caps work_length report_length ≡ false
  pub short_journal : ltb 65536 journal_length ≡ false

refused_unless : (o : Option Refusal) (run : Run) (r : Refusal) → (whole_unless o run ≡ refused_at_start r) ↔ (o ≡ some r)
unfolding whole_unless
refused_unless none run r = (λ e. impossible (cc), λ e. impossible (cc))
refused_unless (some s) run r = (λ e. cc, λ e. cc)

ran_unless : (o : Option Refusal) (run : Run) → (whole_unless o run ≡ ran run) ↔ (o ≡ none)
unfolding whole_unless
ran_unless none run = (λ e. refl, λ e. refl)
ran_unless (some s) run = (λ e. impossible (cc), λ e. impossible (cc))

module _ (rule : Rule) (choice : Choice) (caps : Capacities) (journal : List ℕ) (work_length answers_length report_length : ℕ) where
  -- the lines that are tested at the start
  abbrev start_table : List Line
  start_table = start_lines caps (length journal) work_length report_length

  -- the start's refusals are those of its lines
  pub start_decides : (r : Refusal) → (whole_run rule choice caps journal work_length answers_length report_length ≡ refused_at_start r)
      ↔ (first_that_applies start_table ≡ some r)
  unfolding whole_run
  start_decides r = refused_unless (first_that_applies start_table) _ r

  -- a run is refused at the start at that stage
  pub start_stage : (r : Refusal) → whole_run rule choice caps journal work_length answers_length report_length ≡ refused_at_start r → Between 0 0 r
  unfolding start_lines stage
  start_stage r e = given_between 0 0 start_table r refl ((start_decides r).0 e)

  -- bad capacity: C or S is out of its range
  pub bad_capacity_exactly : (whole_run rule choice caps journal work_length answers_length report_length ≡ refused_at_start bad_capacity)
      ↔ (good_capacities caps ≡ false)
  unfolding start_lines refusal_number
  bad_capacity_exactly = Iff.trans (start_decides bad_capacity) (simp not_is_true at (given_exactly 0 bad_capacity start_table refl))

  -- short buffer: the capacities are good, and the working table or the report is too short
  pub short_buffer_exactly : (whole_run rule choice caps journal work_length answers_length report_length ≡ refused_at_start short_buffer)
      ↔ ((good_capacities caps ≡ true) × (short_buffers caps work_length report_length ≡ true))
  unfolding start_lines refusal_number
  short_buffer_exactly = Iff.trans (start_decides short_buffer) (simp not_is_false at (given_exactly 1 short_buffer start_table refl))

  -- long journal: neither, and the journal is longer than 65,536 bytes
  pub long_journal_exactly : (whole_run rule choice caps journal work_length answers_length report_length ≡ refused_at_start long_journal)
      ↔ ((good_capacities caps ≡ true) × ((short_buffers caps work_length report_length ≡ false) × (ltb 65536 (length journal) ≡ true)))
  unfolding start_lines refusal_number
  long_journal_exactly = Iff.trans (start_decides long_journal) (simp not_is_false at (given_exactly 2 long_journal start_table refl))

  starts_well : NoneOf start_table → StartsWell caps (length journal) work_length report_length
  unfolding start_lines
  starts_well f = record { good_capacities_lem = true_of_not_false _ f.0; long_buffers = f.1.0; short_journal = f.1.1.0 }

  no_line : StartsWell caps (length journal) work_length report_length → NoneOf start_table
  unfolding start_lines
  no_line w = (not_of_true w.good_capacities_lem, (w.long_buffers, (w.short_journal, tt)))

  -- the run goes ahead exactly if none of the three applies
  pub ran_exactly : (whole_run rule choice caps journal work_length answers_length report_length ≡ ran (run_within answers_length choice caps (empty_state rule) (text_of journal)))
      ↔ StartsWell caps (length journal) work_length report_length
  unfolding whole_run
  ran_exactly =
      Iff.trans
      (ran_unless (first_that_applies start_table) _)
      (Iff.trans (none_exactly start_table) (starts_well, no_line))

  -- a run is refused at the start, or goes ahead
  pub refused_or_ran : ((r : Refusal) × (whole_run rule choice caps journal work_length answers_length report_length ≡ refused_at_start r))
      ⊎ StartsWell caps (length journal) work_length report_length
  refused_or_ran = go (first_that_applies start_table) refl
    where
      go : (o : Option Refusal) → first_that_applies start_table ≡ o
          → ((r : Refusal) × (whole_run rule choice caps journal work_length answers_length report_length ≡ refused_at_start r))
          ⊎ StartsWell caps (length journal) work_length report_length
      go (some r) e = inl (r, (start_decides r).1 e)
      go none e = inr (starts_well ((none_exactly start_table).0 e))
