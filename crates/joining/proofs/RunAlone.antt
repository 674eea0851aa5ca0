-- A journal that is run alone, by how its run ends; and what comes of both.
use mathlib.Core.Bool.{true, false}
use mathlib.Core.List.{List, ◌++◌}
use mathlib.Core.Option.{Option, none, some}
use mathlib.Core.Path.{◌≡◌, refl, sym, ◌∙◌, ap, ap₂}
use Prim.Native.Nat.{ℕ, ◌≤◌, ◌<◌, min}
use native.Mathlib.Omega.{arith}
use lib.Dec.{ltb}
use lib.ListN.{length, drop, replicate}
use Rattle.graph.specs.Network.{edge_count}
use Rattle.graph.proofs.Truth.{or_left, or_right, or_neither, lt-ltb, ge_ltb}
use Rattle.commands.specs.Bytes.{all_bytes}
use Rattle.commands.specs.Refusal.{Refusal, refusal_number}
use Rattle.commands.specs.Text.{text_of}
use Rattle.commands.specs.Run.{commands_of}
use Rattle.commands.specs.Entry.{work_needed, book_after, number_of, report_of}
use Rattle.commands.specs.Register.{register_rule, register_routes, ample_run}
use Rattle.commands.specs.Join.{join_capacities, run_alone, is_some, is_refused, state_behind, counts_of, counts_in, joined_work}
use Rattle.commands.proofs.Returned.{zero_exactly}
use Rattle.commands.proofs.Table.{number_above_zero}
use Rattle.commands.proofs.WholeRun.{register-mates}
use Rattle.std.specs.Prelude.{Result, Ok, Err}
use Rattle.std.specs.Prelude as P
use Rattle.forest.specs.Promise.{words_needed, SameBeyond, same_beyond_trans}
use Rattle.run.specs.declared.Progress.{Progress}
use Rattle.run.specs.Promise.{capacities_of, six_numbers, UnansweredPromise}
use Rattle.run.proofs.Needed.{work_is_words, cleared_over}
use Rattle.refusals.specs.declared.Refusal as R
use Rattle.refusals.specs.declared.Refusal.TheVariants.{ShortBuffer, RefusedJournal}
use Rattle.refusals.specs.Causes.{cause_of, causes_of}
use Rattle.joining.specs.declared.alone.Size.{Size}
use Rattle.joining.specs.declared.seams.Counts.{Counts}
use Rattle.joining.specs.Inside.Alone.{greatest, alone_of, both_of, counted_of, CountsBoth}
use Rattle.joining.proofs.RunAccepts.{accepted_book, accepted_sound}

-- The greatest capacities are the greatest limits: a run of them needs these words.
as_many_needed : work_needed (capacities_of greatest) ≡ work_needed join_capacities
unfolding greatest capacities_of join_capacities
as_many_needed = refl

pub words_enough : (n : ℕ) → work_needed join_capacities ≤ n → words_needed greatest ≤ n
words_enough n h = omega (arith, work_is_words greatest, as_many_needed)

pub work_enough : (needed n : ℕ) → needed ≡ work_needed (capacities_of greatest) → needed ≤ n → work_needed join_capacities ≤ n
work_enough needed n e h = omega (arith, as_many_needed)

-- where there is a refusal's number, there is a refusal
refused_by_number : (o : Option Refusal) (r : Refusal) → refusal_number r ≡ number_of o → is_some o ≡ true
unfolding number_of is_some
refused_by_number none r n = absurd (omega (arith, n, number_above_zero r))
refused_by_number (some s) r n = refl

-- A journal.
module _ (journal : List ℕ) where
  is_refused_lem : is_refused journal ≡ true → Err RefusedJournal ≡ alone_of journal
  unfolding alone_of
  is_refused_lem e = rw e refl

  -- one that is too long is refused
  pub too_long_alone : 65536 < length journal → Err RefusedJournal ≡ alone_of journal
  unfolding is_refused
  too_long_alone h = is_refused_lem (or_left (lt-ltb 65536 (length journal) h) _)

  -- The run of it without answers.
  module _ {p : Progress} {old new : List ℕ}
      (promise : UnansweredPromise greatest (ample_run register_routes (capacities_of greatest) journal) p old new) where
    ends_as_told : UnansweredPromise greatest (run_alone register_routes journal) p old new
    unfolding greatest capacities_of join_capacities run_alone
    ends_as_told = promise

    -- what it reports: how it ended, and the size of its network
    refusal_told : number_of (causes_of p.refusal) ≡ number_of (run_alone register_routes journal).refusal
    unfolding six_numbers report_of
    refusal_told = cc ends_as_told.numbers_are

    vertices_told : p.shape.vertices ≡ (book_after register_rule (commands_of (run_alone register_routes journal))).network.vertices
    unfolding six_numbers report_of
    vertices_told = cc ends_as_told.numbers_are

    edges_told : p.shape.edges ≡ edge_count (book_after register_rule (commands_of (run_alone register_routes journal))).network
    unfolding six_numbers report_of
    edges_told = cc ends_as_told.numbers_are

    -- the words beyond the table's are as before
    pub beyond_alone : SameBeyond greatest old new
    beyond_alone = ends_as_told.same_beyond

    -- where it ends in a refusal, the journal is refused
    pub refused_alone : {refusal : R.Refusal} → p.refusal ≡ P.Some refusal → Err RefusedJournal ≡ alone_of journal
    unfolding is_refused number_of
    refused_alone {refusal} is =
        is_refused_lem
        (or_right (ltb 65536 (length journal))
        (refused_by_number (run_alone register_routes journal).refusal (cause_of refusal) (rw is at refusal_told)))

    -- and where it does not, the table holds the network behind the journal's commands
    module _ (none_told : p.refusal ≡ P.None) where
      ends_well : (run_alone register_routes journal).refusal ≡ none
      unfolding number_of
      ends_well = (zero_exactly (run_alone register_routes journal).refusal).0 (sym (rw none_told at refusal_told))

      cabinets_are : p.shape.vertices ≡ (counts_in journal).cabinets
      unfolding counts_in counts_of state_behind run_alone ample_run
      cabinets_are =
          vertices_told ∙ ap (λ b. b.network.vertices) (accepted_book register_rule register_routes join_capacities (text_of journal) ends_well)

      spans_are : p.shape.edges ≡ (counts_in journal).spans
      unfolding counts_in counts_of state_behind run_alone ample_run
      spans_are =
          edges_told ∙ ap (λ b. edge_count b.network) (accepted_book register_rule register_routes join_capacities (text_of journal) ends_well)

      -- which is within the greatest capacities
      pub few_cabinets : p.shape.vertices ≤ 4096
      unfolding counts_in counts_of state_behind run_alone ample_run join_capacities
      few_cabinets =
          omega (arith, cabinets_are, (accepted_sound register_rule register_routes join_capacities (text_of journal) ends_well register-mates).fits.cabinets_fit)

      pub few_spans : p.shape.edges ≤ 8192
      unfolding counts_in counts_of state_behind run_alone ample_run join_capacities
      few_spans =
          omega (arith, spans_are, (accepted_sound register_rule register_routes join_capacities (text_of journal) ends_well register-mates).fits.spans_fit)

      pub holds_alone : length journal ≤ 65536 → {cabinets spans : ℕ} → cabinets ≡ p.shape.vertices → spans ≡ p.shape.edges
          → Ok (record { cabinets = cabinets; spans = spans }) ≡ alone_of journal
      unfolding alone_of is_refused is_some
      holds_alone short v e =
          rw (or_neither (ge_ltb 65536 (length journal) short) (ap is_some ends_well)) (ap₂ (λ a b. Ok (record { cabinets = a; spans = b })) (v ∙ cabinets_are) (e ∙ spans_are))

-- Both journals, and a working table.
module _ (first second work : List ℕ) {needed : ℕ} (long : needed ≡ work_needed (capacities_of greatest)) where
  needed_is : needed ≡ work_needed join_capacities
  needed_is = long ∙ as_many_needed

  -- one that is too short is left as it is
  pub counted_short : length work < needed → CountsBoth first second (Err ShortBuffer) work work
  unfolding counted_of joined_work
  counted_short h =
      let short : ltb (length work) (work_needed join_capacities) ≡ true = lt-ltb (length work) (work_needed join_capacities) (omega (arith, h, needed_is)) in
      record { counts_are = rw short refl; work_is = rw short refl; are_bytes = λ long_enough. absurd (omega (arith, long_enough, h, needed_is)) }

  -- with any other both are run, and it is cleared behind them
  module _ (h : needed ≤ length work) {one two : Result Size R.Refusal} {between last new : List ℕ}
      (ran_first : (one ≡ alone_of first) × SameBeyond greatest work between × (all_bytes first ≡ true))
      (ran_second : (two ≡ alone_of second) × SameBeyond greatest between last × (all_bytes second ≡ true))
      {count : ℕ} (cleared : new ≡ replicate (min count (length last)) 0 ++ drop count last) (as_many : count ≡ needed) where
    pub counted_both : {counted : Result Counts R.Refusal} → counted ≡ both_of one two → CountsBoth first second counted work new
    unfolding counted_of joined_work greatest capacities_of join_capacities
    counted_both told =
        let enough : ltb (length work) (work_needed join_capacities) ≡ false = ge_ltb (length work) (work_needed join_capacities) (omega (arith, h, needed_is)) in
        record {
          counts_are = told ∙ ap₂ both_of ran_first.0 ran_second.0 ∙ rw enough refl;
          work_is =
              cleared
              ∙ rw (as_many, needed_is, enough) (cleared_over greatest work last (same_beyond_trans ran_first.1 ran_second.1) (omega (arith, h, needed_is)));
          are_bytes = λ long_enough. (ran_first.2, ran_second.2);
        }
