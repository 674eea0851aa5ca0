-- The theorem of request 7: a journal that is rewritten is answered as it was where a span of 02 has no mate. And the room that is forecast for
-- it is ample for both runs.
use mathlib.Core.Bool.{Bool, true, false, not}
use mathlib.Core.List.{List, [], ◌∷◌}
use mathlib.Core.Logic.{◌⊎◌, inl, inr, ◌≢◌}
use mathlib.Core.Option.{Option, none, some}
use mathlib.Core.Path.{◌≡◌, refl, sym, ap, subst}
use Prim.Native.Nat.{ℕ, suc, ◌+◌, ◌≤◌}
use native.Mathlib.Omega.{arith}
use lib.Dec.{eqb, ltb}
use lib.ListN.{length, length-append}
use Rattle.graph.specs.Lists.{all_in}
use Rattle.graph.specs.Network.{same_duct, edge_between, edge_in_duct}
use Rattle.graph.specs.Route.{Choice}
use Rattle.graph.proofs.Truth.{and_left, and_right, ge_ltb}
use Rattle.graph.proofs.Ducts.{same_duct-mates}
use Rattle.naming.specs.State.{State, empty_state}
use Rattle.commands.specs.Bytes.{two_bytes, all_bytes}
use Rattle.commands.specs.Field.{field_bytes, fields_bytes}
use Rattle.commands.specs.Command.{Command, add_span, add_duct_span, command_byte}
use Rattle.commands.specs.Facts.{facts, addition, addition_of, operands_of, command_bytes}
use Rattle.commands.specs.Refusal.{Refusal, no_room, Capacities, first_that_applies}
use Rattle.commands.specs.Text.{Text, text_of, journal_bytes, commands_in}
use Rattle.commands.specs.Run.{Run, run_text, run_within, fitting}
use Rattle.commands.specs.Entry.{whole_unless, whole_run, start_lines}
use Rattle.commands.specs.Register.{register_rule}
use Rattle.commands.specs.Ducts.{ductless, ductless_journal}
use Rattle.commands.specs.Forecast.{is_span}
use Rattle.commands.specs.Rewrite.{rewritten_bytes, rewrite_command, in_own_duct, rewrite_from, rewrite_commands, RunsAlike, WholesAlike, Ample, AnsweredAsBefore}
use Rattle.commands.proofs.EachRewritten.{Is02, Unchanged, each_rewritten}
use Rattle.commands.proofs.Bytes.{FieldsFit}
use Rattle.commands.proofs.Room.{RoomForAll, CutAt, cut_where_no_room, all_fit_whole, cut_at-stop}
use Rattle.commands.proofs.Spelled.{AllSpelled, reads_from, journal_read_back}
use Rattle.commands.proofs.ReadFits.{text_spelled}
use Rattle.commands.proofs.RunBooks.{empty_sound}
use Rattle.commands.proofs.RewrittenRun.{paired_empty, run_rewritten}

-- a run that is not refused for want of room is the run without regard to it
pub ample_whole : (room : ℕ) (choice : Choice) (caps : Capacities) (s : State) (t : Text) → (run_within room choice caps s t).refusal ≢ some no_room
    → run_within room choice caps s t ≡ run_text choice caps s t
unfolding run_within
ample_whole room choice caps s t ample = go (cut_where_no_room room (run_text choice caps s t).accepted)
  where
    r : Run
    r = run_text choice caps s t

    go : RoomForAll room r.accepted ⊎ CutAt room r.accepted → fitting room r.accepted r.refusal ≡ r
    go (inl all) = all_fit_whole room r.accepted r.refusal all
    go (inr cut) = absurd (ample (ap (λ (x : Run). x.refusal) (cut_at-stop room r.accepted r.refusal cut)))

-- the bytes of commands are those of the first and those behind it
bytes_behind_lem : (c : Command) (cs : List Command) → length (journal_bytes (c ∷ cs)) ≡ length (command_bytes c) + length (journal_bytes cs)
unfolding journal_bytes
bytes_behind_lem c cs = length-append (command_bytes c) (journal_bytes cs)

-- 0B has seven
bytes_of_duct_span : (x y d : ℕ) → length (command_bytes (add_duct_span x y d)) ≡ 7
unfolding command_bytes fields_bytes field_bytes two_bytes facts operands_of edge_in_duct
bytes_of_duct_span x y d = refl

-- commands are rewritten to such whose numbers fit into two bytes, where all of them fit into a journal
abbrev Rewritable : ℕ → List Command → Type 0
Rewritable spans cs = spans + length (journal_bytes (rewrite_from spans cs)) ≤ 65536 → AllSpelled (rewrite_from spans cs)

-- so it is from a 02 on
span_spelled : (later : List Command) (spans x y : ℕ) → Rewritable (suc spans) later → FieldsFit (operands_of (facts (add_span x y)))
    → Rewritable spans (add_span x y ∷ later)
unfolding rewrite_from rewrite_command in_own_duct addition addition_of is_span facts operands_of edge_between edge_in_duct
span_spelled later spans x y rest fit few =
    let rewritten = add_duct_span x y (spans + 1) in
    let behind = bytes_behind_lem rewritten (rewrite_from (suc spans) later) in
    let seven = bytes_of_duct_span x y (spans + 1) in
    ((fit.0, (fit.1.0, (omega (arith, few, behind, seven), tt))), rest (omega (arith, few, behind, seven)))

-- and from a command on that is left as it is
other_spelled : (later : List Command) (spans : ℕ) (c : Command) → Unchanged c → Rewritable spans later → FieldsFit (operands_of (facts c)) → Rewritable spans (c ∷ later)
unfolding rewrite_from
other_spelled later spans c left rest fit =
    rw (left.as_it_is spans, left.adds_none)
    (λ few. (fit, rest (omega (arith, few, bytes_behind_lem c (rewrite_from spans later)))))

-- so it is with all commands without 0B
rewritten_spelled : (spans : ℕ) (cs : List Command) → AllSpelled cs → ductless cs ≡ true → Rewritable spans cs
unfolding rewrite_from ductless all_in
rewritten_spelled spans [] fit free = λ few. tt
rewritten_spelled spans (c ∷ later) fit free = go (λ n. rewritten_spelled n later fit.1 (and_right other _ free)) (each_rewritten c (and_left other _ free))
  where
    other : Bool
    other = not (eqb (command_byte c) 0x0B)

    go : ((n : ℕ) → Rewritable n later) → Is02 c ⊎ Unchanged c → Rewritable spans (c ∷ later)
    go rest (inl w) =
        subst (λ d. Rewritable spans (d ∷ later)) (sym w.is)
        (span_spelled later spans w.from w.to (rest (suc spans)) (subst (λ d. FieldsFit (operands_of (facts d))) w.is fit.0))
    go rest (inr left) = other_spelled later spans c left (rest spans) fit.0

module _ (journal : List ℕ) (are : all_bytes journal ≡ true) (short : ltb 65536 (length journal) ≡ false) (whole : (text_of journal).refusal ≡ none)
    (free : ductless_journal journal ≡ true) where
  module _ (fits : length (rewritten_bytes journal) ≤ 65536) where
    -- the result is read back as the commands rewritten
    pub result_read_back : text_of (rewritten_bytes journal) ≡ record { commands = reads_from 0 (rewrite_commands (commands_in journal)); refusal = none }
    unfolding text_of rewrite_commands ductless_journal
    result_read_back =
        journal_read_back 0 (rewrite_from 0 (commands_in journal))
        (rewritten_spelled 0 (commands_in journal) (unfold text_of in text_spelled journal are) free (omega (arith, fits)))

    -- so it is run alike
    runs_alike : (old new : Choice) (caps : Capacities)
        → RunsAlike 0 (empty_state same_duct) (empty_state register_rule) (run_text old caps (empty_state same_duct) (text_of journal))
        (run_text new caps (empty_state register_rule) (text_of (rewritten_bytes journal)))
    unfolding ductless_journal register_rule
    runs_alike old new caps =
        rw result_read_back
        (subst
        (λ end. RunsAlike 0 (empty_state same_duct) (empty_state register_rule) (run_text old caps (empty_state same_duct) (text_of journal))
        (run_text new caps (empty_state register_rule) (record { commands = reads_from 0 (rewrite_commands (commands_in journal)); refusal = end })))
        whole
        (unfold rewrite_commands in
        run_rewritten old new caps 0 paired_empty (empty_sound caps same_duct same_duct-mates) (text_of journal).commands (text_of journal).refusal free))

    -- and refused alike at the start
    same_start : (caps : Capacities) (work_length report_length : ℕ)
        → start_lines caps (length journal) work_length report_length ≡ start_lines caps (length (rewritten_bytes journal)) work_length report_length
    unfolding start_lines
    same_start caps work_length report_length = rw (short, ge_ltb 65536 (length (rewritten_bytes journal)) fits)

    -- two runs after the same start
    wholes_alike : (o : Option Refusal) (r r' : Run)
        → (r.refusal ≢ some no_room → r'.refusal ≢ some no_room → RunsAlike 0 (empty_state same_duct) (empty_state register_rule) r r')
        → Ample (whole_unless o r) → Ample (whole_unless o r') → WholesAlike (whole_unless o r) (whole_unless o r')
    unfolding whole_unless
    wholes_alike (some q) r r' w ample ample' = refl
    wholes_alike none r r' w ample ample' = w ample ample'

    -- The theorem.
    pub answered_as_before : AnsweredAsBefore journal (rewritten_bytes journal)
    unfolding whole_run
    answered_as_before caps old new work_length room room' report_length =
        rw (same_start caps work_length report_length)
        (wholes_alike (first_that_applies (start_lines caps (length (rewritten_bytes journal)) work_length report_length)) _ _
        (λ ample ample'.
        rw (ample_whole room old caps _ _ ample, ample_whole room' new caps _ _ ample') (runs_alike old new caps)))
