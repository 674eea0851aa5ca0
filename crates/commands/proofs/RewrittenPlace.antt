-- Where a run of a rewritten journal stops: two bytes further for each 02 among the accepted commands.
use mathlib.Core.Bool.{Bool, true, false, cond}
use mathlib.Core.List.{List, [], ◌∷◌, map}
use mathlib.Core.Logic.{◌⊎◌, inl, inr}
use mathlib.Core.Option.{Option, none, some}
use mathlib.Core.Path.{◌≡◌, refl, ap}
use Prim.Native.Nat.{ℕ, suc, ◌+◌, ◌*◌}
use native.Mathlib.Omega.{arith}
use lib.Dec.{eqb}
use lib.ListN.{length, length-append}
use Rattle.graph.specs.Network.{same_duct, edge_between, edge_in_duct}
use Rattle.graph.specs.Route.{Choice}
use Rattle.naming.specs.State.{State, empty_state}
use Rattle.commands.specs.Bytes.{two_bytes}
use Rattle.commands.specs.Field.{field_bytes, fields_bytes}
use Rattle.commands.specs.Command.{Command, add_span, add_duct_span, command_byte}
use Rattle.commands.specs.Facts.{facts, addition, operands_of, command_bytes}
use Rattle.commands.specs.Refusal.{Refusal, Capacities, first_that_applies}
use Rattle.commands.specs.Text.{text_of, journal_bytes}
use Rattle.commands.specs.Run.{Accepted, Run, run_text, run_within, commands_of, place_after}
use Rattle.commands.specs.Entry.{Whole, refused_at_start, ran, whole_unless, whole_run, start_lines}
use Rattle.commands.specs.Register.{register_rule}
use Rattle.commands.specs.Forecast.{is_span}
use Rattle.commands.specs.Rewrite.{in_own_duct, rewrite_command, rewrite_from, RunsAlike, WholesAlike, Ample, AnsweredAsBefore}
use Rattle.commands.proofs.SpelledBack.{length_of_read}
use Rattle.commands.proofs.Steps.{RunsTo, ends, refuses, accepts}
use Rattle.commands.proofs.Place.{whole_run_steps}
use Rattle.commands.proofs.EachRewritten.{Is02, Is0B, Unchanged, each_command}
use Rattle.commands.proofs.Rewritten.{ample_whole}
use Rattle.commands.proofs.RewrittenText.{count02}

-- the bytes that accepted commands took are as many as theirs
place_by_bytes : (choice : Choice) (caps : Capacities) {s : State} {journal : List ℕ} {l : List Accepted} {end : Option Refusal}
    → RunsTo choice caps s journal l end → place_after l ≡ length (journal_bytes (map (λ a. a.command) l))
unfolding place_after journal_bytes
place_by_bytes choice caps ends = refl
place_by_bytes choice caps (refuses f) = refl
place_by_bytes choice caps (accepts {byte = byte} {bytes = bytes} {a = a} {later = later} w rest) =
    omega (
      arith,
      place_by_bytes choice caps rest,
      length-append (command_bytes a.command) (journal_bytes (map (λ a. a.command) later)),
      length_of_read byte bytes a.command a.width w.was_read,
    )

-- a 02 has two bytes more once it is rewritten
span_longer : (spans x y : ℕ)
    → length (command_bytes (rewrite_command spans (add_span x y))) ≡ length (command_bytes (add_span x y)) + cond (eqb (command_byte (add_span x y)) 0x02) 2 0
unfolding rewrite_command in_own_duct command_bytes fields_bytes field_bytes two_bytes facts operands_of edge_between edge_in_duct command_byte
span_longer spans x y = refl

-- a 0B would have as many
told_as_long : (spans x y d : ℕ)
    → length (command_bytes (rewrite_command spans (add_duct_span x y d)))
    ≡ length (command_bytes (add_duct_span x y d)) + cond (eqb (command_byte (add_duct_span x y d)) 0x02) 2 0
unfolding rewrite_command in_own_duct command_bytes fields_bytes field_bytes two_bytes facts operands_of edge_between edge_in_duct command_byte
told_as_long spans x y d = refl

-- and any other has
longer_if_02 : (spans : ℕ) (c : Command)
    → length (command_bytes (rewrite_command spans c)) ≡ length (command_bytes c) + cond (eqb (command_byte c) 0x02) 2 0
longer_if_02 spans c = go (each_command c)
  where
    go : Is02 c ⊎ (Is0B c ⊎ Unchanged c)
        → length (command_bytes (rewrite_command spans c)) ≡ length (command_bytes c) + cond (eqb (command_byte c) 0x02) 2 0
    go (inl w) = rw w.is (span_longer spans w.from w.to)
    go (inr (inl w)) = rw w.is (told_as_long spans w.from w.to w.duct)
    go (inr (inr w)) = rw (w.as_it_is spans, w.not_02) (omega arith)

-- so are commands, by two bytes for each 02
longer_by_two : (spans : ℕ) (cs : List Command) → length (journal_bytes (rewrite_from spans cs)) ≡ length (journal_bytes cs) + 2 * count02 cs
unfolding rewrite_from journal_bytes count02
longer_by_two spans [] = refl
longer_by_two spans (c ∷ later) =
    let n = cond (is_span (addition c)) (suc spans) spans in
    go (eqb (command_byte c) 0x02) (length (command_bytes c)) (length (journal_bytes later)) (count02 later)
    (length-append (command_bytes (rewrite_command spans c)) (journal_bytes (rewrite_from n later)))
    (length-append (command_bytes c) (journal_bytes later))
    (longer_if_02 spans c)
    (longer_by_two n later)
  where
    go : (is_02 : Bool) (first rest more : ℕ) {whole whole' first' rest' : ℕ}
        → whole' ≡ first' + rest' → whole ≡ first + rest → first' ≡ first + cond is_02 2 0 → rest' ≡ rest + 2 * more
        → whole' ≡ whole + 2 * cond is_02 (suc more) more
    go true first rest more a b c d = omega (arith, a, b, c, d)
    go false first rest more a b c d = omega (arith, a, b, c, d)

-- Of two runs alike the second stops two bytes further for each 02 that was accepted.
pub place_rewritten : (old new : Choice) (caps : Capacities) (s s' : State) (journal result : List ℕ)
    → RunsAlike 0 s s' (run_text old caps s (text_of journal)) (run_text new caps s' (text_of result))
    → place_after (run_text new caps s' (text_of result)).accepted
    ≡ place_after (run_text old caps s (text_of journal)).accepted + 2 * count02 (commands_of (run_text old caps s (text_of journal)))
unfolding commands_of
place_rewritten old new caps s s' journal result w =
    let cs = commands_of (run_text old caps s (text_of journal)) in
    omega (
      arith,
      place_by_bytes new caps (whole_run_steps new caps s' result),
      place_by_bytes old caps (whole_run_steps old caps s journal),
      ap (λ l. length (journal_bytes l)) w.same_commands,
      longer_by_two 0 cs,
    )

-- So it is with whole runs that were not refused at the start.
abbrev pub PlacesAlike : Whole → Whole → Type 0
PlacesAlike (refused_at_start r) new = Unit
PlacesAlike (ran old) (refused_at_start r') = Unit
PlacesAlike (ran old) (ran new) = place_after new.accepted ≡ place_after old.accepted + 2 * count02 (commands_of old)

pub place_as_before : (journal result : List ℕ) → AnsweredAsBefore journal result
    → (caps : Capacities) (old new : Choice) (work_length answers_length answers_length' report_length : ℕ)
    → let before = whole_run same_duct old caps journal work_length answers_length report_length in
    let rewritten = whole_run register_rule new caps result work_length answers_length' report_length in
    Ample before → Ample rewritten → PlacesAlike before rewritten
unfolding whole_run
place_as_before journal result w caps old new work_length room room' report_length ample ample' =
    go (first_that_applies (start_lines caps (length journal) work_length report_length))
    (first_that_applies (start_lines caps (length result) work_length report_length))
    ample ample' (unfold whole_run in w caps old new work_length room room' report_length ample ample')
  where
    r : Run
    r = run_within room old caps (empty_state same_duct) (text_of journal)

    r' : Run
    r' = run_within room' new caps (empty_state register_rule) (text_of result)

    go : (o o' : Option Refusal) → Ample (whole_unless o r) → Ample (whole_unless o' r') → WholesAlike (whole_unless o r) (whole_unless o' r')
        → PlacesAlike (whole_unless o r) (whole_unless o' r')
    go (some q) o' ample ample' w = unfold whole_unless in tt
    go none (some q) ample ample' w = unfold whole_unless in tt
    go none none ample ample' w =
        unfold whole_unless in
        rw (
          ample_whole room old caps (empty_state same_duct) (text_of journal) ample,
          ample_whole room' new caps (empty_state register_rule) (text_of result) ample',
        )
        (place_rewritten old new caps (empty_state same_duct) (empty_state register_rule) journal result
        (rw (
          ample_whole room old caps (empty_state same_duct) (text_of journal) ample,
          ample_whole room' new caps (empty_state register_rule) (text_of result) ample',
        ) at w))
