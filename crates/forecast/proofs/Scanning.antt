-- A journal that is counted command by command: at its start, behind each command and at its end, what is left leads to its forecast.
use mathlib.Core.Bool.{Bool, cond}
use mathlib.Core.List.{List, [], ◌∷◌, map}
use mathlib.Core.Option.{Option, none, some}
use mathlib.Core.Path.{◌≡◌, refl, sym, ◌∙◌, ap, ap₂}
use Prim.Native.Nat.{ℕ, suc, ◌+◌, ◌*◌, ◌≤◌, ◌<◌}
use native.Mathlib.Nat.{add-zero, zero-add}
use native.Mathlib.Omega.{arith}
use lib.ListN.{length}
use Rattle.graph.proofs.Truth.{ge_ltb}
use Rattle.naming.specs.Book.{Addition}
use Rattle.commands.specs.Command.{Command, command_byte}
use Rattle.commands.specs.Facts.{facts, addition}
use Rattle.commands.specs.Refusal.{Refusal, bad_byte, cut_operands}
use Rattle.commands.specs.Text.{Read, Text, ends_with, followed_by, text_of, place_behind}
use Rattle.commands.specs.Forecast.{is_cabinet, is_span, count_adding, cabinet_commands, span_commands, plain_lengths, length_for, sufficient}
use Rattle.commands.specs.Forecast.{Forecast, no_forecast, forecast_text, forecast}
use Rattle.commands.proofs.Report.{count_one}
use Rattle.commands.proofs.TextAt.{text_here, text_at_end}
use Rattle.reading.specs.Inside.Reads.{Passing, no_command, cut_short, whole}
use Rattle.reading.proofs.PassedAt.{passing_here, text_at_no_command, text_at_cut_short, command_here, its_own_byte, operands_here, text_goes_on_behind}
use Rattle.std.specs.Prelude.{Ok, Err}
use Rattle.refusals.specs.Causes.{cause_of}
use Rattle.refusals.specs.declared.Refusal.TheVariants.{BadByte, CutOperands}
use Rattle.refusals.specs.declared.RefusedAt.{RefusedAt}
use Rattle.commands.proofs.ForecastFits.{forecast_fits}
use Rattle.forecast.specs.Promise.{foretold}
use Rattle.forecast.specs.declared.Tally.{Tally}
use Rattle.forecast.specs.Inside.Tallies.{plain_length, counted_by, Counted, length_of, length_with, forecast_with, CountedTo, RefusedFor}
use Rattle.forecast.proofs.Counting.{counted_by_byte, byte_in_tables}

-- The tally of no command.
abbrev pub empty_tally : Tally
empty_tally = record { cabinets = 0; spans = 0; bytes = 0; spanlists = 0; cabinetlists = 0 }

-- each of its numbers is 0
pub nothing_counted : (t : Tally)
    → (t.cabinets ≡ 0) × ((t.spans ≡ 0) × ((t.bytes ≡ 0) × ((t.spanlists ≡ 0) × (t.cabinetlists ≡ 0)))) → t ≡ empty_tally
nothing_counted t e =
    λ i. record { cabinets = e.0 i; spans = e.1.0 i; bytes = e.1.1.0 i; spanlists = e.1.1.1.0 i; cabinetlists = e.1.1.1.1 i }

-- it counts no answer
no_answer : (c s : ℕ) → plain_length c s empty_tally ≡ 0
unfolding plain_length
no_answer c s = omega arith

-- before the first command, all are to come
all_to_come : (commands : List Command) → length_with empty_tally commands ≡ sufficient commands
unfolding length_with sufficient
all_to_come commands = simp (zero-add, no_answer)

-- behind the last command, none is to come
none_to_come : (t : Tally) → length_with t [] ≡ length_of t
unfolding length_with length_of cabinet_commands span_commands count_adding plain_lengths
none_to_come t = simp add-zero

-- What is forecast of a text by what ends it.
abbrev told : Option Refusal → ℕ → ℕ → ℕ → Forecast
told o end place n =
    elim o [
      | some q ↦ no_forecast q place
      | none ↦ record { number = 0; place = end; length = n }
    ]

-- at the first command the forecast is that of the whole text
forecast_starts : (end : ℕ) (text : Text) → forecast_with empty_tally 0 end text ≡ forecast_text end text
unfolding forecast_with forecast_text
forecast_starts end text = ap₂ (told text.refusal end) (omega arith) (all_to_come (map (λ r. r.command) text.commands))

-- what a command adds is counted before it, as still to come, or behind it
count_same : (p : Addition → Bool) (k : Command) (later : List Command) (before : ℕ) {behind : ℕ}
    → behind ≡ cond (p (addition k)) (suc before) before → before + count_adding p (k ∷ later) ≡ behind + count_adding p later
unfolding count_adding
count_same p k later before e = rw e (count_one (p (addition k)) before (count_adding p later))

-- A command that is counted.
module _ {t r : Tally} (read : Read) (counted : Counted t r (facts read.command)) where
  -- the length is the same before it and behind it
  length-same : (later : List Command) → length_with t (read.command ∷ later) ≡ length_with r later
  unfolding length_with cabinet_commands span_commands plain_lengths addition
  length-same later =
      let cabinets : t.cabinets + cabinet_commands (read.command ∷ later) ≡ r.cabinets + cabinet_commands later =
      count_same is_cabinet read.command later t.cabinets counted.cabinets_are in
      let spans : t.spans + span_commands (read.command ∷ later) ≡ r.spans + span_commands later =
      count_same is_span read.command later t.spans counted.spans_are in
      let rest = ap₂ (λ (c s : ℕ). plain_lengths c s later) cabinets spans in
      rw (
        count_same is_cabinet read.command later t.cabinets counted.cabinets_are,
        count_same is_span read.command later t.spans counted.spans_are,
      )
      (ap (length_for _ _) (omega (arith, counted.plain_is (r.cabinets + cabinet_commands later) (r.spans + span_commands later), rest)))

  -- and so is the forecast
  forecast-same : (place end : ℕ) (later : Text)
      → forecast_with t place end (followed_by read later) ≡ forecast_with r (place + 1 + read.width) end later
  unfolding forecast_with followed_by place_behind
  forecast-same place end later =
      ap₂ (told later.refusal end) (omega arith) (length-same (map (λ r. r.command) later.commands))

-- a journal that is not too long is counted up to its start
pub counted_at_start : (journal : List ℕ) → length journal ≤ 65536 → CountedTo journal empty_tally 0
unfolding forecast text_of
counted_at_start journal short =
    record {
      in_journal = omega arith;
      few = omega arith;
      leads = rw (ge_ltb 65536 (length journal) short) (forecast_starts (length journal) (text_of journal));
    }

-- A journal that is counted up to a place.
module _ {journal : List ℕ} {t : Tally} {place : ℕ} (so_far : CountedTo journal t place) where
  -- at its end the tally gives the length
  pub counted_to_end : length journal ≤ place → foretold (length journal) (Ok (length_of t)) ≡ forecast journal
  unfolding forecast_with ends_with foretold
  counted_to_end h = rw (text_at_end journal place h, none_to_come t) at so_far.leads

  -- which is below the bound of its type
  pub length_fits : length journal ≤ place → length_of t < 4294967296
  unfolding foretold
  length_fits h = rw (ap (λ f. f.length) (counted_to_end h)) (forecast_fits journal)

  -- the text from the place on leads to the forecast
  leads_from : {text : Text} → text_here journal place ≡ text → forecast_with t place (length journal) text ≡ forecast journal
  leads_from e = ap (forecast_with t place (length journal)) (sym e) ∙ so_far.leads

  -- what cannot be read is refused at this place
  refused_here : (q : Refusal) (refused : RefusedAt) → text_here journal place ≡ ends_with (some q) → cause_of refused.refusal ≡ q
      → refused.place ≡ place → foretold (length journal) (Err refused) ≡ forecast journal
  unfolding forecast_with ends_with place_behind foretold
  refused_here q refused e n p = rw (n, p) (rw (add-zero place) at (leads_from e))

  module _ (at_command : place < length journal) where
    -- be it an unknown byte
    pub unknown_here : (refused : RefusedAt) → no_command ≡ passing_here journal place at_command → refused.refusal ≡ BadByte
        → refused.place ≡ place → foretold (length journal) (Err refused) ≡ forecast journal
    unknown_here refused e q = refused_here bad_byte refused (text_at_no_command journal place at_command e) (ap cause_of q)

    -- or cut-off operands
    pub cut_off_here : (refused : RefusedAt) → cut_short ≡ passing_here journal place at_command → refused.refusal ≡ CutOperands
        → refused.place ≡ place → foretold (length journal) (Err refused) ≡ forecast journal
    cut_off_here refused e q = refused_here cut_operands refused (text_at_cut_short journal place at_command e) (ap cause_of q)

    -- and so whichever of the two is told
    pub unread_here : (refused : RefusedAt) → RefusedFor (passing_here journal place at_command) refused.refusal → refused.place ≡ place
        → foretold (length journal) (Err refused) ≡ forecast journal
    unread_here refused = go (passing_here journal place at_command) refl
      where
        go : (p : Passing) → p ≡ passing_here journal place at_command → RefusedFor p refused.refusal → refused.place ≡ place
            → foretold (length journal) (Err refused) ≡ forecast journal
        go no_command e q = unknown_here refused e q
        go cut_short e q = cut_off_here refused e q
        go (whole byte width) e q = absurd q

    -- A command with this byte and so many bytes of operands.
    module _ (byte width : ℕ) (passed : whole byte width ≡ passing_here journal place at_command) where
      abbrev this : Command
      this = (command_here journal place at_command byte width passed).this

      own : command_byte this ≡ byte
      own = its_own_byte journal place at_command byte width passed

      -- the tables have its byte
      pub byte_here_lem : byte ≤ 15
      byte_here_lem = omega (arith, own, byte_in_tables this)

      -- with it in the tally, the journal is counted up to the place behind it
      pub counted_behind : CountedTo journal (counted_by byte t) (place + 1 + width)
      counted_behind =
          let read : Read = record { command = this; place = place; width = width } in
          let behind = text_here journal (place + 1 + width) in
          record {
            in_journal = operands_here journal place at_command byte width passed;
            few = omega (arith, counts.grows (5 * place) so_far.few);
            leads =
                sym (forecast-same read counts place (length journal) behind)
                ∙ leads_from (text_goes_on_behind journal place at_command byte width passed);
          }
        where
          counts : Counted t (counted_by byte t) (facts this)
          counts = rw own at (counted_by_byte {t = t} this)
