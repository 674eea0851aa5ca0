-- The tally of the commands of a journal: what is counted at each command, and the length that it comes to.
use Rattle.std.specs.Prelude.{cond, List, map, ◌≡◌, ℕ, suc, ◌+◌, ◌*◌, ◌≤◌, eqb, length, drop}
use Rattle.std.proofs.Math.Option.{none, some}
use Rattle.commands.specs.Command.{Command}
use Rattle.commands.specs.Facts.{Facts, addition_of}
use Rattle.commands.specs.Text.{Text, text_from, place_behind}
use Rattle.commands.specs.Forecast.{is_cabinet, is_span, cabinet_commands, span_commands, longest_plain, plain_lengths, length_for, no_forecast}
use Rattle.commands.specs.Forecast as Paper
use Rattle.std.specs.Prelude.{Result, Ok, Err}
use Rattle.commands.specs.Command.{read_command}
use Rattle.refusals.specs.declared.Refusal.{Refusal}
use Rattle.refusals.specs.declared.Refusal.TheVariants as R
use Rattle.refusals.specs.declared.RefusedAt.{RefusedAt}
use Rattle.reading.specs.Inside.Reads.{entry_of, Passing, no_command, cut_short, whole, pass_over}
use Rattle.reading.specs.declared.read.Taken.{Taken}
use Rattle.forecast.specs.declared.Tally.{Tally}

-- No number of the tally is above the bound.
pub record AtMost (bound : ℕ) (t : Tally) : Type 0 where
  pub few_cabinets : t.cabinets ≤ bound
  pub few_spans : t.spans ≤ bound
  pub few_bytes : t.bytes ≤ bound
  pub few_span_lists : t.spanlists ≤ bound
  pub few_cabinet_lists : t.cabinetlists ≤ bound

-- Five for each byte of the longest journal.
abbrev pub Few : Tally → Type 0
Few = AtMost 327680

-- A cabinet more, and a span more.
abbrev pub cabinet_more : Tally → Tally
cabinet_more t =
    record { cabinets = t.cabinets + 1; spans = t.spans; bytes = t.bytes; spanlists = t.spanlists; cabinetlists = t.cabinetlists }

abbrev pub span_more : Tally → Tally
span_more t =
    record { cabinets = t.cabinets; spans = t.spans + 1; bytes = t.bytes; spanlists = t.spanlists; cabinetlists = t.cabinetlists }

-- An entry of the tables more: a span or none; n bytes of an answer, and so many lists of spans and of cabinets behind them.
unfoldable pub entry_more : ℕ → ℕ → ℕ → ℕ → Tally → Tally
entry_more spans n spanlists cabinetlists t =
    record {
      cabinets = t.cabinets;
      spans = t.spans + spans;
      bytes = t.bytes + n;
      spanlists = t.spanlists + spanlists;
      cabinetlists = t.cabinetlists + cabinetlists;
    }

-- By the byte of a command other than 01 and 02: the spans that it adds; of the answer to one that adds nothing, the bytes, the lists of
-- spans and the lists of cabinets.
abbrev pub spans_of : ℕ
spans_of = 0x0000100000000000

abbrev pub bytes_of : ℕ
bytes_of = 0x3415021233455000

abbrev pub spanlists_of : ℕ
spanlists_of = 0x0001000001000000

abbrev pub cabinetlists_of : ℕ
cabinetlists_of = 0x0000000010000000

-- A command more, by its byte.
unfoldable pub counted_by : ℕ → Tally → Tally
counted_by byte t =
    cond
    (eqb byte 1)
    (cabinet_more t)
    (cond
    (eqb byte 2)
    (span_more t)
    (entry_more (entry_of spans_of byte) (entry_of bytes_of byte) (entry_of spanlists_of byte) (entry_of cabinetlists_of byte) t))

-- The greatest lengths of the answers to the commands that add nothing, with c cabinet and s span commands.
unfoldable pub plain_length : ℕ → ℕ → Tally → ℕ
plain_length c s t = t.bytes + (2 * s * t.spanlists + 2 * c * t.cabinetlists)

-- A tally with a command of these facts more.
pub record Counted (t r : Tally) (f : Facts) : Type 0 where
  pub cabinets_are : r.cabinets ≡ cond (is_cabinet (addition_of f)) (suc t.cabinets) t.cabinets
  pub spans_are : r.spans ≡ cond (is_span (addition_of f)) (suc t.spans) t.spans
  pub plain_is : (c s : ℕ) → plain_length c s r ≡ plain_length c s t + longest_plain c s f
  pub grows : (bound : ℕ) → AtMost bound t → AtMost (bound + 5) r

-- The length that suffices for the commands counted.
unfoldable pub length_of : Tally → ℕ
length_of t =
    let c = t.cabinets in
    let s = t.spans in
    length_for c s (plain_length c s t)

-- The same where these commands are still to come.
unfoldable pub length_with : Tally → List Command → ℕ
length_with t later =
    let c = t.cabinets + cabinet_commands later in
    let s = t.spans + span_commands later in
    length_for c s (plain_length c s t + plain_lengths c s later)

-- What is forecast where a journal is counted up to a place, and this text follows.
unfoldable pub forecast_with : Tally → ℕ → ℕ → Text → Paper.Forecast
forecast_with t place end later =
    elim later.refusal [
      | some r ↦ no_forecast r (place + place_behind later.commands)
      | none ↦ record { number = 0; place = end; length = length_with t (map (λ r. r.command) later.commands) }
    ]

-- A journal that is counted up to a place: what is left of it leads to its forecast.
pub record CountedTo (journal : List ℕ) (t : Tally) (place : ℕ) : Type 0 where
  pub in_journal : place ≤ length journal
  pub few : AtMost (5 * place) t
  pub leads : forecast_with t place (length journal) (text_from place 0 (drop place journal)) ≡ Paper.forecast journal

-- What cannot be read is refused for this.
abbrev pub RefusedFor : Passing → Refusal → Type 0
RefusedFor no_command refusal = refusal ≡ R.BadByte
RefusedFor cut_short refusal = refusal ≡ R.CutOperands
RefusedFor (whole byte width) refusal = ⊥

-- A command with this byte, before these bytes, that is passed over; or the refusal where none can be read, with the place.
abbrev pub PassedAt : ℕ → List ℕ → ℕ → Result (Taken ℕ) RefusedAt → Type 0
PassedAt byte bytes place (Ok passed) = whole passed.command passed.width ≡ pass_over byte (read_command byte bytes)
PassedAt byte bytes place (Err refused) = RefusedFor (pass_over byte (read_command byte bytes)) refused.refusal × (refused.place ≡ place)
