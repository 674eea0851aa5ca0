-- The forecast (request 1): a length of the answer buffer that suffices, from the journal alone, without running it.
use Rattle.std.specs.Prelude.{Bool, true, false, cond, List, [], ◌∷◌, map, ◌≢◌, ℕ, suc, ◌+◌, ◌*◌, ◌≤◌, ltb, length}
use Rattle.std.proofs.Math.Option.{none, some}
use Rattle.naming.specs.Book.{Addition, vertex, edge, neither}
use Rattle.naming.specs.Log.{highest_bit}
use Rattle.commands.specs.Command.{Command}
use Rattle.commands.specs.Facts.{Facts, adds_cabinet, adds_span, adds_nothing, facts, addition}
use Rattle.commands.specs.Refusal.{Refusal, long_journal, refusal_number, Capacities}
use Rattle.commands.specs.Text.{Text, text_of, place_behind}
use Rattle.commands.specs.Entry.{Buffers}
use Rattle.commands.specs.Register.{register}

unfoldable pub is_cabinet : Addition → Bool
is_cabinet vertex = true
is_cabinet (edge e) = false
is_cabinet neither = false

unfoldable pub is_span : Addition → Bool
is_span vertex = false
is_span (edge e) = true
is_span neither = false

-- How many of the commands add what passes the test.
unfoldable pub count_adding : (Addition → Bool) → List Command → ℕ
count_adding p [] = 0
count_adding p (k ∷ later) =
    let rest = count_adding p later in
    cond (p (addition k)) (suc rest) rest

-- c, the cabinet commands, and s, the span commands.
unfoldable pub cabinet_commands : List Command → ℕ
cabinet_commands = count_adding is_cabinet

unfoldable pub span_commands : List Command → ℕ
span_commands = count_adding is_span

-- The length for the answer to a command that adds nothing, with c cabinet and s span commands; 0 for one that adds.
unfoldable pub longest_plain : ℕ → ℕ → Facts → ℕ
longest_plain c s adds_cabinet = 0
longest_plain c s (adds_span e operands demands) = 0
longest_plain c s (adds_nothing q) = q.longest c s

-- These lengths, added up.
unfoldable pub plain_lengths : ℕ → ℕ → List Command → ℕ
plain_lengths c s [] = 0
plain_lengths c s (k ∷ later) = longest_plain c s (facts k) + plain_lengths c s later

-- The length with c cabinet and s span commands, and so much for the answers to the others.
unfoldable pub length_for : ℕ → ℕ → ℕ → ℕ
length_for c s others = 3 * c + 7 * s + 5 * (2 * c * highest_bit c + s * highest_bit s) + others

-- The length for these commands. (`never_without_room`: a run of them never returns 11 with as much.)
unfoldable pub sufficient : List Command → ℕ
sufficient commands =
    let c = cabinet_commands commands in
    let s = span_commands commands in
    length_for c s (plain_lengths c s commands)

-- What the forecast returns: 0 or the number of the refusal, a place in the journal, and the length.
pub record Forecast : Type 0 where
  pub number : ℕ
  pub place : ℕ
  pub length : ℕ

-- Refused with this at a place.
unfoldable pub no_forecast : Refusal → ℕ → Forecast
no_forecast r place = record { number = refusal_number r; place = place; length = 0 }

-- The forecast of a text whose journal ends at this place. One that ends with an unknown byte or with cut-off operands is refused where
-- that stands, whatever a run makes of the commands before it.
unfoldable pub forecast_text : ℕ → Text → Forecast
forecast_text end t =
    elim t.refusal [
      | some r ↦ no_forecast r (place_behind t.commands)
      | none ↦ record { number = 0; place = end; length = sufficient (map (λ r. r.command) t.commands) }
    ]

-- The forecast of a journal. One that is too long is refused at place 0.
unfoldable pub forecast : List ℕ → Forecast
forecast journal = cond (ltb 65536 (length journal)) (no_forecast long_journal 0) (forecast_text (length journal) (text_of journal))

-- With an answer buffer of so many bytes or more, no run of the journal returns 11, whatever the capacities and the buffers.
abbrev pub Suffices : List ℕ → ℕ → Type 0
Suffices journal room = (caps : Capacities) (lent : Buffers) → room ≤ length lent.answers → (register caps journal lent).returned ≢ 11
