-- What stands where a run is refused: a byte with those behind it, or a command read whole, and the cause.
use mathlib.Core.List.{List, ◌∷◌}
use mathlib.Core.Logic.{◌↔◌}
use mathlib.Core.Option.{some}
use mathlib.Core.Path.{◌≡◌, refl}
use Prim.Native.Nat.{ℕ, ◌≤◌}
use native.Mathlib.Omega.{arith}
use lib.ListN.{drop}
use Rattle.naming.specs.State.{State}
use Rattle.commands.specs.Command.{Command, Reading, command, read_command}
use Rattle.commands.specs.Refusal.{Refusal, Capacities, refusal_of}
use Rattle.commands.specs.Run.{Accepted, place_after}
use Rattle.commands.proofs.Steps.{RefusedFor, for_byte, for_operands, for_command}
use Rattle.commands.proofs.StateAfter.{state_fed}
use Rattle.commands.proofs.Placed.{Stands, stands_exactly}
use Rattle.commands.proofs.Place.{RefusedAt}
use Rattle.commands.proofs.Table.{stage}
use Rattle.commands.proofs.Causes.{table_decides}

-- where the accepted commands end, a byte with those behind it for which the cause is there
abbrev pub ByteAt : List ℕ → List Accepted → (ℕ → List ℕ → Type 0) → Type 0
ByteAt journal l Cause = Stands (place_after l) journal Cause

-- where the accepted commands end, a command read whole, with all its operands, for which the cause is there
pub record CommandAt (journal : List ℕ) (l : List Accepted) (Cause : Command → Type 0) : Type 0 where
  pub byte : ℕ
  pub bytes : List ℕ
  pub this : Command
  pub width : ℕ
  pub at_place : drop (place_after l) journal ≡ byte ∷ bytes
  pub is_read : read_command byte bytes ≡ command this width
  pub cause : Cause this

-- what is refused at the stage of commands was a command read whole
record ReadWhole (caps : Capacities) (s : State) (read : Reading) (r : Refusal) : Type 0 where
  this : Command
  width : ℕ
  is_read : read ≡ command this width
  refused : refusal_of caps s this ≡ some r

was_whole : (caps : Capacities) (s : State) {read : Reading} {r : Refusal} → 2 ≤ stage r → RefusedFor caps s read r → ReadWhole caps s read r
unfolding stage
was_whole caps s h for_byte = absurd (omega arith)
was_whole caps s h for_operands = absurd (omega arith)
was_whole caps s h (for_command {c = c} {width = w} e) = record { this = c; width = w; is_read = refl; refused = e }

module _ (caps : Capacities) (s : State) (journal : List ℕ) (l : List Accepted) (r : Refusal) where
  -- a byte is refused exactly for its cause
  pub byte_refused_exactly : (Cause : ℕ → List ℕ → Type 0)
      → ((byte : ℕ) (bytes : List ℕ) → RefusedFor caps (state_fed s l) (read_command byte bytes) r ↔ Cause byte bytes)
      → RefusedAt caps s journal l r ↔ ByteAt journal l Cause
  byte_refused_exactly Cause f =
      stands_exactly (place_after l) journal (λ byte bytes. RefusedFor caps (state_fed s l) (read_command byte bytes) r) Cause f

  -- a command read whole is refused exactly for its cause
  pub command_refused_exactly : (Cause : Command → Type 0) → 2 ≤ stage r
      → ((c : Command) → (refusal_of caps (state_fed s l) c ≡ some r) ↔ Cause c)
      → RefusedAt caps s journal l r ↔ CommandAt journal l Cause
  command_refused_exactly Cause h f = (
    λ at.
        let there = was_whole caps (state_fed s l) h at.is_so in
        record {
          byte = at.byte;
          bytes = at.bytes;
          this = there.this;
          width = there.width;
          at_place = at.at_place;
          is_read = there.is_read;
          cause = (f there.this).0 there.refused;
        },
    λ at.
        record {
          byte = at.byte;
          bytes = at.bytes;
          at_place = at.at_place;
          is_so =
              rw at.is_read ((table_decides caps (state_fed s l) at.this at.width r).1 ((f at.this).1 at.cause));
        },
  )
