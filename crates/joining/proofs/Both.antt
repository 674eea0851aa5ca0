-- Both journals as they are stored, by what is tested of their length.
use mathlib.Core.Bool.{true, ◌||◌}
use mathlib.Core.List.{List, map}
use mathlib.Core.Logic.{◌⊎◌, inl, inr}
use mathlib.Core.Path.{◌≡◌, refl, ◌∙◌, ap}
use Prim.Native.Nat.{ℕ, ◌+◌, ◌*◌, ◌≤◌, ◌<◌}
use native.Mathlib.Omega.{arith}
use lib.Dec.{ltb}
use lib.ListN.{length}
use lib.Seq.{sets, slice, take-length}
use Rattle.std.specs.Prelude.{Ok, Err}
use Rattle.graph.proofs.Truth.{or_left, or_right, or_neither, lt-ltb, ge_ltb}
use Rattle.commands.specs.Text.{commands_in, journal_bytes}
use Rattle.commands.specs.Join.{raise_command}
use Rattle.storing.proofs.Sets.{sets_behind}
use Rattle.refusals.specs.declared.Refusal.TheVariants.{LongJoin}
use Rattle.joining.specs.declared.seams.Counts.{Counts}
use Rattle.joining.specs.Inside.Seams.{one_of}
use Rattle.joining.specs.Inside.Joined.{put_journals}

module _ (first second : List ℕ) (seams : ℕ) (c : Counts) (out : List ℕ) where
  abbrev size : ℕ
  size = length first + length second + seams * 7

  -- what is longer than a journal, or than the buffer, is refused
  pub too_long : (65536 < size) ⊎ (length out < size) → record { place = Err LongJoin; out = out } ≡ put_journals first second seams c out
  unfolding put_journals
  too_long h = rw (passes h) refl
    where
      passes : (65536 < size) ⊎ (length out < size) → (ltb 65536 size || ltb (length out) size) ≡ true
      passes (inl l) = or_left (lt-ltb 65536 size l) (ltb (length out) size)
      passes (inr l) = or_right (ltb 65536 size) (lt-ltb (length out) size l)

  -- and anything else is stored: the first as it stands, and the second behind it
  pub both_stored : size ≤ 65536 → size ≤ length out → {between new : List ℕ} → between ≡ sets out 0 (slice 0 (length first) first)
      → new ≡ sets between (length first) (journal_bytes (map (raise_command (one_of c)) (commands_in second)))
      → record { place = Ok (length first + length second); out = new } ≡ put_journals first second seams c out
  unfolding put_journals
  both_stored short room copied raised =
      let raised_second = journal_bytes (map (raise_command (one_of c)) (commands_in second)) in
      rw (or_neither (ge_ltb 65536 size short) (ge_ltb (length out) size room))
      (ap (λ (l : List ℕ). record { place = Ok (length first + length second); out = l })
      (raised ∙ rw (copied, take-length first) (sets_behind out 0 (length first) first raised_second (omega arith))))
