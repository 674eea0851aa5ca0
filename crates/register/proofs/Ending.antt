-- What ends the output, as the program's code stores it.
use mathlib.Core.List.{List, [], ◌∷◌}
use mathlib.Core.Option.{Option, none, some}
use mathlib.Core.Path.{◌≡◌, refl, ap}
use Prim.Native.Nat.{ℕ, ◌/◌, ◌%◌, ◌≤◌, ◌<◌}
use native.Mathlib.Omega.{arith}
use borrow.Rule.Slice.PartMut.{put_mid}
use lib.ListN.{length, set}
use Rattle.std.specs.Int.{w32, to_be_bytes}
use Rattle.commands.specs.Bytes.{two_bytes, four_bytes}
use Rattle.commands.specs.Refusal.{Refusal, bad_capacity, short_buffer, long_journal, bad_byte, cut_operands, unknown_cabinet, unknown_span, equal_cabinets, full, two_districts, no_room, already_exchange, no_duct, no_shared_ring, duct_told, long_result, refused_journal, bad_seam, long_join, refusal_number}
use Rattle.commands.specs.Entry.{number_of, over}
use Rattle.commands.specs.Register.{ending}
use Rattle.commands.proofs.Table.{number_above_zero}
use Rattle.register.specs.Output.{Put}

-- a refusal's number is a byte
pub number_below_256 : (r : Refusal) → refusal_number r < 256
unfolding refusal_number
number_below_256 bad_capacity = omega arith
number_below_256 short_buffer = omega arith
number_below_256 long_journal = omega arith
number_below_256 bad_byte = omega arith
number_below_256 cut_operands = omega arith
number_below_256 unknown_cabinet = omega arith
number_below_256 unknown_span = omega arith
number_below_256 equal_cabinets = omega arith
number_below_256 full = omega arith
number_below_256 two_districts = omega arith
number_below_256 no_room = omega arith
number_below_256 already_exchange = omega arith
number_below_256 no_duct = omega arith
number_below_256 no_shared_ring = omega arith
number_below_256 duct_told = omega arith
number_below_256 long_result = omega arith
number_below_256 refused_journal = omega arith
number_below_256 bad_seam = omega arith
number_below_256 long_join = omega arith

-- where nothing was refused, 80 is the ending
pub accepted-put : (l : List ℕ) (number place : ℕ) → 1 ≤ length l → number ≡ 0 → (o : Option Refusal) → number ≡ number_of o
    → Put (ending o place) l (set l 0 0x80) 1
unfolding number_of ending over
accepted-put [] number place h z o e = absurd (omega arith)
accepted-put (x ∷ l) number place h z none e = record { buffer_is = refl; size_is = refl }
accepted-put (x ∷ l) number place h z (some r) e = absurd (omega (arith, number_above_zero r))

-- a number's four bytes, the high one first
pub four_high_first : (place : ℕ) → to_be_bytes w32 place ≡ four_bytes place
unfolding four_bytes two_bytes
four_high_first place =
    let high : place / 16777216 % 256 ≡ place / 65536 / 256 % 256 = omega arith in
    ap (λ a. a ∷ place / 65536 % 256 ∷ place / 256 % 256 ∷ place % 256 ∷ []) high

-- two bytes at the front of a buffer, and four behind them
put_over : (l : List ℕ) (n place : ℕ) → 6 ≤ length l
    → put_mid 2 4 (set (set l 0 0xFF) 1 n) (four_bytes place) ≡ over (0xFF ∷ n ∷ four_bytes place) l
unfolding over four_bytes two_bytes
put_over [] n place h = absurd (omega arith)
put_over (x₀ ∷ []) n place h = absurd (omega arith)
put_over (x₀ ∷ x₁ ∷ []) n place h = absurd (omega arith)
put_over (x₀ ∷ x₁ ∷ x₂ ∷ []) n place h = absurd (omega arith)
put_over (x₀ ∷ x₁ ∷ x₂ ∷ x₃ ∷ []) n place h = absurd (omega arith)
put_over (x₀ ∷ x₁ ∷ x₂ ∷ x₃ ∷ x₄ ∷ []) n place h = absurd (omega arith)
put_over (x₀ ∷ x₁ ∷ x₂ ∷ x₃ ∷ x₄ ∷ x₅ ∷ l) n place h = refl

-- where something was refused, FF, the number and the place with its high byte first are
pub refused_put : (l : List ℕ) (number place n : ℕ) (four : List ℕ) → 6 ≤ length l → (number ≡ 0 → ⊥) → n ≡ number % 256
    → four ≡ four_bytes place → (o : Option Refusal) → number ≡ number_of o
    → Put (ending o place) l (put_mid 2 4 (set (set l 0 0xFF) 1 n) four) 6
unfolding number_of ending
refused_put l number place n four h z en is none e = absurd (z e)
refused_put l number place n four h z en is (some r) e =
    let byte : n ≡ refusal_number r = omega (arith, number_below_256 r) in
    record { buffer_is = rw (is, byte) (put_over l (refusal_number r) place h); size_is = unfold four_bytes in unfold two_bytes in refl }
