-- Laws of the highest one bit of a number that is taken apart byte by byte.
use mathlib.Core.List.{List}
use mathlib.Core.Path.{◌≡◌}
use Prim.Native.Nat.{ℕ, ◌+◌, ◌/◌, ◌<◌}
use native.Mathlib.Nat.{pow-suc}
use native.Mathlib.Omega.{arith}
use lib.Count.{leading_top}
use lib.ListN.{get_or}
use lib.Pow.{pow-add}
use Rattle.graph.specs.Below.{tabulate}
use Rattle.naming.specs.Log.{highest_bit}
use Rattle.naming.proofs.Listed.{get_or-tabulate}
use Rattle.naming.proofs.Log.{below_power, highest_bit-between}

-- in a table of L(0) to L(255) the entry at a byte is L of that byte
pub entry_is : (table : List ℕ) → table ≡ tabulate 256 highest_bit → (byte place : ℕ) → place < 256 → place ≡ byte
    → get_or table place 0 ≡ highest_bit byte
entry_is table e byte place h at = rw (e, get_or-tabulate 256 highest_bit 0 place h, at)

-- without its lowest byte a number has its highest one bit 8 places lower (`leading_top` finds the place, among any number of bits that
-- holds what is left)
without_lowest_byte : (k : ℕ) → 255 < k → highest_bit k ≡ highest_bit (k / 256) + 8
without_lowest_byte k h =
    let rest = k / 256 in
    let top = leading_top rest rest (omega arith) (below_power rest) in
    let place = top.0 in
    let power = pow-add 2 place 8 in
    omega (
      arith,
      highest_bit-between rest place top.2 top.3,
      highest_bit-between k (place + 8) (omega (arith, power, top.2)) (omega (arith, power, pow-suc 2 (place + 8), top.3)),
    )

-- Where bytes of k are passed over: the table is L(0) to L(255), and the highest one bit of k is that of what is left, `below` places
-- further up.
pub record PassedOver (k : ℕ) (table : List ℕ) (high below : ℕ) : Type 0 where
  pub table_is : table ≡ tabulate 256 highest_bit
  pub place_is : below + highest_bit high ≡ highest_bit k

-- at first none is passed over
pub none_passed_over : (k : ℕ) (table : List ℕ) (high below : ℕ) → table ≡ tabulate 256 highest_bit → high ≡ k → below ≡ 0
    → PassedOver k table high below
none_passed_over k table high below e h b = record { table_is = e; place_is = rw h (omega arith) }

-- one byte more
pub one_more_passed_over : {k high below : ℕ} {table : List ℕ} → PassedOver k table high below → 255 < high → (next more : ℕ)
    → next ≡ high / 256 → more ≡ below + 8 → PassedOver k table next more
one_more_passed_over {high = high} so_far h next more n m =
    record { table_is = so_far.table_is; place_is = rw n (omega (arith, so_far.place_is, without_lowest_byte high h)) }
