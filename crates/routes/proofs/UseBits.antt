-- The two bits for the use of an edge: they are two, and they tell it.
use mathlib.Core.Path.{◌≡◌, refl, sym, ◌∙◌, ap}
use Prim.Native.Nat.{ℕ, zero, suc, ◌<◌}
use native.Mathlib.Omega.{arith}
use Rattle.routes.specs.declared.uses.Use.{Use}
use Rattle.routes.specs.declared.uses.Use.TheVariants as U
use Rattle.routes.specs.Inside.Lists.{bits_of}

-- the bits are two
pub bits_small : (used : Use) → bits_of used < 4
bits_small U.Free = omega arith
bits_small U.MateUsed = omega arith
bits_small U.FromLeft = omega arith
bits_small U.FromRight = omega arith

-- the bits tell the use
use_by_bits : ℕ → Use
use_by_bits zero = U.Free
use_by_bits (suc zero) = U.MateUsed
use_by_bits (suc (suc zero)) = U.FromLeft
use_by_bits (suc (suc (suc n))) = U.FromRight

by_its_bits : (used : Use) → use_by_bits (bits_of used) ≡ used
unfolding use_by_bits
by_its_bits U.Free = refl
by_its_bits U.MateUsed = refl
by_its_bits U.FromLeft = refl
by_its_bits U.FromRight = refl

pub same_bits : {a b : Use} → bits_of a ≡ bits_of b → a ≡ b
same_bits {a} {b} e = sym (by_its_bits a) ∙ ap use_by_bits e ∙ by_its_bits b
