-- `exchange::thousandths_of` gives the share of a part in a whole, rounded to the nearest thousandth, an exact half to the even one.
use Prim.Native.Nat.{◌+◌, ◌*◌, ◌/◌, ◌<◌}
use native.Mathlib.Nat.{mod-le}
use native.Mathlib.Omega.{arith}
use Rattle.commands.proofs.Thousandths.{Nearest, share_of-nothing}
use Rattle.step.proofs.Exchanges.{half_goes_up, rest_goes_up, few_nearest, nearest_is_share}
use Rattle.step.proofs.exchange.thousandths_of.Goals as goal
use Rattle.step.proofs.exchange.thousandths_of.Goals.{then-twice_over-whole, else-twice_over-whole}

pub returns-then-whole-eq0 : goal.returns-then-whole-eq0
returns-then-whole-eq0 c = rw (c.if-whole-eq0.true, share_of-nothing)

pub overflow_mul-twice_over : goal.overflow_mul-twice_over
overflow_mul-twice_over c = omega (arith, c.requires, mod-le (1000 * c.args.part) c.args.whole)

pub overflow_add-result : goal.overflow_add-result
overflow_add-result c =
    let not_nothing : 0 < c.args.whole = omega (arith, c.if-whole-eq0.false) in
    -- behind both ways to what goes up
    let is_nearest : Nearest c.args.part c.args.whole (1000 * c.args.part / c.args.whole + c.if-twice_over-whole.up) =
    elim c.if-twice_over-whole.branch [
      | then-twice_over-whole w ↦ half_goes_up _ _ _ not_nothing (omega (arith, w.if-twice_over-whole.true)) (omega (arith, w.up-is))
      | else-twice_over-whole w ↦ rest_goes_up _ _ _ not_nothing (λ half. w.if-twice_over-whole.false (omega (arith, half))) (omega (arith, w.up-is))
    ] in
    omega (arith, c.requires, few_nearest _ _ _ not_nothing is_nearest)

pub returns : goal.returns
returns c =
    let not_nothing : 0 < c.args.whole = omega (arith, c.if-whole-eq0.false) in
    -- behind both ways to what goes up
    let is_nearest : Nearest c.args.part c.args.whole (1000 * c.args.part / c.args.whole + c.if-twice_over-whole.up) =
    elim c.if-twice_over-whole.branch [
      | then-twice_over-whole w ↦ half_goes_up _ _ _ not_nothing (omega (arith, w.if-twice_over-whole.true)) (omega (arith, w.up-is))
      | else-twice_over-whole w ↦ rest_goes_up _ _ _ not_nothing (λ half. w.if-twice_over-whole.false (omega (arith, half))) (omega (arith, w.up-is))
    ] in
    nearest_is_share _ _ _ _ not_nothing is_nearest (omega arith)
