-- Exchanges (request 2): the rings that hold one, and the share of the cabinets whose ring does.
use Rattle.std.specs.Prelude.{Bool, cond, ◌&&◌, ℕ, zero, suc, ◌+◌, ◌*◌, ◌/◌, ◌%◌, ltb}
use Rattle.graph.specs.Below.{any_below, count}
use Rattle.graph.specs.Groups.{bridge_block}
use Rattle.naming.specs.State.{State}

-- Cabinet a's ring holds an exchange: some exchange shares its ring.
unfoldable pub ring_holds_exchange : State → ℕ → Bool
ring_holds_exchange s a = any_below s.book.network.vertices (λ x. bridge_block s.book.network a x && s.marked x)

-- How many cabinets have a ring that holds an exchange.
unfoldable pub with_exchange : State → ℕ
with_exchange s = count s.book.network.vertices (ring_holds_exchange s)

-- The share of a part in a whole, rounded to the nearest thousandth, an exact half to the even one (request 10): the thousandths below it or
-- the next, by twice what is over against the whole. 0 where the whole is nothing.
unfoldable pub thousandths : ℕ → ℕ → ℕ
thousandths part zero = 0
thousandths part (suc n) =
    let below = 1000 * part / suc n in
    let over = 1000 * part % suc n in
    cond (ltb (2 * over) (suc n)) below (cond (ltb (suc n) (2 * over)) (suc below) (below + below % 2))

-- The share of all cabinets whose ring holds an exchange.
unfoldable pub share_with_exchange : State → ℕ
share_with_exchange s = thousandths (with_exchange s) s.book.network.vertices
