-- The rings that hold an exchange, and the share of the cabinets whose ring does.
use mathlib.Core.Bool.{true}
use mathlib.Core.Logic.{◌↔◌}
use mathlib.Core.Path.{◌≡◌}
use Prim.Native.Nat.{ℕ, ◌≤◌, ◌<◌}
use lib.Dec.{ltb}
use Rattle.graph.specs.Groups.{bridge_block}
use Rattle.graph.proofs.Truth.{and_left, and_right, and_both}
use Rattle.graph.proofs.Below.{any_below_lem, some_below}
use Rattle.naming.specs.State.{State, marks_with}
use Rattle.naming.proofs.Count.{count_at_most, some_counted}
use Rattle.commands.specs.Exchange.{ring_holds_exchange, with_exchange, share_with_exchange}
use Rattle.commands.proofs.Thousandths.{share_within}

-- an exchange that shares the ring of cabinet a
pub record ExchangeWith (s : State) (a : ℕ) : Type 0 where
  pub at : ℕ
  pub known : at < s.book.network.vertices
  pub shares_ring : bridge_block s.book.network a at ≡ true
  pub is_exchange : s.marked at ≡ true

-- a cabinet's ring holds an exchange exactly if there is one
pub holds_exchange_exactly : (s : State) (a : ℕ) → (ring_holds_exchange s a ≡ true) ↔ ExchangeWith s a
unfolding ring_holds_exchange
holds_exchange_exactly s a = (
  λ e.
      let b = some_below s.book.network.vertices _ e in
      record {
        at = b.at;
        known = b.below;
        shares_ring = and_left (bridge_block s.book.network a b.at) (s.marked b.at) b.passes;
        is_exchange = and_right (bridge_block s.book.network a b.at) (s.marked b.at) b.passes;
      },
  λ x. any_below_lem s.book.network.vertices _ x.at x.known (and_both x.shares_ring x.is_exchange),
)

-- and exactly if the count of its ring's exchanges is not 0
pub holds_exchange_counted : (s : State) (a : ℕ) → ring_holds_exchange s a ≡ ltb 0 (marks_with s a)
unfolding ring_holds_exchange marks_with
holds_exchange_counted s a = some_counted s.book.network.vertices _

-- no more cabinets have a ring that holds an exchange than there are
pub with_exchange_at_most : (s : State) → with_exchange s ≤ s.book.network.vertices
unfolding with_exchange
with_exchange_at_most s = count_at_most s.book.network.vertices _

-- and their share is at most 1000 thousandths
pub share_at_most : (s : State) → share_with_exchange s ≤ 1000
unfolding share_with_exchange
share_at_most s = share_within (with_exchange s) s.book.network.vertices (with_exchange_at_most s)
