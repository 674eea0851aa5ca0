use mathlib.Core.List.{List}
use mathlib.Core.Path.{◌≡◌}
use Prim.Native.Nat.{ℕ, ◌+◌, ◌*◌, ◌<◌}
use lib.ListN.{length}
use Rattle.writing.proofs.ItemSteps.{ItemsTo}
use Rattle.writing.proofs.items.put_items.Given as goal

abbrev pub invariant-loop-i : goal.invariant-loop-i
invariant-loop-i g l =
    record {
      place : l.next ≡ l.at + g.T.Item.WIDTH * l.i;
      as_long : length l.out ≡ length l.initial.out;
      stored : (f : ℕ → List ℕ) → ((i : ℕ) → i < l.count → (x : _) → goal.F-post g l.item i x → g.T.Item.bytes x ≡ f i)
          → ItemsTo f g.T.Item.WIDTH l.at l.i l.initial.out l.out;
    }
