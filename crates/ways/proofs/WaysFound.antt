-- Ways found one after another tell how many losses two vertices outlive: k + 1 are found exactly if the loss of no k edges, each with its
-- mates, parts them.
use mathlib.Core.Bool.{Bool, true}
use mathlib.Core.Logic.{⊎_elim, ◌↔◌}
use mathlib.Core.Path.{◌≡◌, refl, sym, subst}
use Prim.Native.Nat.{ℕ, zero, suc, ◌≤◌, ◌<◌}
use native.Mathlib.Omega.{arith}
use Rattle.graph.specs.Network.{Network, Proper, MateRule, joined}
use Rattle.graph.specs.Groups.{component, bridge_block, outlive_two}
use Rattle.graph.specs.EdgeConnected.{Outlives}
use Rattle.graph.proofs.Truth.{bool_ext, and_left, and_right, and_both}
use Rattle.graph.proofs.Below.{below_or_last}
use Rattle.graph.proofs.Outlives.{fewer_losses, component_exactly, bridge_block_exactly, outlive_two_exactly}
use Rattle.ways.specs.Used.{Used, one_more}
use Rattle.ways.specs.WaysFound.{more_found, ways_taken, ways_found}
use Rattle.ways.proofs.BalanceCuts.{more_ways_than_losses}
use Rattle.ways.proofs.TwoRoutes.{Carries, unused_carries, WayFound, reached_found}
use Rattle.ways.proofs.WaysCarried.{same_loss, more_found_lem, one_more_lem}

-- where more ways are found, fewer are
pub fewer_found : (g : Network) (a b j k : ℕ) → j ≤ k → ways_found g a b k ≡ true → ways_found g a b j ≡ true
unfolding ways_found
fewer_found g a b j zero h e = let none : 0 ≡ j = omega (arith, h) in subst (λ n. ways_found g a b n ≡ true) none e
fewer_found g a b j (suc k) h e = ⊎_elim
    (λ l. fewer_found g a b j k (omega arith) (and_left (ways_found g a b k) (more_found g a b (ways_taken g a b k)) e))
    (λ q. subst (λ n. ways_found g a b n ≡ true) (sym q) e)
    (below_or_last (suc k) j (omega arith))

module _ (g : Network) (proper : Proper g) (rule : MateRule g.rule) (a b : ℕ) (known : b < g.vertices) where
  -- where a way more is found, it leads from a to b
  pub more_way_found : (u : Used) → more_found g a b u ≡ true → WayFound g (one_more g u) a b
  unfolding more_found
  more_way_found u = reached_found g proper b known (one_more g u) a

  -- k ways that are found are carried
  pub ways_found_carried : (k : ℕ) → ways_found g a b k ≡ true → Carries g (ways_taken g a b k) a b k
  unfolding ways_found ways_taken
  ways_found_carried zero e = unused_carries g a b
  ways_found_carried (suc k) e =
      one_more_lem g proper rule a b known (ways_taken g a b k) k
      (ways_found_carried k (and_left (ways_found g a b k) (more_found g a b (ways_taken g a b k)) e))
      (more_way_found (ways_taken g a b k) (and_right (ways_found g a b k) (more_found g a b (ways_taken g a b k)) e))

  -- as long as a and b outlive as many losses as ways are found, one more is
  ways_found_lem : (k : ℕ) → ((j : ℕ) → j < k → Outlives j g a b) → ways_found g a b k ≡ true
  unfolding ways_found more_found
  ways_found_lem zero w = refl
  ways_found_lem (suc k) w =
      let so_far = ways_found_lem k (λ j h. w j (omega arith)) in
      and_both so_far
      (more_found_lem g proper rule a b known (ways_taken g a b k) k (ways_found_carried k so_far) (w k (omega arith))).reached

  -- k + 1 ways are found exactly if a and b outlive the loss of any k edges
  pub ways_found_exactly : (k : ℕ) → (ways_found g a b (suc k) ≡ true) ↔ Outlives k g a b
  ways_found_exactly k = (
    λ e ss few i.
        let c = ways_found_carried (suc k) e in
        subst (λ (lost : ℕ → Bool). joined g lost a b ≡ true) (same_loss g ss)
        (more_ways_than_losses g rule (ways_taken g a b (suc k)) c.usable a b k c.balanced ss few),
    λ w. ways_found_lem (suc k) (λ j h. fewer_losses g a b j k (omega arith) w),
  )

  -- so a test of whether they do tells whether so many ways are found
  told_by_ways : (k : ℕ) (test : Bool) → (test ≡ true) ↔ Outlives k g a b → test ≡ ways_found g a b (suc k)
  told_by_ways k test w = bool_ext test (ways_found g a b (suc k))
      (λ e. (ways_found_exactly k).1 (w.0 e)) (λ e. w.1 ((ways_found_exactly k).0 e))

  -- two vertices share a component exactly if one way is found
  pub component_one_way : component g a b ≡ ways_found g a b 1
  component_one_way = told_by_ways 0 (component g a b) (component_exactly g a b)

  -- a bridge-block exactly if two are
  pub bridge_block_two_ways : bridge_block g a b ≡ ways_found g a b 2
  bridge_block_two_ways = told_by_ways 1 (bridge_block g a b) (bridge_block_exactly g a b)

  -- and they outlive two losses exactly if three are
  pub outlive_two_three_ways : outlive_two g a b ≡ ways_found g a b 3
  outlive_two_three_ways = told_by_ways 2 (outlive_two g a b) (outlive_two_exactly g a b)
