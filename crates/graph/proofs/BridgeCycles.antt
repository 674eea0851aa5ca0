-- Bridges and simple cycles: an edge is a bridge exactly if no simple cycle crosses it. Mates alone make no cycle.
use mathlib.Core.Bool.{Bool, true, false, not, ◌&&◌, ◌||◌, false≢true}
use mathlib.Core.List.{List, [], ◌∷◌}
use mathlib.Core.Logic.{⊎_elim}
use mathlib.Core.Path.{◌≡◌, sym, ◌∙◌}
use Prim.Native.Nat.{ℕ, ◌<◌}
use lib.Dec.{eqb}
use Rattle.graph.specs.Below.{any_below}
use Rattle.graph.specs.Network.{Network, MateRule, Proper, edge_count, mates}
use Rattle.graph.specs.Groups.{bridge}
use Rattle.graph.specs.Cycle.{Step, leads, any_step, crosses, simple, OnCycle}
use Rattle.graph.specs.Block.{block}
use Rattle.graph.proofs.Truth.{true_or_false, false_of_not, not_both, and_left, and_right, and_both, or_left, or_right, not_of_false, false_of_not_true, eqb_eq, eqb_same, eq-eqb}
use Rattle.graph.proofs.Below.{any_below_lem, some_below}
use Rattle.graph.proofs.Walks.{FirstStep, leads_first, leads_none}
use Rattle.graph.proofs.Joins.{joins-apart}
use Rattle.graph.proofs.Mates.{mates_sym, mates_trans}
use Rattle.graph.proofs.CycleBlock.{block_of_cycle}
use Rattle.graph.proofs.CommonCycle.{cycle_of_block}
use Rattle.graph.proofs.LoneEdge.{shared_no_bridge, bridge_of_alone}

-- An edge that the steps cross, and that is no mate of s.
record Other (g : Network) (s : ℕ) (ps : List Step) : Type 0 where
  at : ℕ
  known : at < edge_count g
  crossed : crosses at ps ≡ true
  no_mate : mates g s at ≡ false

-- a simple cycle crosses an edge that is no mate of s
other_edge : (g : Network) → Proper g → MateRule g.rule → (s x : ℕ) (p : Step) (ps : List Step) → leads g x (p ∷ ps) x ≡ true
    → simple g (p ∷ ps) ≡ true → Other g s (p ∷ ps)
unfolding simple any_step crosses
other_edge g proper rule s x p [] l k =
    let a = leads_first g x p [] x l in
    absurd (not_both (eq-eqb x p.to (sym (eqb_eq p.to x (sym (leads_none g p.to x) ∙ a.later))))
    (joins-apart g proper p.along a.known x p.to a.over))
other_edge g proper rule s x p (q ∷ ps) l k = ⊎_elim second first (true_or_false (mates g s p.along))
  where
    a : FirstStep g x p (q ∷ ps) x
    a = leads_first g x p (q ∷ ps) x l

    again : Step → Bool
    again r = eqb r.to p.to || mates g r.along p.along

    apart : mates g q.along p.along ≡ false
    apart = false_of_not (mates g q.along p.along) (λ m. not_both
        (or_left (or_right (eqb q.to p.to) m) (any_step again ps))
        (false_of_not_true (any_step again (q ∷ ps)) (and_left (not (any_step again (q ∷ ps))) (simple g (q ∷ ps)) k)))

    first : mates g s p.along ≡ false → Other g s (p ∷ q ∷ ps)
    first n = record { at = p.along; known = a.known; crossed = or_left (eqb_same p.along) _; no_mate = n }

    second : mates g s p.along ≡ true → Other g s (p ∷ q ∷ ps)
    second m =
        record {
          at = q.along;
          known = (leads_first g p.to q ps x a.later).known;
          crossed = or_right (eqb p.along q.along) (or_left (eqb_same q.along) _);
          no_mate = false_of_not (mates g s q.along) (λ n. not_both
              (mates_trans g rule q.along s p.along (mates_sym g rule s q.along n) m) apart);
        }

module _ (g : Network) (proper : Proper g) (rule : MateRule g.rule) (s : ℕ) (known : s < edge_count g) where
  -- a bridge is on no simple cycle
  pub bridge_no_cycle : bridge g s ≡ true → OnCycle g s s → ⊥
  unfolding crosses any_step
  bridge_no_cycle b o = go o.cycle.steps o.cycle.closed o.cycle.is_simple o.holds_first
    where
      go : (ps : List Step) → leads g o.cycle.start ps o.cycle.start ≡ true → simple g ps ≡ true → crosses s ps ≡ true → ⊥
      go [] l k h = absurd (false≢true h)
      go (p ∷ ps) l k h =
          let t = other_edge g proper rule s o.cycle.start p ps l k in
          not_both b (shared_no_bridge g proper rule s t.at known t.known
          (block_of_cycle g s t.at
          (record {
            cycle = record { start = o.cycle.start; steps = p ∷ ps; closed = l; is_simple = k };
            holds_first = h;
            holds_second = t.crossed;
          }))
          t.no_mate)

  -- and any other edge is on one
  pub cycle_or_bridge : bridge g s ≡ false → OnCycle g s s
  cycle_or_bridge n = ⊎_elim some none (true_or_false (any_below (edge_count g) other))
    where
      other : ℕ → Bool
      other t = block g s t && not (mates g s t)

      some : any_below (edge_count g) other ≡ true → OnCycle g s s
      some e =
          let t = some_below (edge_count g) other e in
          ⊎_elim
          (λ m. absurd (not_both m (false_of_not_true (mates g s t.at) (and_right (block g s t.at) _ t.passes))))
          (λ o. record { cycle = o.cycle; holds_first = o.holds_first; holds_second = o.holds_first })
          (cycle_of_block g proper rule s t.at known t.below (and_left (block g s t.at) _ t.passes))

      none : any_below (edge_count g) other ≡ false → OnCycle g s s
      none e = absurd (not_both
          (bridge_of_alone g proper s known (λ t k w. ⊎_elim (λ m. m)
          (λ d. absurd (not_both (any_below_lem (edge_count g) other t k (and_both w (not_of_false d))) e)) (true_or_false (mates g s t)))) n)
