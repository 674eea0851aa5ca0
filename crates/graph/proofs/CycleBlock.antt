-- The edges of a simple cycle share a block: neighbours on it are linked, by way of the rest of the cycle.
use mathlib.Core.Bool.{Bool, true, false, not, ◌||◌, false≢true, or-false}
use mathlib.Core.List.{List, [], ◌∷◌}
use mathlib.Core.Logic.{⊎_elim}
use mathlib.Core.Path.{◌≡◌, refl, sym, ◌∙◌, subst}
use Prim.Native.Nat.{ℕ}
use lib.Dec.{eqb}
use Rattle.graph.specs.Network.{Network, edge, touches, mates, without, joined}
use Rattle.graph.specs.Cycle.{Step, joins, leads, any_step, crosses, simple, OnCycle}
use Rattle.graph.specs.Block.{block}
use Rattle.graph.specs.BlockPath.{fresh}
use Rattle.graph.proofs.Truth.{false_of_not, not_both, and_left, and_right, and_both, or_left, or_right, or_cases, or_neither}
use Rattle.graph.proofs.Truth.{false_of_not_true, not_of_false, eqb_eq, eqb_swap}
use Rattle.graph.proofs.Joined.{joined_refl, joined_sym, joined_trans}
use Rattle.graph.proofs.Block.{block_refl, block_sym, block_trans}
use Rattle.graph.proofs.Walks.{joins_swap, joins-joined, FirstStep, leads_first}
use Rattle.graph.proofs.Joins.{touches_no_third}
use Rattle.graph.proofs.Links.{linked_edges_share_block}
use Rattle.graph.proofs.Steps.{any_more, visits, visits_start, visits_end, joined_around}
use Rattle.graph.proofs.Paths.{fresh_start, fresh_rest}

-- behind the first step, the steps of a simple cycle are a path
fresh_of_simple : (g : Network) (p : Step) (ps : List Step) → simple g (p ∷ ps) ≡ true → fresh p.to ps ≡ true
unfolding simple fresh
fresh_of_simple g p [] e = refl
fresh_of_simple g p (q ∷ ps) e =
    and_both
    (not_of_false (false_of_not (any_step (λ r. eqb r.to p.to) (q ∷ ps)) (λ k. not_both
    (any_more (λ r. eqb r.to p.to) again (λ r i. or_left i (mates g r.along p.along)) (q ∷ ps) k)
    (false_of_not_true (any_step again (q ∷ ps)) (and_left (not (any_step again (q ∷ ps))) (simple g (q ∷ ps)) e)))))
    (fresh_of_simple g q ps (and_right (not (any_step again (q ∷ ps))) (simple g (q ∷ ps)) e))
  where
    again : Step → Bool
    again r = eqb r.to p.to || mates g r.along p.along

-- from x there is a way to c around each vertex of a path to c, but c itself
abbrev Closes : Network → ℕ → ℕ → ℕ → List Step → Type 0
Closes g x c y ps = (v : ℕ) → visits y ps v ≡ true → eqb v c ≡ false → (eqb x v ≡ false) × (joined g (without g v) x c ≡ true)

module _ (g : Network) (x c : ℕ) (p q : Step) (qs : List Step) (l : leads g x (p ∷ q ∷ qs) c ≡ true)
    (f : fresh p.to (q ∷ qs) ≡ true) (w : Closes g x c p.to (q ∷ qs)) where
  closed_first : FirstStep g x p (q ∷ qs) c
  closed_first = leads_first g x p (q ∷ qs) c l

  closed_second : FirstStep g p.to q qs c
  closed_second = leads_first g p.to q qs c closed_first.later

  closed_back : joins (edge g p.along) p.to x ≡ true
  closed_back = joins_swap (edge g p.along) p.to x ∙ closed_first.over

  closed_past : visits q.to qs p.to ≡ false
  closed_past = fresh_start p.to q qs f

  closed_apart : (v : ℕ) → visits q.to qs v ≡ true → eqb p.to v ≡ false
  closed_apart v e =
      false_of_not (eqb p.to v)
      (λ i. not_both (subst (λ (u : ℕ). visits q.to qs u ≡ true) (sym (eqb_eq p.to v i)) e) closed_past)

  closed_link : block g p.along q.along ≡ true
  closed_link =
      linked_edges_share_block g p.along q.along closed_first.known closed_second.known
      (record {
        meeting = p.to;
        first = x;
        second = q.to;
        first_ends = closed_back;
        second_ends = closed_second.over;
        around = joined_trans g (without g p.to) x c q.to
            (w p.to (visits_start p.to (q ∷ qs)) (closed_apart c (visits_end g q.to qs c closed_second.later))).1
            (joined_sym g (without g p.to) q.to c (joined_around g p.to q.to qs c closed_second.later closed_past));
      })

  closes_on : Closes g p.to c q.to qs
  unfolding without any_step
  closes_on v e n =
      let k = w v (or_right (eqb p.to v) e) n in
      let far : touches (edge g p.along) v ≡ false =
      false_of_not (touches (edge g p.along) v)
      (λ i. not_both (touches_no_third (edge g p.along) v x p.to closed_first.over i) (or_neither k.0 (closed_apart v e))) in (
        closed_apart v e,
        joined_trans g (without g v) p.to x c
            (joins-joined g (without g v) p.along closed_first.known far p.to x closed_back)
            k.1,
      )

-- a step from x and then a path to c, from where x is joined without any vertex between: all their edges share a block
closed_path_block : (g : Network) (x c : ℕ) (p : Step) (ps : List Step) → leads g x (p ∷ ps) c ≡ true → fresh p.to ps ≡ true
    → Closes g x c p.to ps → (t : ℕ) → crosses t (p ∷ ps) ≡ true → block g p.along t ≡ true
unfolding crosses any_step
closed_path_block g x c p [] l f w t e =
    rw (eqb_eq p.along t (sym (or-false (eqb p.along t)) ∙ e)) (block_refl g t)
closed_path_block g x c p (q ∷ qs) l f w t e =
    ⊎_elim (λ i. rw (eqb_eq p.along t i) (block_refl g t))
    (λ i. block_trans g p.along q.along t (closed_link g x c p q qs l f w)
    (closed_path_block g p.to c q qs (closed_first g x c p q qs l f w).later (fresh_rest p.to q qs f)
    (closes_on g x c p q qs l f w) t i))
    (or_cases (eqb p.along t) (crosses t (q ∷ qs)) e)

cycle_block : (g : Network) (x : ℕ) (ps : List Step) → leads g x ps x ≡ true → simple g ps ≡ true
    → (s t : ℕ) → crosses s ps ≡ true → crosses t ps ≡ true → block g s t ≡ true
unfolding crosses any_step
cycle_block g x [] l k s t i j = absurd (false≢true i)
cycle_block g x (p ∷ ps) l k s t i j = block_trans g s p.along t (block_sym g p.along s (all s i)) (all t j)
  where
    all : (t : ℕ) → crosses t (p ∷ ps) ≡ true → block g p.along t ≡ true
    all =
        closed_path_block g x x p ps l (fresh_of_simple g p ps k)
        (λ v e n. (eqb_swap x v ∙ n, joined_refl g (without g v) x))

-- the edges of a simple cycle share a block
pub block_of_cycle : (g : Network) (s t : ℕ) → OnCycle g s t → block g s t ≡ true
block_of_cycle g s t k =
    let c = k.cycle in
    cycle_block g c.start c.steps c.closed c.is_simple s t k.holds_first k.holds_second
