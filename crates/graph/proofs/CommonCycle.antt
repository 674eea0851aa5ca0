-- Blocks as they compute are blocks as the papers word them: two edges share a block exactly if they are mates, or some simple
-- cycle holds both.
use mathlib.Core.Bool.{Bool, true, false}
use mathlib.Core.List.{List, [], ◌∷◌}
use mathlib.Core.Logic.{inl, inr, ⊎_elim, ◌↔◌}
use mathlib.Core.Path.{◌≡◌, refl, sym, ◌∙◌, subst}
use Prim.Native.Nat.{ℕ, ◌<◌}
use lib.Dec.{eqb}
use Rattle.graph.specs.Network.{Network, MateRule, Proper, edge, edge_count, touches, parallel, mates}
use Rattle.graph.specs.Cycle.{Step, joins, leads, any_step, crosses, simple, OnCycle}
use Rattle.graph.specs.Block.{block, ShareBlock}
use Rattle.graph.specs.BlockPath.{fresh}
use Rattle.graph.proofs.Truth.{true_or_false, false_of_not, not_both, and_both, or_left, or_right, or_cases, or_neither}
use Rattle.graph.proofs.Truth.{not_of_false, eqb_eq, eqb_same, eqb_swap}
use Rattle.graph.proofs.Walks.{joins-ends, joins_swap, FirstStep, leads_first, first_leads, leads_one}
use Rattle.graph.proofs.Joins.{joins_back, joins-touches, joins_other, parallel-joins}
use Rattle.graph.proofs.Steps.{any_more, none_of_either, visits_end, visits_touched}
use Rattle.graph.proofs.Block.{block_sym, block_trans}
use Rattle.graph.proofs.Mates.{mates_refl, mates_sym}
use Rattle.graph.proofs.MateEdges.{mates-joins, mates_share_block}
use Rattle.graph.proofs.Paths.{fresh_start, fresh_rest}
use Rattle.graph.proofs.Ear.{Through, block_around}
use Rattle.graph.proofs.CycleBlock.{block_of_cycle}

module _ (g : Network) (rule : MateRule g.rule) where
  -- edges that share a block in the papers' wording do so as it computes
  pub block_of_share : (s t : ℕ) → s < edge_count g → t < edge_count g → ShareBlock g s t → block g s t ≡ true
  block_of_share s t h k = ⊎_elim (mates_share_block g rule s t h k) (block_of_cycle g s t)

  -- behind its first step a path crosses no mate of an edge at its start
  no_later_mate : (t x y : ℕ) (p : Step) (ps : List Step) (c : ℕ) → joins (edge g t) x y ≡ true
      → leads g p.to ps c ≡ true → fresh x (p ∷ ps) ≡ true → any_step (λ q. mates g q.along t) ps ≡ false
  no_later_mate t x y p ps c j l f =
      false_of_not (any_step (λ q. mates g q.along t) ps)
      (λ e. not_both
      (visits_touched g x p.to ps c l
      (any_more (λ q. mates g q.along t) (λ q. touches (edge g q.along) x) touching ps e))
      (fresh_start x p ps f))
    where
      touching : (q : Step) → mates g q.along t ≡ true → touches (edge g q.along) x ≡ true
      touching q e = joins-touches (edge g q.along) x y (mates-joins g rule t q.along (mates_sym g rule q.along t e) x y j)

  -- a path does not come back to its start
  no_return : (x : ℕ) (ps : List Step) → fresh x ps ≡ true → any_step (λ q. eqb q.to x) ps ≡ false
  unfolding any_step
  no_return x [] f = refl
  no_return x (p ∷ ps) f = fresh_start x p ps f

  -- no two edges of a path are mates
  path_simple : (x : ℕ) (ps : List Step) (c : ℕ) → leads g x ps c ≡ true → fresh x ps ≡ true → simple g ps ≡ true
  unfolding simple
  path_simple x [] c l f = refl
  path_simple x (p ∷ ps) c l f =
      let r = leads_first g x p ps c l in
      and_both
      (not_of_false (none_of_either (λ q. eqb q.to p.to) (λ q. mates g q.along p.along) ps
      (no_return p.to ps (fresh_rest x p ps f)) (no_later_mate p.along x p.to p ps c r.over r.later f)))
      (path_simple p.to ps c r.later (fresh_rest x p ps f))

  -- a path from a vertex to itself has no step
  no_step : (f : Step → Bool) (x : ℕ) (ps : List Step) → leads g x ps x ≡ true → fresh x ps ≡ true → any_step f ps ≡ false
  unfolding any_step
  no_step f x [] l k = refl
  no_step f x (p ∷ ps) l k =
      absurd (not_both (visits_end g p.to ps x (leads_first g x p ps x l).later) (fresh_start x p ps k))

  -- a path between the ends of edge t that crosses an edge that is no mate of t crosses no mate of t at all
  pub no_mate_crossed : (s t a b : ℕ) → joins (edge g t) a b ≡ true → (k : Through g s a b) → mates g s t ≡ false
      → any_step (λ q. mates g q.along t) k.steps ≡ false
  unfolding any_step crosses
  no_mate_crossed s t a b j k n = go k.steps k.lead k.all_fresh k.holds
    where
      go : (ps : List Step) → leads g a ps b ≡ true → fresh a ps ≡ true → crosses s ps ≡ true
          → any_step (λ q. mates g q.along t) ps ≡ false
      go [] l f e = refl
      go (p ∷ ps) l f e =
          or_neither (false_of_not (mates g p.along t) first) (no_later_mate t a b p ps b j r.later f)
        where
          r : FirstStep g a p ps b
          r = leads_first g a p ps b l

          only_step : mates g p.along t ≡ true → b ≡ p.to
          only_step m =
              sym (joins_other (edge g p.along) a b (mates-joins g rule t p.along (mates_sym g rule p.along t m) a b j))
              ∙ joins_other (edge g p.along) a p.to r.over

          first : mates g p.along t ≡ true → ⊥
          first m =
              ⊎_elim (λ i. not_both (subst (λ (u : ℕ). mates g u t ≡ true) (eqb_eq p.along s i) m) n)
              (λ i. not_both i
              (no_step (λ q. eqb q.along s) p.to ps
              (subst (λ (u : ℕ). leads g p.to ps u ≡ true) (only_step m) r.later) (fresh_rest a p ps f)))
              (or_cases (eqb p.along s) (crosses s ps) e)

  -- such a path and edge t make a simple cycle
  cycle_of_path : (s t a b : ℕ) → t < edge_count g → joins (edge g t) a b ≡ true → Through g s a b → mates g s t ≡ false
      → OnCycle g s t
  unfolding simple crosses any_step
  cycle_of_path s t a b h j k n =
      let p : Step = record { along = t; to = a } in
      record {
        cycle = record {
          start = b;
          steps = p ∷ k.steps;
          closed = first_leads g b p k.steps b (record { known = h; over = joins_swap (edge g t) b a ∙ j; later = k.lead });
          is_simple = and_both
              (not_of_false (none_of_either (λ q. eqb q.to a) (λ q. mates g q.along t) k.steps
              (no_return a k.steps k.all_fresh) (no_mate_crossed s t a b j k n)))
              (path_simple a k.steps b k.lead k.all_fresh);
        };
        holds_first = or_right (eqb t s) k.holds;
        holds_second = or_left (eqb_same t) (crosses t k.steps);
      }

-- two parallel edges that are not mates are a simple cycle: out along the one and back along the other
pub parallel_edges_on_cycle : (g : Network) → Proper g → (s t : ℕ) → s < edge_count g → t < edge_count g → mates g s t ≡ false
    → parallel (edge g s) (edge g t) ≡ true → OnCycle g s t
unfolding simple crosses any_step
parallel_edges_on_cycle g proper s t h k n p =
    record {
      cycle = record {
        start = b;
        steps = record { along = t; to = a } ∷ back ∷ [];
        closed =
            first_leads g b (record { along = t; to = a }) (back ∷ []) b
            (record {
              known = k;
              over = parallel-joins (edge g s) (edge g t) p b a (joins_back (edge g s));
              later = leads_one g a s b h (joins-ends (edge g s));
            });
        is_simple = and_both (not_of_false (or_neither (or_neither (eqb_swap b a ∙ proper.no_loop s h) n) refl)) refl;
      };
      holds_first = or_right (eqb t s) (or_left (eqb_same s) false);
      holds_second = or_left (eqb_same t) (crosses t (back ∷ []));
    }
  where
    a : ℕ
    a = (edge g s).left

    b : ℕ
    b = (edge g s).right

    back : Step
    back = record { along = s; to = b }

module _ (g : Network) (proper : Proper g) (rule : MateRule g.rule) where
  -- two edges of one block are mates, or some simple cycle holds both
  pub cycle_of_block : (s t : ℕ) → s < edge_count g → t < edge_count g → block g s t ≡ true → ShareBlock g s t
  cycle_of_block s t h k e =
      ⊎_elim inl
      (λ n. inr (cycle_of_path g rule s t (edge g t).left (edge g t).right k (joins-ends (edge g t))
      (block_around g proper s t h e) n))
      (true_or_false (mates g s t))

  -- blocks as they compute are blocks as the papers word them
  pub block_is_common_cycle : (s t : ℕ) → s < edge_count g → t < edge_count g → (block g s t ≡ true) ↔ ShareBlock g s t
  block_is_common_cycle s t h k = (cycle_of_block s t h k, block_of_share g rule s t h k)

  -- in the papers' wording, every edge shares a block with itself
  pub share_refl : (s : ℕ) → ShareBlock g s s
  share_refl s = inl (mates_refl g s)

  -- to share a block is symmetric
  pub share_sym : (s t : ℕ) → s < edge_count g → t < edge_count g → ShareBlock g s t → ShareBlock g t s
  share_sym s t h k e = cycle_of_block t s k h (block_sym g s t (block_of_share g rule s t h k e))

  -- and transitive
  pub share_trans : (s t u : ℕ) → s < edge_count g → t < edge_count g → u < edge_count g
      → ShareBlock g s t → ShareBlock g t u → ShareBlock g s u
  share_trans s t u h k l e f =
      cycle_of_block s u h l (block_trans g s t u (block_of_share g rule s t h k e) (block_of_share g rule t u k l f))
