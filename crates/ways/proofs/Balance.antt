-- Laws of balance: a step is a move, moves make up a way, and a way changes by one how many ways the edges in use carry.
use mathlib.Core.Bool.{Bool, true, false, not, cond, ◌&&◌}
use mathlib.Core.List.{List}
use mathlib.Core.Logic.{◌⊎◌, inl, inr, ⊎_elim}
use mathlib.Core.Path.{◌≡◌, refl, sym, subst}
use Prim.Native.Nat.{ℕ, zero, suc, ◌+◌, ◌<◌}
use native.Mathlib.Nat.{not-suc-le-zero}
use native.Mathlib.Omega.{arith}
use lib.Dec.{eqb}
use Rattle.graph.specs.Below.{count}
use Rattle.graph.specs.Lists.{distinct}
use Rattle.graph.specs.Network.{Network, MateRule, edge, edge_count, other_end}
use Rattle.graph.specs.Cycle.{Step, leads}
use Rattle.graph.specs.Travel.{visited}
use Rattle.graph.proofs.Truth.{ne_eqb, false_of_not, false_of_not_true, or_cases, eqb_eq}
use Rattle.graph.proofs.Below.{below_or_last, count_same}
use Rattle.graph.proofs.Mates.{mates_refl}
use Rattle.ways.specs.Search.{all_allowed}
use Rattle.ways.specs.Used.{Used, unused, is_used, mate_used, one_more, along_used, step_taken, way_taken, StepFits}
use Rattle.ways.specs.Balance.{Set, inside, used_from, used_to, leaves, enters, leaving, entering, Balanced, Move}
use Rattle.graph.proofs.Joins.{other_end_back}
use Rattle.ways.proofs.UsedSteps.{used_from_lem, not_used, free_of_mates, taken_off, taken_new, taken_again}
use Rattle.ways.proofs.UsedSteps.{Goes, goes_least, lasting_goes, along_lasting, more_lasting}

-- the counts of two tests that agree but at i differ by what the tests say there
pub count_change : (n : ℕ) (p q : ℕ → Bool) (i : ℕ) → i < n → ((j : ℕ) → eqb j i ≡ false → p j ≡ q j)
    → count n q + cond (p i) 1 0 ≡ count n p + cond (q i) 1 0
unfolding count
count_change zero p q i h w = absurd (not-suc-le-zero h)
count_change (suc n) p q i h w = go (count_change n p q i) (below_or_last n i h)
  where
    further : (a : Bool) (c d x y : ℕ) → d + x ≡ c + y → cond a (suc d) d + x ≡ cond a (suc c) c + y
    further true c d x y e = omega arith
    further false c d x y e = e

    last : (a b : Bool) (c : ℕ) → cond b (suc c) c + cond a 1 0 ≡ cond a (suc c) c + cond b 1 0
    last true true c = refl
    last true false c = omega arith
    last false true c = omega arith
    last false false c = refl

    go : (i < n → ((j : ℕ) → eqb j i ≡ false → p j ≡ q j) → count n q + cond (p i) 1 0 ≡ count n p + cond (q i) 1 0)
        → (i < n) ⊎ (i ≡ n)
        → cond (q n) (suc (count n q)) (count n q) + cond (p i) 1 0 ≡ cond (p n) (suc (count n p)) (count n p) + cond (q i) 1 0
    go f (inl l) = rw (w n (ne_eqb n i (λ e. omega arith)))
        (further (q n) (count n p) (count n q) (cond (p i) 1 0) (cond (q i) 1 0) (f l w))
    go f (inr d) = rw (d, ← count_same n p q (λ j k. w j (ne_eqb j i (λ e. omega arith)))) (last (p n) (q n) (count n p))

-- an edge with vertex v behind it is used from v
pub used_from_is : (u : Used) (s v : ℕ) → u s ≡ suc v → used_from u s ≡ v
unfolding used_from
used_from_is u s v e = omega arith

module _ (g : Network) where
  -- it leaves a set that holds v and not its other end
  leaves_from : (u : Used) (set : Set) (s v : ℕ) → u s ≡ suc v → leaves g u set s ≡ (set v && not (set (other_end (edge g s) v)))
  unfolding leaves used_to
  leaves_from u set s v e = rw (used_from_lem u s v e, used_from_is u s v e)

  -- and enters one that holds its other end and not v
  enters_from : (u : Used) (set : Set) (s v : ℕ) → u s ≡ suc v → enters g u set s ≡ (not (set v) && set (other_end (edge g s) v))
  unfolding enters used_to
  enters_from u set s v e = rw (used_from_lem u s v e, used_from_is u s v e)

  -- an edge that is not used neither leaves nor enters
  leaves-unused : (u : Used) (set : Set) (s : ℕ) → u s ≡ 0 → leaves g u set s ≡ false
  unfolding leaves is_used
  leaves-unused u set s e = rw e

  enters-unused : (u : Used) (set : Set) (s : ℕ) → u s ≡ 0 → enters g u set s ≡ false
  unfolding enters is_used
  enters-unused u set s e = rw e

  -- to use one edge more, from vertex x, is a move from x to its other end
  one_edge_moves : (u v : Used) (s x : ℕ) → s < edge_count g → ((t : ℕ) → eqb t s ≡ false → u t ≡ v t) → u s ≡ 0 → v s ≡ suc x
      → Move g u v x (other_end (edge g s) x)
  unfolding leaving entering leaves enters used_from used_to is_used inside
  one_edge_moves u v s x h same none new set = sum (set x) (set (other_end (edge g s) x))
      (leaving g u set) (leaving g v set) (entering g u set) (entering g v set)
      (rw (leaves-unused u set s none, leaves_from v set s x new) at
      (count_change (edge_count g) (leaves g u set) (leaves g v set) s h (λ t d. rw (same t d))))
      (rw (enters-unused u set s none, enters_from v set s x new) at
      (count_change (edge_count g) (enters g u set) (enters g v set) s h (λ t d. rw (same t d))))
    where
      sum : (a b : Bool) (l k e f : ℕ) → k + cond false 1 0 ≡ l + cond (a && not b) 1 0 → f + cond false 1 0 ≡ e + cond (not a && b) 1 0
          → k + e + cond b 1 0 ≡ l + f + cond a 1 0
      sum true true l k e f p q = omega arith
      sum true false l k e f p q = omega arith
      sum false true l k e f p q = omega arith
      sum false false l k e f p q = omega arith

  -- a step along an edge that is not used, or back along one that is, is a move from where it begins to where it leads
  pub step_moves : (u : Used) (x s : ℕ) → StepFits g u x s → (is_used u s ≡ false) ⊎ (u s ≡ suc (other_end (edge g s) x))
      → Move g u (step_taken u x s) x (other_end (edge g s) x)
  step_moves u x s f (inl k) =
      let none = not_used u s k in
      one_edge_moves u (step_taken u x s) s x f.known (λ t d. sym (taken_off u x s t d)) none (taken_new u x s none)
  step_moves u x s f (inr k) =
      let y = other_end (edge g s) x in
      subst (λ z. Move g u (step_taken u x s) z y) (other_end_back (edge g s) x f.at_end) (λ set. sym
      (one_edge_moves (step_taken u x s) u s y f.known (taken_off u x s) (taken_again u x s (used_from_lem u s y k)) k set))

  -- a step along a used edge is a move from where it leads to where it begins
  pub step_moves_back : (u : Used) (x s : ℕ) → StepFits g u x s → u s ≡ suc x
      → Move g u (step_taken u x s) (other_end (edge g s) x) x
  step_moves_back u x s f k set =
      sym (one_edge_moves (step_taken u x s) u s x f.known (taken_off u x s) (taken_again u x s (used_from_lem u s x k)) k set)

  -- an edge of which no mate is used is not used
  free_unused : (u : Used) (s : ℕ) → s < edge_count g → mate_used g u s ≡ false → is_used u s ≡ false
  free_unused u s h f = false_of_not (is_used u s) (λ e. free_of_mates g u s s f h e (mates_refl g s))

  -- a step of one way more is a move forwards
  more_step_moves : (u : Used) (x s : ℕ) → StepFits g u x s → one_more g u s x ≡ true → Move g u (step_taken u x s) x (other_end (edge g s) x)
  unfolding one_more
  more_step_moves u x s f a = step_moves u x s f (⊎_elim
      (λ k. inl (free_unused u s f.known (false_of_not_true (mate_used g u s) k)))
      (λ k. inr (eqb_eq (u s) (suc (other_end (edge g s) x)) k))
      (or_cases (not (mate_used g u s)) (eqb (u s) (suc (other_end (edge g s) x))) a))

  -- a way over one_more is a move from its start to its end
  pub more_moves : {u : Used} {x y : ℕ} {ps : List Step} → Goes g (one_more g) u x ps y → Move g u (way_taken u x ps) x y
  more_moves = goes_least (Move g) (λ u x set. refl)
      (λ u v w x y z m n set. omega (arith, m set, n set)) more_step_moves

  -- a way along used edges is a move from its end to its start
  pub along_moves : {u : Used} {x y : ℕ} {ps : List Step} → Goes g along_used u x ps y → Move g u (way_taken u x ps) y x
  unfolding along_used
  along_moves = goes_least (λ u v x y. Move g u v y x) (λ u x set. refl)
      (λ u v w x y z m n set. omega (arith, m set, n set)) (λ u x s f a. step_moves_back u x s f (eqb_eq (u s) (suc x) a))

  module _ (u : Used) (a b k : ℕ) (ps : List Step) (l : leads g a ps b ≡ true) (d : distinct (visited a ps) ≡ true) where
    -- with one way more from a to b, one way more is carried
    pub one_way_more : MateRule g.rule → all_allowed (one_more g u) a ps ≡ true
        → Balanced g u a b k → Balanced g (way_taken u a ps) a b (suc k)
    unfolding inside
    one_way_more rule w bal set p q =
        omega (arith, bal set p q, rw (p, q) at (more_moves (lasting_goes (more_lasting g rule) ps u a b l w d) set))

    -- without a way along used edges, one less
    pub one_way_less : all_allowed (along_used u) a ps ≡ true → Balanced g u a b (suc k) → Balanced g (way_taken u a ps) a b k
    unfolding inside
    one_way_less w bal set p q =
        omega (arith, bal set p q, rw (p, q) at (along_moves (lasting_goes (along_lasting g) ps u a b l w d) set))

  -- where nothing is used no way is carried
  pub unused_balanced : (a b : ℕ) → Balanced g unused a b 0
  unfolding unused leaving entering leaves enters is_used
  unused_balanced a b set p q = omega arith
