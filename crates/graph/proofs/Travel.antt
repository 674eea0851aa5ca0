-- Travelling order: whatever walk leads from a to b, it first meets the cut vertices between them, and first crosses the bridges
-- between them, in the order of their lists.
use mathlib.Core.Bool.{Bool, true, false, not, ◌||◌}
use mathlib.Core.List.{List, [], ◌∷◌}
use mathlib.Core.Logic.{⊎_elim, ◌≢◌}
use mathlib.Core.Option.{Option, none, some}
use mathlib.Core.Path.{◌≡◌, refl, sym, ◌∙◌, ap, ap₂, subst}
use Prim.Native.Nat.{ℕ}
use lib.Dec.{eqb}
use Rattle.graph.specs.Below.{any_below}
use Rattle.graph.specs.Lists.{is_in, ordered}
use Rattle.graph.specs.Network.{Network, Proper, MateRule, edge, mates, loss_of, without, joined}
use Rattle.graph.specs.Cycle.{Step, leads, any_step}
use Rattle.graph.specs.Between.{least_mate, is_cut_between, cut_before, cuts_between, is_bridge_between, bridge_before, bridges_between}
use Rattle.graph.specs.Travel.{firsts, visited, first_mate, crossed}
use Rattle.graph.proofs.Truth.{true_or_false, false_of_not, not_both, not_of_false, and_both, or_neither_left, or_neither_right}
use Rattle.graph.proofs.Truth.{eqb_eq, eqb_ne, eqb_swap}
use Rattle.graph.proofs.Below.{Least, found, missing, least_below_lem, any_none}
use Rattle.graph.proofs.Joined.{joined_refl, joined_trans}
use Rattle.graph.proofs.Walks.{joins-joined, FirstStep, leads_first, leads_none}
use Rattle.graph.proofs.Joins.{joins_carries}
use Rattle.graph.proofs.Steps.{visits, joined_around}
use Rattle.graph.proofs.Mates.{mates_refl, mates_sym, mates_trans, mates_carry}
use Rattle.graph.proofs.Firsts.{except, except_passes, except_differs, is_in_firsts_all, distinct-firsts, ordered-firsts}
use Rattle.graph.proofs.Parting.{parts-apart}
use Rattle.graph.proofs.CutsBetween.{kept_off, cut_between_parts, cuts_between_unique}
use Rattle.graph.proofs.BridgesBetween.{least_mates_differ, bridge-between-parts, bridge_between_least, bridges_between_unique}

-- the vertices that a walk visits are those that it comes by
is_in-visited : (c v : ℕ) (ps : List Step) → is_in c (visited v ps) ≡ visits v ps c
unfolding visited is_in any_step
is_in-visited c v [] = ap (λ b. b || false) (eqb_swap c v)
is_in-visited c v (p ∷ ps) = ap₂ ◌||◌ (eqb_swap c v) (is_in-visited c p.to ps)

module _ (g : Network) where
  -- a step between other vertices is not lost with vertex d
  joined_step_off : (d v w : ℕ) (p : Step) (ps : List Step) → FirstStep g v p ps w → d ≢ v → d ≢ p.to
      → joined g (without g d) v p.to ≡ true
  joined_step_off d v w p ps f i j = joins-joined g (without g d) p.along f.known
      (let q = joins_carries (λ x y. (d ≢ x) × (d ≢ y)) (λ x y r. (r.1, r.0)) (edge g p.along) v p.to f.over (i, j) in
      kept_off g d p.along (λ e. q.0 (sym e)) (λ e. q.1 (sym e))) v p.to f.over

  -- a walk that does not visit vertex c is a walk without it
  pub joined_unvisited : (c : ℕ) (ps : List Step) (v w : ℕ) → leads g v ps w ≡ true → is_in c (visited v ps) ≡ false
      → joined g (without g c) v w ≡ true
  joined_unvisited c ps v w l n = joined_around g c v ps w l (sym (is_in-visited c v ps) ∙ n)

  -- from a, a walk first meets any vertices in the order in which they come before one another
  visits_in_order : (a : ℕ) (ps : List Step) (q : ℕ → Bool) (v w : ℕ) → leads g v ps w ≡ true
      → ((d : ℕ) → q d ≡ true → d ≢ v → joined g (without g d) a v ≡ true)
      → ordered (cut_before g a) (firsts q (visited v ps)) ≡ true
  unfolding visited cut_before firsts ordered
  visits_in_order a [] q v w l h = ordered-firsts (cut_before g a) q v [] (λ e. h) refl
  visits_in_order a (p ∷ ps) q v w l h = ordered-firsts (cut_before g a) q v (visited p.to ps) (λ e. h)
      (visits_in_order a ps (except q v) p.to w f.later (λ d k n. joined_trans g (without g d) a v p.to
      (h d (except_passes q v d k) (except_differs q v d k))
      (joined_step_off d v w p ps f (except_differs q v d k) n)))
    where
      f : FirstStep g v p ps w
      f = leads_first g v p ps w l

  module _ (a b : ℕ) (ps : List Step) (l : leads g a ps b ≡ true) where
    -- a walk from a to b visits every cut vertex between them
    pub visits_every_cut : (c : ℕ) → is_cut_between g a b c ≡ true → is_in c (visited a ps) ≡ true
    visits_every_cut c e = ⊎_elim (λ k. k) (λ k. absurd (not_both (joined_unvisited c ps a b l k)
        (parts-apart g (without g c) a b (cut_between_parts g a b c e)))) (true_or_false (is_in c (visited a ps)))

    -- a walk from a to b first meets the cut vertices between them in the order of their list
    pub cuts_in_travelling_order : Proper g → firsts (is_cut_between g a b) (visited a ps) ≡ cuts_between g a b
    cuts_in_travelling_order w = cuts_between_unique g a b w (firsts (is_cut_between g a b) (visited a ps))
        (is_in_firsts_all (is_cut_between g a b) (visited a ps) visits_every_cut)
        (distinct-firsts (is_cut_between g a b) (visited a ps))
        (visits_in_order a ps (is_cut_between g a b) a b l (λ d e n. joined_refl g (without g d) a))

-- the first mate of an edge is its mate
pub first_mate_lem : (g : Network) (s : ℕ) → mates g (first_mate g s) s ≡ true
unfolding first_mate
first_mate_lem g s = go (least_below_lem s (λ t. mates g t s))
  where
    go : {o : Option ℕ} → Least s (λ t. mates g t s) o → mates g (elim o [ some t ↦ t | none ↦ s ]) s ≡ true
    go (found t h m n) = m
    go (missing n) = mates_refl g s

module _ (g : Network) (r : MateRule g.rule) where
  -- the first mate of an edge is the least of its mates
  pub first_mate_least : (s : ℕ) → least_mate g (first_mate g s) ≡ true
  unfolding first_mate least_mate
  first_mate_least s = go (least_below_lem s (λ t. mates g t s))
    where
      go : {o : Option ℕ} → Least s (λ t. mates g t s) o
          → let k : ℕ = elim o [ some t ↦ t | none ↦ s ] in not (any_below k (λ t. mates g t k)) ≡ true
      go (found k h m n) =
          not_of_false (any_none k _ (λ t i. false_of_not (mates g t k) (λ e. not_both (mates_trans g r t k s e m) (n t i))))
      go (missing n) = not_of_false (any_none s _ n)

  -- an edge whose first mate is not t is no mate of t
  pub other_first_mate : (t s : ℕ) → least_mate g t ≡ true → t ≢ first_mate g s → mates g t s ≡ false
  other_first_mate t s e d = false_of_not (mates g t s) (λ m. not_both
      (mates_trans g r t s (first_mate g s) m (mates_sym g r (first_mate g s) s (first_mate_lem g s)))
      (least_mates_differ g r t (first_mate g s) e (first_mate_least s) d))

  -- a walk that crosses no mate of edge t is a walk without it
  pub joined_uncrossed : (t : ℕ) → least_mate g t ≡ true → (ps : List Step) (v w : ℕ) → leads g v ps w ≡ true
      → is_in t (crossed g ps) ≡ false → joined g (loss_of g t) v w ≡ true
  unfolding crossed is_in loss_of
  joined_uncrossed t e [] v w l n =
      subst (λ x. joined g (loss_of g t) v x ≡ true) (eqb_eq v w (sym (leads_none g v w) ∙ l)) (joined_refl g (loss_of g t) v)
  joined_uncrossed t e (p ∷ ps) v w l n = joined_trans g (loss_of g t) v p.to w
      (joins-joined g (loss_of g t) p.along f.known (other_first_mate t p.along e
      (eqb_ne t (first_mate g p.along) (or_neither_left (eqb t (first_mate g p.along)) (is_in t (crossed g ps)) n)))
      v p.to f.over)
      (joined_uncrossed t e ps p.to w f.later (or_neither_right (eqb t (first_mate g p.along)) (is_in t (crossed g ps)) n))
    where
      f : FirstStep g v p ps w
      f = leads_first g v p ps w l

  -- from a, a walk first crosses edges, none of them mates, in the order in which they come before one another
  crosses_in_order : (a : ℕ) (ps : List Step) (q : ℕ → Bool) (v w : ℕ) → leads g v ps w ≡ true
      → ((t : ℕ) → q t ≡ true → least_mate g t ≡ true) → ((t : ℕ) → q t ≡ true → joined g (loss_of g t) a v ≡ true)
      → ordered (bridge_before g a) (firsts q (crossed g ps)) ≡ true
  unfolding crossed bridge_before firsts ordered loss_of
  crosses_in_order a [] q v w l e h = refl
  crosses_in_order a (p ∷ ps) q v w l e h = ordered-firsts (bridge_before g a) q s (crossed g ps)
      (λ k t i d. and_both (ends t i d).0 (ends t i d).1)
      (crosses_in_order a ps (except q s) p.to w f.later (λ t k. e t (except_passes q s t k))
      (λ t k. next t (except_passes q s t k) (except_differs q s t k)))
    where
      f : FirstStep g v p ps w
      f = leads_first g v p ps w l

      s : ℕ
      s = first_mate g p.along

      next : (t : ℕ) → q t ≡ true → t ≢ s → joined g (loss_of g t) a p.to ≡ true
      next t k d = joined_trans g (loss_of g t) a v p.to (h t k)
          (joins-joined g (loss_of g t) p.along f.known (other_first_mate t p.along (e t k) d) v p.to f.over)

      Both : ℕ → ℕ → ℕ → Type 0
      Both t x y = (joined g (loss_of g t) a x ≡ true) × (joined g (loss_of g t) a y ≡ true)

      ends : (t : ℕ) → q t ≡ true → t ≢ s → Both t (edge g s).left (edge g s).right
      ends t k d = mates_carry g r (Both t) (λ x y z. (z.1, z.0)) s p.along (first_mate_lem g p.along)
          (joins_carries (Both t) (λ x y z. (z.1, z.0)) (edge g p.along) v p.to f.over (h t k, next t k d))

  module _ (a b : ℕ) (ps : List Step) (l : leads g a ps b ≡ true) where
    -- a walk from a to b crosses a mate of every bridge between them
    pub crosses_every_bridge : (s : ℕ) → is_bridge_between g a b s ≡ true → is_in s (crossed g ps) ≡ true
    crosses_every_bridge s e = ⊎_elim (λ k. k) (λ k. absurd (not_both
        (joined_uncrossed s (bridge_between_least g a b s e) ps a b l k)
        (parts-apart g (loss_of g s) a b (bridge-between-parts g a b s e)))) (true_or_false (is_in s (crossed g ps)))

    -- a walk from a to b first crosses the bridges between them in the order of their list
    pub bridges_in_travelling_order : firsts (is_bridge_between g a b) (crossed g ps) ≡ bridges_between g a b
    bridges_in_travelling_order = bridges_between_unique g a b r (firsts (is_bridge_between g a b) (crossed g ps))
        (is_in_firsts_all (is_bridge_between g a b) (crossed g ps) crosses_every_bridge)
        (distinct-firsts (is_bridge_between g a b) (crossed g ps))
        (crosses_in_order a ps (is_bridge_between g a b) a b l (bridge_between_least g a b) (λ t e. joined_refl g (loss_of g t) a))
