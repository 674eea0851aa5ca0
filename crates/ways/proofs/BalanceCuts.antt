-- What balance says of the ways from a to b: while some way is carried the used edges lead on to b; where no step of one way more leaves
-- a set, the loss of as many edges as ways are carried parts a and b; and the loss of fewer does not.
use mathlib.Core.Bool.{Bool, true, false, not, cond, ◌&&◌, false≢true}
use mathlib.Core.List.{List, [], ◌∷◌}
use mathlib.Core.Logic.{◌⊎◌, inl, inr, ⊎_elim, Equivalence}
use mathlib.Core.Path.{◌≡◌, refl, sym, ◌∙◌, ap, subst}
use Prim.Native.Nat.{ℕ, suc, ◌≤◌, ◌<◌}
use native.Mathlib.Omega.{arith}
use lib.Dec.{eqb, ltb}
use lib.ListN.{length}
use Rattle.graph.specs.Below.{any_below, count, listed}
use Rattle.graph.specs.Lists.{is_in}
use Rattle.graph.specs.Network.{Network, Loss, MateRule, edge, edge_count, touches, other_end, mates, nothing, joined}
use Rattle.graph.specs.Cycle.{joins}
use Rattle.graph.proofs.Truth.{true_or_false, false_of_not, not_both, bool_ext, not_of_false, false_of_not_true, true_of_not_false}
use Rattle.graph.proofs.Truth.{and_left, and_right, and_both, or_cases, or_right, or_neither_left, eqb_eq, eqb_ne, eq-eqb, lt-ltb}
use Rattle.graph.proofs.Below.{Below, any_below_lem, some_below, count_same, count_none}
use Rattle.graph.proofs.Members.{is_in_cases, is_in-listed}
use Rattle.graph.proofs.Places.{length-listed-count}
use Rattle.graph.proofs.Joined.{joined_refl, joined_trans, joined_least}
use Rattle.graph.proofs.Mates.{mates_sym, mates_trans}
use Rattle.graph.proofs.Ends.{touches_left, touches_right, other_end-touches}
use Rattle.graph.proofs.Walks.{joins-joined, joins-ends, joins_swap}
use Rattle.graph.proofs.Joins.{joins_back, joins-touches, joins_other, touches-joins, touches_no_third, other_end_back}
use Rattle.graph.proofs.MateEdges.{mates-joins}
use Rattle.ways.specs.Used.{Used, is_used, mate_used, one_more, Usable}
use Rattle.ways.specs.Balance.{Set, used_from, used_to, leaves, enters, leaving, entering, Balanced, loss_of_all}
use Rattle.ways.proofs.Balance.{count_change, used_from_is}

-- three tests that all hold
all_three : (a b c : Bool) → (a && b && c) ≡ true → (a ≡ true) × (b ≡ true) × (c ≡ true)
all_three a b c e = (and_left a b (and_left (a && b) c e), and_right a b (and_left (a && b) c e), and_right (a && b) c e)

-- a used edge has the vertex behind it from which it is used
pub used_suc : (u : Used) (s : ℕ) → is_used u s ≡ true → u s ≡ suc (used_from u s)
unfolding used_from is_used
used_suc u s e = let d = eqb_ne (u s) 0 (false_of_not_true (eqb (u s) 0) e) in omega arith

-- a used edge joins the vertex from which it is used and the one to which
pub used_joins : (g : Network) (u : Used) (s : ℕ) → Usable g u → is_used u s ≡ true
    → joins (edge g s) (used_from u s) (used_to g u s) ≡ true
unfolding used_to
used_joins g u s w e = touches-joins (edge g s) (used_from u s) (⊎_elim
    (λ q. subst (λ v. touches (edge g s) v ≡ true) (sym (used_from_is u s (edge g s).left q)) (touches_left (edge g s)))
    (λ q. subst (λ v. touches (edge g s) v ≡ true) (sym (used_from_is u s (edge g s).right q)) (touches_right (edge g s)))
    (w.from_an_end s e))

-- an edge that leaves a set is used, from a vertex of the set to one outside
leaving-facts : (g : Network) (u : Used) (set : Set) (s : ℕ) → leaves g u set s ≡ true
    → (is_used u s ≡ true) × (set (used_from u s) ≡ true) × (set (used_to g u s) ≡ false)
unfolding leaves
leaving-facts g u set s e =
    let l = all_three (is_used u s) (set (used_from u s)) (not (set (used_to g u s))) e in
    (l.0, l.1, false_of_not_true (set (used_to g u s)) l.2)

module _ (g : Network) (u : Used) (a b : ℕ) where
  -- while a way is carried, a set that holds a and that no used edge leaves holds b
  pub used_leads_on : (k : ℕ) → Balanced g u a b (suc k) → (set : Set) → set a ≡ true
      → ((s : ℕ) → is_used u s ≡ true → set (used_from u s) ≡ true → set (used_to g u s) ≡ true)
      → set b ≡ true
  unfolding leaving
  used_leads_on k bal set p shut = ⊎_elim (λ q. q) (λ q. absurd (omega (arith, bal set p q, none))) (true_or_false (set b))
    where
      none : leaving g u set ≡ 0
      none = count_none (edge_count g) (leaves g u set) (λ s h. false_of_not (leaves g u set s) (λ e.
          let l = leaving-facts g u set s e in not_both (shut s l.0 l.1) l.2))

-- an edge is lost with any edge of a list that it is a mate of
lost_with : (g : Network) (ss : List ℕ) (s t : ℕ) → is_in s ss ≡ true → mates g s t ≡ true → loss_of_all g ss t ≡ true
unfolding loss_of_all is_in
lost_with g [] s t i m = absurd (false≢true i)
lost_with g (r ∷ ss) s t i m = go (mates g r t) refl (is_in_cases s r ss i) (lost_with g ss s t)
  where
    go : (c : Bool) → mates g r t ≡ c → (s ≡ r) ⊎ (is_in s ss ≡ true) → (is_in s ss ≡ true → mates g s t ≡ true → loss_of_all g ss t ≡ true)
        → cond c true (loss_of_all g ss t) ≡ true
    go true e k f = refl
    go false e (inl q) f = absurd (not_both (rw q at m) e)
    go false e (inr k) f = f k m

-- as many used edges as ways are carried, whose loss parts a and b
pub record UsedCut (g : Network) (u : Used) (a b k : ℕ) : Type 0 where
  pub edges : List ℕ
  pub many : length edges ≡ k
  pub used : (s : ℕ) → is_in s edges ≡ true → is_used u s ≡ true
  pub parted : joined g (loss_of_all g edges) a b ≡ false

module _ (g : Network) (rule : MateRule g.rule) (u : Used) (w : Usable g u) (set : Set)
    (shut : (x s : ℕ) → set x ≡ true → s < edge_count g → touches (edge g s) x ≡ true → one_more g u s x ≡ true
    → set (other_end (edge g s) x) ≡ true) where
  -- no used edge enters a set that no step of one way more leaves: the step back along it would leave
  none_enters : (s : ℕ) → enters g u set s ≡ false
  unfolding enters one_more used_to
  none_enters s = false_of_not (enters g u set s) (λ e.
      let l = all_three (is_used u s) (not (set (used_from u s))) (set (used_to g u s)) e in
      let back = other_end_back (edge g s) (used_from u s) (joins-touches (edge g s) _ _ (used_joins g u s w l.0)) in
      not_both
      (rw back at (shut (used_to g u s) s l.2 (w.known s l.0) (other_end-touches (edge g s) (used_from u s))
      (or_right (not (mate_used g u s)) (rw back (eq-eqb (u s) (suc (used_from u s)) (used_suc u s l.0))))))
      (false_of_not_true (set (used_from u s)) l.1))

  -- a used edge between a vertex of the set and one outside leaves it
  used_crossing : (s x y : ℕ) → is_used u s ≡ true → joins (edge g s) x y ≡ true → set x ≡ true → set y ≡ false → leaves g u set s ≡ true
  unfolding leaves enters used_to
  used_crossing s x y e j p q = ⊎_elim
      (λ i. forwards (eqb_eq x (used_from u s) i))
      (λ i. absurd (not_both (backwards (eqb_eq y (used_from u s) i)) (none_enters s)))
      (or_cases (eqb x (used_from u s)) (eqb y (used_from u s))
      (touches_no_third (edge g s) (used_from u s) x y j (joins-touches (edge g s) _ _ (used_joins g u s w e))))
    where
      forwards : x ≡ used_from u s → leaves g u set s ≡ true
      forwards i = and_both (and_both e (rw i at p))
          (not_of_false (ap (λ v. set (other_end (edge g s) v)) (sym i) ∙ ap set (joins_other (edge g s) x y j) ∙ q))

      backwards : y ≡ used_from u s → enters g u set s ≡ true
      backwards i = and_both (and_both e (not_of_false (rw i at q)))
          (rw (← i, joins_other (edge g s) y x (joins_swap (edge g s) y x ∙ j)) p)

  -- an edge that leads out of the set is a mate of a used one that leaves it
  crossing : (t x y : ℕ) → t < edge_count g → joins (edge g t) x y ≡ true → set x ≡ true → set y ≡ false
      → (s : ℕ) × (leaves g u set s ≡ true) × (mates g s t ≡ true)
  unfolding one_more mate_used
  crossing t x y h j p q =
      let m = some_below (edge_count g) (λ r. mates g t r && is_used u r) mate_used_lem in
      let is_mate = and_left (mates g t m.at) (is_used u m.at) m.passes in (
        m.at,
        used_crossing m.at x y (and_right (mates g t m.at) (is_used u m.at) m.passes)
            (mates-joins g rule t m.at is_mate x y j) p q,
        mates_sym g rule t m.at is_mate,
      )
    where
      stays : one_more g u t x ≡ false
      stays = false_of_not (one_more g u t x) (λ e.
          not_both (shut x t p h (joins-touches (edge g t) x y j) e) (rw (joins_other (edge g t) x y j) q))

      mate_used_lem : mate_used g u t ≡ true
      mate_used_lem = true_of_not_false (mate_used g u t)
          (or_neither_left (not (mate_used g u t)) (eqb (u t) (suc (other_end (edge g t) x))) stays)

  -- what leaves the set is listed
  leaving-listed : (s : ℕ) → leaves g u set s ≡ true → is_in s (listed (edge_count g) (leaves g u set)) ≡ true
  leaving-listed s e = is_in-listed (edge_count g) (leaves g u set) s
      ∙ and_both (lt-ltb s (edge_count g) (w.known s (leaving-facts g u set s e).0)) e

  -- so the loss of those that leave it parts what it holds from what it does not
  leaving-parts : (a b : ℕ) → set a ≡ true → set b ≡ false
      → joined g (loss_of_all g (listed (edge_count g) (leaves g u set))) a b ≡ false
  leaving-parts a b p q = false_of_not (joined g lost a b) (λ e.
      not_both (sym (joined_least (λ x y. set x ≡ set y) same_set g lost each a b e) ∙ p) q)
    where
      lost : Loss
      lost = loss_of_all g (listed (edge_count g) (leaves g u set))

      same_set : Equivalence (λ x y. set x ≡ set y)
      same_set = record { refl = λ x. refl; symm = λ x y e. sym e; trans = λ x y z e f. e ∙ f }

      none_crosses : (t x y : ℕ) → t < edge_count g → lost t ≡ false → joins (edge g t) x y ≡ true → set x ≡ true → set y ≡ true
      none_crosses t x y h k j i = ⊎_elim (λ e. e) (λ e.
          let c = crossing t x y h j i e in
          absurd (not_both
          (lost_with g (listed (edge_count g) (leaves g u set)) c.0 t (leaving-listed c.0 c.1) c.2) k)) (true_or_false (set y))

      each : (t : ℕ) → t < edge_count g → lost t ≡ false → set (edge g t).left ≡ set (edge g t).right
      each t h k = bool_ext (set (edge g t).left) (set (edge g t).right)
          (none_crosses t (edge g t).left (edge g t).right h k (joins-ends (edge g t)))
          (none_crosses t (edge g t).right (edge g t).left h k (joins_back (edge g t)))

  -- and they are as many as the ways that are carried
  pub no_way_more_parts : (a b k : ℕ) → Balanced g u a b k → set a ≡ true → set b ≡ false → UsedCut g u a b k
  unfolding leaving entering
  no_way_more_parts a b k bal p q = record {
    edges = listed (edge_count g) (leaves g u set);
    many = length-listed-count (edge_count g) (leaves g u set)
        ∙ omega (arith, bal set p q, count_none (edge_count g) (enters g u set) (λ s h. none_enters s));
    used = λ s i. (leaving-facts g u set s
        (and_right (ltb s (edge_count g)) (leaves g u set s) (sym (is_in-listed (edge_count g) (leaves g u set) s) ∙ i))).0;
    parted = leaving-parts a b p q;
  }

-- edges no two of which are mates
abbrev Alone : Network → (ℕ → Bool) → Type 0
Alone g p = (t v : ℕ) → p t ≡ true → p v ≡ true → mates g t v ≡ true → t ≡ v

module _ (g : Network) (rule : MateRule g.rule) (n : ℕ) where
  -- of such edges at most one is a mate of edge s
  but_one : (s : ℕ) (p : ℕ → Bool) → Alone g p → count n p ≤ suc (count n (λ t. p t && not (mates g s t)))
  but_one s p alone = go (true_or_false (any_below n (λ t. p t && mates g s t)))
    where
      q : ℕ → Bool
      q t = p t && not (mates g s t)

      same : (t : ℕ) → ((p t && mates g s t) ≡ true → ⊥) → p t ≡ q t
      same t none = bool_ext (p t) (q t) (λ e. and_both e (not_of_false (false_of_not (mates g s t) (λ m. none (and_both e m)))))
          (and_left (p t) (not (mates g s t)))

      no_other : (m : Below n (λ t. p t && mates g s t)) (t : ℕ) → eqb t m.at ≡ false → (p t && mates g s t) ≡ true → ⊥
      no_other m t d e = eqb_ne t m.at d (alone t m.at (and_left (p t) (mates g s t) e)
          (and_left (p m.at) (mates g s m.at) m.passes)
          (mates_trans g rule t s m.at (mates_sym g rule s t (and_right (p t) (mates g s t) e))
          (and_right (p m.at) (mates g s m.at) m.passes)))

      go : (any_below n (λ t. p t && mates g s t) ≡ true) ⊎ (any_below n (λ t. p t && mates g s t) ≡ false) → count n p ≤ suc (count n q)
      go (inl e) =
          let m = some_below n (λ t. p t && mates g s t) e in
          let changed = count_change n p q m.at m.below (λ t d. same t (no_other m t d)) in
          omega (arith, rw (and_left (p m.at) (mates g s m.at) m.passes) at changed)
      go (inr e) = omega (arith, count_same n p q (λ t h. same t (λ k. not_both (any_below_lem n (λ t. p t && mates g s t) t h k) e)))

  -- so no more of them are lost with the edges of a list than it has
  few_lost : (ss : List ℕ) (p : ℕ → Bool) → Alone g p → ((t : ℕ) → p t ≡ true → loss_of_all g ss t ≡ true) → count n p ≤ length ss
  unfolding loss_of_all nothing
  few_lost [] p alone lost = omega (arith, count_none n p (λ t h. false_of_not (p t) (λ e. false≢true (lost t e))))
  few_lost (s ∷ ss) p alone lost = omega (
    arith,
    but_one s p alone,
    few_lost ss (λ t. p t && not (mates g s t))
        (λ t v e f. alone t v (and_left (p t) (not (mates g s t)) e) (and_left (p v) (not (mates g s v)) f))
        (λ t e. rw (false_of_not_true (mates g s t) (and_right (p t) (not (mates g s t)) e)) at
        (lost t (and_left (p t) (not (mates g s t)) e))),
  )

-- while more ways are carried than a list has edges, their loss does not part a and b
pub more_ways_than_losses : (g : Network) → MateRule g.rule → (u : Used) → Usable g u → (a b k : ℕ) → Balanced g u a b (suc k)
    → (ss : List ℕ) → length ss ≤ k → joined g (loss_of_all g ss) a b ≡ true
unfolding leaving
more_ways_than_losses g rule u w a b k bal ss h = ⊎_elim (λ e. e)
    (λ e. absurd (omega (arith, bal set (joined_refl g lost a) e, few_lost g rule (edge_count g) ss (leaves g u set) alone lost_leaving)))
    (true_or_false (joined g lost a b))
  where
    lost : Loss
    lost = loss_of_all g ss

    set : Set
    set = joined g lost a

    alone : Alone g (leaves g u set)
    alone t v e f = w.no_mates t v (leaving-facts g u set t e).0 (leaving-facts g u set v f).0

    lost_leaving : (t : ℕ) → leaves g u set t ≡ true → lost t ≡ true
    lost_leaving t e =
        let l = leaving-facts g u set t e in
        ⊎_elim (λ k. k) (λ k. absurd (not_both (joined_trans g lost a (used_from u t) (used_to g u t) l.1
        (joins-joined g lost t (w.known t l.0) k (used_from u t) (used_to g u t) (used_joins g u t w l.0))) l.2))
        (true_or_false (lost t))
