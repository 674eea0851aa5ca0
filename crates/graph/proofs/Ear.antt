-- Two edges of one block: a path that crosses the one joins the ends of the other.
use mathlib.Core.Bool.{Bool, true, false, ◌||◌, or-false}
use mathlib.Core.List.{List, [], ◌∷◌, ◌++◌}
use mathlib.Core.Logic.Iff
use mathlib.Core.Logic.{◌⊎◌, inl, inr, ⊎_elim, Equivalence, ◌↔◌}
use mathlib.Core.Path.{◌≡◌, refl, sym, ◌∙◌, subst}
use Prim.Native.Nat.{ℕ, ◌<◌}
use lib.Dec.{eqb}
use Rattle.graph.specs.Network.{Network, Proper, edge, edge_count, touches, without, joined}
use Rattle.graph.specs.Cycle.{Step, joins, leads, any_step, crosses}
use Rattle.graph.specs.Block.{block}
use Rattle.graph.specs.BlockPath.{fresh}
use Rattle.graph.proofs.Truth.{true_or_false, false_of_not, not_both, or_left, or_right, or_cases, or_neither, eqb_eq, eqb_same, eq-eqb, eqb_swap}
use Rattle.graph.proofs.Joined.{joined_least}
use Rattle.graph.proofs.Walks.{joins-ends, joins_swap, joins_elim, leads_first, first_leads, leads_one}
use Rattle.graph.proofs.Joins.{joins_back, joins-touches, joins-apart}
use Rattle.graph.proofs.Steps.{visits, visits_start, visits_end}
use Rattle.graph.proofs.Links.{Link, link-parts}
use Rattle.graph.proofs.Ends.{link_sym}
use Rattle.graph.proofs.Paths.{fresh_on, Cut, cut, cut_crosses, front_visits, back_visits, BackAndOn, back_and_on}
use Rattle.graph.proofs.Block.{block_least}

-- a path from x to c that crosses edge s
pub record Through (g : Network) (s x c : ℕ) : Type 0 where
  pub steps : List Step
  pub lead : leads g x steps c ≡ true
  pub all_fresh : fresh x steps ≡ true
  pub holds : crosses s steps ≡ true

-- one step is a path through its own edge
pub one_step : (g : Network) → Proper g → (t : ℕ) → t < edge_count g → (x y : ℕ) → joins (edge g t) x y ≡ true → Through g t x y
unfolding leads fresh any_step crosses
one_step g ok t h x y j =
    let p : Step = record { along = t; to = y } in
    record {
      steps = p ∷ [];
      lead = leads_one g x t y h j;
      all_fresh = fresh_on x p [] (or_neither (eqb_swap y x ∙ joins-apart g ok t h x y j) refl) refl;
      holds = or_left (eqb_same t) false;
    }

-- a path turned around
pub back_through : (g : Network) (s x c : ℕ) → Through g s x c → Through g s c x
unfolding leads fresh any_step
back_through g s x c k =
    let t = back_and_on g x k.steps [] c x k.lead k.all_fresh (eqb_same x) refl
    (λ v a b. sym (eqb_eq x v (sym (or-false (eqb x v)) ∙ b))) in
    record { steps = t.steps; lead = t.lead; all_fresh = t.all_fresh; holds = t.crossed s (inl k.holds) }

-- the ends of edge t are joined by a path that crosses edge s
abbrev pub Around : Network → ℕ → ℕ → Type 0
Around g s t = Through g s (edge g t).left (edge g t).right

-- such a path leads from either end to the other
around_ends : (g : Network) (s t x y : ℕ) → joins (edge g t) x y ≡ true → Around g s t ↔ Through g s x y
around_ends g s t =
    joins_elim (λ x y. Around g s t ↔ Through g s x y) (edge g t) (λ k. k, λ k. k)
    (back_through g s (edge g t).left (edge g t).right, back_through g s (edge g t).right (edge g t).left)

-- a path from x to c through s that stays within
record Arc (g : Network) (s x c : ℕ) (within : ℕ → Bool) : Type 0 where
  through : Through g s x c
  inside : (v : ℕ) → visits x through.steps v ≡ true → within v ≡ true

-- a path from a to c through s and an edge between them make a cycle: from any other vertex of it an arc through s leads to c
arc : (g : Network) → Proper g → (s t a c : ℕ) → t < edge_count g → joins (edge g t) a c ≡ true → (k : Through g s a c)
    → (x : ℕ) → visits a k.steps x ≡ true → eqb x c ≡ false → Arc g s x c (visits a k.steps)
unfolding one_step any_step
arc g ok s t a c h j k x e n = go (cut_crosses m s k.holds)
  where
    m : Cut g a k.steps c x
    m = cut g a k.steps c x k.lead k.all_fresh e

    o : Through g t a c
    o = one_step g ok t h a c j

    a_or_c : (v : ℕ) → visits a o.steps v ≡ true → (a ≡ v) ⊎ (c ≡ v)
    a_or_c v u =
        ⊎_elim (λ q. inl (eqb_eq a v q)) (λ q. inr (eqb_eq c v (sym (or-false (eqb c v)) ∙ q)))
        (or_cases (eqb a v) (eqb c v || false) u)

    not_c : (v : ℕ) → visits a m.front v ≡ true → c ≡ v → ⊥
    not_c v u q =
        let b : visits x m.back v ≡ true =
        subst (λ (w : ℕ). visits x m.back w ≡ true) q (visits_end g x m.back c m.onward) in
        not_both (eq-eqb x c (sym (q ∙ m.apart v u b))) n

    r : BackAndOn g a m.front o.steps x c
    r =
        back_and_on g a m.front o.steps x c m.there m.front_fresh o.lead o.all_fresh
        (λ v u w. ⊎_elim sym (λ q. absurd (not_c v u q)) (a_or_c v w))

    on_cycle : (v : ℕ) → (a ≡ v) ⊎ (c ≡ v) → visits a k.steps v ≡ true
    on_cycle v (inl i) = rw (← i) (visits_start a k.steps)
    on_cycle v (inr i) = rw (← i) (visits_end g a k.steps c k.lead)

    go : (crosses s m.front ≡ true) ⊎ (crosses s m.back ≡ true) → Arc g s x c (visits a k.steps)
    go (inr q) =
        record {
          through = record { steps = m.back; lead = m.onward; all_fresh = m.back_fresh; holds = q };
          inside = back_visits m;
        }
    go (inl q) =
        record {
          through = record { steps = r.steps; lead = r.lead; all_fresh = r.all_fresh; holds = r.crossed s (inl q) };
          inside = λ v u. ⊎_elim (front_visits m v) (λ w. on_cycle v (a_or_c v w)) (r.visited v u);
        }

-- from each of its vertices that is not within, the walk has yet to cross edge s
abbrev Ahead : (ℕ → Bool) → ℕ → ℕ → List Step → Type 0
Ahead within s x [] = (within x ≡ true) ⊎ (crosses s [] ≡ true)
Ahead within s x (p ∷ ps) = ((within x ≡ true) ⊎ (crosses s (p ∷ ps) ≡ true)) × Ahead within s p.to ps

ahead_inside : (within : ℕ → Bool) (s x : ℕ) (ps : List Step) → ((v : ℕ) → visits x ps v ≡ true → within v ≡ true)
    → Ahead within s x ps
unfolding any_step
ahead_inside within s x [] w = inl (w x (visits_start x []))
ahead_inside within s x (p ∷ ps) w =
    (inl (w x (visits_start x (p ∷ ps))), ahead_inside within s p.to ps (λ v e. w v (or_right (eqb x v) e)))

ahead_back : (g : Network) (within : ℕ → Bool) (s x z : ℕ) (front back : List Step) → leads g x front z ≡ true
    → Ahead within s x (front ++ back) → Ahead within s z back
unfolding leads
ahead_back g within s x z [] back l a = rw (eqb_eq x z l) at a
ahead_back g within s x z (p ∷ ps) back l a = ahead_back g within s p.to z ps back (leads_first g x p ps z l).later a.1

ahead_now : (within : ℕ → Bool) (s z : ℕ) (ps : List Step) → Ahead within s z ps → within z ≡ false → crosses s ps ≡ true
ahead_now within s z [] a n = ⊎_elim (λ e. absurd (not_both e n)) (λ e. e) a
ahead_now within s z (p ∷ ps) a n = ⊎_elim (λ e. absurd (not_both e n)) (λ e. e) a.0

-- a path from y to c through s: outside the cycle first, then on an arc of it
record Ear (g : Network) (s c : ℕ) (within : ℕ → Bool) (y : ℕ) : Type 0 where
  through : Through g s y c
  ahead : Ahead within s y through.steps

module _ (g : Network) (s c : ℕ) (within : ℕ → Bool)
    (arcs : (x : ℕ) → within x ≡ true → eqb x c ≡ false → Arc g s x c within) where
  ear_inside : (x : ℕ) → within x ≡ true → eqb x c ≡ false → Ear g s c within x
  ear_inside x e n =
      let r = arcs x e n in
      record { through = r.through; ahead = ahead_inside within s x r.through.steps r.inside }

  ear_cut : (y z : ℕ) → within z ≡ false → (k : Ear g s c within y) → visits y k.through.steps z ≡ true → Ear g s c within z
  ear_cut y z n k e =
      let t = k.through in
      let m = cut g y t.steps c z t.lead t.all_fresh e in
      let a : Ahead within s z m.back = ahead_back g within s y z m.front m.back m.there (rw m.whole k.ahead) in
      record {
        through = record { steps = m.back; lead = m.onward; all_fresh = m.back_fresh; holds = ahead_now within s z m.back a n };
        ahead = a;
      }

  ear_longer : (e y z : ℕ) → e < edge_count g → joins (edge g e) z y ≡ true → (k : Ear g s c within y)
      → visits y k.through.steps z ≡ false → Ear g s c within z
  unfolding any_step crosses
  ear_longer e y z h j k n =
      let t = k.through in
      let p : Step = record { along = e; to = y } in
      let o = or_right (eqb e s) t.holds in
      record {
        through = record {
          steps = p ∷ t.steps;
          lead = first_leads g z p t.steps c (record { known = h; over = j; later = t.lead });
          all_fresh = fresh_on z p t.steps n t.all_fresh;
          holds = o;
        };
        ahead = (inr o, k.ahead);
      }

  ear_step : (e y z : ℕ) → e < edge_count g → without g c e ≡ false → joins (edge g e) z y ≡ true
      → Ear g s c within y → Ear g s c within z
  unfolding without
  ear_step e y z h n j k = ⊎_elim (λ i. ear_inside z i z_not_c) outside (true_or_false (within z))
    where
      z_not_c : eqb z c ≡ false
      z_not_c =
          false_of_not (eqb z c)
          (λ q. not_both (subst (λ (w : ℕ). touches (edge g e) w ≡ true) (eqb_eq z c q) (joins-touches (edge g e) z y j)) n)

      outside : within z ≡ false → Ear g s c within z
      outside o = ⊎_elim (ear_cut y z o k) (ear_longer e y z h j k) (true_or_false (visits y k.through.steps z))

-- that P holds of both or of neither is an equivalence
alike : (P : ℕ → Type 0) → Equivalence (λ x y. P x ↔ P y)
alike P = record { refl = λ x. Iff.rfl; symm = λ x y. Iff.symm; trans = λ x y z. Iff.trans }

-- edges t and u meet at c, and their other ends a and b are joined without c: a path from a to c through s gives one from b
through_link : (g : Network) → Proper g → (s t a b c : ℕ) → t < edge_count g → joins (edge g t) a c ≡ true
    → joined g (without g c) a b ≡ true → Through g s a c → Through g s b c
through_link g ok s t a b c h j e k =
    ((joined_least (λ y z. Ear g s c within y ↔ Ear g s c within z) (alike (Ear g s c within)) g (without g c)
    (λ d i n. (
      step d i n (edge g d).left (edge g d).right (joins_back (edge g d)),
      step d i n (edge g d).right (edge g d).left (joins-ends (edge g d)),
    ))
    a b e).0 (ear_inside g s c within arcs a (visits_start a k.steps) (joins-apart g ok t h a c j))).through
  where
    within : ℕ → Bool
    within = visits a k.steps

    arcs : (x : ℕ) → within x ≡ true → eqb x c ≡ false → Arc g s x c within
    arcs = arc g ok s t a c h j k

    step : (d : ℕ) → d < edge_count g → without g c d ≡ false → (y z : ℕ) → joins (edge g d) z y ≡ true
        → Ear g s c within y → Ear g s c within z
    step d i n y z q = ear_step g s c within arcs d y z i n q

-- what holds so of one edge holds of every edge that is linked with it
around_link : (g : Network) → Proper g → (s t u : ℕ) → t < edge_count g → Link g t u → Around g s t → Around g s u
around_link g ok s t u h k r =
    let i = joins_swap (edge g t) k.first k.meeting ∙ k.first_ends in
    let j = joins_swap (edge g u) k.second k.meeting ∙ k.second_ends in
    (around_ends g s u k.second k.meeting j).1
    (through_link g ok s t k.first k.second k.meeting h i k.around ((around_ends g s t k.first k.meeting i).0 r))

-- two edges of one block: the ends of the second are joined by a path that crosses the first
pub block_around : (g : Network) → Proper g → (s t : ℕ) → s < edge_count g → block g s t ≡ true → Around g s t
block_around g ok s t h e =
    (block_least (λ t u. Around g s t ↔ Around g s u) (alike (Around g s)) g
    (λ t u i j l. (around_link g ok s t u i (link-parts g t u l), around_link g ok s u t j (link-parts g u t (link_sym g t u l))))
    s t e).0 (one_step g ok s h (edge g s).left (edge g s).right (joins-ends (edge g s)))
