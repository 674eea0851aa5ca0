-- Laws of edges in use when steps are taken: what is used stays usable, and the steps of a way without a repeated vertex fit, each when
-- its turn comes.
use mathlib.Core.Bool.{true, false, not, ◌&&◌, false≢true}
use mathlib.Core.List.{List, [], ◌∷◌}
use mathlib.Core.Logic.{◌⊎◌, inl, inr, ⊎_elim}
use mathlib.Core.Path.{◌≡◌, refl, sym, ◌∙◌, ap, subst}
use Prim.Native.Nat.{ℕ, suc, ◌<◌}
use native.Mathlib.Omega.{arith}
use lib.Dec.{eqb}
use Rattle.graph.specs.Lists.{distinct}
use Rattle.graph.specs.Network.{Network, MateRule, edge, edge_count, touches, other_end, mates}
use Rattle.graph.specs.Cycle.{Step, leads, any_step}
use Rattle.graph.specs.Travel.{visited}
use Rattle.graph.proofs.Truth.{true_or_false, false_of_not, not_both, not_of_false, false_of_not_true, true_of_not_false, and_left}
use Rattle.graph.proofs.Truth.{and_right, and_both, or_cases, or_left, or_right, or_neither_left, or_neither_right}
use Rattle.graph.proofs.Truth.{eqb_eq, eqb_same, ne_eqb}
use Rattle.graph.proofs.Below.{any_below_lem, some_below}
use Rattle.graph.proofs.Members.{distinct_head, distinct_tail}
use Rattle.graph.proofs.Mates.{mates_sym}
use Rattle.graph.proofs.Ends.{touches-ends}
use Rattle.graph.proofs.Walks.{FirstStep, leads_first}
use Rattle.graph.proofs.Joins.{joins-touches, joins_other, touches-joins}
use Rattle.graph.proofs.Routes.{unvisited_untouched}
use Rattle.graph.proofs.MateEdges.{mates-joins}
use Rattle.ways.specs.Search.{Allowed, all_allowed}
use Rattle.ways.specs.Used.{Used, unused, is_used, mate_used, one_more, along_used, step_taken, way_taken, Usable, StepFits, WayFits}
use Rattle.ways.specs.Used.{ends, goes_further}

-- an edge with a vertex behind it is used
pub used_from_lem : (u : Used) (s x : ℕ) → u s ≡ suc x → is_used u s ≡ true
unfolding is_used
used_from_lem u s x e = rw e (not_of_false (ne_eqb (suc x) 0 (λ q. omega arith)))

-- an edge that is not used has none
pub not_used : (u : Used) (s : ℕ) → is_used u s ≡ false → u s ≡ 0
unfolding is_used
not_used u s e = eqb_eq (u s) 0 (true_of_not_false (eqb (u s) 0) e)

-- a step changes nothing at another edge
pub taken_off : (u : Used) (x s t : ℕ) → eqb t s ≡ false → step_taken u x s t ≡ u t
unfolding step_taken
taken_off u x s t d = rw d

-- an edge that was not used is used from where the step begins
pub taken_new : (u : Used) (x s : ℕ) → u s ≡ 0 → step_taken u x s s ≡ suc x
unfolding step_taken
taken_new u x s e = rw (eqb_same s, e)

-- and one that was used is so no longer
pub taken_again : (u : Used) (x s : ℕ) → is_used u s ≡ true → step_taken u x s s ≡ 0
unfolding step_taken is_used
taken_again u x s e = rw (eqb_same s, false_of_not_true (eqb (u s) 0) e)

-- an edge that is used once a step is taken: the step's own, which was not, or another, which was
pub data UsedThen (u : Used) (x s t : ℕ) : Type 0 where
  newly : t ≡ s → is_used u s ≡ false → step_taken u x s t ≡ suc x → UsedThen u x s t
  before : is_used u t ≡ true → step_taken u x s t ≡ u t → UsedThen u x s t

pub used_then : (u : Used) (x s t : ℕ) → is_used (step_taken u x s) t ≡ true → UsedThen u x s t
unfolding is_used
used_then u x s t e = go (true_or_false (eqb t s)) (true_or_false (is_used u s))
  where
    go : (eqb t s ≡ true) ⊎ (eqb t s ≡ false) → (is_used u s ≡ true) ⊎ (is_used u s ≡ false) → UsedThen u x s t
    go (inr d) k = let same = taken_off u x s t d in before (rw same at e) same
    go (inl q) (inl k) =
        absurd (not_both e (ap (λ v. not (eqb v 0)) (ap (step_taken u x s) (eqb_eq t s q) ∙ taken_again u x s k)))
    go (inl q) (inr k) =
        let i = eqb_eq t s q in newly i k (ap (step_taken u x s) i ∙ taken_new u x s (not_used u s k))

-- no used edge is a mate of an edge of which no mate is used
pub free_of_mates : (g : Network) (u : Used) (s t : ℕ) → mate_used g u s ≡ false → t < edge_count g
    → is_used u t ≡ true → mates g s t ≡ true → ⊥
unfolding mate_used
free_of_mates g u s t f h e m = not_both (any_below_lem (edge_count g) (λ t. mates g s t && is_used u t) t h (and_both m e)) f

module _ (g : Network) (rule : MateRule g.rule) where
  -- a step that fits keeps what is used usable
  pub step_usable : (u : Used) (x s : ℕ) → Usable g u → StepFits g u x s → Usable g (step_taken u x s)
  step_usable u x s w f = record { known = known_then; from_an_end = end_then; no_mates = no_mates_then }
    where
      known_then : (t : ℕ) → is_used (step_taken u x s) t ≡ true → t < edge_count g
      known_then t e = go (used_then u x s t e)
        where
          go : UsedThen u x s t → t < edge_count g
          go (newly q k v) = rw q f.known
          go (before k v) = w.known t k

      end_then : (t : ℕ) → is_used (step_taken u x s) t ≡ true
          → (step_taken u x s t ≡ suc (edge g t).left) ⊎ (step_taken u x s t ≡ suc (edge g t).right)
      end_then t e = go (used_then u x s t e)
        where
          go : UsedThen u x s t → (step_taken u x s t ≡ suc (edge g t).left) ⊎ (step_taken u x s t ≡ suc (edge g t).right)
          go (newly q k v) = rw (v, q)
              (⊎_elim (λ i. inl (ap suc (sym i))) (λ i. inr (ap suc (sym i))) (touches-ends (edge g s) x f.at_end))
          go (before k v) = rw v (w.from_an_end t k)

      free : is_used u s ≡ false → mate_used g u s ≡ false
      free k = ⊎_elim (λ i. absurd (not_both i k)) (λ i. i) f.used_or_free

      no_mates_then : (t v : ℕ) → is_used (step_taken u x s) t ≡ true → is_used (step_taken u x s) v ≡ true → mates g t v ≡ true → t ≡ v
      no_mates_then t v e i m = go (used_then u x s t e) (used_then u x s v i)
        where
          go : UsedThen u x s t → UsedThen u x s v → t ≡ v
          go (newly q k _) (newly r _ _) = q ∙ sym r
          go (newly q k _) (before l _) = absurd (free_of_mates g u s v (free k) (w.known v l) l (rw q at m))
          go (before l _) (newly r k _) = absurd (free_of_mates g u s t (free k) (w.known t l) l (mates_sym g rule t s (rw r at m)))
          go (before k _) (before l _) = w.no_mates t v k l m

  -- a way that fits does too
  pub way_usable : {u : Used} {x : ℕ} {ps : List Step} → Usable g u → WayFits g u x ps → Usable g (way_taken u x ps)
  unfolding way_taken
  way_usable w ends = w
  way_usable {u} {x} w (goes_further {p = p} f q later) = way_usable (step_usable u x p.along w f) later

-- a way from x to y, each step of which fits and passes a test when those before it are taken
pub data Goes (g : Network) (allowed : Used → Allowed) : Used → ℕ → List Step → ℕ → Type 0 where
  arrives : {u : Used} {x : ℕ} → Goes g allowed u x [] x
  steps : {u : Used} {x y : ℕ} {p : Step} {ps : List Step} → StepFits g u x p.along → allowed u p.along x ≡ true
      → p.to ≡ other_end (edge g p.along) x → Goes g allowed (step_taken u x p.along) p.to ps y
      → Goes g allowed u x (p ∷ ps) y

-- such a way fits
pub goes_fits : {g : Network} {allowed : Used → Allowed} {u : Used} {x y : ℕ} {ps : List Step}
    → Goes g allowed u x ps y → WayFits g u x ps
goes_fits arrives = ends
goes_fits (steps f a q later) = goes_further f q (goes_fits later)

-- whatever relation goes on, and holds of every single step, holds of the whole way
pub goes_least : {g : Network} {allowed : Used → Allowed} (M : Used → Used → ℕ → ℕ → Type 0)
    → ((u : Used) (x : ℕ) → M u u x x)
    → ((u v w : Used) (x y z : ℕ) → M u v x y → M v w y z → M u w x z)
    → ((u : Used) (x s : ℕ) → StepFits g u x s → allowed u s x ≡ true → M u (step_taken u x s) x (other_end (edge g s) x))
    → {u : Used} {x y : ℕ} {ps : List Step} → Goes g allowed u x ps y → M u (way_taken u x ps) x y
unfolding way_taken
goes_least M same on one {u} {x} arrives = same u x
goes_least M same on one {u} {x} {y} (steps {p = p} {ps = ps} f a q later) =
    let next = step_taken u x p.along in
    on u next (way_taken next p.to ps) x p.to y (rw q (one u x p.along f a)) (goes_least M same on one later)

-- a test of steps that lets only steps pass that fit, and that steps away from a vertex go on passing when a step from there is taken
pub record Lasting (g : Network) (allowed : Used → Allowed) : Type 0 where
  pub fits : (u : Used) (s x : ℕ) → allowed u s x ≡ true → (is_used u s ≡ true) ⊎ (mate_used g u s ≡ false)
  pub lasts : (u : Used) (x s t v : ℕ) → touches (edge g s) x ≡ true → touches (edge g t) x ≡ false
      → allowed u t v ≡ true → allowed (step_taken u x s) t v ≡ true

-- the steps of a walk away from x pass a second test, if whatever step away from x passes the first passes the second
allowed_away : (g : Network) (first second : Allowed) (x : ℕ)
    → ((t v : ℕ) → touches (edge g t) x ≡ false → first t v ≡ true → second t v ≡ true)
    → (ps : List Step) (y : ℕ) → any_step (λ q. touches (edge g q.along) x) ps ≡ false
    → all_allowed first y ps ≡ true → all_allowed second y ps ≡ true
unfolding all_allowed any_step
allowed_away g first second x w [] y n a = refl
allowed_away g first second x w (p ∷ ps) y n a = and_both
    (w p.along y (or_neither_left (touches (edge g p.along) x) _ n)
    (and_left (first p.along y) (all_allowed first p.to ps) a))
    (allowed_away g first second x w ps p.to (or_neither_right (touches (edge g p.along) x) _ n)
    (and_right (first p.along y) (all_allowed first p.to ps) a))

-- a walk whose steps all pass a lasting test at the outset, and that comes by no vertex twice, goes so step by step
pub lasting_goes : {g : Network} {allowed : Used → Allowed} → Lasting g allowed → (ps : List Step) (u : Used) (x y : ℕ)
    → leads g x ps y ≡ true → all_allowed (allowed u) x ps ≡ true → distinct (visited x ps) ≡ true → Goes g allowed u x ps y
unfolding leads all_allowed visited
lasting_goes {g} {allowed} w [] u x y l a d = subst (λ z. Goes g allowed u x [] z) (eqb_eq x y l) arrives
lasting_goes {g} {allowed} w (p ∷ ps) u x y l a d = steps
    (record { known = f.known; at_end = at_end; used_or_free = w.fits u p.along x now })
    now
    (sym (joins_other (edge g p.along) x p.to f.over))
    (lasting_goes w ps (step_taken u x p.along) p.to y f.later
    (allowed_away g (allowed u) (allowed (step_taken u x p.along)) x (λ t v. w.lasts u x p.along t v at_end) ps p.to
    (unvisited_untouched g x ps p.to y f.later (distinct_head x (visited p.to ps) d))
    (and_right (allowed u p.along x) (all_allowed (allowed u) p.to ps) a))
    (distinct_tail x (visited p.to ps) d))
  where
    f : FirstStep g x p ps y
    f = leads_first g x p ps y l

    at_end : touches (edge g p.along) x ≡ true
    at_end = joins-touches (edge g p.along) x p.to f.over

    now : allowed u p.along x ≡ true
    now = and_left (allowed u p.along x) (all_allowed (allowed u) p.to ps) a

-- mates touch the same vertices
pub mates_touch : (g : Network) → MateRule g.rule → (s t x : ℕ) → mates g s t ≡ true
    → touches (edge g s) x ≡ true → touches (edge g t) x ≡ true
mates_touch g rule s t x m h = joins-touches (edge g t) x (other_end (edge g s) x)
    (mates-joins g rule s t m x (other_end (edge g s) x) (touches-joins (edge g s) x h))

-- an edge that does not touch x is another than one that does
touched_other : (g : Network) (x s t : ℕ) → touches (edge g s) x ≡ true → touches (edge g t) x ≡ false → eqb t s ≡ false
touched_other g x s t h n = ne_eqb t s (λ q. not_both h (ap (λ k. touches (edge g k) x) (sym q) ∙ n))

module _ (g : Network) where
  -- the way along used edges is a lasting test
  pub along_lasting : Lasting g along_used
  unfolding along_used
  along_lasting = record {
    fits = λ u s x a. inl (used_from_lem u s x (eqb_eq (u s) (suc x) a));
    lasts = λ u x s t v h n a. rw (taken_off u x s t (touched_other g x s t h n)) a;
  }

  -- and so is that of one way more: mates touch the same vertices, so none of an edge away from x is used by a step from x
  pub more_lasting : MateRule g.rule → Lasting g (one_more g)
  unfolding one_more mate_used
  more_lasting rule = record { fits = fits; lasts = lasts }
    where
      fits : (u : Used) (s x : ℕ) → one_more g u s x ≡ true → (is_used u s ≡ true) ⊎ (mate_used g u s ≡ false)
      fits u s x a = ⊎_elim (λ k. inr (false_of_not_true (mate_used g u s) k))
          (λ k. inl (used_from_lem u s (other_end (edge g s) x) (eqb_eq (u s) (suc (other_end (edge g s) x)) k)))
          (or_cases (not (mate_used g u s)) (eqb (u s) (suc (other_end (edge g s) x))) a)

      still_free : (u : Used) (x s t : ℕ) → touches (edge g s) x ≡ true → touches (edge g t) x ≡ false
          → mate_used g u t ≡ false → mate_used g (step_taken u x s) t ≡ false
      still_free u x s t h n f = false_of_not (mate_used g (step_taken u x s) t) (λ e.
          let r = some_below (edge_count g) (λ r. mates g t r && is_used (step_taken u x s) r) e in
          let m = and_left (mates g t r.at) (is_used (step_taken u x s) r.at) r.passes in
          go r.at r.below m (used_then u x s r.at (and_right (mates g t r.at) (is_used (step_taken u x s) r.at) r.passes)))
        where
          go : (r : ℕ) → r < edge_count g → mates g t r ≡ true → UsedThen u x s r → ⊥
          go r b m (newly q _ _) = not_both (mates_touch g rule s t x (mates_sym g rule t s (rw q at m)) h) n
          go r b m (before k _) = free_of_mates g u t r f b k m

      lasts : (u : Used) (x s t v : ℕ) → touches (edge g s) x ≡ true → touches (edge g t) x ≡ false
          → one_more g u t v ≡ true → one_more g (step_taken u x s) t v ≡ true
      lasts u x s t v h n a = ⊎_elim
          (λ k. or_left (not_of_false (still_free u x s t h n (false_of_not_true (mate_used g u t) k))) _)
          (λ k. or_right (not (mate_used g (step_taken u x s) t)) (rw (taken_off u x s t (touched_other g x s t h n)) k))
          (or_cases (not (mate_used g u t)) (eqb (u t) (suc (other_end (edge g t) v))) a)

-- the steps of a way over one_more fit, each when its turn comes
pub more_fits : (g : Network) → MateRule g.rule → (u : Used) (x y : ℕ) (ps : List Step)
    → leads g x ps y ≡ true → all_allowed (one_more g u) x ps ≡ true → distinct (visited x ps) ≡ true → WayFits g u x ps
more_fits g rule u x y ps l a d = goes_fits (lasting_goes (more_lasting g rule) ps u x y l a d)

-- and so do those of a way along used edges
pub along_fits : (g : Network) (u : Used) (x y : ℕ) (ps : List Step)
    → leads g x ps y ≡ true → all_allowed (along_used u) x ps ≡ true → distinct (visited x ps) ≡ true → WayFits g u x ps
along_fits g u x y ps l a d = goes_fits (lasting_goes (along_lasting g) ps u x y l a d)

-- where nothing is used, that is usable
pub unused_usable : (g : Network) → Usable g unused
unfolding unused is_used
unused_usable g = record {
  known = λ s e. absurd (false≢true e);
  from_an_end = λ s e. absurd (false≢true e);
  no_mates = λ s t e. absurd (false≢true e);
}
