-- Records of different days give the same length however they are arranged.
use mathlib.Core.Bool.{Bool, true, false, not, cond, ◌&&◌}
use mathlib.Core.List.Permᴰ
use mathlib.Core.List.{List, [], ◌∷◌, Perm, Permᴰ}
use mathlib.Core.Logic.{◌⊎◌, inl, inr, ◌≢◌, ∥∥₁_elim}
use mathlib.Core.Option.{Option, none, some, is_set}
use mathlib.Core.Path.{◌≡◌, refl, sym, ◌∙◌, ap, ap₂, subst, subst₂}
use Prim.Native.Nat.{ℕ, ◌≤◌, ◌<◌}
use native.Mathlib.Nat.{ℕ_set}
use native.Mathlib.Omega.{arith}
use lib.Dec.{eqb, ltb}
use Rattle.graph.specs.Lists.{all_in}
use Rattle.graph.proofs.Truth.{true_or_false, and_left, and_right, and_both, false_of_not_true, eqb_eq, eq-eqb, eqb_ne, eqb_swap, ltb_lt, lt-ltb, ltb_ge, ge_ltb}
use Rattle.naming.specs.Survey.{Survey, surveys_of, holding, replaced, kept_behind, kept_of, same_day, days_differ}
use Rattle.naming.proofs.Surveys.{kept_is_holding}

-- of two records of different days the later one is the same from either side
later_apart : (r q : Survey) → eqb r.day q.day ≡ false → cond (ltb r.day q.day) q r ≡ cond (ltb q.day r.day) r q
later_apart r q d = go (true_or_false (ltb r.day q.day))
  where
    apart : r.day ≢ q.day
    apart = eqb_ne r.day q.day d

    go : (ltb r.day q.day ≡ true) ⊎ (ltb r.day q.day ≡ false) → cond (ltb r.day q.day) q r ≡ cond (ltb q.day r.day) r q
    go (inl e) =
        let h : r.day < q.day = ltb_lt r.day q.day e in
        rw (e, ge_ltb q.day r.day (omega arith))
    go (inr e) =
        let h : q.day ≤ r.day = ltb_ge r.day q.day e in
        rw (e, lt-ltb q.day r.day (less h apart))
      where
        less : {m n : ℕ} → m ≤ n → n ≢ m → m < n
        less h d = omega (arith, h, d)

-- so it is of no account which of them is entered first, whatever was kept before them
replaced_swap : (o : Option Survey) (r q : Survey) → eqb r.day q.day ≡ false → replaced (replaced o r) q ≡ replaced (replaced o q) r
unfolding replaced
replaced_swap none r q d = ap some (later_apart r q d)
replaced_swap (some k) r q d = ap some (go (true_or_false (ltb k.day r.day)) (true_or_false (ltb k.day q.day)))
  where
    later : Survey → Survey → Survey
    later x y = cond (ltb x.day y.day) y x

    go : (ltb k.day r.day ≡ true) ⊎ (ltb k.day r.day ≡ false) → (ltb k.day q.day ≡ true) ⊎ (ltb k.day q.day ≡ false)
        → later (later k r) q ≡ later (later k q) r
    go (inl a) (inl b) = rw (a, b) (later_apart r q d)
    go (inl a) (inr b) = rw (a, b, a, ge_ltb r.day q.day (omega (arith, ltb_lt k.day r.day a, ltb_ge k.day q.day b)))
    go (inr a) (inl b) = rw (a, b, ge_ltb q.day r.day (omega (arith, ltb_ge k.day r.day a, ltb_lt k.day q.day b)))
    go (inr a) (inr b) = rw (a, b, a)

-- what is kept of an edge when a record comes in
abbrev kept : ℕ → Option Survey → Survey → Option Survey
kept e o r = cond (eqb r.measured e) (replaced o r) o

-- two records that are not of one edge and one day can come in either way
kept_swap : (e : ℕ) (o : Option Survey) (r q : Survey) → same_day r q ≡ false → kept e (kept e o r) q ≡ kept e (kept e o q) r
unfolding same_day
kept_swap e o r q d = go (true_or_false (eqb r.measured e)) (true_or_false (eqb q.measured e))
  where
    one_edge : eqb r.measured e ≡ true → eqb q.measured e ≡ true → eqb r.measured q.measured ≡ true
    one_edge a b = eq-eqb r.measured q.measured (eqb_eq r.measured e a ∙ sym (eqb_eq q.measured e b))

    go : (eqb r.measured e ≡ true) ⊎ (eqb r.measured e ≡ false) → (eqb q.measured e ≡ true) ⊎ (eqb q.measured e ≡ false)
        → kept e (kept e o r) q ≡ kept e (kept e o q) r
    go (inl a) (inl b) = rw (a, b) (replaced_swap o r q (rw (one_edge a b) at d))
    go (inl a) (inr b) = rw (a, b)
    go (inr a) (inl b) = rw (a, b)
    go (inr a) (inr b) = rw (a, b)

-- a test that all records pass they pass however they are arranged
all_arranged : (f : Survey → Bool) {l k : List Survey} → Permᴰ l k → all_in f l ≡ true → all_in f k ≡ true
unfolding all_in
all_arranged f Permᴰ.nil p = p
all_arranged f (Permᴰ.cons {a = a} {l₁ = l} e d) p =
    and_both (subst (λ x. f x ≡ true) e (and_left (f a) (all_in f l) p)) (all_arranged f d (and_right (f a) (all_in f l) p))
all_arranged f (Permᴰ.swap {a = a} {b = b} {l = l} e₁ e₂) p =
    let rest = and_right (f a) (f b && all_in f l) p in
    and_both
    (subst (λ x. f x ≡ true) e₂ (and_left (f b) (all_in f l) rest))
    (and_both (subst (λ x. f x ≡ true) e₁ (and_left (f a) (f b && all_in f l) p)) (and_right (f b) (all_in f l) rest))
all_arranged f (Permᴰ.trans d₁ d₂) p = all_arranged f d₂ (all_arranged f d₁ p)

-- it is told from either record that two are of one edge and one day
same_day_swap : (r q : Survey) → same_day r q ≡ same_day q r
unfolding same_day
same_day_swap r q = ap₂ ◌&&◌ (eqb_swap r.measured q.measured) (eqb_swap r.day q.day)

-- no record here is of one edge and one day with r
abbrev apart_from : Survey → List Survey → Bool
apart_from r l = all_in (λ q. not (same_day r q)) l

-- that the days differ is so however the records are arranged
days_differ_arranged : {l k : List Survey} → Permᴰ l k → days_differ l ≡ true → days_differ k ≡ true
unfolding days_differ all_in
days_differ_arranged Permᴰ.nil p = p
days_differ_arranged (Permᴰ.cons {a = a} {b = b} {l₁ = l} {l₂ = k} e d) p =
    and_both
    (subst (λ r. apart_from r k ≡ true) e (all_arranged (λ q. not (same_day a q)) d (and_left (apart_from a l) (days_differ l) p)))
    (days_differ_arranged d (and_right (apart_from a l) (days_differ l) p))
days_differ_arranged (Permᴰ.swap {a = a} {b = b} {a' = a'} {l = l} e₁ e₂) p =
    let first = and_left (not (same_day a b) && apart_from a l) (apart_from b l && days_differ l) p in
    let swapped : not (same_day b a) ≡ true = rw (same_day_swap b a) (and_left (not (same_day a b)) (apart_from a l) first) in
    let rest = and_right (not (same_day a b) && apart_from a l) (apart_from b l && days_differ l) p in
    subst (λ x. days_differ (a' ∷ x ∷ l) ≡ true) e₁
    (subst (λ y. days_differ (y ∷ a ∷ l) ≡ true) e₂
    (and_both
    (and_both swapped (and_left (apart_from b l) (days_differ l) rest))
    (and_both (and_right (not (same_day a b)) (apart_from a l) first) (and_right (apart_from b l) (days_differ l) rest))))
days_differ_arranged (Permᴰ.trans d₁ d₂) p = days_differ_arranged d₂ (days_differ_arranged d₁ p)

-- what is kept of records of different days is the same however they are arranged
kept_arranged : (e : ℕ) (o : Option Survey) {l k : List Survey} → Permᴰ l k → days_differ l ≡ true → kept_behind e o l ≡ kept_behind e o k
unfolding kept_behind days_differ all_in
kept_arranged e o Permᴰ.nil p = refl
kept_arranged e o (Permᴰ.cons {a = a} {b = b} {l₁ = l} {l₂ = k} q d) p =
    kept_arranged e (kept e o a) d (and_right (apart_from a l) (days_differ l) p) ∙ ap (λ r. kept_behind e (kept e o r) k) q
kept_arranged e o (Permᴰ.swap {a = a} {b = b} {l = l} e₁ e₂) p =
    let apart = and_left (not (same_day a b)) (apart_from a l) (and_left (not (same_day a b) && apart_from a l) (apart_from b l && days_differ l) p) in
    rw (sym e₁, sym e₂) (ap (λ kept. kept_behind e kept l) (kept_swap e o a b (false_of_not_true (same_day a b) apart)))
kept_arranged e o (Permᴰ.trans d₁ d₂) p = kept_arranged e o d₁ p ∙ kept_arranged e o d₂ (days_differ_arranged d₁ p)

-- equations of records, where there are any, are one
survey-set : IsSet Survey
survey-set = λ x y p q i j.
    record {
      measured = ℕ_set x.measured y.measured (ap (λ r. r.measured) p) (ap (λ r. r.measured) q) i j;
      day = ℕ_set x.day y.day (ap (λ r. r.day) p) (ap (λ r. r.day) q) i j;
      metres = ℕ_set x.metres y.metres (ap (λ r. r.metres) p) (ap (λ r. r.metres) q) i j;
    }

-- the records of one edge are arranged as the whole list is
of_edge_arranged : (e : ℕ) {l k : List Survey} → Permᴰ l k → Permᴰ (surveys_of e l) (surveys_of e k)
unfolding surveys_of
of_edge_arranged e Permᴰ.nil = Permᴰ.nil
of_edge_arranged e (Permᴰ.cons {a = a} {b = b} {l₁ = l} {l₂ = k} q d) =
    subst (λ x. Permᴰ (surveys_of e (a ∷ l)) (surveys_of e (x ∷ k))) q (go (of_edge_arranged e d) (eqb a.measured e))
  where
    go : Permᴰ (surveys_of e l) (surveys_of e k) → (is : Bool)
        → Permᴰ (cond is (a ∷ surveys_of e l) (surveys_of e l)) (cond is (a ∷ surveys_of e k) (surveys_of e k))
    go d true = Permᴰ.cons refl d
    go d false = d
of_edge_arranged e (Permᴰ.swap {a = a} {b = b} {l = l} e₁ e₂) =
    subst₂ (λ x y. Permᴰ (surveys_of e (a ∷ b ∷ l)) (surveys_of e (y ∷ x ∷ l))) e₁ e₂ (go (eqb a.measured e) (eqb b.measured e))
  where
    go : (p q : Bool)
        → Permᴰ (cond p (a ∷ cond q (b ∷ surveys_of e l) (surveys_of e l)) (cond q (b ∷ surveys_of e l) (surveys_of e l)))
        (cond q (b ∷ cond p (a ∷ surveys_of e l) (surveys_of e l)) (cond p (a ∷ surveys_of e l) (surveys_of e l)))
    go true true = Permᴰ.swap refl refl
    go true false = Permᴰ.refl _
    go false true = Permᴰ.refl _
    go false false = Permᴰ.refl _
of_edge_arranged e (Permᴰ.trans d₁ d₂) = Permᴰ.trans (of_edge_arranged e d₁) (of_edge_arranged e d₂)

-- what is kept of an edge is kept of its own records
kept_of_own : (e : ℕ) (o : Option Survey) (l : List Survey) → kept_behind e o (surveys_of e l) ≡ kept_behind e o l
unfolding kept_behind surveys_of
kept_of_own e o [] = refl
kept_of_own e o (r ∷ l) = go (kept_of_own e (replaced o r) l) (kept_of_own e o l) (true_or_false (eqb r.measured e))
  where
    go : kept_behind e (replaced o r) (surveys_of e l) ≡ kept_behind e (replaced o r) l → kept_behind e o (surveys_of e l) ≡ kept_behind e o l
        → (eqb r.measured e ≡ true) ⊎ (eqb r.measured e ≡ false)
        → kept_behind e o (cond (eqb r.measured e) (r ∷ surveys_of e l) (surveys_of e l)) ≡ kept_behind e (cond (eqb r.measured e) (replaced o r) o) l
    go own other (inl q) =
        ap (λ b. kept_behind e o (cond b (r ∷ surveys_of e l) (surveys_of e l))) q
        ∙ ap (λ b. kept_behind e (cond b (replaced o r) o) (surveys_of e l)) q
        ∙ own
        ∙ sym (ap (λ b. kept_behind e (cond b (replaced o r) o) l) q)
    go own other (inr q) = rw q other

-- Records arranged in whatever way: for an edge whose days differ the same record holds, whatever the days of other edges.
pub arranged_for_edge : (l k : List Survey) → Perm l k → (e : ℕ) → days_differ (surveys_of e l) ≡ true → holding l e ≡ holding k e
unfolding kept_of
arranged_for_edge l k arranged e differ =
    ∥∥₁_elim arranged (is_set survey-set (holding l e) (holding k e))
    (λ d.
    sym (kept_is_holding e l)
    ∙ sym (kept_of_own e none l)
    ∙ kept_arranged e none (of_edge_arranged e d) differ
    ∙ kept_of_own e none k
    ∙ kept_is_holding e k)

-- a test that all records pass, those of an edge pass
all_own : (f : Survey → Bool) (e : ℕ) (l : List Survey) → all_in f l ≡ true → all_in f (surveys_of e l) ≡ true
unfolding all_in surveys_of
all_own f e [] p = refl
all_own f e (r ∷ l) p = go (all_own f e l (and_right (f r) (all_in f l) p)) (true_or_false (eqb r.measured e))
  where
    go : all_in f (surveys_of e l) ≡ true → (eqb r.measured e ≡ true) ⊎ (eqb r.measured e ≡ false)
        → all_in f (cond (eqb r.measured e) (r ∷ surveys_of e l) (surveys_of e l)) ≡ true
    go rest (inl q) = rw q (and_both (and_left (f r) (all_in f l) p) rest)
    go rest (inr q) = rw q rest

-- so where each edge's days differ, those of one edge do
pub own_days_differ : (e : ℕ) (l : List Survey) → days_differ l ≡ true → days_differ (surveys_of e l) ≡ true
unfolding days_differ surveys_of
own_days_differ e [] p = refl
own_days_differ e (r ∷ l) p = go (own_days_differ e l (and_right (apart_from r l) (days_differ l) p)) (true_or_false (eqb r.measured e))
  where
    go : days_differ (surveys_of e l) ≡ true → (eqb r.measured e ≡ true) ⊎ (eqb r.measured e ≡ false)
        → days_differ (cond (eqb r.measured e) (r ∷ surveys_of e l) (surveys_of e l)) ≡ true
    go rest (inl q) = rw q (and_both (all_own (λ x. not (same_day r x)) e l (and_left (apart_from r l) (days_differ l) p)) rest)
    go rest (inr q) = rw q rest

-- Records of which each edge's days differ, arranged in whatever way: for every edge the same record holds.
pub arranged_otherwise : (l k : List Survey) → Perm l k → days_differ l ≡ true → (e : ℕ) → holding l e ≡ holding k e
arranged_otherwise l k arranged differ e = arranged_for_edge l k arranged e (own_days_differ e l differ)
