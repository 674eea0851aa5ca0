-- Things, edges or vertices alike, whose single loss parts a and b: which of two comes before the other, and the list of all.
use mathlib.Core.Bool.{Bool, true, false, not, ◌&&◌}
use mathlib.Core.List.{reverse}
use mathlib.Core.Logic.{◌⊎◌, inl, inr, ⊎_elim, ◌≢◌}
use mathlib.Core.Path.{◌≡◌, sym, ◌∙◌, ap, ap₂, subst}
use Prim.Native.Nat.{ℕ}
use lib.Dec.{ltb}
use Rattle.graph.specs.Below.{listed}
use Rattle.graph.specs.Lists.{is_in, ordered}
use Rattle.graph.specs.Network.{Network, Loss, nothing, joined}
use Rattle.graph.specs.Groups.{component, parts}
use Rattle.graph.specs.Between.{sort}
use Rattle.graph.proofs.Truth.{true_or_false, false_of_not, not_both, bool_ext, false_of_not_true, and_left, and_right}
use Rattle.graph.proofs.Joined.{joined_refl, joined_sym, joined_trans, joined_swap}
use Rattle.graph.proofs.Mates.{component_swap}
use Rattle.graph.proofs.Members.{is_in-listed, distinct-listed, is_in-reverse, distinct-reverse, ordered-reverse, ordered_same}
use Rattle.graph.proofs.Sort.{Strict, sort_unique, is_in_sorted, distinct_sorted, ordered-sort}

-- what a loss parts was joined
pub parts-component : (g : Network) (lost : Loss) (a b : ℕ) → parts g lost a b ≡ true → component g a b ≡ true
unfolding parts
parts-component g lost a b e = and_left (component g a b) (not (joined g lost a b)) e

-- what a loss parts is not joined with it
pub parts-apart : (g : Network) (lost : Loss) (a b : ℕ) → parts g lost a b ≡ true → joined g lost a b ≡ false
unfolding parts
parts-apart g lost a b e = false_of_not_true (joined g lost a b) (and_right (component g a b) (not (joined g lost a b)) e)

-- a loss that parts a and b parts b and a
pub parts_swap : (g : Network) (lost : Loss) (a b : ℕ) → parts g lost a b ≡ parts g lost b a
unfolding parts
parts_swap g lost a b = ap₂ (λ p q. p && not q) (component_swap g a b) (joined_swap g lost a b)

-- no loss parts vertices of two components
pub parts_across : (g : Network) (lost : Loss) (a b : ℕ) → component g a b ≡ false → parts g lost a b ≡ false
unfolding parts
parts_across g lost a b e = ap (λ p. p && not (joined g lost a b)) e

-- no loss parts a vertex from itself
pub parts_self : (g : Network) (lost : Loss) (a : ℕ) → parts g lost a a ≡ false
parts_self g lost a = false_of_not (parts g lost a a) (λ e. not_both (joined_refl g lost a) (parts-apart g lost a a e))

-- What the order takes from the things themselves. Each has a loss and a vertex to be found at; `before x i j` says that, from x,
-- thing i comes before thing j.
pub record Parting (g : Network) (item : ℕ → Bool) (loss : ℕ → Loss) (place : ℕ → ℕ) (before : ℕ → ℕ → ℕ → Bool) (a b : ℕ)
    : Type 0 where
  pub parted : (i : ℕ) → item i ≡ true → parts g (loss i) a b ≡ true
  -- what is joined to x by edges that do not lead to i is joined without i
  pub stays : (i : ℕ) → item i ≡ true → (lost : Loss) (x : ℕ) → joined g lost x (place i) ≡ false
      → (y : ℕ) → joined g lost x y ≡ true → joined g (loss i) x y ≡ true
  -- where j's loss parts x from i, j is still joined to x without i
  pub reaches : (i j : ℕ) → item i ≡ true → item j ≡ true → i ≢ j → (x : ℕ) → joined g (loss j) x (place i) ≡ false
      → component g x (place j) ≡ true → joined g (loss i) x (place j) ≡ true
  pub other : (i j : ℕ) → item i ≡ true → item j ≡ true → i ≢ j → (x : ℕ) → before x i j ≡ joined g (loss j) x (place i)
  pub self_left : (i : ℕ) → item i ≡ true → before a i i ≡ false
  pub self_right : (i : ℕ) → item i ≡ true → before b i i ≡ false

module _ {g : Network} {item : ℕ → Bool} {loss : ℕ → Loss} {place : ℕ → ℕ} {before : ℕ → ℕ → ℕ → Bool} where
  turned : {a b : ℕ} → Parting g item loss place before a b → Parting g item loss place before b a
  turned {a} {b} w = record {
    parted = λ i e. parts_swap g (loss i) b a ∙ w.parted i e;
    stays = w.stays;
    reaches = w.reaches;
    other = w.other;
    self_left = w.self_right;
    self_right = w.self_left;
  }

  module _ {a b : ℕ} (w : Parting g item loss place before a b) where
    found : (i : ℕ) → item i ≡ true → component g a (place i) ≡ true
    unfolding component
    found i e = ⊎_elim (λ k. k)
        (λ k. absurd (not_both
        (w.stays i e nothing a k b (parts-component g (loss i) a b (w.parted i e)))
        (parts-apart g (loss i) a b (w.parted i e))))
        (true_or_false (component g a (place i)))

    -- what is joined to a with j lost is not joined to b
    one_side : (j : ℕ) → item j ≡ true → (x : ℕ) → joined g (loss j) a x ≡ true → joined g (loss j) b x ≡ false
    one_side j e x k = false_of_not (joined g (loss j) b x) (λ l. not_both
        (joined_trans g (loss j) a x b k (joined_sym g (loss j) b x l)) (parts-apart g (loss j) a b (w.parted j e)))

    different : (i j : ℕ) → item i ≡ true → before a i j ≡ true → i ≢ j
    different i j p e c = not_both e (subst (λ k. before a i k ≡ false) c (w.self_left i p))

  module _ {a b : ℕ} (w : Parting g item loss place before a b) where
    -- of two things the one before the other from a comes behind it from b
    behind : (i j : ℕ) → item i ≡ true → item j ≡ true → before a i j ≡ true → before b j i ≡ true
    behind i j p q e = go (different w i j p e)
      where
        go : i ≢ j → before b j i ≡ true
        go d = w.other j i q p (λ c. d (sym c)) b ∙ w.reaches i j p q d b
            (one_side w j q (place i) (sym (w.other i j p q d a) ∙ e)) (found (turned w) j q)

    one_first : (i j : ℕ) → item i ≡ true → item j ≡ true → before a i j ≡ true → before a j i ≡ false
    one_first i j p q e = go (λ c. different w i j p e (sym c))
      where
        go : j ≢ i → before a j i ≡ false
        go d = w.other j i q p d a
            ∙ one_side (turned w) i p (place j) (sym (w.other j i q p d b) ∙ behind i j p q e)

    along : (i j k : ℕ) → item i ≡ true → item j ≡ true → item k ≡ true
        → before a i j ≡ true → before a j k ≡ true → before a i k ≡ true
    along i j k p q r e f = go (λ c. not_both f (subst (λ l. before a j l ≡ false) c (one_first i j p q e)))
      where
        go : i ≢ k → before a i k ≡ true
        go d = w.other i k p r d a ∙ w.stays k r (loss j) a
            (sym (w.other k j r q (λ c. different w j k q f (sym c)) a) ∙ one_first j k q r f)
            (place i) (sym (w.other i j p q (different w i j p e) a) ∙ e)

    some_first : (i j : ℕ) → item i ≡ true → item j ≡ true → i ≢ j → (before a i j ≡ true) ⊎ (before a j i ≡ true)
    some_first i j p q d = ⊎_elim inl
        (λ f. inr (w.other j i q p (λ c. d (sym c)) a
        ∙ w.reaches i j p q d a (sym (w.other i j p q d a) ∙ f) (found w j q)))
        (true_or_false (before a i j))

    -- the order from a is strict and total on such things
    pub parting_strict : Strict (before a) item
    parting_strict = record { asymmetric = one_first; transitive = along; total = some_first }

  module _ {a b : ℕ} (w : Parting g item loss place before a b) where
    -- the order from b is the order from a turned round
    pub parting_turned : (i j : ℕ) → item i ≡ true → item j ≡ true → before b i j ≡ before a j i
    parting_turned i j p q = bool_ext (before b i j) (before a j i) (behind (turned w) i j p q) (behind w j i q p)

    module _ (n : ℕ) where
      -- the list from a to b is in order
      pub parting_ordered : ordered (before a) (sort (before a) (listed n item)) ≡ true
      parting_ordered = ordered-sort (parting_strict w) (listed n item)
          (λ x e. and_right (ltb x n) (item x) (sym (is_in-listed n item x) ∙ e)) (distinct-listed n item)

      -- the list from b to a is the list from a to b turned round
      pub parting_reversed : (back : ℕ → Bool) → ((x : ℕ) → back x ≡ item x)
          → sort (before b) (listed n back) ≡ reverse (sort (before a) (listed n item))
      parting_reversed back same = sym (sort_unique (parting_strict (turned w)) n back (λ x e. sym (same x) ∙ e)
          (reverse (sort (before a) (listed n item)))
          (λ x. is_in-reverse x (sort (before a) (listed n item)) ∙ is_in_sorted (before a) n item x
          ∙ ap (λ c. ltb x n && c) (sym (same x)))
          (distinct-reverse (sort (before a) (listed n item)) (distinct_sorted (before a) n item))
          (ordered_same (λ x y. before a y x) (before b) (reverse (sort (before a) (listed n item)))
          (λ x y k l e. parting_turned x y (is x k) (is y l) ∙ e)
          (ordered-reverse (before a) (sort (before a) (listed n item)) parting_ordered)))
        where
          is : (x : ℕ) → is_in x (reverse (sort (before a) (listed n item))) ≡ true → item x ≡ true
          is x e = and_right (ltb x n) (item x)
              (sym (is_in-reverse x (sort (before a) (listed n item)) ∙ is_in_sorted (before a) n item x) ∙ e)
