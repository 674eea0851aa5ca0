-- The best of some groups: the largest, and among equals the one of the least name.
use mathlib.Core.Bool.{Bool, true, false, cond, ◌&&◌, ◌||◌}
use mathlib.Core.List.Memᴰ
use mathlib.Core.List.{List, [], ◌∷◌, Memᴰ}
use mathlib.Core.Logic.{◌⊎◌, inl, inr}
use mathlib.Core.Path.{◌≡◌, refl, sym, ◌∙◌, ap, ap₂}
use Prim.Native.Nat.{ℕ, ◌≤◌}
use native.Mathlib.Omega.{arith}
use lib.Dec.{eqb, leb, ltb, nleb→lt}
use Rattle.graph.proofs.Truth.{to_T, not_of_false, true_or_false, false_of_not, or_cases, or_neither_left, or_neither_right, and_left, and_right, and_both, not_both, eqb_eq, eq-eqb, ltb_lt, ltb_ge, leb_le}
use Rattle.naming.specs.Rename.{Candidate, better, best_of}

-- Candidate d does not win against c: it is no larger, and where it is as large its name is no less.
pub record AtMost (d c : Candidate) : Type 0 where
  pub no_larger : d.size ≤ c.size
  pub no_less : d.size ≡ c.size → c.name ≤ d.name

-- a candidate does not win against itself
pub at_most_refl : (c : Candidate) → AtMost c c
at_most_refl c = record { no_larger = omega arith; no_less = λ e. omega arith }

-- what does not win against one does not win against a better
pub at_most_trans : (b c d : Candidate) → AtMost b c → AtMost c d → AtMost b d
at_most_trans b c d h k = record { no_larger = omega arith; no_less = λ e. go e h.no_less k.no_less }
  where
    go : b.size ≡ d.size → (b.size ≡ c.size → c.name ≤ b.name) → (c.size ≡ d.size → d.name ≤ c.name) → d.name ≤ b.name
    go e f g = omega (arith, f (omega arith), g (omega arith))

-- two candidates neither of which wins are the same
pub at_most_antisym : (c d : Candidate) → AtMost c d → AtMost d c → c ≡ d
at_most_antisym c d h k = both sizes (omega (arith, h.no_less sizes, k.no_less (sym sizes)))
  where
    sizes : c.size ≡ d.size
    sizes = omega arith

    both : c.size ≡ d.size → c.name ≡ d.name → c ≡ d
    both p q = λ i. record { size = p i; name = q i }

-- The better of two is one of them, and neither wins against it.
pub record Better (c d b : Candidate) : Type 0 where
  pub either : (c ≡ b) ⊎ (d ≡ b)
  pub left : AtMost c b
  pub right : AtMost d b

leb_ge : (m n : ℕ) → (leb m n ≡ true → ⊥) → n ≤ m
leb_ge m n f = omega (arith, nleb→lt m n (to_T (not_of_false (false_of_not (leb m n) f))))

-- `better` gives the better of two
pub better_is : (c d : Candidate) → Better c d (better c d)
unfolding better
better_is c d = go (true_or_false (larger || equal))
  where
    larger : Bool
    larger = ltb d.size c.size

    equal : Bool
    equal = eqb c.size d.size && leb c.name d.name

    wins : (larger ≡ true) ⊎ (equal ≡ true) → AtMost d c
    wins (inl e) = omega (arith, ltb_lt d.size c.size e)
    wins (inr e) =
        omega (
          arith,
          eqb_eq c.size d.size (and_left (eqb c.size d.size) (leb c.name d.name) e),
          leb_le c.name d.name (and_right (eqb c.size d.size) (leb c.name d.name) e),
        )

    loses : larger ≡ false → equal ≡ false → AtMost c d
    loses e f =
        record {
          no_larger = ltb_ge d.size c.size e;
          no_less = λ p. leb_ge c.name d.name (λ q. not_both (and_both (eq-eqb c.size d.size p) q) f);
        }

    go : ((larger || equal) ≡ true) ⊎ ((larger || equal) ≡ false) → Better c d (cond (larger || equal) c d)
    go (inl e) = rw e record { either = inl refl; left = at_most_refl c; right = wins (or_cases larger equal e) }
    go (inr e) =
        rw
        e
        record {
          either = inr refl;
          left = loses (or_neither_left larger equal e) (or_neither_right larger equal e);
          right = at_most_refl d;
        }

-- Of the candidates of the items among some, this is the best: it is one of them, and none of them wins against it.
pub record Best (of : ℕ → Candidate) (among : ℕ → Type 0) (best : Candidate) : Type 0 where
  pub item : ℕ
  pub member : among item
  pub is : of item ≡ best
  pub beats : (z : ℕ) → among z → AtMost (of z) best

-- Of the groups of the items among some, this is the name of the largest; among equals, the least name.
pub record BestOf (of : ℕ → Candidate) (among : ℕ → Type 0) (name : ℕ) : Type 0 where
  pub item : ℕ
  pub member : among item
  pub named : (of item).name ≡ name
  pub beats : (z : ℕ) → among z → AtMost (of z) (of item)

-- the best candidate has the best name
pub best_name_lem : {of : ℕ → Candidate} {among : ℕ → Type 0} {c : Candidate} → Best of among c → BestOf of among c.name
best_name_lem b =
    record { item = b.item; member = b.member; named = rw b.is; beats = λ z m. rw b.is (b.beats z m) }

-- two sets of items have one best name if the best of each wins against the other
pub best_determined : {of : ℕ → Candidate} {among among' : ℕ → Type 0} {name name' : ℕ}
    → (b : BestOf of among name) (b' : BestOf of among' name')
    → AtMost (of b.item) (of b'.item)
    → AtMost (of b'.item) (of b.item)
    → name ≡ name'
best_determined {of} b b' h k =
    sym b.named ∙ ap (λ (c : Candidate). c.name) (at_most_antisym (of b.item) (of b'.item) h k) ∙ b'.named

-- the best name of the same items otherwise described
pub best_same : {of : ℕ → Candidate} {among among' : ℕ → Type 0} {name : ℕ}
    → ((z : ℕ) → among z → among' z)
    → ((z : ℕ) → among' z → among z)
    → BestOf of among name
    → BestOf of among' name
best_same f g b =
    record { item = b.item; member = f b.item b.member; named = b.named; beats = λ z m. b.beats z (g z m) }

-- the items determine the best name
pub best_unique : {of : ℕ → Candidate} {among : ℕ → Type 0} {name name' : ℕ}
    → BestOf of among name
    → BestOf of among name'
    → name ≡ name'
best_unique b b' = best_determined b b' (b'.beats b.item b.member) (b.beats b'.item b'.member)

one_more_lem : (of : ℕ → Candidate) (r x : ℕ) (xs : List ℕ) {c b : Candidate}
    → Best of (λ z. Memᴰ z (r ∷ xs)) c
    → Better (of x) c b
    → Best of (λ z. Memᴰ z (r ∷ x ∷ xs)) b
one_more_lem of r x xs {c} {b} h k = go k.either
  where
    later : (z : ℕ) → Memᴰ z (r ∷ xs) → Memᴰ z (r ∷ x ∷ xs)
    later z (Memᴰ.head e) = Memᴰ.head e
    later z (Memᴰ.tail m) = Memᴰ.tail (Memᴰ.tail m)

    old : (z : ℕ) → Memᴰ z (r ∷ xs) → AtMost (of z) b
    old z m = at_most_trans (of z) c b (h.beats z m) k.right

    behind : (z : ℕ) → (z ≡ x) ⊎ Memᴰ z xs → AtMost (of z) b
    behind z (inl e) = rw e k.left
    behind z (inr m) = old z (Memᴰ.tail m)

    all : (z : ℕ) → (z ≡ r) ⊎ Memᴰ z (x ∷ xs) → AtMost (of z) b
    all z (inl e) = old z (Memᴰ.head e)
    all z (inr m) = behind z (Memᴰ.cases_cons m)

    go : (of x ≡ b) ⊎ (c ≡ b) → Best of (λ z. Memᴰ z (r ∷ x ∷ xs)) b
    go (inl e) =
        record {
          item = x;
          member = Memᴰ.tail (Memᴰ.head refl);
          is = e;
          beats = λ z m. all z (Memᴰ.cases_cons m);
        }
    go (inr e) =
        record {
          item = h.item;
          member = later h.item h.member;
          is = h.is ∙ e;
          beats = λ z m. all z (Memᴰ.cases_cons m);
        }

-- `best_of` gives the best of the listed items' groups and the first
pub best_of_list : (of : ℕ → Candidate) (r : ℕ) (rs : List ℕ) → Best of (λ z. Memᴰ z (r ∷ rs)) (best_of of (of r) rs)
unfolding best_of
best_of_list of r [] = record { item = r; member = Memᴰ.head refl; is = refl; beats = λ z m. alone z (Memᴰ.cases_cons m) }
  where
    alone : (z : ℕ) → (z ≡ r) ⊎ Memᴰ z [] → AtMost (of z) (of r)
    alone z (inl e) = rw e (at_most_refl (of r))
    alone z (inr m) = absurd (Memᴰ.not-nil m)
best_of_list of r (x ∷ xs) = one_more_lem of r x xs (best_of_list of r xs) (better_is (of x) (best_of of (of r) xs))

-- the best of a list depends only on what the listed items bring
pub best_of_agree : (of of' : ℕ → Candidate) (c : Candidate) (xs : List ℕ)
    → ((z : ℕ) → Memᴰ z xs → of z ≡ of' z)
    → best_of of c xs ≡ best_of of' c xs
unfolding best_of
best_of_agree of of' c [] f = refl
best_of_agree of of' c (x ∷ xs) f =
    ap₂ better (f x (Memᴰ.head refl)) (best_of_agree of of' c xs (λ z m. f z (Memᴰ.tail m)))

-- One of the listed items' groups is at least as good as that of item z.
pub record Outdone (of : ℕ → Candidate) (xs : List ℕ) (z : ℕ) : Type 0 where
  pub by : ℕ
  pub member : Memᴰ by xs
  pub better : AtMost (of z) (of by)

-- two lists have one best if each item of either is outdone in the other; so order and repetition do not matter
pub best_of_lists : (of : ℕ → Candidate) (r r' : ℕ) (rs rs' : List ℕ)
    → ((z : ℕ) → Memᴰ z (r ∷ rs) → Outdone of (r' ∷ rs') z)
    → ((z : ℕ) → Memᴰ z (r' ∷ rs') → Outdone of (r ∷ rs) z)
    → best_of of (of r) rs ≡ best_of of (of r') rs'
best_of_lists of r r' rs rs' f g =
    at_most_antisym
    (best_of of (of r) rs)
    (best_of of (of r') rs')
    (below (best_of_list of r rs) (best_of_list of r' rs') f)
    (below (best_of_list of r' rs') (best_of_list of r rs) g)
  where
    below : {xs xs' : List ℕ} {c d : Candidate}
        → (b : Best of (λ z. Memᴰ z xs) c)
        → Best of (λ z. Memᴰ z xs') d
        → ((z : ℕ) → Memᴰ z xs → Outdone of xs' z)
        → AtMost c d
    below {d = d} b b' h =
        let o = h b.item b.member in
        rw b.is at (at_most_trans (of b.item) (of o.by) d o.better (b'.beats o.by o.member))
