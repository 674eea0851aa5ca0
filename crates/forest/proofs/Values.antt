-- Lists of a function's values: their members, the items of a listing, and the groups of what the steps of a path give.
use Rattle.std.proofs.Common.{◌≡◌, ℕ, zero, suc, ◌+◌, ◌<◌, Bool, ◌||◌, ◌⊎◌, List, [], ◌∷◌, ◌++◌, map, sym, refl, ap, ◌∙◌, ap₂, inl, inr, not-suc-le-zero, arith}
use mathlib.Core.List.Memᴰ
use mathlib.Core.List.{Memᴰ}
use Rattle.graph.specs.Below.{tabulate}
use Rattle.graph.specs.Cycle.{Step, any_step}
use Rattle.graph.proofs.Below.{below_or_last}
use Rattle.naming.specs.Rename.{Grouping}
use Rattle.naming.proofs.Listed.{tabulate_same, tabulate_first}
use Rattle.naming.proofs.Merge.{in_merged}
use Rattle.table.specs.declared.merge.Listing.{Listing}
use Rattle.table.specs.Inside.Merge.{item_of, items_from}

-- Where an entry of the list of values stands.
pub record Entry (A : Type 0) (k : ℕ) (f : ℕ → A) (z : A) : Type 0 where
  pub at : ℕ
  pub below : at < k
  pub is : z ≡ f at

-- a member is a value
pub entry : {A : Type 0} (k : ℕ) (f : ℕ → A) (z : A) → Memᴰ z (tabulate k f) → Entry A k f z
unfolding tabulate
entry zero f z m = absurd (Memᴰ.not-nil m)
entry {A} (suc k) f z m = go (entry k f z) (Memᴰ.append_cases (tabulate k f) m)
  where
    more : Entry A k f z → Entry A (suc k) f z
    more e = record { at = e.at; below = omega (arith, e.below); is = e.is }

    go : (Memᴰ z (tabulate k f) → Entry A k f z) → Memᴰ z (tabulate k f) ⊎ Memᴰ z (f k ∷ []) → Entry A (suc k) f z
    go r (inl l) = more (r l)
    go r (inr l) = record { at = k; below = omega arith; is = Memᴰ.eq_of_singleton l }

-- a value is a member
pub value_member : (k : ℕ) (f : ℕ → ℕ) (i : ℕ) → i < k → Memᴰ (f i) (tabulate k f)
unfolding tabulate
value_member zero f i h = absurd (not-suc-le-zero h)
value_member (suc k) f i h = go (value_member k f i) (below_or_last k i h)
  where
    go : (i < k → Memᴰ (f i) (tabulate k f)) → (i < k) ⊎ (i ≡ k) → Memᴰ (f i) (tabulate k f ++ f k ∷ [])
    go r (inl l) = Memᴰ.append_left (f k ∷ []) (r l)
    go r (inr e) = Memᴰ.append_right (tabulate k f) (Memᴰ.head (ap f e))

-- the items of a listing from place i on
items_from_lem : (t : List ℕ) (l : Listing) (i k : ℕ) → items_from t l i k ≡ tabulate k (λ j. item_of t l (i + j))
unfolding items_from tabulate
items_from_lem t l i zero = refl
items_from_lem t l i (suc k) =
    ap₂ ◌∷◌ (ap (item_of t l) (omega arith))
    (items_from_lem t l (suc i) k ∙ tabulate_same k _ _ (λ j h. ap (item_of t l) (omega arith)))
    ∙ sym (tabulate_first k (λ j. item_of t l (i + j)))

-- and from the first on
pub items_tabulate : (t : List ℕ) (l : Listing) (k : ℕ) → items_from t l 0 k ≡ tabulate k (item_of t l)
items_tabulate t l k = items_from_lem t l 0 k ∙ tabulate_same k _ _ (λ j h. ap (item_of t l) (omega arith))

-- they are those of another table that has the same words there
pub items_same : (t t' : List ℕ) (l : Listing) (i k : ℕ) → ((j : ℕ) → j < i + k → item_of t l j ≡ item_of t' l j)
    → items_from t l i k ≡ items_from t' l i k
unfolding items_from
items_same t t' l i zero h = refl
items_same t t' l i (suc k) h = ap₂ ◌∷◌ (h i (omega arith)) (items_same t t' l (suc i) k (λ j b. h j (omega arith)))

-- the groups of what the steps of a path give
pub in_merged_steps : (groups : Grouping) (h : Step → ℕ) (ps : List Step) (x : ℕ)
    → in_merged groups (map h ps) x ≡ any_step (λ p. groups (h p) x) ps
unfolding in_merged any_step
in_merged_steps groups h [] x = refl
in_merged_steps groups h (p ∷ ps) x = ap (λ (b : Bool). groups (h p) x || b) (in_merged_steps groups h ps x)
