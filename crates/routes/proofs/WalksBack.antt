-- Whether a way that is written down goes along a used edge, by the bits of its edges.
use mathlib.Core.Bool.{Bool, true, false, not, cond}
use mathlib.Core.List.{List, [], ◌∷◌}
use mathlib.Core.Logic.{⊎_elim}
use mathlib.Core.Path.{◌≡◌, refl, sym, ◌∙◌, ap}
use Prim.Native.Nat.{ℕ, zero, suc, ◌%◌, ◌≤◌, ◌<◌}
use native.Mathlib.Nat.{zero-add}
use native.Mathlib.Omega.{arith}
use borrow.Author.Tests.{lt-leb}
use lib.Dec.{eqb, leb}
use lib.ListN.{length}
use Rattle.std.proofs.Common.{MatchBool}
use Rattle.std.specs.List.{range_with_len, HoldsAt, AllWithin}
use Rattle.std.proofs.lemmas.List.FromFn.{length-range_with_len, get_or-range_with_len}
use Rattle.graph.specs.Below.{tabulate, length_tabulate}
use Rattle.graph.specs.Lists.{is_in, all_in}
use Rattle.graph.specs.Network.{Network, edge, edge_count}
use Rattle.graph.specs.Cycle.{Step}
use Rattle.graph.proofs.Truth.{false_of_not, not_both, not_of_false, false_of_not_true, or_cases, eqb_eq, le-leb}
use Rattle.graph.proofs.Members.{all_in_lem, each_in, is_in_last}
use Rattle.naming.proofs.Listed.{get_or-tabulate}
use Rattle.ways.specs.Used.{Used, is_used, mate_used}
use Rattle.ways.specs.TwoRoutes.{edges_of, none_back}
use Rattle.ways.proofs.SearchOrder.{at_place_in}
use Rattle.numbers.specs.declared.Shape.{Shape}
use Rattle.forest.specs.Promise.{vertex_scratch, edge_scratch}
use Rattle.routes.specs.declared.uses.Use.TheVariants as U
use Rattle.routes.specs.Inside.Lists.{bits_of, used_along, use_of, Listed}
use Rattle.routes.specs.Inside.Walks.{TakesBack}

-- none of the steps goes along a used edge exactly where no edge of the way is used
none_back_lem : (u : Used) (ps : List Step) → none_back u ps ≡ all_in (λ s. not (is_used u s)) (edges_of ps)
unfolding none_back edges_of all_in
none_back_lem u [] = refl
none_back_lem u (p ∷ ps) = rw (none_back_lem u ps)

-- an edge is used exactly where its bits are 2 or more
bits_used : (g : Network) (u : Used) (s : ℕ) → leb 2 (bits_of (use_of g u s)) ≡ is_used u s
unfolding use_of used_along
bits_used g u s = go (is_used u s) (eqb (u s) (suc (edge g s).left)) (mate_used g u s)
  where
    go : (used left mate : Bool) → leb 2 (bits_of (cond used (cond left U.FromLeft U.FromRight) (cond mate U.MateUsed U.Free))) ≡ used
    go true true mate = refl
    go true false mate = refl
    go false left true = refl
    go false left false = refl

-- each entry of a list stands in it
entry_in : (n : ℕ) (f : ℕ → ℕ) (i : ℕ) → i < n → is_in (f i) (tabulate n f) ≡ true
entry_in n f i h = rw (get_or-tabulate n f 0 i h) at (at_place_in (tabulate n f) i (omega (arith, length_tabulate n f)))

-- and what holds of each entry holds of all that stand in it
by_entries : (P : ℕ → Type 0) (n : ℕ) (f : ℕ → ℕ) → ((i : ℕ) → i < n → P (f i)) → (s : ℕ) → is_in s (tabulate n f) ≡ true → P s
unfolding tabulate is_in
by_entries P zero f each s m = absurd (not_both m refl)
by_entries P (suc n) f each s m =
    ⊎_elim (λ e. rw (eqb_eq s (f n) e) (each n (omega arith))) (λ l. by_entries P n f (λ i h. each i (omega arith)) s l)
    (or_cases (eqb s (f n)) (is_in s (tabulate n f)) (sym (is_in_last s (f n) (tabulate n f)) ∙ m))

-- whether an edge is used is told by its word
word_tells : {shape : Shape} {g : Network} {u : Used} {t : List ℕ} → Listed shape g u t → (s : ℕ) → s < edge_count g
    → is_used u s ≡ leb 2 (edge_scratch shape t s % 4)
word_tells {g = g} {u = u} listed s h = sym (rw (listed.uses s h) (bits_used g u s))

module _ (shape : Shape) (column : ℕ) (t : List ℕ) where
  -- the bits of edge i of those that are written down
  abbrev pub bits_at : ℕ → ℕ
  bits_at i = edge_scratch shape t (vertex_scratch shape t column i) % 4

  -- where none of them is used, no step goes along a used edge
  none_told : {count : ℕ} → ((k : ℕ) → k < count → bits_at k < 2) → TakesBack shape column count t false
  none_told {count} none =
      record {
        told = λ g u ps listed known written.
            sym (ap not (none_back_lem u ps ∙ all_in_lem (λ s. not (is_used u s)) (edges_of ps) (λ s m.
            not_of_false (word_tells listed s (known s m) ∙ lt-leb 2 (edge_scratch shape t s % 4) (low_in s (rw written m))))));
      }
    where
      low_in : (s : ℕ) → is_in s (tabulate count (vertex_scratch shape t column)) ≡ true → edge_scratch shape t s % 4 < 2
      low_in s m = by_entries (λ s. edge_scratch shape t s % 4 < 2) count (vertex_scratch shape t column) none s m

  -- where one is, some step does
  one_told : {count : ℕ} (k : ℕ) → k < count → 2 ≤ bits_at k → TakesBack shape column count t true
  one_told {count} k l h =
      record {
        told = λ g u ps listed known written.
            let s = vertex_scratch shape t column k in
            let m = rw written at (entry_in count (vertex_scratch shape t column) k l) in
            let used = word_tells listed s (known s m) ∙ le-leb 2 (edge_scratch shape t s % 4) h in
            sym (not_of_false (false_of_not (none_back u ps) (λ n.
            not_both used (false_of_not_true (is_used u s)
            (each_in (λ s. not (is_used u s)) (edges_of ps) (sym (none_back_lem u ps) ∙ n) s m)))));
      }

  -- so it is told by whether any is
  pub any_told : (count : ℕ) (answer : Bool)
      → MatchBool answer
      ((k : ℕ) × (k < length (range_with_len 0 count)) × HoldsAt (λ i. 2 ≤ bits_at i) (range_with_len 0 count) k)
      (AllWithin (λ i. bits_at i < 2) (range_with_len 0 count) 0 (length (range_with_len 0 count)))
      → TakesBack shape column count t answer
  any_told count true (k, l, h) =
      let known : k < count = omega (arith, length-range_with_len 0 count, l) in
      one_told k known (rw (get_or-range_with_len 0 count k 0 known, zero-add k) at (h 0))
  any_told count false none = none_told (λ k l.
      rw (get_or-range_with_len 0 count k 0 l, zero-add k) at (none k 0 (omega arith) (omega (arith, length-range_with_len 0 count, l))))
