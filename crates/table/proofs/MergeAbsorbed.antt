-- What absorbing all groups of a listing leaves: the winner's words, the words of the others, and the pass.
use Rattle.std.proofs.Common.{◌≡◌, ℕ, zero, suc, ◌+◌, ◌<◌, ◌≤◌, Bool, false, ◌&&◌, ◌||◌, eqb, List, sym, refl, ap, ◌∙◌, subst, subst₂, arith}
use mathlib.Core.Bool.{false≢true, or-false, or_assoc}
use mathlib.Core.List.{Memᴰ}
use mathlib.Core.Path.{fun_ext}
use Rattle.graph.proofs.Truth.{eqb_swap}
use Rattle.graph.proofs.Below.{count_same}
use Rattle.naming.specs.Rename.{Grouping}
use Rattle.naming.proofs.Merge.{in_merged}
use Rattle.table.specs.declared.words.Area.{Area}
use Rattle.table.specs.declared.merge.Listing.{Listing}
use Rattle.table.specs.declared.merge.Pass.{Pass}
use Rattle.table.specs.Inside.Layout.{cell}
use Rattle.table.specs.Inside.Merge.{name_in, item_of, items_from, absorb_table, absorb_pass, Absorbed, absorb_from, no_pass, absorb_listed}
use Rattle.table.specs.Inside.KindValid.{KindValid}
use Rattle.table.proofs.MergeKept.{HasKind, ListedOutside, kept_refl, kept_item}
use Rattle.table.proofs.MergeAbsorb.{Absorbing, absorb_one}
use Rattle.table.proofs.KindNames.{same-group}

-- Over a valid table t₀, with the winner w.
module _ (t₀ : List ℕ) (area : Area) (n : ℕ) (has : HasKind t₀ area) (fits : n ≤ area.size) (small : n < 65536)
    (before : Grouping) (valid : KindValid t₀ area n before) (w : ℕ) (known : w < n) where
  -- the groups of k listed items more are absorbed
  absorb_from_lem : (l : Listing) → ListedOutside area l
      → (k j : ℕ)
      → j + k ≤ l.count
      → ((z : ℕ) → Memᴰ z (items_from t₀ l j k) → z < n)
      → (merged : ℕ → Bool) (t : List ℕ) (p : Pass)
      → Absorbing t₀ area n before w merged t p
      → Absorbing t₀ area n before w (λ x. merged x || in_merged before (items_from t₀ l j k) x) (absorb_from t area l w j k p).table
      (absorb_from t area l w j k p).pass
  unfolding absorb_from items_from in_merged
  absorb_from_lem l o zero j h below merged t p s =
      subst
      (λ (m : ℕ → Bool). Absorbing t₀ area n before w m t p)
      (fun_ext (λ x. sym (or-false (merged x))))
      s
  absorb_from_lem l o (suc k) j h below merged t p s =
      subst₂
      (λ (m : ℕ → Bool) (a : ℕ). Absorbing t₀ area n before w m (rest a).table (rest a).pass)
      (fun_ext (λ x. or_assoc (merged x) (before i x) (in_merged before (items_from t₀ l (suc j) k) x)))
      (sym named)
      (absorb_from_lem
      l
      o
      k
      (suc j)
      (omega arith)
      (λ z m. below z (Memᴰ.tail m))
      (λ x. merged x || before i x)
      (absorb_table t area w (name_in t₀ area i))
      (absorb_pass t area w (name_in t₀ area i) p)
      (absorb_one t₀ area n has fits small before valid w known merged t p s i here))
    where
      i : ℕ
      i = item_of t₀ l j

      here : i < n
      here = below i (Memᴰ.head refl)

      rest : ℕ → Absorbed
      rest a = absorb_from (absorb_table t area w a) area l w (suc j) k (absorb_pass t area w a p)

      named : name_in t area (item_of t l j) ≡ name_in t₀ area i
      named = ap (name_in t area) (kept_item s.kept l o j (omega arith)) ∙ s.names i (omega (arith, here))

  -- before anything is absorbed
  absorb_none : name_in t₀ area w ≡ w → Absorbing t₀ area n before w (λ x. false) t₀ no_pass
  unfolding no_pass
  absorb_none self =
      record {
        kept = kept_refl area t₀;
        names = λ x h. refl;
        ranges = λ x h. refl;
        whole = λ x y h k e m. m;
        winner = λ c test q.
            sym (ap (cell t₀ area c) self) ∙ q.counted w known ∙ count_same n _ _ (λ x h. ap (λ b. b && test x) (own x h));
        others = λ c test q x h d. q.counted x h;
        from_least = λ x h m. absurd (false≢true m);
        to_greatest = λ x h m. absurd (false≢true m);
        to_known = omega arith;
      }
    where
      own : (x : ℕ) → x < n → before w x ≡ (eqb (name_in t₀ area x) w || false)
      own x h =
          same-group valid w x known h
          ∙ (rw (self, or-false (eqb (name_in t₀ area x) w)) (eqb_swap w (name_in t₀ area x)))

  -- the groups of all listed items are absorbed
  pub absorb_listed_lem : name_in t₀ area w ≡ w
      → (l : Listing)
      → ListedOutside area l
      → ((z : ℕ) → Memᴰ z (items_from t₀ l 0 l.count) → z < n)
      → Absorbing t₀ area n before w (in_merged before (items_from t₀ l 0 l.count)) (absorb_listed t₀ area l w).table
      (absorb_listed t₀ area l w).pass
  unfolding absorb_listed
  absorb_listed_lem self l o below = absorb_from_lem l o l.count 0 (omega arith) below (λ x. false) t₀ no_pass (absorb_none self)
