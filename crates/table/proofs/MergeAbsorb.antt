-- Absorbing the groups of listed items: in every column that is added up the winner's word becomes that of all of them, theirs 0, and the
-- pass holds their items.
use Rattle.std.proofs.Common.{◌≡◌, ℕ, zero, suc, ◌+◌, ◌-◌, ◌<◌, ◌≤◌, min, max, Bool, true, false, cond, not, ◌&&◌, ◌||◌, eqb, ◌⊎◌, List, sym, refl, ap, ◌∙◌, inl, inr, mod-eq_of_lt, arith}
use mathlib.Core.Bool.{or-false, or-true, and-false}
use Rattle.graph.specs.Below.{count}
use Rattle.graph.proofs.Truth.{true_or_false, not_both, or_cases, or_left, or_right, and_left, and_right, and_both, eqb_eq, eqb_ne, ne_eqb, eqb_swap}
use Rattle.graph.proofs.Below.{count_same}
use Rattle.naming.specs.Rename.{Grouping}
use Rattle.naming.proofs.Count.{count_at_most}
use Rattle.table.specs.declared.words.Area.{Area}
use Rattle.table.specs.declared.merge.Pass.{Pass}
use Rattle.table.specs.Inside.Column
use Rattle.table.specs.Inside.Layout.{cell}
use Rattle.table.specs.Inside.Merge.{name_in, range_in, least_of, greatest_of, widened, given_from, absorb_table, absorb_pass}
use Rattle.table.specs.Inside.KindValid.{KindValid, passing, Counts}
use Rattle.table.proofs.MergeKept.{HasKind, Kept, kept_trans, kept_columns}
use Rattle.table.proofs.MergeGive.{Given, given_from_lem}
use Rattle.table.proofs.KindNames.{name_known, same-group}

-- two tests that never both pass below n count together what either counts
count_either : (n : ℕ) (p q : ℕ → Bool) → ((i : ℕ) → i < n → p i ≡ true → q i ≡ true → ⊥)
    → count n p + count n q ≡ count n (λ i. p i || q i)
unfolding count
count_either zero p q apart = omega arith
count_either (suc n) p q apart =
    step (p n) (q n) (apart n (omega arith)) (count n p) (count n q) (count n (λ i. p i || q i))
    (count_either n p q (λ i h. apart i (omega arith)))
  where
    step : (a b : Bool) → (a ≡ true → b ≡ true → ⊥) → (c d e : ℕ) → c + d ≡ e
        → cond a (suc c) c + cond b (suc d) d ≡ cond (a || b) (suc e) e
    step true true f c d e h = absurd (f refl refl)
    step true false f c d e h = omega arith
    step false true f c d e h = omega arith
    step false false f c d e h = h

-- one of two tests passes, or a third, and with it one more: that one passes, and one of the three
either_under : (a b c s : Bool) → (((a || b) && s) || (c && s)) ≡ ((a || (b || c)) && s)
either_under true b c true = refl
either_under true b c false = and-false c
either_under false true c true = refl
either_under false true c false = and-false c
either_under false false c s = refl

-- Item x is in a group that is absorbed: in a merged group, and not in the winner's.
abbrev pub loses : (ℕ → Bool) → List ℕ → Area → ℕ → ℕ → Bool
loses merged t area w x = merged x && not (eqb (name_in t area x) w)

-- What table and pass are once the groups of the items that pass the test have been absorbed.
pub record Absorbing (t₀ : List ℕ) (area : Area) (n : ℕ) (before : Grouping) (w : ℕ) (merged : ℕ → Bool) (t : List ℕ) (p : Pass) : Type 0 where
  pub kept : Kept area t₀ t
  pub names : (x : ℕ) → x < area.size → name_in t area x ≡ name_in t₀ area x
  pub ranges : (x : ℕ) → x < area.size → range_in t area x ≡ range_in t₀ area x
  -- the test passes for all items of a group or for none
  pub whole : (x y : ℕ) → x < n → y < n → name_in t₀ area x ≡ name_in t₀ area y → merged x ≡ true → merged y ≡ true
  -- a column that counts the items of each group that pass a test
  pub winner : (c : ℕ) (test : ℕ → Bool) → Counts t₀ area n before c test
      → cell t area c w ≡ count n (λ x. (eqb (name_in t₀ area x) w || merged x) && test x)
  pub others : (c : ℕ) (test : ℕ → Bool) → Counts t₀ area n before c test → (x : ℕ) → x < n → eqb (name_in t₀ area x) w ≡ false
      → cell t area c (name_in t₀ area x) ≡ cond (merged x) 0 (passing n before test x)
  pub from_least : (x : ℕ) → x < n → loses merged t₀ area w x ≡ true → p.from ≤ x
  pub to_greatest : (x : ℕ) → x < n → loses merged t₀ area w x ≡ true → x < p.to
  pub to_known : p.to ≤ n

-- Over a valid table t₀, with the winner w.
module _ (t₀ : List ℕ) (area : Area) (n : ℕ) (has : HasKind t₀ area) (fits : n ≤ area.size) (small : n < 65536)
    (before : Grouping) (valid : KindValid t₀ area n before) (w : ℕ) (known : w < n) where
  abbrev name : ℕ → ℕ
  name x = name_in t₀ area x

  abbrev wins : ℕ → Bool
  wins x = eqb (name_in t₀ area x) w

  name_within : (x : ℕ) → x < n → name x < area.size
  name_within x h = omega (arith, name_known valid x h)

  module _ (merged : ℕ → Bool) (t : List ℕ) (p : Pass) (s : Absorbing t₀ area n before w merged t p) (i : ℕ) (h : i < n) where
    abbrev more : ℕ → Bool
    more x = merged x || before i x

    whole_more : (x y : ℕ) → x < n → y < n → name x ≡ name y → more x ≡ true → more y ≡ true
    whole_more x y k l e m = go (or_cases (merged x) (before i x) m)
      where
        go : (merged x ≡ true) ⊎ (before i x ≡ true) → more y ≡ true
        go (inl m) = or_left (s.whole x y k l e m) (before i y)
        go (inr b) = or_right (merged y) (same-group valid i y h l ∙ (rw e at (sym (same-group valid i x h k) ∙ b)))

    -- the winner's own group: nothing changes
    absorb_winner : name i ≡ w → Absorbing t₀ area n before w more t p
    absorb_winner e =
        record {
          kept = s.kept;
          names = s.names;
          ranges = s.ranges;
          whole = whole_more;
          winner = λ c test q.
              s.winner c test q ∙ count_same n _ _ (λ x k. ap (λ b. b && test x) (no_more x k));
          others = λ c test q x k d. rw (same x k, d, or-false (merged x)) (s.others c test q x k d);
          from_least = λ x k m. s.from_least x k (rw (same x k, apart (wins x) (merged x)) at m);
          to_greatest = λ x k m. s.to_greatest x k (rw (same x k, apart (wins x) (merged x)) at m);
          to_known = s.to_known;
        }
      where
        same : (x : ℕ) → x < n → before i x ≡ wins x
        same x k = same-group valid i x h k ∙ (rw e (eqb_swap w (name x)))

        twice : (a m : Bool) → (a || m) ≡ (a || (m || a))
        twice true m = refl
        twice false true = refl
        twice false false = refl

        no_more : (x : ℕ) → x < n → (wins x || merged x) ≡ (wins x || more x)
        no_more x k = rw (same x k) (twice (wins x) (merged x))

        apart : (a m : Bool) → ((m || a) && not a) ≡ (m && not a)
        apart true true = refl
        apart true false = refl
        apart false true = refl
        apart false false = refl

    -- another group: it gives what it has to the winner
    module _ (differ : name i ≡ w → ⊥) where
      abbrev after_table : List ℕ
      after_table = given_from t area w (name i) Column.size (area.columns - Column.size)

      abbrev after_pass : Pass
      after_pass = widened p (range_in t area (name i))

      still : HasKind t area
      still = kept_columns s.kept has

      given : Given area w (name i) t Column.size (area.columns - Column.size) after_table
      given =
          given_from_lem area w (name i) (omega arith) (name_within i h) differ (area.columns - Column.size) Column.size t still.columns
          (omega (arith, still.has_size))

      shares : (x : ℕ) → x < n → before i x ≡ true → name i ≡ name x
      shares x k b = eqb_eq (name i) (name x) (sym (same-group valid i x h k) ∙ b)

      -- a column that counts the items that pass a test
      module _ (c : ℕ) (test : ℕ → Bool) (q : Counts t₀ area n before c test) where
        sum : ℕ
        sum = cell t area c w + cell t area c (name i)

        -- a group that was absorbed before brings 0, another its number
        sum_is : sum ≡ count n (λ x. (wins x || more x) && test x)
        unfolding sum
        sum_is = go (true_or_false (merged i))
          where
            brings : (b : Bool) → merged i ≡ b → cell t area c (name i) ≡ cond b 0 (passing n before test i)
            brings b e = rw (← e) (s.others c test q i h (ne_eqb (name i) w differ))

            again : merged i ≡ true → (x : ℕ) → x < n → (wins x || merged x) ≡ (wins x || more x)
            again e x k = inside (true_or_false (before i x))
              where
                inside : (before i x ≡ true) ⊎ (before i x ≡ false) → (wins x || merged x) ≡ (wins x || (merged x || before i x))
                inside (inl b) = rw (b, s.whole i x h k (shares x k b) e)
                inside (inr b) = rw (b, or-false (merged x))

            apart : merged i ≡ false → (x : ℕ) → x < n → ((wins x || merged x) && test x) ≡ true → (before i x && test x) ≡ true → ⊥
            apart e x k m b = either (or_cases (wins x) (merged x) (and_left (wins x || merged x) (test x) m))
              where
                one_name : name i ≡ name x
                one_name = shares x k (and_left (before i x) (test x) b)

                either : (wins x ≡ true) ⊎ (merged x ≡ true) → ⊥
                either (inl a) = differ (one_name ∙ eqb_eq (name x) w a)
                either (inr a) = not_both (s.whole x i k h (sym one_name) a) e

            go : (merged i ≡ true) ⊎ (merged i ≡ false) → cell t area c w + cell t area c (name i) ≡ count n (λ x. (wins x || more x) && test x)
            go (inl e) =
                rw
                (s.winner c test q, brings true e)
                (omega (arith, count_same n _ _ (λ x k. ap (λ b. b && test x) (again e x k))))
            go (inr e) =
                rw
                (s.winner c test q, brings false e)
                (count_either n (λ x. (wins x || merged x) && test x) (λ x. before i x && test x) (apart e)
                ∙ count_same n _ _ (λ x k. either_under (wins x) (merged x) (before i x) (test x)))

        winner_more : cell after_table area c w ≡ count n (λ x. (wins x || more x) && test x)
        unfolding sum
        winner_more =
            given.winner c q.added_up (omega (arith, q.of_kind, q.added_up))
            ∙ mod-eq_of_lt (omega (arith, sum_is, count_at_most n (λ x. (wins x || more x) && test x)))
            ∙ sum_is

        others_more : (x : ℕ) → x < n → wins x ≡ false → cell after_table area c (name x) ≡ cond (more x) 0 (passing n before test x)
        others_more x k d = go (true_or_false (before i x))
          where
            go : (before i x ≡ true) ⊎ (before i x ≡ false)
                → cell after_table area c (name x) ≡ cond (merged x || before i x) 0 (passing n before test x)
            go (inl b) =
                rw (b, or-true (merged x), ← shares x k b) (given.loser c q.added_up (omega (arith, q.of_kind, q.added_up)))
            go (inr b) =
                rw
                (b, or-false (merged x))
                (given.others c (name x) (name_within x k) (λ e. eqb_ne (name x) w d (sym e))
                (eqb_ne (name i) (name x) (sym (same-group valid i x h k) ∙ b))
                ∙ s.others c test q x k d)

      range_is : (x : ℕ) → x < n → before i x ≡ true → range_in t area (name i) ≡ range_in t₀ area (name x)
      range_is x k b = s.ranges (name i) (name_within i h) ∙ ap (range_in t₀ area) (shares x k b)

      absorb_loser : Absorbing t₀ area n before w more after_table after_pass
      unfolding widened
      absorb_loser =
          record {
            kept = kept_trans s.kept given.kept;
            names = λ x k. given.earlier Column.name x (omega arith) k ∙ s.names x k;
            ranges = λ x k. given.earlier Column.range x (omega arith) k ∙ s.ranges x k;
            whole = whole_more;
            winner = winner_more;
            others = others_more;
            from_least = λ x k m. low x k (loser x m);
            to_greatest = λ x k m. high x k (loser x m);
            to_known = ends;
          }
        where
          -- an item of an absorbed group was in one before, or is in the one absorbed now
          loser : (x : ℕ) → loses more t₀ area w x ≡ true → (loses merged t₀ area w x ≡ true) ⊎ (before i x ≡ true)
          loser x m = go (or_cases (merged x) (before i x) (and_left (more x) (not (wins x)) m))
            where
              go : (merged x ≡ true) ⊎ (before i x ≡ true) → (loses merged t₀ area w x ≡ true) ⊎ (before i x ≡ true)
              go (inl a) = inl (and_both a (and_right (more x) (not (wins x)) m))
              go (inr b) = inr b

          low : (x : ℕ) → x < n → (loses merged t₀ area w x ≡ true) ⊎ (before i x ≡ true)
              → min p.from (least_of (range_in t area (name i))) ≤ x
          low x k (inl m) = omega (arith, s.from_least x k m)
          low x k (inr b) = rw (range_is x k b) (omega (arith, valid.from_least x k))

          high : (x : ℕ) → x < n → (loses merged t₀ area w x ≡ true) ⊎ (before i x ≡ true)
              → x < max p.to (greatest_of (range_in t area (name i)) + 1)
          high x k (inl m) = omega (arith, s.to_greatest x k m)
          high x k (inr b) = rw (range_is x k b) (omega (arith, valid.to_greatest x k))

          ends : max p.to (greatest_of (range_in t area (name i)) + 1) ≤ n
          ends = rw (s.ranges (name i) (name_within i h)) (omega (arith, s.to_known, valid.range_known i h))

    -- one group more is absorbed
    pub absorb_one : Absorbing t₀ area n before w more (absorb_table t area w (name i)) (absorb_pass t area w (name i) p)
    unfolding absorb_table absorb_pass
    absorb_one = go (true_or_false (eqb (name i) w))
      where
        go : (eqb (name i) w ≡ true) ⊎ (eqb (name i) w ≡ false)
            → Absorbing t₀ area n before w more (absorb_table t area w (name i)) (absorb_pass t area w (name i) p)
        go (inl e) = rw e (absorb_winner (eqb_eq (name i) w e))
        go (inr e) = rw e (absorb_loser (eqb_ne (name i) w e))
