-- When a list of names names the groups, and how that is kept when an item comes and when groups become one.
use mathlib.Core.Bool.{true, false}
use mathlib.Core.List.{List, [], ◌∷◌, ◌++◌}
use mathlib.Core.Logic.{◌⊎◌, inl, inr}
use mathlib.Core.Path.{◌≡◌, refl, sym, ◌∙◌, subst}
use Prim.Native.Nat.{ℕ, suc, ◌<◌}
use native.Mathlib.Nat.{not-suc-le-zero}
use native.Mathlib.Omega.{arith}
use lib.Dec.{eqb}
use lib.ListN.{length, length-append, get_or-append}
use lib.Seq.{get_or_at}
use Rattle.graph.proofs.Truth.{true_or_false, not_both, bool_ext, eqb_eq, eq-eqb}
use Rattle.graph.proofs.Below.{below_or_last}
use Rattle.naming.specs.Rename.{Grouping, name_of, candidate, holds_several, best_name, rename}
pub use Rattle.naming.specs.Naming.{Naming}
use Rattle.naming.proofs.Equivalent.{Equivalent, Finer, size_same}
use Rattle.naming.proofs.Best.{BestOf, at_most_refl, best_same, best_unique}
use Rattle.naming.proofs.Rename.{AgreeBelow, InGroup, length_rename, name_of_rename, best_name_is, holds_one}

-- no items, no names
pub naming_none : (groups : Grouping) → Naming 0 groups []
naming_none groups =
    record {
      sized = refl;
      one_name = λ x y h. absurd (not-suc-le-zero h);
      one_group = λ x y h. absurd (not-suc-le-zero h);
      name_below = λ x h. absurd (not-suc-le-zero h);
      name_within = λ x h. absurd (not-suc-le-zero h);
    }

-- only the groups of the items below n matter
pub naming_agree : (n : ℕ) (groups groups' : Grouping) (names : List ℕ)
    → AgreeBelow n groups groups'
    → Naming n groups names
    → Naming n groups' names
naming_agree n groups groups' names agree named =
    record {
      sized = named.sized;
      one_name = λ x y h k s. named.one_name x y h k (agree x y h k ∙ s);
      one_group = λ x y h k q. sym (agree x y h k) ∙ named.one_group x y h k q;
      name_below = named.name_below;
      name_within = λ x h. sym (agree x (name_of names x) h (named.name_below x h)) ∙ named.name_within x h;
    }

-- items share a group exactly if they share a name
pub group_by_name : (n : ℕ) (groups : Grouping) (names : List ℕ) → Naming n groups names
    → (x y : ℕ) → x < n → y < n → groups x y ≡ eqb (name_of names x) (name_of names y)
group_by_name n groups names named x y h k =
    bool_ext
    (groups x y)
    (eqb (name_of names x) (name_of names y))
    (λ s. eq-eqb (name_of names x) (name_of names y) (named.one_name x y h k s))
    (λ q. named.one_group x y h k (eqb_eq (name_of names x) (name_of names y) q))

-- the item that a group is named by has that name
pub name_of-name : (n : ℕ) (groups : Grouping) (names : List ℕ) → Naming n groups names
    → (x : ℕ) → x < n → name_of names (name_of names x) ≡ name_of names x
name_of-name n groups names named x h =
    sym (named.one_name x (name_of names x) h (named.name_below x h) (named.name_within x h))

module _ (n : ℕ) (before after : Grouping) (names : List ℕ) (named : Naming n before names) (e : Equivalent before) where
  -- items of one group before bring the same
  pub candidate-same : (x y : ℕ) → x < n → y < n → before x y ≡ true
      → candidate before names x ≡ candidate before names y
  unfolding candidate
  candidate-same x y h k s = λ i. record { size = size_same (length names) before e x y s i; name = named.one_name x y h k s i }

  -- the new name of an item is the best of the groups before that make up its group after
  pub renamed_best : (x : ℕ) → x < n → after x x ≡ true
      → BestOf (candidate before names) (InGroup n after x) (name_of (rename before after names) x)
  unfolding candidate
  renamed_best x h r = go (true_or_false (holds_several before after names x))
    where
      below : (y : ℕ) → y < n → y < length names
      below y l = rw named.sized l

      alone : holds_several before after names x ≡ false
          → (z : ℕ)
          → InGroup n after x z
          → candidate before names z ≡ candidate before names x
      alone f z b = sym (candidate-same x z h b.0 (holds_one before after names x z f (below z b.0) b.1))

      go : (holds_several before after names x ≡ true) ⊎ (holds_several before after names x ≡ false)
          → BestOf (candidate before names) (InGroup n after x) (name_of (rename before after names) x)
      go (inl f) =
          rw
          (name_of_rename before after names x (below x h), f)
          (subst
          (λ (m : ℕ). BestOf (candidate before names) (InGroup m after x) (best_name before after names x))
          named.sized
          (best_name_is before after names x (below x h) r))
      go (inr f) =
          rw
          (name_of_rename before after names x (below x h), f)
          record {
            item = x;
            member = (h, r);
            named = refl;
            beats = λ z b. rw (alone f z b) (at_most_refl (candidate before names x));
          }

  module _ (e' : Equivalent after) (finer : Finer before after) where
    -- the names after name the groups after
    pub names_after_rename : Naming n after (rename before after names)
    unfolding candidate
    names_after_rename =
        record {
          sized = rw length_rename named.sized;
          one_name = λ x y h k s. best_unique (best_same (shift x y s) (shift y x (e'.symmetric x y s)) (best x h)) (best y k);
          one_group = λ x y h k q. met x y (best x h) (best y k) q;
          name_below = λ x h. rw (← (best x h).named) (named.name_below (best x h).item (best x h).member.0);
          name_within = λ x h. within x (best x h);
        }
      where
        name : ℕ → ℕ
        name x = name_of (rename before after names) x

        best : (x : ℕ) → x < n → BestOf (candidate before names) (InGroup n after x) (name x)
        best x h = renamed_best x h (e'.reflexive x)

        shift : (x y : ℕ) → after x y ≡ true → (z : ℕ) → InGroup n after x z → InGroup n after y z
        shift x y s z b = (b.0, e'.transitive y x z (e'.symmetric x y s) b.1)

        met : (x y : ℕ)
            → BestOf (candidate before names) (InGroup n after x) (name x)
            → BestOf (candidate before names) (InGroup n after y) (name y)
            → name x ≡ name y
            → after x y ≡ true
        met x y b c q =
            let p = b.named ∙ q ∙ sym c.named in
            let s = named.one_group b.item c.item b.member.0 c.member.0 p in
            let t = e'.transitive x b.item c.item b.member.1 (finer b.item c.item s) in
            e'.transitive x c.item y t (e'.symmetric y c.item c.member.1)

        within : (x : ℕ) → BestOf (candidate before names) (InGroup n after x) (name x) → after x (name x) ≡ true
        within x b =
            let s = finer b.item (name_of names b.item) (named.name_within b.item b.member.0) in
            rw (← b.named) (e'.transitive x b.item (name_of names b.item) b.member.1 s)

-- an older item keeps its name when one is added behind
pub name_of_old : (names : List ℕ) (m x : ℕ) → x < length names → name_of (names ++ m ∷ []) x ≡ name_of names x
unfolding name_of
name_of_old names m x h = get_or-append names (m ∷ []) 0 x h

-- the name that is added behind is that of the next item
pub name_of_new : (names : List ℕ) (m n : ℕ) → length names ≡ n → name_of (names ++ m ∷ []) n ≡ m
unfolding name_of
name_of_new names m n e = get_or_at names m [] 0 n e

-- a new item, alone in its group and named by its number, leaves the groups named
pub naming_new_item : (n : ℕ) (groups groups' : Grouping) (names : List ℕ)
    → Naming n groups names
    → AgreeBelow n groups groups'
    → ((x : ℕ) → x < n → groups' n x ≡ false)
    → Equivalent groups'
    → Naming (suc n) groups' (names ++ n ∷ [])
naming_new_item n groups groups' names named agree alone e =
    record {
      sized = rw length-append (omega (arith, named.sized));
      one_name = λ x y h k. one x y (below_or_last n x h) (below_or_last n y k);
      one_group = λ x y h k. met x y (below_or_last n x h) (below_or_last n y k);
      name_below = λ x h. small x (below_or_last n x h);
      name_within = λ x h. within x (below_or_last n x h);
    }
  where
    name : ℕ → ℕ
    name x = name_of (names ++ n ∷ []) x

    old : (x : ℕ) → x < n → name x ≡ name_of names x
    old x h = name_of_old names n x (rw named.sized h)

    new : name n ≡ n
    new = name_of_new names n n named.sized

    one : (x y : ℕ) → (x < n) ⊎ (x ≡ n) → (y < n) ⊎ (y ≡ n) → groups' x y ≡ true → name x ≡ name y
    one x y (inl h) (inl k) s = rw (old x h, old y k) (named.one_name x y h k (agree x y h k ∙ s))
    one x y (inl h) (inr k) s = absurd (not_both (e.symmetric x n (rw k at s)) (alone x h))
    one x y (inr h) (inl k) s = absurd (not_both (rw h at s) (alone y k))
    one x y (inr h) (inr k) s = rw (h, k)

    fresh : (x : ℕ) → x < n → name x ≡ name n → ⊥
    fresh x h q = omega (arith, named.name_below x h, sym (old x h) ∙ q ∙ new)

    met : (x y : ℕ) → (x < n) ⊎ (x ≡ n) → (y < n) ⊎ (y ≡ n) → name x ≡ name y → groups' x y ≡ true
    met x y (inl h) (inl k) q = sym (agree x y h k) ∙ named.one_group x y h k (sym (old x h) ∙ q ∙ old y k)
    met x y (inl h) (inr k) q = absurd (fresh x h (rw k at q))
    met x y (inr h) (inl k) q = absurd (fresh y k (rw h at (sym q)))
    met x y (inr h) (inr k) q = rw (h, k) (e.reflexive n)

    small : (x : ℕ) → (x < n) ⊎ (x ≡ n) → name x < suc n
    small x (inl h) = omega (arith, named.name_below x h, old x h)
    small x (inr h) = rw h (omega (arith, new))

    within : (x : ℕ) → (x < n) ⊎ (x ≡ n) → groups' x (name x) ≡ true
    within x (inl h) = rw (old x h) (sym (agree x (name_of names x) h (named.name_below x h)) ∙ named.name_within x h)
    within x (inr h) = rw (h, new) (e.reflexive n)
