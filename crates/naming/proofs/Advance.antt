-- What an addition does to the groups of a kind and to their names.
use mathlib.Core.Bool.{true, false}
use mathlib.Core.List.{List, [], ◌∷◌, ◌++◌}
use mathlib.Core.Logic.{◌⊎◌, inl, inr, ◌≢◌}
use mathlib.Core.Path.{◌≡◌, refl, ◌∙◌}
use Prim.Native.Nat.{ℕ, suc, ◌*◌, ◌≤◌, ◌<◌}
use native.Mathlib.Omega.{arith}
use lib.Dec.{eqb}
use Rattle.graph.proofs.Truth.{true_or_false, eqb_eq, eqb_ne}
use Rattle.naming.specs.Rename.{Grouping, size, name_of, rename}
use Rattle.naming.proofs.Equivalent.{Equivalent, Finer, size_agree, size_more, size_finer}
use Rattle.naming.proofs.Rename.{AgreeBelow}
use Rattle.naming.proofs.Naming.{Naming, naming_agree, names_after_rename, naming_new_item, name_of_old}
use Rattle.naming.proofs.Doubling.{rename_doubles}

-- From n items to n', from the groups before to those after, and from the names before to those after.
pub record Advance (n n' : ℕ) (before after : Grouping) (names names' : List ℕ) : Type 0 where
  -- the names after name the groups after
  pub named : Naming n' after names'
  -- no item is lost
  pub no_fewer : n ≤ n'
  -- no item finds itself in a smaller group
  pub no_smaller : (x : ℕ) → x < n → size n before x ≤ size n' after x
  -- an item whose name is another now finds itself in a group at least twice as large
  pub doubles : (x : ℕ) → x < n → name_of names' x ≢ name_of names x → 2 * size n before x ≤ size n' after x

-- groups that stay as they are keep their names
pub advance_same : (n : ℕ) (before after : Grouping) (names : List ℕ)
    → Naming n before names
    → AgreeBelow n before after
    → Advance n n before after names names
advance_same n before after names named agree =
    record {
      named = naming_agree n before after names agree named;
      no_fewer = omega arith;
      no_smaller = λ x h. omega (arith, size_agree n before after x (λ y k. agree x y h k));
      doubles = λ x h d. absurd (d refl);
    }

-- a new item, alone in its group, is named by its number
pub advance_new_item : (n : ℕ) (groups : Grouping) (names : List ℕ)
    → Naming n groups names
    → Equivalent groups
    → ((x : ℕ) → x < n → groups n x ≡ false)
    → Advance n (suc n) groups groups names (names ++ n ∷ [])
advance_new_item n groups names named e alone =
    record {
      named = naming_new_item n groups groups names named (λ x y h k. refl) alone e;
      no_fewer = omega arith;
      no_smaller = λ x h. size_more n (suc n) groups x (omega arith);
      doubles = λ x h d. absurd (d (name_of_old names n x (rw named.sized h)));
    }

-- groups that become one take the best of their names
pub advance_rename : (n : ℕ) (before after : Grouping) (names : List ℕ)
    → Naming n before names
    → Equivalent before
    → Equivalent after
    → Finer before after
    → Advance n n before after names (rename before after names)
advance_rename n before after names named e e' finer =
    record {
      named = names_after_rename n before after names named e e' finer;
      no_fewer = omega arith;
      no_smaller = λ x h. size_finer n before after finer x;
      doubles = rename_doubles n before after names named e e' finer;
    }

-- two additions, one after the other
pub advance_trans : {n n' n'' : ℕ} {before between after : Grouping} {names names' names'' : List ℕ}
    → Advance n n' before between names names'
    → Advance n' n'' between after names' names''
    → Advance n n'' before after names names''
advance_trans {n} {n'' = n''} {before} {after = after} {names} {names'} {names''} a b =
    record {
      named = b.named;
      no_fewer = omega arith;
      no_smaller = λ x h. omega (arith, a.no_smaller x h, b.no_smaller x (omega arith));
      doubles = λ x h d. go x h d (true_or_false (eqb (name_of names' x) (name_of names x)));
    }
  where
    go : (x : ℕ) → x < n → name_of names'' x ≢ name_of names x
        → (eqb (name_of names' x) (name_of names x) ≡ true) ⊎ (eqb (name_of names' x) (name_of names x) ≡ false)
        → 2 * size n before x ≤ size n'' after x
    go x h d (inl s) =
        omega (
          arith,
          a.no_smaller x h,
          b.doubles x (omega arith) (λ t. d (t ∙ eqb_eq (name_of names' x) (name_of names x) s)),
        )
    go x h d (inr s) =
        omega (
          arith,
          a.doubles x h (eqb_ne (name_of names' x) (name_of names x) s),
          b.no_smaller x (omega arith),
        )
