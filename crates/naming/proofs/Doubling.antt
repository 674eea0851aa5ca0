-- An item whose name changes finds itself in a group at least twice as large.
use mathlib.Core.Bool.{false}
use mathlib.Core.List.{List}
use mathlib.Core.Logic.{◌≢◌}
use mathlib.Core.Path.{◌≡◌, sym, ◌∙◌}
use Prim.Native.Nat.{ℕ, ◌*◌, ◌≤◌, ◌<◌}
use native.Mathlib.Omega.{arith}
use Rattle.graph.proofs.Truth.{false_of_not}
use Rattle.naming.specs.Rename.{Grouping, size, name_of, candidate, rename}
use Rattle.naming.proofs.Equivalent.{Equivalent, Finer, sizes_add}
use Rattle.naming.proofs.Best.{BestOf}
use Rattle.naming.proofs.Rename.{InGroup}
use Rattle.naming.proofs.Naming.{Naming, renamed_best}

-- a changed name means a group after of at least twice the size of the group before
pub rename_doubles : (n : ℕ) (before after : Grouping) (names : List ℕ)
    → Naming n before names
    → Equivalent before
    → Equivalent after
    → Finer before after
    → (x : ℕ)
    → x < n
    → name_of (rename before after names) x ≢ name_of names x
    → 2 * size n before x ≤ size n after x
unfolding candidate
rename_doubles n before after names named e e' finer x h changed =
    omega (arith, no_larger, sizes_add n before after e e' finer x b.item apart b.member.1)
  where
    b : BestOf (candidate before names) (InGroup n after x) (name_of (rename before after names) x)
    b = renamed_best n before after names named e x h (e'.reflexive x)

    -- the group that gave the name was no smaller
    no_larger : size n before x ≤ size n before b.item
    no_larger = rw named.sized at (b.beats x (h, e'.reflexive x)).no_larger

    -- and it was another
    apart : before x b.item ≡ false
    apart =
        false_of_not
        (before x b.item)
        (λ s. changed (sym b.named ∙ sym (named.one_name x b.item h b.member.0 s)))
