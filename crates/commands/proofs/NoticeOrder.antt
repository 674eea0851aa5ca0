-- The notices of a command stand by kind, then item, rising, so that none stands there twice; and how many there are of a kind.
use mathlib.Core.Bool.{Bool, true, false, cond, ◌&&◌, ◌||◌, and-false}
use mathlib.Core.List.{List, [], ◌∷◌, ◌++◌, map}
use mathlib.Core.Path.{◌≡◌, refl, sym, ◌∙◌, ap}
use Prim.Native.Nat.{ℕ, suc, ◌+◌, ◌*◌, ◌≤◌, ◌<◌}
use native.Mathlib.Nat.{zero-add, add-zero}
use native.Mathlib.Omega.{arith}
use lib.Dec.{ltb}
use lib.ListN.{length}
use Rattle.graph.specs.Below.{count}
use Rattle.graph.specs.Network.{edge_count}
use Rattle.graph.proofs.Truth.{false_of_not, not_both, or_left, or_right, or_neither, and_both, lt-ltb, ge_ltb}
use Rattle.naming.specs.Rename.{name_of, changed_items}
use Rattle.naming.specs.Book.{Book}
use Rattle.naming.proofs.Count.{count_at_most}
use Rattle.commands.specs.Field.{Kind, district, ring, mesh}
use Rattle.commands.specs.Answer.{kind_byte, Notice, notices}
use Rattle.commands.specs.WholeRun.{EachNotice, same_kind, count_notices, items_of}
use Rattle.commands.proofs.SizedBook.{SizedBook, names_in, sized_names}
use Rattle.commands.proofs.Notices.{told_of, told, changes_told, told_ind, each_append, each_told, changes_of, by_kind, differs, changed, is_among, same_notice, same-notice}

-- the first notice is of an earlier kind, or of one kind with the other and of a lower item
unfoldable pub is_before : Notice → Notice → Bool
is_before t u = ltb (kind_byte t.kind) (kind_byte u.kind) || (same_kind t.kind u.kind && ltb t.item u.item)

-- the notice is before every notice of the list
abbrev pub BeforeEach : List Notice → Notice → Type 0
BeforeEach ts t = EachNotice (λ u. is_before t u ≡ true) ts

-- each notice is before all that stand behind it
abbrev pub Rising : List Notice → Type 0
Rising [] = Unit
Rising (t ∷ ts) = BeforeEach ts t × Rising ts

rising_append : (ts us : List Notice) → Rising ts → Rising us → EachNotice (BeforeEach us) ts → Rising (ts ++ us)
rising_append [] us r q h = q
rising_append (t ∷ ts) us r q h =
    (each_append (λ u. is_before t u ≡ true) ts us r.0 h.0, rising_append ts us r.1 q h.1)

same_kind_self : (k : Kind) → same_kind k k ≡ true
unfolding same_kind kind_byte
same_kind_self district = refl
same_kind_self ring = refl
same_kind_self mesh = refl

lower_before : (kind : Kind) (g : ℕ → ℕ) (x n : ℕ) → x < n → is_before (told_of kind g x) (told_of kind g n) ≡ true
unfolding is_before
lower_before kind g x n h = or_right (ltb (kind_byte kind) (kind_byte kind)) (and_both (same_kind_self kind) (lt-ltb x n h))

rising_told : (kind : Kind) (g : ℕ → ℕ) (p : ℕ → Bool) (n : ℕ) → Rising (told (told_of kind g) p n)
rising_told kind g p =
    told_ind
    (told_of kind g)
    p
    (λ n ts. Rising ts)
    tt
    (λ n q ih.
    rising_append
    (told (told_of kind g) p n)
    (told_of kind g n ∷ [])
    ih
    (tt, tt)
    (each_told (told_of kind g) p (BeforeEach (told_of kind g n ∷ [])) n (λ x h e. (lower_before kind g x n h, tt))))
    (λ n q ih. ih)

-- the notices of an earlier kind are before those of a later
kinds_before : (b b' : Book) (k l : Kind) → ltb (kind_byte k) (kind_byte l) ≡ true
    → EachNotice (BeforeEach (changes_of l b b')) (changes_of k b b')
unfolding changed_items is_before
kinds_before b b' k l e =
    let told_k = told_of k (name_of (names_in k b')) in
    let told_l = told_of l (name_of (names_in l b')) in
    rw (changes_told k (names_in k b) (names_in k b'), changes_told l (names_in l b) (names_in l b'))
    (each_told
    told_k
    (differs (names_in k b) (names_in k b'))
    (BeforeEach (told told_l (differs (names_in l b) (names_in l b')) (length (names_in l b))))
    (length (names_in k b))
    (λ x h d.
    each_told
    told_l
    (differs (names_in l b) (names_in l b'))
    (λ u. is_before (told_k x) u ≡ true)
    (length (names_in l b))
    (λ y h' d'. or_left e (same_kind k l && ltb x y))))

-- the notices rise by kind, then item
pub notices_rise : (b b' : Book) → Rising (notices b b')
unfolding kind_byte changed_items
notices_rise b b' =
    rw (by_kind b b')
    (rising_append
    (changes_of district b b' ++ changes_of ring b b')
    (changes_of mesh b b')
    (rising_append
    (changes_of district b b')
    (changes_of ring b b')
    (of district)
    (of ring)
    (kinds_before b b' district ring refl))
    (of mesh)
    (each_append
    (BeforeEach (changes_of mesh b b'))
    (changes_of district b b')
    (changes_of ring b b')
    (kinds_before b b' district mesh refl)
    (kinds_before b b' ring mesh refl)))
  where
    of : (kind : Kind) → Rising (changes_of kind b b')
    of kind =
        rw (changes_told kind (names_in kind b) (names_in kind b'))
        (rising_told kind (name_of (names_in kind b')) (differs (names_in kind b) (names_in kind b')) (length (names_in kind b)))

-- no notice is before itself
pub not_before_self : (t : Notice) → is_before t t ≡ false
unfolding is_before
not_before_self t =
    or_neither
    (ge_ltb (kind_byte t.kind) (kind_byte t.kind) (omega arith))
    (rw (ge_ltb t.item t.item (omega arith)) (and-false (same_kind t.kind t.kind)))

-- a notice that is before all of a list does not stand in it: in a rising list none stands twice
pub stands_once : (t : Notice) (ts : List Notice) → BeforeEach ts t → is_among t ts ≡ false
unfolding is_among
stands_once t [] h = refl
stands_once t (u ∷ us) h =
    or_neither
    (false_of_not (same_notice t u) (λ e. not_both h.0 (ap (is_before t) (sym (same-notice t u e)) ∙ not_before_self t)))
    (stands_once t us h.1)

count-append : (kind : Kind) (ts us : List Notice) → count_notices kind (ts ++ us) ≡ count_notices kind ts + count_notices kind us
unfolding count_notices
count-append kind [] us = omega arith
count-append kind (t ∷ ts) us =
    rw (count-append kind ts us) (go (count_notices kind ts) (count_notices kind us) (same_kind kind t.kind))
  where
    go : (m n : ℕ) (same : Bool) → cond same (suc (m + n)) (m + n) ≡ cond same (suc m) m + n
    go m n true = omega arith
    go m n false = refl

-- those of the kind
count_own : (kind : Kind) (g : ℕ → ℕ) (p : ℕ → Bool) (n : ℕ) → count_notices kind (told (told_of kind g) p n) ≡ count n p
unfolding count_notices count
count_own kind g p =
    told_ind
    (told_of kind g)
    p
    (λ n ts. count_notices kind ts ≡ count n p)
    refl
    (λ n q ih. rw (count-append, ih, q, same_kind_self kind) (omega arith))
    (λ n q ih. rw (q, ih))

-- those of another kind
count_other : (kind other : Kind) (g : ℕ → ℕ) → same_kind kind other ≡ false → (xs : List ℕ)
    → count_notices kind (map (told_of other g) xs) ≡ 0
unfolding count_notices
count_other kind other g e [] = refl
count_other kind other g e (x ∷ xs) = rw e (count_other kind other g e xs)

-- all notices are those of the three kinds
pub length_by_kind : (ts : List Notice) → length ts ≡ count_notices district ts + count_notices ring ts + count_notices mesh ts
unfolding count_notices same_kind kind_byte
length_by_kind [] = refl
length_by_kind (t ∷ ts) = go t.kind (length_by_kind ts)
  where
    d : ℕ
    d = count_notices district ts

    r : ℕ
    r = count_notices ring ts

    m : ℕ
    m = count_notices mesh ts

    go : (kind : Kind) → length ts ≡ d + r + m
        → suc (length ts)
        ≡ cond (same_kind district kind) (suc d) d + cond (same_kind ring kind) (suc r) r + cond (same_kind mesh kind) (suc m) m
    go district e = omega arith
    go ring e = omega arith
    go mesh e = omega arith

module _ (b b' : Book) (s : SizedBook b) where
  own : (kind : Kind)
      → count_notices kind (changes_of kind b b') ≡ count (items_of kind b.network) (differs (names_in kind b) (names_in kind b'))
  unfolding changed_items
  own kind =
      rw (changes_told kind (names_in kind b) (names_in kind b'), ← sized_names b s kind)
      (count_own kind (name_of (names_in kind b')) (differs (names_in kind b) (names_in kind b')) (length (names_in kind b)))

  others : (kind other : Kind) → same_kind kind other ≡ false → count_notices kind (changes_of other b b') ≡ 0
  unfolding changed_items
  others kind other e =
      rw (changes_told other (names_in other b) (names_in other b'))
      (count_other kind other (name_of (names_in other b')) e (changed (names_in other b) (names_in other b')))

  -- the notices of a kind are as many as the items of that kind whose name is another now
  pub count_notices_lem : (kind : Kind)
      → count_notices kind (notices b b') ≡ count (items_of kind b.network) (differs (names_in kind b) (names_in kind b'))
  unfolding same_kind kind_byte
  count_notices_lem district =
      simp (by_kind b b', count-append, own, others district ring refl, others district mesh refl, add-zero)
  count_notices_lem ring = simp (by_kind b b', count-append, own, others ring district refl, others ring mesh refl, add-zero, zero-add)
  count_notices_lem mesh = simp (by_kind b b', count-append, own, others mesh district refl, others mesh ring refl, zero-add)

  few_of_kind : (kind : Kind) → count_notices kind (notices b b') ≤ items_of kind b.network
  few_of_kind kind =
      rw (count_notices_lem kind) (count_at_most (items_of kind b.network) (differs (names_in kind b) (names_in kind b')))

  -- so there are at most two for each cabinet and one for each span
  pub few_notices : length (notices b b') ≤ 2 * b.network.vertices + edge_count b.network
  unfolding items_of
  few_notices =
      omega (arith, length_by_kind (notices b b'), few_of_kind district, few_of_kind ring, few_of_kind mesh)
