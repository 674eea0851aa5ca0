-- The notices of a command: exactly the items of before whose name is another now, each once, by kind and then item, rising.
use mathlib.Core.Bool.{Bool, true, false, not, cond, ◌&&◌, ◌||◌, false≢true, or_assoc, or_self, or-false, and-false}
use mathlib.Core.List.{List, [], ◌∷◌, ◌++◌, map, map-append}
use mathlib.Core.Logic.{◌⊎◌, inl, inr}
use mathlib.Core.Path.{◌≡◌, refl, sym, ◌∙◌, ap}
use Prim.Native.Nat.{ℕ, zero, suc, ◌<◌}
use native.Mathlib.Omega.{arith}
use lib.Dec.{eqb, ltb}
use lib.ListN.{length}
use Rattle.graph.specs.Below.{listed}
use Rattle.graph.specs.Lists.{is_in}
use Rattle.graph.proofs.Truth.{true_or_false, and_left, and_right, eqb_eq, false_of_not_true}
use Rattle.naming.specs.Rename.{Change, name_of, changed_items, changes_between}
use Rattle.naming.specs.Book.{Book}
use Rattle.commands.specs.Field.{Kind, district, ring, mesh}
use Rattle.commands.specs.Answer.{kind_byte, Notice, change_notice, changes, notices}
use Rattle.commands.specs.WholeRun.{EachNotice, same_kind, items_of}
use Rattle.commands.proofs.SizedBook.{SizedBook, names_in, sized_names}
use Rattle.graph.proofs.Members.{is_in-listed}

-- the item's name is another now
abbrev pub differs : List ℕ → List ℕ → ℕ → Bool
differs old new x = not (eqb (name_of old x) (name_of new x))

-- the items that had a name before and have another now
abbrev pub changed : List ℕ → List ℕ → List ℕ
changed old new = listed (length old) (differs old new)

-- the notice of an item's name
abbrev pub told_of : Kind → (ℕ → ℕ) → ℕ → Notice
told_of kind name x = record { kind = kind; item = x; name = name x }

module _ (f : ℕ → Notice) (p : ℕ → Bool) where
  -- the notices of the numbers below n that pass the test
  abbrev pub told : ℕ → List Notice
  told n = map f (listed n p)

  -- what holds of no notice, and still holds when the next number is told or passed over, holds of them
  pub told_ind : (Q : ℕ → List Notice → Type 0) → Q 0 []
      → ((n : ℕ) → p n ≡ true → Q n (told n) → Q (suc n) (told n ++ f n ∷ []))
      → ((n : ℕ) → p n ≡ false → Q n (told n) → Q (suc n) (told n)) → (n : ℕ) → Q n (told n)
  unfolding listed
  told_ind Q base yes' no' zero = base
  told_ind Q base yes' no' (suc n) = go (told_ind Q base yes' no' n) (true_or_false (p n))
    where
      go : Q n (told n) → (p n ≡ true) ⊎ (p n ≡ false) → Q (suc n) (map f (cond (p n) (listed n p ++ n ∷ []) (listed n p)))
      go ih (inl q) = rw (q, map-append f (listed n p) (n ∷ [])) (yes' n q ih)
      go ih (inr q) = rw q (no' n q ih)

-- what holds of each notice of two lists holds of each of both together
pub each_append : (P : Notice → Type 0) (ts us : List Notice) → EachNotice P ts → EachNotice P us → EachNotice P (ts ++ us)
each_append P [] us h k = k
each_append P (t ∷ ts) us h k = (h.0, each_append P ts us h.1 k)

-- what holds of the notice of each number that passes the test holds of each notice told
pub each_told : (f : ℕ → Notice) (p : ℕ → Bool) (P : Notice → Type 0) (n : ℕ)
    → ((x : ℕ) → x < n → p x ≡ true → P (f x)) → EachNotice P (told f p n)
each_told f p P =
    told_ind
    f
    p
    (λ n ts. ((x : ℕ) → x < n → p x ≡ true → P (f x)) → EachNotice P ts)
    (λ h. tt)
    (λ n q ih h. each_append P (told f p n) (f n ∷ []) (ih (λ x l. h x (omega arith))) (h n (omega arith) q, tt))
    (λ n q ih h. ih (λ x l. h x (omega arith)))

-- the notices of a kind, by the items that changed
pub changes_told : (kind : Kind) (old new : List ℕ) → changes kind old new ≡ map (told_of kind (name_of new)) (changed_items old new)
unfolding changes changes_between change_notice
changes_told kind old new = go (changed_items old new)
  where
    go : (l : List ℕ) → map (change_notice kind) (map (λ x. let c : Change = record { item = x; name = name_of new x } in c) l) ≡ map (told_of kind (name_of new)) l
    go [] = refl
    go (x ∷ l) = ap (λ r. told_of kind (name_of new) x ∷ r) (go l)

-- the notices of one kind
abbrev pub changes_of : Kind → Book → Book → List Notice
changes_of kind b b' = changes kind (names_in kind b) (names_in kind b')

-- the notices, kind by kind
pub by_kind : (b b' : Book) → notices b b' ≡ changes_of district b b' ++ changes_of ring b b' ++ changes_of mesh b b'
unfolding notices names_in
by_kind b b' = refl

module _ (P : Notice → Type 0) (b b' : Book) (s : SizedBook b) where
  -- it holds of the notice of every item of this kind that was there before and whose name is another now
  abbrev pub EachChanged : Kind → Type 0
  EachChanged kind =
      (x : ℕ) → x < items_of kind b.network → eqb (name_of (names_in kind b) x) (name_of (names_in kind b') x) ≡ false
      → P (told_of kind (name_of (names_in kind b')) x)

  each_change : (kind : Kind) → EachChanged kind → EachNotice P (changes_of kind b b')
  unfolding changed_items
  each_change kind h =
      rw (changes_told kind (names_in kind b) (names_in kind b'))
      (each_told
      (told_of kind (name_of (names_in kind b')))
      (differs (names_in kind b) (names_in kind b'))
      P
      (length (names_in kind b))
      (λ x l d.
      h x (omega (arith, sized_names b s kind)) (false_of_not_true (eqb (name_of (names_in kind b) x) (name_of (names_in kind b') x)) d)))

  -- what holds of the notices of all such items holds of each notice of the command
  pub each_notice : ((kind : Kind) → EachChanged kind) → EachNotice P (notices b b')
  each_notice h =
      rw (by_kind b b')
      (each_append
      P
      (changes_of district b b' ++ changes_of ring b b')
      (changes_of mesh b b')
      (each_append P (changes_of district b b') (changes_of ring b b') (each_change district (h district)) (each_change ring (h ring)))
      (each_change mesh (h mesh)))

-- the two notices agree in kind, item and name
unfoldable pub same_notice : Notice → Notice → Bool
same_notice t u = same_kind t.kind u.kind && (eqb t.item u.item && eqb t.name u.name)

-- the notice stands in the list
unfoldable pub is_among : Notice → List Notice → Bool
is_among t [] = false
is_among t (u ∷ us) = same_notice t u || is_among t us

same_kind_lem : (k l : Kind) → same_kind k l ≡ true → k ≡ l
unfolding same_kind kind_byte
same_kind_lem district district e = refl
same_kind_lem district ring e = absurd (false≢true e)
same_kind_lem district mesh e = absurd (false≢true e)
same_kind_lem ring district e = absurd (false≢true e)
same_kind_lem ring ring e = refl
same_kind_lem ring mesh e = absurd (false≢true e)
same_kind_lem mesh district e = absurd (false≢true e)
same_kind_lem mesh ring e = absurd (false≢true e)
same_kind_lem mesh mesh e = refl

-- notices that agree are equal
pub same-notice : (t u : Notice) → same_notice t u ≡ true → t ≡ u
unfolding same_notice
same-notice t u e =
    let kinds = same_kind t.kind u.kind in
    let items = eqb t.item u.item in
    let names = eqb t.name u.name in
    let rest : (items && names) ≡ true = and_right kinds (items && names) e in
    λ i.
    record {
      kind = same_kind_lem t.kind u.kind (and_left kinds (items && names) e) i;
      item = eqb_eq t.item u.item (and_left items names rest) i;
      name = eqb_eq t.name u.name (and_right items names rest) i;
    }

among_append : (t : Notice) (us vs : List Notice) → is_among t (us ++ vs) ≡ is_among t us || is_among t vs
unfolding is_among
among_append t [] vs = refl
among_append t (u ∷ us) vs = rw (among_append t us vs) (sym (or_assoc (same_notice t u) (is_among t us) (is_among t vs)))

absorbed : (k e m i n : Bool) → (e ≡ true → m ≡ n) → (k && (e && m) || k && (i && n)) ≡ (k && ((e || i) && n))
absorbed false e m i n h = refl
absorbed true false m i n h = refl
absorbed true true m true n h = rw (h refl) (or_self n)
absorbed true true m false n h = rw (h refl) (or-false n)

among_told : (t : Notice) (kind : Kind) (g : ℕ → ℕ) (xs : List ℕ)
    → is_among t (map (told_of kind g) xs) ≡ same_kind t.kind kind && (is_in t.item xs && eqb t.name (g t.item))
unfolding is_among is_in same_notice
among_told t kind g [] = sym (and-false (same_kind t.kind kind))
among_told t kind g (x ∷ xs) =
    rw (among_told t kind g xs)
    (absorbed
    (same_kind t.kind kind)
    (eqb t.item x)
    (eqb t.name (g x))
    (is_in t.item xs)
    (eqb t.name (g t.item))
    (λ e. ap (λ y. eqb t.name (g y)) (sym (eqb_eq t.item x e))))

-- the item is one of before, its name is another now, and this is the new name
unfoldable pub is_change : Book → Book → Kind → ℕ → ℕ → Bool
is_change b b' kind x name =
    ltb x (items_of kind b.network) && differs (names_in kind b) (names_in kind b') x && eqb name (name_of (names_in kind b') x)

module _ (b b' : Book) (s : SizedBook b) where
  among_changes : (kind : Kind) (t : Notice)
      → is_among t (changes_of kind b b') ≡ same_kind t.kind kind && is_change b b' kind t.item t.name
  unfolding changed_items is_change
  among_changes kind t =
      ap (is_among t) (changes_told kind (names_in kind b) (names_in kind b'))
      ∙ among_told t kind (name_of (names_in kind b')) (changed (names_in kind b) (names_in kind b'))
      ∙ rw (is_in-listed (length (names_in kind b)) (differs (names_in kind b) (names_in kind b')) t.item, sized_names b s kind)

  -- a notice stands among the notices exactly if it tells such a change
  pub among_notices : (kind : Kind) (x name : ℕ)
      → is_among (record { kind = kind; item = x; name = name }) (notices b b') ≡ is_change b b' kind x name
  unfolding same_kind kind_byte
  among_notices district x name = simp (by_kind b b', among_append, among_changes, or-false)
  among_notices ring x name = simp (by_kind b b', among_append, among_changes, or-false)
  among_notices mesh x name = simp (by_kind b b', among_append, among_changes)
