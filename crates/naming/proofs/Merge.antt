-- Where some groups, given by a list of items in them, become one: each of their items gets the best of their names.
use mathlib.Core.Bool.{Bool, true, false, ◌&&◌, ◌||◌, false≢true}
use mathlib.Core.List.Memᴰ
use mathlib.Core.List.{List, [], ◌∷◌, Memᴰ}
use mathlib.Core.Logic.{◌⊎◌, inl, inr}
use mathlib.Core.Path.{◌≡◌, refl, sym, ◌∙◌}
use Prim.Native.Nat.{ℕ, ◌<◌}
use Rattle.graph.proofs.Truth.{or_cases, or_left, or_right, and_left, and_right, and_both, not_both}
use Rattle.naming.specs.Rename.{Grouping, name_of, Candidate, candidate, best_of, rename}
use Rattle.naming.proofs.Equivalent.{Equivalent}
use Rattle.naming.proofs.Best.{BestOf, AtMost, best_name_lem, best_of_list, best_determined}
use Rattle.naming.proofs.Rename.{InGroup}
use Rattle.naming.proofs.Naming.{Naming, candidate-same, renamed_best}

-- Item x is in the group of one of the listed items.
unfoldable pub in_merged : Grouping → List ℕ → ℕ → Bool
in_merged groups [] x = false
in_merged groups (r ∷ rs) x = groups r x || in_merged groups rs x

-- The listed item whose group holds x.
pub record Holder (groups : Grouping) (rs : List ℕ) (x : ℕ) : Type 0 where
  pub at : ℕ
  pub member : Memᴰ at rs
  pub holds : groups at x ≡ true

-- an item of the merged groups is in the group of a listed item
pub holder : (groups : Grouping) (rs : List ℕ) (x : ℕ) → in_merged groups rs x ≡ true → Holder groups rs x
unfolding in_merged
holder groups [] x e = absurd (false≢true e)
holder groups (r ∷ rs) x e = go (holder groups rs x) (or_cases (groups r x) (in_merged groups rs x) e)
  where
    later : Holder groups rs x → Holder groups (r ∷ rs) x
    later h = record { at = h.at; member = Memᴰ.tail h.member; holds = h.holds }

    go : (in_merged groups rs x ≡ true → Holder groups rs x)
        → (groups r x ≡ true) ⊎ (in_merged groups rs x ≡ true)
        → Holder groups (r ∷ rs) x
    go f (inl h) = record { at = r; member = Memᴰ.head refl; holds = h }
    go f (inr h) = later (f h)

-- the groups of the listed items are among those merged
pub held : (groups : Grouping) (rs : List ℕ) (z x : ℕ) → Memᴰ z rs → groups z x ≡ true → in_merged groups rs x ≡ true
unfolding in_merged
held groups [] z x m h = absurd (Memᴰ.not-nil m)
held groups (r ∷ rs) z x m h = go (held groups rs z x) (Memᴰ.cases_cons m)
  where
    go : (Memᴰ z rs → groups z x ≡ true → in_merged groups rs x ≡ true)
        → (z ≡ r) ⊎ Memᴰ z rs
        → (groups r x || in_merged groups rs x) ≡ true
    go f (inl e) = or_left (rw e at h) (in_merged groups rs x)
    go f (inr k) = or_right (groups r x) (f k h)

-- The groups before of the listed items become one, and no other group changes.
abbrev pub Merges : ℕ → Grouping → Grouping → List ℕ → Type 0
Merges n before after rs =
    (x y : ℕ) → x < n → y < n → after x y ≡ (before x y || (in_merged before rs x && in_merged before rs y))

module _ (n : ℕ) (before after : Grouping) (names : List ℕ) (named : Naming n before names) (e : Equivalent before)
    (r : ℕ) (rs : List ℕ) (small : (z : ℕ) → Memᴰ z (r ∷ rs) → z < n) (merges : Merges n before after (r ∷ rs)) where
  abbrev of : ℕ → Candidate
  of = candidate before names

  abbrev merged : ℕ → Bool
  merged = in_merged before (r ∷ rs)

  -- the new name is the best of the group after
  best : (x : ℕ) → x < n → BestOf of (InGroup n after x) (name_of (rename before after names) x)
  best x h = renamed_best n before after names named e x h (merges x x h h ∙ or_left (e.reflexive x) (merged x && merged x))

  -- two items of one group after shared a group before, or both were in the merged groups
  shared : (x y : ℕ) → x < n → InGroup n after x y → (before x y ≡ true) ⊎ ((merged x && merged y) ≡ true)
  shared x y h b = or_cases (before x y) (merged x && merged y) (sym (merges x y h b.0) ∙ b.1)

  -- what shares a group after with an item of the merged groups is in them too
  into : (x y : ℕ) → x < n → merged x ≡ true → InGroup n after x y → merged y ≡ true
  into x y h m b = go (shared x y h b)
    where
      go : (before x y ≡ true) ⊎ ((merged x && merged y) ≡ true) → merged y ≡ true
      go (inl s) =
          let k = holder before (r ∷ rs) x m in
          held before (r ∷ rs) k.at y k.member (e.transitive k.at x y k.holds s)
      go (inr s) = and_right (merged x) (merged y) s

  -- each item of the merged groups gets the best of their names
  pub merge_best : (x : ℕ) → x < n → in_merged before (r ∷ rs) x ≡ true
      → name_of (rename before after names) x
      ≡ (best_of (candidate before names) (candidate before names r) rs).name
  merge_best x h m =
      best_determined
      b
      b'
      (beaten (holder before (r ∷ rs) b.item (into x b.item h m b.member)))
      (b.beats b'.item listed)
    where
      b : BestOf of (InGroup n after x) (name_of (rename before after names) x)
      b = best x h

      b' : BestOf of (λ z. Memᴰ z (r ∷ rs)) (best_of of (of r) rs).name
      b' = best_name_lem (best_of_list of r rs)

      -- the best of the group after is in the group of a listed item
      beaten : Holder before (r ∷ rs) b.item → AtMost (of b.item) (of b'.item)
      beaten k =
          rw
          (candidate-same n before after names named e k.at b.item (small k.at k.member) b.member.0 k.holds)
          at
          (b'.beats k.at k.member)

      -- the best of the list is in the group after
      listed : InGroup n after x b'.item
      listed =
          let l = small b'.item b'.member in
          let k = held before (r ∷ rs) b'.item b'.item b'.member (e.reflexive b'.item) in
          (l, merges x b'.item h l ∙ or_right (before x b'.item) (and_both m k))

  -- every other item keeps its name
  pub merge_stays : (x : ℕ) → x < n → in_merged before (r ∷ rs) x ≡ false
      → name_of (rename before after names) x ≡ name_of names x
  unfolding candidate
  merge_stays x h m =
      sym b.named ∙ sym (named.one_name x b.item h b.member.0 (go (shared x b.item h b.member)))
    where
      b : BestOf of (InGroup n after x) (name_of (rename before after names) x)
      b = best x h

      go : (before x b.item ≡ true) ⊎ ((merged x && merged b.item) ≡ true) → before x b.item ≡ true
      go (inl s) = s
      go (inr s) = absurd (not_both (and_left (merged x) (merged b.item) s) m)
