-- Names of groups of any item, and what becomes of them when groups become one.
use Rattle.std.specs.Prelude.{Bool, not, cond, ◌&&◌, ◌||◌, List, [], ◌∷◌, map, ℕ, eqb, leb, ltb, length, get_or}
use Rattle.graph.specs.Below.{any_below, count, listed, tabulate}

-- Which items share a group.
abbrev pub Grouping : Type 0
Grouping = ℕ → ℕ → Bool

-- How many of the items below n are in x's group.
unfoldable pub size : ℕ → Grouping → ℕ → ℕ
size n groups x = count n (groups x)

-- The name of item x.
unfoldable pub name_of : List ℕ → ℕ → ℕ
name_of names x = get_or names x 0

-- The items that had a name before and have another now, rising.
unfoldable pub changed_items : List ℕ → List ℕ → List ℕ
changed_items old new = listed (length old) (λ x. not (eqb (name_of old x) (name_of new x)))

-- An item with its new name.
pub record Change : Type 0 where
  pub item : ℕ
  pub name : ℕ

-- The items that had a name before and have another now, rising, each with its new name.
unfoldable pub changes_between : List ℕ → List ℕ → List Change
changes_between old new = map (λ x. record { item = x; name = name_of new x }) (changed_items old new)

-- What a group brings to a join: its size and its name.
pub record Candidate : Type 0 where
  pub size : ℕ
  pub name : ℕ

-- The larger group wins; among equals, the least name.
unfoldable pub better : Candidate → Candidate → Candidate
better c d = cond (ltb d.size c.size || (eqb c.size d.size && leb c.name d.name)) c d

-- The best of the listed items' groups and one more.
unfoldable pub best_of : (ℕ → Candidate) → Candidate → List ℕ → Candidate
best_of candidate c [] = c
best_of candidate c (x ∷ xs) = better (candidate x) (best_of candidate c xs)

-- What item x's group brings: its size among the named items, and its name.
unfoldable pub candidate : Grouping → List ℕ → ℕ → Candidate
candidate groups names x = record { size = size (length names) groups x; name = name_of names x }

module _ (before after : Grouping) (names : List ℕ) where
  -- The group that holds x after holds several of those before: it has an item that was not in x's group.
  unfoldable pub holds_several : ℕ → Bool
  holds_several x = any_below (length names) (λ y. after x y && not (before x y))

  -- The name of the largest of the groups before that make up x's group after; among equals, the least name.
  unfoldable pub best_name : ℕ → ℕ
  best_name x = (best_of (candidate before names) (candidate before names x) (listed (length names) (after x))).name

  -- Wherever one group after holds several before, each of its items gets the best of their names. All other names stay.
  unfoldable pub rename : List ℕ
  rename = tabulate (length names) (λ x. cond (holds_several x) (best_name x) (name_of names x))
