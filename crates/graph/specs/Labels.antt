-- Groups of any item, from a list of pairs: two items share a group exactly if a chain of pairs leads from one to the other.
use Rattle.std.specs.Prelude.{Bool, cond, List, [], ◌∷◌, ℕ, eqb}

-- Two items that share a group.
pub record Pair : Type 0 where
  pub left : ℕ
  pub right : ℕ

-- Every item that had a's label gets b's.
unfoldable pub relabel : ℕ → ℕ → (ℕ → ℕ) → ℕ → ℕ
relabel a b label =
    let label_a = label a in
    let label_b = label b in
    λ x.
    let label_x = label x in
    cond (eqb label_x label_a) label_b label_x

-- Each item starts with its own number for a label, and each pair makes its two items' labels one. Items of which no pair speaks
-- keep their own, so no bound on the items is needed.
unfoldable pub labels : List Pair → ℕ → ℕ
labels [] = λ x. x
labels (p ∷ ps) = relabel p.left p.right (labels ps)

-- The two items have one label: they share a group.
unfoldable pub same : List Pair → ℕ → ℕ → Bool
same ps =
    let label = labels ps in
    λ x y. eqb (label x) (label y)
