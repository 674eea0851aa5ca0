-- Lists of columns, and which columns are among them.
use Rattle.std.proofs.Common.{◌≡◌, ℕ, zero, suc, ◌+◌, ◌≤◌, Bool, true, false, not, ◌&&◌, ◌||◌, eqb, List, [], ◌∷◌, map, sym, refl, ap, subst, ⊎_elim, arith}
use mathlib.Core.Bool.{false≢true}
use Rattle.graph.proofs.Truth.{not_both, false_of_not_true, or_neither, or_neither_left, or_neither_right, or_left, or_right, or_cases, and_left, and_right, eqb_eq, eqb_ne, eq-eqb, ne_eqb}
use Rattle.table.specs.Inside.Column

-- Column c is among those listed.
abbrev pub among : List ℕ → ℕ → Bool
among [] c = false
among (d ∷ ds) c = eqb c d || among ds c

-- Every column of the first list is in the second.
abbrev pub within : List ℕ → List ℕ → Bool
within [] ds = true
within (c ∷ cs) ds = among ds c && within cs ds

-- None is.
abbrev pub apart : List ℕ → List ℕ → Bool
apart [] ds = true
apart (c ∷ cs) ds = not (among ds c) && apart cs ds

-- The columns of a kind of group that say which groups there are.
abbrev pub group_columns : List ℕ
group_columns = Column.name ∷ Column.range ∷ Column.size ∷ []

-- The k columns from column b on.
abbrev pub columns_from : ℕ → ℕ → List ℕ
columns_from b zero = []
columns_from b (suc k) = (b + k) ∷ columns_from b k

-- All columns of components, of bridge-blocks, which are behind those, and of blocks.
abbrev pub component_columns : List ℕ
component_columns = columns_from 0 Column.per_component

abbrev pub bridge_block_columns : List ℕ
bridge_block_columns = columns_from Column.per_component Column.per_bridge_block

abbrev pub block_columns : List ℕ
block_columns = columns_from 0 Column.per_block

-- The columns in which edges are stored: their ends and their ducts.
abbrev pub edge_columns : List ℕ
edge_columns = Column.ends ∷ Column.duct ∷ []

-- The columns in which surveys are kept: whether one is, in the word of the duct, and its day and metres.
abbrev pub survey_columns : List ℕ
survey_columns = Column.duct ∷ Column.survey ∷ []

-- The columns of marks: of how many marks bridge-blocks have, and of which vertices are marked.
abbrev pub mark_columns : List ℕ
mark_columns = Column.of_bridge_blocks Column.mark_count ∷ Column.mark ∷ []

-- The scratch columns of the vertices, which have the path and its right side.
abbrev pub scratch : List ℕ
scratch = Column.path_vertex ∷ Column.path_edge ∷ Column.right_vertex ∷ Column.right_edge ∷ []

-- a column that is listed is none that is not
pub other_column : (cs : List ℕ) (c d : ℕ) → among cs c ≡ true → among cs d ≡ false → c ≡ d → ⊥
other_column cs c d h o e = not_both (subst (λ (k : ℕ). among cs k ≡ true) e h) o

-- a column outside a list is outside every list that it holds
pub outside_less : (cs ds : List ℕ) (c : ℕ) → within cs ds ≡ true → among ds c ≡ false → among cs c ≡ false
outside_less [] ds c w o = refl
outside_less (d ∷ cs) ds c w o =
    or_neither
    (ne_eqb c d (λ e. other_column ds d c (and_left (among ds d) (within cs ds) w) o (sym e)))
    (outside_less cs ds c (and_right (among ds d) (within cs ds) w) o)

-- a column behind the first of some columns and not among them is behind them all
pub behind_columns : (b k c : ℕ) → among (columns_from b k) c ≡ false → b ≤ c → b + k ≤ c
behind_columns b zero c o h = omega arith
behind_columns b (suc k) c o h =
    omega (
      arith,
      behind_columns b k c (or_neither_right (eqb c (b + k)) (among (columns_from b k) c) o) h,
      eqb_ne c (b + k) (or_neither_left (eqb c (b + k)) (among (columns_from b k) c) o),
    )

-- What holds of every listed column.
abbrev pub Each : (ℕ → Type 0) → List ℕ → Type 0
Each P [] = Unit {0}
Each P (c ∷ cs) = P c × Each P cs

-- it holds of a column among them
pub each_among : (P : ℕ → Type 0) (cs : List ℕ) → Each P cs → (c : ℕ) → among cs c ≡ true → P c
each_among P [] ps c m = absurd (false≢true m)
each_among P (d ∷ ds) ps c m =
    ⊎_elim (λ e. subst P (sym (eqb_eq c d e)) ps.0) (each_among P ds ps.1 c) (or_cases (eqb c d) (among ds c) m)

-- every column of a list within another is in that
each_within : (cs ds : List ℕ) → within cs ds ≡ true → Each (λ c. among ds c ≡ true) cs
each_within [] ds w = tt
each_within (c ∷ cs) ds w = (and_left (among ds c) (within cs ds) w, each_within cs ds (and_right (among ds c) (within cs ds) w))

pub within_among : (cs ds : List ℕ) → within cs ds ≡ true → (c : ℕ) → among cs c ≡ true → among ds c ≡ true
within_among cs ds w = each_among (λ c. among ds c ≡ true) cs (each_within cs ds w)

-- none of a list apart from another is
each_apart : (cs ds : List ℕ) → apart cs ds ≡ true → Each (λ c. among ds c ≡ false) cs
each_apart [] ds a = tt
each_apart (c ∷ cs) ds a =
    (false_of_not_true (among ds c) (and_left (not (among ds c)) (apart cs ds) a), each_apart cs ds (and_right (not (among ds c)) (apart cs ds) a))

pub apart_among : (cs ds : List ℕ) → apart cs ds ≡ true → (c : ℕ) → among cs c ≡ true → among ds c ≡ false
apart_among cs ds a = each_among (λ c. among ds c ≡ false) cs (each_apart cs ds a)

-- a listed column, renumbered, is among those renumbered
pub among_map : (f : ℕ → ℕ) (cs : List ℕ) (c : ℕ) → among cs c ≡ true → among (map f cs) (f c) ≡ true
among_map f [] c m = absurd (false≢true m)
among_map f (d ∷ cs) c m = ⊎_elim
    (λ e. or_left (eq-eqb (f c) (f d) (ap f (eqb_eq c d e))) (among (map f cs) (f c)))
    (λ k. or_right (eqb (f c) (f d)) (among_map f cs c k))
    (or_cases (eqb c d) (among cs c) m)
