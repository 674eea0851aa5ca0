-- Laws of the table's words: what is read after a store. Stores within columns of an area, and between the two areas.
use Rattle.std.proofs.Common.{◌≡◌, ℕ, suc, ◌+◌, ◌*◌, ◌/◌, ◌<◌, ◌≤◌, true, false, eqb, ◌⊎◌, List, length, get_or, sym, ap, ◌∙◌, subst, inl, inr, arith, length-set, get_or-set_other, get_or-set_same}
use lib.Arith.{digits_lt, digits_div}
use Rattle.graph.proofs.Truth.{true_or_false, eqb_eq, eqb_ne}
use Rattle.numbers.specs.declared.Limits.{Limits}
use Rattle.table.specs.declared.words.Area.{Area}
use Rattle.table.specs.Inside.Column
use Rattle.table.specs.Inside.Layout.{place, cell, put, vertex_area, bridge_block_area, edge_area}

-- The table has the first k columns of the area.
abbrev pub HasColumns : List ℕ → Area → ℕ → Type 0
HasColumns t area k = area.base + k * area.size ≤ length t

-- a place in the first k columns of an area is before their end
place_below : (area : Area) (k c x : ℕ) → c < k → x < area.size → place area c x < area.base + k * area.size
unfolding place
place_below area k c x h l = omega (arith, digits_lt h l)

place_from : (area : Area) (c x : ℕ) → area.base ≤ place area c x
unfolding place
place_from area c x = omega arith

-- the item behind another has the next place
pub place_behind_lem : (area : Area) (c x : ℕ) → place area c (suc x) ≡ place area c x + 1
unfolding place
place_behind_lem area c x = omega arith

-- a place tells its column and, in a column, its item
place_column : (area : Area) (c x c' x' : ℕ) → x < area.size → x' < area.size → place area c x ≡ place area c' x' → c ≡ c'
unfolding place
place_column area c x c' x' l m e =
    sym (digits_div c l) ∙ ap (λ (p : ℕ). p / area.size) (omega arith) ∙ digits_div c' m

place_item : (area : Area) (c x x' : ℕ) → place area c x ≡ place area c x' → x ≡ x'
unfolding place
place_item area c x x' e = omega arith

-- a store keeps the table's length
pub length-put : (t : List ℕ) (area : Area) (c x v : ℕ) → length (put t area c x v) ≡ length t
unfolding put
length-put t area c x v = length-set t (place area c x) v

-- what is stored is read
pub cell-put-same : (t : List ℕ) (area : Area) (k c x v : ℕ) → HasColumns t area k → c < k → x < area.size
    → cell (put t area c x v) area c x ≡ v
unfolding cell put
cell-put-same t area k c x v h l m = get_or-set_same t (place area c x) v 0 (omega (arith, place_below area k c x l m))

-- a word at another place stays
get_or-put_other : (t : List ℕ) (area : Area) (c x v p : ℕ) → (p ≡ place area c x → ⊥) → get_or (put t area c x v) p 0 ≡ get_or t p 0
unfolding put
get_or-put_other t area c x v p d = get_or-set_other t (place area c x) p v 0 d

-- a word of another column, or of another item, stays
pub cell_put_other_column : (t : List ℕ) (area : Area) (c x v c' x' : ℕ) → x < area.size → x' < area.size → (c ≡ c' → ⊥)
    → cell (put t area c x v) area c' x' ≡ cell t area c' x'
unfolding cell
cell_put_other_column t area c x v c' x' l m d =
    get_or-put_other t area c x v (place area c' x') (λ e. d (place_column area c x c' x' l m (sym e)))

pub cell_put_other_item : (t : List ℕ) (area : Area) (c x v x' : ℕ) → (x ≡ x' → ⊥)
    → cell (put t area c x v) area c x' ≡ cell t area c x'
unfolding cell
cell_put_other_item t area c x v x' d =
    get_or-put_other t area c x v (place area c x') (λ e. d (place_item area c x x' (sym e)))

-- a store leaves the words of other items, whatever their column
pub cell_put_elsewhere : (t : List ℕ) (area : Area) (c x v c' x' : ℕ) → x < area.size → x' < area.size → (x ≡ x' → ⊥)
    → cell (put t area c x v) area c' x' ≡ cell t area c' x'
cell_put_elsewhere t area c x v c' x' h l d = go (true_or_false (eqb c c'))
  where
    go : (eqb c c' ≡ true) ⊎ (eqb c c' ≡ false) → cell (put t area c x v) area c' x' ≡ cell t area c' x'
    go (inl e) =
        subst
        (λ (k : ℕ). cell (put t area c x v) area k x' ≡ cell t area k x')
        (eqb_eq c c' e)
        (cell_put_other_item t area c x v x' d)
    go (inr e) = cell_put_other_column t area c x v c' x' h l (eqb_ne c c' e)

-- a word outside the first k columns of the area stays
pub get_or-put_outside : (t : List ℕ) (area : Area) (k c x v p : ℕ) → c < k → x < area.size
    → ((area.base ≤ p) → (p < area.base + k * area.size) → ⊥) → get_or (put t area c x v) p 0 ≡ get_or t p 0
get_or-put_outside t area k c x v p h l o = get_or-put_other t area c x v p (λ e. o (from e) (below e))
  where
    from : p ≡ place area c x → area.base ≤ p
    from e = omega (arith, place_from area c x)

    below : p ≡ place area c x → p < area.base + k * area.size
    below e = omega (arith, place_below area k c x h l)

-- the columns of the vertices end where those of the edges begin
apart : (limits : Limits) (c x d s : ℕ) → c < Column.per_vertex → x < limits.vertices → place (vertex_area limits) c x < place (edge_area limits) d s
apart limits c x d s h l =
    omega (arith, place_below (vertex_area limits) Column.per_vertex c x h l, place_from (edge_area limits) d s)

-- stores among the words of vertices leave those of edges, and the other way round
pub cell_edge_after_vertex : (limits : Limits) (t : List ℕ) (c x v d s : ℕ) → c < Column.per_vertex → x < limits.vertices
    → cell (put t (vertex_area limits) c x v) (edge_area limits) d s ≡ cell t (edge_area limits) d s
unfolding cell
cell_edge_after_vertex limits t c x v d s h l =
    get_or-put_other t (vertex_area limits) c x v (place (edge_area limits) d s) (λ e. omega (arith, apart limits c x d s h l))

pub cell_vertex_after_edge : (limits : Limits) (t : List ℕ) (d s v c x : ℕ) → c < Column.per_vertex → x < limits.vertices
    → cell (put t (edge_area limits) d s v) (vertex_area limits) c x ≡ cell t (vertex_area limits) c x
unfolding cell
cell_vertex_after_edge limits t d s v c x h l =
    get_or-put_other t (edge_area limits) d s v (place (vertex_area limits) c x) (λ e. omega (arith, apart limits c x d s h l))

-- the columns of bridge-blocks are columns of the vertices, behind those of components
bridge_block-place : (limits : Limits) (c x : ℕ) → place (bridge_block_area limits) c x ≡ place (vertex_area limits) (Column.of_bridge_blocks c) x
unfolding place
bridge_block-place limits c x = omega arith

pub cell-bridge_block : (limits : Limits) (t : List ℕ) (c x : ℕ) → cell t (bridge_block_area limits) c x ≡ cell t (vertex_area limits) (Column.of_bridge_blocks c) x
unfolding cell
cell-bridge_block limits t c x = rw (bridge_block-place limits c x)

pub put-bridge_block : (limits : Limits) (t : List ℕ) (c x v : ℕ)
    → put t (bridge_block_area limits) c x v ≡ put t (vertex_area limits) (Column.of_bridge_blocks c) x v
unfolding put
put-bridge_block limits t c x v = rw (bridge_block-place limits c x)
