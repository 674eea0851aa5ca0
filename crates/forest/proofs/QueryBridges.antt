-- The bridges between two vertices of one component: they are written down as the path is followed, in their order, each by the name of
-- its block.
use Rattle.std.proofs.Common.{◌≡◌, ℕ, zero, suc, ◌+◌, ◌<◌, ◌≤◌, Bool, true, false, cond, not, eqb, ◌⊎◌, List, [], ◌∷◌, ◌++◌, sym, refl, ap, ◌∙◌, ap₂, inl, inr, append_assoc, append-nil, add-one, arith}
use Rattle.graph.specs.Below.{tabulate}
use Rattle.graph.specs.Network.{Network}
use Rattle.graph.specs.Groups.{component, bridge_block}
use Rattle.graph.specs.Cycle.{Step}
use Rattle.graph.specs.Between.{bridges_between}
use Rattle.graph.proofs.Truth.{true_or_false, or_neither_right}
use Rattle.graph.proofs.PathNames.{NamedByLeast, parting_names, bridges_of_named_steps}
use Rattle.naming.proofs.BridgeNames.{bridge_named_by_least}
use Rattle.naming.proofs.Listed.{tabulate_same, tabulate_first}
use Rattle.numbers.specs.declared.Limits.{Limits}
use Rattle.table.specs.Inside.Column
use Rattle.table.specs.Inside.Layout.{cell, put, vertex_area, bridge_block_area, edge_area}
use Rattle.table.proofs.Cells.{HasColumns, cell-put-same, cell_put_other_item, cell-bridge_block}
use Rattle.table.proofs.KindNames.{name_in_list}
use Rattle.numbers.specs.declared.Shape.{Shape}
use Rattle.forest.specs.Inside.Climb.{block_of, path_vertex, path_edge, climb_table, climb_route}
use Rattle.forest.specs.Inside.Route.{step_at, steps_of}
use Rattle.forest.specs.Inside.Held.{sound}
use Rattle.forest.specs.Inside.Valid.{Valid, network_of, book_of}
use Rattle.forest.specs.Inside.Queries.{Found, bridges_written, bridge_blocks_differ, find_table, find_count, find_from, bridges_found}
use Rattle.forest.specs.Promise.{Holds, state_of, network_in, bridge_at, ListWritten}
use Rattle.forest.proofs.Networks.{edge_count_lem, network_rule}
use Rattle.forest.proofs.Frames.{Frame, frame_none, ◌then◌, frame_vertex}
use Rattle.forest.proofs.ClimbTable.{Scratched}
use Rattle.forest.proofs.ClimbLaw.{Climbs, climb_law}
use Rattle.forest.proofs.ValidBook.{book_laws}
use Rattle.forest.proofs.ValidFrame.{frame_valid, frame_network, path_only, list_written}
use Rattle.forest.proofs.QueryNames.{bridge_blocks_differ_lem}

-- The second table differs from the first at most where bridges are written down.
abbrev Noted : Limits → List ℕ → List ℕ → Type 0
Noted limits t t' = Frame limits (Column.right_edge ∷ []) [] t t'

-- a bridge written down behind others
bridges_more : (t : List ℕ) (limits : Limits) (count e : ℕ) → HasColumns t (vertex_area limits) Column.per_vertex → count < limits.vertices
    → bridges_written limits (suc count) (put t (vertex_area limits) Column.right_edge count e) ≡ bridges_written limits count t ++ e ∷ []
unfolding bridges_written tabulate
bridges_more t limits count e has h =
    ap₂ (λ (l : List ℕ) (x : ℕ). l ++ x ∷ [])
    (tabulate_same count _ _ (λ i l. cell_put_other_item t (vertex_area limits) Column.right_edge count e i (λ z. omega arith)))
    (cell-put-same t (vertex_area limits) Column.per_vertex Column.right_edge count e has (omega arith) h)

module _ (t : List ℕ) (limits : Limits) where
  -- The block name of step i of the path.
  abbrev step_name : ℕ → ℕ
  step_name i = block_of t limits (path_edge t limits i)

  -- The block names of those of the k steps from step i on whose two vertices have different bridge-block names.
  parted : ℕ → ℕ → List ℕ
  parted i zero = []
  parted i (suc k) =
      let later = parted (suc i) k in
      cond (bridge_blocks_differ t limits (path_vertex t limits i) (path_vertex t limits (suc i))) (step_name i ∷ later) later

-- What following the k steps from step i on leaves: the names found, behind those that were there.
record Finds (t : List ℕ) (limits : Limits) (i k count : ℕ) (u : List ℕ) (found : Found) : Type 0 where
  frame : Noted limits t found.table
  written : bridges_written limits found.count found.table ≡ bridges_written limits count u ++ parted t limits i k

module _ (t : List ℕ) (limits : Limits) (steps : ℕ) (few : steps < limits.vertices) (has : HasColumns t (vertex_area limits) Column.per_vertex)
    (known : (i : ℕ) → i ≤ steps → path_vertex t limits i < limits.vertices)
    (edge_known : (i : ℕ) → i < steps → path_edge t limits i < limits.edges) where
  -- whether bridge-block names differ does not change on the way
  bridge_blocks_kept : (u : List ℕ) → Noted limits t u → (i : ℕ) → i < steps
      → bridge_blocks_differ u limits (path_vertex u limits i) (path_vertex u limits (i + 1))
      ≡ bridge_blocks_differ t limits (path_vertex t limits i) (path_vertex t limits (suc i))
  unfolding bridge_blocks_differ
  bridge_blocks_kept u f i h = rw add-one (ap₂ (λ (v w : ℕ). not (eqb v w)) (name i (omega arith)) (name (suc i) h))
    where
      name : (j : ℕ) → j ≤ steps
          → cell u (bridge_block_area limits) Column.name (path_vertex u limits j) ≡ cell t (bridge_block_area limits) Column.name (path_vertex t limits j)
      name j l =
          ap (cell u (bridge_block_area limits) Column.name) (f.vertex_word Column.path_vertex j (omega arith) (omega arith) refl)
          ∙ cell-bridge_block limits u Column.name (path_vertex t limits j)
          ∙ f.vertex_word (Column.of_bridge_blocks Column.name) (path_vertex t limits j) (omega arith) (known j l) refl
          ∙ sym (cell-bridge_block limits t Column.name (path_vertex t limits j))

  -- nor do the block names of the steps
  name-kept : (u : List ℕ) → Noted limits t u → (i : ℕ) → i < steps → step_name u limits i ≡ step_name t limits i
  name-kept u f i h =
      ap (block_of u limits) (f.vertex_word Column.path_edge i (omega arith) (omega arith) refl)
      ∙ f.edge_word Column.name (path_edge t limits i) (omega arith) (edge_known i h) refl

  -- the k steps from step i on, followed with the table u and a count at hand
  find_from_lem : (k i count : ℕ) (u : List ℕ) → count ≤ i → i + k ≤ steps → Noted limits t u
      → Finds t limits i k count u (find_from u limits i k count)
  unfolding find_from find_table find_count parted
  find_from_lem zero i count u c h f = record { frame = f; written = sym (append-nil (bridges_written limits count u)) }
  find_from_lem (suc k) i count u c h f = go (find_from_lem k (suc i)) (true_or_false (bridge_blocks_differ t limits x y))
    where
      x : ℕ
      x = path_vertex t limits i

      y : ℕ
      y = path_vertex t limits (suc i)

      name : ℕ
      name = step_name t limits i

      u₁ : List ℕ
      u₁ = put u (vertex_area limits) Column.right_edge count name

      noted : Noted limits u u₁
      noted = frame_vertex limits (Column.right_edge ∷ []) [] u Column.right_edge count name (omega arith) (omega arith) refl

      more : bridges_written limits (suc count) u₁ ≡ bridges_written limits count u ++ name ∷ []
      more = bridges_more u limits count name (rw f.same_length has) (omega arith)

      go : ((count' : ℕ) (u' : List ℕ) → count' ≤ suc i → suc i + k ≤ steps → Noted limits t u'
          → Finds t limits (suc i) k count' u' (find_from u' limits (suc i) k count'))
          → (bridge_blocks_differ t limits x y ≡ true) ⊎ (bridge_blocks_differ t limits x y ≡ false)
          → Finds t limits i (suc k) count u (find_from (find_table u limits i count) limits (suc i) k (find_count u limits i count))
      go rest (inl d) =
          let r = rest (suc count) u₁ (omega arith) (omega arith) (f then noted) in
          rw (bridge_blocks_kept u f i (omega arith), d, name-kept u f i (omega arith))
          record {
            frame = r.frame;
            written =
                r.written
                ∙ ap (λ (l : List ℕ). l ++ parted t limits (suc i) k) more
                ∙ append_assoc (bridges_written limits count u) (name ∷ []) (parted t limits (suc i) k)
                ∙ rw d;
          }
      go rest (inr d) =
          let r = rest count u (omega arith) (omega arith) f in
          rw (bridge_blocks_kept u f i (omega arith), d) record { frame = r.frame; written = r.written ∙ rw d }

-- a test turned round turns its two answers round
cond-not : {A : Type 0} (b : Bool) (x y : A) → cond (not b) x y ≡ cond b y x
cond-not true x y = refl
cond-not false x y = refl

-- in a valid table, those are the names of the steps between different bridge-blocks
parted_names : {limits : Limits} {n m : ℕ} {t : List ℕ} → Valid limits n m t → (steps : ℕ)
    → ((i : ℕ) → i ≤ steps → path_vertex t limits i < n)
    → (k i : ℕ) (step : ℕ → Step) → i + k ≤ steps → ((j : ℕ) → j < k → step j ≡ step_at t limits (i + j))
    → parted t limits i k ≡ parting_names (block_of t limits) (network_of limits n m t) (path_vertex t limits i) (tabulate k step)
unfolding parted parting_names step_at tabulate
parted_names valid steps known zero i step h f = refl
parted_names {limits} {n} {m} {t} valid steps known (suc k) i step h f =
    rw (
      tabulate_first k step,
      first,
      bridge_blocks_differ_lem valid (path_vertex t limits i) (path_vertex t limits (suc i)) (known i (omega arith)) (known (suc i) (omega arith)),
      parted_names valid steps known k (suc i) (λ j. step (suc j)) (omega arith) later,
    )
    (cond-not (bridge_block (network_of limits n m t) (path_vertex t limits i) (path_vertex t limits (suc i))) _ _)
  where
    first : step 0 ≡ step_at t limits i
    first = f 0 (omega arith) ∙ ap (step_at t limits) (omega arith)

    later : (j : ℕ) → j < k → step (suc j) ≡ step_at t limits (suc i + j)
    later j l = f (suc j) (omega arith) ∙ ap (step_at t limits) (omega arith)

-- bridges are written down in a column of the path
noted_scratched : (limits : Limits) (t t' : List ℕ) → Noted limits t t' → Scratched limits t t'
noted_scratched limits t t' f =
    record {
      same_length = f.same_length;
      vertex_word = λ c x h l o.
          f.vertex_word c x h l
          (or_neither_right (eqb c Column.right_vertex) _ (or_neither_right (eqb c Column.path_edge) _ (or_neither_right (eqb c Column.path_vertex) _ o)));
      edge_word = f.edge_word;
      beyond = f.beyond;
    }

-- the bridges between a and b are written down
pub bridges_written_lem : (shape : Shape) (t : List ℕ) → Holds shape t → (a b : ℕ) → a < shape.vertices → b < shape.vertices
    → component (network_in shape t) a b ≡ true
    → let found = bridges_found t shape.limits a b in
    ListWritten shape t found.table (bridge_at shape found.table) found.count (bridges_between (network_in shape t) a b)
unfolding bridges_found bridges_written bridge_at steps_of tabulate Holds state_of book_of
bridges_written_lem shape t holds a b h l joined =
    list_written shape holds (path_only (c.frame then noted_scratched limits t₁ _ finds.frame)) _ _ _ (finds.written ∙ names ∙ sym between)
  where
    limits : Limits
    limits = shape.limits

    n : ℕ
    n = shape.vertices

    m : ℕ
    m = shape.edges

    g : Network
    g = network_of limits n m t

    t₁ : List ℕ
    t₁ = climb_table t limits a b

    k : ℕ
    k = (climb_route t limits a b).steps

    c : Climbs limits n m t g a b t₁ (climb_route t limits a b)
    c = climb_law limits n m t (sound holds).valid a b h l joined

    finds : Finds t₁ limits 0 k 0 t₁ (find_from t₁ limits 0 k 0)
    finds =
        find_from_lem t₁ limits k (omega (arith, c.few, (sound holds).valid.vertices_fit)) (omega (arith, c.frame.same_length, (sound holds).valid.long))
        (λ i j. omega (arith, c.vertices_known i j, (sound holds).valid.vertices_fit))
        (λ i j. omega (arith, c.edges_known i j, (sound holds).valid.edges_fit)) k 0 0 t₁ (omega arith) (omega arith) frame_none

    -- a block's name is a word that the climb leaves
    named : NamedByLeast g (block_of t₁ limits)
    named s i q =
        let below = rw (edge_count_lem limits n m t) at i in
        c.frame.edge_word Column.name s (omega arith) (omega (arith, below, (sound holds).valid.edges_fit)) refl
        ∙ sym (name_in_list t (edge_area limits) m s below)
        ∙ bridge_named_by_least (book_of limits n m t) (book_laws (sound holds).valid) (sound holds).bridges_named s i q

    between : bridges_between g a b ≡ parting_names (block_of t₁ limits) g a (steps_of t₁ limits k)
    between = bridges_of_named_steps g (sound holds).valid.proper (network_rule limits n m t) (block_of t₁ limits) named c.path

    names : bridges_written limits 0 t₁ ++ parted t₁ limits 0 k ≡ parting_names (block_of t₁ limits) g a (steps_of t₁ limits k)
    names =
        rw (frame_network (sound holds).valid (path_only c.frame), c.start)
        at (parted_names (frame_valid (sound holds).valid (path_only c.frame)) k c.vertices_known k 0 (step_at t₁ limits) (omega arith)
        (λ j i. ap (step_at t₁ limits) (omega arith)))
