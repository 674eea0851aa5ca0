-- The lists are built: first the column of heads is cleared, and then each edge is entered.
use mathlib.Core.Bool.{Bool, true, false, cond, ◌&&◌, ◌||◌}
use mathlib.Core.List.{List}
use mathlib.Core.Logic.{◌⊎◌, inl, inr}
use mathlib.Core.Path.{◌≡◌, refl, sym, ◌∙◌, ap, subst}
use Prim.Native.Nat.{ℕ, suc, ◌+◌, ◌*◌, ◌/◌, ◌%◌, ◌<◌}
use native.Mathlib.Numerals.{add-one}
use native.Mathlib.Omega.{arith}
use lib.Dec.{eqb}
use Rattle.graph.specs.Network.{Network, edge, edge_count, touches, mates}
use Rattle.graph.proofs.Truth.{true_or_false, false_of_not, not_both, and_right, eqb_swap, ne_eqb, eqb_ne}
use Rattle.graph.proofs.Below.{below_or_last, some_below}
use Rattle.ways.specs.Used.{unused, is_used, mate_used}
use Rattle.numbers.specs.declared.Shape.{Shape}
use Rattle.forest.specs.Promise.{Holds, network_in, vertices_held, edges_held, vertices_fit, edges_fit, few_edges, proper_held, scratch_words, vertex_scratch, edge_scratch, VertexScratchStored, EdgeScratchStored}
use Rattle.routes.specs.Inside.Frame.{head_column, Only, column_only, edges_only, ColumnCleared}
use Rattle.routes.specs.declared.uses.Use.TheVariants as U
use Rattle.routes.specs.Inside.Lists.{last_at, entries_of, Linked, bits_of, use_of, Listed, lists_only, EdgeEntered, ListsBuilt}
use Rattle.routes.proofs.Frames.{only_refl, only_trans, only_wider, only_vertex, only_edge, stored_there, same-network}
use Rattle.routes.proofs.ListsWords.{last_small}

-- a head after a store of one
head_stored : {shape : Shape} {y value : ℕ} {old new : List ℕ} → VertexScratchStored shape head_column y value old new
    → (x : ℕ) → x < shape.vertices → vertex_scratch shape new head_column x ≡ cond (eqb y x) value (vertex_scratch shape old head_column x)
head_stored {shape} {y} {value} {old} v x h =
    stored_there v (omega arith) x h ∙ ap (λ same. cond same value (vertex_scratch shape old head_column x)) (eqb_swap x y)

-- A column is cleared at the vertices below k.
pub record ClearedBelow (shape : Shape) (column k : ℕ) (old new : List ℕ) : Type 0 where
  pub only : Only shape (column_only column) old new
  pub cleared : (x : ℕ) → x < k → vertex_scratch shape new column x ≡ 0

-- at one more
pub cleared_next : {shape : Shape} {column i : ℕ} {t₀ t t' : List ℕ} → column < scratch_words → ClearedBelow shape column i t₀ t
    → i < shape.vertices → VertexScratchStored shape column i 0 t t' → ClearedBelow shape column (i + 1) t₀ t'
cleared_next {shape} {column} {i} {t₀} {t} {t'} few w h v =
    record {
      only = only_trans w.only (only_vertex v);
      cleared = λ x l. stored_there v few x (omega arith) ∙ go x l (true_or_false (eqb x i));
    }
  where
    go : (x : ℕ) → x < i + 1 → (eqb x i ≡ true) ⊎ (eqb x i ≡ false) → cond (eqb x i) 0 (vertex_scratch shape t column x) ≡ 0
    go x l (inl p) = rw p
    go x l (inr p) = rw p (w.cleared x (omega (arith, eqb_ne x i p)))

-- the ends of an edge are vertices, and have their words
module _ (shape : Shape) (t : List ℕ) (holds : Holds shape t) (s : ℕ) (h : s < shape.edges) where
  known : s < edge_count (network_in shape t)
  known = rw (edges_held shape t) h

  left_held : (edge (network_in shape t) s).left < shape.vertices
  left_held = omega (arith, (proper_held shape t holds).left_known s known, vertices_held shape t)

  right_held : (edge (network_in shape t) s).right < shape.vertices
  right_held = omega (arith, (proper_held shape t holds).right_known s known, vertices_held shape t)

  pub left_fits : (edge (network_in shape t) s).left < shape.limits.vertices
  left_fits = omega (arith, left_held, vertices_fit shape t holds)

  pub right_fits : (edge (network_in shape t) s).right < shape.limits.vertices
  right_fits = omega (arith, right_held, vertices_fit shape t holds)

-- an edge is entered by three stores
pub edge-entered : {shape : Shape} {s left right word : ℕ} {old t₁ t₂ new : List ℕ} → s < shape.edges
    → left ≡ (edge (network_in shape old) s).left → right ≡ (edge (network_in shape old) s).right
    → word ≡ vertex_scratch shape old head_column left % 16384 * 65536 + vertex_scratch shape old head_column right % 16384 * 4
    → EdgeScratchStored shape s word old t₁ → VertexScratchStored shape head_column left (s + 1) t₁ t₂
    → VertexScratchStored shape head_column right (s + 1) t₂ new → EdgeEntered shape s old new
unfolding lists_only edges_only column_only touches
edge-entered {shape} {s} {left} {right} {word} {old} {t₁} {t₂} {new} h left_is right_is word_is e l r =
    record {
      only = only_trans
          (only_wider (λ j p. refl) (λ p. p) (only_edge e))
          (only_trans (only_wider (λ j p. p) (λ p. refl) (only_vertex l)) (only_wider (λ j p. p) (λ p. refl) (only_vertex r)));
      word_is = edge_words s h ∙ e.stored ∙ rw (left_is, right_is) at word_is;
      other_words = λ q k n. edge_words q k ∙ e.other_words q (omega (arith, edges_fit shape new r.holds)) (eqb_ne q s n);
      heads = λ x k. head_stored r x k ∙ rw (
        head_stored l x k,
        e.vertex_words head_column x (omega arith) (omega (arith, vertices_fit shape new r.holds)),
        ← left_is,
        ← right_is,
      )
          (go (eqb left x) (eqb right x) (vertex_scratch shape old head_column x));
    }
  where
    edge_words : (q : ℕ) → q < shape.edges → edge_scratch shape new q ≡ edge_scratch shape t₁ q
    edge_words q k =
        let fits = edges_fit shape new r.holds in
        r.edge_words q (omega arith) ∙ l.edge_words q (omega arith)

    go : (a b : Bool) (n : ℕ) → cond b (s + 1) (cond a (s + 1) n) ≡ cond (a || b) (suc s) n
    go true true n = omega arith
    go true false n = omega arith
    go false true n = omega arith
    go false false n = refl

-- The lists of the edges below k are built, and none of these is used.
pub record BuiltBelow (shape : Shape) (k : ℕ) (old new : List ℕ) : Type 0 where
  pub only : Only shape lists_only old new
  pub linked : Linked shape (network_in shape old) k new
  pub free : (s : ℕ) → s < k → edge_scratch shape new s % 4 ≡ 0

-- those of no edge are empty
pub built_first : {shape : Shape} {old new : List ℕ} → ColumnCleared shape head_column old new → BuiltBelow shape 0 new new
unfolding last_at
built_first {shape} {old} {new} w =
    record {
      only = only_refl shape lists_only new w.only.holds;
      linked = record { heads = w.cleared; entries = λ s h. absurd (omega arith) };
      free = λ s h. absurd (omega arith);
    }

module _ {shape : Shape} {i : ℕ} {t₀ t t' : List ℕ} (w : BuiltBelow shape i t₀ t) (h : i < shape.edges)
    (v : EdgeEntered shape i t t') where
  -- the words of the edges before a new one are kept
  word_kept : (s : ℕ) → s < i → edge_scratch shape t' s ≡ edge_scratch shape t s
  word_kept s l = v.other_words s (omega arith) (ne_eqb s i (λ e. omega arith))

  module _ (g : Network) (is : network_in shape t ≡ g) (built : Linked shape g i t) where
    -- what stood at the heads of its ends, by the definition
    left_head : vertex_scratch shape t head_column (edge (network_in shape t) i).left ≡ last_at g (edge g i).left i
    left_head = built.heads (edge (network_in shape t) i).left (left_held shape t w.only.holds i h)
        ∙ ap (λ n. last_at g (edge n i).left i) is

    right_head : vertex_scratch shape t head_column (edge (network_in shape t) i).right ≡ last_at g (edge g i).right i
    right_head = built.heads (edge (network_in shape t) i).right (right_held shape t w.only.holds i h)
        ∙ ap (λ n. last_at g (edge n i).right i) is

    -- its word takes it
    word_entered : edge_scratch shape t' i ≡ entries_of g i * 4
    unfolding entries_of
    word_entered = omega (
      arith,
      v.word_is,
      left_head,
      right_head,
      last_small g (edge g i).left i,
      last_small g (edge g i).right i,
      few_edges shape t w.only.holds,
      h,
    )

    -- the lists with it
    linked_next : Linked shape g (suc i) t'
    unfolding last_at
    linked_next =
        record {
          heads = λ x l. v.heads x l ∙ rw (is, built.heads x l);
          entries = λ s l. entry s (below_or_last i s l);
        }
      where
        entry : (s : ℕ) → (s < i) ⊎ (s ≡ i) → edge_scratch shape t' s / 4 ≡ entries_of g s
        entry s (inl l) = ap (λ n. n / 4) (word_kept s l) ∙ built.entries s l
        entry s (inr e) = rw e (omega (arith, word_entered))

    -- it is not used
    free_next : (s : ℕ) → s < suc i → edge_scratch shape t' s % 4 ≡ 0
    free_next s l = go (below_or_last i s l)
      where
        go : (s < i) ⊎ (s ≡ i) → edge_scratch shape t' s % 4 ≡ 0
        go (inl l) = ap (λ n. n % 4) (word_kept s l) ∙ w.free s l
        go (inr e) = rw e (omega (arith, word_entered))

  -- one edge more is entered
  pub built_next : BuiltBelow shape (i + 1) t₀ t'
  built_next =
      let is = same-network w.only in
      rw (add-one i)
      (record {
        only = only_trans w.only v.only;
        linked = linked_next (network_in shape t₀) is w.linked;
        free = free_next (network_in shape t₀) is w.linked;
      })

-- no edge or mate is used where none is
nothing_used : (g : Network) (s : ℕ) → use_of g unused s ≡ U.Free
unfolding use_of is_used unused mate_used
nothing_used g s = rw (false_of_not (mate_used g unused s) none)
  where
    none : mate_used g unused s ≡ true → ⊥
    none e =
        let found = some_below (edge_count g) (λ r. mates g s r && false) e in
        not_both (and_right (mates g s found.at) false found.passes) refl

-- all are entered
pub all_built : {shape : Shape} {i : ℕ} {old t new : List ℕ} → ColumnCleared shape head_column old t → BuiltBelow shape i t new → i ≡ shape.edges
    → ListsBuilt shape old new
unfolding lists_only column_only
all_built {shape} {i} {old} {t} {new} cleared w e =
    record {
      only = only_trans (only_wider (λ j p. p) (λ p. refl) cleared.only) w.only;
      listed = subst (λ g. Listed shape g unused new) (same-network cleared.only) listed;
    }
  where
    listed : Listed shape (network_in shape t) unused new
    listed =
        record {
          linked = subst (λ k. Linked shape (network_in shape t) k new) (e ∙ sym (edges_held shape t)) w.linked;
          uses = λ s h. w.free s (omega (arith, edges_held shape t)) ∙ ap bits_of (sym (nothing_used (network_in shape t) s));
        }
