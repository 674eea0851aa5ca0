-- The two sides of a climb joined to one path, without the left side's last step where both came up through one block.
use Rattle.std.proofs.Common.{◌≡◌, ℕ, zero, suc, ◌+◌, ◌-◌, ◌<◌, ◌≤◌, Bool, true, false, cond, not, ◌&&◌, eqb, ◌⊎◌, List, [], ◌∷◌, ◌++◌, sym, refl, ap, ◌∙◌, ap₂, inl, inr, append_assoc, append-nil, add-zero, sub-one, arith}
use lib.Dec.{eqb-suc-zero}
use Rattle.graph.specs.Below.{tabulate}
use Rattle.graph.specs.Network.{Network}
use Rattle.graph.specs.Cycle.{Step}
use Rattle.graph.specs.Block.{block}
use Rattle.graph.specs.BlockPath.{BlockPath}
use Rattle.graph.proofs.Truth.{true_or_false, ne_eqb}
use Rattle.numbers.specs.declared.Limits.{Limits}
use Rattle.table.specs.Inside.Column
use Rattle.table.specs.Inside.Layout.{vertex_area}
use Rattle.table.proofs.Cells.{HasColumns}
use Rattle.table.proofs.KindNames.{same-group}
use Rattle.forest.specs.Inside.Climb.{block_of, path_vertex, path_edge, right_vertex, right_edge, join_one, join_from}
use Rattle.forest.specs.Inside.Route.{step_at, steps_of}
use Rattle.forest.proofs.Frames.{frame_none, ◌then◌}
use Rattle.forest.proofs.Roots.{BlockForest}
use Rattle.forest.proofs.ClimbLists.{Each, each_append, each_first, Fresh, Apart}
use Rattle.forest.proofs.ClimbWays.{Rises, Falls, hung_edge}
use Rattle.forest.proofs.ClimbPath.{Known, rises_known, falls_known, apart_last, apart_none, rises_last, up_and_down, up_across_down}
use Rattle.forest.proofs.ClimbTop.{Topped, up_and_down_topped, up_across_down_topped}
use Rattle.forest.proofs.ClimbStore.{turned_steps, left_store, left_store_steps, left_store_start, left_store_turned}
use Rattle.forest.proofs.ClimbTable.{Scratched, columns_kept, left_scratched}

-- What joining leaves: the steps of the right side, turned round, behind the first steps of the path.
pub record Joins (limits : Limits) (t : List ℕ) (k at : ℕ) (t' : List ℕ) : Type 0 where
  pub frame : Scratched limits t t'
  pub start : path_vertex t' limits 0 ≡ path_vertex t limits 0
  pub stored : steps_of t' limits (at + k) ≡ steps_of t limits at ++ turned_steps t limits k

-- one step joined, and then the rest
join_more : (limits : Limits) (k : ℕ) (t : List ℕ) (at : ℕ) (t' : List ℕ) → at + suc k < limits.vertices → HasColumns t (vertex_area limits) Column.per_vertex
    → Joins limits (left_store t limits at (right_edge t limits k) (right_vertex t limits k)) k (at + 1) t' → Joins limits t (suc k) at t'
unfolding turned_steps
join_more limits k t at t' h long j =
    record {
      frame = left_scratched limits t at e v (omega arith) then j.frame;
      start = j.start ∙ left_store_start t limits at e v long (omega arith);
      stored =
          ap (steps_of t' limits) regroup
          ∙ j.stored
          ∙ ap₂ ◌++◌ (left_store_steps t limits at e v long (omega arith)) (left_store_turned t limits at e v long k (omega arith) (omega arith))
          ∙ append_assoc (steps_of t limits at) (record { along = e; to = v } ∷ []) (turned_steps t limits k);
    }
  where
    e : ℕ
    e = right_edge t limits k

    v : ℕ
    v = right_vertex t limits k

    regroup : at + suc k ≡ at + 1 + k
    regroup = omega arith

-- joining leaves the steps of the right side, turned round, behind the first steps of the path
pub join-leaves : (limits : Limits) (k : ℕ) (t : List ℕ) (at : ℕ) → at + k < limits.vertices → HasColumns t (vertex_area limits) Column.per_vertex
    → Joins limits t k at (join_from k t limits at)
unfolding join_from join_one turned_steps
join-leaves limits zero t at h long =
    record { frame = frame_none; start = refl; stored = ap (steps_of t limits) (add-zero at) ∙ sym (append-nil (steps_of t limits at)) }
join-leaves limits (suc k) t at h long =
    join_more limits k t at (join_from k (join_one t limits k at) limits (at + 1)) h long
    (join-leaves limits k (join_one t limits k at) (at + 1) (omega arith)
    (columns_kept limits t _ (left_scratched limits t at (right_edge t limits k) (right_vertex t limits k) (omega arith)) long))

-- Both sides came up through one block, after so many steps of each.
abbrev pub last_same : List ℕ → Limits → ℕ → ℕ → Bool
last_same t limits l r =
    not (eqb l 0) && not (eqb r 0) && eqb (block_of t limits (path_edge t limits (l - 1))) (block_of t limits (right_edge t limits (r - 1)))

-- How many steps of the left side stay.
abbrev pub kept_of : List ℕ → Limits → ℕ → ℕ → ℕ
kept_of t limits l r = cond (last_same t limits l r) (l - 1) l

-- with no step of the right side every step of the left side stays
kept_all : (t : List ℕ) (limits : Limits) (l : ℕ) → kept_of t limits (suc l) 0 ≡ suc l
kept_all t limits l = rw (ne_eqb (suc l) 0 (λ z. omega arith))

-- otherwise the last one goes where the last blocks of both sides have one name
kept_some : (t : List ℕ) (limits : Limits) (l r : ℕ)
    → kept_of t limits (suc l) (suc r) ≡ cond (eqb (block_of t limits (path_edge t limits l)) (block_of t limits (right_edge t limits r))) l (suc l)
kept_some t limits l r =
    rw (eqb-suc-zero l, eqb-suc-zero r, sub-one (suc l), sub-one (suc r))

-- The path is a block path from a to b, and lies below v.
pub record PathBelow (t : List ℕ) (limits : Limits) (n m : ℕ) (g : Network) (path : List Step) (a b v : ℕ) : Type 0 where
  pub known : Each (Known n m) path
  pub is_path : BlockPath g a path b
  pub topped : Topped t limits g path a b v

module _ (t₀ : List ℕ) (limits : Limits) (n m : ℕ) (g : Network) (w : BlockForest t₀ limits n m g) (edges_fit : m ≤ limits.edges)
    (t : List ℕ) (f : Scratched limits t₀ t) (a v b : ℕ) where
  -- the block names of edges tell their blocks apart, in the table as climbed
  named-after : (e f : ℕ) → e < m → f < m → block g e f ≡ eqb (block_of t limits e) (block_of t limits f)
  named-after e k h l =
      same-group w.blocks e k h l
      ∙ ap₂ eqb (sym (f.edge_word Column.name e (omega arith) (omega arith) refl)) (sym (f.edge_word Column.name k (omega arith) (omega arith) refl))

  -- no step is dropped
  whole : (ps qs : List Step) → Rises t₀ limits n a ps v → Falls t₀ limits n v qs b → Fresh a (ps ++ qs) → Apart g ps qs
      → PathBelow t₀ limits n m g (ps ++ qs) a b v
  whole ps qs u d p k =
      record {
        known = each_append (Known n m) ps qs (rises_known t₀ limits n m g w a ps v u) (falls_known t₀ limits n m g w v qs b d);
        is_path = up_and_down t₀ limits n m g w a ps v qs b u d p k;
        topped = up_and_down_topped t₀ limits n m g w a ps v qs b u d;
      }

  -- the last of the steps up and the first of the steps down, by their block names
  meeting : (ps : List Step) (p q : Step) (qs : List Step) → Rises t₀ limits n a (ps ++ p ∷ []) v → Falls t₀ limits n v (q ∷ qs) b
      → block g p.along q.along ≡ eqb (block_of t limits p.along) (block_of t limits q.along)
  meeting ps p q qs u d =
      named-after p.along q.along
      (hung_edge t₀ limits n m g w _ _ _ (rises_last t₀ limits n a ps p v u).last) (hung_edge t₀ limits n m g w _ _ _ d.0)

  -- the two sides, as they are kept, make a block path below the vertex where they met
  pub sides_path : (l r : ℕ) → Rises t₀ limits n a (steps_of t limits l) v → Falls t₀ limits n v (turned_steps t limits r) b
      → Fresh a (steps_of t limits l ++ turned_steps t limits r)
      → PathBelow t₀ limits n m g (steps_of t limits (kept_of t limits l r) ++ turned_steps t limits r) a b v
  unfolding turned_steps steps_of tabulate step_at
  sides_path zero r u d p = whole [] (turned_steps t limits r) u d p tt
  sides_path (suc l) zero u d p = rw (kept_all t limits l) (whole (steps_of t limits (suc l)) [] u d p (apart_none g (steps_of t limits (suc l))))
  sides_path (suc l) (suc r) u d p = rw (kept_some t limits l r) (go (true_or_false test))
    where
      last : Step
      last = step_at t limits l

      first : Step
      first = record { along = right_edge t limits r; to = right_vertex t limits r }

      test : Bool
      test = eqb (block_of t limits last.along) (block_of t limits first.along)

      blocks : block g last.along first.along ≡ test
      blocks = meeting (steps_of t limits l) last first (turned_steps t limits r) u d

      go : (test ≡ true) ⊎ (test ≡ false)
          → PathBelow t₀ limits n m g (steps_of t limits (cond test l (suc l)) ++ turned_steps t limits (suc r)) a b v
      go (inl e) = rw e
          (record {
            known =
                each_append (Known n m) (steps_of t limits l) (turned_steps t limits (suc r))
                (each_first (Known n m) (steps_of t limits l) (last ∷ []) (rises_known t₀ limits n m g w a (steps_of t limits (suc l)) v u))
                (falls_known t₀ limits n m g w v (turned_steps t limits (suc r)) b d);
            is_path = up_across_down t₀ limits n m g w a (steps_of t limits l) last v first (turned_steps t limits r) b u d p (blocks ∙ e);
            topped = up_across_down_topped t₀ limits n m g w a (steps_of t limits l) last v first (turned_steps t limits r) b u d (blocks ∙ e);
          })
      go (inr e) = rw e
          (whole (steps_of t limits (suc l)) (turned_steps t limits (suc r)) u d p
          (apart_last g (steps_of t limits l) last first (turned_steps t limits r) (blocks ∙ e)))
