-- The block forest after condensing: the blocks of the path and the new edge are one block, below the vertex above all of them.
use Rattle.std.proofs.Common.{◌≡◌, ℕ, suc, ◌<◌, ◌≤◌, Bool, true, false, ◌⊎◌, List, sym, ◌∙◌, subst, inl, inr, ⊎_elim, arith}
use Rattle.graph.specs.Network.{Network, Edge, edge, edge_count, touches, edge_in_duct}
use Rattle.graph.specs.Groups.{component}
use Rattle.graph.specs.Block.{block, on_block}
use Rattle.graph.proofs.Truth.{true_or_false}
use Rattle.graph.proofs.Below.{below_or_last}
use Rattle.graph.proofs.Joined.{edge_old, edge_new}
use Rattle.graph.proofs.Ends.{touches-ends, touched_known}
use Rattle.graph.proofs.Block.{block_refl, block_sym, block_trans}
use Rattle.graph.proofs.BlockVertices.{on_same_block}
use Rattle.graph.proofs.EdgeMore.{component_edge_within}
use Rattle.graph.proofs.Grows.{block_grows, on_block_grows}
use Rattle.naming.specs.Rename.{size}
use Rattle.naming.proofs.Equivalent.{size_agree}
use Rattle.numbers.specs.declared.Limits.{Limits}
use Rattle.forest.specs.Inside.Climb.{up_of, depth_of, above_edge}
use Rattle.forest.specs.Inside.Valid.{HangsBelow, ForestValid}
use Rattle.forest.proofs.Networks.{edge_count_lem, vertex_count}
use Rattle.forest.proofs.EdgeToAdd.{EdgeToAdd, edge_of, before, after, Within}

-- The block above vertex x is one of those that pass the test.
pub record UpOn (t : List ℕ) (limits : Limits) (on : ℕ → Bool) (x : ℕ) : Type 0 where
  pub by : ℕ
  pub is_up : up_of t limits x ≡ suc by
  pub passes : on by ≡ true

-- The vertex v is above all blocks that pass the test, and they lead from a up to it and from b.
pub record PathTop (t : List ℕ) (limits : Limits) (n m : ℕ) (g : Network) (on : ℕ → Bool) (a b v : ℕ) : Type 0 where
  pub known : v < n
  pub block_at : ℕ
  pub passes : on block_at ≡ true
  pub at : on_block g block_at v ≡ true
  pub tops : (e : ℕ) → e < m → on e ≡ true → (above_edge t limits e ≡ v) ⊎ UpOn t limits on (above_edge t limits e)
  pub deeper : (e : ℕ) → e < m → on e ≡ true → depth_of t limits v ≤ depth_of t limits (above_edge t limits e)
  pub left : (a ≡ v) ⊎ UpOn t limits on a
  pub right : (b ≡ v) ⊎ UpOn t limits on b

-- Table t' has the forest of table t, with the blocks that pass the test, and the new edge, below v.
pub record Lifted (t t' : List ℕ) (limits : Limits) (n m : ℕ) (on : ℕ → Bool) (v : ℕ) : Type 0 where
  pub up_same : (x : ℕ) → x < n → up_of t' limits x ≡ up_of t limits x
  pub depth_same : (x : ℕ) → x < n → depth_of t' limits x ≡ depth_of t limits x
  pub above_new : above_edge t' limits m ≡ v
  pub above_on : (e : ℕ) → e < m → on e ≡ true → above_edge t' limits e ≡ v
  pub above_off : (e : ℕ) → e < m → on e ≡ false → above_edge t' limits e ≡ above_edge t limits e

module _ (new : EdgeToAdd) (within : Within new) (t t' : List ℕ) (on : ℕ → Bool) (v : ℕ)
    (old : ForestValid t new.limits new.n new.m (before new))
    (top : PathTop t new.limits new.n new.m (before new) on new.a new.b v)
    (lifted : Lifted t t' new.limits new.n new.m on v)
    (with_new : (s : ℕ) → on s ≡ true → block (after new) new.m s ≡ true) where
  open new use {limits, n, m, valid, a, b, a_known, b_known}

  abbrev g : Network
  g = before new

  abbrev e₁ : Edge
  e₁ = edge_of new

  abbrev g' : Network
  g' = after new

  count : edge_count g ≡ m
  count = edge_count_lem limits n m new.t

  -- an edge that shares a block with the new edge, or an old edge of another block
  data Sort (e : ℕ) : Type 0 where
    joined : above_edge t' limits e ≡ v → block g' m e ≡ true → Sort e
    apart : e < m → above_edge t' limits e ≡ above_edge t limits e → Sort e

  sort_old : (e : ℕ) → e < m → Sort e
  sort_old e h = go (true_or_false (on e))
    where
      go : (on e ≡ true) ⊎ (on e ≡ false) → Sort e
      go (inl o) = joined (lifted.above_on e h o) (with_new e o)
      go (inr o) = apart h (lifted.above_off e h o)

  sort : (e : ℕ) → e < suc m → Sort e
  sort e h = go (below_or_last m e h)
    where
      go : (e < m) ⊎ (e ≡ m) → Sort e
      go (inl l) = sort_old e l
      go (inr q) = rw q (joined lifted.above_new (block_refl g' m))

  up_old : (x e : ℕ) → x < n → up_of t' limits x ≡ suc e → up_of t limits x ≡ suc e
  up_old x e h u = sym (lifted.up_same x h) ∙ u

  -- what hung below a block that passes the test hangs below the new block
  hangs_on : (e x : ℕ) → x < n → block g' m e ≡ true → UpOn t limits on x → HangsBelow t' limits g' e x
  hangs_on e x h j u =
      record {
        by = u.by;
        is_up = lifted.up_same x h ∙ u.is_up;
        in_block = block_trans g' e m u.by (block_sym g' m e j) (with_new u.by u.passes);
      }

  hangs_old : (e x : ℕ) → x < n → HangsBelow t limits g e x → HangsBelow t' limits g' e x
  hangs_old e x h u =
      record { by = u.by; is_up = lifted.up_same x h ∙ u.is_up; in_block = block_grows g e₁ e u.by u.in_block }

  top_known : (e : ℕ) → Sort e → above_edge t' limits e < n
  top_known e (joined q j) = rw q top.known
  top_known e (apart h q) = rw q (old.top_known e h)

  top_on : (e : ℕ) → Sort e → on_block g' e (above_edge t' limits e) ≡ true
  top_on e (joined q j) =
      rw q
      (on_same_block g' e top.block_at v (block_trans g' e m top.block_at (block_sym g' m e j) (with_new top.block_at top.passes))
      ∙ on_block_grows g e₁ top.block_at v top.at)
  top_on e (apart h q) = rw q (on_block_grows g e₁ e (above_edge t limits e) (old.top_on e h))

  -- the ends of an old edge
  covers_old : (e x : ℕ) → e < m → x < n → touches (edge g e) x ≡ true → (x ≡ above_edge t' limits e) ⊎ HangsBelow t' limits g' e x
  covers_old e x h l k = go (true_or_false (on e)) (old.covers e x h k)
    where
      go : (on e ≡ true) ⊎ (on e ≡ false) → (x ≡ above_edge t limits e) ⊎ HangsBelow t limits g e x
          → (x ≡ above_edge t' limits e) ⊎ HangsBelow t' limits g' e x
      go o (inr u) = inr (hangs_old e x l u)
      go (inl o) (inl q) =
          ⊎_elim
          (λ i. inl (q ∙ i ∙ sym (lifted.above_on e h o)))
          (λ u. inr (hangs_on e x l (with_new e o) (rw (← q) at u)))
          (top.tops e h o)
      go (inr o) (inl q) = inl (q ∙ sym (lifted.above_off e h o))

  -- the ends of the new edge
  covers_new : (x : ℕ) → touches e₁ x ≡ true → (x ≡ above_edge t' limits m) ⊎ HangsBelow t' limits g' m x
  unfolding edge_in_duct
  covers_new x k = ⊎_elim (λ q. subst Covered q (end a a_known top.left)) (λ q. subst Covered q (end b b_known top.right)) (touches-ends e₁ x k)
    where
      Covered : ℕ → Type 0
      Covered y = (y ≡ above_edge t' limits m) ⊎ HangsBelow t' limits g' m y

      end : (y : ℕ) → y < n → (y ≡ v) ⊎ UpOn t limits on y → Covered y
      end y h (inl q) = inl (q ∙ sym lifted.above_new)
      end y h (inr u) = inr (hangs_on m y h (block_refl g' m) u)

  covers : (e x : ℕ) → (e < m) ⊎ (e ≡ m) → touches (edge g' e) x ≡ true → (x ≡ above_edge t' limits e) ⊎ HangsBelow t' limits g' e x
  covers e x (inl h) k =
      let o = rw (edge_old g e₁ e (rw count h)) at k in
      covers_old e x h (rw (vertex_count limits n m new.t) at (touched_known g valid.proper e x (rw count h) o)) o
  covers e x (inr q) k =
      subst (λ (d : ℕ). (x ≡ above_edge t' limits d) ⊎ HangsBelow t' limits g' d x) (sym q)
      (covers_new x (rw (edge_new g e₁) at (subst (λ (d : ℕ). touches (edge g' d) x ≡ true) (q ∙ sym count) k)))

  falls : (x e : ℕ) → x < n → up_of t limits x ≡ suc e → depth_of t' limits (above_edge t' limits e) < depth_of t' limits x
  falls x e h u = go (true_or_false (on e))
    where
      k : e < m
      k = old.up_known x e h u

      go : (on e ≡ true) ⊎ (on e ≡ false) → depth_of t' limits (above_edge t' limits e) < depth_of t' limits x
      go (inl o) =
          rw (lifted.above_on e k o, lifted.depth_same v top.known, lifted.depth_same x h)
          (omega (arith, top.deeper e k o, old.depth_falls x e h u))
      go (inr o) =
          rw (lifted.above_off e k o, lifted.depth_same (above_edge t limits e) (old.top_known e k), lifted.depth_same x h)
          (old.depth_falls x e h u)

  same_size : (x : ℕ) → size n (component g') x ≡ size n (component g) x
  unfolding edge_in_duct
  same_size x = size_agree n (component g') (component g) x (λ y h. component_edge_within g e₁ within x y)

  -- the forest after
  pub forest_condensed : ForestValid t' limits n (suc m) (after new)
  forest_condensed =
      record {
        up_known = λ x e h u. omega (arith, old.up_known x e h (up_old x e h u));
        up_on = λ x e h u. on_block_grows g e₁ e x (old.up_on x e h (up_old x e h u));
        top_known = λ e h. top_known e (sort e h);
        top_on = λ e h. top_on e (sort e h);
        covers = λ e x h k. covers e x (below_or_last m e h) k;
        depth_falls = λ x e h u. falls x e h (up_old x e h u);
        depth_bound = λ x h. rw (lifted.depth_same x h, same_size x) (old.depth_bound x h);
      }
