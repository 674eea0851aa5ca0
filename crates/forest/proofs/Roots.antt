-- Roots of the block forest: going up ends at a root, and the vertices of one component have one root.
use Rattle.std.proofs.Common.{◌≡◌, ℕ, zero, suc, ◌<◌, ◌≤◌, true, false, ◌≢◌, ◌⊎◌, List, sym, refl, ap, ◌∙◌, inl, inr, arith}
use mathlib.Core.Logic.{Equivalence}
use Rattle.graph.specs.Network.{Network, edge, edge_count, touches, nothing}
use Rattle.graph.specs.Groups.{component}
use Rattle.graph.specs.Block.{block}
use Rattle.graph.proofs.Joined.{joined_least}
use Rattle.graph.proofs.Ends.{touches_left, touches_right, touched_known}
use Rattle.numbers.specs.declared.Limits.{Limits}
use Rattle.table.specs.Inside.Layout.{edge_area}
use Rattle.table.specs.Inside.KindValid.{KindValid}
use Rattle.forest.specs.Inside.Climb.{up_of, depth_of, above_edge}
use Rattle.forest.specs.Inside.Valid.{Valid, ForestValid, HangsBelow, network_of}
use Rattle.forest.proofs.Networks.{edge_count_lem}
use Rattle.forest.proofs.KindWords.{one_above}

-- What the laws of climbing ask of a table: a block forest over the network, and valid names of its blocks.
pub record BlockForest (t : List ℕ) (limits : Limits) (n m : ℕ) (g : Network) : Type 0 where
  pub forest : ForestValid t limits n m g
  pub counted : edge_count g ≡ m
  pub ends_known : (s x : ℕ) → s < m → touches (edge g s) x ≡ true → x < n
  pub blocks : KindValid t (edge_area limits) m (block g)

-- a valid table holds a block forest
pub block_forest : (limits : Limits) (n m : ℕ) (t : List ℕ) → Valid limits n m t → BlockForest t limits n m (network_of limits n m t)
unfolding network_of
block_forest limits n m t w =
    record {
      forest = w.forest;
      counted = edge_count_lem limits n m t;
      ends_known = λ s x h e. touched_known (network_of limits n m t) w.proper s x (rw (edge_count_lem limits n m t) h) e;
      blocks = w.blocks;
    }

-- the vertex that an edge leads up to, or the vertex itself where there is none
unfoldable pub go_up : (ℕ → ℕ) → ℕ → ℕ → ℕ
go_up next x zero = x
go_up next x (suc e) = next e

module _ (t : List ℕ) (limits : Limits) where
  -- Where at most k steps up lead from a vertex.
  unfoldable pub root_from : ℕ → ℕ → ℕ
  root_from zero x = x
  root_from (suc k) x = go_up (λ e. root_from k (above_edge t limits e)) x (up_of t limits x)

  -- The root above a vertex.
  unfoldable pub root_of : ℕ → ℕ
  root_of x = root_from (depth_of t limits x) x

  root_stays : (k x : ℕ) → up_of t limits x ≡ 0 → root_from k x ≡ x
  unfolding root_from go_up
  root_stays zero x e = refl
  root_stays (suc k) x e = rw e

  root_rises : (k x e : ℕ) → up_of t limits x ≡ suc e → root_from (suc k) x ≡ root_from k (above_edge t limits e)
  unfolding root_from go_up
  root_rises k x e p = rw p

module _ (t : List ℕ) (limits : Limits) (n m : ℕ) (g : Network) (w : BlockForest t limits n m g) where
  -- the vertex above a vertex's block is a vertex of the network
  pub above_known : (x e : ℕ) → x < n → up_of t limits x ≡ suc e → above_edge t limits e < n
  above_known x e h p = w.forest.top_known e (w.forest.up_known x e h p)

  -- with enough steps the number of steps does not matter
  root_enough : (k j x : ℕ) → x < n → depth_of t limits x ≤ k → depth_of t limits x ≤ j → root_from t limits k x ≡ root_from t limits j x
  root_enough zero j x h p q = go (up_of t limits x) refl
    where
      go : (u : ℕ) → up_of t limits x ≡ u → root_from t limits zero x ≡ root_from t limits j x
      go zero e = root_stays t limits zero x e ∙ sym (root_stays t limits j x e)
      go (suc e) d = absurd (omega (arith, w.forest.depth_falls x e h d))
  root_enough (suc k) zero x h p q = go (up_of t limits x) refl
    where
      go : (u : ℕ) → up_of t limits x ≡ u → root_from t limits (suc k) x ≡ root_from t limits zero x
      go zero e = root_stays t limits (suc k) x e ∙ sym (root_stays t limits zero x e)
      go (suc e) d = absurd (omega (arith, w.forest.depth_falls x e h d))
  root_enough (suc k) (suc j) x h p q = go (root_enough k j) (up_of t limits x) refl
    where
      go : ((y : ℕ) → y < n → depth_of t limits y ≤ k → depth_of t limits y ≤ j → root_from t limits k y ≡ root_from t limits j y)
          → (u : ℕ) → up_of t limits x ≡ u → root_from t limits (suc k) x ≡ root_from t limits (suc j) x
      go ih zero e = root_stays t limits (suc k) x e ∙ sym (root_stays t limits (suc j) x e)
      go ih (suc e) d =
          root_rises t limits k x e d
          ∙ ih (above_edge t limits e) (above_known x e h d) (omega (arith, w.forest.depth_falls x e h d)) (omega (arith, w.forest.depth_falls x e h d))
          ∙ sym (root_rises t limits j x e d)

  -- one step up leads to the same root
  pub root_up : (x e : ℕ) → x < n → up_of t limits x ≡ suc e → root_of t limits x ≡ root_of t limits (above_edge t limits e)
  unfolding root_of
  root_up x e h p =
      root_enough d (suc d) x h (omega arith) (omega arith)
      ∙ root_rises t limits d x e p
      ∙ root_enough d (depth_of t limits v) v (above_known x e h p) (omega (arith, w.forest.depth_falls x e h p)) (omega arith)
    where
      v : ℕ
      v = above_edge t limits e

      d : ℕ
      d = depth_of t limits x

  -- a vertex that hangs below the block of an edge has the root of the vertex above that block
  hanging_root : (s x : ℕ) → s < m → x < n → (x ≡ above_edge t limits s) ⊎ HangsBelow t limits g s x
      → root_of t limits x ≡ root_of t limits (above_edge t limits s)
  hanging_root s x l h (inl e) = ap (root_of t limits) e
  hanging_root s x l h (inr b) =
      root_up x b.by h b.is_up
      ∙ ap (root_of t limits) (sym (one_above t limits m g w.blocks s b.by l (w.forest.up_known x b.by h b.is_up) b.in_block))

  -- the vertices of one component have one root
  pub roots_agree : (x y : ℕ) → component g x y ≡ true → root_of t limits x ≡ root_of t limits y
  unfolding component
  roots_agree = joined_least (λ x y. root_of t limits x ≡ root_of t limits y) same g nothing each
    where
      same : Equivalence (λ x y. root_of t limits x ≡ root_of t limits y)
      same = record { refl = λ x. refl; symm = λ x y p. sym p; trans = λ x y z p q. p ∙ q }

      at : (s x : ℕ) → s < m → touches (edge g s) x ≡ true → root_of t limits x ≡ root_of t limits (above_edge t limits s)
      at s x l e = hanging_root s x l (w.ends_known s x l e) (w.forest.covers s x l e)

      each : (s : ℕ) → s < edge_count g → nothing s ≡ false → root_of t limits (edge g s).left ≡ root_of t limits (edge g s).right
      each s h k =
          at s _ (rw w.counted at h) (touches_left (edge g s))
          ∙ sym (at s _ (rw w.counted at h) (touches_right (edge g s)))

  -- going up ends at the vertex itself or at less depth
  root_depth : (k y : ℕ) → y < n → (root_from t limits k y ≡ y) ⊎ (depth_of t limits (root_from t limits k y) < depth_of t limits y)
  unfolding root_from
  root_depth zero y h = inl refl
  root_depth (suc k) y h = go (root_depth k) (up_of t limits y) refl
    where
      on : (e : ℕ) → up_of t limits y ≡ suc e → (z : ℕ)
          → (z ≡ above_edge t limits e) ⊎ (depth_of t limits z < depth_of t limits (above_edge t limits e))
          → (z ≡ y) ⊎ (depth_of t limits z < depth_of t limits y)
      on e d z (inl p) = inr (rw p (w.forest.depth_falls y e h d))
      on e d z (inr l) = inr (omega (arith, w.forest.depth_falls y e h d))

      go : ((z : ℕ) → z < n → (root_from t limits k z ≡ z) ⊎ (depth_of t limits (root_from t limits k z) < depth_of t limits z))
          → (u : ℕ) → up_of t limits y ≡ u
          → (root_from t limits (suc k) y ≡ y) ⊎ (depth_of t limits (root_from t limits (suc k) y) < depth_of t limits y)
      go ih zero d = inl (root_stays t limits (suc k) y d)
      go ih (suc e) d =
          rw (root_rises t limits k y e d)
          (on e d (root_from t limits k (above_edge t limits e)) (ih (above_edge t limits e) (above_known y e h d)))

  -- a root has less depth than every other vertex of its component
  pub root_least : (x y : ℕ) → y < n → up_of t limits x ≡ 0 → component g x y ≡ true → y ≢ x → depth_of t limits x < depth_of t limits y
  unfolding root_of
  root_least x y h e c d = go (root_depth (depth_of t limits y) y h)
    where
      is : root_from t limits (depth_of t limits y) y ≡ x
      is = sym (roots_agree x y c) ∙ root_stays t limits (depth_of t limits x) x e

      go : (root_from t limits (depth_of t limits y) y ≡ y) ⊎ (depth_of t limits (root_from t limits (depth_of t limits y) y) < depth_of t limits y)
          → depth_of t limits x < depth_of t limits y
      go (inl p) = absurd (d (sym p ∙ is))
      go (inr l) = rw is at l
