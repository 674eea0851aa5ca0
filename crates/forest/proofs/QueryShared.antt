-- The block that two vertices share, as the forest shows it: the blocks above them are one, or one of them is above the other's block.
use Rattle.std.proofs.Common.{◌≡◌, ℕ, suc, ◌-◌, ◌<◌, true, false, not, ◌&&◌, eqb, ◌⊎◌, List, sym, ◌∙◌, inl, inr, ⊎_elim, arith}
use Rattle.std.specs.Prelude as P
use mathlib.Core.Option.{some}
use Rattle.graph.specs.Network.{Network, edge_count}
use Rattle.graph.specs.Block.{block, shared_block, on_block}
use Rattle.graph.proofs.Truth.{true_or_false, false_of_not, not_both, not_of_false, false_of_not_true, and_left, and_right, and_both}
use Rattle.graph.proofs.Truth.{eqb_eq, eq-eqb, ne_eqb, eqb_ne}
use Rattle.graph.proofs.Block.{block_sym, block_trans}
use Rattle.graph.proofs.BlockVertices.{OnBlock, on_block_lem, on_same_block}
use Rattle.graph.proofs.SharedBlock.{shared_block_some, shared_block_found, shared_block_is, no_shared_block}
use Rattle.naming.specs.Rename.{name_of}
use Rattle.numbers.specs.declared.Edge.{Edge}
use Rattle.numbers.specs.declared.Limits.{Limits}
use Rattle.table.specs.Inside.Layout.{edge_area}
use Rattle.table.proofs.KindNames.{name_in_list, one_name, one_group}
use Rattle.forest.specs.Inside.Climb.{up_of, block_of, above_edge}
use Rattle.forest.specs.Inside.Valid.{network_of, book_of, HangsBelow, Valid}
use Rattle.forest.specs.Inside.Queries.{hangs_from, hang_together, block_above, shared_in}
use Rattle.forest.specs.Promise.{shared_name}
use Rattle.forest.proofs.Networks.{edge_count_lem}
use Rattle.forest.proofs.KindWords.{one_above}

module _ (t : List ℕ) (limits : Limits) where
  -- a vertex that is no root has an edge above it
  has_up : (x : ℕ) → not (eqb (up_of t limits x) 0) ≡ true → up_of t limits x ≡ suc (up_of t limits x - 1)
  has_up x e = omega (arith, eqb_ne (up_of t limits x) 0 (false_of_not_true (eqb (up_of t limits x) 0) e))

  no_root : (x e : ℕ) → up_of t limits x ≡ suc e → not (eqb (up_of t limits x) 0) ≡ true
  no_root x e u = not_of_false (ne_eqb (up_of t limits x) 0 (λ z. omega arith))

  edge_above : (x e : ℕ) → up_of t limits x ≡ suc e → up_of t limits x - 1 ≡ e
  edge_above x e u = omega arith

  -- x hangs from y if y is above the block above x
  hangs_from_lem : (x y e : ℕ) → up_of t limits x ≡ suc e → above_edge t limits e ≡ y → hangs_from t limits x y ≡ true
  unfolding hangs_from above_edge
  hangs_from_lem x y e u q = and_both (no_root x e u) (rw (edge_above x e u) (eq-eqb (above_edge t limits e) y q))

  -- x and y hang together if the blocks above them have one name
  hang_together_lem : (x y e f : ℕ) → up_of t limits x ≡ suc e → up_of t limits y ≡ suc f → block_of t limits e ≡ block_of t limits f
      → hang_together t limits x y ≡ true
  unfolding hang_together
  hang_together_lem x y e f u v q =
      and_both
      (and_both (no_root x e u) (no_root y f v))
      (rw (edge_above x e u, edge_above y f v) (eq-eqb (block_of t limits e) (block_of t limits f) q))

  -- where x hangs from y, there is an edge above x, and y is above its block
  hangs_from-up : (x y : ℕ) → hangs_from t limits x y ≡ true
      → (up_of t limits x ≡ suc (up_of t limits x - 1)) × (above_edge t limits (up_of t limits x - 1) ≡ y)
  unfolding hangs_from above_edge
  hangs_from-up x y h =
      let up = not (eqb (up_of t limits x) 0) in
      let top = above_edge t limits (up_of t limits x - 1) in
      (has_up x (and_left up (eqb top y) h), eqb_eq top y (and_right up (eqb top y) h))

  -- where x and y hang together, there is an edge above each, and the two edges' blocks have one name
  hang_together-up : (x y : ℕ) → hang_together t limits x y ≡ true
      → (up_of t limits x ≡ suc (up_of t limits x - 1))
      × (up_of t limits y ≡ suc (up_of t limits y - 1))
      × (block_of t limits (up_of t limits x - 1) ≡ block_of t limits (up_of t limits y - 1))
  unfolding hang_together
  hang_together-up x y h =
      let up = not (eqb (up_of t limits x) 0) in
      let up' = not (eqb (up_of t limits y) 0) in
      let e = block_of t limits (up_of t limits x - 1) in
      let f = block_of t limits (up_of t limits y - 1) in
      let both = and_left (up && up') (eqb e f) h in
      (has_up x (and_left up up' both), has_up y (and_right up up' both), eqb_eq e f (and_right (up && up') (eqb e f) h))

module _ {limits : Limits} {n m : ℕ} {t : List ℕ} (valid : Valid limits n m t) where
  abbrev g : Network
  g = network_of limits n m t

  -- a vertex on a block is above it or hangs below it
  pub above_or_below : (e x : ℕ) → e < m → on_block g e x ≡ true → (x ≡ above_edge t limits e) ⊎ HangsBelow t limits g e x
  above_or_below e x h on =
      ⊎_elim
      (λ q. inl (q ∙ sym (one_above t limits m g valid.blocks e o.by h known o.within)))
      (λ b. inr record { by = b.by; is_up = b.is_up; in_block = block_trans g e o.by b.by o.within b.in_block })
      (valid.forest.covers o.by x known o.at)
    where
      o : OnBlock g e x
      o = on_block_lem g e x on

      known : o.by < m
      known = rw (edge_count_lem limits n m t) at o.known

  -- The block above x, with x and y on it.
  abbrev OnBlockAbove : ℕ → ℕ → Type 0
  OnBlockAbove x y =
      (up_of t limits x - 1 < m) × (on_block g (up_of t limits x - 1) x ≡ true) × (on_block g (up_of t limits x - 1) y ≡ true)

  -- where x hangs from y, both are on the block above x
  hangs_on : (x y : ℕ) → x < n → hangs_from t limits x y ≡ true → OnBlockAbove x y
  hangs_on x y h p =
      let u = hangs_from-up t limits x y p in
      let e = up_of t limits x - 1 in
      let known = valid.forest.up_known x e h u.0 in
      (known, valid.forest.up_on x e h u.0, rw (← u.1) (valid.forest.top_on e known))

  -- where x and y hang together, both are on the block above x
  together_on : (x y : ℕ) → x < n → y < n → hang_together t limits x y ≡ true → OnBlockAbove x y
  together_on x y h k p =
      (e_known, valid.forest.up_on x e h u.0, on_same_block g e f y same ∙ valid.forest.up_on y f k u.1)
    where
      e : ℕ
      e = up_of t limits x - 1

      f : ℕ
      f = up_of t limits y - 1

      u : (up_of t limits x ≡ suc e) × (up_of t limits y ≡ suc f) × (block_of t limits e ≡ block_of t limits f)
      u = hang_together-up t limits x y p

      e_known : e < m
      e_known = valid.forest.up_known x e h u.0

      same : block g e f ≡ true
      same = one_group valid.blocks e f e_known (valid.forest.up_known y f k u.1) u.2

  -- a vertex that hangs below a block hangs from the vertex above it, and two such vertices hang together
  below_hangs : (e x y : ℕ) → e < m → x < n → y ≡ above_edge t limits e → HangsBelow t limits g e x → hangs_from t limits x y ≡ true
  below_hangs e x y h k q b =
      hangs_from_lem t limits x y b.by b.is_up
      (one_above t limits m g valid.blocks b.by e (valid.forest.up_known x b.by k b.is_up) h (block_sym g e b.by b.in_block) ∙ sym q)

  below_together : (e x y : ℕ) → x < n → y < n → HangsBelow t limits g e x → HangsBelow t limits g e y → hang_together t limits x y ≡ true
  below_together e x y h k b c =
      hang_together_lem t limits x y b.by c.by b.is_up c.is_up
      (one_name valid.blocks b.by c.by (valid.forest.up_known x b.by h b.is_up)
      (valid.forest.up_known y c.by k c.is_up)
      (block_trans g b.by e c.by (block_sym g e b.by b.in_block) c.in_block))

  module _ (a b : ℕ) (a_known : a < n) (b_known : b < n) (differ : eqb a b ≡ false) where
    abbrev Answer : P.Option Edge → Type 0
    Answer answer = answer ≡ shared_name (book_of limits n m t).blocks (shared_block g a b)

    -- a block that both are on is the one, by its name
    on_both : (e : ℕ) → e < m → on_block g e a ≡ true → on_block g e b ≡ true → Answer (P.Some (record { 0 = block_of t limits e }))
    unfolding book_of
    on_both e h p q = rw (found.1, named)
      where
        found : (s : ℕ) × (shared_block g a b ≡ some s)
        found = shared_block_found g a b e p q

        known : found.0 < m
        known = rw (edge_count_lem limits n m t) at (shared_block_some g a b found.0 found.1).known

        named : block_of t limits e ≡ name_of (book_of limits n m t).blocks found.0
        named =
            one_name valid.blocks e found.0 h known (shared_block_is g valid.proper a b e found.0 differ p q found.1)
            ∙ sym (name_in_list t (edge_area limits) m found.0 known)

    -- there is none where neither hangs from the other and they do not hang together
    on_none : hang_together t limits a b ≡ false → hangs_from t limits a b ≡ false → hangs_from t limits b a ≡ false → Answer P.None
    on_none p q r = rw (no_shared_block g a b (λ s h on. false_of_not (on_block g s b) (λ on'. apart s h on on')))
      where
        clash : (s : ℕ) → s < m
            → (a ≡ above_edge t limits s) ⊎ HangsBelow t limits g s a → (b ≡ above_edge t limits s) ⊎ HangsBelow t limits g s b → ⊥
        clash s h (inl x) (inl y) = not_both (eq-eqb a b (x ∙ sym y)) differ
        clash s h (inl x) (inr y) = not_both (below_hangs s b a h b_known x y) r
        clash s h (inr x) (inl y) = not_both (below_hangs s a b h a_known y x) q
        clash s h (inr x) (inr y) = not_both (below_together s a b a_known b_known x y) p

        apart : (s : ℕ) → s < edge_count g → on_block g s a ≡ true → on_block g s b ≡ true → ⊥
        apart s h on on' =
            let k : s < m = rw (edge_count_lem limits n m t) at h in
            clash s k (above_or_below s a k on) (above_or_below s b k on')

  -- the shared block is read off the forest
  pub shared_in_lem : (a b : ℕ) → a < n → b < n → (a ≡ b → ⊥)
      → shared_in t limits a b ≡ shared_name (book_of limits n m t).blocks (shared_block g a b)
  unfolding shared_in block_above
  shared_in_lem a b h k differ =
      go (true_or_false (hang_together t limits a b)) (true_or_false (hangs_from t limits a b)) (true_or_false (hangs_from t limits b a))
    where
      d : eqb a b ≡ false
      d = ne_eqb a b differ

      go : (hang_together t limits a b ≡ true) ⊎ (hang_together t limits a b ≡ false)
          → (hangs_from t limits a b ≡ true) ⊎ (hangs_from t limits a b ≡ false)
          → (hangs_from t limits b a ≡ true) ⊎ (hangs_from t limits b a ≡ false)
          → shared_in t limits a b ≡ shared_name (book_of limits n m t).blocks (shared_block g a b)
      go (inl p) q r = let o = together_on a b h k p in rw p (on_both a b h k d _ o.0 o.1 o.2)
      go (inr p) (inl q) r = let o = hangs_on a b h q in rw (p, q) (on_both a b h k d _ o.0 o.1 o.2)
      go (inr p) (inr q) (inl r) = let o = hangs_on b a k r in rw (p, q, r) (on_both a b h k d _ o.0 o.2 o.1)
      go (inr p) (inr q) (inr r) = rw (p, q, r) (on_none a b h k d p q r)
