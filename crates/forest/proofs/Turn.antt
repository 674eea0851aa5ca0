-- A way up that is turned round, one vertex at a time: the vertex at hand dangles until it is hung below a block, and then the vertex
-- above it dangles.
use Rattle.std.proofs.Common.{◌≡◌, ℕ, zero, suc, ◌*◌, ◌<◌, ◌≤◌, Bool, true, false, eqb, ◌⊎◌, List, sym, refl, ap, ◌∙◌, inl, inr, ⊎_elim, arith}
use Rattle.graph.specs.Network.{Network, edge, touches}
use Rattle.graph.specs.Groups.{component}
use Rattle.graph.specs.Block.{block, on_block}
use Rattle.graph.proofs.Truth.{true_or_false, not_both, false_of_not, eqb_eq, eqb_ne}
use Rattle.graph.proofs.Block.{block_sym}
use Rattle.graph.proofs.BlockVertices.{on_same_block}
use Rattle.naming.specs.Rename.{size}
use Rattle.naming.proofs.Equivalent.{group-same}
use Rattle.numbers.specs.declared.Limits.{Limits}
use Rattle.forest.specs.Inside.Climb.{up_of, depth_of, above_edge}
use Rattle.forest.specs.Inside.Valid.{HangsBelow, ForestValid}
use Rattle.forest.proofs.Networks.{block_groups}

-- The block forest, but that some vertices need not be above or below some blocks that they are on.
pub record ForestBut (t : List ℕ) (limits : Limits) (n m : ℕ) (g : Network) (but : ℕ → ℕ → Type 0) : Type 0 where
  pub up_known : (x e : ℕ) → x < n → up_of t limits x ≡ suc e → e < m
  pub up_on : (x e : ℕ) → x < n → up_of t limits x ≡ suc e → on_block g e x ≡ true
  pub touched_known : (e y : ℕ) → e < m → touches (edge g e) y ≡ true → y < n
  pub top_known : (e : ℕ) → e < m → above_edge t limits e < n
  pub top_on : (e : ℕ) → e < m → on_block g e (above_edge t limits e) ≡ true
  pub one_top : (e e' : ℕ) → e < m → e' < m → block g e e' ≡ true → above_edge t limits e ≡ above_edge t limits e'
  pub covers : (e y : ℕ) → e < m → touches (edge g e) y ≡ true → (but e y → ⊥) → (y ≡ above_edge t limits e) ⊎ HangsBelow t limits g e y
  pub depth_falls : (x e : ℕ) → x < n → up_of t limits x ≡ suc e → depth_of t limits (above_edge t limits e) < depth_of t limits x
  pub depth_bound : (x : ℕ) → x < n → depth_of t limits x < size n (component g) x * size n (component g) x

-- Vertex x is on the block of edge s, but neither above nor below it; it is to be hung below it, at depth d.
pub record Dangling (t : List ℕ) (limits : Limits) (n m : ℕ) (g : Network) (x s d : ℕ) : Type 0 where
  pub forest : ForestBut t limits n m g (λ e y. (y ≡ x) × (block g e s ≡ true))
  pub vertex_known : x < n
  pub edge_known : s < m
  pub on : on_block g s x ≡ true
  pub not_below : (e : ℕ) → up_of t limits x ≡ suc e → block g e s ≡ false
  pub not_above : above_edge t limits s ≡ x → ⊥
  pub deeper : depth_of t limits (above_edge t limits s) < d
  pub shallow : d ≤ depth_of t limits x

-- A vertex with this way up hangs below the block of edge e.
unfoldable pub hangs : Network → ℕ → ℕ → Bool
hangs g zero e = false
hangs g (suc r) e = block g e r

-- Vertex x is now hung below the block of edge s at depth d, and the block that it hung below is below x. Nothing else has changed.
pub record HungAnew (t t' : List ℕ) (limits : Limits) (n m : ℕ) (g : Network) (x s d : ℕ) : Type 0 where
  pub up_here : up_of t' limits x ≡ suc s
  pub up_else : (y : ℕ) → y < n → (x ≡ y → ⊥) → up_of t' limits y ≡ up_of t limits y
  pub depth_here : depth_of t' limits x ≡ d
  pub depth_else : (y : ℕ) → y < n → (x ≡ y → ⊥) → depth_of t' limits y ≡ depth_of t limits y
  pub above_here : (e : ℕ) → e < m → hangs g (up_of t limits x) e ≡ true → above_edge t' limits e ≡ x
  pub above_else : (e : ℕ) → e < m → hangs g (up_of t limits x) e ≡ false → above_edge t' limits e ≡ above_edge t limits e

-- what hangs below a block hangs below it by one of its edges
hung : (g : Network) (u e : ℕ) → hangs g u e ≡ true → (r : ℕ) × ((u ≡ suc r) × (block g e r ≡ true))
unfolding hangs
hung g zero e h = absurd (not_both h refl)
hung g (suc r) e h = (r, (refl, h))

-- edges of one block have the same below them
hangs_same : (g : Network) (u e e' : ℕ) → block g e e' ≡ true → hangs g u e ≡ hangs g u e'
unfolding hangs
hangs_same g zero e e' b = refl
hangs_same g (suc r) e e' b = group-same (block g) (block_groups g) e e' b r

-- what is below a block hangs below it
below_hangs : (g : Network) (t : List ℕ) (limits : Limits) (e x : ℕ) → HangsBelow t limits g e x → hangs g (up_of t limits x) e ≡ true
unfolding hangs
below_hangs g t limits e x b = rw b.is_up b.in_block

module _ {t t' : List ℕ} {limits : Limits} {n m : ℕ} {g : Network} {x s d : ℕ} (f : Dangling t limits n m g x s d)
    (w : HungAnew t t' limits n m g x s d)
    (deep : (e : ℕ) → e < m → hangs g (up_of t limits x) e ≡ true → d ≤ depth_of t limits (above_edge t limits e)) where
  -- the vertex at hand, or another
  here_or_else : (y : ℕ) → (x ≡ y) ⊎ (x ≡ y → ⊥)
  here_or_else y = ⊎_elim (λ e. inl (eqb_eq x y e)) (λ e. inr (eqb_ne x y e)) (true_or_false (eqb x y))

  abbrev moved : ℕ → Bool
  moved e = hangs g (up_of t limits x) e

  -- the new way up of a vertex is that of the vertex at hand or the old one
  ways : (y e : ℕ) → y < n → up_of t' limits y ≡ suc e → ((x ≡ y) × (s ≡ e)) ⊎ ((x ≡ y → ⊥) × (up_of t limits y ≡ suc e))
  ways y e h u = ⊎_elim
      (λ q. inl (q, omega (arith, sym w.up_here ∙ ap (up_of t' limits) q ∙ u)))
      (λ q. inr (q, sym (w.up_else y h q) ∙ u))
      (here_or_else y)

  -- so with the vertex above a block
  tops : (e : ℕ) → e < m → ((moved e ≡ true) × (above_edge t' limits e ≡ x)) ⊎ ((moved e ≡ false) × (above_edge t' limits e ≡ above_edge t limits e))
  tops e h = ⊎_elim (λ q. inl (q, w.above_here e h q)) (λ q. inr (q, w.above_else e h q)) (true_or_false (moved e))

  -- the vertex at hand is on the block that it hung below
  moved_on : (e : ℕ) → moved e ≡ true → on_block g e x ≡ true
  moved_on e q =
      let r = hung g (up_of t limits x) e q in
      on_same_block g e r.0 x r.1.1 ∙ f.forest.up_on x r.0 f.vertex_known r.1.0

  -- it does not hang below the block of s yet
  not_moved : moved s ≡ false
  not_moved = false_of_not (moved s) (λ q.
      let r = hung g (up_of t limits x) s q in
      not_both (block_sym g s r.0 r.1.1) (f.not_below r.0 r.1.0))

  -- the depth of a vertex does not grow
  depth_lessens : (y : ℕ) → y < n → depth_of t' limits y ≤ depth_of t limits y
  depth_lessens y h = ⊎_elim
      (λ q. omega (arith, sym (ap (depth_of t' limits) q) ∙ w.depth_here, ap (depth_of t limits) q, f.shallow))
      (λ q. omega (arith, w.depth_else y h q))
      (here_or_else y)

  falls_here : depth_of t' limits (above_edge t' limits s) < depth_of t' limits x
  falls_here =
      rw (
        w.above_else s f.edge_known not_moved,
        w.depth_here,
        w.depth_else (above_edge t limits s) (f.forest.top_known s f.edge_known) (λ q. f.not_above (sym q)),
      )
      f.deeper

  falls_else : (y e : ℕ) → y < n → (x ≡ y → ⊥) → up_of t limits y ≡ suc e → depth_of t' limits (above_edge t' limits e) < depth_of t' limits y
  falls_else y e h q u = rw (w.depth_else y h q) (go (tops e k))
    where
      k : e < m
      k = f.forest.up_known y e h u

      less : depth_of t limits (above_edge t limits e) < depth_of t limits y
      less = f.forest.depth_falls y e h u

      go : ((moved e ≡ true) × (above_edge t' limits e ≡ x)) ⊎ ((moved e ≡ false) × (above_edge t' limits e ≡ above_edge t limits e))
          → depth_of t' limits (above_edge t' limits e) < depth_of t limits y
      go (inl p) = rw (p.1, w.depth_here) (omega (arith, less, deep e k p.0))
      go (inr p) = rw p.1 (omega (arith, less, depth_lessens (above_edge t limits e) (f.forest.top_known e k)))

  -- edges of one block still have one vertex above them
  same-top : (e e' : ℕ) → e < m → e' < m → block g e e' ≡ true
      → ((moved e ≡ true) × (above_edge t' limits e ≡ x)) ⊎ ((moved e ≡ false) × (above_edge t' limits e ≡ above_edge t limits e))
      → ((moved e' ≡ true) × (above_edge t' limits e' ≡ x)) ⊎ ((moved e' ≡ false) × (above_edge t' limits e' ≡ above_edge t limits e'))
      → above_edge t' limits e ≡ above_edge t' limits e'
  same-top e e' h h' b (inl p) (inl q) = p.1 ∙ sym q.1
  same-top e e' h h' b (inr p) (inr q) = p.1 ∙ f.forest.one_top e e' h h' b ∙ sym q.1
  same-top e e' h h' b (inl p) (inr q) = absurd (not_both p.0 (hangs_same g (up_of t limits x) e e' b ∙ q.0))
  same-top e e' h h' b (inr p) (inl q) = absurd (not_both q.0 (sym (hangs_same g (up_of t limits x) e e' b) ∙ p.0))

  -- the vertex at hand is above or below each block that it is on
  covers_here : (e y : ℕ) → e < m → touches (edge g e) y ≡ true → x ≡ y → (y ≡ above_edge t' limits e) ⊎ HangsBelow t' limits g e y
  covers_here e y h k q = go (tops e h) (true_or_false (block g e s))
    where
      old : (moved e ≡ false) × (above_edge t' limits e ≡ above_edge t limits e) → (y ≡ above_edge t limits e) ⊎ HangsBelow t limits g e y
          → (y ≡ above_edge t' limits e) ⊎ HangsBelow t' limits g e y
      old p (inl i) = inl (i ∙ sym p.1)
      old p (inr b) = absurd (not_both (below_hangs g t limits e y b) (sym (ap (λ z. hangs g (up_of t limits z) e) q) ∙ p.0))

      go : ((moved e ≡ true) × (above_edge t' limits e ≡ x)) ⊎ ((moved e ≡ false) × (above_edge t' limits e ≡ above_edge t limits e))
          → (block g e s ≡ true) ⊎ (block g e s ≡ false)
          → (y ≡ above_edge t' limits e) ⊎ HangsBelow t' limits g e y
      go (inl p) b = inl (sym q ∙ sym p.1)
      go (inr p) (inl b) = inr (record { by = s; is_up = sym (ap (up_of t' limits) q) ∙ w.up_here; in_block = b })
      go (inr p) (inr b) = old p (f.forest.covers e y h k (λ i. not_both i.1 b))

  -- and so is every other, but what was above the block that has moved
  covers_else : (e y : ℕ) → e < m → touches (edge g e) y ≡ true → ((y ≡ above_edge t limits e) × (moved e ≡ true) → ⊥) → (x ≡ y → ⊥)
      → (y ≡ above_edge t' limits e) ⊎ HangsBelow t' limits g e y
  covers_else e y h k but q = go (tops e h) (f.forest.covers e y h k (λ i. q (sym i.0)))
    where
      go : ((moved e ≡ true) × (above_edge t' limits e ≡ x)) ⊎ ((moved e ≡ false) × (above_edge t' limits e ≡ above_edge t limits e))
          → (y ≡ above_edge t limits e) ⊎ HangsBelow t limits g e y
          → (y ≡ above_edge t' limits e) ⊎ HangsBelow t' limits g e y
      go p (inr b) =
          inr (record {
            by = b.by;
            is_up = w.up_else y (f.forest.touched_known e y h k) q ∙ b.is_up;
            in_block = b.in_block;
          })
      go (inl p) (inl i) = absurd (but (i, p.0))
      go (inr p) (inl i) = inl (i ∙ sym p.1)

  -- the forest with the vertex at hand hung: only what was above its block need not be above or below that
  pub hung_forest : ForestBut t' limits n m g (λ e y. (y ≡ above_edge t limits e) × (hangs g (up_of t limits x) e ≡ true))
  hung_forest =
      record {
        up_known = λ y e h u. ⊎_elim
            (λ p. rw p.1 at f.edge_known)
            (λ p. f.forest.up_known y e h p.1)
            (ways y e h u);
        up_on = λ y e h u. ⊎_elim
            (λ p. rw (← p.0, ← p.1) f.on)
            (λ p. f.forest.up_on y e h p.1)
            (ways y e h u);
        top_known = λ e h. ⊎_elim
            (λ p. rw p.1 f.vertex_known)
            (λ p. rw p.1 (f.forest.top_known e h))
            (tops e h);
        top_on = λ e h. ⊎_elim
            (λ p. rw p.1 (moved_on e p.0))
            (λ p. rw p.1 (f.forest.top_on e h))
            (tops e h);
        touched_known = f.forest.touched_known;
        one_top = λ e e' h h' b. same-top e e' h h' b (tops e h) (tops e' h');
        covers = λ e y h k but. ⊎_elim (covers_here e y h k) (covers_else e y h k but) (here_or_else y);
        depth_falls = λ y e h u. ⊎_elim
            (λ p. rw (← p.0, ← p.1) falls_here)
            (λ p. falls_else y e h p.0 p.1)
            (ways y e h u);
        depth_bound = λ y h. omega (arith, depth_lessens y h, f.forest.depth_bound y h);
      }

-- a forest with no exception is valid
pub whole_forest : {t : List ℕ} {limits : Limits} {n m : ℕ} {g : Network} {but : ℕ → ℕ → Type 0} → ForestBut t limits n m g but
    → ((e y : ℕ) → but e y → ⊥)
    → ForestValid t limits n m g
whole_forest f none =
    record {
      up_known = f.up_known;
      up_on = f.up_on;
      top_known = f.top_known;
      top_on = f.top_on;
      covers = λ e y h k. f.covers e y h k (none e y);
      depth_falls = f.depth_falls;
      depth_bound = f.depth_bound;
    }

-- with more exceptions less is said
pub forest_but : {t : List ℕ} {limits : Limits} {n m : ℕ} {g : Network} {but but' : ℕ → ℕ → Type 0} → ForestBut t limits n m g but
    → ((e y : ℕ) → e < m → but e y → but' e y)
    → ForestBut t limits n m g but'
forest_but f more =
    record {
      up_known = f.up_known;
      up_on = f.up_on;
      touched_known = f.touched_known;
      top_known = f.top_known;
      top_on = f.top_on;
      one_top = f.one_top;
      covers = λ e y h k no. f.covers e y h k (λ b. no (more e y h b));
      depth_falls = f.depth_falls;
      depth_bound = f.depth_bound;
    }
