-- One edge more: bridge-blocks where it joins two components or has a mate, and which bridges are left where it has none.
use mathlib.Core.Bool.{Bool, true, false, not, ◌&&◌}
use mathlib.Core.Logic.{◌⊎◌, inl, inr}
use mathlib.Core.Path.{◌≡◌, refl, sym, ◌∙◌, ap, ap₂, subst, fun_ext}
use Prim.Native.Nat.{ℕ, ◌<◌}
use Rattle.graph.specs.Network.{Network, Edge, Loss, edge, edge_count, add_edge, MateRule, mates, nothing, loss_of, joined}
use Rattle.graph.specs.Groups.{component, bridge, bridge_block}
use Rattle.graph.proofs.Truth.{true_or_false, not_both, false_of_not, bool_ext, not_of_true, not_of_false}
use Rattle.graph.proofs.Labels.{merged, Merged, before, across, back, merged_ways, merged_true, merged_before, merged_least}
use Rattle.graph.proofs.Joined.{joined_sym, joined_trans, joined_equivalence, joined-edge, joined_same_loss, edge_old, edge_new, old_or_new, joined_old, joined_new_lost, joined_new_kept}
use Rattle.graph.proofs.Grows.{old_below, new_below}
use Rattle.graph.proofs.EdgeMore.{component_edge_within}
use Rattle.graph.proofs.Mates.{mates_refl, mates_sym, mates_trans, mates_carry, loss_of-mates, joined-component}
use Rattle.graph.proofs.BridgeBlock.{bridge_block-component, bridge_block_lasts, in_bridge_block}
use Rattle.graph.proofs.MateLoss.{NoMate, loss_merged, mates_old, mates_new, joined_loss_old}

-- a rule stays a rule with one edge more
pub rule_more : (g : Network) (e : Edge) → MateRule g.rule → MateRule (add_edge g e).rule
unfolding add_edge
rule_more g e rule = rule

module _ (g : Network) (e : Edge) where
  bridge_old : (s : ℕ) → s < edge_count g
      → bridge (add_edge g e) s ≡ not (joined (add_edge g e) (loss_of (add_edge g e) s) (edge g s).left (edge g s).right)
  unfolding bridge
  bridge_old s h = ap (λ f. not (joined (add_edge g e) (loss_of (add_edge g e) s) f.left f.right)) (edge_old g e s h)

  -- with the mates of an old edge lost, a new edge that is no mate joins its ends
  pub loss_kept : (s x y : ℕ) → s < edge_count g → g.rule (edge g s) e ≡ false
      → joined (add_edge g e) (loss_of (add_edge g e) s) x y ≡ merged (joined g (loss_of g s)) e.left e.right x y
  unfolding loss_of
  loss_kept s x y h n =
      joined_new_kept g e (loss_of (add_edge g e) s) (mates_new g e s h ∙ n) x y
      ∙ ap (λ q. merged q e.left e.right x y) (fun_ext λ x. fun_ext λ y. joined_loss_old g e s x y h)

  -- and a new edge that is a mate joins nothing
  pub loss_lost : (s x y : ℕ) → s < edge_count g → g.rule (edge g s) e ≡ true
      → joined (add_edge g e) (loss_of (add_edge g e) s) x y ≡ joined g (loss_of g s) x y
  unfolding loss_of
  loss_lost s x y h n = joined_new_lost g e (loss_of (add_edge g e) s) (mates_new g e s h ∙ n) x y ∙ joined_loss_old g e s x y h

  -- with a new edge lost that has no mates, everything is joined as before
  pub loss_new : MateRule g.rule → NoMate g e → (x y : ℕ)
      → joined (add_edge g e) (loss_of (add_edge g e) (edge_count g)) x y ≡ component g x y
  unfolding loss_of component nothing
  loss_new rule none x y =
      joined_new_lost g e (loss_of (add_edge g e) (edge_count g)) (mates_refl (add_edge g e) (edge_count g)) x y
      ∙ joined_same_loss g (loss_of (add_edge g e) (edge_count g)) nothing
      (λ s h.
      false_of_not (mates (add_edge g e) (edge_count g) s)
      (λ k. not_both (mates_sym (add_edge g e) (rule_more g e rule) (edge_count g) s k) (mates_new g e s h ∙ none s h)))
      x y

  -- what a mate of the new edge joins, the new edge's ends share
  pub mate_joins : MateRule g.rule → (s : ℕ) → s < edge_count g → g.rule (edge g s) e ≡ true
      → (R : ℕ → ℕ → Type 0) → ((x y : ℕ) → R x y → R y x) → R (edge g s).left (edge g s).right → R e.left e.right
  mate_joins rule s h m R w k =
      subst (λ f. R f.left f.right) (edge_new g e)
      (mates_carry (add_edge g e) (rule_more g e rule) R w (edge_count g) s (mates_sym (add_edge g e) (rule_more g e rule) s (edge_count g) (mates_new g e s h ∙ m))
      (subst (λ f. R f.left f.right) (sym (edge_old g e s h)) k))

  -- two vertices share a bridge-block as before if they share a component as before and each loss joins them as before
  bridge_block-same : (x y : ℕ)
      → (bridge_block (add_edge g e) x y ≡ true → component g x y ≡ true)
      → (component g x y ≡ true → (s : ℕ) → s < edge_count g
      → joined (add_edge g e) (loss_of (add_edge g e) s) x y ≡ joined g (loss_of g s) x y)
      → (bridge_block g x y ≡ true → joined (add_edge g e) (loss_of (add_edge g e) (edge_count g)) x y ≡ true)
      → bridge_block (add_edge g e) x y ≡ bridge_block g x y
  unfolding component
  bridge_block-same x y c f n =
      bool_ext (bridge_block (add_edge g e) x y) (bridge_block g x y)
      (λ b. in_bridge_block g x y (c b)
      (λ s h. sym (f (c b) s h) ∙ bridge_block_lasts (add_edge g e) x y b s (old_below g e s h)))
      (λ b. in_bridge_block (add_edge g e) x y (joined_old g e nothing x y (bridge_block-component g x y b))
      (λ s h. each b s (old_or_new g e s h)))
    where
      each : bridge_block g x y ≡ true → (s : ℕ) → (s < edge_count g) ⊎ (s ≡ edge_count g)
          → joined (add_edge g e) (loss_of (add_edge g e) s) x y ≡ true
      each b s (inl h) = f (bridge_block-component g x y b) s h ∙ bridge_block_lasts g x y b s h
      each b s (inr q) = rw q (n b)

-- the new edge joins two components
module _ (g : Network) (e : Edge) (rule : MateRule g.rule) (apart : component g e.left e.right ≡ false) where
  -- it has no mate
  no_mate : NoMate g e
  unfolding component nothing
  no_mate s h =
      false_of_not (g.rule (edge g s) e)
      (λ m. not_both (mate_joins g e rule s h m (λ x y. component g x y ≡ true) (joined_sym g nothing) (joined-edge g nothing s h refl)) apart)

  -- with the mates of an old edge lost, vertices of one component are joined as before
  loss_between : (s x y : ℕ) → s < edge_count g → component g x y ≡ true
      → joined (add_edge g e) (loss_of (add_edge g e) s) x y ≡ joined g (loss_of g s) x y
  unfolding component
  loss_between s x y h c =
      loss_kept g e s x y h (no_mate s h)
      ∙ bool_ext (merged J e.left e.right x y) (J x y)
      (λ m. go (merged_ways J e.left e.right x y m))
      (merged_before J e.left e.right)
    where
      J : ℕ → ℕ → Bool
      J = joined g (loss_of g s)

      share : (u v : ℕ) → J u v ≡ true → component g u v ≡ true
      share = joined-component g (loss_of g s)

      crossed : (u v : ℕ) → J x u ≡ true → J v y ≡ true → component g u v ≡ true
      crossed u v i j =
          joined_trans g nothing u x v (joined_sym g nothing x u (share x u i))
          (joined_trans g nothing x y v c (joined_sym g nothing v y (share v y j)))

      go : Merged J e.left e.right x y → J x y ≡ true
      go (before j) = j
      go (across i j) = absurd (not_both (crossed e.left e.right i j) apart)
      go (back i j) = absurd (not_both (joined_sym g nothing _ _ (crossed e.right e.left i j)) apart)

  -- no bridge-block changes
  pub bridge_block-between : (x y : ℕ) → bridge_block (add_edge g e) x y ≡ bridge_block g x y
  bridge_block-between x y =
      bridge_block-same g e x y
      (λ b. sym (loss_new g e rule no_mate x y) ∙ bridge_block_lasts (add_edge g e) x y b (edge_count g) (new_below g e))
      (λ c s h. loss_between s x y h c)
      (λ b. loss_new g e rule no_mate x y ∙ bridge_block-component g x y b)

-- the new edge has a mate
module _ (g : Network) (e : Edge) (rule : MateRule g.rule) (t : ℕ) (known : t < edge_count g)
    (mate : g.rule (edge g t) e ≡ true) where
  new_mate : mates (add_edge g e) t (edge_count g) ≡ true
  new_mate = mates_new g e t known ∙ mate

  -- with the mates of an old edge lost, everything is joined as before
  loss_mate : (s x y : ℕ) → s < edge_count g → joined (add_edge g e) (loss_of (add_edge g e) s) x y ≡ joined g (loss_of g s) x y
  unfolding loss_of
  loss_mate s x y h = go (true_or_false (g.rule (edge g s) e))
    where
      J : ℕ → ℕ → Bool
      J = joined g (loss_of g s)

      go : (g.rule (edge g s) e ≡ true) ⊎ (g.rule (edge g s) e ≡ false)
          → joined (add_edge g e) (loss_of (add_edge g e) s) x y ≡ J x y
      go (inl m) = loss_lost g e s x y h m
      go (inr n) =
          loss_kept g e s x y h n
          ∙ bool_ext (merged J e.left e.right x y) (J x y)
          (merged_least (λ x y. J x y ≡ true) (joined_equivalence g (loss_of g s)) J e.left e.right (λ x y j. j) across_new x y)
          (merged_before J e.left e.right)
        where
          kept : mates g s t ≡ false
          kept =
              false_of_not (mates g s t)
              (λ k.
              not_both
              (mates_trans (add_edge g e) (rule_more g e rule) s t (edge_count g) (mates_old g e s t h known ∙ k) new_mate)
              (mates_new g e s h ∙ n))

          across_new : J e.left e.right ≡ true
          across_new = mate_joins g e rule t known mate (λ x y. J x y ≡ true) (joined_sym g _) (joined-edge g (loss_of g s) t known kept)

  loss_new_mate : (x y : ℕ) → joined (add_edge g e) (loss_of (add_edge g e) (edge_count g)) x y ≡ joined g (loss_of g t) x y
  unfolding loss_of
  loss_new_mate x y =
      joined_same_loss (add_edge g e) (loss_of (add_edge g e) (edge_count g)) (loss_of (add_edge g e) t)
      (λ u k. sym (loss_of-mates (add_edge g e) (rule_more g e rule) t (edge_count g) new_mate u))
      x y
      ∙ loss_mate t x y known

  -- no bridge-block changes
  pub bridge_block_mate : (x y : ℕ) → bridge_block (add_edge g e) x y ≡ bridge_block g x y
  unfolding component nothing
  bridge_block_mate x y =
      bridge_block-same g e x y
      (λ b. sym (component_edge_within g e share x y) ∙ bridge_block-component (add_edge g e) x y b)
      (λ c s h. loss_mate s x y h)
      (λ b. loss_new_mate x y ∙ bridge_block_lasts g x y b t known)
    where
      share : component g e.left e.right ≡ true
      share = mate_joins g e rule t known mate (λ x y. component g x y ≡ true) (joined_sym g nothing) (joined-edge g nothing t known refl)

-- where joining l and r would join a and b: joining a and b leaves l and r parted exactly if they were, and a and b were not
still_parted : (g : Network) (lost : Loss) (a b l r : ℕ) → merged (joined g lost) l r a b ≡ true
    → not (merged (joined g lost) a b l r) ≡ (not (joined g lost l r) && joined g lost a b)
still_parted g lost a b l r m = go (true_or_false (J l r)) (true_or_false (J a b))
  where
    J : ℕ → ℕ → Bool
    J = joined g lost

    around : J a b ≡ false → Merged J l r a b → Merged J a b l r
    around n (before j) = absurd (not_both j n)
    around n (across i j) = across (joined_sym g lost a l i) (joined_sym g lost r b j)
    around n (back i j) = back j i

    go : (J l r ≡ true) ⊎ (J l r ≡ false) → (J a b ≡ true) ⊎ (J a b ≡ false) → not (merged J a b l r) ≡ (not (J l r) && J a b)
    go (inl j) k = rw (merged_before J a b j, j)
    go (inr n) (inl k) =
        not_of_false
        (false_of_not (merged J a b l r)
        (λ w. not_both (merged_least (λ x y. J x y ≡ true) (joined_equivalence g lost) J a b (λ x y j. j) k l r w) n))
        ∙ sym (ap₂ (λ p q. not p && q) n k)
    go (inr n) (inr k) =
        not_of_true (merged_true J a b l r (around k (merged_ways J l r a b m))) ∙ sym (ap₂ (λ p q. not p && q) n k)

-- the new edge lies within a component and has no mate
module _ (g : Network) (e : Edge) (rule : MateRule g.rule) (within : component g e.left e.right ≡ true)
    (none : NoMate g e) where
  -- exactly the bridges whose loss does not part its ends stay bridges
  pub bridge_old_within : (s : ℕ) → s < edge_count g
      → bridge (add_edge g e) s ≡ (bridge g s && joined g (loss_of g s) e.left e.right)
  unfolding bridge component
  bridge_old_within s h =
      bridge_old g e s h
      ∙ ap not (loss_kept g e s (edge g s).left (edge g s).right h (none s h))
      ∙ still_parted g (loss_of g s) e.left e.right (edge g s).left (edge g s).right
      (loss_merged g rule s nothing e.left e.right within)
