-- One edge more: components, what is joined without a vertex, and the edge between two components.
use mathlib.Core.Bool.{true, false, ◌&&◌, ◌||◌}
use mathlib.Core.Logic.{◌⊎◌, inl, inr, Equivalence}
use mathlib.Core.Path.{◌≡◌, refl, sym, ◌∙◌, ap, fun_ext}
use Prim.Native.Nat.{ℕ, ◌<◌}
use Rattle.graph.specs.Network.{Network, Edge, edge, edge_count, touches, other_end, add_edge, nothing, without, joined}
use Rattle.graph.specs.Groups.{component}
use Rattle.graph.specs.Block.{block}
use Rattle.graph.proofs.Truth.{true_or_false, not_both, bool_ext}
use Rattle.graph.proofs.Labels.{merged, Merged, before, across, back, merged_ways, merged_least}
use Rattle.graph.proofs.Joined.{joined_sym, joined_trans, joined_equivalence}
use Rattle.graph.proofs.Joined.{edge_old, edge_new, old_or_new, joined_old, joined_new_lost, joined_new_kept}
use Rattle.graph.proofs.Block.{block_equivalence, link-block, block_least}
use Rattle.graph.proofs.Ends.{LinkedAt, at_link, link_at_lem, linked_swap, other_end-touches, other_end_ways, ends-component}
use Rattle.graph.proofs.Mates.{joined-component}
use Rattle.graph.proofs.Grows.{joined_without_old, block_grows}

-- the components of the new edge's ends become one, and no other changes
pub component_edge_more : (g : Network) (e : Edge) (x y : ℕ)
    → component (add_edge g e) x y
    ≡ (component g x y
    || (component g x e.left && component g e.right y)
    || (component g x e.right && component g e.left y))
unfolding component nothing
component_edge_more g e x y = joined_new_kept g e nothing refl x y

-- an edge within a component changes no component
pub component_edge_within : (g : Network) (e : Edge) → component g e.left e.right ≡ true
    → (x y : ℕ) → component (add_edge g e) x y ≡ component g x y
unfolding component
component_edge_within g e h x y =
    bool_ext (component (add_edge g e) x y) (component g x y)
    (λ k.
    merged_least (λ x y. component g x y ≡ true) (joined_equivalence g nothing) (component g) e.left e.right
    (λ x y j. j) h x y (sym (component_edge_more g e x y) ∙ k))
    (joined_old g e nothing x y)

-- without an end of the new edge, it joins nothing
pub joined_without_end : (g : Network) (e : Edge) (c x y : ℕ) → touches e c ≡ true
    → joined (add_edge g e) (without (add_edge g e) c) x y ≡ joined g (without g c) x y
unfolding without
joined_without_end g e c x y t =
    joined_new_lost g e (without (add_edge g e) c) (ap (λ f. touches f c) (edge_new g e) ∙ t) x y ∙ joined_without_old g e c x y

-- without any other vertex, it joins its ends
pub joined_without_other : (g : Network) (e : Edge) (c x y : ℕ) → touches e c ≡ false
    → joined (add_edge g e) (without (add_edge g e) c) x y ≡ merged (joined g (without g c)) e.left e.right x y
unfolding without
joined_without_other g e c x y t =
    joined_new_kept g e (without (add_edge g e) c) (ap (λ f. touches f c) (edge_new g e) ∙ t) x y
    ∙ ap (λ q. merged q e.left e.right x y) (fun_ext λ x. fun_ext λ y. joined_without_old g e c x y)

-- an equivalence that holds of edges of one block, of two edges whose other ends the new edge joins without the vertex where they
-- meet, and of the new edge and each edge that links with it, holds wherever blocks are one with one edge more
pub block_more_least : (R : ℕ → ℕ → Type 0) → Equivalence R → (g : Network) (e : Edge)
    → ((s t : ℕ) → block g s t ≡ true → R s t)
    → ((s t c : ℕ) → s < edge_count g → t < edge_count g → touches (edge g s) c ≡ true → touches (edge g t) c ≡ true
    → touches e c ≡ false
    → joined g (without g c) (other_end (edge g s) c) e.left ≡ true
    → joined g (without g c) e.right (other_end (edge g t) c) ≡ true
    → R s t)
    → ((t c : ℕ) → t < edge_count g → touches e c ≡ true → touches (edge g t) c ≡ true
    → joined g (without g c) (other_end e c) (other_end (edge g t) c) ≡ true
    → R (edge_count g) t)
    → (s t : ℕ) → block (add_edge g e) s t ≡ true → R s t
block_more_least R q g e old between new =
    block_least R q (add_edge g e) (λ s t h k l. let (c, m) = link_at_lem (add_edge g e) s t l in go s t c m (old_or_new g e s h) (old_or_new g e t k))
  where
    with_new : (t c : ℕ) → t < edge_count g → LinkedAt (add_edge g e) c (edge_count g) t → R (edge_count g) t
    with_new t c k m =
        let at_new = rw (edge_new g e) at m.first in
        new t c k at_new (rw (edge_old g e t k) at m.second)
        (sym (joined_without_end g e c _ _ at_new) ∙ (rw (edge_new g e, edge_old g e t k) at m.others))

    of_old : (s t c : ℕ) → s < edge_count g → t < edge_count g → LinkedAt (add_edge g e) c s t → R s t
    of_old s t c h k m = by_vertex (true_or_false (touches e c))
      where
        first : touches (edge g s) c ≡ true
        first = rw (edge_old g e s h) at m.first

        second : touches (edge g t) c ≡ true
        second = rw (edge_old g e t k) at m.second

        others : joined (add_edge g e) (without (add_edge g e) c) (other_end (edge g s) c) (other_end (edge g t) c) ≡ true
        others = rw (edge_old g e s h, edge_old g e t k) at m.others

        linked : joined g (without g c) (other_end (edge g s) c) (other_end (edge g t) c) ≡ true → R s t
        linked j = old s t (link-block g s t h k (at_link g c s t (record { first = first; second = second; others = j })))

        by_way : touches e c ≡ false
            → Merged (joined g (without g c)) e.left e.right (other_end (edge g s) c) (other_end (edge g t) c) → R s t
        by_way n (before j) = linked j
        by_way n (across i j) = between s t c h k first second n i j
        by_way n (back i j) =
            q.symm t s (between t s c k h second first n (joined_sym g _ _ _ j) (joined_sym g _ _ _ i))

        by_vertex : (touches e c ≡ true) ⊎ (touches e c ≡ false) → R s t
        by_vertex (inl at_new) = linked (sym (joined_without_end g e c _ _ at_new) ∙ others)
        by_vertex (inr n) = by_way n (merged_ways _ _ _ _ _ (sym (joined_without_other g e c _ _ n) ∙ others))

    go : (s t c : ℕ) → LinkedAt (add_edge g e) c s t → (s < edge_count g) ⊎ (s ≡ edge_count g) → (t < edge_count g) ⊎ (t ≡ edge_count g)
        → R s t
    go s t c m (inl h) (inl k) = of_old s t c h k m
    go s t c m (inl h) (inr k) = q.symm t s (rw k (with_new s c h (linked_swap (add_edge g e) c s (edge_count g) (rw k at m))))
    go s t c m (inr h) (inl k) = rw h (with_new t c k (rw h at m))
    go s t c m (inr h) (inr k) = rw (h, k) (q.refl (edge_count g))

-- an edge between two components is a block alone, and no other block changes
pub block-edge_between : (g : Network) (e : Edge) → component g e.left e.right ≡ false
    → (s t : ℕ) → block (add_edge g e) s t ≡ block g s t
unfolding component
block-edge_between g e d s t = bool_ext (block (add_edge g e) s t) (block g s t) shrinks (block_grows g e s t)
  where
    to_other : (s c : ℕ) → s < edge_count g → touches (edge g s) c ≡ true → component g c (other_end (edge g s) c) ≡ true
    to_other s c h k = ends-component g s c _ h k (other_end-touches (edge g s) c)

    across_new : (c : ℕ) → touches e c ≡ true → component g c (other_end e c) ≡ true → ⊥
    across_new c at_new j = go (other_end_ways e c at_new)
      where
        go : ((e.left ≡ c) × (e.right ≡ other_end e c)) ⊎ ((e.right ≡ c) × (e.left ≡ other_end e c)) → ⊥
        go (inl (p, q)) = not_both (rw (p, q) j) d
        go (inr (p, q)) = not_both (rw (p, q) (joined_sym g _ _ _ j)) d

    shrinks : block (add_edge g e) s t ≡ true → block g s t ≡ true
    shrinks =
        block_more_least (λ s t. block g s t ≡ true) (block_equivalence g) g e (λ s t b. b)
        (λ s t c h k f l n i j.
        absurd
        (not_both
        (joined_trans g nothing _ c _
        (joined_trans g nothing _ _ c
        (joined_sym g nothing _ _ (joined-component g _ _ _ i))
        (joined_sym g nothing _ _ (to_other s c h f)))
        (joined_trans g nothing c _ _ (to_other t c k l) (joined_sym g nothing _ _ (joined-component g _ _ _ j))))
        d))
        (λ t c k at_new l j.
        absurd
        (across_new c at_new
        (joined_trans g nothing c _ _ (to_other t c k l) (joined_sym g nothing _ _ (joined-component g _ _ _ j)))))
        s t
