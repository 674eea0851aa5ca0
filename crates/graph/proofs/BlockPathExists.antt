-- Two vertices share a component exactly if a block path leads from one to the other.
use mathlib.Core.Bool.{true, false}
use mathlib.Core.List.{List, [], ◌∷◌}
use mathlib.Core.Logic.{◌⊎◌, inl, inr, ⊎_elim, ◌↔◌}
use mathlib.Core.Path.{◌≡◌, refl, sym, ◌∙◌, subst}
use Prim.Native.Nat.{ℕ, ◌<◌}
use lib.Dec.{eqb}
use Rattle.graph.specs.Network.{Network, edge, edge_count}
use Rattle.graph.specs.Groups.{component}
use Rattle.graph.specs.Cycle.{Step, leads}
use Rattle.graph.specs.Block.{block, on_block}
use Rattle.graph.specs.BlockPath.{blocks_differ, BlockPath}
use Rattle.graph.proofs.Truth.{true_or_false, not_both, and_both, not_of_false, eqb_eq}
use Rattle.graph.proofs.Walks.{leads_none, leads_first, joins_swap, component_walk}
use Rattle.graph.proofs.Joins.{joins-touches}
use Rattle.graph.proofs.BlockVertices.{end_on_block, on_same_block}
use Rattle.graph.proofs.Steps.{steps_to}
use Rattle.graph.proofs.BlockPath.{onward, onward_path, no_steps, steps_to_first, steps_to_none, avoids_first, avoids_rest, path_component}

-- some block path leads from a to b
abbrev pub SomeBlockPath : Network → ℕ → ℕ → Type 0
SomeBlockPath g a b = (ps : List Step) × BlockPath g a ps b

module _ (g : Network) where
  -- from a vertex that a block path leads to, the rest of it leads on
  path_from : {y b : ℕ} {ps : List Step} → BlockPath g y ps b → (x : ℕ) → steps_to x ps ≡ true → SomeBlockPath g x b
  path_from {ps = []} path x v = absurd (not_both v (steps_to_none x))
  path_from {y} {b} {ps = p ∷ ps} path x v =
      ⊎_elim (λ q. (ps, subst (λ z. BlockPath g z ps b) q (onward path).rest)) (path_from (onward path).rest x)
      (steps_to_first x p ps v)

  -- a block path can start from any other vertex of its first block that it does not come by
  other_start : {y b : ℕ} {p : Step} {ps : List Step} → BlockPath g y (p ∷ ps) b → (x : ℕ) → on_block g p.along x ≡ true
      → steps_to x (p ∷ ps) ≡ false → BlockPath g x (p ∷ ps) b
  other_start {p = p} {ps = ps} path x on n =
      let o = onward path in
      onward_path
      (record {
        known = o.known;
        on_start = on;
        on_end = o.on_end;
        away = avoids_first x p ps n;
        no_return = avoids_rest x p ps n;
        rest = o.rest;
      })
      path.all_differ

  -- a block that has the start of a block path leads there from any vertex of it that the path does not come by
  path_before : {y b : ℕ} {ps : List Step} → BlockPath g y ps b → (s x : ℕ) → s < edge_count g
      → on_block g s x ≡ true → on_block g s y ≡ true → eqb x y ≡ false → steps_to x ps ≡ false → SomeBlockPath g x b
  unfolding blocks_differ
  path_before {y} {b} {ps} path s x h e f d n = go ps path n
    where
      before : (ps : List Step) → BlockPath g y ps b → steps_to x ps ≡ false
          → blocks_differ g (record { along = s; to = y } ∷ ps) ≡ true → SomeBlockPath g x b
      before ps path n differ = (
        record { along = s; to = y } ∷ ps,
        onward_path (record { known = h; on_start = e; on_end = f; away = d; no_return = n; rest = path }) differ,
      )

      go : (ps : List Step) → BlockPath g y ps b → steps_to x ps ≡ false → SomeBlockPath g x b
      go [] path n = before [] path n refl
      go (p ∷ ps) path n =
          ⊎_elim (λ k. (p ∷ ps, other_start path x (sym (on_same_block g s p.along x k) ∙ e) n))
          (λ k. before (p ∷ ps) path n (and_both (not_of_false k) path.all_differ))
          (true_or_false (block g s p.along))

  -- where a block has vertices x and y and a block path leads on from y, some block path leads on from x
  pub longer_block_path : (s x y b : ℕ) → s < edge_count g → on_block g s x ≡ true → on_block g s y ≡ true
      → SomeBlockPath g y b → SomeBlockPath g x b
  longer_block_path s x y b h e f (ps, path) = go (true_or_false (eqb x y)) (true_or_false (steps_to x ps))
    where
      go : (eqb x y ≡ true) ⊎ (eqb x y ≡ false) → (steps_to x ps ≡ true) ⊎ (steps_to x ps ≡ false) → SomeBlockPath g x b
      go (inl q) v = (ps, subst (λ z. BlockPath g z ps b) (sym (eqb_eq x y q)) path)
      go (inr d) (inl v) = path_from path x v
      go (inr d) (inr n) = path_before path s x h e f d n

  -- where a walk leads, some block path does
  pub walk_block_path : (qs : List Step) (a b : ℕ) → leads g a qs b ≡ true → SomeBlockPath g a b
  walk_block_path [] a b e =
      ([], subst (BlockPath g a []) (eqb_eq a b (sym (leads_none g a b) ∙ e)) (no_steps g a))
  walk_block_path (q ∷ qs) a b e =
      let f = leads_first g a q qs b e in
      let s = edge g q.along in
      longer_block_path q.along a q.to b f.known
      (end_on_block g q.along a f.known (joins-touches s a q.to f.over))
      (end_on_block g q.along q.to f.known (joins-touches s q.to a (joins_swap s q.to a ∙ f.over)))
      (walk_block_path qs q.to b f.later)

  -- two vertices of one component have a block path between them
  pub component_block_path : (a b : ℕ) → component g a b ≡ true → SomeBlockPath g a b
  component_block_path a b e = let w = component_walk g a b e in walk_block_path w.steps a b w.lead

  -- and no others have
  pub component_is_block_path : (a b : ℕ) → (component g a b ≡ true) ↔ SomeBlockPath g a b
  component_is_block_path a b = (component_block_path a b, λ p. path_component p.1)
