-- One edge more within a component: the blocks of a block path between its ends and the new edge become one, and no other changes.
use mathlib.Core.Bool.{Bool, true, false, ◌&&◌, ◌||◌, false≢true}
use mathlib.Core.List.{List, [], ◌∷◌}
use mathlib.Core.Logic.{◌⊎◌, inl, inr}
use mathlib.Core.Path.{◌≡◌, sym, ◌∙◌, subst}
use Prim.Native.Nat.{ℕ, ◌<◌}
use lib.Dec.{eqb}
use Rattle.graph.specs.Network.{Network, Edge, edge, edge_count, touches, other_end, add_edge, Proper, without, joined}
use Rattle.graph.specs.Cycle.{Step, any_step}
use Rattle.graph.specs.Block.{block, on_block}
use Rattle.graph.specs.BlockPath.{BlockPath}
use Rattle.graph.proofs.Truth.{true_or_false, not_both, bool_ext, or_cases, or_left, or_right, or_neither_left, or_neither_right}
use Rattle.graph.proofs.Truth.{eqb_eq, eqb_same, eq-eqb, eqb_swap}
use Rattle.graph.proofs.Joined.{edge_new, joined_refl, joined_sym, joined_trans}
use Rattle.graph.proofs.Gathered.{gathered, gathered_ways, gathered_before, gathered_both, gathered_equivalence}
use Rattle.graph.proofs.Block.{block_equivalence, block_refl, block_sym, block_trans, link-block}
use Rattle.graph.proofs.Ends.{touches_left, touches_right, other_end-touches, other_end_differs, other_end_ways, at_link, ends-joined-without}
use Rattle.graph.proofs.BlockVertices.{end_on_block, blocks_meet}
use Rattle.graph.proofs.Steps.{steps_to}
use Rattle.graph.proofs.BlockPath.{Onward, onward, stays, steps_to_none, steps_to_first, steps_to_later, start_fresh, visited_differs, end_visited, other_end-visited}
use Rattle.graph.proofs.BlockPath.{path_outlives_vertex, later_outlives}
use Rattle.graph.proofs.Grows.{new_below, joined_without_grows, block_grows, on_block_grows, block_next}
use Rattle.graph.proofs.EdgeMore.{block_more_least}

-- edge t is in a block of the path
abbrev pub on_path : Network → List Step → ℕ → Bool
on_path g ps t = any_step (λ p. block g p.along t) ps

module _ (g : Network) (r : Proper g) where
  -- an edge at the start of a block path that leads to its end without the start is in the first block
  meets_first : {a b : ℕ} {p : Step} {ps : List Step} → BlockPath g a (p ∷ ps) b → (t y : ℕ) → on_block g t y ≡ true
      → on_block g t a ≡ true → eqb y a ≡ false → joined g (without g a) y b ≡ true → block g p.along t ≡ true
  meets_first {a} {b} {p} path t y ty ta n j =
      let o = onward path in
      blocks_meet g r p.along t a p.to y o.on_start ta o.on_end ty (eqb_swap p.to a ∙ o.away) n
      (joined_trans g _ p.to b y
      (path_outlives_vertex g r o.rest a o.away o.no_return)
      (joined_sym g _ y b j))

  -- an edge at a vertex of a block path before its end is in a block of the path if it leads, without that vertex, to the end
  pub leads_to_end : {a b : ℕ} {ps : List Step} → BlockPath g a ps b → (t c y : ℕ)
      → on_block g t c ≡ true → on_block g t y ≡ true → eqb y c ≡ false → eqb c b ≡ false
      → (a ≡ c) ⊎ (steps_to c ps ≡ true) → joined g (without g c) y b ≡ true → on_path g ps t ≡ true
  unfolding any_step
  leads_to_end {a} {b} {ps = []} path t c y tc ty n d (inl q) j = absurd (not_both (eq-eqb c b (sym q ∙ stays path)) d)
  leads_to_end {a} {b} {ps = []} path t c y tc ty n d (inr v) j = absurd (not_both v (steps_to_none c))
  leads_to_end {a} {b} {ps = p ∷ ps} path t c y tc ty n d (inl q) j =
      or_left
      (subst
      (λ x. on_block g t x ≡ true → eqb y x ≡ false → joined g (without g x) y b ≡ true → block g p.along t ≡ true)
      q
      (meets_first path t y ty)
      tc n j)
      (on_path g ps t)
  leads_to_end {a} {b} {ps = p ∷ ps} path t c y tc ty n d (inr v) j =
      or_right (block g p.along t) (leads_to_end (onward path).rest t c y tc ty n d (steps_to_first c p ps v) j)

  -- and an edge at a vertex of a block path behind its start if it leads, without that vertex, to the start
  pub leads_to_start : {a b : ℕ} {ps : List Step} → BlockPath g a ps b → (t c y : ℕ)
      → on_block g t c ≡ true → on_block g t y ≡ true → eqb y c ≡ false
      → steps_to c ps ≡ true → joined g (without g c) y a ≡ true → on_path g ps t ≡ true
  unfolding any_step
  leads_to_start {a} {b} {ps = []} path t c y tc ty n v j = absurd (not_both v (steps_to_none c))
  leads_to_start {a} {b} {ps = p ∷ ps} path t c y tc ty n v j =
      go (steps_to_first c p ps v) (λ w k. leads_to_start o.rest t c y tc ty n w k)
    where
      o : Onward g a p ps b
      o = onward path

      go : (p.to ≡ c) ⊎ (steps_to c ps ≡ true)
          → (steps_to c ps ≡ true → joined g (without g c) y p.to ≡ true → on_path g ps t ≡ true)
          → on_path g (p ∷ ps) t ≡ true
      go (inl q) f =
          or_left
          (blocks_meet g r p.along t c a y (rw q at o.on_end) tc o.on_start ty (rw q at o.away) n (joined_sym g _ y a j))
          (on_path g ps t)
      go (inr w) f = or_right (block g p.along t) (f w (joined_trans g _ y a p.to j (later_outlives g r o c w)))

-- edge s is the new edge or in a block of the path
unfoldable pub joins_path : Network → List Step → ℕ → Bool
joins_path g ps s = eqb s (edge_count g) || on_path g ps s

-- what becomes one: the blocks of the path and the new edge
abbrev pub condensed : Network → List Step → ℕ → ℕ → Bool
condensed g ps = gathered (block g) (joins_path g ps)

on_path_block : (g : Network) (ps : List Step) (s t : ℕ) → block g s t ≡ true → on_path g ps s ≡ true → on_path g ps t ≡ true
unfolding any_step
on_path_block g [] s t b e = e
on_path_block g (p ∷ ps) s t b e = go (or_cases (block g p.along s) (on_path g ps s) e) (on_path_block g ps s t b)
  where
    go : (block g p.along s ≡ true) ⊎ (on_path g ps s ≡ true) → (on_path g ps s ≡ true → on_path g ps t ≡ true)
        → on_path g (p ∷ ps) t ≡ true
    go (inl k) f = or_left (block_trans g p.along s t k b) (on_path g ps t)
    go (inr k) f = or_right (block g p.along t) (f k)

joins_path_block : (g : Network) (ps : List Step) (s t : ℕ) → block g s t ≡ true → joins_path g ps s ≡ true → joins_path g ps t ≡ true
unfolding joins_path
joins_path_block g ps s t b e = go (or_cases (eqb s (edge_count g)) (on_path g ps s) e)
  where
    go : (eqb s (edge_count g) ≡ true) ⊎ (on_path g ps s ≡ true) → joins_path g ps t ≡ true
    go (inl q) =
        or_left
        (eqb_swap t (edge_count g) ∙ sym (block_next g t) ∙ (rw (eqb_eq s (edge_count g) q) at b))
        (on_path g ps t)
    go (inr k) = or_right (eqb t (edge_count g)) (on_path_block g ps s t b k)

module _ (g : Network) (e : Edge) (r : Proper g) (r' : Proper (add_edge g e)) where
  -- a block at the start of a path that leads to the path's end without the start, and so on at each vertex of the path, grows
  -- along the whole path
  grows_along : {x b : ℕ} {ps : List Step} → BlockPath g x ps b → (s w : ℕ)
      → on_block (add_edge g e) s x ≡ true → on_block (add_edge g e) s w ≡ true → eqb w x ≡ false
      → (eqb x b ≡ false → joined (add_edge g e) (without (add_edge g e) x) w b ≡ true)
      → ((c : ℕ) → steps_to c ps ≡ true → eqb c b ≡ false → joined (add_edge g e) (without (add_edge g e) c) x b ≡ true)
      → (t : ℕ) → on_path g ps t ≡ true → block (add_edge g e) s t ≡ true
  unfolding any_step
  grows_along {ps = []} path s w sx sw n j i t k = absurd (false≢true k)
  grows_along {x} {b} {ps = p ∷ ps} path s w sx sw n j i t k =
      block_trans (add_edge g e) s p.along t first
      (go (or_cases (block g p.along t) (on_path g ps t) k)
      (grows_along o.rest p.along x (on_block_grows g e _ _ o.on_end) (on_block_grows g e _ _ o.on_start) o.away
      (i p.to (or_left (eqb_same p.to) (steps_to p.to ps)))
      (λ c v d.
      joined_trans (add_edge g e) _ p.to x b
      (joined_sym (add_edge g e) _ x p.to (joined_without_grows g e c x p.to (later_outlives g r o c v)))
      (i c (steps_to_later c p ps v) d))
      t))
    where
      o : Onward g x p ps b
      o = onward path

      first : block (add_edge g e) s p.along ≡ true
      first =
          blocks_meet (add_edge g e) r' s p.along x w p.to
          sx
          (on_block_grows g e _ _ o.on_start)
          sw
          (on_block_grows g e _ _ o.on_end)
          n
          (eqb_swap p.to x ∙ o.away)
          (joined_trans (add_edge g e) _ w b p.to
          (j (eqb_swap x b ∙ visited_differs b x (p ∷ ps) (end_visited path) (start_fresh path)))
          (joined_sym (add_edge g e) _ p.to b
          (joined_without_grows g e x p.to b (path_outlives_vertex g r o.rest x o.away o.no_return))))

      go : (block g p.along t ≡ true) ⊎ (on_path g ps t ≡ true)
          → (on_path g ps t ≡ true → block (add_edge g e) p.along t ≡ true)
          → block (add_edge g e) p.along t ≡ true
      go (inl b) f = block_grows g e p.along t b
      go (inr l) f = f l

  -- the new edge joins two different vertices
  pub new_ends_differ : eqb e.left e.right ≡ false
  new_ends_differ = rw (edge_new g e) at (r'.no_loop (edge_count g) (new_below g e))

  -- the blocks of a block path between the new edge's ends join its block
  joins_new : {ps : List Step} → BlockPath g e.left ps e.right → (t : ℕ) → joins_path g ps t ≡ true
      → block (add_edge g e) (edge_count g) t ≡ true
  unfolding joins_path
  joins_new {ps} path t k = go (or_cases (eqb t (edge_count g)) (on_path g ps t) k)
    where
      at_left : touches (edge (add_edge g e) (edge_count g)) e.left ≡ true
      at_left = rw (edge_new g e) (touches_left e)

      at_right : touches (edge (add_edge g e) (edge_count g)) e.right ≡ true
      at_right = rw (edge_new g e) (touches_right e)

      go : (eqb t (edge_count g) ≡ true) ⊎ (on_path g ps t ≡ true) → block (add_edge g e) (edge_count g) t ≡ true
      go (inl q) = rw (eqb_eq t (edge_count g) q) (block_refl (add_edge g e) (edge_count g))
      go (inr l) =
          grows_along path (edge_count g) e.right
          (end_on_block (add_edge g e) _ _ (new_below g e) at_left)
          (end_on_block (add_edge g e) _ _ (new_below g e) at_right)
          (eqb_swap e.right e.left ∙ new_ends_differ)
          (λ d. joined_refl (add_edge g e) _ e.right)
          (λ c v d.
          ends-joined-without (add_edge g e) c (edge_count g) e.left e.right (new_below g e)
          (visited_differs c e.left ps v (start_fresh path)) d at_left at_right)
          t l

  condensed_grows : {ps : List Step} → BlockPath g e.left ps e.right → (s t : ℕ) → condensed g ps s t ≡ true
      → block (add_edge g e) s t ≡ true
  condensed_grows {ps} path s t k = go (gathered_ways (block g) (joins_path g ps) s t k)
    where
      go : (block g s t ≡ true) ⊎ ((joins_path g ps s ≡ true) × (joins_path g ps t ≡ true)) → block (add_edge g e) s t ≡ true
      go (inl b) = block_grows g e s t b
      go (inr l) =
          block_trans (add_edge g e) s (edge_count g) t
          (block_sym (add_edge g e) (edge_count g) s (joins_new path s l.0))
          (joins_new path t l.1)

  grows_condensed : {ps : List Step} → BlockPath g e.left ps e.right → (s t : ℕ) → block (add_edge g e) s t ≡ true
      → condensed g ps s t ≡ true
  unfolding joins_path touches
  grows_condensed {ps} path =
      block_more_least (λ s t. condensed g ps s t ≡ true) (gathered_equivalence (block g) (joins_path g ps) (block_equivalence g) (joins_path_block g ps)) g e
      (gathered_before (block g) (joins_path g ps))
      (λ s t c h k f l n i j. between s t c h k f l n i j (true_or_false (steps_to c ps)))
      (λ t c k at_new l j.
      gathered_both (block g) (joins_path g ps) (edge_count g) t
      (or_left (eqb_same (edge_count g)) (on_path g ps (edge_count g)))
      (or_right (eqb t (edge_count g)) (at_end t c k l (other_end_ways e c at_new) j)))
    where
      away : (t c : ℕ) → t < edge_count g → eqb (other_end (edge g t) c) c ≡ false
      away t c k = other_end_differs (edge g t) c (r.no_loop t k)

      on_other : (t c : ℕ) → t < edge_count g → on_block g t (other_end (edge g t) c) ≡ true
      on_other t c k = end_on_block g t _ k (other_end-touches (edge g t) c)

      to_start : (t c : ℕ) → t < edge_count g → touches (edge g t) c ≡ true → steps_to c ps ≡ true
          → joined g (without g c) (other_end (edge g t) c) e.left ≡ true → on_path g ps t ≡ true
      to_start t c k l v j = leads_to_start g r path t c _ (end_on_block g t c k l) (on_other t c k) (away t c k) v j

      to_end : (t c : ℕ) → t < edge_count g → touches (edge g t) c ≡ true → eqb c e.right ≡ false
          → (e.left ≡ c) ⊎ (steps_to c ps ≡ true)
          → joined g (without g c) (other_end (edge g t) c) e.right ≡ true → on_path g ps t ≡ true
      to_end t c k l d v j = leads_to_end g r path t c _ (end_on_block g t c k l) (on_other t c k) (away t c k) d v j

      at_end : (t c : ℕ) → t < edge_count g → touches (edge g t) c ≡ true
          → ((e.left ≡ c) × (e.right ≡ other_end e c)) ⊎ ((e.right ≡ c) × (e.left ≡ other_end e c))
          → joined g (without g c) (other_end e c) (other_end (edge g t) c) ≡ true → on_path g ps t ≡ true
      at_end t c k l (inl (p, q)) j = to_end t c k l (rw p at new_ends_differ) (inl p) (joined_sym g _ _ _ (rw (← q) at j))
      at_end t c k l (inr (p, q)) j =
          to_start t c k l (subst (λ x. steps_to x ps ≡ true) p (other_end-visited path new_ends_differ)) (joined_sym g _ _ _ (rw (← q) at j))

      between : (s t c : ℕ) → s < edge_count g → t < edge_count g → touches (edge g s) c ≡ true → touches (edge g t) c ≡ true
          → touches e c ≡ false
          → joined g (without g c) (other_end (edge g s) c) e.left ≡ true
          → joined g (without g c) e.right (other_end (edge g t) c) ≡ true
          → (steps_to c ps ≡ true) ⊎ (steps_to c ps ≡ false)
          → condensed g ps s t ≡ true
      between s t c h k f l n i j (inl v) =
          gathered_both (block g) (joins_path g ps) s t
          (or_right (eqb s (edge_count g)) (to_start s c h f v i))
          (or_right (eqb t (edge_count g))
          (to_end t c k l (eqb_swap c _ ∙ or_neither_right (eqb e.left c) (eqb e.right c) n) (inr v) (joined_sym g _ _ _ j)))
      between s t c h k f l n i j (inr v) =
          gathered_before (block g) (joins_path g ps) s t
          (link-block g s t h k
          (at_link g c s t
          (record {
            first = f;
            second = l;
            others =
                joined_trans g _ _ e.left _ i
                (joined_trans g _ e.left e.right _
                (path_outlives_vertex g r path c (eqb_swap c _ ∙ or_neither_left (eqb e.left c) (eqb e.right c) n) v)
                j);
          })))

  -- the blocks of a block path between the new edge's ends and the new edge become one, and no other block changes
  pub block_edge_within : {ps : List Step} → BlockPath g e.left ps e.right → (s t : ℕ)
      → block (add_edge g e) s t ≡ (block g s t || (joins_path g ps s && joins_path g ps t))
  block_edge_within {ps} path s t =
      bool_ext (block (add_edge g e) s t) (condensed g ps s t) (grows_condensed path s t) (condensed_grows path s t)
