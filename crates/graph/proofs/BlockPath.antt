-- Block paths: a path outlives the loss of any vertex that is not on it, and parts at each vertex between its ends.
use mathlib.Core.Bool.{true, false, not, ◌&&◌, ◌||◌}
use mathlib.Core.List.{List, [], ◌∷◌}
use mathlib.Core.Logic.{◌⊎◌, inl, inr, ⊎_elim}
use mathlib.Core.Path.{◌≡◌, refl, sym, ◌∙◌, subst}
use Prim.Native.Nat.{ℕ, ◌<◌}
use lib.Dec.{eqb, ltb}
use Rattle.graph.specs.Network.{Network, edge_count, without, nothing, joined, Proper}
use Rattle.graph.specs.Groups.{component}
use Rattle.graph.specs.Cycle.{Step, any_step}
use Rattle.graph.specs.Block.{block, on_block}
use Rattle.graph.specs.BlockPath.{blocks_lead, fresh, blocks_differ, BlockPath}
use Rattle.graph.proofs.Truth.{not_both, false_of_not, false_of_not_true, or_cases, or_left, or_right, or_neither, or_neither_left, or_neither_right}
use Rattle.graph.proofs.Truth.{and_left, and_right, and_both, not_of_false, eqb_eq, eqb_same, eq-eqb, eqb_swap, ltb_lt, lt-ltb}
use Rattle.graph.proofs.Joined.{joined_refl, joined_trans}
use Rattle.graph.proofs.Steps.{steps_to}
use Rattle.graph.proofs.Ends.{joined_from, joined_to}
use Rattle.graph.proofs.Mates.{joined-component}
use Rattle.graph.proofs.BlockVertices.{block_vertices_joined_within, block_outlives_vertex, blocks_part_at_vertex}

-- what the first step of a block path gives, and the path behind it
pub record Onward (g : Network) (a : ℕ) (p : Step) (ps : List Step) (b : ℕ) : Type 0 where
  pub known : p.along < edge_count g
  pub on_start : on_block g p.along a ≡ true
  pub on_end : on_block g p.along p.to ≡ true
  pub away : eqb a p.to ≡ false
  pub no_return : steps_to a ps ≡ false
  pub rest : BlockPath g p.to ps b

rest_differ : (g : Network) (p : Step) (ps : List Step) → blocks_differ g (p ∷ ps) ≡ true → blocks_differ g ps ≡ true
unfolding blocks_differ
rest_differ g p [] e = refl
rest_differ g p (q ∷ ps) e = and_right (not (block g p.along q.along)) (blocks_differ g (q ∷ ps)) e

-- a block path taken apart at its first step
pub onward : {g : Network} {a b : ℕ} {p : Step} {ps : List Step} → BlockPath g a (p ∷ ps) b → Onward g a p ps b
unfolding blocks_lead fresh any_step
onward {g} {a} {b} {p} {ps} path =
    let K = ltb p.along (edge_count g) in
    let S = on_block g p.along a in
    let E = on_block g p.along p.to in
    let L = blocks_lead g p.to ps b in
    let first = and_left (K && S && E) L path.lead in
    let N = eqb p.to a || steps_to a ps in
    let new = false_of_not_true N (and_left (not N) (fresh p.to ps) path.all_fresh) in
    record {
      known = ltb_lt p.along (edge_count g) (and_left K S (and_left (K && S) E first));
      on_start = and_right K S (and_left (K && S) E first);
      on_end = and_right (K && S) E first;
      away = eqb_swap a p.to ∙ or_neither_left (eqb p.to a) (steps_to a ps) new;
      no_return = or_neither_right (eqb p.to a) (steps_to a ps) new;
      rest =
          record {
            lead = and_right (K && S && E) L path.lead;
            all_fresh = and_right (not N) (fresh p.to ps) path.all_fresh;
            all_differ = rest_differ g p ps path.all_differ;
          };
    }

-- and put together from its first step and the path behind it
pub onward_path : {g : Network} {a b : ℕ} {p : Step} {ps : List Step} → Onward g a p ps b → blocks_differ g (p ∷ ps) ≡ true
    → BlockPath g a (p ∷ ps) b
unfolding blocks_lead fresh any_step
onward_path {g} {a} {b} {p} {ps} o d =
    record {
      lead = and_both (and_both (and_both (lt-ltb p.along (edge_count g) o.known) o.on_start) o.on_end) o.rest.lead;
      all_fresh = and_both (not_of_false (or_neither (eqb_swap p.to a ∙ o.away) o.no_return)) o.rest.all_fresh;
      all_differ = d;
    }

-- the path without a step from a vertex to itself
pub no_steps : (g : Network) (a : ℕ) → BlockPath g a [] a
unfolding blocks_lead fresh blocks_differ
no_steps g a = record { lead = eqb_same a; all_fresh = refl; all_differ = refl }

-- the path of one step through a block that has both vertices
pub one_step : (g : Network) (s a b : ℕ) → s < edge_count g → on_block g s a ≡ true → on_block g s b ≡ true → eqb a b ≡ false
    → BlockPath g a (record { along = s; to = b } ∷ []) b
unfolding blocks_differ any_step
one_step g s a b h e f d =
    onward_path (record { known = h; on_start = e; on_end = f; away = d; no_return = refl; rest = no_steps g b }) refl

-- the first two steps go through different blocks
pub next_differs : {g : Network} {a b : ℕ} {p q : Step} {ps : List Step} → BlockPath g a (p ∷ q ∷ ps) b
    → block g p.along q.along ≡ false
unfolding blocks_differ
next_differs {g} {a} {b} {p} {q} {ps} path =
    false_of_not_true (block g p.along q.along)
    (and_left (not (block g p.along q.along)) (blocks_differ g (q ∷ ps)) path.all_differ)

-- a path without a step stays where it starts
pub stays : {g : Network} {a b : ℕ} → BlockPath g a [] b → a ≡ b
unfolding blocks_lead
stays {g} {a} {b} path = eqb_eq a b path.lead

-- a vertex that some step leads to is where the first leads or where a later one does
pub steps_to_first : (c : ℕ) (p : Step) (ps : List Step) → steps_to c (p ∷ ps) ≡ true → (p.to ≡ c) ⊎ (steps_to c ps ≡ true)
unfolding any_step
steps_to_first c p ps e = go (or_cases (eqb p.to c) (steps_to c ps) e)
  where
    go : (eqb p.to c ≡ true) ⊎ (steps_to c ps ≡ true) → (p.to ≡ c) ⊎ (steps_to c ps ≡ true)
    go (inl h) = inl (eqb_eq p.to c h)
    go (inr h) = inr h

-- what the first step leads to is visited
pub steps_to_next : (c : ℕ) (p : Step) (ps : List Step) → p.to ≡ c → steps_to c (p ∷ ps) ≡ true
unfolding any_step
steps_to_next c p ps q = or_left (eq-eqb p.to c q) (steps_to c ps)

-- what a later step leads to is visited
pub steps_to_later : (c : ℕ) (p : Step) (ps : List Step) → steps_to c ps ≡ true → steps_to c (p ∷ ps) ≡ true
unfolding any_step
steps_to_later c p ps e = or_right (eqb p.to c) e

-- no step, no vertex
pub steps_to_none : (c : ℕ) → steps_to c [] ≡ false
unfolding any_step
steps_to_none c = refl

-- a vertex that no step leads to is not where the first leads
pub avoids_first : (c : ℕ) (p : Step) (ps : List Step) → steps_to c (p ∷ ps) ≡ false → eqb c p.to ≡ false
unfolding any_step
avoids_first c p ps e = eqb_swap c p.to ∙ or_neither_left (eqb p.to c) (steps_to c ps) e

-- a vertex that no step leads to is where no later step leads
pub avoids_rest : (c : ℕ) (p : Step) (ps : List Step) → steps_to c (p ∷ ps) ≡ false → steps_to c ps ≡ false
unfolding any_step
avoids_rest c p ps e = or_neither_right (eqb p.to c) (steps_to c ps) e

-- no step leads back to the start
pub start_fresh : {g : Network} {a b : ℕ} {ps : List Step} → BlockPath g a ps b → steps_to a ps ≡ false
unfolding any_step
start_fresh {ps = []} path = refl
start_fresh {a = a} {ps = p ∷ ps} path = or_neither (eqb_swap p.to a ∙ (onward path).away) (onward path).no_return

-- a vertex that is visited is none that is not
pub visited_differs : (c d : ℕ) (ps : List Step) → steps_to c ps ≡ true → steps_to d ps ≡ false → eqb c d ≡ false
visited_differs c d ps e f = false_of_not (eqb c d) (λ q. not_both (subst (λ x. steps_to x ps ≡ true) (eqb_eq c d q) e) f)

-- the last step leads to the end
pub end_visited : {g : Network} {a b : ℕ} {p : Step} {ps : List Step} → BlockPath g a (p ∷ ps) b → steps_to b (p ∷ ps) ≡ true
unfolding any_step
end_visited {b = b} {p = p} {ps = []} path = or_left (eq-eqb p.to b (stays (onward path).rest)) false
end_visited {b = b} {p = p} {ps = q ∷ ps} path = or_right (eqb p.to b) (end_visited (onward path).rest)

-- the end of a block path is its start, or some step leads there
pub end_on_path : {g : Network} {a b : ℕ} {ps : List Step} → BlockPath g a ps b → (a ≡ b) ⊎ (steps_to b ps ≡ true)
end_on_path {ps = []} path = inl (stays path)
end_on_path {ps = p ∷ ps} path = inr (end_visited path)

-- a path to another vertex leads there
pub other_end-visited : {g : Network} {a b : ℕ} {ps : List Step} → BlockPath g a ps b → eqb a b ≡ false → steps_to b ps ≡ true
other_end-visited {a = a} {b = b} path d = ⊎_elim (λ q. absurd (not_both (eq-eqb a b q) d)) (λ v. v) (end_on_path path)

-- two vertices of a block share a component
pub block-component : (g : Network) (s x y : ℕ) → on_block g s x ≡ true → on_block g s y ≡ true → component g x y ≡ true
block-component g s x y e f =
    joined-component g (λ t. not (block g s t)) x y (block_vertices_joined_within g s x y e f)

-- the ends of a block path share a component
pub path_component : {g : Network} {a b : ℕ} {ps : List Step} → BlockPath g a ps b → component g a b ≡ true
unfolding component
path_component {g} {a} {b} {ps = []} path = rw (stays path) (joined_refl g nothing b)
path_component {g} {a} {b} {ps = p ∷ ps} path =
    let o = onward path in
    joined_trans g nothing a p.to b (block-component g p.along a p.to o.on_start o.on_end) (path_component o.rest)

module _ (g : Network) (r : Proper g) where
  -- without a third vertex c, a step still joins its two vertices
  step_outlives_vertex : {a b : ℕ} {p : Step} {ps : List Step} → Onward g a p ps b → (c : ℕ)
      → eqb c a ≡ false → eqb c p.to ≡ false → joined g (without g c) a p.to ≡ true
  step_outlives_vertex {a} {b} {p} o c = block_outlives_vertex g r p.along c a p.to o.on_start o.on_end

  -- without a vertex that is not on it, a block path still joins its ends
  pub path_outlives_vertex : {a b : ℕ} {ps : List Step} → BlockPath g a ps b → (c : ℕ)
      → eqb c a ≡ false → steps_to c ps ≡ false → joined g (without g c) a b ≡ true
  path_outlives_vertex {a} {b} {ps = []} path c d v = rw (stays path) (joined_refl g (without g c) b)
  path_outlives_vertex {a} {b} {ps = p ∷ ps} path c d v =
      let o = onward path in
      let n = avoids_first c p ps v in
      joined_trans g _ a p.to b (step_outlives_vertex o c d n)
      (path_outlives_vertex o.rest c n (avoids_rest c p ps v))

  -- without a vertex that a later step leads to, the two vertices of the first step stay joined
  pub later_outlives : {a b : ℕ} {p : Step} {ps : List Step} → Onward g a p ps b → (c : ℕ) → steps_to c ps ≡ true
      → joined g (without g c) a p.to ≡ true
  later_outlives {a} {b} {p} {ps} o c v =
      step_outlives_vertex o c (visited_differs c a ps v o.no_return) (visited_differs c p.to ps v (start_fresh o.rest))

  parts_at_first : {a b : ℕ} {p : Step} {ps : List Step} → BlockPath g a (p ∷ ps) b
      → eqb p.to b ≡ false → joined g (without g p.to) a b ≡ false
  parts_at_first {a} {b} {p} {ps = []} path d = absurd (not_both (eq-eqb p.to b (stays (onward path).rest)) d)
  parts_at_first {a} {b} {p} {ps = q ∷ ps} path d =
      let o = onward path in
      let n = onward o.rest in
      sym (joined_to g _ a q.to b (path_outlives_vertex n.rest p.to n.away n.no_return))
      ∙ blocks_part_at_vertex
      g r
      p.along
      q.along
      p.to
      a
      q.to
      (next_differs path)
      o.on_end
      n.on_start
      o.on_start
      n.on_end
      o.away
      (eqb_swap q.to p.to ∙ n.away)

  -- without a vertex between its ends, a block path's ends are not joined
  pub path_parts_at_vertex : {a b : ℕ} {ps : List Step} → BlockPath g a ps b → (c : ℕ)
      → steps_to c ps ≡ true → eqb c b ≡ false → joined g (without g c) a b ≡ false
  path_parts_at_vertex {ps = []} path c v d = absurd (not_both v (steps_to_none c))
  path_parts_at_vertex {a} {b} {ps = p ∷ ps} path c v d =
      go (steps_to_first c p ps v) (λ w. path_parts_at_vertex (onward path).rest c w d)
    where
      go : (p.to ≡ c) ⊎ (steps_to c ps ≡ true) → (steps_to c ps ≡ true → joined g (without g c) p.to b ≡ false)
          → joined g (without g c) a b ≡ false
      go (inl q) f = subst (λ x. eqb x b ≡ false → joined g (without g x) a b ≡ false) q (parts_at_first path) d
      go (inr w) f = joined_from g _ a p.to b (later_outlives (onward path) c w) ∙ f w
