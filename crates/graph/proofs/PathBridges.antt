-- The bridges between the ends of a block path are those of its blocks whose two path vertices lie in different bridge-blocks, in
-- the order of the path.
use mathlib.Core.Bool.{true, false, not, not-not, cond, ◌&&◌, and_comm, false≢true}
use mathlib.Core.List.{List, [], ◌∷◌}
use mathlib.Core.Logic.{◌⊎◌, inl, inr, ⊎_elim}
use mathlib.Core.Path.{◌≡◌, refl, sym, ◌∙◌, ap, subst}
use Prim.Native.Nat.{ℕ, ◌<◌}
use lib.Dec.{eqb}
use Rattle.graph.specs.Lists.{is_in, distinct, ordered}
use Rattle.graph.specs.Network.{Network, MateRule, Proper, edge, edge_count, loss_of, joined}
use Rattle.graph.specs.Groups.{parts, bridge, bridge_block}
use Rattle.graph.specs.Cycle.{Step, joins}
use Rattle.graph.specs.Between.{least_mate, is_bridge_between, bridge_before, bridges_between}
use Rattle.graph.specs.Travel.{first_mate}
use Rattle.graph.specs.BlockPath.{BlockPath}
use Rattle.graph.proofs.Truth.{true_or_false, not_both, false_of_not, false_of_not_true, not_of_false, bool_ext, and_both}
use Rattle.graph.proofs.Truth.{or_neither_left, or_neither_right, eqb_ne}
use Rattle.graph.proofs.Members.{is_in_tail, is_in_cases, distinct_cons, ordered_cons}
use Rattle.graph.proofs.Joined.{joined_refl, joined_trans, joined_swap, joined_same_loss}
use Rattle.graph.proofs.Ends.{joined_from, joined_to}
use Rattle.graph.proofs.Walks.{joins_least, joins_swap, joins-joined}
use Rattle.graph.proofs.Joins.{joins_carries}
use Rattle.graph.proofs.Mates.{mates_sym, loss_of-mates}
use Rattle.graph.proofs.MateEdges.{mates-joins, joined_without_end_edge}
use Rattle.graph.proofs.BridgeBlock.{bridge_block_lasts}
use Rattle.graph.proofs.BridgesBetween.{bridge_between_least, bridge-between-parts, bridge_between_known, bridges_between_unique}
use Rattle.graph.proofs.Parting.{parts-apart}
use Rattle.graph.proofs.Travel.{first_mate_lem, first_mate_least, other_first_mate}
use Rattle.graph.proofs.Steps.{steps_to}
use Rattle.graph.proofs.BlockPath.{Onward, onward, stays, steps_to_next, steps_to_later, later_outlives, path_component, path_outlives_vertex}
use Rattle.graph.proofs.BridgeVertices.{bridge-mates, on_bridge_joins, bridge_of_block_vertices}

-- the least edge of each block of a path from a whose two path vertices lie in different bridge-blocks, in the order of the path
unfoldable pub path_bridges : Network → ℕ → List Step → List ℕ
path_bridges g a [] = []
path_bridges g a (p ∷ ps) =
    let later = path_bridges g p.to ps in
    cond (bridge_block g a p.to) later (first_mate g p.along ∷ later)

-- a first step within a bridge-block adds no bridge
path_bridges_skip : (g : Network) (a : ℕ) (p : Step) (ps : List Step) → bridge_block g a p.to ≡ true
    → path_bridges g a (p ∷ ps) ≡ path_bridges g p.to ps
unfolding path_bridges
path_bridges_skip g a p ps e = rw e

-- any other adds one
path_bridges_add : (g : Network) (a : ℕ) (p : Step) (ps : List Step) → bridge_block g a p.to ≡ false
    → path_bridges g a (p ∷ ps) ≡ first_mate g p.along ∷ path_bridges g p.to ps
unfolding path_bridges
path_bridges_add g a p ps e = rw e

-- edge t joins two vertices of the path, and its loss parts the ends of the path
pub record PathBridge (g : Network) (a : ℕ) (ps : List Step) (b t : ℕ) : Type 0 where
  pub least : least_mate g t ≡ true
  pub start : ℕ
  pub end : ℕ
  pub over : joins (edge g t) start end ≡ true
  pub on_start : (a ≡ start) ⊎ (steps_to start ps ≡ true)
  pub on_end : steps_to end ps ≡ true
  pub parted : joined g (loss_of g t) a b ≡ false

module _ (g : Network) (proper : Proper g) (rule : MateRule g.rule) where
  -- the block of a first step between different bridge-blocks is a bridge between its two vertices
  first_step_joins : {a b : ℕ} {p : Step} {ps : List Step} → Onward g a p ps b → bridge_block g a p.to ≡ false
      → joins (edge g p.along) a p.to ≡ true
  first_step_joins {a} {b} {p} o n =
      on_bridge_joins g proper rule p.along o.known
      (bridge_of_block_vertices g proper rule p.along o.known a p.to o.on_start o.on_end o.away ∙ not_of_false n)
      a p.to o.on_start o.on_end o.away

  first_mate-joins : (s x y : ℕ) → joins (edge g s) x y ≡ true → joins (edge g (first_mate g s)) x y ≡ true
  first_mate-joins s x y = mates-joins g rule s (first_mate g s) (mates_sym g rule (first_mate g s) s (first_mate_lem g s)) x y

  -- its loss parts them
  first_step_parted : {a b : ℕ} {p : Step} {ps : List Step} → Onward g a p ps b → bridge_block g a p.to ≡ false
      → joined g (loss_of g (first_mate g p.along)) a p.to ≡ false
  unfolding bridge
  first_step_parted {a} {b} {p} o n =
      let s = first_mate g p.along in
      joins_least (λ x y. joined g (loss_of g s) x y ≡ false) (λ x y q. joined_swap g (loss_of g s) y x ∙ q) (edge g s)
      (false_of_not_true (joined g (loss_of g s) (edge g s).left (edge g s).right)
      (bridge-mates g rule s p.along (first_mate_lem g p.along)
      ∙ bridge_of_block_vertices g proper rule p.along o.known a p.to o.on_start o.on_end o.away
      ∙ not_of_false n))
      a p.to (first_mate-joins p.along a p.to (first_step_joins o n))

  -- and does not part the rest of the path
  first_step_rest : {a b : ℕ} {p : Step} {ps : List Step} → Onward g a p ps b → bridge_block g a p.to ≡ false
      → joined g (loss_of g (first_mate g p.along)) p.to b ≡ true
  first_step_rest {a} {b} {p} o n =
      joined_without_end_edge g rule (first_mate g p.along) p.to a
      (joins_swap (edge g (first_mate g p.along)) p.to a ∙ first_mate-joins p.along a p.to (first_step_joins o n))
      p.to b (path_outlives_vertex g proper o.rest a o.away o.no_return)

  -- the loss of a later bridge does not part the vertices of the first step
  later_bridge_kept : {a b : ℕ} {p : Step} {ps : List Step} → Onward g a p ps b → (t : ℕ) → PathBridge g p.to ps b t
      → joined g (loss_of g t) a p.to ≡ true
  later_bridge_kept {a} {b} {p} o t q =
      joined_without_end_edge g rule t q.start q.end q.over a p.to (later_outlives g proper o q.end q.on_end)

  later_bridge : {a b : ℕ} {p : Step} {ps : List Step} → Onward g a p ps b → (t : ℕ) → PathBridge g p.to ps b t
      → PathBridge g a (p ∷ ps) b t
  later_bridge {a} {b} {p} {ps} o t q =
      record {
        least = q.least;
        start = q.start;
        end = q.end;
        over = q.over;
        on_start = inr (⊎_elim (steps_to_next q.start p ps) (steps_to_later q.start p ps) q.on_start);
        on_end = steps_to_later q.end p ps q.on_end;
        parted = joined_from g (loss_of g t) a p.to b (later_bridge_kept o t q) ∙ q.parted;
      }

  -- a member of the list is the least of its mates, joins two vertices of the path, and parts the path's ends by its loss
  pub in_path_bridges : {a b : ℕ} {ps : List Step} → BlockPath g a ps b → (t : ℕ) → is_in t (path_bridges g a ps) ≡ true
      → PathBridge g a ps b t
  unfolding path_bridges is_in
  in_path_bridges {ps = []} path t e = absurd (false≢true e)
  in_path_bridges {a} {b} {ps = p ∷ ps} path t e =
      go (λ i. later_bridge o t (in_path_bridges o.rest t i)) (true_or_false (bridge_block g a p.to))
    where
      o : Onward g a p ps b
      o = onward path

      s : ℕ
      s = first_mate g p.along

      here : bridge_block g a p.to ≡ false → PathBridge g a (p ∷ ps) b s
      here n =
          record {
            least = first_mate_least g rule p.along;
            start = a;
            end = p.to;
            over = first_mate-joins p.along a p.to (first_step_joins o n);
            on_start = inl refl;
            on_end = steps_to_next p.to p ps refl;
            parted = sym (joined_to g (loss_of g s) a p.to b (first_step_rest o n)) ∙ first_step_parted o n;
          }

      go : (is_in t (path_bridges g p.to ps) ≡ true → PathBridge g a (p ∷ ps) b t)
          → (bridge_block g a p.to ≡ true) ⊎ (bridge_block g a p.to ≡ false) → PathBridge g a (p ∷ ps) b t
      go r (inl y) = r (rw (path_bridges_skip g a p ps y) at e)
      go r (inr n) = ⊎_elim (λ q. subst (PathBridge g a (p ∷ ps) b) (sym q) (here n)) r
          (is_in_cases t s (path_bridges g p.to ps) (rw (path_bridges_add g a p ps n) at e))

  -- the loss of any other edge does not part the path's ends
  off_path_bridges : {a b : ℕ} {ps : List Step} → BlockPath g a ps b → (t : ℕ) → t < edge_count g → least_mate g t ≡ true
      → is_in t (path_bridges g a ps) ≡ false → joined g (loss_of g t) a b ≡ true
  unfolding is_in loss_of
  off_path_bridges {a} {b} {ps = []} path t h l n = rw (stays path) (joined_refl g (loss_of g t) b)
  off_path_bridges {a} {b} {ps = p ∷ ps} path t h l n =
      go (off_path_bridges o.rest t h l) (true_or_false (bridge_block g a p.to))
    where
      o : Onward g a p ps b
      o = onward path

      go : (is_in t (path_bridges g p.to ps) ≡ false → joined g (loss_of g t) p.to b ≡ true)
          → (bridge_block g a p.to ≡ true) ⊎ (bridge_block g a p.to ≡ false) → joined g (loss_of g t) a b ≡ true
      go r (inl y) = joined_trans g (loss_of g t) a p.to b (bridge_block_lasts g a p.to y t h)
          (r (rw (path_bridges_skip g a p ps y) at n))
      go r (inr k) = joined_trans g (loss_of g t) a p.to b
          (joins-joined g (loss_of g t) p.along o.known
          (other_first_mate g rule t p.along l (eqb_ne t s (or_neither_left (eqb t s) (is_in t later) other)))
          a p.to (first_step_joins o k))
          (r (or_neither_right (eqb t s) (is_in t later) other))
        where
          s : ℕ
          s = first_mate g p.along

          later : List ℕ
          later = path_bridges g p.to ps

          other : is_in t (s ∷ later) ≡ false
          other = rw (path_bridges_add g a p ps k) at n

  -- exactly the bridges between the ends of a block path are in the list
  pub bridge_on_path : {a b : ℕ} {ps : List Step} → BlockPath g a ps b → (t : ℕ)
      → is_in t (path_bridges g a ps) ≡ is_bridge_between g a b t
  unfolding is_bridge_between parts
  bridge_on_path {a} {b} {ps} path t =
      bool_ext (is_in t (path_bridges g a ps)) (is_bridge_between g a b t)
      (λ i. let q = in_path_bridges path t i in and_both q.least (and_both (path_component path) (not_of_false q.parted)))
      (λ e. ⊎_elim (λ i. i)
      (λ n. absurd (not_both
      (off_path_bridges path t (bridge_between_known g rule a b t e) (bridge_between_least g a b t e) n)
      (parts-apart g (loss_of g t) a b (bridge-between-parts g a b t e))))
      (true_or_false (is_in t (path_bridges g a ps))))

  -- none stands there twice
  pub path_bridges_distinct : {a b : ℕ} {ps : List Step} → BlockPath g a ps b → distinct (path_bridges g a ps) ≡ true
  unfolding path_bridges distinct
  path_bridges_distinct {ps = []} path = refl
  path_bridges_distinct {a} {b} {ps = p ∷ ps} path =
      go (path_bridges_distinct o.rest) (true_or_false (bridge_block g a p.to))
    where
      o : Onward g a p ps b
      o = onward path

      go : distinct (path_bridges g p.to ps) ≡ true → (bridge_block g a p.to ≡ true) ⊎ (bridge_block g a p.to ≡ false)
          → distinct (path_bridges g a (p ∷ ps)) ≡ true
      go r (inl y) = rw (path_bridges_skip g a p ps y) r
      go r (inr n) = rw (path_bridges_add g a p ps n) (distinct_cons s (path_bridges g p.to ps)
          (false_of_not (is_in s (path_bridges g p.to ps)) (λ i.
          not_both (later_bridge_kept o s (in_path_bridges o.rest s i)) (first_step_parted o n))) r)
        where
          s : ℕ
          s = first_mate g p.along

  path_bridges_ordered : {x b : ℕ} {ps : List Step} → BlockPath g x ps b → (a : ℕ)
      → ((t : ℕ) → is_in t (path_bridges g x ps) ≡ true → joined g (loss_of g t) a x ≡ true)
      → ordered (bridge_before g a) (path_bridges g x ps) ≡ true
  unfolding path_bridges ordered bridge_before
  path_bridges_ordered {ps = []} path a w = refl
  path_bridges_ordered {x} {b} {ps = p ∷ ps} path a w = go (true_or_false (bridge_block g x p.to))
      (λ v. path_bridges_ordered o.rest a (λ t i. joined_trans g (loss_of g t) a x p.to (v t i) (kept t i)))
    where
      o : Onward g x p ps b
      o = onward path

      s : ℕ
      s = first_mate g p.along

      later : List ℕ
      later = path_bridges g p.to ps

      Reach : Type 0
      Reach = (t : ℕ) → is_in t later ≡ true → joined g (loss_of g t) a x ≡ true

      kept : (t : ℕ) → is_in t later ≡ true → joined g (loss_of g t) x p.to ≡ true
      kept t i = later_bridge_kept o t (in_path_bridges o.rest t i)

      go : (bridge_block g x p.to ≡ true) ⊎ (bridge_block g x p.to ≡ false)
          → (Reach → ordered (bridge_before g a) later ≡ true) → ordered (bridge_before g a) (path_bridges g x (p ∷ ps)) ≡ true
      go (inl y) r = rw (path_bridges_skip g x p ps y) (r (rw (path_bridges_skip g x p ps y) at w))
      go (inr n) r = rw (path_bridges_add g x p ps n) (ordered_cons (bridge_before g a) s later first (r v))
        where
          v : Reach
          v t i = w t (rw (path_bridges_add g x p ps n) (is_in_tail t s later i))

          first : (t : ℕ) → is_in t later ≡ true → bridge_before g a s t ≡ true
          first t i = joins_carries (λ y z. (joined g (loss_of g t) a y && joined g (loss_of g t) a z) ≡ true)
              (λ y z q. and_comm (joined g (loss_of g t) a z) (joined g (loss_of g t) a y) ∙ q) (edge g s) x p.to
              (first_mate-joins p.along x p.to (first_step_joins o n))
              (and_both (v t i) (joined_trans g (loss_of g t) a x p.to (v t i) (kept t i)))

  -- the bridges between the ends of a block path are, in its order, the least edges of those of its blocks whose two path vertices
  -- lie in different bridge-blocks
  pub bridges_of_block_path : {a b : ℕ} {ps : List Step} → BlockPath g a ps b → bridges_between g a b ≡ path_bridges g a ps
  bridges_of_block_path {a} {b} {ps} path =
      sym (bridges_between_unique g a b rule (path_bridges g a ps) (bridge_on_path path) (path_bridges_distinct path)
      (path_bridges_ordered path a (λ t i. joined_refl g (loss_of g t) a)))

  -- the loss of an edge parts the ends of a block path exactly if the least of its mates is among those
  pub loss_parts_path : {a b : ℕ} {ps : List Step} → BlockPath g a ps b → (t : ℕ)
      → joined g (loss_of g t) a b ≡ not (is_in (first_mate g t) (path_bridges g a ps))
  unfolding is_bridge_between parts
  loss_parts_path {a} {b} {ps} path t =
      sym (not-not (joined g (loss_of g t) a b))
      ∙ ap not (ap not (joined_same_loss g (loss_of g t) (loss_of g s)
      (λ u h. loss_of-mates g rule t s (mates_sym g rule s t (first_mate_lem g t)) u) a b)
      ∙ sym (bridge_on_path path s ∙ rw (first_mate_least g rule t, path_component path)))
    where
      s : ℕ
      s = first_mate g t
