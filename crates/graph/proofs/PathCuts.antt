-- The cut vertices between the ends of a block path are the vertices between them on the path, in its order.
use mathlib.Core.Bool.{Bool, true, false, not, ◌&&◌, ◌||◌, and-false}
use mathlib.Core.List.{List, [], ◌∷◌}
use mathlib.Core.Logic.{◌⊎◌, inl, inr}
use mathlib.Core.Path.{◌≡◌, refl, sym, ◌∙◌, ap}
use Prim.Native.Nat.{ℕ}
use lib.Dec.{eqb}
use Rattle.graph.specs.Lists.{is_in, distinct, ordered}
use Rattle.graph.specs.Network.{Network, Loss, without, joined, Proper}
use Rattle.graph.specs.Groups.{parts}
use Rattle.graph.specs.Cycle.{Step, any_step}
use Rattle.graph.specs.Between.{is_cut_between, cut_before, cuts_between}
use Rattle.graph.specs.BlockPath.{BlockPath}
use Rattle.graph.proofs.Truth.{true_or_false, not_both, or_neither, not_of_false, and_left, and_both, eqb_eq, eqb_swap}
use Rattle.graph.proofs.Joined.{joined_trans}
use Rattle.graph.proofs.Members.{all_in_lem}
use Rattle.graph.proofs.CutsBetween.{joined-without, cuts_between_unique}
use Rattle.graph.proofs.Steps.{steps_to}
use Rattle.graph.proofs.BlockPath.{onward, stays, steps_to_later, start_fresh, visited_differs, end_visited}
use Rattle.graph.proofs.BlockPath.{path_component, path_outlives_vertex, later_outlives, path_parts_at_vertex}

-- the vertices that the steps start from
unfoldable pub starts : ℕ → List Step → List ℕ
starts a [] = []
starts a (p ∷ ps) = a ∷ starts p.to ps

-- the vertices between the ends of a path: those that every step but the first starts from
unfoldable pub inner : List Step → List ℕ
inner [] = []
inner (p ∷ ps) = starts p.to ps

-- steps start from the start and from where steps lead to, and not from the end
in_starts : {g : Network} {a b : ℕ} {ps : List Step} → BlockPath g a ps b → (c : ℕ)
    → is_in c (starts a ps) ≡ ((eqb c a || steps_to c ps) && not (eqb c b))
unfolding starts is_in any_step
in_starts {a = a} {b = b} {ps = []} path c = rw (stays path) (go (eqb c b))
  where
    go : (z : Bool) → false ≡ ((z || false) && not z)
    go true = refl
    go false = refl
in_starts {a = a} {b = b} {ps = p ∷ ps} path c =
    ap (λ z. eqb c a || z) (in_starts (onward path).rest c) ∙ go (true_or_false (eqb c a))
  where
    end_differs : eqb a b ≡ false
    end_differs = eqb_swap a b ∙ visited_differs b a (p ∷ ps) (end_visited path) (start_fresh path)

    go : (eqb c a ≡ true) ⊎ (eqb c a ≡ false)
        → (eqb c a || ((eqb c p.to || steps_to c ps) && not (eqb c b))) ≡ ((eqb c a || steps_to c (p ∷ ps)) && not (eqb c b))
    go (inl e) = rw (e, ap (λ x. eqb x b) (eqb_eq c a e), end_differs)
    go (inr e) = rw (e, eqb_swap c p.to)

-- the vertices between the ends are those that are visited, but the last
pub in_inner : {g : Network} {a b : ℕ} {ps : List Step} → BlockPath g a ps b → (c : ℕ)
    → is_in c (inner ps) ≡ (steps_to c ps && not (eqb c b))
unfolding inner any_step is_in
in_inner {ps = []} path c = refl
in_inner {b = b} {ps = p ∷ ps} path c = in_starts (onward path).rest c ∙ ap (λ z. (z || steps_to c ps) && not (eqb c b)) (eqb_swap c p.to)

starts_distinct : {g : Network} {a b : ℕ} {ps : List Step} → BlockPath g a ps b → distinct (starts a ps) ≡ true
unfolding starts distinct
starts_distinct {ps = []} path = refl
starts_distinct {a = a} {b = b} {ps = p ∷ ps} path =
    let o = onward path in
    and_both
    (not_of_false (in_starts o.rest a ∙ ap (λ z. z && not (eqb a b)) (or_neither o.away o.no_return)))
    (starts_distinct o.rest)

-- none stands there twice
pub inner_distinct : {g : Network} {a b : ℕ} {ps : List Step} → BlockPath g a ps b → distinct (inner ps) ≡ true
unfolding inner distinct
inner_distinct {ps = []} path = refl
inner_distinct {ps = p ∷ ps} path = starts_distinct (onward path).rest

module _ (g : Network) (r : Proper g) where
  -- exactly the vertices between the ends of a block path are cut vertices between them
  pub cut_on_path : {a b : ℕ} {ps : List Step} → BlockPath g a ps b → (c : ℕ) → is_cut_between g a b c ≡ is_in c (inner ps)
  unfolding is_cut_between parts
  cut_on_path {a} {b} {ps} path c = go (true_or_false (steps_to c ps)) (true_or_false (eqb c b)) ∙ sym (in_inner path c)
    where
      go : (steps_to c ps ≡ true) ⊎ (steps_to c ps ≡ false) → (eqb c b ≡ true) ⊎ (eqb c b ≡ false)
          → is_cut_between g a b c ≡ (steps_to c ps && not (eqb c b))
      go v (inl d) = rw d (simp and-false)
      go (inl v) (inr d) =
          rw (v, d, path_component path, path_parts_at_vertex g r path c v d, visited_differs c a ps v (start_fresh path))
      go (inr v) (inr d) = off (true_or_false (eqb c a))
        where
          off : (eqb c a ≡ true) ⊎ (eqb c a ≡ false) → is_cut_between g a b c ≡ (steps_to c ps && not (eqb c b))
          off (inl e) = rw (e, v)
          off (inr e) = rw (e, v, d, path_component path, path_outlives_vertex g r path c e v)

  starts_ordered : {x b : ℕ} {ps : List Step} → BlockPath g x ps b → (a : ℕ)
      → ((d : ℕ) → steps_to d ps ≡ true → joined g (without g d) a x ≡ true) → ordered (cut_before g a) (starts x ps) ≡ true
  unfolding starts ordered cut_before any_step
  starts_ordered {ps = []} path a f = refl
  starts_ordered {x} {b} {ps = p ∷ ps} path a f =
      and_both
      (all_in_lem (cut_before g a x) (starts p.to ps) first)
      (starts_ordered (onward path).rest a
      (λ d v. joined_trans g _ a x p.to (f d (steps_to_later d p ps v)) (later_outlives g r (onward path) d v)))
    where
      first : (d : ℕ) → is_in d (starts p.to ps) ≡ true → cut_before g a x d ≡ true
      first d h =
          f d
          (ap (λ z. z || steps_to d ps) (eqb_swap p.to d)
          ∙ and_left (eqb d p.to || steps_to d ps) (not (eqb d b)) (sym (in_starts (onward path).rest d) ∙ h))

  -- each comes before those behind it
  pub inner_ordered : {a b : ℕ} {ps : List Step} → BlockPath g a ps b → ordered (cut_before g a) (inner ps) ≡ true
  unfolding inner ordered
  inner_ordered {ps = []} path = refl
  inner_ordered {a} {b} {ps = p ∷ ps} path = starts_ordered (onward path).rest a (later_outlives g r (onward path))

  -- the cut vertices between the ends of a block path are the vertices between them on it, in its order
  pub cuts_of_block_path : {a b : ℕ} {ps : List Step} → BlockPath g a ps b → cuts_between g a b ≡ inner ps
  cuts_of_block_path {a} {b} {ps} path =
      sym (cuts_between_unique g a b r (inner ps) (λ c. sym (cut_on_path path c)) (inner_distinct path) (inner_ordered path))

  -- whatever is lost, the ends of a block path are joined only where its start is joined to every vertex on it
  pub joined_through_path : {a b : ℕ} {ps : List Step} → BlockPath g a ps b → (lost : Loss) → joined g lost a b ≡ true
      → (c : ℕ) → steps_to c ps ≡ true → joined g lost a c ≡ true
  joined_through_path {a} {b} {ps} path lost j c v = go (true_or_false (joined g lost a c)) (true_or_false (eqb c b))
    where
      go : (joined g lost a c ≡ true) ⊎ (joined g lost a c ≡ false) → (eqb c b ≡ true) ⊎ (eqb c b ≡ false) → joined g lost a c ≡ true
      go (inl k) d = k
      go (inr n) (inl q) = rw (eqb_eq c b q) j
      go (inr n) (inr d) = absurd (not_both (joined-without g c lost a n b j) (path_parts_at_vertex g r path c v d))
