-- Lists of steps: what makes one a block path, piece by piece.
use Rattle.std.proofs.Common.{◌≡◌, ℕ, suc, ◌<◌, ◌≤◌, Bool, true, false, ◌||◌, eqb, ◌≢◌, ◌⊎◌, List, [], ◌∷◌, ◌++◌, length, sym, refl, ◌∙◌, inl, inr, arith}
use Rattle.graph.specs.Below.{count}
use Rattle.graph.specs.Network.{Network, edge_count}
use Rattle.graph.specs.Cycle.{Step, any_step}
use Rattle.graph.specs.Block.{block, on_block}
use Rattle.graph.specs.BlockPath.{BlockPath, blocks_lead, fresh, blocks_differ}
use Rattle.graph.proofs.Truth.{and_both, or_neither, or_cases, or_left, or_right, eq-eqb, eqb_eq, eqb_same, ne_eqb, lt-ltb, not_of_false}
use Rattle.naming.proofs.Count.{count_at_most, count_positive, count_disjoint}

-- Every step has the property.
abbrev pub Each : (Step → Type 0) → List Step → Type 0
Each P [] = Unit {0}
Each P (p ∷ ps) = P p × Each P ps

-- what follows from a property of every step holds of every step
pub each_map : {P Q : Step → Type 0} → ((p : Step) → P p → Q p) → (ps : List Step) → Each P ps → Each Q ps
each_map f [] w = tt
each_map f (p ∷ ps) w = (f p w.0, each_map f ps w.1)

-- what holds of the steps of two lists holds of those of both together, and the other way round
pub each_append : (P : Step → Type 0) (ps qs : List Step) → Each P ps → Each P qs → Each P (ps ++ qs)
each_append P [] qs v w = w
each_append P (p ∷ ps) qs v w = (v.0, each_append P ps qs v.1 w)

pub each_first : (P : Step → Type 0) (ps qs : List Step) → Each P (ps ++ qs) → Each P ps
each_first P [] qs w = tt
each_first P (p ∷ ps) qs w = (w.0, each_first P ps qs w.1)

pub each_second : (P : Step → Type 0) (ps qs : List Step) → Each P (ps ++ qs) → Each P qs
each_second P [] qs w = w
each_second P (p ∷ ps) qs w = each_second P ps qs w.1

-- No step leads back to x, and no two lead to one vertex.
abbrev pub Fresh : ℕ → List Step → Type 0
Fresh x [] = Unit {0}
Fresh x (p ∷ ps) = Each (λ q. q.to ≢ x) (p ∷ ps) × Fresh p.to ps

none_to : (x : ℕ) (ps : List Step) → Each (λ q. q.to ≢ x) ps → any_step (λ q. eqb q.to x) ps ≡ false
unfolding any_step
none_to x [] w = refl
none_to x (p ∷ ps) w = or_neither (ne_eqb p.to x w.0) (none_to x ps w.1)

is_fresh : (x : ℕ) (ps : List Step) → Fresh x ps → fresh x ps ≡ true
unfolding fresh
is_fresh x [] w = refl
is_fresh x (p ∷ ps) w = and_both (not_of_false (none_to x (p ∷ ps) w.0)) (is_fresh p.to ps w.1)

-- a last step that leads to a new vertex
pub fresh_last : (x : ℕ) (ps : List Step) (q : Step) → Fresh x ps → q.to ≢ x → Each (λ p. p.to ≢ q.to) ps → Fresh x (ps ++ q ∷ [])
fresh_last x [] q w d e = ((d, tt), tt)
fresh_last x (p ∷ ps) q w d e =
    (each_append (λ r. r.to ≢ x) (p ∷ ps) (q ∷ []) w.0 (d, tt), fresh_last p.to ps q w.1 (λ z. e.0 (sym z)) e.1)

-- a step fewer
pub fresh_less : (x : ℕ) (ps : List Step) (q : Step) (qs : List Step) → Fresh x (ps ++ q ∷ qs) → Fresh x (ps ++ qs)
fresh_less x [] q [] w = tt
fresh_less x [] q (r ∷ qs) w = (w.0.1, w.1.1)
fresh_less x (p ∷ ps) q qs w = ((w.0.0, less w.0.1), fresh_less p.to ps q qs w.1)
  where
    P : Step → Type 0
    P r = r.to ≢ x

    less : Each P (ps ++ q ∷ qs) → Each P (ps ++ qs)
    less v = each_append P ps qs (each_first P ps (q ∷ qs) v) (each_second P ps (q ∷ qs) v).1

-- the steps from x on come by vertex z
comes_by : ℕ → List Step → ℕ → Bool
comes_by x [] z = eqb x z
comes_by x (p ∷ ps) z = eqb x z || comes_by p.to ps z

visited_differs : (x : ℕ) (ps : List Step) (c z : ℕ) → x ≢ c → Each (λ q. q.to ≢ c) ps → comes_by x ps z ≡ true → z ≢ c
unfolding comes_by
visited_differs x [] c z d w e k = d (eqb_eq x z e ∙ k)
visited_differs x (p ∷ ps) c z d w e k = go (visited_differs p.to ps c z w.0 w.1) (or_cases (eqb x z) (comes_by p.to ps z) e)
  where
    go : (comes_by p.to ps z ≡ true → z ≢ c) → (eqb x z ≡ true) ⊎ (comes_by p.to ps z ≡ true) → ⊥
    go ih (inl h) = d (eqb_eq x z h ∙ k)
    go ih (inr h) = ih h k

visited_many : (n x : ℕ) (ps : List Step) → Fresh x ps → x < n → Each (λ q. q.to < n) ps → suc (length ps) ≤ count n (comes_by x ps)
unfolding comes_by
visited_many n x [] w h k = count_positive n (comes_by x []) x h (eqb_same x)
visited_many n x (p ∷ ps) w h k =
    omega (arith, one, visited_many n p.to ps w.1 k.0 k.1, count_disjoint n (eqb x) (comes_by p.to ps) (comes_by x (p ∷ ps)) first second apart)
  where
    one : 1 ≤ count n (eqb x)
    one = count_positive n (eqb x) x h (eqb_same x)

    first : (z : ℕ) → eqb x z ≡ true → comes_by x (p ∷ ps) z ≡ true
    first z e = or_left e (comes_by p.to ps z)

    second : (z : ℕ) → comes_by p.to ps z ≡ true → comes_by x (p ∷ ps) z ≡ true
    second z e = or_right (eqb x z) e

    apart : (z : ℕ) → eqb x z ≡ true → comes_by p.to ps z ≡ true → ⊥
    apart z e f = visited_differs p.to ps x z w.0.0 w.0.1 f (sym (eqb_eq x z e))

-- steps that visit different vertices below n are fewer than n
pub fresh_short : (n x : ℕ) (ps : List Step) → Fresh x ps → x < n → Each (λ q. q.to < n) ps → length ps < n
fresh_short n x ps w h k = omega (arith, visited_many n x ps w h k, count_at_most n (comes_by x ps))

module _ (g : Network) where
  -- The step leads from vertex x within one block.
  pub record Within (x : ℕ) (p : Step) : Type 0 where
    pub known : p.along < edge_count g
    pub from : on_block g p.along x ≡ true
    pub to : on_block g p.along p.to ≡ true

  -- The steps lead from x to y, each within one block.
  abbrev pub Leads : ℕ → List Step → ℕ → Type 0
  Leads x [] y = x ≡ y
  Leads x (p ∷ ps) y = Within x p × Leads p.to ps y

  -- steps that lead on lead together
  pub leads-append : (x : ℕ) (ps : List Step) (y : ℕ) (qs : List Step) (z : ℕ) → Leads x ps y → Leads y qs z → Leads x (ps ++ qs) z
  leads-append x [] y qs z v w = rw v w
  leads-append x (p ∷ ps) y qs z v w = (v.0, leads-append p.to ps y qs z v.1 w)

  -- and so they do as the definition tests it
  leads_lead : (x : ℕ) (ps : List Step) (y : ℕ) → Leads x ps y → blocks_lead g x ps y ≡ true
  unfolding blocks_lead
  leads_lead x [] y w = eq-eqb x y w
  leads_lead x (p ∷ ps) y w =
      and_both (and_both (and_both (lt-ltb _ _ w.0.known) w.0.from) w.0.to) (leads_lead p.to ps y w.1)

  -- Neighbouring steps go through different blocks.
  abbrev pub Differ : List Step → Type 0
  Differ [] = Unit {0}
  Differ (p ∷ []) = Unit {0}
  Differ (p ∷ q ∷ ps) = (block g p.along q.along ≡ false) × Differ (q ∷ ps)

  differ_differ : (ps : List Step) → Differ ps → blocks_differ g ps ≡ true
  unfolding blocks_differ
  differ_differ [] w = refl
  differ_differ (p ∷ []) w = refl
  differ_differ (p ∷ q ∷ ps) w = and_both (not_of_false w.0) (differ_differ (q ∷ ps) w.1)

  -- The last of the first steps and the first of the second go through different blocks.
  abbrev pub Apart : List Step → List Step → Type 0
  Apart [] qs = Unit {0}
  Apart (p ∷ []) [] = Unit {0}
  Apart (p ∷ []) (q ∷ qs) = block g p.along q.along ≡ false
  Apart (p ∷ r ∷ ps) qs = Apart (r ∷ ps) qs

  -- steps through different blocks, one list behind another
  pub differ_append : (ps qs : List Step) → Differ ps → Differ qs → Apart ps qs → Differ (ps ++ qs)
  differ_append [] qs v w a = w
  differ_append (p ∷ []) [] v w a = tt
  differ_append (p ∷ []) (q ∷ qs) v w a = (a, w)
  differ_append (p ∷ r ∷ ps) qs v w a = (v.0, differ_append (r ∷ ps) qs v.1 w a)

  -- steps that lead, visit different vertices and go through different blocks are a block path
  pub block_path : (x : ℕ) (ps : List Step) (y : ℕ) → Leads x ps y → Fresh x ps → Differ ps → BlockPath g x ps y
  block_path x ps y l f d = record { lead = leads_lead x ps y l; all_fresh = is_fresh x ps f; all_differ = differ_differ ps d }
