-- Ways up and down the block forest, and the climb from two vertices, always from the deeper one, until they meet.
use Rattle.std.proofs.Common.{◌≡◌, ℕ, zero, suc, ◌+◌, ◌<◌, ◌≤◌, true, false, eqb, ltb, ◌≢◌, ◌⊎◌, List, [], ◌∷◌, ◌++◌, length, sym, refl, ap, ◌∙◌, inl, inr, append_assoc, arith}
use Rattle.graph.specs.Network.{Network, nothing}
use Rattle.graph.specs.Groups.{component}
use Rattle.graph.specs.Cycle.{Step}
use Rattle.graph.specs.Block.{on_block}
use Rattle.graph.proofs.Truth.{true_or_false, eqb_eq, eqb_ne, ltb_lt, ltb_ge}
use Rattle.graph.proofs.Joined.{joined_sym, joined_trans, joined_less_lost}
use Rattle.graph.proofs.BlockVertices.{block_vertices_joined_within}
use Rattle.numbers.specs.declared.Limits.{Limits}
use Rattle.forest.specs.Inside.Climb.{up_of, depth_of, above_edge}
use Rattle.forest.proofs.Roots.{BlockForest, above_known, root_least}
use Rattle.forest.proofs.ClimbLists.{Each, each_map, each_append, Fresh, fresh_last}

-- Vertex x hangs by edge e below vertex v.
pub record Hung (t : List ℕ) (limits : Limits) (n : ℕ) (e x v : ℕ) : Type 0 where
  pub known : x < n
  pub is_up : up_of t limits x ≡ suc e
  pub above_is : above_edge t limits e ≡ v

-- The steps lead up from x to v: each along the edge above a vertex, to the vertex above its block.
abbrev pub Rises : List ℕ → Limits → ℕ → ℕ → List Step → ℕ → Type 0
Rises t limits n x [] v = x ≡ v
Rises t limits n x (p ∷ ps) v = Hung t limits n p.along x p.to × Rises t limits n p.to ps v

-- The steps lead down from v to y: each along the edge above the vertex that it leads to.
abbrev pub Falls : List ℕ → Limits → ℕ → ℕ → List Step → ℕ → Type 0
Falls t limits n v [] y = v ≡ y
Falls t limits n v (p ∷ ps) y = Hung t limits n p.along p.to v × Falls t limits n p.to ps y

-- The climb from x and y to the vertex v where they meet.
pub data Climb (t : List ℕ) (limits : Limits) (n : ℕ) : ℕ → ℕ → ℕ → Type 0 where
  met : {x : ℕ} → Climb t limits n x x x
  left : {x y v : ℕ} (e : ℕ) → x ≢ y → depth_of t limits y ≤ depth_of t limits x → Hung t limits n e x (above_edge t limits e)
      → Climb t limits n (above_edge t limits e) y v → Climb t limits n x y v
  right : {x y v : ℕ} (e : ℕ) → depth_of t limits x < depth_of t limits y → Hung t limits n e y (above_edge t limits e)
      → Climb t limits n x (above_edge t limits e) v → Climb t limits n x y v

module _ (t : List ℕ) (limits : Limits) (n : ℕ) where
  -- The steps of the left side, up from x.
  unfoldable pub up_steps : {x y v : ℕ} → Climb t limits n x y v → List Step
  up_steps met = []
  up_steps (left e d l h c) = record { along = e; to = above_edge t limits e } ∷ up_steps c
  up_steps (right e l h c) = up_steps c

  -- The steps of the right side, turned round, down to y.
  unfoldable pub down_steps : {x y v : ℕ} → Climb t limits n x y v → List Step
  down_steps met = []
  down_steps (left e d l h c) = down_steps c
  down_steps (right {y = y} e l h c) = down_steps c ++ record { along = e; to = y } ∷ []

  -- the left side leads up
  pub up_rises : {x y v : ℕ} (c : Climb t limits n x y v) → Rises t limits n x (up_steps c) v
  unfolding up_steps
  up_rises met = refl
  up_rises (left e d l h c) = (h, up_rises c)
  up_rises (right e l h c) = up_rises c

  falls_last : (v : ℕ) (ps : List Step) (w e y : ℕ) → Falls t limits n v ps w → Hung t limits n e y w
      → Falls t limits n v (ps ++ record { along = e; to = y } ∷ []) y
  falls_last v [] w e y f h = (rw f h, refl)
  falls_last v (p ∷ ps) w e y f h = (f.0, falls_last p.to ps w e y f.1 h)

  -- the right side, turned round, leads down
  pub down_falls : {x y v : ℕ} (c : Climb t limits n x y v) → Falls t limits n v (down_steps c) y
  unfolding down_steps
  down_falls met = refl
  down_falls (left e d l h c) = down_falls c
  down_falls {v = v} (right {y = y} e l h c) = falls_last v (down_steps c) (above_edge t limits e) e y (down_falls c) h

module _ (t : List ℕ) (limits : Limits) (n m : ℕ) (g : Network) (w : BlockForest t limits n m g) where
  -- a vertex that hangs below another has more depth
  pub hung_depth : (e x v : ℕ) → Hung t limits n e x v → depth_of t limits v < depth_of t limits x
  hung_depth e x v h = rw h.above_is at (w.forest.depth_falls x e h.known h.is_up)

  -- the vertex above is a vertex of the network
  pub hung_above : (e x v : ℕ) → Hung t limits n e x v → v < n
  hung_above e x v h = rw h.above_is at (above_known t limits n m g w x e h.known h.is_up)

  -- the edge between is an edge of the network
  pub hung_edge : (e x v : ℕ) → Hung t limits n e x v → e < m
  hung_edge e x v h = w.forest.up_known x e h.known h.is_up

  -- the lower vertex is on the block between them
  pub hung_low : (e x v : ℕ) → Hung t limits n e x v → on_block g e x ≡ true
  hung_low e x v h = w.forest.up_on x e h.known h.is_up

  -- and so is the upper one
  pub hung_high : (e x v : ℕ) → Hung t limits n e x v → on_block g e v ≡ true
  hung_high e x v h = rw h.above_is at (w.forest.top_on e (hung_edge e x v h))

  -- a vertex and the one above it share a component
  pub hung_component : (e x v : ℕ) → Hung t limits n e x v → component g x v ≡ true
  unfolding component nothing
  hung_component e x v h =
      joined_less_lost g _ nothing (λ s l k. refl) x v
      (block_vertices_joined_within g e x v (hung_low e x v h) (hung_high e x v h))

  -- steps up lead to vertices of less depth than the first
  pub rises_depth : (x : ℕ) (ps : List Step) (v : ℕ) → Rises t limits n x ps v → Each (λ p. depth_of t limits p.to < depth_of t limits x) ps
  rises_depth x [] v r = tt
  rises_depth x (p ∷ ps) v r =
      (hung_depth _ _ _ r.0, each_map (λ q l. omega (arith, hung_depth _ _ _ r.0)) ps (rises_depth p.to ps v r.1))

  -- each step up costs depth
  pub rises_cost : (x : ℕ) (ps : List Step) (v : ℕ) → Rises t limits n x ps v → length ps + depth_of t limits v ≤ depth_of t limits x
  rises_cost x [] v r = rw r (omega arith)
  rises_cost x (p ∷ ps) v r = omega (arith, hung_depth _ _ _ r.0, rises_cost p.to ps v r.1)

  -- each step down gains depth
  pub falls_cost : (v : ℕ) (ps : List Step) (y : ℕ) → Falls t limits n v ps y → length ps + depth_of t limits v ≤ depth_of t limits y
  falls_cost v [] y f = rw f (omega arith)
  falls_cost v (p ∷ ps) y f = omega (arith, hung_depth _ _ _ f.0, falls_cost p.to ps y f.1)

  -- steps down lead to vertices of less depth than the last, or to it
  pub falls_depth : (v : ℕ) (ps : List Step) (y : ℕ) → Falls t limits n v ps y
      → Each (λ p. (p.to ≡ y) ⊎ (depth_of t limits p.to < depth_of t limits y)) ps
  falls_depth v [] y f = tt
  falls_depth v (p ∷ ps) y f = (first p.to ps f.1, falls_depth p.to ps y f.1)
    where
      first : (z : ℕ) (qs : List Step) → Falls t limits n z qs y → (z ≡ y) ⊎ (depth_of t limits z < depth_of t limits y)
      first z [] r = inl r
      first z (q ∷ qs) r = inr (omega (arith, falls_cost z (q ∷ qs) y r))

  -- a vertex of less depth is another vertex
  lower : (z x : ℕ) → depth_of t limits z < depth_of t limits x → z ≢ x
  lower z x k p = omega (arith, ap (depth_of t limits) p)

  -- the vertices of a climb differ
  pub climb_fresh : {x y v : ℕ} (c : Climb t limits n x y v) → Fresh x (up_steps t limits n c ++ down_steps t limits n c)
  unfolding up_steps down_steps
  climb_fresh met = tt
  climb_fresh (left {x} {y} {v} e d l h c) =
      ((lower _ x fall, each_append (λ q. q.to ≢ x) (up_steps t limits n c) (down_steps t limits n c) ups downs), climb_fresh c)
    where
      fall : depth_of t limits (above_edge t limits e) < depth_of t limits x
      fall = hung_depth _ _ _ h

      other : (q : Step) → (q.to ≡ y) ⊎ (depth_of t limits q.to < depth_of t limits y) → q.to ≢ x
      other q (inl p) k = d (sym k ∙ p)
      other q (inr p) k = lower q.to x (omega arith) k

      ups : Each (λ q. q.to ≢ x) (up_steps t limits n c)
      ups = each_map (λ q k. lower q.to x (omega (arith, fall))) (up_steps t limits n c) (rises_depth _ (up_steps t limits n c) v (up_rises t limits n c))

      downs : Each (λ q. q.to ≢ x) (down_steps t limits n c)
      downs = each_map other (down_steps t limits n c) (falls_depth v (down_steps t limits n c) y (down_falls t limits n c))
  climb_fresh (right {x} {y} {v} e l h c) =
      rw (← append_assoc (up_steps t limits n c) (down_steps t limits n c) (record { along = e; to = y } ∷ []))
      (fresh_last x (up_steps t limits n c ++ down_steps t limits n c) (record { along = e; to = y }) (climb_fresh c) (λ p. lower x y l (sym p))
      (each_append (λ q. q.to ≢ y) (up_steps t limits n c) (down_steps t limits n c) ups downs))
    where
      fall : depth_of t limits (above_edge t limits e) < depth_of t limits y
      fall = hung_depth _ _ _ h

      other : (q : Step) → (q.to ≡ above_edge t limits e) ⊎ (depth_of t limits q.to < depth_of t limits (above_edge t limits e)) → q.to ≢ y
      other q (inl p) = lower q.to y (rw p fall)
      other q (inr p) = lower q.to y (omega (arith, fall))

      ups : Each (λ q. q.to ≢ y) (up_steps t limits n c)
      ups = each_map (λ q k. lower q.to y (omega arith)) (up_steps t limits n c) (rises_depth x (up_steps t limits n c) v (up_rises t limits n c))

      downs : Each (λ q. q.to ≢ y) (down_steps t limits n c)
      downs = each_map other (down_steps t limits n c) (falls_depth v (down_steps t limits n c) (above_edge t limits e) (down_falls t limits n c))

  -- one step of the climb, where it goes on from any two vertices of one component with less depth
  climb_next : (x y : ℕ) → x < n → y < n → component g x y ≡ true
      → ((x' y' : ℕ) → x' < n → y' < n → component g x' y' ≡ true
      → depth_of t limits x' + depth_of t limits y' < depth_of t limits x + depth_of t limits y → (v : ℕ) × Climb t limits n x' y' v)
      → (v : ℕ) × Climb t limits n x y v
  unfolding component
  climb_next x y h l j on = sides (true_or_false (eqb x y))
    where
      hangs : (z e : ℕ) → z < n → up_of t limits z ≡ suc e → Hung t limits n e z (above_edge t limits e)
      hangs z e k p = record { known = k; is_up = p; above_is = refl }

      from_left : x ≢ y → depth_of t limits y ≤ depth_of t limits x → (u : ℕ) → up_of t limits x ≡ u → (v : ℕ) × Climb t limits n x y v
      from_left d b zero p = absurd (omega (arith, root_least t limits n m g w x y l p j (λ q. d (sym q))))
      from_left d b (suc e) p =
          let c = on (above_edge t limits e) y (above_known t limits n m g w x e h p) l
          (joined_trans g nothing _ x y (joined_sym g nothing x _ (hung_component e x _ (hangs x e h p))) j)
          (omega (arith, hung_depth e x _ (hangs x e h p))) in
          (c.0, left e d b (hangs x e h p) c.1)

      from_right : depth_of t limits x < depth_of t limits y → (u : ℕ) → up_of t limits y ≡ u → (v : ℕ) × Climb t limits n x y v
      from_right b zero p = absurd (omega (arith, root_least t limits n m g w y x h p (joined_sym g nothing x y j) (lower x y b)))
      from_right b (suc e) p =
          let c = on x (above_edge t limits e) h (above_known t limits n m g w y e l p)
          (joined_trans g nothing x y _ j (hung_component e y _ (hangs y e l p)))
          (omega (arith, hung_depth e y _ (hangs y e l p))) in
          (c.0, right e b (hangs y e l p) c.1)

      deeper : x ≢ y → (ltb (depth_of t limits x) (depth_of t limits y) ≡ true) ⊎ (ltb (depth_of t limits x) (depth_of t limits y) ≡ false)
          → (v : ℕ) × Climb t limits n x y v
      deeper d (inl b) = from_right (ltb_lt _ _ b) (up_of t limits y) refl
      deeper d (inr b) = from_left d (ltb_ge _ _ b) (up_of t limits x) refl

      sides : (eqb x y ≡ true) ⊎ (eqb x y ≡ false) → (v : ℕ) × Climb t limits n x y v
      sides (inl e) = (x, rw (← eqb_eq x y e) met)
      sides (inr e) = deeper (eqb_ne x y e) (true_or_false (ltb (depth_of t limits x) (depth_of t limits y)))

  climb_within : (k x y : ℕ) → x < n → y < n → component g x y ≡ true → depth_of t limits x + depth_of t limits y ≤ k
      → (v : ℕ) × Climb t limits n x y v
  climb_within zero x y h l j b = climb_next x y h l j (λ x' y' h' l' j' b'. absurd (omega arith))
  climb_within (suc k) x y h l j b = climb_next x y h l j (λ x' y' h' l' j' b'. climb_within k x' y' h' l' j' (omega arith))

  -- from two vertices of one component there is a climb
  pub climb_exists : (x y : ℕ) → x < n → y < n → component g x y ≡ true → (v : ℕ) × Climb t limits n x y v
  climb_exists x y h l j = climb_within (depth_of t limits x + depth_of t limits y) x y h l j (omega arith)
