-- The vertex where a climb meets: every block of the path hangs below it, directly or through the path's other blocks.
use Rattle.std.proofs.Common.{◌≡◌, ℕ, suc, ◌≤◌, true, ◌⊎◌, List, [], ◌∷◌, ◌++◌, refl, ap, ◌∙◌, inl, inr, arith}
use mathlib.Core.List.Memᴰ
use mathlib.Core.List.{Memᴰ}
use Rattle.graph.specs.Network.{Network}
use Rattle.graph.specs.Cycle.{Step}
use Rattle.graph.specs.Block.{block}
use Rattle.graph.proofs.Block.{block_refl, block_sym}
use Rattle.numbers.specs.declared.Limits.{Limits}
use Rattle.forest.specs.Inside.Climb.{up_of, depth_of, above_edge}
use Rattle.forest.proofs.Roots.{BlockForest}
use Rattle.forest.proofs.ClimbLists.{Each, each_append, each_first}
use Rattle.forest.proofs.ClimbWays.{Hung, Rises, Falls, hung_depth}

-- The edge is in the block of one of the steps.
pub record InBlocks (g : Network) (path : List Step) (e : ℕ) : Type 0 where
  pub step : Step
  pub member : Memᴰ step path
  pub in_block : block g step.along e ≡ true

-- The vertex hangs below an edge in the block of one of the steps.
pub record Hooked (t : List ℕ) (limits : Limits) (g : Network) (path : List Step) (x : ℕ) : Type 0 where
  pub by : ℕ
  pub is_up : up_of t limits x ≡ suc by
  pub within : InBlocks g path by

-- The vertex is v or hangs below one of the steps' blocks, and has no less depth than v.
pub record Under (t : List ℕ) (limits : Limits) (g : Network) (path : List Step) (v x : ℕ) : Type 0 where
  pub below : (x ≡ v) ⊎ Hooked t limits g path x
  pub deep : depth_of t limits v ≤ depth_of t limits x

-- One of the steps goes through a block right below v.
pub record Reaches (t : List ℕ) (limits : Limits) (path : List Step) (v : ℕ) : Type 0 where
  pub step : Step
  pub member : Memᴰ step path
  pub above_is : above_edge t limits step.along ≡ v

-- The path from x to y lies below v.
pub record Topped (t : List ℕ) (limits : Limits) (g : Network) (path : List Step) (x y v : ℕ) : Type 0 where
  pub start : Under t limits g path v x
  pub stop : Under t limits g path v y
  pub each : Each (λ p. Under t limits g path v (above_edge t limits p.along)) path
  pub reached : (path ≡ []) ⊎ Reaches t limits path v

each_member : (P : Step → Type 0) (ps : List Step) → ((p : Step) → Memᴰ p ps → P p) → Each P ps
each_member P [] f = tt
each_member P (p ∷ ps) f = (f p (Memᴰ.head refl), each_member P ps (λ q k. f q (Memᴰ.tail k)))

-- the steps of a part of the path are in blocks of the path
part_in : (g : Network) (path ps : List Step) → ((p : Step) → Memᴰ p ps → Memᴰ p path) → Each (λ p. InBlocks g path p.along) ps
part_in g path ps f =
    each_member (λ p. InBlocks g path p.along) ps (λ p k. record { step = p; member = f p k; in_block = block_refl g p.along })

module _ (t : List ℕ) (limits : Limits) (n m : ℕ) (g : Network) (w : BlockForest t limits n m g) (path : List Step) (v : ℕ) where
  under_top : (x : ℕ) → x ≡ v → Under t limits g path v x
  under_top x e = record { below = inl e; deep = rw e (omega arith) }

  under_hung : (e x u : ℕ) → Hung t limits n e x u → InBlocks g path e → Under t limits g path v u → Under t limits g path v x
  under_hung e x u h i k =
      record {
        below = inr (record { by = e; is_up = h.is_up; within = i });
        deep = omega (arith, hung_depth t limits n m g w e x u h, k.deep);
      }

  rises_under : (x : ℕ) (ps : List Step) → Rises t limits n x ps v → Each (λ p. InBlocks g path p.along) ps
      → Under t limits g path v x × Each (λ p. Under t limits g path v (above_edge t limits p.along)) ps
  rises_under x [] r i = (under_top x r, tt)
  rises_under x (p ∷ ps) r i =
      let k = rises_under p.to ps r.1 i.1 in
      (under_hung p.along x p.to r.0 i.0 k.0, (rw r.0.above_is k.0, k.1))

  falls_under : (u : ℕ) (ps : List Step) (y : ℕ) → Falls t limits n u ps y → Under t limits g path v u
      → Each (λ p. InBlocks g path p.along) ps
      → Under t limits g path v y × Each (λ p. Under t limits g path v (above_edge t limits p.along)) ps
  falls_under u [] y f k i = (rw f at k, tt)
  falls_under u (p ∷ ps) y f k i =
      let l = falls_under p.to ps y f.1 (under_hung p.along p.to u f.0 i.0 k) i.1 in
      (l.0, (rw f.0.above_is k, l.1))

  rises_reach_some : (x : ℕ) (p : Step) (ps : List Step) → Rises t limits n x (p ∷ ps) v
      → ((q : Step) → Memᴰ q (p ∷ ps) → Memᴰ q path) → Reaches t limits path v
  rises_reach_some x p [] r f = record { step = p; member = f p (Memᴰ.head refl); above_is = r.0.above_is ∙ r.1 }
  rises_reach_some x p (q ∷ ps) r f = rises_reach_some p.to q ps r.1 (λ s k. f s (Memᴰ.tail k))

  rises_reach : (x : ℕ) (ps : List Step) → Rises t limits n x ps v → ((p : Step) → Memᴰ p ps → Memᴰ p path)
      → (ps ≡ []) ⊎ Reaches t limits path v
  rises_reach x [] r f = inl refl
  rises_reach x (p ∷ ps) r f = inr (rises_reach_some x p ps r f)

  falls_reach : (ps : List Step) (y : ℕ) → Falls t limits n v ps y → ((p : Step) → Memᴰ p ps → Memᴰ p path)
      → (ps ≡ []) ⊎ Reaches t limits path v
  falls_reach [] y r f = inl refl
  falls_reach (p ∷ ps) y r f = inr (record { step = p; member = f p (Memᴰ.head refl); above_is = r.0.above_is })

module _ (t : List ℕ) (limits : Limits) (n m : ℕ) (g : Network) (w : BlockForest t limits n m g) where
  -- steps up to v and down from it lie below v
  pub up_and_down_topped : (x : ℕ) (ps : List Step) (v : ℕ) (qs : List Step) (y : ℕ) → Rises t limits n x ps v → Falls t limits n v qs y
      → Topped t limits g (ps ++ qs) x y v
  up_and_down_topped x ps v qs y r f =
      record {
        start = up.0;
        stop = down.0;
        each = each_append (λ p. Under t limits g path v (above_edge t limits p.along)) ps qs up.1 down.1;
        reached = first (rises_reach t limits n m g w path v x ps r (λ p. Memᴰ.append_left qs));
      }
    where
      path : List Step
      path = ps ++ qs

      up : Under t limits g path v x × Each (λ p. Under t limits g path v (above_edge t limits p.along)) ps
      up = rises_under t limits n m g w path v x ps r (part_in g path ps (λ p. Memᴰ.append_left qs))

      down : Under t limits g path v y × Each (λ p. Under t limits g path v (above_edge t limits p.along)) qs
      down =
          falls_under t limits n m g w path v v qs y f (under_top t limits n m g w path v v refl)
          (part_in g path qs (λ p. Memᴰ.append_right ps))

      second : ps ≡ [] → (qs ≡ []) ⊎ Reaches t limits path v → (path ≡ []) ⊎ Reaches t limits path v
      second e (inl d) = inl (ap (λ l. l ++ qs) e ∙ d)
      second e (inr k) = inr k

      first : (ps ≡ []) ⊎ Reaches t limits path v → (path ≡ []) ⊎ Reaches t limits path v
      first (inl e) = second e (falls_reach t limits n m g w path v qs y f (λ p. Memᴰ.append_right ps))
      first (inr k) = inr k

  -- and so they do without the last step up, where it is in the block of the first step down
  pub up_across_down_topped : (x : ℕ) (ps : List Step) (p : Step) (v : ℕ) (q : Step) (qs : List Step) (y : ℕ)
      → Rises t limits n x (ps ++ p ∷ []) v → Falls t limits n v (q ∷ qs) y → block g p.along q.along ≡ true
      → Topped t limits g (ps ++ q ∷ qs) x y v
  up_across_down_topped x ps p v q qs y r f b =
      record {
        start = up.0;
        stop = down.0;
        each =
            each_append (λ s. Under t limits g path v (above_edge t limits s.along)) ps (q ∷ qs)
            (each_first (λ s. Under t limits g path v (above_edge t limits s.along)) ps (p ∷ []) up.1) down.1;
        reached = inr (record { step = q; member = at_q; above_is = f.0.above_is });
      }
    where
      path : List Step
      path = ps ++ q ∷ qs

      at_q : Memᴰ q path
      at_q = Memᴰ.append_right ps (Memᴰ.head refl)

      ins : Each (λ s. InBlocks g path s.along) (ps ++ p ∷ [])
      ins =
          each_append (λ s. InBlocks g path s.along) ps (p ∷ []) (part_in g path ps (λ s. Memᴰ.append_left (q ∷ qs)))
          (record { step = q; member = at_q; in_block = block_sym g _ _ b }, tt)

      up : Under t limits g path v x × Each (λ s. Under t limits g path v (above_edge t limits s.along)) (ps ++ p ∷ [])
      up = rises_under t limits n m g w path v x (ps ++ p ∷ []) r ins

      down : Under t limits g path v y × Each (λ s. Under t limits g path v (above_edge t limits s.along)) (q ∷ qs)
      down =
          falls_under t limits n m g w path v v (q ∷ qs) y f (under_top t limits n m g w path v v refl)
          (part_in g path (q ∷ qs) (λ s. Memᴰ.append_right ps))
