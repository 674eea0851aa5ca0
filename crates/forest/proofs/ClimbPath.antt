-- A way up and a way down the block forest make a block path.
use Rattle.std.proofs.Common.{◌≡◌, ℕ, ◌<◌, true, false, List, [], ◌∷◌, ◌++◌, sym, refl, ap, ◌∙◌, append_assoc, arith}
use Rattle.graph.specs.Network.{Network}
use Rattle.graph.specs.Cycle.{Step}
use Rattle.graph.specs.Block.{block}
use Rattle.graph.specs.BlockPath.{BlockPath}
use Rattle.graph.proofs.Truth.{false_of_not, not_both}
use Rattle.graph.proofs.Block.{block_sym, block_trans, block_swap}
use Rattle.graph.proofs.BlockVertices.{on_same_block}
use Rattle.numbers.specs.declared.Limits.{Limits}
use Rattle.forest.specs.Inside.Climb.{depth_of}
use Rattle.forest.proofs.Roots.{BlockForest}
use Rattle.forest.proofs.ClimbLists.{Each, Fresh, fresh_less, Within, Leads, leads-append, Differ, Apart, differ_append, block_path}
use Rattle.forest.proofs.ClimbWays.{Hung, Rises, Falls, hung_depth, hung_above, hung_edge, hung_low, hung_high}
use Rattle.forest.proofs.KindWords.{one_above}

-- a last step and a first step through different blocks
pub apart_last : (g : Network) (ps : List Step) (p q : Step) (qs : List Step) → block g p.along q.along ≡ false
    → Apart g (ps ++ p ∷ []) (q ∷ qs)
apart_last g [] p q qs e = e
apart_last g (r ∷ []) p q qs e = e
apart_last g (r ∷ s ∷ ps) p q qs e = apart_last g (s ∷ ps) p q qs e

-- behind the last step there is none
pub apart_none : (g : Network) (ps : List Step) → Apart g ps []
apart_none g [] = tt
apart_none g (p ∷ []) = tt
apart_none g (p ∷ q ∷ ps) = apart_none g (q ∷ ps)

-- The step's edge and vertex are those of a network with n vertices and m edges.
pub record Known (n m : ℕ) (p : Step) : Type 0 where
  pub along_known : p.along < m
  pub to_known : p.to < n

-- The steps up but for the last, to the vertex before it, and the last.
pub record RisesLast (t : List ℕ) (limits : Limits) (n x : ℕ) (ps : List Step) (p : Step) (v : ℕ) : Type 0 where
  pub before : ℕ
  pub rises : Rises t limits n x ps before
  pub last : Hung t limits n p.along before v

-- steps up with a last one are those before it and the last
pub rises_last : (t : List ℕ) (limits : Limits) (n x : ℕ) (ps : List Step) (p : Step) (v : ℕ)
    → Rises t limits n x (ps ++ p ∷ []) v → RisesLast t limits n x ps p v
rises_last t limits n x [] p v r = record { before = x; rises = refl; last = rw r.1 at r.0 }
rises_last t limits n x (q ∷ ps) p v r =
    let l = rises_last t limits n q.to ps p v r.1 in
    record { before = l.before; rises = (r.0, l.rises); last = l.last }

module _ (t : List ℕ) (limits : Limits) (n m : ℕ) (g : Network) (w : BlockForest t limits n m g) where
  -- steps up lead, each within one block
  rises_leads : (x : ℕ) (ps : List Step) (v : ℕ) → Rises t limits n x ps v → Leads g x ps v
  rises_leads x [] v r = r
  rises_leads x (p ∷ ps) v r = (
    record {
      known = rw w.counted (hung_edge t limits n m g w _ _ _ r.0);
      from = hung_low t limits n m g w _ _ _ r.0;
      to = hung_high t limits n m g w _ _ _ r.0;
    },
    rises_leads p.to ps v r.1,
  )

  -- steps down lead, each within one block
  falls_leads : (v : ℕ) (ps : List Step) (y : ℕ) → Falls t limits n v ps y → Leads g v ps y
  falls_leads v [] y f = f
  falls_leads v (p ∷ ps) y f = (
    record {
      known = rw w.counted (hung_edge t limits n m g w _ _ _ f.0);
      from = hung_high t limits n m g w _ _ _ f.0;
      to = hung_low t limits n m g w _ _ _ f.0;
    },
    falls_leads p.to ps y f.1,
  )

  -- steps up and down go along edges of the network to its vertices
  pub rises_known : (x : ℕ) (ps : List Step) (v : ℕ) → Rises t limits n x ps v → Each (Known n m) ps
  rises_known x [] v r = tt
  rises_known x (p ∷ ps) v r = (
    record { along_known = hung_edge t limits n m g w _ _ _ r.0; to_known = hung_above t limits n m g w _ _ _ r.0 },
    rises_known p.to ps v r.1,
  )

  pub falls_known : (v : ℕ) (ps : List Step) (y : ℕ) → Falls t limits n v ps y → Each (Known n m) ps
  falls_known v [] y f = tt
  falls_known v (p ∷ ps) y f = (
    record { along_known = hung_edge t limits n m g w _ _ _ f.0; to_known = f.0.known },
    falls_known p.to ps y f.1,
  )

  -- steps up from a vertex of the network lead to one
  pub rises_top : (x : ℕ) (ps : List Step) (v : ℕ) → x < n → Rises t limits n x ps v → v < n
  rises_top x [] v h r = rw r at h
  rises_top x (p ∷ ps) v h r = rises_top p.to ps v (hung_above t limits n m g w _ _ _ r.0) r.1

  -- the block below a vertex and the block above it are two
  hung_differ : (e f x u v : ℕ) → Hung t limits n e x u → Hung t limits n f u v → block g e f ≡ false
  hung_differ e f x u v h k = false_of_not (block g e f) (λ b. omega (arith, hung_depth t limits n m g w f u v k, ap (depth_of t limits) (same b)))
    where
      same : block g e f ≡ true → u ≡ v
      same b =
          sym h.above_is
          ∙ one_above t limits m g w.blocks e f (hung_edge t limits n m g w e x u h) (hung_edge t limits n m g w f u v k) b
          ∙ k.above_is

  rises_differ : (x : ℕ) (ps : List Step) (v : ℕ) → Rises t limits n x ps v → Differ g ps
  rises_differ x [] v r = tt
  rises_differ x (p ∷ []) v r = tt
  rises_differ x (p ∷ q ∷ ps) v r =
      (hung_differ _ _ _ _ _ r.0 r.1.0, rises_differ p.to (q ∷ ps) v r.1)

  falls_differ : (v : ℕ) (ps : List Step) (y : ℕ) → Falls t limits n v ps y → Differ g ps
  falls_differ v [] y f = tt
  falls_differ v (p ∷ []) y f = tt
  falls_differ v (p ∷ q ∷ ps) y f =
      (block_swap g _ _ ∙ hung_differ _ _ _ _ _ f.1.0 f.0, falls_differ p.to (q ∷ ps) y f.1)

  -- steps up to u, and a block that is above u
  rises_apart : (x : ℕ) (ps : List Step) (u e v : ℕ) (q : Step) (qs : List Step) → Rises t limits n x ps u → Hung t limits n e u v
      → block g e q.along ≡ true → Apart g ps (q ∷ qs)
  rises_apart x [] u e v q qs r h b = tt
  rises_apart x (p ∷ []) u e v q qs r h b =
      false_of_not (block g p.along q.along) (λ c. not_both (block_trans g _ _ _ c (block_sym g _ _ b)) (hung_differ p.along e x u v (rw r.1 at r.0) h))
  rises_apart x (p ∷ s ∷ ps) u e v q qs r h b = rises_apart p.to (s ∷ ps) u e v q qs r.1 h b

  -- steps up and then down, through different blocks at the top, are a block path
  pub up_and_down : (x : ℕ) (ps : List Step) (v : ℕ) (qs : List Step) (y : ℕ) → Rises t limits n x ps v → Falls t limits n v qs y
      → Fresh x (ps ++ qs) → Apart g ps qs → BlockPath g x (ps ++ qs) y
  up_and_down x ps v qs y r f d a =
      block_path g x (ps ++ qs) y
      (leads-append g x ps v qs y (rises_leads x ps v r) (falls_leads v qs y f)) d
      (differ_append g ps qs (rises_differ x ps v r) (falls_differ v qs y f) a)

  -- where the steps up and the steps down have one block at the top, the last step up is dropped
  pub up_across_down : (x : ℕ) (ps : List Step) (p : Step) (v : ℕ) (q : Step) (qs : List Step) (y : ℕ)
      → Rises t limits n x (ps ++ p ∷ []) v → Falls t limits n v (q ∷ qs) y → Fresh x ((ps ++ p ∷ []) ++ q ∷ qs)
      → block g p.along q.along ≡ true → BlockPath g x (ps ++ q ∷ qs) y
  up_across_down x ps p v q qs y r f d b =
      block_path g x (ps ++ q ∷ qs) y
      (leads-append g x ps u (q ∷ qs) y (rises_leads x ps u l.rises) (across, falls_leads q.to qs y f.1))
      (fresh_less x ps p (q ∷ qs) (rw (append_assoc ps (p ∷ []) (q ∷ qs)) at d))
      (differ_append g ps (q ∷ qs) (rises_differ x ps u l.rises) (falls_differ v (q ∷ qs) y f)
      (rises_apart x ps u p.along v q qs l.rises l.last b))
    where
      l : RisesLast t limits n x ps p v
      l = rises_last t limits n x ps p v r

      u : ℕ
      u = l.before

      across : Within g u q
      across =
          record {
            known = rw w.counted (hung_edge t limits n m g w _ _ _ f.0);
            from = sym (on_same_block g p.along q.along u b) ∙ hung_low t limits n m g w _ _ _ l.last;
            to = hung_low t limits n m g w _ _ _ f.0;
          }
