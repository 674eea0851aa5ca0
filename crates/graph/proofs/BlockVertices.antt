-- Blocks and vertices: a block joins its vertices within itself and outlives the loss of any third vertex, two blocks that meet
-- at a vertex part there, and two vertices share one block at most.
use mathlib.Core.Bool.{Bool, true, false, not, ◌&&◌}
use mathlib.Core.Logic.{◌⊎◌, inl, inr, Equivalence}
use mathlib.Core.Path.{◌≡◌, refl, sym, ◌∙◌}
use Prim.Native.Nat.{ℕ, ◌<◌}
use lib.Dec.{eqb}
use Rattle.graph.specs.Network.{Network, edge, edge_count, touches, other_end, without, joined, Proper}
use Rattle.graph.specs.Block.{block, link, on_block}
use Rattle.graph.proofs.Truth.{true_or_false, not_both, false_of_not, bool_ext, not_of_true, and_left, and_right, and_both, eqb_eq, eqb_swap}
use Rattle.graph.proofs.Below.{any_below_lem, some_below, Below}
use Rattle.graph.proofs.Joined.{joined_refl, joined_sym, joined_trans}
use Rattle.graph.proofs.Block.{block_refl, block_sym, block_trans, link-block, block_least}
use Rattle.graph.proofs.Ends.{touches_left, other_end-touches, other_end_differs, ends-joined, ends-joined-without, LinkedAt, at_link, link_at_lem}

-- an edge of the block of s that touches x
pub record OnBlock (g : Network) (s x : ℕ) : Type 0 where
  pub by : ℕ
  pub known : by < edge_count g
  pub within : block g s by ≡ true
  pub at : touches (edge g by) x ≡ true

-- a vertex on the block of s has an edge of that block
pub on_block_lem : (g : Network) (s x : ℕ) → on_block g s x ≡ true → OnBlock g s x
unfolding on_block
on_block_lem g s x e = go (some_below (edge_count g) (λ t. block g s t && touches (edge g t) x) e)
  where
    go : Below (edge_count g) (λ t. block g s t && touches (edge g t) x) → OnBlock g s x
    go b =
        record {
          by = b.at;
          known = b.below;
          within = and_left (block g s b.at) (touches (edge g b.at) x) b.passes;
          at = and_right (block g s b.at) (touches (edge g b.at) x) b.passes;
        }

-- an end of an edge is on the block of every edge that shares its block
pub block_on : (g : Network) (s t x : ℕ) → t < edge_count g → block g s t ≡ true → touches (edge g t) x ≡ true
    → on_block g s x ≡ true
unfolding on_block
block_on g s t x h b e = any_below_lem (edge_count g) (λ u. block g s u && touches (edge g u) x) t h (and_both b e)

-- an end of an edge is on its block
pub end_on_block : (g : Network) (s x : ℕ) → s < edge_count g → touches (edge g s) x ≡ true → on_block g s x ≡ true
end_on_block g s x h e = block_on g s s x h (block_refl g s) e

-- edges of one block have the same vertices on it
pub on_same_block : (g : Network) (s t x : ℕ) → block g s t ≡ true → on_block g s x ≡ on_block g t x
on_same_block g s t x e = bool_ext (on_block g s x) (on_block g t x) (over s t (block_sym g s t e)) (over t s e)
  where
    over : (s t : ℕ) → block g t s ≡ true → on_block g s x ≡ true → on_block g t x ≡ true
    over s t b o = let r = on_block_lem g s x o in block_on g t r.by x r.known (block_trans g t s r.by b r.within) r.at

-- within the block of s: every other edge is lost
abbrev outside : Network → ℕ → ℕ → Bool
outside g s t = not (block g s t)

-- two edges lie both within the block of s, their left ends joined in it, or both outside
record Inside (g : Network) (s t u : ℕ) : Type 0 where
  alike : block g s t ≡ block g s u
  joins : block g s t ≡ true → joined g (outside g s) (edge g t).left (edge g u).left ≡ true

inside_equivalence : (g : Network) (s : ℕ) → Equivalence (Inside g s)
inside_equivalence g s =
    record {
      refl = λ t. record { alike = refl; joins = λ e. joined_refl g (outside g s) (edge g t).left };
      symm = λ t u p.
          record {
            alike = sym p.alike;
            joins = λ e. joined_sym g (outside g s) (edge g t).left (edge g u).left (p.joins (p.alike ∙ e));
          };
      trans = λ t u v p q.
          record {
            alike = p.alike ∙ q.alike;
            joins = λ e.
                joined_trans g _ _ _ _ (p.joins e) (q.joins (sym p.alike ∙ e));
          };
    }

link-inside : (g : Network) (s t u : ℕ) → t < edge_count g → u < edge_count g → link g t u ≡ true → Inside g s t u
link-inside g s t u h k e = go (link_at_lem g t u e)
  where
    tu : block g t u ≡ true
    tu = link-block g t u h k e

    to_left : (v c : ℕ) → v < edge_count g → block g s v ≡ true → touches (edge g v) c ≡ true
        → joined g (outside g s) c (edge g v).left ≡ true
    to_left v c l b w =
        ends-joined g (outside g s) v c (edge g v).left l (not_of_true b) w (touches_left (edge g v))

    go : ((c : ℕ) × LinkedAt g c t u) → Inside g s t u
    go (c, l) =
        record {
          alike =
              bool_ext
              (block g s t)
              (block g s u)
              (λ b. block_trans g s t u b tu)
              (λ b. block_trans g s u t b (block_sym g t u tu));
          joins = λ b.
              joined_trans g _ _ c _
              (joined_sym g _ _ _ (to_left t c h b l.first))
              (to_left u c k (block_trans g s t u b tu) l.second);
        }

-- two vertices of a block are joined by edges of that block
pub block_vertices_joined_within : (g : Network) (s x y : ℕ) → on_block g s x ≡ true → on_block g s y ≡ true
    → joined g (λ t. not (block g s t)) x y ≡ true
block_vertices_joined_within g s x y e f =
    joined_trans g _ _ _ _ (to_left x (on_block_lem g s x e)) (joined_sym g _ _ _ (to_left y (on_block_lem g s y f)))
  where
    to_left : (z : ℕ) → OnBlock g s z → joined g (outside g s) z (edge g s).left ≡ true
    to_left z o =
        joined_trans g _ _ _ _
        (ends-joined g (outside g s) o.by z _ o.known (not_of_true o.within) o.at (touches_left (edge g o.by)))
        (joined_sym g _ _ _
        ((block_least (Inside g s) (inside_equivalence g s) g (link-inside g s) s o.by o.within).joins (block_refl g s)))

-- without c, an edge joins any other of its ends to its end away from c
to_other_end : (g : Network) → Proper g → (c s x : ℕ) → s < edge_count g → eqb c x ≡ false → touches (edge g s) x ≡ true
    → joined g (without g c) x (other_end (edge g s) c) ≡ true
to_other_end g p c s x h n t =
    ends-joined-without g c s x _ h n
    (eqb_swap c _ ∙ other_end_differs (edge g s) c (p.no_loop s h)) t (other_end-touches (edge g s) c)

-- the ends away from c of two edges of one block are joined without c
other_ends_joined : (g : Network) → Proper g → (c s t : ℕ) → block g s t ≡ true
    → joined g (without g c) (other_end (edge g s) c) (other_end (edge g t) c) ≡ true
other_ends_joined g p c =
    block_least
    (λ s t. joined g (without g c) (other_end (edge g s) c) (other_end (edge g t) c) ≡ true)
    (record { refl = λ s. joined_refl g _ _; symm = λ s t. joined_sym g _ _ _; trans = λ s t u. joined_trans g _ _ _ _ })
    g
    (λ s t h k e. let (d, l) = link_at_lem g s t e in go s t h k d l (true_or_false (eqb c d)))
  where
    go : (s t : ℕ) → s < edge_count g → t < edge_count g → (d : ℕ) → LinkedAt g d s t → (eqb c d ≡ true) ⊎ (eqb c d ≡ false)
        → joined g (without g c) (other_end (edge g s) c) (other_end (edge g t) c) ≡ true
    go s t h k d l (inl q) = rw (eqb_eq c d q) l.others
    go s t h k d l (inr n) =
        joined_trans g _ _ d _
        (joined_sym g _ _ _ (to_other_end g p c s d h n l.first))
        (to_other_end g p c t d k n l.second)

-- two vertices of a block are joined without any third vertex c
pub block_outlives_vertex : (g : Network) → Proper g → (s c x y : ℕ) → on_block g s x ≡ true → on_block g s y ≡ true
    → eqb c x ≡ false → eqb c y ≡ false → joined g (without g c) x y ≡ true
block_outlives_vertex g p s c x y e f d k =
    joined_trans g _ _ _ _ (to_own_end x d (on_block_lem g s x e)) (joined_sym g _ _ _ (to_own_end y k (on_block_lem g s y f)))
  where
    to_own_end : (z : ℕ) → eqb c z ≡ false → OnBlock g s z → joined g (without g c) z (other_end (edge g s) c) ≡ true
    to_own_end z n o =
        joined_trans g _ _ _ _
        (to_other_end g p c o.by z o.known n o.at)
        (joined_sym g _ _ _ (other_ends_joined g p c s o.by o.within))

-- two blocks at c, with a vertex of the one joined without c to a vertex of the other, are one
pub blocks_meet : (g : Network) → Proper g → (s t c x y : ℕ)
    → on_block g s c ≡ true → on_block g t c ≡ true → on_block g s x ≡ true → on_block g t y ≡ true
    → eqb x c ≡ false → eqb y c ≡ false → joined g (without g c) x y ≡ true → block g s t ≡ true
blocks_meet g p s t c x y sc tc sx ty x_c y_c j = go (on_block_lem g s c sc) (on_block_lem g t c tc)
  where
    away : (u z : ℕ) → (o : OnBlock g u c) → on_block g u z ≡ true → eqb z c ≡ false
        → joined g (without g c) (other_end (edge g o.by) c) z ≡ true
    away u z o uz z_c =
        block_outlives_vertex g p u c _ z
        (block_on g u o.by _ o.known o.within (other_end-touches (edge g o.by) c)) uz
        (eqb_swap c _ ∙ other_end_differs (edge g o.by) c (p.no_loop o.by o.known)) (eqb_swap c z ∙ z_c)

    go : OnBlock g s c → OnBlock g t c → block g s t ≡ true
    go o q =
        block_trans g s o.by t o.within
        (block_trans g o.by q.by t
        (link-block g o.by q.by o.known q.known
        (at_link g c o.by q.by
        (record {
          first = o.at;
          second = q.at;
          others = joined_trans g _ _ x _ (away s x o sx x_c) (joined_trans g _ _ y _ j (joined_sym g _ _ _ (away t y q ty y_c)));
        })))
        (block_sym g t q.by q.within))

-- where two different blocks meet at c, a vertex of the one and a vertex of the other are not joined without c
pub blocks_part_at_vertex : (g : Network) → Proper g → (s t c x y : ℕ) → block g s t ≡ false
    → on_block g s c ≡ true → on_block g t c ≡ true → on_block g s x ≡ true → on_block g t y ≡ true
    → eqb x c ≡ false → eqb y c ≡ false → joined g (without g c) x y ≡ false
blocks_part_at_vertex g p s t c x y d sc tc sx ty x_c y_c =
    false_of_not (joined g (without g c) x y) (λ j. not_both (blocks_meet g p s t c x y sc tc sx ty x_c y_c j) d)

-- two different vertices share at most one block
pub share_at_most_one_block : (g : Network) → Proper g → (s t a b : ℕ) → eqb a b ≡ false
    → on_block g s a ≡ true → on_block g s b ≡ true → on_block g t a ≡ true → on_block g t b ≡ true → block g s t ≡ true
share_at_most_one_block g p s t a b d sa sb ta tb =
    blocks_meet g p s t a b b sa ta sb tb (eqb_swap b a ∙ d) (eqb_swap b a ∙ d) (joined_refl g (without g a) b)
