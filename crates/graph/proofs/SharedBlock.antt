-- The block that two vertices share, as it is computed: the least edge at the first vertex whose block has the second.
use mathlib.Core.Bool.{true, false, ◌&&◌}
use mathlib.Core.Option.{Option, none, some}
use mathlib.Core.Path.{◌≡◌, refl, sym, ◌∙◌, subst}
use Prim.Native.Nat.{ℕ, ◌<◌}
use lib.Dec.{eqb}
use Rattle.graph.specs.Network.{Network, edge, edge_count, touches, Proper}
use Rattle.graph.specs.Block.{block, at_both, shared_block, on_block}
use Rattle.graph.proofs.Truth.{not_both, false_of_not, and_left, and_right, and_both}
use Rattle.graph.proofs.Below.{Least, found, missing, least_below_lem}
use Rattle.graph.proofs.BlockVertices.{OnBlock, on_block_lem, end_on_block, on_same_block, share_at_most_one_block}

-- an edge of the shared block: at the first vertex, and with the second on its block
at_both_lem : (g : Network) (a b s : ℕ) → at_both g a b s ≡ (touches (edge g s) a && on_block g s b)
unfolding at_both
at_both_lem g a b s = refl

-- an edge at the first vertex, with both vertices on its block
pub record Shared (g : Network) (a b s : ℕ) : Type 0 where
  pub known : s < edge_count g
  pub at_first : touches (edge g s) a ≡ true
  pub on_first : on_block g s a ≡ true
  pub on_second : on_block g s b ≡ true

-- what a shared block that is found is
pub shared_block_some : (g : Network) (a b s : ℕ) → shared_block g a b ≡ some s → Shared g a b s
unfolding shared_block
shared_block_some g a b s e = go (subst (Least (edge_count g) (at_both g a b)) e (least_below_lem (edge_count g) (at_both g a b)))
  where
    both : at_both g a b s ≡ true → (touches (edge g s) a && on_block g s b) ≡ true
    both t = sym (at_both_lem g a b s) ∙ t

    go : Least (edge_count g) (at_both g a b) (some s) → Shared g a b s
    go (found k h t l) =
        record {
          known = h;
          at_first = and_left (touches (edge g s) a) (on_block g s b) (both t);
          on_first = end_on_block g s a h (and_left (touches (edge g s) a) (on_block g s b) (both t));
          on_second = and_right (touches (edge g s) a) (on_block g s b) (both t);
        }

-- where none is found, no block has both vertices on it
pub shared_block_none : (g : Network) (a b : ℕ) → shared_block g a b ≡ none
    → (s : ℕ) → on_block g s a ≡ true → on_block g s b ≡ false
unfolding shared_block
shared_block_none g a b e s o =
    go (subst (Least (edge_count g) (at_both g a b)) e (least_below_lem (edge_count g) (at_both g a b))) (on_block_lem g s a o)
  where
    go : Least (edge_count g) (at_both g a b) none → OnBlock g s a → on_block g s b ≡ false
    go (missing f) r =
        false_of_not (on_block g s b)
        (λ k.
        not_both
        (at_both_lem g a b r.by ∙ and_both r.at (sym (on_same_block g s r.by b r.within) ∙ k))
        (f r.by r.known))

-- where some block has both vertices on it, one is found
pub shared_block_found : (g : Network) (a b s : ℕ) → on_block g s a ≡ true → on_block g s b ≡ true
    → (t : ℕ) × (shared_block g a b ≡ some t)
shared_block_found g a b s e f = go (shared_block g a b) refl
  where
    go : (o : Option ℕ) → shared_block g a b ≡ o → (t : ℕ) × (shared_block g a b ≡ some t)
    go (some t) q = (t, q)
    go none q = absurd (not_both f (shared_block_none g a b q s e))

-- and for two different vertices it is that block
pub shared_block_is : (g : Network) → Proper g → (a b s t : ℕ) → eqb a b ≡ false
    → on_block g s a ≡ true → on_block g s b ≡ true → shared_block g a b ≡ some t → block g s t ≡ true
shared_block_is g p a b s t d e f q =
    let r = shared_block_some g a b t q in
    share_at_most_one_block g p s t a b d e f r.on_first r.on_second

-- where no block has both vertices on it, none is found
pub no_shared_block : (g : Network) (a b : ℕ) → ((s : ℕ) → s < edge_count g → on_block g s a ≡ true → on_block g s b ≡ false)
    → shared_block g a b ≡ none
no_shared_block g a b f = go (shared_block g a b) refl
  where
    go : (o : Option ℕ) → shared_block g a b ≡ o → shared_block g a b ≡ none
    go none q = q
    go (some t) q =
        let r = shared_block_some g a b t q in
        absurd (not_both r.on_second (f t r.known r.on_first))
