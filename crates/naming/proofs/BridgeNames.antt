-- The book names the block of a bridge, which is the bridge and its mates, by the least of them: such a block only ever gains mates, and
-- a new edge's own block never wins.
use mathlib.Core.Bool.{true, false}
use mathlib.Core.List.{List, [], ◌∷◌, ◌++◌}
use mathlib.Core.Logic.{◌⊎◌, inl, inr}
use mathlib.Core.Path.{◌≡◌, sym, ◌∙◌, ap}
use Prim.Native.Nat.{ℕ, suc, ◌≤◌, ◌<◌}
use native.Mathlib.Nat.{not-suc-le-zero}
use native.Mathlib.Omega.{arith}
use lib.Dec.{eqb}
use Rattle.graph.specs.Network.{Network, Edge, Rule, Proper, edge, edge_count, add_vertex, add_edge, mates, loss_of, joined}
use Rattle.graph.specs.Groups.{bridge}
use Rattle.graph.specs.Block.{block}
use Rattle.graph.specs.Between.{least_mate}
use Rattle.graph.specs.Travel.{first_mate}
use Rattle.graph.proofs.Truth.{true_or_false, not_both, false_of_not, not_of_false, eqb_eq, ne_eqb, eqb_ne}
use Rattle.graph.proofs.Below.{below_or_last, any_none}
use Rattle.graph.proofs.Joined.{old_or_new}
use Rattle.graph.proofs.Mates.{mates_sym}
use Rattle.graph.proofs.MateLoss.{mates_old}
use Rattle.graph.proofs.MateEdges.{mates_share_block}
use Rattle.graph.proofs.Block.{block_refl}
use Rattle.graph.proofs.BridgeVertices.{bridge-mates}
use Rattle.graph.proofs.LoneEdge.{lone_edge}
use Rattle.graph.proofs.Travel.{other_first_mate}
use Rattle.graph.proofs.EdgeMoreBridges.{rule_more}
use Rattle.graph.proofs.Grows.{bridge_before_lem, old_below, block_next}
use Rattle.naming.specs.Rename.{name_of, Candidate, candidate, rename}
use Rattle.naming.specs.Book.{Book, empty_book, enter_vertex, enter_edge}
use Rattle.naming.specs.BridgeNames.{BridgesNamed}
use Rattle.naming.proofs.Rename.{InGroup}
use Rattle.naming.proofs.Best.{AtMost, BestOf, at_most_antisym}
use Rattle.naming.proofs.Naming.{Naming, name_of_old, name_of_new, renamed_best, names_after_rename}
use Rattle.naming.proofs.Single.{new_item_loses}
use Rattle.naming.proofs.Book.{BookLaws, block_laws, next_item_named}

-- an empty book has no bridges
pub bridges_named_empty : (rule : Rule) → BridgesNamed (empty_book rule)
unfolding empty_book edge_count
bridges_named_empty rule s h = absurd (not-suc-le-zero h)

-- a vertex more changes no bridge and no block name
pub bridges_named_vertex : (b : Book) → BridgesNamed b → BridgesNamed (enter_vertex b)
unfolding enter_vertex add_vertex edge_count bridge edge loss_of joined mates
bridges_named_vertex b named = named

-- a bridge keeps its block name when an edge is added
module _ (b : Book) (laws : BookLaws b) (e : Edge) (proper : Proper (add_edge b.network e)) (named : BridgesNamed b) where
  abbrev g : Network
  g = b.network

  abbrev m : ℕ
  m = edge_count g

  abbrev names : List ℕ
  names = b.blocks ++ m ∷ []

  -- the blocks before with the new edge's number among the items, alone
  named_before : Naming (suc m) (block g) names
  named_before = (next_item_named block_laws g laws.proper laws.blocks_named).named

  name_old : (s : ℕ) → s < m → name_of names s ≡ name_of b.blocks s
  name_old s h = name_of_old b.blocks m s (rw laws.blocks_named.sized h)

  name_new : name_of names m ≡ m
  name_new = name_of_new b.blocks m m laws.blocks_named.sized

  abbrev Winner : ℕ → Type 0
  Winner s = BestOf (candidate (block g) names) (InGroup (suc m) (block (add_edge g e)) s) (name_of (rename (block g) (block (add_edge g e)) names) s)

  winner : (s : ℕ) → s < suc m → Winner s
  winner s h = renamed_best (suc m) (block g) (block (add_edge g e)) names named_before (block_laws.equivalent g) s h (block_refl (add_edge g e) s)

  -- the new edge's own block does not give the name of an old edge's
  new_never_wins : (s : ℕ) → s < m → (w : Winner s) → w.item ≡ m → ⊥
  unfolding candidate
  new_never_wins s h w q = omega (arith, ap (λ (c : Candidate). c.name) same, name_new, name_old s h, laws.blocks_named.name_below s h)
    where
      loses : AtMost (candidate (block g) names m) (candidate (block g) names s)
      loses =
          new_item_loses m (block g) b.blocks laws.blocks_named.sized (block_laws.equivalent g)
          (λ x k. block_next g x ∙ ne_eqb m x (λ z. omega arith)) laws.blocks_named.name_below s h

      beaten : AtMost (candidate (block g) names s) (candidate (block g) names m)
      beaten = rw q at (w.beats s (omega arith, block_refl (add_edge g e) s))

      same : candidate (block g) names m ≡ candidate (block g) names s
      same = at_most_antisym (candidate (block g) names m) (candidate (block g) names s) loses beaten

  -- an old edge whose block gives the name of a bridge is a mate of it, and has its name
  old_winner : (s : ℕ) → s < m → bridge (add_edge g e) s ≡ true → (i : ℕ) → i < m → block (add_edge g e) s i ≡ true
      → name_of b.blocks i ≡ name_of b.blocks s
  old_winner s h k i l w = sym (laws.blocks_named.one_name s i h l (mates_share_block g laws.mate_rule s i h l mate))
    where
      mate : mates g s i ≡ true
      mate =
          sym (mates_old g e s i h l)
          ∙ lone_edge (add_edge g e) proper (rule_more g e laws.mate_rule) s i (old_below g e s h) (old_below g e i l) k w

  abbrev name-after : ℕ → ℕ
  name-after s = name_of (rename (block g) (block (add_edge g e)) names) s

  old_bridge : (s : ℕ) → s < m → bridge (add_edge g e) s ≡ true → name-after s ≤ s
  unfolding candidate
  old_bridge s h k = go (below_or_last m w.item w.member.0)
    where
      w : Winner s
      w = winner s (omega arith)

      go : (w.item < m) ⊎ (w.item ≡ m) → name-after s ≤ s
      go (inl l) =
          omega (arith, w.named, name_old w.item l, old_winner s h k w.item l w.member.1, named s h (bridge_before_lem g e s h k))
      go (inr q) = absurd (new_never_wins s h w q)

  new_bridge : name-after m ≤ m
  new_bridge =
      omega (
        arith,
        (names_after_rename (suc m) (block g) (block (add_edge g e)) names named_before (block_laws.equivalent g)
            (block_laws.equivalent (add_edge g e)) (block_laws.edge_more g e laws.mate_rule)).name_below m (omega arith),
      )

  -- an edge more keeps the block names of bridges, and its own number is the greatest
  pub bridges_named_edge : BridgesNamed (enter_edge b e)
  unfolding enter_edge
  bridges_named_edge s h k = go (old_or_new g e s h)
    where
      go : (s < m) ⊎ (s ≡ m) → name-after s ≤ s
      go (inl l) = old_bridge s l k
      go (inr q) = rw q new_bridge

-- so the block of a bridge is named by the least of the bridge and its mates
pub bridge_named_by_least : (b : Book) → BookLaws b → BridgesNamed b → (s : ℕ) → s < edge_count b.network → bridge b.network s ≡ true
    → name_of b.blocks s ≡ first_mate b.network s
unfolding least_mate
bridge_named_by_least b laws named s h k = go (true_or_false (eqb n (first_mate g s)))
  where
    g : Network
    g = b.network

    n : ℕ
    n = name_of b.blocks s

    n_known : n < edge_count g
    n_known = laws.blocks_named.name_below s h

    n_mate : mates g s n ≡ true
    n_mate = lone_edge g laws.proper laws.mate_rule s n h n_known k (laws.blocks_named.name_within s h)

    -- a mate of it has its name, which is not greater than the mate's number
    no_lesser : (t : ℕ) → t < n → mates g t n ≡ true → ⊥
    no_lesser t l e =
        omega (arith, named t t_known (bridge-mates g laws.mate_rule t n e ∙ sym (bridge-mates g laws.mate_rule s n n_mate) ∙ k), same)
      where
        t_known : t < edge_count g
        t_known = omega (arith, n_known)

        same : name_of b.blocks t ≡ n
        same =
            laws.blocks_named.one_name t n t_known n_known (mates_share_block g laws.mate_rule t n t_known n_known e)
            ∙ sym (laws.blocks_named.one_name s n h n_known (laws.blocks_named.name_within s h))

    least : least_mate g n ≡ true
    least = not_of_false (any_none n _ (λ t l. false_of_not (mates g t n) (no_lesser t l)))

    go : (eqb n (first_mate g s) ≡ true) ⊎ (eqb n (first_mate g s) ≡ false) → n ≡ first_mate g s
    go (inl e) = eqb_eq n (first_mate g s) e
    go (inr e) =
        absurd (not_both (mates_sym g laws.mate_rule s n n_mate)
        (other_first_mate g laws.mate_rule n s least (eqb_ne n (first_mate g s) e)))
