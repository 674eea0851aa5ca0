-- Books over networks that are alike, with the same names: what is fed to both keeps them so.
use mathlib.Core.Bool.{true}
use mathlib.Core.List.{List, [], ◌∷◌, ◌++◌}
use mathlib.Core.Path.{◌≡◌, refl, ap₂}
use Prim.Native.Nat.{ℕ, ◌<◌}
use native.Mathlib.Nat.{not-suc-le-zero}
use Rattle.graph.specs.Network.{Edge, Rule, MateRule, parallel, edge, edge_count, add_edge}
use Rattle.graph.proofs.EdgeMoreBridges.{rule_more}
use Rattle.graph.proofs.Alike.{Alike, component_alike, bridge_block_alike, block_alike, alike_vertex_more, alike_edge_more}
use Rattle.naming.specs.Rename.{Grouping, rename}
use Rattle.naming.specs.Book.{Book, empty_book, enter_vertex, enter_edge}

-- Two books with the same names, over networks that are alike.
pub record AlikeBooks (b b' : Book) : Type 0 where
  pub networks : Alike b.network b'.network
  pub same_components : b'.components ≡ b.components
  pub same_bridge_blocks : b'.bridge_blocks ≡ b.bridge_blocks
  pub same_blocks : b'.blocks ≡ b.blocks

-- empty books are alike, whatever their rules
pub alike_empty : (rule rule' : Rule) → AlikeBooks (empty_book rule) (empty_book rule')
unfolding empty_book edge_count
alike_empty rule rule' =
    record {
      networks =
          record {
            as_many_vertices = refl;
            as_many_edges = refl;
            same_ends = λ s k. absurd (not-suc-le-zero k);
            same-mates = λ s t k. absurd (not-suc-le-zero k);
          };
      same_components = refl;
      same_bridge_blocks = refl;
      same_blocks = refl;
    }

-- a vertex more in each
pub alike_vertex : {b b' : Book} → AlikeBooks b b' → AlikeBooks (enter_vertex b) (enter_vertex b')
unfolding enter_vertex
alike_vertex a =
    record {
      networks = alike_vertex_more a.networks;
      same_components = ap₂ (λ (names : List ℕ) (new : ℕ). names ++ new ∷ []) a.same_components a.networks.as_many_vertices;
      same_bridge_blocks = ap₂ (λ (names : List ℕ) (new : ℕ). names ++ new ∷ []) a.same_bridge_blocks a.networks.as_many_vertices;
      same_blocks = a.same_blocks;
    }

-- names that are the same stay so where the groups are the same before and after
rename_same : {before before' after after' : Grouping} {names names' : List ℕ} → ((x y : ℕ) → before' x y ≡ before x y)
    → ((x y : ℕ) → after' x y ≡ after x y) → names' ≡ names → rename before' after' names' ≡ rename before after names
rename_same p q r = λ i. rename (λ x y. p x y i) (λ x y. q x y i) (r i)

-- an edge more in each, with the same ends and the same mates
pub alike_edge : {b b' : Book} → AlikeBooks b b' → MateRule b.network.rule → MateRule b'.network.rule → (e e' : Edge)
    → parallel e' e ≡ true
    → ((s : ℕ) → s < edge_count b.network → b'.network.rule (edge b'.network s) e' ≡ b.network.rule (edge b.network s) e)
    → AlikeBooks (enter_edge b e) (enter_edge b' e')
unfolding enter_edge
alike_edge {b} {b'} a rule rule' e e' ends mates =
    record {
      networks = after;
      same_components = rename_same (component_alike before rule') (component_alike after more') a.same_components;
      same_bridge_blocks = rename_same (bridge_block_alike before rule rule') (bridge_block_alike after more more') a.same_bridge_blocks;
      same_blocks =
          rename_same (block_alike before rule rule') (block_alike after more more')
          (ap₂ (λ (names : List ℕ) (new : ℕ). names ++ new ∷ []) a.same_blocks before.as_many_edges);
    }
  where
    before : Alike b.network b'.network
    before = a.networks

    after : Alike (add_edge b.network e) (add_edge b'.network e')
    after = alike_edge_more before e e' rule rule' ends mates

    more : MateRule (add_edge b.network e).rule
    more = rule_more b.network e rule

    more' : MateRule (add_edge b'.network e').rule
    more' = rule_more b'.network e' rule'
