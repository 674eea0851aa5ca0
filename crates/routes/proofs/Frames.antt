-- What is left as it was: frames hold where nothing is done, after one another, and of one store; the lists, the uses and what is written
-- down stand as long as their words do.
use mathlib.Core.Bool.{true, false, cond}
use mathlib.Core.List.{List}
use mathlib.Core.Logic.{◌⊎◌, inl, inr}
use mathlib.Core.Path.{◌≡◌, refl, ◌∙◌, ap}
use Prim.Native.Nat.{ℕ, ◌/◌, ◌%◌, ◌≤◌, ◌<◌}
use native.Mathlib.Omega.{arith}
use lib.Dec.{eqb}
use Rattle.graph.specs.Network.{Network, MateRule, Proper, edge_count}
use Rattle.graph.proofs.Truth.{true_or_false, not_both, eqb_eq, eqb_ne}
use Rattle.graph.proofs.Ducts.{one_duct-mates}
use Rattle.naming.proofs.Listed.{tabulate_same}
use Rattle.ways.specs.Used.{Used}
use Rattle.numbers.specs.declared.Shape.{Shape}
use Rattle.forest.specs.Promise.{Holds, network_in, table_rule_lem, vertices_held, edges_held, vertices_fit, edges_fit, proper_held, rule_held, same_beyond_refl, same_beyond_trans, scratch_words, vertex_scratch, VertexScratchStored, EdgeScratchStored}
use Rattle.routes.specs.declared.Route.{Route}
use Rattle.routes.specs.declared.Route.TheVariants as R
use Rattle.routes.specs.Inside.Frame.{column_of, head_column, Free, Only, edges_only, column_only, Written}
use Rattle.routes.specs.Inside.Lists.{Linked, Listed}

-- the columns of routes are scratch words, and not those of lists and steps
pub column_known : (route : Route) → column_of route < scratch_words
column_known R.First = omega arith
column_known R.Second = omega arith

pub column_above : (route : Route) → 1 < column_of route
column_above R.First = omega arith
column_above R.Second = omega arith

-- nothing changes where nothing is done
pub only_refl : (shape : Shape) (free : Free) (t : List ℕ) → Holds shape t → Only shape free t t
only_refl shape free t holds =
    record {
      holds = holds;
      state_is = refl;
      same_beyond = same_beyond_refl shape.limits t;
      columns = λ j x h k l. refl;
      edge_words = λ k s h. refl;
    }

-- nor but what may where one thing is done after another
pub only_trans : {shape : Shape} {free : Free} {x y z : List ℕ} → Only shape free x y → Only shape free y z → Only shape free x z
only_trans p q =
    record {
      holds = q.holds;
      state_is = q.state_is ∙ p.state_is;
      same_beyond = same_beyond_trans p.same_beyond q.same_beyond;
      columns = λ j x h k l. q.columns j x h k l ∙ p.columns j x h k l;
      edge_words = λ k s h. q.edge_words k s h ∙ p.edge_words k s h;
    }

-- nor where more may change
pub only_wider : {shape : Shape} {free more : Free} {x y : List ℕ}
    → ((j : ℕ) → more.column j ≡ false → free.column j ≡ false) → (more.edges ≡ false → free.edges ≡ false)
    → Only shape free x y → Only shape more x y
only_wider f e p =
    record {
      holds = p.holds;
      state_is = p.state_is;
      same_beyond = p.same_beyond;
      columns = λ j x h k l. p.columns j x h (f j k) l;
      edge_words = λ k s h. p.edge_words (e k) s h;
    }

-- a store into a scratch word of a vertex changes its column alone
pub only_vertex : {shape : Shape} {k x value : ℕ} {old new : List ℕ} → VertexScratchStored shape k x value old new
    → Only shape (column_only k) old new
unfolding column_only
only_vertex {shape} {k} v =
    record {
      holds = v.holds;
      state_is = v.state_is;
      same_beyond = v.same_beyond;
      columns = λ j y h n l. v.other_words j y h l (λ q r. eqb_ne j k n q);
      edge_words = λ n s h. v.edge_words s h;
    }

-- a store into that of an edge changes the edges' words alone
pub only_edge : {shape : Shape} {s value : ℕ} {old new : List ℕ} → EdgeScratchStored shape s value old new
    → Only shape edges_only old new
unfolding edges_only
only_edge v =
    record {
      holds = v.holds;
      state_is = v.state_is;
      same_beyond = v.same_beyond;
      columns = λ j y h n l. v.vertex_words j y h l;
      edge_words = λ n s h. absurd (not_both refl n);
    }

module _ {shape : Shape} {k x value : ℕ} {old new : List ℕ} (v : VertexScratchStored shape k x value old new) where
  -- the column of a stored word
  pub stored_there : k < scratch_words → (y : ℕ) → y < shape.vertices
      → vertex_scratch shape new k y ≡ cond (eqb y x) value (vertex_scratch shape old k y)
  stored_there h y l = go (true_or_false (eqb y x))
    where
      go : (eqb y x ≡ true) ⊎ (eqb y x ≡ false) → vertex_scratch shape new k y ≡ cond (eqb y x) value (vertex_scratch shape old k y)
      go (inl e) = rw (e, eqb_eq y x e) v.stored
      go (inr e) =
          rw e (v.other_words k y h (omega (arith, vertices_fit shape new v.holds, l)) (λ p q. eqb_ne y x e q))

  -- and another column
  pub stored_elsewhere : (j : ℕ) → j < scratch_words → (j ≡ k → ⊥) → (y : ℕ) → y < shape.vertices
      → vertex_scratch shape new j y ≡ vertex_scratch shape old j y
  stored_elsewhere j h d y l = v.other_words j y h (omega (arith, vertices_fit shape new v.holds, l)) (λ p q. d p)

module _ (shape : Shape) (g : Network) (t : List ℕ) (is : network_in shape t ≡ g) where
  -- a table's network has as many edges as the shape says
  pub edges_are : edge_count g ≡ shape.edges
  edges_are = rw (← is) (edges_held shape t)

  -- a vertex that the shape has is known in it
  pub held_known : (x : ℕ) → x < shape.vertices → x < g.vertices
  held_known x h = rw (← is, vertices_held shape t) h

  -- each of its edges joins two different vertices
  pub held_proper : Holds shape t → Proper g
  held_proper holds = rw (← is) (proper_held shape t holds)

  -- which of them are lost together is a rule of mates
  pub held_rule : MateRule g.rule
  held_rule = rw (← is, rule_held shape t, table_rule_lem) one_duct-mates

module _ {shape : Shape} {free : Free} {old new : List ℕ} (only : Only shape free old new) where
  -- the network is the same
  pub same-network : network_in shape new ≡ network_in shape old
  same-network = ap (λ s. s.book.network) only.state_is

  -- what is written down in a column that does not change stands
  pub written_only : (column count : ℕ) (list : List ℕ) → column < scratch_words → free.column column ≡ false
      → count ≤ shape.limits.vertices → Written shape column count old list → Written shape column count new list
  written_only column count list h k fits w =
      tabulate_same count (vertex_scratch shape new column) (vertex_scratch shape old column)
      (λ i l. only.columns column i h k (omega arith))
      ∙ w

  module _ (heads_stay : free.column head_column ≡ false) (words_stay : free.edges ≡ false) (g : Network)
      (is : network_in shape old ≡ g) where
    -- the lists stand where neither heads nor edges' words change
    pub linked_only : Linked shape g (edge_count g) old → Linked shape g (edge_count g) new
    linked_only w =
        record {
          heads = λ x h.
              only.columns head_column x (omega arith) heads_stay (omega (arith, vertices_fit shape new only.holds, h)) ∙ w.heads x h;
          entries = λ s h.
              ap (λ n. n / 4) (only.edge_words words_stay s (omega (arith, edges_fit shape new only.holds, edges_are shape g old is, h)))
              ∙ w.entries s h;
        }

    -- and so do the uses
    pub listed_only : (u : Used) → Listed shape g u old → Listed shape g u new
    listed_only u w =
        record {
          linked = linked_only w.linked;
          uses = λ s h.
              ap (λ n. n % 4) (only.edge_words words_stay s (omega (arith, edges_fit shape new only.holds, edges_are shape g old is, h)))
              ∙ w.uses s h;
        }
