-- The network in which each set of mates is one edge: how its edges are numbered, and that it and the network are images of each other.
use mathlib.Core.Bool.{true, false}
use mathlib.Core.Logic.{◌↔◌}
use mathlib.Core.Path.{◌≡◌, refl, sym, ◌∙◌, ap, ap₂}
use Prim.Native.Nat.{ℕ, ◌<◌}
use native.Mathlib.Omega.{arith}
use lib.Dec.{eqb}
use lib.ListN.{length, length-map}
use lib.Seq.{ext_get_or}
use Rattle.graph.specs.Below.{count}
use Rattle.graph.specs.Network.{Network, Edge, MateRule, Proper, never, edge_between, edge, edge_count, mates, mates-never}
use Rattle.graph.specs.Between.{least_mate}
use Rattle.graph.specs.Travel.{first_mate}
use Rattle.graph.specs.Reduced.{least_edges, reduced, reduced_number, full_number}
use Rattle.graph.proofs.Truth.{bool_ext, eqb_eq, eq-eqb}
use Rattle.graph.proofs.Walks.{joins-ends}
use Rattle.graph.proofs.Mates.{mates_refl}
use Rattle.graph.proofs.MateEdges.{mates-joins}
use Rattle.graph.proofs.Travel.{first_mate_least}
use Rattle.graph.proofs.FirstMates.{first_mate_low, mate_of_first, mates_first, first_mates, least_first}
use Rattle.graph.proofs.MappedLists.{entry_mapped}
use Rattle.graph.proofs.Never.{never-mates, least_never}
use Rattle.graph.proofs.Places.{Numbered, each_listed, At, listed_at, numbered_rise, length-listed-count, count_all}
use Rattle.graph.proofs.Image.{Image}

module _ (g : Network) where
  -- no edge of the reduced network is lost with another
  pub reduced-never : (reduced g).rule ≡ never
  unfolding reduced
  reduced-never = refl

  -- so its rule is a rule of mates
  pub reduced_rule : MateRule (reduced g).rule
  unfolding reduced
  reduced_rule = never-mates

  -- it has as many edges as are the least of their mates
  edge_count-reduced : edge_count (reduced g) ≡ length (least_edges g)
  unfolding reduced edge_count
  edge_count-reduced = length-map (least_edges g) (edge g)

  -- each of its edges is the edge of the network that it stands for
  pub edge-reduced : (k : ℕ) → k < edge_count (reduced g) → edge (reduced g) k ≡ edge g (full_number g k)
  unfolding reduced edge_count edge full_number
  edge-reduced k l = entry_mapped (edge g) (least_edges g) k (edge_between 0 0) 0 (rw edge_count-reduced at l)

  -- edge k stands for the least of mates before which k others are the least of their mates
  full_numbered : (k : ℕ) → k < edge_count (reduced g) → Numbered (edge_count g) (least_mate g) k (full_number g k)
  unfolding full_number least_edges
  full_numbered k l = each_listed (edge_count g) (least_mate g) k (rw edge_count-reduced at l)

  -- what it stands for is an edge of the network
  pub full_known : (k : ℕ) → k < edge_count (reduced g) → full_number g k < edge_count g
  full_known k l = (full_numbered k l).below

  -- and the least of its mates
  pub full_least : (k : ℕ) → k < edge_count (reduced g) → least_mate g (full_number g k) ≡ true
  full_least k l = (full_numbered k l).passes

  -- different edges stand for different edges, in the same order
  pub full_rises : (k l : ℕ) → k < l → l < edge_count (reduced g) → full_number g k < full_number g l
  full_rises k l h i =
      numbered_rise k l (full_number g k) (full_number g l) (full_numbered k (omega arith)) (full_numbered l i) h

module _ (g : Network) (rule : MateRule g.rule) where
  -- among the edges that are the least of their mates, the first mate of an edge stands at the edge's reduced number
  reduced_at : (s : ℕ) → s < edge_count g → At (least_edges g) (reduced_number g s) (first_mate g s)
  unfolding least_edges reduced_number
  reduced_at s k =
      listed_at (edge_count g) (least_mate g) (first_mate g s) (omega (arith, first_mate_low g s, k)) (first_mate_least g rule s)

  -- the reduced number of an edge is that of an edge of the reduced network
  pub reduced_known : (s : ℕ) → s < edge_count g → reduced_number g s < edge_count (reduced g)
  reduced_known s k = rw (edge_count-reduced g) (reduced_at s k).known

  -- which stands for the first mate of the edge
  pub full_of_reduced : (s : ℕ) → s < edge_count g → full_number g (reduced_number g s) ≡ first_mate g s
  unfolding full_number
  full_of_reduced s k = (reduced_at s k).is

  -- what edge k of the reduced network stands for has reduced number k
  pub reduced_of_full : (k : ℕ) → k < edge_count (reduced g) → reduced_number g (full_number g k) ≡ k
  unfolding reduced_number
  reduced_of_full k l =
      ap (λ s. count s (least_mate g)) (least_first g rule (full_number g k) (full_least g k l)) ∙ (full_numbered g k l).place

  -- two edges have one reduced number exactly if they are mates
  pub one_reduced_number : (s t : ℕ) → s < edge_count g → t < edge_count g
      → (reduced_number g s ≡ reduced_number g t) ↔ (mates g s t ≡ true)
  unfolding reduced_number
  one_reduced_number s t k l = (
    λ q. first_mates g rule s t (sym (full_of_reduced s k) ∙ ap (full_number g) q ∙ full_of_reduced t l),
    λ m. ap (λ u. count u (least_mate g)) (mates_first g rule s t m),
  )

  -- the same, as a test
  mates-reduced : (s t : ℕ) → s < edge_count g → t < edge_count g → mates (reduced g) (reduced_number g s) (reduced_number g t) ≡ mates g s t
  mates-reduced s t k l =
      mates-never (reduced g) (reduced-never g) (reduced_number g s) (reduced_number g t)
      ∙ bool_ext (eqb (reduced_number g s) (reduced_number g t)) (mates g s t)
      (λ e. (one_reduced_number s t k l).0 (eqb_eq (reduced_number g s) (reduced_number g t) e))
      (λ m. eq-eqb (reduced_number g s) (reduced_number g t) ((one_reduced_number s t k l).1 m))

  -- the network holds an image of the reduced network
  pub reduced_image : Image (reduced g) g (λ x. x) (full_number g)
  reduced_image =
      record {
        one_vertex = λ x y q. q;
        edge_known = full_known g;
        ends_go = λ k l. rw (edge-reduced g k l) (joins-ends (edge g (full_number g k)));
        mates_go = λ k l h i. sym (mates-reduced (full_number g k) (full_number g l) (full_known g k h) (full_known g l i))
            ∙ ap₂ (mates (reduced g)) (reduced_of_full k h) (reduced_of_full l i);
        no_other = λ s x k t. record {
          at = reduced_number g s;
          below = reduced_known s k;
          passes = rw (full_of_reduced s k) (mate_of_first g rule s);
        };
      }

  -- and the reduced network holds an image of the network
  pub image_reduced : Image g (reduced g) (λ x. x) (reduced_number g)
  image_reduced =
      record {
        one_vertex = λ x y q. q;
        edge_known = reduced_known;
        ends_go = λ s k. rw (edge-reduced g (reduced_number g s) (reduced_known s k), full_of_reduced s k)
            (mates-joins g rule s (first_mate g s) (mate_of_first g rule s) _ _ (joins-ends (edge g s)));
        mates_go = mates-reduced;
        no_other = λ k x l t. record {
          at = full_number g k;
          below = full_known g k l;
          passes = rw (reduced_of_full k l) (mates_refl (reduced g) k);
        };
      }

-- what holds of every edge of a network holds of every edge of the reduced network
each_reduced : (P : Edge → Type 0) (g : Network) → ((s : ℕ) → s < edge_count g → P (edge g s))
    → (k : ℕ) → k < edge_count (reduced g) → P (edge (reduced g) k)
each_reduced P g w k l = rw (edge-reduced g k l) (w (full_number g k) (full_known g k l))

-- so the reduced network of a proper one is proper
pub reduced_proper : (g : Network) → Proper g → Proper (reduced g)
unfolding reduced
reduced_proper g proper =
    record {
      left_known = each_reduced (λ e. e.left < g.vertices) g proper.left_known;
      right_known = each_reduced (λ e. e.right < g.vertices) g proper.right_known;
      no_loop = each_reduced (λ e. eqb e.left e.right ≡ false) g proper.no_loop;
    }

module _ (g : Network) (none : g.rule ≡ never) where
  -- so the reduced network has as many edges
  edge_count-alone : edge_count (reduced g) ≡ edge_count g
  unfolding least_edges
  edge_count-alone =
      edge_count-reduced g ∙ length-listed-count (edge_count g) (least_mate g) ∙ count_all (edge_count g) (least_mate g) (least_never g none)

  -- and the same ones
  edge-alone : (k : ℕ) → k < edge_count (reduced g) → edge (reduced g) k ≡ edge g k
  edge-alone k l =
      edge-reduced g k l
      ∙ ap (edge g) (sym (count_all (full_number g k) (least_mate g) (least_never g none)) ∙ (full_numbered g k l).place)

  -- so it is the network itself
  pub reduced-alone : reduced g ≡ g
  unfolding reduced edge_count edge
  reduced-alone =
      ap₂ (λ r es. record { rule = r; vertices = g.vertices; edges = es }) (sym none)
      (ext_get_or (edge_between 0 0) (reduced g).edges g.edges edge_count-alone edge-alone)
