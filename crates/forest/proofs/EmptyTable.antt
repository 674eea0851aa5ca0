-- A table without vertices and edges holds the empty state.
use Rattle.std.proofs.Common.{◌≡◌, ℕ, ◌≤◌, Bool, List, length, refl, not-suc-le-zero, arith}
use Rattle.graph.specs.Below.{tabulate}
use Rattle.graph.specs.Network.{Network, Proper, edge_count}
use Rattle.graph.proofs.Truth.{ge_ltb}
use Rattle.naming.specs.Rename.{Grouping}
use Rattle.naming.specs.Book.{empty_book}
use Rattle.naming.specs.State.{empty_state}
use Rattle.naming.proofs.BridgeNames.{bridges_named_empty}
use Rattle.naming.proofs.Naming.{naming_none}
use Rattle.numbers.specs.declared.Limits.{Limits}
use Rattle.table.specs.declared.words.Area.{Area}
use Rattle.table.specs.Inside.Column
use Rattle.table.specs.Inside.Layout.{bridge_block_area}
use Rattle.table.specs.Inside.KindValid.{names_in, KindValid, Counts}
use Rattle.forest.specs.Rule.{table_rule}
use Rattle.forest.specs.Inside.Valid.{network_of, book_of, marked_in, surveys_in, ForestValid}
use Rattle.forest.specs.Promise.{words_needed, Holds, state_of, Begun}
use Rattle.forest.proofs.Networks.{edge_count_lem, state_is}

-- no items of a kind
kind_none : (t : List ℕ) (area : Area) (groups : Grouping) → KindValid t area 0 groups
unfolding names_in tabulate
kind_none t area groups =
    record {
      named = naming_none groups;
      sized = λ x h. absurd (not-suc-le-zero h);
      from_least = λ x h. absurd (not-suc-le-zero h);
      to_greatest = λ x h. absurd (not-suc-le-zero h);
      range_known = λ x h. absurd (not-suc-le-zero h);
    }

-- no marks of bridge-blocks
marks_none : (t : List ℕ) (limits : Limits) (groups : Grouping) (test : ℕ → Bool) → Counts t (bridge_block_area limits) 0 groups Column.mark_count test
marks_none t limits groups test =
    record { added_up = omega arith; of_kind = omega arith; counted = λ x h. absurd (not-suc-le-zero h) }

-- no vertices and no edges in a forest
forest_none : (t : List ℕ) (limits : Limits) (g : Network) → ForestValid t limits 0 0 g
forest_none t limits g =
    record {
      up_known = λ x e h. absurd (not-suc-le-zero h);
      up_on = λ x e h. absurd (not-suc-le-zero h);
      top_known = λ e h. absurd (not-suc-le-zero h);
      top_on = λ e h. absurd (not-suc-le-zero h);
      covers = λ e x h. absurd (not-suc-le-zero h);
      depth_falls = λ x e h. absurd (not-suc-le-zero h);
      depth_bound = λ x h. absurd (not-suc-le-zero h);
    }

-- a network without edges is proper
proper_none : (g : Network) → edge_count g ≡ 0 → Proper g
proper_none g e =
    record {
      left_known = λ s h. absurd (omega arith);
      right_known = λ s h. absurd (omega arith);
      no_loop = λ s h. absurd (omega arith);
    }

-- any table that is long enough holds no vertices and no edges, and the empty state
pub begun : (limits : Limits) (t : List ℕ) → words_needed limits ≤ length t → limits.vertices ≤ 4096 → limits.edges ≤ 8192
    → Begun limits t (record { limits = limits; vertices = 0; edges = 0 })
unfolding words_needed Holds state_of book_of marked_in surveys_in empty_state empty_book network_of names_in tabulate
begun limits t long vertices edges =
    record {
      shape_is = refl;
      holds =
          ∣ record {
            valid =
                record {
                  long = long;
                  small_vertices = vertices;
                  small_edges = edges;
                  vertices_fit = omega arith;
                  edges_fit = omega arith;
                  proper = proper_none (network_of limits 0 0 t) (edge_count_lem limits 0 0 t);
                  components = kind_none t _ _;
                  bridge_blocks_lem = kind_none t _ _;
                  marks = marks_none t limits _ _;
                  blocks = kind_none t _ _;
                  forest = forest_none t limits _;
                };
            bridges_named = bridges_named_empty table_rule;
          } ∣₁;
      state_is = state_is refl (λ x. rw (ge_ltb x 0 (omega arith))) refl;
    }
