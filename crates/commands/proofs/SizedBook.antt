-- A book that has a name of each kind for each item, and that every command leaves it so.
use mathlib.Core.List.{List, [], ◌∷◌, ◌++◌}
use mathlib.Core.Path.{◌≡◌, refl, ◌∙◌, ap}
use Prim.Native.Nat.{ℕ, suc}
use native.Mathlib.Omega.{arith}
use lib.ListN.{length, length-append}
use Rattle.graph.specs.Below.{length_tabulate}
use Rattle.graph.specs.Network.{Rule, edge_count, add_vertex, add_edge}
use Rattle.naming.specs.Rename.{rename}
use Rattle.naming.specs.Book.{Book, empty_book, enter_vertex, enter_edge, Addition, vertex, edge, neither, feed}
use Rattle.naming.specs.State.{State, after_addition, after_recording}
use Rattle.commands.specs.Field.{Kind, district, ring, mesh}
use Rattle.commands.specs.Command.{Command}
use Rattle.commands.specs.Facts.{addition, after}
use Rattle.commands.specs.WholeRun.{items_of}

-- the book has a name of each kind for each item
pub record SizedBook (b : Book) : Type 0 where
  pub components_sized : length b.components ≡ b.network.vertices
  pub bridge_blocks_sized : length b.bridge_blocks ≡ b.network.vertices
  pub blocks_sized : length b.blocks ≡ edge_count b.network

-- the empty book is sized
pub sized_empty : (rule : Rule) → SizedBook (empty_book rule)
unfolding empty_book edge_count
sized_empty rule = record { components_sized = refl; bridge_blocks_sized = refl; blocks_sized = refl }

-- a list with one more at its end is one longer
pub length_snoc : {A : Type 0} (l : List A) (a : A) → length (l ++ a ∷ []) ≡ suc (length l)
length_snoc l a = rw length-append (omega arith)

-- an addition leaves the book with a name of each kind for each item
pub sized_feed : (b : Book) → SizedBook b → (x : Addition) → SizedBook (feed b x)
unfolding feed enter_vertex enter_edge add_vertex add_edge edge_count rename
sized_feed b s vertex =
    record {
      components_sized = length_snoc b.components b.network.vertices ∙ ap suc s.components_sized;
      bridge_blocks_sized = length_snoc b.bridge_blocks b.network.vertices ∙ ap suc s.bridge_blocks_sized;
      blocks_sized = s.blocks_sized;
    }
sized_feed b s (edge e) =
    record {
      components_sized = rw length_tabulate s.components_sized;
      bridge_blocks_sized = rw length_tabulate s.bridge_blocks_sized;
      blocks_sized =
          rw (length_tabulate, length_snoc b.blocks (edge_count b.network), length_snoc b.network.edges e)
          (ap suc s.blocks_sized);
    }
sized_feed b s neither = s

-- and so does a command
pub sized_after : (s : State) → SizedBook s.book → (c : Command) → SizedBook (after s c).book
unfolding after after_addition after_recording
sized_after s sized c = sized_feed s.book sized (addition c)

-- the names of one kind
unfoldable pub names_in : Kind → Book → List ℕ
names_in district b = b.components
names_in ring b = b.bridge_blocks
names_in mesh b = b.blocks

-- there are as many as there are items of that kind
pub sized_names : (b : Book) → SizedBook b → (kind : Kind) → length (names_in kind b) ≡ items_of kind b.network
unfolding names_in items_of
sized_names b s district = s.components_sized
sized_names b s ring = s.bridge_blocks_sized
sized_names b s mesh = s.blocks_sized
