-- Districts, rings and meshes as three kinds of groups with one text: the laws of their names in a book, and what an addition does to them.
use Rattle.naming.specs.Book.{Book}
use Rattle.naming.proofs.Naming.{Naming}
use Rattle.naming.proofs.Book.{GroupLaws, component_laws, bridge_block_laws, block_laws, BookLaws, NamesAdvance, BookAdvances}
use Rattle.commands.specs.Field.{Kind, district, ring, mesh}
use Rattle.commands.specs.WholeRun.{groups_of, items_of}
use Rattle.commands.proofs.SizedBook.{SizedBook, names_in}

-- the groups of a kind
pub kind_laws : (kind : Kind) → GroupLaws (items_of kind) (groups_of kind)
unfolding items_of groups_of
kind_laws district = component_laws
kind_laws ring = bridge_block_laws
kind_laws mesh = block_laws

-- their names in a book that keeps the laws
pub kind_named : {b : Book} → BookLaws b → (kind : Kind)
    → Naming (items_of kind b.network) (groups_of kind b.network) (names_in kind b)
unfolding items_of groups_of names_in
kind_named laws district = laws.components_named
kind_named laws ring = laws.bridge_blocks_named
kind_named laws mesh = laws.blocks_named

-- what an addition does to them
pub kind_advances : {b b' : Book} → BookAdvances b b' → (kind : Kind)
    → NamesAdvance (items_of kind) (groups_of kind) (names_in kind) b b'
unfolding items_of groups_of names_in
kind_advances a district = a.components_advance
kind_advances a ring = a.bridge_blocks_advance
kind_advances a mesh = a.blocks_advance

-- such a book has a name of each kind for each item
pub sized_by_laws : {b : Book} → BookLaws b → SizedBook b
sized_by_laws laws =
    record {
      components_sized = laws.components_named.sized;
      bridge_blocks_sized = laws.bridge_blocks_named.sized;
      blocks_sized = laws.blocks_named.sized;
    }
