-- The naming book that a valid table holds keeps the laws of naming books.
use Rattle.std.proofs.Common.{ℕ, List}
use Rattle.naming.proofs.Book.{BookLaws}
use Rattle.numbers.specs.declared.Limits.{Limits}
use Rattle.forest.specs.Inside.Valid.{network_of, book_of, Valid}
use Rattle.forest.proofs.Networks.{edge_count_lem, network_rule}

-- its network is proper, its rule is one of mates, and its lists name the groups
pub book_laws : {limits : Limits} {n m : ℕ} {t : List ℕ} → Valid limits n m t → BookLaws (book_of limits n m t)
unfolding book_of network_of
book_laws {limits} {n} {m} {t} valid =
    record {
      proper = valid.proper;
      mate_rule = network_rule limits n m t;
      components_named = valid.components.named;
      bridge_blocks_named = valid.bridge_blocks_lem.named;
      blocks_named = rw (edge_count_lem limits n m t) valid.blocks.named;
    }
