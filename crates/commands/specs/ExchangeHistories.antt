-- Histories with exchanges (request 2), worked out from document 02: journals with what the program writes for them, and the report; and
-- shares in plain numbers (request 10).
use Rattle.std.specs.Prelude.{true, false, List, [], ◌∷◌, ◌++◌, map, ℕ, replicate}
use Rattle.commands.specs.Command.{add_cabinet, add_span, mark_exchange, holds_exchange, add_duct_span, exchange_share}
use Rattle.commands.specs.Field.{district, ring, mesh}
use Rattle.commands.specs.Answer.{cabinet_added, span_added, plain, exchange_marked, exchange_held, share_is}
use Rattle.commands.specs.Text.{journal_bytes}
use Rattle.commands.specs.Histories.{History, output, accepted, refused_with, notice}

-- Two rings, 0 with 1 and 2 with 3, and an exchange in the second: 2 of 4 cabinets. A span between them makes one district and leaves the
-- first ring without an exchange; a second span makes one ring: 4 of 4.
unfoldable pub exchange_in_one_of_two_rings : History
exchange_in_one_of_two_rings =
    record {
      input =
          journal_bytes
          (add_cabinet
          ∷ add_cabinet
          ∷ add_cabinet
          ∷ add_cabinet
          ∷ add_duct_span 0 1 1
          ∷ add_duct_span 0 1 2
          ∷ add_duct_span 2 3 1
          ∷ add_duct_span 2 3 2
          ∷ mark_exchange 2
          ∷ holds_exchange 0
          ∷ holds_exchange 3
          ∷ exchange_share
          ∷ add_span 1 2
          ∷ holds_exchange 0
          ∷ add_span 0 3
          ∷ holds_exchange 0
          ∷ holds_exchange 3
          ∷ exchange_share
          ∷ []);
      output =
          output
          (cabinet_added 0
          ∷ cabinet_added 1
          ∷ cabinet_added 2
          ∷ cabinet_added 3
          ∷ span_added 0 0 (notice district 1 0 ∷ [])
          ∷ span_added 1 0 (notice ring 1 0 ∷ [])
          ∷ span_added 2 2 (notice district 3 2 ∷ [])
          ∷ span_added 3 2 (notice ring 3 2 ∷ [])
          ∷ plain exchange_marked
          ∷ plain (exchange_held false)
          ∷ plain (exchange_held true)
          ∷ plain (share_is 500)
          ∷ span_added 4 4 (notice district 2 0 ∷ notice district 3 0 ∷ [])
          ∷ plain (exchange_held false)
          ∷ span_added
          5
          0
          (notice ring 2 0 ∷ notice ring 3 0 ∷ notice mesh 2 0 ∷ notice mesh 3 0 ∷ notice mesh 4 0 ∷ [])
          ∷ plain (exchange_held true)
          ∷ plain (exchange_held true)
          ∷ plain (share_is 1000)
          ∷ [])
          accepted;
      report = 0 ∷ 62 ∷ 18 ∷ 126 ∷ 4 ∷ 6 ∷ [];
    }

-- Three cabinets in a ring and one beside it in the same district, an exchange in the ring: 3 of 4 cabinets, and so with a second one there.
unfoldable pub share_of_cabinets : History
share_of_cabinets =
    record {
      input =
          journal_bytes
          (add_cabinet
          ∷ add_cabinet
          ∷ add_cabinet
          ∷ add_cabinet
          ∷ add_span 0 1
          ∷ add_span 1 2
          ∷ add_span 2 0
          ∷ add_span 2 3
          ∷ mark_exchange 1
          ∷ holds_exchange 0
          ∷ holds_exchange 3
          ∷ exchange_share
          ∷ mark_exchange 0
          ∷ exchange_share
          ∷ []);
      output =
          output
          (cabinet_added 0
          ∷ cabinet_added 1
          ∷ cabinet_added 2
          ∷ cabinet_added 3
          ∷ span_added 0 0 (notice district 1 0 ∷ [])
          ∷ span_added 1 1 (notice district 2 0 ∷ [])
          ∷ span_added 2 0 (notice ring 1 0 ∷ notice ring 2 0 ∷ notice mesh 1 0 ∷ [])
          ∷ span_added 3 3 (notice district 3 0 ∷ [])
          ∷ plain exchange_marked
          ∷ plain (exchange_held true)
          ∷ plain (exchange_held false)
          ∷ plain (share_is 750)
          ∷ plain exchange_marked
          ∷ plain (share_is 750)
          ∷ [])
          accepted;
      report = 0 ∷ 38 ∷ 14 ∷ 82 ∷ 4 ∷ 4 ∷ [];
    }

-- The share of an empty network, then of three cabinets with no exchange, with one, two and three: 0, 0, 333, 667 and 1,000; in bytes.
unfoldable pub shares_in_thirds : History
shares_in_thirds =
    record {
      input =
          0x0F
          ∷ 0x01
          ∷ 0x01
          ∷ 0x01
          ∷ 0x0F
          ∷ 0x09 ∷ 0x00 ∷ 0x01
          ∷ 0x0F
          ∷ 0x09 ∷ 0x00 ∷ 0x00
          ∷ 0x0F
          ∷ 0x09 ∷ 0x00 ∷ 0x02
          ∷ 0x0F
          ∷ [];
      output =
          0x8F ∷ 0x00 ∷ 0x00
          ∷ 0x81 ∷ 0x00 ∷ 0x00
          ∷ 0x81 ∷ 0x00 ∷ 0x01
          ∷ 0x81 ∷ 0x00 ∷ 0x02
          ∷ 0x8F ∷ 0x00 ∷ 0x00
          ∷ 0x89
          ∷ 0x8F ∷ 0x01 ∷ 0x4D
          ∷ 0x89
          ∷ 0x8F ∷ 0x02 ∷ 0x9B
          ∷ 0x89
          ∷ 0x8F ∷ 0x03 ∷ 0xE8
          ∷ 0x80
          ∷ [];
      report = 0 ∷ 17 ∷ 11 ∷ 27 ∷ 3 ∷ 0 ∷ [];
    }

-- Of 16 cabinets one, three and five with an exchange (request 10): 62, 188 and 312.
unfoldable pub shares_in_sixteenths : History
shares_in_sixteenths =
    record {
      input =
          journal_bytes
          (replicate 16 add_cabinet
          ++ mark_exchange 0
          ∷ exchange_share
          ∷ mark_exchange 1
          ∷ mark_exchange 2
          ∷ exchange_share
          ∷ mark_exchange 3
          ∷ mark_exchange 4
          ∷ exchange_share
          ∷ []);
      output =
          output
          (map cabinet_added (0 ∷ 1 ∷ 2 ∷ 3 ∷ 4 ∷ 5 ∷ 6 ∷ 7 ∷ 8 ∷ 9 ∷ 10 ∷ 11 ∷ 12 ∷ 13 ∷ 14 ∷ 15 ∷ [])
          ++ plain exchange_marked
          ∷ plain (share_is 62)
          ∷ plain exchange_marked
          ∷ plain exchange_marked
          ∷ plain (share_is 188)
          ∷ plain exchange_marked
          ∷ plain exchange_marked
          ∷ plain (share_is 312)
          ∷ [])
          accepted;
      report = 0 ∷ 34 ∷ 24 ∷ 62 ∷ 16 ∷ 0 ∷ [];
    }

-- One cabinet marked twice: 12 at the second.
unfoldable pub marked_twice : History
marked_twice =
    record {
      input = journal_bytes (add_cabinet ∷ mark_exchange 0 ∷ mark_exchange 0 ∷ []);
      output = output (cabinet_added 0 ∷ plain exchange_marked ∷ []) (refused_with 12 4);
      report = 12 ∷ 4 ∷ 2 ∷ 4 ∷ 1 ∷ 0 ∷ [];
    }

-- One cabinet, and another marked: 6. And asked for: 6.
unfoldable pub marked_nowhere : History
marked_nowhere =
    record {
      input = journal_bytes (add_cabinet ∷ mark_exchange 5 ∷ []);
      output = output (cabinet_added 0 ∷ []) (refused_with 6 1);
      report = 6 ∷ 1 ∷ 1 ∷ 3 ∷ 1 ∷ 0 ∷ [];
    }

unfoldable pub asked_nowhere : History
asked_nowhere =
    record {
      input = journal_bytes (add_cabinet ∷ holds_exchange 1 ∷ []);
      output = output (cabinet_added 0 ∷ []) (refused_with 6 1);
      report = 6 ∷ 1 ∷ 1 ∷ 3 ∷ 1 ∷ 0 ∷ [];
    }

unfoldable pub exchange_histories : List History
exchange_histories =
    exchange_in_one_of_two_rings ∷ share_of_cabinets ∷ shares_in_thirds ∷ shares_in_sixteenths ∷ marked_twice ∷ marked_nowhere ∷ asked_nowhere ∷ []

-- So many cabinets of so many, and their share in thousandths (request 10).
pub record Share : Type 0 where
  pub part : ℕ
  pub whole : ℕ
  pub share : ℕ

unfoldable pub share_of : ℕ → ℕ → ℕ → Share
share_of part whole share = record { part = part; whole = whole; share = share }

-- Those of the request; halves among the first thousandths and the last; the most that are not all; all and none of one; none of nothing.
unfoldable pub shares : List Share
shares =
    share_of 1 16 62
    ∷ share_of 3 16 188
    ∷ share_of 5 16 312
    ∷ share_of 1 2000 0
    ∷ share_of 3 2000 2
    ∷ share_of 1997 2000 998
    ∷ share_of 1999 2000 1000
    ∷ share_of 4095 4096 1000
    ∷ share_of 1 1 1000
    ∷ share_of 0 1 0
    ∷ share_of 0 0 0
    ∷ []
