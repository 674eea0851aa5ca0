-- The longest journals, and what the forecasts, rewriting and joining return for them, in plain numbers, with other forecasts to the byte. (They
-- take seconds to compute, and every must-fail edit of `commands` would compute them again there.)
use Rattle.std.specs.Prelude.{List, [], ◌∷◌, ◌++◌, replicate}
use Rattle.commands.specs.Command.{Command, add_cabinet, add_span, add_duct_span, routes_between}
use Rattle.commands.specs.Text.{journal_bytes}
use Rattle.commands.specs.RouteHistories.{ladder_spans}
use Rattle.commands.specs.Calls.{Foretold, foretold, RewriteCall, rewrite_call}
use Rattle.commands.specs.ExactHistories.{ExactCall, exact_call}
use Rattle.commands.specs.JoinHistories.{seam, JoinCall, join_call}

-- A journal of 65,536 bytes, whose last question has no operands, and one byte less.
unfoldable pub long_forecasts : List Foretold
long_forecasts = foretold (replicate 65536 0x03) 5 65535 0 ∷ foretold (replicate 65535 0x03) 0 65535 109225 ∷ []

-- The ladder of commands/specs/RouteHistories, with spans 7 and 8 for a way 3-6-2 beside its rung. From 0 to 5 the register gives the way over the rung, 0-1-4-5, and 0-3-6-2-5,
-- which is shorter than one that goes back over the rung: seven spans, and 19 bytes. The two sides of the ladder have six, and would take 17.
unfoldable pub beside_the_rung : List Command
beside_the_rung = add_cabinet ∷ ladder_spans ++ add_span 3 6 ∷ add_span 6 2 ∷ routes_between 0 5 ∷ []

-- Forecasts to the byte.
unfoldable pub long_exact_calls : List ExactCall
long_exact_calls =
    -- 1 and 2: the other bounds of C and S, and the greatest W, where the later lines of the table of causes apply too
    exact_call 4097 1 2 (replicate 65537 0x00) 1 0 0 (7 ∷ 7 ∷ [])
    ∷ exact_call 1 0 2 (replicate 65537 0x00) 1 0 0 (7 ∷ 7 ∷ [])
    ∷ exact_call 1 8193 2 (replicate 65537 0x00) 1 0 0 (7 ∷ 7 ∷ [])
    ∷ exact_call 4096 8192 2 (replicate 65537 0x00) 2 0 0 (7 ∷ 7 ∷ [])
    -- 4: a byte that is no command's, in a journal of 65,536 bytes
    ∷ exact_call 1 1 96 (replicate 65536 0x00) 4 0 0 (replicate 96 0)
    -- as many cabinets as there may be: 3 bytes each
    ∷ exact_call 100 1 2472 (replicate 100 0x01) 0 100 300 (replicate 2472 0)
    -- a journal of 65,536 bytes whose answers have three times as many: shares of an empty network
    ∷ exact_call 1 1 96 (replicate 65536 0x0F) 0 65536 196608 (replicate 96 0)
    -- routes that are not the shortest: 21 for the cabinets; 60 for five spans with one notice, 52 for the one with nine, 7 for the rung, 12
    -- and 17 for those beside it; and 19
    ∷ exact_call 7 9 305 (journal_bytes beside_the_rung) 0 57 188 (replicate 304 0 ++ 7 ∷ [])
    ∷ []

-- A journal of 65,536 bytes, without 02, and so a result of as many; and a result of 65,537, whatever the room.
unfoldable pub long_rewritings : List RewriteCall
long_rewritings =
    rewrite_call (0x01 ∷ 0x01 ∷ replicate 65534 0x0D) 65536 0 65536 (0x01 ∷ 0x01 ∷ replicate 65534 0x0D)
    ∷ rewrite_call (0x01 ∷ 0x01 ∷ 0x01 ∷ 0x02 ∷ 0 ∷ 0 ∷ 0 ∷ 1 ∷ replicate 65527 0x0D) 70000 16 0 []
    ∷ []

-- Two journals of a cabinet each with so many seams that the result has 65,536 bytes; and with a cabinet more, whatever the room.
unfoldable pub long_joins : List JoinCall
long_joins =
    join_call (0x01 ∷ []) (0x01 ∷ []) (replicate 9362 (seam 0 0 1)) 163904 65536 0 (0x01 ∷ 0x01 ∷ journal_bytes (replicate 9362 (add_duct_span 0 1 1)))
    ∷ join_call (0x01 ∷ 0x01 ∷ []) (0x01 ∷ []) (replicate 9362 (seam 0 0 1)) 163904 70000 19 []
    ∷ []
