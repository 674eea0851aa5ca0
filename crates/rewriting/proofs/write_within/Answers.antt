-- `write_within` refuses a result that is longer than a journal or than the buffer, and writes any other.
use mathlib.Core.Logic.{◌⊎◌}
use mathlib.Core.Path.{ap}
use Prim.Native.Nat.{◌<◌}
use lib.ListN.{length}
use native.Mathlib.Omega.{arith}
use Rattle.rewriting.proofs.Ends.{refused_as_long, result_told}
use Rattle.rewriting.proofs.write_within.Goals as goal

pub returns-then-length-gt-LONGEST : goal.returns-then-length-gt-LONGEST
returns-then-length-gt-LONGEST c =
    let long : (65536 < c.args.length) ⊎ (length c.args.out.now < c.args.length) = grind arith in
    refused_as_long c.requires long (ap (λ r. r.refusal) c.into.ensures) (ap (λ r. r.place) c.into.ensures)

pub returns : goal.returns
returns c = result_told c.requires (omega arith) (omega arith) c.write.ensures (omega arith)
