-- `register_rewrite` tells what is rewritten.
use native.Mathlib.Omega.{arith}
use Rattle.commands.proofs.Bytes.{bytes_by_place}
use Rattle.journal.proofs.RewriteLaws.{rewrite_promised, rewritten_fits}
use Rattle.journal.proofs.register_rewrite.Goals as goal

pub tell_at-requires : goal.tell_at-requires
tell_at-requires c = rewritten_fits c.args.journal.now c.rewrite_into.result c.rewrite_into.ensures

pub returns : goal.returns
returns c =
    rewrite_promised
    c.args.journal.now
    c.args.out.now
    c.rewrite_into.new.out
    (bytes_by_place c.args.journal.now (λ i h. omega (arith, c.type_inv.journal i)))
    c.rewrite_into.ensures
    c.tell_at.ensures
