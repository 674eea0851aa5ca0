-- `put_ending` stores the ending of each run that has this number.
use Rattle.std.proofs.Common.{arith, ◌≡◌}
use Rattle.commands.specs.Bytes.{four_bytes}
use Rattle.register.proofs.Ending.{four_high_first, accepted-put, refused_put}
use Rattle.register.proofs.put_ending.Goals as goal

pub returns-then-refusal-eq0 : goal.returns-then-refusal-eq0
returns-then-refusal-eq0 c = accepted-put c.args.out.now c.args.refusal c.args.place (omega arith) (omega arith)

pub returns : goal.returns
returns c =
    let four : c.copy_from_slice.new.self ≡ four_bytes c.args.place = cc (four_high_first c.args.place) in
    refused_put c.args.out.now c.args.refusal c.args.place _ _ c.requires c.if-refusal-eq0.false (omega arith) four
