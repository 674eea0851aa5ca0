-- `notice::put_notices` writes the notices of a kind one behind another.
use mathlib.Core.Path.{ap}
use Rattle.std.proofs.Common.{rules}
use Rattle.commands.specs.Field.{fields_bytes}
use Rattle.commands.specs.Answer.{notice_fields}
use Rattle.step.specs.Promise.{notice_at}
use Rattle.writing.specs.Inside.Notices.{kind_of}
use Rattle.writing.proofs.ItemSteps.{each_notice}
use Rattle.writing.proofs.notice.put_notices.Goals as goal

pub returns-clause-stored : goal.returns-clause-stored
returns-clause-stored g c =
    let told = notice_at (kind_of c.args.kind) (g.T.Readable.shape c.args.t.now) (g.T.Readable.words c.args.t.now) in
    rw (← each_notice told c.args.count)
    (c.put_items.ensures.stored (λ i. fields_bytes (notice_fields (told i)))
    (λ i h x given. ap (λ n. fields_bytes (notice_fields n)) (search rules)))
