-- `write::write_list` writes a byte, a count and numbers.
use mathlib.Core.List.{◌∷◌}
use mathlib.Core.Path.{◌∙◌, refl, ap}
use Rattle.commands.specs.Bytes.{two_bytes}
use Rattle.storing.proofs.Sets.{sets_behind}
use Rattle.writing.specs.Inside.Items.{each_bytes}
use Rattle.writing.specs.Inside.Writes.{list_bytes}
use Rattle.writing.proofs.write.write_list.Goals as goal

pub returns : goal.returns
unfolding list_bytes two_bytes
returns g c = λ f given.
    c.put_items.ensures.stored (λ i. two_bytes (f i)) (λ i h x is. ap two_bytes (given i h x is))
    ∙ rw c.put_numbers.ensures
    (sets_behind c.args.out.now 0 3 (c.args.code ∷ two_bytes c.args.count) (each_bytes (λ i. two_bytes (f i)) c.args.count) refl)
