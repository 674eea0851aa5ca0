-- `unanswered::run_unanswered` comes to what the definition's run reports.
use mathlib.Core.List.{[]}
use Rattle.std.proofs.Common.{arith}
use Rattle.run.proofs.Needed.{own_lent}
use Rattle.run.proofs.WholeUnanswered.{all_countable, unanswered_promised}
use Rattle.run.proofs.unanswered.run_unanswered.Goals as goal

pub run_from-requires : goal.run_from-requires
run_from-requires c = (c.requires.3, all_countable _ c.requires.3 c.new-n.ensures.begun [])

pub returns : goal.returns
returns c = unanswered_promised _ c.requires.3 c.new-n.ensures.begun (own_lent _ _ _ c.words_needed-own.ensures (omega (arith, c.words_needed-own.ensures)) (omega (arith, c.words_needed-own.ensures))) c.run_from.ensures.has_come
