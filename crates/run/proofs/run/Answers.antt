-- `run` comes to what the definition's run reports and answers.
use Rattle.std.proofs.Common.{rules, arith}
use Rattle.run.proofs.Needed.{own_lent}
use Rattle.run.proofs.WholeAnswered.{run_promised}
use Rattle.run.proofs.run.Goals as goal

pub run_from-requires : goal.run_from-requires
run_from-requires c = (c.requires.3, omega arith)

pub returns : goal.returns
returns c = run_promised _ _ c.requires.3 c.new-n.ensures.begun (own_lent _ _ _ c.words_needed-own.ensures (omega (arith, c.words_needed-own.ensures)) (omega (arith, c.words_needed-own.ensures))) c.run_from.ensures.has_come (search rules)
