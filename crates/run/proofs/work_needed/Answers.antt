-- `work_needed` gives W: the words that the table takes, and 64 more.
use native.Mathlib.Omega.{arith}
use Rattle.forest.specs.Promise.{words_needed_lem}
use Rattle.run.proofs.Needed.{work_is_words}
use Rattle.run.proofs.work_needed.Goals as goal

pub overflow_add-result : goal.overflow_add-result
overflow_add-result c = record { fits = omega (arith, c.words_needed.ensures, words_needed_lem c.args.limits) }

pub returns : goal.returns
returns c = omega (arith, c.words_needed.ensures, work_is_words c.args.limits)
