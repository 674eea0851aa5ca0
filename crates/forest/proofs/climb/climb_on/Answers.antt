-- `climb::climb_on` climbs in nests of calls: what is left behind one nest comes to the same as what was left before it.
use Rattle.std.proofs.Common.{arith}
use Rattle.std.proofs.lemmas.Grind.{common_steps}
use Rattle.forest.proofs.ClimbSteps.{climb_rest}
use Rattle.forest.proofs.climb.climb_on.Goals as goal

pub loop-some-preserved : goal.loop-some-preserved
loop-some-preserved c =
    let l = c.loop-some in
    grind (arith, common_steps, climb_rest c.nested-some.result l.remaining l.t.words.now l.t.shape.limits l.r)
