-- The answer buffer takes a reply: it refuses where the answer is longer than the room that is left, and writes it into the tail where it is not.
use mathlib.Core.Path.{refl}
use native.Mathlib.Omega.{arith}
use Rattle.run.specs.Inside.Course.{over_tail}
use Rattle.run.proofs.answered.BufferAnswers.take.Goals as goal

pub returns : goal.returns
returns c = (
  record {
    room = omega (arith, c.if-self-pace.false, c.size-size.ensures);
    stands = over_tail _ _ _ _ c.write_reply.ensures;
    counted = omega (arith, c.size-size.ensures);
  },
  refl,
)
