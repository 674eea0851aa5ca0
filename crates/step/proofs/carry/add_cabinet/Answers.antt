-- `carry::add_cabinet` adds a cabinet.
use Rattle.step.proofs.Carries.{cabinet_carried}
use Rattle.step.proofs.carry.add_cabinet.Goals as goal

pub returns : goal.returns
returns c = record { carried = cabinet_carried c.add_vertex.ensures.added; shape = c.add_vertex.ensures.shape; reference = c.add_vertex.ensures.reference }
