-- `carry::shared_mesh` finds the mesh that two cabinets share.
use Rattle.step.proofs.Carries.{asked_in, shared_carried}
use Rattle.step.proofs.carry.shared_mesh.Goals as goal

pub returns : goal.returns
returns c = asked_in (shared_carried c.args.n.now.holds c.shared_block.ensures)
