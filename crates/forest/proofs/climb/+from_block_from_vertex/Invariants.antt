-- Each call has fewer steps left: the measure is twice the remaining steps, and one more for a block.
use Rattle.std.proofs.Common.{◌+◌, ◌*◌}
use Rattle.forest.proofs.climb.+from_block_from_vertex.Given as goal

abbrev pub decreases-from_block : goal.decreases-from_block
decreases-from_block l = 2 * l.remaining + 1

abbrev pub decreases-from_vertex : goal.decreases-from_vertex
decreases-from_vertex l = 2 * l.remaining
