-- The path of blocks that a climb leaves in the table, as a list of steps.
use Rattle.std.specs.Prelude.{ℕ, suc, List}
use Rattle.graph.specs.Below.{tabulate}
use Rattle.graph.specs.Cycle.{Step}
use Rattle.numbers.specs.declared.Limits.{Limits}
use Rattle.forest.specs.Inside.Climb.{path_vertex, path_edge}

-- Step i of the path: along an edge of its block, to the vertex behind it.
unfoldable pub step_at : List ℕ → Limits → ℕ → Step
step_at t limits i = record { along = path_edge t limits i; to = path_vertex t limits (suc i) }

-- The first k steps of the path.
unfoldable pub steps_of : List ℕ → Limits → ℕ → List Step
steps_of t limits k = tabulate k (step_at t limits)
