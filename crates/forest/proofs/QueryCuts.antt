-- The cut vertices between two vertices of one component: the climb writes them down, in their order.
use Rattle.std.proofs.Common.{◌≡◌, ℕ, suc, ◌-◌, ◌<◌, true, List, sym, refl, ◌∙◌}
use Rattle.graph.specs.Below.{tabulate}
use Rattle.graph.specs.Network.{Network}
use Rattle.graph.specs.Groups.{component}
use Rattle.graph.specs.Between.{cuts_between}
use Rattle.graph.proofs.PathCuts.{inner, cuts_of_block_path}
use Rattle.numbers.specs.declared.Limits.{Limits}
use Rattle.numbers.specs.declared.Shape.{Shape}
use Rattle.forest.specs.Inside.Climb.{path_vertex, climb_table, climb_route}
use Rattle.forest.specs.Inside.Route.{step_at, steps_of}
use Rattle.forest.specs.Inside.Held.{sound}
use Rattle.forest.specs.Inside.Valid.{network_of, book_of}
use Rattle.forest.specs.Inside.Queries.{cuts_count}
use Rattle.forest.specs.Promise.{Holds, state_of, network_in, cut_at, ListWritten}
use Rattle.forest.proofs.ClimbLaw.{Climbs, climb_law}
use Rattle.forest.proofs.ValidFrame.{path_only, list_written}
use Rattle.forest.proofs.QueryPath.{inner_tabulate}

-- the vertices between the ends of a path in the table, as they are written down
inner_written : (t : List ℕ) (limits : Limits) (k : ℕ) → inner (steps_of t limits k) ≡ tabulate (k - 1) (λ i. path_vertex t limits (suc i))
unfolding steps_of step_at
inner_written t limits k = inner_tabulate k (path_vertex t limits) (step_at t limits) (λ i. refl)

-- the cut vertices between a and b are written down
pub cuts_written : (shape : Shape) (t : List ℕ) → Holds shape t → (a b : ℕ) → a < shape.vertices → b < shape.vertices
    → component (network_in shape t) a b ≡ true
    → let t' = climb_table t shape.limits a b in
    ListWritten shape t t' (cut_at shape t') (cuts_count t shape.limits a b) (cuts_between (network_in shape t) a b)
unfolding cuts_count cut_at Holds state_of book_of
cuts_written shape t holds a b h l joined =
    list_written shape holds (path_only climbs.frame) _ _ _
    (sym (cuts_of_block_path g (sound holds).valid.proper climbs.path ∙ inner_written (climb_table t limits a b) limits (climb_route t limits a b).steps))
  where
    limits : Limits
    limits = shape.limits

    g : Network
    g = network_of limits shape.vertices shape.edges t

    climbs : Climbs limits shape.vertices shape.edges t g a b (climb_table t limits a b) (climb_route t limits a b)
    climbs = climb_law limits shape.vertices shape.edges t (sound holds).valid a b h l joined
