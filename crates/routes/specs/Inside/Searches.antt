-- The search in scratch words.
use Rattle.std.specs.Prelude.{Bool, true, false, not, cond, List, ◌≡◌, ℕ, suc, ◌<◌, eqb}
use Rattle.graph.specs.Lists.{is_in}
use Rattle.graph.specs.Network.{Network, edge, edge_count, touches}
use Rattle.ways.specs.Search.{Allowed, Found, look, look_below, turn, search, way_by, way, step_of, Orderly}
use Rattle.ways.specs.Used.{Used, one_more, along_used, Usable}
use Rattle.numbers.specs.declared.Shape.{Shape}
use Rattle.forest.specs.Promise.{network_in, vertex_scratch}
use Rattle.routes.specs.declared.search.Allowance.{Allowance}
use Rattle.routes.specs.declared.search.Allowance.TheVariants as A
use Rattle.routes.specs.Inside.Frame.{next_column, order_column, Only, search_only, Written}
use Rattle.routes.specs.declared.uses.Use.{Use}
use Rattle.routes.specs.declared.uses.Use.TheVariants as U
use Rattle.routes.specs.Inside.Lists.{Listed}

-- A step may be taken along an edge of this use, from its left end or from its right: one of one way more along an edge of which no mate is
-- used, or back along a used one; one along used edges as they are used.
unfoldable pub may_step : Allowance → Use → Bool → Bool
may_step A.OneMore U.Free left = true
may_step A.OneMore U.MateUsed left = false
may_step A.OneMore U.FromLeft left = not left
may_step A.OneMore U.FromRight left = left
may_step A.AlongUsed U.Free left = false
may_step A.AlongUsed U.MateUsed left = false
may_step A.AlongUsed U.FromLeft left = left
may_step A.AlongUsed U.FromRight left = not left

-- The steps that a search may take, by what is used.
unfoldable pub allowed_by : Network → Used → Allowance → Allowed
allowed_by g u A.OneMore = one_more g u
allowed_by g u A.AlongUsed = along_used u

-- The word of vertex x for its step towards the goal: 0 where it is not reached, 1 at the goal, else 1 + the edge.
unfoldable pub next_word : ℕ → Found → ℕ → ℕ
next_word b f x = cond (eqb x b) 1 (step_of f.links x)

abbrev pub NextIs : Shape → ℕ → Found → List ℕ → Type 0
NextIs shape b f t = (x : ℕ) → x < shape.vertices → vertex_scratch shape t next_column x ≡ next_word b f x

-- A search for ways to b is under way: the lists stand with what is used, and what was found stands in the two columns.
pub record Searching (shape : Shape) (g : Network) (u : Used) (b : ℕ) (f : Found) (t : List ℕ) (found : ℕ) : Type 0 where
  pub network_is : network_in shape t ≡ g
  pub listed : Listed shape g u t
  pub usable : Usable g u
  pub goal_known : b < g.vertices
  pub orderly : Orderly g b f
  pub next_is : NextIs shape b f t
  pub order_is : Written shape order_column found t f.order

-- What is done to the table takes a search on to what a definition makes of what was found.
pub record Goes (shape : Shape) (allowance : Allowance) (on : Network → Allowed → Found → Found) (ready : Network → Found → Type 0)
    (found : ℕ) (old new : List ℕ) (found' : ℕ) : Type 0 where
  pub only : Only shape search_only old new
  pub goes : (g : Network) (u : Used) (b : ℕ) (f : Found) → Searching shape g u b f old found → ready g f
      → Searching shape g u b (on g (allowed_by g u allowance) f) new found'

-- Edge s is seen from vertex y, which is reached and an end of it.
abbrev pub Looked : Shape → Allowance → ℕ → ℕ → ℕ → List ℕ → List ℕ → ℕ → Type 0
Looked shape allowance y s =
    Goes shape allowance (λ g allowed f. look g allowed y s f)
    (λ g f. (is_in y f.order ≡ true) × (touches (edge g s) y ≡ true))

-- All edges are seen from vertex y, which is reached.
abbrev pub LookedAll : Shape → Allowance → ℕ → ℕ → List ℕ → List ℕ → ℕ → Type 0
LookedAll shape allowance y =
    Goes shape allowance (λ g allowed f. look_below g allowed y (edge_count g) f) (λ g f. is_in y f.order ≡ true)

-- Turn i.
abbrev pub Turned : Shape → Allowance → ℕ → ℕ → List ℕ → List ℕ → ℕ → Type 0
Turned shape allowance i = Goes shape allowance (λ g allowed f. turn g allowed i f) (λ g f. Unit)

-- Vertex x is written down as reached by a step along edge s, if there is a word left in the order.
pub record Reached (shape : Shape) (x s found : ℕ) (old new : List ℕ) (found' : ℕ) : Type 0 where
  pub only : Only shape search_only old new
  pub one_more_lem : found < shape.vertices → found' ≡ suc found
  pub next_is : found < shape.vertices → (y : ℕ) → y < shape.vertices
      → vertex_scratch shape new next_column y ≡ cond (eqb y x) (suc s) (vertex_scratch shape old next_column y)
  pub order_is : found < shape.vertices → (i : ℕ) → i < shape.vertices
      → vertex_scratch shape new order_column i ≡ cond (eqb i found) x (vertex_scratch shape old order_column i)

-- The goal alone is reached.
pub record Begun (shape : Shape) (b : ℕ) (old new : List ℕ) : Type 0 where
  pub only : Only shape search_only old new
  pub goal_next : (x : ℕ) → x < shape.vertices → vertex_scratch shape new next_column x ≡ cond (eqb x b) 1 0
  pub goal_first : vertex_scratch shape new order_column 0 ≡ b

-- What was found stands in the words of steps, and the way from a by it is that of the whole search.
pub record WayStands (shape : Shape) (g : Network) (allowed : Allowed) (a b : ℕ) (t : List ℕ) : Type 0 where
  pub so_far : Found
  pub orderly : Orderly g b so_far
  pub next_is : NextIs shape b so_far t
  pub reached : is_in a so_far.order ≡ true
  pub same_way : way_by so_far.links a ≡ way g allowed a b

-- A search for a way from a to b, which may end as soon as a is reached.
pub record Searched (shape : Shape) (allowance : Allowance) (a b : ℕ) (old new : List ℕ) : Type 0 where
  pub only : Only shape search_only old new
  pub found : (g : Network) (u : Used) → network_in shape old ≡ g → Listed shape g u old → Usable g u
      → is_in a (search g (allowed_by g u allowance) b).order ≡ true → WayStands shape g (allowed_by g u allowance) a b new
