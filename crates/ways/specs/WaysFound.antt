-- Ways that are found one after another, each beside what those before it use (request 12: how many losses two vertices outlive).
use Rattle.std.specs.Prelude.{Bool, true, ◌&&◌, ℕ, zero, suc}
use Rattle.graph.specs.Lists.{is_in}
use Rattle.graph.specs.Network.{Network}
use Rattle.ways.specs.Search.{search}
use Rattle.ways.specs.Used.{Used, unused, one_more}
use Rattle.ways.specs.TwoRoutes.{with_one_more}

-- One way more is found from a to b, beside what is used.
unfoldable pub more_found : Network → ℕ → ℕ → Used → Bool
more_found g a b u = is_in a (search g (one_more g u) b).order

-- What is used when k ways from a to b are taken, one after another.
unfoldable pub ways_taken : Network → ℕ → ℕ → ℕ → Used
ways_taken g a b zero = unused
ways_taken g a b (suc k) = with_one_more g a b (ways_taken g a b k)

-- k ways from a to b are found, one after another.
unfoldable pub ways_found : Network → ℕ → ℕ → ℕ → Bool
ways_found g a b zero = true
ways_found g a b (suc k) = ways_found g a b k && more_found g a b (ways_taken g a b k)
