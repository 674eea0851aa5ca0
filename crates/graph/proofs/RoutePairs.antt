-- Pairs of routes that serve two vertices, and pairs that do not, computed.
use mathlib.Core.Bool.{true, false}
use mathlib.Core.List.{map}
use mathlib.Core.Path.{◌≡◌, refl}
use lib.ListN.{length, replicate}
use Rattle.graph.specs.Lists.{all_in, is_in, distinct}
use Rattle.graph.specs.Network.{edge_between, edge_in_duct, other_end, parallel, one_duct, edge_count, edge, mates}
use Rattle.graph.specs.Cycle.{joins, leads}
use Rattle.graph.specs.Travel.{visited}
use Rattle.graph.specs.Route.{steps_along, is_route, apart, serve}
use Rattle.graph.specs.Examples.{duct_network, route_example, offer, serving, offers_that_serve, offers_that_do_not}

-- each of these serves
pub offers-serve : map serving offers_that_serve ≡ replicate (length offers_that_serve) true
unfolding route_example offer serving offers_that_serve duct_network edge_between edge_in_duct all_in is_in distinct other_end parallel one_duct edge_count edge mates joins leads visited steps_along is_route apart serve
offers-serve = refl

-- and none of those
pub offers_do_not_serve : map serving offers_that_do_not ≡ replicate (length offers_that_do_not) false
unfolding route_example offer serving offers_that_do_not duct_network edge_between edge_in_duct all_in is_in distinct other_end parallel one_duct edge_count edge mates joins leads visited steps_along is_route apart serve
offers_do_not_serve = refl
