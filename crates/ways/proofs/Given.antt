-- The routes that this register gives on the examples, and how many ways are found, computed.
use mathlib.Core.Bool.{true}
use mathlib.Core.Path.{◌≡◌, refl}
use Rattle.graph.specs.Below.{any_below}
use Rattle.graph.specs.Lists.{all_in, is_in}
use Rattle.graph.specs.Network.{edge_between, edge_in_duct, one_duct, parallel, edge, edge_count, touches, other_end, mates}
use Rattle.ways.specs.Search.{at_goal, linked, look, look_below, turn, turns, search, way_by, way}
use Rattle.ways.specs.Used.{unused, is_used, mate_used, one_more, along_used, step_taken, way_taken}
use Rattle.ways.specs.TwoRoutes.{edges_of, way_more, with_one_more, none_back, way_used, routes_used, two_routes}
use Rattle.ways.specs.WaysFound.{more_found, ways_taken, ways_found}
use Rattle.ways.specs.Examples.{ladder, ladder_routes, beside_mates, beside_mates_routes, all_joined, two_apart, exactly_found, ways_counted}

-- the second way gives the rung back, and the routes are found along what is then used
pub ladder_routes_given : two_routes ladder 0 5 ≡ ladder_routes
unfolding ladder ladder_routes any_below is_in edge_between one_duct parallel edge edge_count touches other_end mates at_goal linked look look_below turn turns search way_by way unused is_used mate_used one_more along_used step_taken way_taken edges_of way_more with_one_more none_back way_used routes_used two_routes
ladder_routes_given = refl

-- a mate is no second route; the two ways found are the routes
pub beside_mates_given : two_routes beside_mates 0 1 ≡ beside_mates_routes
unfolding beside_mates beside_mates_routes any_below is_in edge_between edge_in_duct one_duct parallel edge edge_count touches other_end mates at_goal linked look look_below turn turns search way_by way unused is_used mate_used one_more along_used step_taken way_taken edges_of way_more with_one_more none_back way_used routes_used two_routes
beside_mates_given = refl

-- so many ways are found on each of the examples, and no more
pub ways_counted_lem : all_in exactly_found ways_counted ≡ true
unfolding ladder beside_mates all_joined two_apart exactly_found ways_counted all_in any_below is_in edge_between edge_in_duct one_duct parallel edge edge_count touches other_end mates at_goal linked look look_below turn turns search way_by way unused is_used mate_used one_more step_taken way_taken way_more with_one_more more_found ways_taken ways_found
ways_counted_lem = refl
