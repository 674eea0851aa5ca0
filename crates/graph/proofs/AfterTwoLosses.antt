-- Which vertices of some networks outlive two losses, computed.
use mathlib.Core.Path.{◌≡◌, refl}
use Rattle.graph.specs.Below.{all_below, listed, tabulate}
use Rattle.graph.specs.Labels.{relabel, labels, same}
use Rattle.graph.specs.Network.{edge_between, edge_in_duct, parallel, one_duct, edge_count, edge, mates, nothing, loss_of, kept, joined}
use Rattle.graph.specs.Groups.{component, loss_of_both, outlive_two}
use Rattle.graph.specs.Examples.{duct_network}
use Rattle.graph.specs.TwoLossExamples.{classes_of, classed, told, found, without_edges, between_two, rings, two_rings}

-- each vertex outlives two losses with the vertices that are told, and with no others: where there are no edges,
pub classes_without_edges : found without_edges ≡ told without_edges
unfolding classes_of classed told found without_edges duct_network edge_between edge_in_duct all_below listed tabulate relabel labels same parallel one_duct edge_count edge mates nothing loss_of kept joined component loss_of_both outlive_two
classes_without_edges = refl

-- where there are two vertices,
pub classes_between_two : found between_two ≡ told between_two
unfolding classes_of classed told found between_two duct_network edge_between edge_in_duct all_below listed tabulate relabel labels same parallel one_duct edge_count edge mates nothing loss_of kept joined component loss_of_both outlive_two
classes_between_two = refl

-- in rings,
pub classes_in_rings : found rings ≡ told rings
unfolding classes_of classed told found rings duct_network edge_between edge_in_duct all_below listed tabulate relabel labels same parallel one_duct edge_count edge mates nothing loss_of kept joined component loss_of_both outlive_two
classes_in_rings = refl

-- and in two rings
pub classes_in_two_rings : found two_rings ≡ told two_rings
unfolding classes_of classed told found two_rings duct_network edge_between edge_in_duct all_below listed tabulate relabel labels same parallel one_duct edge_count edge mates nothing loss_of kept joined component loss_of_both outlive_two
classes_in_two_rings = refl
