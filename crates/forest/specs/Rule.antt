-- Which edges of the networks that a table holds are lost together.
use Rattle.std.specs.Prelude.{◌≡◌, refl}
use Rattle.graph.specs.Network.{Rule, one_duct}

-- The rule of mates of the networks that a table holds: an edge is lost with the edges of its duct between the same two vertices, and those
-- with no duct told lie in one.
unfoldable pub table_rule : Rule
table_rule = one_duct

-- it is the rule of request 7
pub table_rule_lem : table_rule ≡ one_duct
unfolding table_rule
table_rule_lem = refl
