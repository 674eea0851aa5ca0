-- Which spans are mates (request 7), by the commands that add them: two of 02 between the same two cabinets, two of 0B there in one duct, and
-- none of 02 with one of 0B.
use mathlib.Core.Bool.{true, false, not, ◌&&◌}
use mathlib.Core.Logic.{◌≢◌}
use mathlib.Core.Option.{none}
use mathlib.Core.Path.{◌≡◌, refl, sym}
use Prim.Native.Nat.{ℕ}
use lib.Dec.{eqb}
use Rattle.graph.specs.Lists.{all_in}
use Rattle.graph.specs.Network.{one_duct, parallel, edge_between, edge_in_duct}
use Rattle.graph.proofs.Truth.{and_left, false_of_not_true, eqb_ne}
use Rattle.graph.proofs.Ducts.{other_duct_no_mate}
use Rattle.naming.specs.State.{State}
use Rattle.commands.specs.Command.{add_duct_span}
use Rattle.commands.specs.Facts.{facts, demands_of}
use Rattle.commands.specs.Refusal.{Capacities, refusal_number, met, cause, meets, refusal_of}
use Rattle.commands.specs.Register.{register_rule}
use Rattle.commands.proofs.Causes.{not_refused_exactly}

-- two spans of 02 are mates exactly if they are between the same two cabinets, in either direction
pub mates_of_02 : (a b x y : ℕ) → register_rule (edge_between a b) (edge_between x y) ≡ parallel (edge_between a b) (edge_between x y)
unfolding register_rule one_duct edge_between
mates_of_02 a b x y = refl

-- two of 0B exactly if they are so and in one duct
pub mates_of_0b : (a b d x y e : ℕ)
    → register_rule (edge_in_duct a b d) (edge_in_duct x y e) ≡ (eqb d e && parallel (edge_in_duct a b d) (edge_in_duct x y e))
unfolding register_rule one_duct edge_in_duct
mates_of_0b a b d x y e = refl

-- the duct of a 0B that is not refused is not 0
pub duct_of-accepted : (caps : Capacities) (s : State) (a b d : ℕ) → refusal_of caps s (add_duct_span a b d) ≡ none → d ≢ 0
unfolding meets demands_of facts met cause refusal_number all_in
duct_of-accepted caps s a b d accepted =
    let some_duct_lem = ((not_refused_exactly caps s (add_duct_span a b d)).0 accepted).some_duct_lem in
    eqb_ne d 0 (false_of_not_true (eqb d 0) (and_left (not (eqb d 0)) true some_duct_lem))

-- so no span of 0B is a mate of one of 02
pub no_mates_across : (caps : Capacities) (s : State) (a b d : ℕ) → refusal_of caps s (add_duct_span a b d) ≡ none
    → (x y : ℕ) → register_rule (edge_between x y) (edge_in_duct a b d) ≡ false
unfolding register_rule edge_between edge_in_duct
no_mates_across caps s a b d accepted x y =
    other_duct_no_mate (edge_between x y) (edge_in_duct a b d) (λ same. duct_of-accepted caps s a b d accepted (sym same))
