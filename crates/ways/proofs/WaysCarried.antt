-- Ways that the edges in use carry, over any number of them: one more is found where as many losses as are carried part nothing, and taken;
-- one along used edges is apart from what goes along the edges that are used without it.
use mathlib.Core.Bool.{Bool, true, false, cond, ◌||◌}
use mathlib.Core.List.{List, [], ◌∷◌}
use mathlib.Core.Path.{◌≡◌, refl, ap, subst, fun_ext}
use Prim.Native.Nat.{ℕ, suc, ◌<◌}
use native.Mathlib.Omega.{arith}
use Rattle.graph.specs.Lists.{is_in}
use Rattle.graph.specs.Network.{Network, Proper, MateRule, mates, joined}
use Rattle.graph.specs.EdgeConnected.{Outlives, loss_of_all}
use Rattle.graph.specs.Route.{apart}
use Rattle.graph.proofs.Truth.{false_of_not, not_both}
use Rattle.graph.proofs.Routes.{apart_by}
use Rattle.ways.specs.Search.{way}
use Rattle.ways.specs.Used.{Used, is_used, one_more, way_taken}
use Rattle.ways.specs.Balance.{loss_of_all as lost_together}
use Rattle.ways.specs.TwoRoutes.{edges_of, way_more, with_one_more, way_used}
use Rattle.ways.proofs.UsedSteps.{way_usable, more_fits}
use Rattle.ways.proofs.Balance.{one_way_more}
use Rattle.ways.proofs.BalanceCuts.{no_way_more_parts}
use Rattle.ways.proofs.TwoRoutes.{Carries, WayFound, along_uses_none, along_frees, unreached, unreached_shut, way_found, along_goes}

-- what is lost with a list of edges is said in two ways: where balance is spoken of, and where losses are counted
pub same_loss : (g : Network) (ss : List ℕ) → lost_together g ss ≡ loss_of_all g ss
unfolding lost_together loss_of_all
same_loss g [] = refl
same_loss g (s ∷ ss) = fun_ext (λ t. either (mates g s t) (ap (λ (lost : ℕ → Bool). lost t) (same_loss g ss)))
  where
    either : (b : Bool) {x y : Bool} → x ≡ y → cond b true x ≡ (b || y)
    either true e = refl
    either false e = e

module _ (g : Network) (proper : Proper g) (rule : MateRule g.rule) (a b : ℕ) (known : b < g.vertices) where
  module _ (u : Used) (k : ℕ) (c : Carries g u a b k) where
    -- where a and b outlive as many losses as ways are carried, one way more is found
    pub more_found_lem : Outlives k g a b → WayFound g (one_more g u) a b
    more_found_lem outlive = way_found g proper b known (one_more g u) a (λ p q.
        let shut = unreached_shut g proper b known (one_more g u) in
        let cut = no_way_more_parts g rule u c.usable (unreached g (one_more g u) b) shut a b k c.balanced p q in
        not_both (outlive cut.edges (omega (arith, cut.many)) (λ s i. c.usable.known s (cut.used s i)))
        (subst (λ (lost : ℕ → Bool). joined g lost a b ≡ false) (same_loss g cut.edges) cut.parted))

    -- and with one that is found one way more is carried
    pub one_more_lem : WayFound g (one_more g u) a b → Carries g (with_one_more g a b u) a b (suc k)
    unfolding with_one_more way_more
    one_more_lem f =
        let ps = way g (one_more g u) a b in
        record {
          usable = way_usable g rule c.usable (more_fits g rule u a b ps f.lead f.all_allowed_lem f.differ);
          balanced = one_way_more g u a b k ps f.lead f.differ rule f.all_allowed_lem c.balanced;
        }

  module _ (u : Used) (k : ℕ) (c : Carries g u a b (suc k)) where
    -- the edges of a way along used edges are used
    pub along_uses : (t : ℕ) → is_in t (edges_of (way_used g a b u)) ≡ true → is_used u t ≡ true
    along_uses t i = (along_frees (along_goes g proper rule a b known u k c) t i).0

    -- it is apart from what goes along edges that are used without it: no two used edges are mates, and its own are used no longer
    pub along_apart : (ts : List ℕ) → ((t : ℕ) → is_in t ts ≡ true → is_used (way_taken u a (way_used g a b u)) t ≡ true)
        → apart g (edges_of (way_used g a b u)) ts ≡ true
    along_apart ts left = apart_by g (edges_of (way_used g a b u)) ts (λ s t i j. false_of_not (mates g s t) (λ m.
        let gone = along_frees (along_goes g proper rule a b known u k c) s i in
        let one = c.usable.no_mates s t gone.0 (along_uses_none (along_goes g proper rule a b known u k c) t (left t j)) m in
        not_both (left t j) (rw one at gone.1)))
