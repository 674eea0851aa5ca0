-- The rules of requests 3 and 7, by which an edge is lost with the edges of its duct between the same two vertices: they are rules of mates.
-- Where no duct is told, an edge has no mate under the one; under the other it has those with none told either.
use mathlib.Core.Bool.{true, false, not, ◌&&◌}
use mathlib.Core.Logic.{◌≢◌}
use mathlib.Core.Path.{◌≡◌, sym, ◌∙◌}
use lib.Dec.{eqb}
use Rattle.graph.specs.Network.{Edge, MateRule, same_duct, one_duct, parallel}
use Rattle.graph.specs.Cycle.{joins}
use Rattle.graph.proofs.Truth.{false_of_not, not_of_false, false_of_not_true, and_left, and_right, and_both, eqb_eq, eq-eqb, ne_eqb, eqb_ne}
use Rattle.graph.proofs.Walks.{joins-ends, joins_swap}
use Rattle.graph.proofs.Mates.{parallel_carries}

-- an edge is parallel to one that is parallel to it
pub parallel_sym : (e f : Edge) → parallel e f ≡ true → parallel f e ≡ true
unfolding parallel joins
parallel_sym e f p = parallel_carries (λ x y. joins f x y ≡ true) (λ x y k. joins_swap f y x ∙ k) e f p (joins-ends f)

-- and to one that is parallel to a parallel one
pub parallel_trans : (e f h : Edge) → parallel e f ≡ true → parallel f h ≡ true → parallel e h ≡ true
unfolding parallel joins
parallel_trans e f h p q =
    parallel_sym h e (parallel_carries (λ x y. joins h x y ≡ true) (λ x y k. joins_swap h y x ∙ k) e f p (parallel_sym f h q))

-- two edges are lost together exactly if they lie in one duct and are parallel
pub same_duct_lem : (e f : Edge) → same_duct e f ≡ true → (e.duct ≢ 0) × (e.duct ≡ f.duct) × (parallel e f ≡ true)
unfolding same_duct
same_duct_lem e f h = (
  eqb_ne e.duct 0 (false_of_not_true (eqb e.duct 0) (and_left (not (eqb e.duct 0)) _ first)),
  eqb_eq e.duct f.duct (and_right (not (eqb e.duct 0)) _ first),
  and_right (not (eqb e.duct 0) && eqb e.duct f.duct) _ h,
)
  where
    first : (not (eqb e.duct 0) && eqb e.duct f.duct) ≡ true
    first = and_left (not (eqb e.duct 0) && eqb e.duct f.duct) _ h

pub in_same_duct : (e f : Edge) → e.duct ≢ 0 → e.duct ≡ f.duct → parallel e f ≡ true → same_duct e f ≡ true
unfolding same_duct
in_same_duct e f some one p =
    and_both (and_both (not_of_false (ne_eqb e.duct 0 some)) (eq-eqb e.duct f.duct one)) p

-- it is a rule of mates
pub same_duct-mates : MateRule same_duct
same_duct-mates =
    record {
      symmetric = λ e f h.
          let k = same_duct_lem e f h in
          in_same_duct f e (λ z. k.0 (k.1 ∙ z)) (sym k.1) (parallel_sym e f k.2);
      transitive = λ e f i h k.
          let u = same_duct_lem e f h in
          let v = same_duct_lem f i k in
          in_same_duct e i u.0 (u.1 ∙ v.1) (parallel_trans e f i u.2 v.2);
      only_parallel = λ e f h. (same_duct_lem e f h).2;
    }

-- an edge with no duct told is lost with no other
pub no_duct_no_mate : (e f : Edge) → f.duct ≡ 0 → same_duct e f ≡ false
no_duct_no_mate e f none = false_of_not (same_duct e f) (λ h. let k = same_duct_lem e f h in k.0 (k.1 ∙ none))

-- under the rule of request 7 two edges are lost together exactly if their ducts are the same, told or not, and they are parallel
pub one_duct_lem : (e f : Edge) → one_duct e f ≡ true → (e.duct ≡ f.duct) × (parallel e f ≡ true)
unfolding one_duct
one_duct_lem e f h = (
  eqb_eq e.duct f.duct (and_left (eqb e.duct f.duct) (parallel e f) h),
  and_right (eqb e.duct f.duct) (parallel e f) h,
)

pub in_one_duct : (e f : Edge) → e.duct ≡ f.duct → parallel e f ≡ true → one_duct e f ≡ true
unfolding one_duct
in_one_duct e f one p = and_both (eq-eqb e.duct f.duct one) p

-- it is a rule of mates
pub one_duct-mates : MateRule one_duct
one_duct-mates =
    record {
      symmetric = λ e f h.
          let k = one_duct_lem e f h in
          in_one_duct f e (sym k.0) (parallel_sym e f k.1);
      transitive = λ e f i h k.
          let u = one_duct_lem e f h in
          let v = one_duct_lem f i k in
          in_one_duct e i (u.0 ∙ v.0) (parallel_trans e f i u.1 v.1);
      only_parallel = λ e f h. (one_duct_lem e f h).1;
    }

-- an edge is lost with none of another duct
pub other_duct_no_mate : (e f : Edge) → e.duct ≢ f.duct → one_duct e f ≡ false
other_duct_no_mate e f other = false_of_not (one_duct e f) (λ h. other (one_duct_lem e f h).0)
