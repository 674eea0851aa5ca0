-- Which seams are good (request 9), and which are bad: those that name a cabinet which their network lacks, or duct 0.
use mathlib.Core.Bool.{true, false, ◌&&◌, false≢true}
use mathlib.Core.List.{List, [], ◌∷◌, ◌++◌}
use mathlib.Core.Logic.{◌↔◌, ◌⊎◌, inl, inr}
use mathlib.Core.Path.{◌≡◌, refl, sym, ap}
use Prim.Native.Nat.{ℕ, ◌≤◌, ◌<◌}
use native.Mathlib.Omega.{arith}
use lib.Dec.{eqb, ltb}
use Rattle.graph.specs.Lists.{all_in}
use Rattle.graph.proofs.Truth.{true_or_false, false_of_not, false_of_not_true, not_of_false, not_both, and_left, and_right, and_both, eqb_eq, eq-eqb, ltb_lt, ltb_ge}
use Rattle.graph.proofs.Members.{all_in_behind}
use Rattle.commands.specs.Join.{Seam, good_seam}

-- A good seam, where the networks have so many cabinets.
pub record Good (cabinets others : ℕ) (x : Seam) : Type 0 where
  pub first_known : x.first < cabinets
  pub second_known : x.second < others
  pub some_duct_lem : eqb x.duct 0 ≡ false

-- And a bad one.
abbrev pub Bad : ℕ → ℕ → Seam → Type 0
Bad cabinets others x = (cabinets ≤ x.first) ⊎ ((others ≤ x.second) ⊎ (x.duct ≡ 0))

module _ (cabinets others : ℕ) where
  -- what passes the test is good
  pub good_seam_lem : (x : Seam) → good_seam cabinets others x ≡ true → Good cabinets others x
  unfolding good_seam
  good_seam_lem x e =
      let known = and_left (ltb x.first cabinets && ltb x.second others) _ e in
      record {
        first_known = ltb_lt x.first cabinets (and_left (ltb x.first cabinets) _ known);
        second_known = ltb_lt x.second others (and_right (ltb x.first cabinets) _ known);
        some_duct_lem = false_of_not_true (eqb x.duct 0) (and_right (ltb x.first cabinets && ltb x.second others) _ e);
      }

  -- what fails it is bad
  bad_seam_lem : (x : Seam) → good_seam cabinets others x ≡ false → Bad cabinets others x
  unfolding good_seam
  bad_seam_lem x e = go (true_or_false (ltb x.first cabinets)) (true_or_false (ltb x.second others)) (true_or_false (eqb x.duct 0))
    where
      go : (ltb x.first cabinets ≡ true) ⊎ (ltb x.first cabinets ≡ false)
          → (ltb x.second others ≡ true) ⊎ (ltb x.second others ≡ false)
          → (eqb x.duct 0 ≡ true) ⊎ (eqb x.duct 0 ≡ false)
          → Bad cabinets others x
      go (inr p) q r = inl (ltb_ge x.first cabinets p)
      go (inl p) (inr q) r = inr (inl (ltb_ge x.second others q))
      go (inl p) (inl q) (inl r) = inr (inr (eqb_eq x.duct 0 r))
      go (inl p) (inl q) (inr r) = absurd (not_both (and_both (and_both p q) (not_of_false r)) e)

  -- and what is bad fails it
  pub bad_fails : (x : Seam) → Bad cabinets others x → good_seam cabinets others x ≡ false
  bad_fails x bad = false_of_not (good_seam cabinets others x) (λ e. go bad (good_seam_lem x e))
    where
      go : Bad cabinets others x → Good cabinets others x → ⊥
      go (inl h) good = omega (arith, h, good.first_known)
      go (inr (inl h)) good = omega (arith, h, good.second_known)
      go (inr (inr h)) good = not_both (eq-eqb x.duct 0 h) good.some_duct_lem

  -- A bad one among seams, and where it stands.
  pub record BadAmong (seams : List Seam) : Type 0 where
    pub before : List Seam
    pub seam : Seam
    pub behind : List Seam
    pub stands : seams ≡ before ++ seam ∷ behind
    pub is_bad : Bad cabinets others seam

  -- not all are good: there is such a one
  found : (seams : List Seam) → all_in (good_seam cabinets others) seams ≡ false → BadAmong seams
  unfolding all_in
  found [] e = absurd (false≢true (sym e))
  found (x ∷ xs) e = go (true_or_false (good_seam cabinets others x)) (found xs)
    where
      go : (good_seam cabinets others x ≡ true) ⊎ (good_seam cabinets others x ≡ false)
          → (all_in (good_seam cabinets others) xs ≡ false → BadAmong xs) → BadAmong (x ∷ xs)
      go (inl good) later =
          let w = later (rw good at e) in
          record { before = x ∷ w.before; seam = w.seam; behind = w.behind; stands = ap (λ (l : List Seam). x ∷ l) w.stands; is_bad = w.is_bad }
      go (inr bad) later = record { before = []; seam = x; behind = xs; stands = refl; is_bad = bad_seam_lem x bad }

  missed : (seams : List Seam) → BadAmong seams → all_in (good_seam cabinets others) seams ≡ false
  unfolding all_in
  missed seams w =
      false_of_not _
      (λ e. not_both (and_left _ _ (all_in_behind (good_seam cabinets others) w.before (w.seam ∷ w.behind) (rw w.stands at e)))
      (bad_fails w.seam w.is_bad))

  -- Not all seams are good exactly if one of them is bad.
  pub bad_among_exactly : (seams : List Seam) → (all_in (good_seam cabinets others) seams ≡ false) ↔ BadAmong seams
  bad_among_exactly seams = (found seams, missed seams)
