-- The cut vertices between two vertices: exactly those, none twice, in an order that is strict and total on them.
use mathlib.Core.Bool.{true, false, not, ◌&&◌, and_comm}
use mathlib.Core.List.{List, [], reverse}
use mathlib.Core.Logic.{◌⊎◌, inl, inr, ⊎_elim, ◌≢◌}
use mathlib.Core.Path.{◌≡◌, refl, sym, ◌∙◌, ap₂, subst}
use Prim.Native.Nat.{ℕ, ◌<◌}
use lib.Dec.{eqb, ltb}
use Rattle.graph.specs.Lists.{is_in, distinct, ordered}
use Rattle.graph.specs.Network.{Network, Loss, Proper, edge, edge_count, touches, nothing, without, joined}
use Rattle.graph.specs.Groups.{component, parts}
use Rattle.graph.specs.Between.{is_cut_between, cut_before, cuts_between}
use Rattle.graph.proofs.Truth.{true_or_false, false_of_not, not_both, bool_ext, false_of_not_true, and_left, and_right, and_both}
use Rattle.graph.proofs.Truth.{or_cases, or_neither, eqb_eq, eqb_ne, ne_eqb, ltb_lt, lt-ltb, ltb_ge}
use Rattle.graph.proofs.Joined.{joined_refl, joined_sym, joined_trans, joined-edge}
use Rattle.graph.proofs.Ends.{lost_vertex_alone}
use Rattle.graph.proofs.VertexMore.{not_cut_alone}
use Rattle.graph.proofs.Losses.{joined_stays, joined_or_near}
use Rattle.graph.proofs.Sort.{Strict, ordered_unique, is_in_sorted, distinct_sorted, sorted_none}
use Rattle.graph.proofs.Parting.{Parting, parting_strict, parting_ordered, parting_reversed, parts_swap, parts_across, parts_self}

module _ (g : Network) where
  -- an edge is not lost with vertex c if neither of its ends is c
  pub kept_off : (c s : ℕ) → (edge g s).left ≢ c → (edge g s).right ≢ c → without g c s ≡ false
  unfolding without touches
  kept_off c s l r = or_neither (ne_eqb (edge g s).left c l) (ne_eqb (edge g s).right c r)

  -- what is joined to x by edges that do not lead to c is joined to it without c
  pub joined-without : (c : ℕ) (lost : Loss) (x : ℕ) → joined g lost x c ≡ false
      → (y : ℕ) → joined g lost x y ≡ true → joined g (without g c) x y ≡ true
  joined-without c lost x n = joined_stays g lost (without g c) x (λ s h k i. kept_off c s
      (λ e. not_both (subst (λ u. joined g lost x u ≡ true) e i) n)
      (λ e. not_both (subst (λ u. joined g lost x u ≡ true) e
      (joined_trans g lost x (edge g s).left (edge g s).right i (joined-edge g lost s h k))) n))

  -- where the loss of d parts x from c, d is joined to x without c
  pub reached_without : (c d : ℕ) → c ≢ d → (x : ℕ) → joined g (without g d) x c ≡ false → component g x d ≡ true
      → joined g (without g c) x d ≡ true
  unfolding component without touches
  reached_without c d ne x n e = ⊎_elim (stay d) (λ p. p.0 (joined_refl g (without g d) x))
      (joined_or_near Reach g (without g d) nothing
      (λ u v i p j. p (joined_trans g (without g d) x v u j (joined_sym g (without g d) u v i)))
      (λ s h k l. ends s h (or_cases (eqb (edge g s).left d) (eqb (edge g s).right d) l)) x d e)
    where
      stay : (y : ℕ) → joined g (without g d) x y ≡ true → joined g (without g c) x y ≡ true
      stay = joined-without c (without g d) x n

      Reach : ℕ → Type 0
      Reach y = joined g (without g d) x y ≡ true → joined g (without g c) x d ≡ true

      off : (u : ℕ) → joined g (without g d) x u ≡ true → u ≢ c
      off u i q = not_both (subst (λ v. joined g (without g d) x v ≡ true) q i) n

      both : (u v : ℕ) → u ≡ d → (u ≢ c → v ≢ c → joined g (without g c) v u ≡ true) → Reach u × Reach v
      both u v q w = (
        λ i. subst (λ z. joined g (without g c) x z ≡ true) q (stay u i),
        λ i. subst (λ z. joined g (without g c) x z ≡ true) q
            (joined_trans g (without g c) x v u (stay v i) (w (λ k. ne (sym k ∙ q)) (off v i))),
      )

      ends : (s : ℕ) → s < edge_count g → (eqb (edge g s).left d ≡ true) ⊎ (eqb (edge g s).right d ≡ true)
          → Reach (edge g s).left × Reach (edge g s).right
      ends s h (inl q) = both (edge g s).left (edge g s).right (eqb_eq (edge g s).left d q) (λ l r.
          joined_sym g (without g c) (edge g s).left (edge g s).right (joined-edge g (without g c) s h (kept_off c s l r)))
      ends s h (inr q) =
          let p = both (edge g s).right (edge g s).left (eqb_eq (edge g s).right d q)
          (λ r l. joined-edge g (without g c) s h (kept_off c s l r)) in
          (p.1, p.0)

  module _ (a b : ℕ) where
    -- the loss of a cut vertex between a and b parts them
    pub cut_between_parts : (c : ℕ) → is_cut_between g a b c ≡ true → parts g (without g c) a b ≡ true
    unfolding is_cut_between
    cut_between_parts c e = and_right (not (eqb c a) && not (eqb c b)) (parts g (without g c) a b) e

    neither : (c : ℕ) → is_cut_between g a b c ≡ true → (not (eqb c a) && not (eqb c b)) ≡ true
    unfolding is_cut_between
    neither c e = and_left (not (eqb c a) && not (eqb c b)) (parts g (without g c) a b) e

    -- it is not a
    pub cut_between_not_first : (c : ℕ) → is_cut_between g a b c ≡ true → eqb c a ≡ false
    cut_between_not_first c e = false_of_not_true (eqb c a) (and_left (not (eqb c a)) (not (eqb c b)) (neither c e))

    -- it is not b
    pub cut_between_not_last : (c : ℕ) → is_cut_between g a b c ≡ true → eqb c b ≡ false
    cut_between_not_last c e = false_of_not_true (eqb c b) (and_right (not (eqb c a)) (not (eqb c b)) (neither c e))

    cut_parting : Parting g (is_cut_between g a b) (without g) (λ c. c) (cut_before g) a b
    unfolding cut_before
    cut_parting = record {
      parted = cut_between_parts;
      stays = λ c e. joined-without c;
      reaches = λ c d e f. reached_without c d;
      other = λ c d e f n x. refl;
      self_left = λ c e. alone c a (cut_between_not_first c e);
      self_right = λ c e. alone c b (cut_between_not_last c e);
    }
      where
        alone : (c x : ℕ) → eqb c x ≡ false → joined g (without g c) x c ≡ false
        alone c x n = false_of_not (joined g (without g c) x c) (λ k.
            eqb_ne c x n (lost_vertex_alone g c x (joined_sym g (without g c) x c k)))

    -- exactly the cut vertices between a and b, of those in the network, are in their list
    pub cuts_between_exactly : (c : ℕ) → is_in c (cuts_between g a b) ≡ (ltb c g.vertices && is_cut_between g a b c)
    unfolding cuts_between
    cuts_between_exactly c = is_in_sorted (cut_before g a) g.vertices (is_cut_between g a b) c

    -- none of them twice
    pub cuts_between-distinct : distinct (cuts_between g a b) ≡ true
    unfolding cuts_between
    cuts_between-distinct = distinct_sorted (cut_before g a) g.vertices (is_cut_between g a b)

    -- "comes before" is strict and total on them
    pub cut_before_strict : Strict (cut_before g a) (is_cut_between g a b)
    cut_before_strict = parting_strict cut_parting

    -- the list is in that order
    pub cuts_between-ordered : ordered (cut_before g a) (cuts_between g a b) ≡ true
    unfolding cuts_between
    cuts_between-ordered = parting_ordered cut_parting g.vertices

    -- the cut vertices between b and a are those between a and b
    pub cut_between_swap : (c : ℕ) → is_cut_between g b a c ≡ is_cut_between g a b c
    unfolding is_cut_between
    cut_between_swap c = ap₂ ◌&&◌ (and_comm (not (eqb c b)) (not (eqb c a))) (parts_swap g (without g c) b a)

    -- and their list is turned round
    pub cuts_between_reversed : cuts_between g b a ≡ reverse (cuts_between g a b)
    unfolding cuts_between
    cuts_between_reversed = parting_reversed cut_parting g.vertices (is_cut_between g b a) cut_between_swap

    no_cuts : ((lost : Loss) → parts g lost a b ≡ false) → cuts_between g a b ≡ []
    unfolding cuts_between
    no_cuts w = sorted_none (cut_before g a) g.vertices (is_cut_between g a b) (λ c h.
        false_of_not (is_cut_between g a b c) (λ e. not_both (cut_between_parts c e) (w (without g c))))

    -- across components there is none
    pub cuts_between_across : component g a b ≡ false → cuts_between g a b ≡ []
    cuts_between_across e = no_cuts (λ lost. parts_across g lost a b e)

    -- a cut vertex between a and b is a vertex of the network
    pub cut_between_known : Proper g → (c : ℕ) → is_cut_between g a b c ≡ true → c < g.vertices
    cut_between_known w c e = ltb_lt c g.vertices (⊎_elim (λ k. k)
        (λ k. absurd (not_both e (not_cut_alone g w a b c (ltb_ge c g.vertices k)))) (true_or_false (ltb c g.vertices)))

    -- where every edge joins vertices of the network, exactly the cut vertices are in their list
    pub cuts_between_all : Proper g → (c : ℕ) → is_in c (cuts_between g a b) ≡ is_cut_between g a b c
    cuts_between_all w c = cuts_between_exactly c ∙ bool_ext (ltb c g.vertices && is_cut_between g a b c) (is_cut_between g a b c)
        (and_right (ltb c g.vertices) (is_cut_between g a b c))
        (λ e. and_both (lt-ltb c g.vertices (cut_between_known w c e)) e)

    -- a list in order of exactly the cut vertices, none twice, is theirs
    pub cuts_between_unique : Proper g → (l : List ℕ) → ((c : ℕ) → is_in c l ≡ is_cut_between g a b c)
        → distinct l ≡ true → ordered (cut_before g a) l ≡ true → l ≡ cuts_between g a b
    cuts_between_unique w l m d o = ordered_unique cut_before_strict l (cuts_between g a b) (λ c k. sym (m c) ∙ k)
        (λ c. m c ∙ sym (cuts_between_all w c)) d cuts_between-distinct o cuts_between-ordered

  -- from a vertex to itself there is none
  pub cuts_between_self : (a : ℕ) → cuts_between g a a ≡ []
  cuts_between_self a = no_cuts a a (λ lost. parts_self g lost a)
