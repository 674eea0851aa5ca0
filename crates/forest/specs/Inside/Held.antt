-- That the words of a table hold a network is known in one way, whoever knows it: so it can be kept beside the table as a mere fact, and what
-- it says is had again from there.
use Rattle.std.specs.Prelude.{◌≡◌, ℕ, suc, ◌-◌, ◌<◌, true, false, ◌⊎◌, List}
use Rattle.std.proofs.Common.{inl, inr, ⊎_elim, eqb, arith}
use Rattle.std.proofs.Math.Logic.{∥∥₁_elim}
use Rattle.std.proofs.Props.{props}
use Rattle.graph.specs.Network.{Network, edge, touches}
use Rattle.graph.specs.Block.{block}
use Rattle.graph.proofs.Truth.{true_or_false, eqb_eq, eqb_ne}
use Rattle.numbers.specs.declared.Limits.{Limits}
use Rattle.forest.specs.Inside.Climb.{up_of, above_edge}
use Rattle.forest.specs.Inside.Valid.{network_of, HangsBelow, Sound}

-- the edge by which a vertex hangs below a block can be read off the table
hangs_by_its_edge : {t : List ℕ} {limits : Limits} {g : Network} {e x : ℕ} → HangsBelow t limits g e x
    → (up_of t limits x ≡ suc (up_of t limits x - 1)) × (block g e (up_of t limits x - 1) ≡ true)
hangs_by_its_edge {t} {limits} {g} {e} {x} b =
    let same : up_of t limits x - 1 ≡ b.by = omega (arith, b.is_up) in
    (omega (arith, b.is_up), rw same b.in_block)

module _ {limits : Limits} {n m : ℕ} {t : List ℕ} (held : ∥ Sound limits n m t ∥₁) where
  -- a vertex on a block is above it or hangs below it: which of the two, the table tells
  covers : (e x : ℕ) → e < m → touches (edge (network_of limits n m t) e) x ≡ true
      → (x ≡ above_edge t limits e) ⊎ HangsBelow t limits (network_of limits n m t) e x
  covers e x h k = go (true_or_false (eqb x (above_edge t limits e)))
    where
      hangs : (x ≡ above_edge t limits e → ⊥) → HangsBelow t limits (network_of limits n m t) e x
      hangs not =
          let by_edge = ∥∥₁_elim held (hlevel props) (λ s. hangs_by_its_edge (⊎_elim (λ same. absurd (not same)) (λ b. b) (s.valid.forest.covers e x h k))) in
          record { by = up_of t limits x - 1; is_up = by_edge.0; in_block = by_edge.1 }

      go : (eqb x (above_edge t limits e) ≡ true) ⊎ (eqb x (above_edge t limits e) ≡ false) → (x ≡ above_edge t limits e) ⊎ HangsBelow t limits (network_of limits n m t) e x
      go (inl same) = inl (eqb_eq _ _ same)
      go (inr other) = inr (hangs (eqb_ne _ _ other))

  pub sound : Sound limits n m t
  sound =
      record {
        valid =
            record {
              long = ∥∥₁_elim held (hlevel props) (λ s. s.valid.long);
              small_vertices = ∥∥₁_elim held (hlevel props) (λ s. s.valid.small_vertices);
              small_edges = ∥∥₁_elim held (hlevel props) (λ s. s.valid.small_edges);
              vertices_fit = ∥∥₁_elim held (hlevel props) (λ s. s.valid.vertices_fit);
              edges_fit = ∥∥₁_elim held (hlevel props) (λ s. s.valid.edges_fit);
              proper = ∥∥₁_elim held (hlevel props) (λ s. s.valid.proper);
              components = ∥∥₁_elim held (hlevel props) (λ s. s.valid.components);
              bridge_blocks_lem = ∥∥₁_elim held (hlevel props) (λ s. s.valid.bridge_blocks_lem);
              marks = ∥∥₁_elim held (hlevel props) (λ s. s.valid.marks);
              blocks = ∥∥₁_elim held (hlevel props) (λ s. s.valid.blocks);
              forest =
                  record {
                    up_known = ∥∥₁_elim held (hlevel props) (λ s. s.valid.forest.up_known);
                    up_on = ∥∥₁_elim held (hlevel props) (λ s. s.valid.forest.up_on);
                    top_known = ∥∥₁_elim held (hlevel props) (λ s. s.valid.forest.top_known);
                    top_on = ∥∥₁_elim held (hlevel props) (λ s. s.valid.forest.top_on);
                    covers = covers;
                    depth_falls = ∥∥₁_elim held (hlevel props) (λ s. s.valid.forest.depth_falls);
                    depth_bound = ∥∥₁_elim held (hlevel props) (λ s. s.valid.forest.depth_bound);
                  };
            };
        bridges_named = ∥∥₁_elim held (hlevel props) (λ s. s.bridges_named);
      }
