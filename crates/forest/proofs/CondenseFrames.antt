-- Frames of merging: the columns that it stores in.
use Rattle.std.proofs.Common.{◌≡◌, ℕ, ◌+◌, ◌*◌, ◌<◌, ◌≤◌, true, false, ltb, ◌⊎◌, List, [], inl, inr, mul-le-mul_right, arith}
use lib.Arith.{digits_lt}
use Rattle.graph.proofs.Truth.{true_or_false, ltb_lt, ltb_ge}
use Rattle.numbers.specs.declared.Limits.{Limits}
use Rattle.table.specs.Inside.Column
use Rattle.table.specs.Inside.Layout.{place, cell, bridge_block_area, edge_area}
use Rattle.table.proofs.MergeKept.{Outside, Kept}
use Rattle.forest.proofs.Columns.{among, bridge_block_columns, block_columns, behind_columns}
use Rattle.forest.proofs.Frames.{Frame}

-- a column before or behind some columns
place_before : (size c k x : ℕ) → c < k → x < size → 0 + c * size + x < k * size
place_before size c k x h l = omega (arith, digits_lt h l)

place_behind_lem : (size c k x : ℕ) → k ≤ c → k * size ≤ 0 + c * size + x
place_behind_lem size c k x h = omega (arith, mul-le-mul_right size h)

-- merging bridge-blocks stores in their columns
pub frame_merge_bridge_blocks : (limits : Limits) {t t' : List ℕ} → Kept (bridge_block_area limits) t t' → Frame limits bridge_block_columns [] t t'
unfolding cell place
frame_merge_bridge_blocks limits k =
    record {
      same_length = k.same_length;
      vertex_word = λ c x h l o. k.outside _ (apart c x l o (true_or_false (ltb c Column.per_component)));
      edge_word = λ d s h l o. k.outside _ (λ i j. omega arith);
      beyond = λ p h. k.outside p (λ i j. omega arith);
    }
  where
    apart : (c x : ℕ) → x < limits.vertices → among bridge_block_columns c ≡ false → (ltb c Column.per_component ≡ true) ⊎ (ltb c Column.per_component ≡ false)
        → Outside (bridge_block_area limits) (0 + c * limits.vertices + x)
    apart c x l o (inl h) i j = omega (arith, place_before limits.vertices c Column.per_component x (ltb_lt c Column.per_component h) l)
    apart c x l o (inr h) i j =
        omega (
          arith,
          place_behind_lem limits.vertices c (Column.of_bridge_blocks Column.per_bridge_block) x
              (behind_columns Column.per_component Column.per_bridge_block c o (ltb_ge c Column.per_component h)),
        )

-- merging blocks stores in theirs
pub frame_merge_blocks : (limits : Limits) {t t' : List ℕ} → Kept (edge_area limits) t t' → Frame limits [] block_columns t t'
unfolding cell place
frame_merge_blocks limits k =
    record {
      same_length = k.same_length;
      vertex_word = λ c x h l o. k.outside _ (λ i j. omega (arith, place_before limits.vertices c Column.per_vertex x h l));
      edge_word = λ d s h l o. k.outside _ (λ i j. omega (arith, place_behind_lem limits.edges d Column.per_block s (behind_columns 0 Column.per_block d o (omega arith))));
      beyond = λ p h. k.outside p (λ i j. omega arith);
    }
