-- The steps of turning a way up: each hangs the vertex that dangles, until a root is hung.
use Rattle.std.proofs.Common.{◌≡◌, ℕ, zero, suc, ◌+◌, ◌<◌, ◌≤◌, true, false, List, sym, ap, ◌∙◌, le_refl, arith}
use Rattle.graph.specs.Network.{Network}
use Rattle.graph.specs.Block.{block}
use Rattle.graph.proofs.Truth.{not_both, false_of_not}
use Rattle.graph.proofs.Block.{block_refl}
use Rattle.numbers.specs.declared.Limits.{Limits}
use Rattle.forest.specs.Inside.Climb.{up_of, depth_of, above_edge}
use Rattle.forest.specs.Inside.Valid.{ForestValid}
use Rattle.forest.proofs.Turn.{Dangling, HungAnew, hangs, hung_forest, whole_forest, forest_but}

-- The way up from x takes fewer than k steps, over vertices of at least some depth.
abbrev pub Way : List ℕ → Limits → ℕ → ℕ → ℕ → Type 0
Way t limits low zero x = ⊥
Way t limits low (suc k) x = (low ≤ depth_of t limits x) × ((e : ℕ) → up_of t limits x ≡ suc e → Way t limits low k (above_edge t limits e))

-- a way begins at a vertex that is deep
pub way_deep : (t : List ℕ) (limits : Limits) (low k x : ℕ) → Way t limits low k x → (0 < k) × (low ≤ depth_of t limits x)
way_deep t limits low zero x w = absurd w
way_deep t limits low (suc k) x w = (omega arith, w.0)

module _ {t t' : List ℕ} {limits : Limits} {n m : ℕ} {g : Network} {x s d : ℕ} (f : Dangling t limits n m g x s d)
    (w : HungAnew t t' limits n m g x s d) where
  -- a root that is hung ends the turning
  pub turn-ends : up_of t limits x ≡ 0 → ForestValid t' limits n m g
  unfolding hangs
  turn-ends u =
      whole_forest
      (hung_forest f w (λ e h q. absurd (not_both q (ap (λ k. hangs g k e) u))))
      (λ e y b. not_both b.1 (ap (λ k. hangs g k e) u))

  module _ (r low k : ℕ) (u : up_of t limits x ≡ suc r) (way : Way t limits low k (above_edge t limits r)) (room : suc d + k ≤ suc low) where
    abbrev next : ℕ
    next = above_edge t limits r

    known : r < m
    known = f.forest.up_known x r f.vertex_known u

    next_known : next < n
    next_known = f.forest.top_known r known

    less : depth_of t limits next < depth_of t limits x
    less = f.forest.depth_falls x r f.vertex_known u

    other : (y : ℕ) → depth_of t limits y ≤ depth_of t limits next → x ≡ y → ⊥
    other y l q = omega (arith, less, ap (depth_of t limits) q)

    -- the vertex at hand hangs below the block of r
    moved : (e : ℕ) → hangs g (up_of t limits x) e ≡ block g e r
    unfolding hangs
    moved e = ap (λ v. hangs g v e) u

    moved_top : (e : ℕ) → e < m → hangs g (up_of t limits x) e ≡ true → above_edge t limits e ≡ next
    moved_top e h q = f.forest.one_top e r h known (sym (moved e) ∙ q)

    -- a vertex that is no deeper than the next does not hang below that block
    not_below : (y e : ℕ) → y < n → depth_of t limits y ≤ depth_of t limits next → up_of t limits y ≡ suc e → block g e r ≡ false
    not_below y e h l v =
        false_of_not
        (block g e r)
        (λ q. omega (arith, f.forest.depth_falls y e h v, ap (depth_of t limits) (f.forest.one_top e r (f.forest.up_known y e h v) known q)))

    -- the way on is as before
    way_stays : (j y : ℕ) → y < n → depth_of t limits y ≤ depth_of t limits next → Way t limits low j y → Way t' limits low j y
    way_stays zero y h l v = v
    way_stays (suc j) y h l v = (
      rw (w.depth_else y h (other y l)) v.0,
      λ e q.
          let old : up_of t limits y ≡ suc e = sym (w.up_else y h (other y l)) ∙ q in
          let e_known : e < m = f.forest.up_known y e h old in
          rw
          (w.above_else e e_known (moved e ∙ not_below y e h l old))
          (way_stays
          j
          (above_edge t limits e)
          (f.forest.top_known e e_known)
          (omega (arith, f.forest.depth_falls y e h old))
          (v.1 e old)),
    )

    deep : d < low
    deep = omega (arith, way_deep t limits low k next way)

    -- with the vertex at hand hung, the next one dangles
    pub turn_goes_on : Dangling t' limits n m g (above_edge t limits r) r (suc d)
    turn_goes_on =
        record {
          forest =
              forest_but
              (hung_forest f w (λ e h q. rw (moved_top e h q) (omega (arith, deep, way_deep t limits low k next way))))
              (λ e y h b. (b.0 ∙ moved_top e h b.1, sym (moved e) ∙ b.1));
          vertex_known = next_known;
          edge_known = known;
          on = f.forest.top_on r known;
          not_below = λ e v. not_below next e next_known (le_refl _) (sym (w.up_else next next_known (other next (le_refl _))) ∙ v);
          not_above = λ q. other next (le_refl _) (sym (w.above_here r known here) ∙ q);
          deeper = rw (w.above_here r known here, w.depth_here) (le_refl (suc d));
          shallow =
              rw
              (w.depth_else next next_known (other next (le_refl _)))
              (omega (arith, deep, way_deep t limits low k next way));
        }
      where
        here : hangs g (up_of t limits x) r ≡ true
        here = moved r ∙ block_refl g r

    -- and its way up is left
    pub way_goes_on : Way t' limits low k (above_edge t limits r)
    way_goes_on = way_stays k next next_known (le_refl _) way
