-- The vertex above the path that the climb writes down is above all its blocks.
use Rattle.std.proofs.Common.{◌≡◌, ℕ, ◌<◌, Bool, true, ◌⊎◌, List, subst, inl, inr, ⊎_elim}
use Rattle.graph.specs.Network.{Network}
use Rattle.graph.specs.Block.{block}
use Rattle.graph.proofs.Block.{block_refl}
use Rattle.naming.proofs.Merge.{in_merged, holder, held}
use Rattle.numbers.specs.declared.Limits.{Limits}
use Rattle.table.specs.Inside.Layout.{edge_area}
use Rattle.table.specs.Inside.KindValid.{KindValid}
use Rattle.forest.specs.declared.climb.Route.{Route}
use Rattle.forest.specs.Inside.Climb.{above_edge, path_edge}
use Rattle.forest.proofs.ClimbLaw.{HangsBelowPath, BlockBelow, Climbs}
use Rattle.forest.proofs.Values.{entry, value_member}
use Rattle.forest.proofs.CondensePath.{edges_of}
use Rattle.forest.proofs.CondenseForest.{UpOn, PathTop}
use Rattle.forest.proofs.KindWords.{one_above}

-- A step of the path whose block holds edge e.
record StepOf (limits : Limits) (g : Network) (t' : List ℕ) (k e : ℕ) : Type 0 where
  at : ℕ
  before : at < k
  holds : block g (path_edge t' limits at) e ≡ true

module _ (limits : Limits) (n m : ℕ) (t t' : List ℕ) (g : Network) (a b : ℕ) (r : Route)
    (blocks : KindValid t (edge_area limits) m (block g)) (c : Climbs limits n m t g a b t' r) (some : 0 < r.steps) where
  abbrev k : ℕ
  k = r.steps

  abbrev v : ℕ
  v = r.top.0

  abbrev on : ℕ → Bool
  on = in_merged (block g) (edges_of t' limits r.steps)

  step_on : (i e : ℕ) → i < k → block g (path_edge t' limits i) e ≡ true → on e ≡ true
  step_on i e h j = held (block g) (edges_of t' limits k) (path_edge t' limits i) e (value_member k (λ i. path_edge t' limits i) i h) j

  on_step : (e : ℕ) → on e ≡ true → StepOf limits g t' k e
  on_step e o =
      let z = holder (block g) (edges_of t' limits k) e o in
      let i = entry k (λ i. path_edge t' limits i) z.at z.member in
      record { at = i.at; before = i.below; holds = subst (λ (q : ℕ). block g q e ≡ true) i.is z.holds }

  up_on : (x : ℕ) → HangsBelowPath t limits g t' k x → UpOn t limits on x
  up_on x p =
      record {
        by = p.hangs.by;
        is_up = p.hangs.is_up;
        passes = step_on p.at p.hangs.by p.before p.hangs.in_block;
      }

  -- edges of one block have one vertex above
  same-top : (e : ℕ) → e < m → (s : StepOf limits g t' k e) → above_edge t limits (path_edge t' limits s.at) ≡ above_edge t limits e
  same-top e h s = one_above t limits m g blocks (path_edge t' limits s.at) e (c.edges_known s.at s.before) h s.holds

  -- the vertex that the climb gives
  pub path_top : PathTop t limits n m g (in_merged (block g) (edges_of t' limits r.steps)) a b r.top.0
  path_top =
      record {
        known = c.top_known;
        block_at = path_edge t' limits top.at;
        passes = step_on top.at (path_edge t' limits top.at) top.before (block_refl g (path_edge t' limits top.at));
        at = top.is_on;
        tops = λ e h o. tops e h (on_step e o);
        deeper = λ e h o. let s = on_step e o in rw (same-top e h s) at (c.edge_deep s.at s.before);
        left = ⊎_elim inl (λ p. inr (up_on a p)) c.first_below;
        right = ⊎_elim inl (λ p. inr (up_on b p)) c.last_below;
      }
    where
      top : BlockBelow t limits g t' k v
      top = c.top-block some

      tops : (e : ℕ) → e < m → StepOf limits g t' k e → (above_edge t limits e ≡ v) ⊎ UpOn t limits on (above_edge t limits e)
      tops e h s =
          subst (λ (x : ℕ). (x ≡ v) ⊎ UpOn t limits on x) (same-top e h s)
          (⊎_elim inl (λ p. inr (up_on (above_edge t limits (path_edge t' limits s.at)) p)) (c.edge_below s.at s.before))
