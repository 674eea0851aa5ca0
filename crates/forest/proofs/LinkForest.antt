-- Linking two components, the forest: with u dangling from the new edge's block, and with its way up turned round.
use Rattle.std.proofs.Common.{◌≡◌, ℕ, zero, suc, ◌+◌, ◌*◌, ◌%◌, ◌^◌, ◌<◌, true, false, ◌⊎◌, List, [], ◌∷◌, ◌++◌, sym, refl, ap, ◌∙◌, subst, inl, inr, ⊎_elim, le_refl, mod-eq_of_lt, arith}
use Rattle.graph.specs.Network.{Network, Edge, add_edge, edge, edge_count, touches, edge_in_duct}
use Rattle.graph.specs.Groups.{component}
use Rattle.graph.specs.Block.{block, on_block}
use Rattle.graph.proofs.Truth.{true_or_false, not_both}
use Rattle.graph.proofs.Below.{below_or_last}
use Rattle.graph.proofs.Joined.{edge_old, edge_new, edge_count_more}
use Rattle.graph.proofs.Mates.{component_refl, component_swap, joined-component}
use Rattle.graph.proofs.Ends.{touched_known}
use Rattle.graph.proofs.Block.{block_refl, block_swap}
use Rattle.graph.proofs.BlockVertices.{end_on_block, block_vertices_joined_within}
use Rattle.graph.proofs.EdgeMore.{block-edge_between}
use Rattle.graph.proofs.Grows.{on_block_grows}
use Rattle.naming.specs.Rename.{size}
use Rattle.naming.proofs.Equivalent.{group-same}
use Rattle.table.specs.Inside.Column
use Rattle.table.specs.Inside.Layout.{edge_area}
use Rattle.table.specs.Inside.KindValid.{names_in, KindValid}
use Rattle.forest.specs.Inside.Climb.{up_of, depth_of, above_edge}
use Rattle.forest.specs.Inside.Tree.{turn_from, hang_table}
use Rattle.forest.specs.Inside.Valid.{network_of, HangsBelow, ForestValid}
use Rattle.forest.proofs.Columns.{among, within, group_columns}
use Rattle.forest.proofs.KindWords.{SameWords, names_same, kind_same, one_above}
use Rattle.forest.proofs.Networks.{component_groups, edge_count_lem}
use Rattle.forest.proofs.Frames.{Frame, ◌then◌, same_blocks}
use Rattle.forest.proofs.EdgeToAdd.{EdgeToAdd, edge_of, before, after, proper_after}
use Rattle.forest.proofs.Turn.{ForestBut, Dangling}
use Rattle.forest.proofs.TurnSteps.{Way}
use Rattle.forest.proofs.TurnTable.{Turned, turned}
use Rattle.forest.proofs.LinkHang.{Linking, by, raised, grouped, hung, word₃, hung_frame, raised_bound, kept_bound, raised_fits, depth_raised, depth-kept, up_kept, above_kept, above_new, new_alone, blocks, block-names}

module _ {new : EdgeToAdd} {t₃ : List ℕ} {count u v : ℕ} (k : Linking new t₃ count u v) where
  open new use {limits, n, m, t, valid, room}

  abbrev e : Edge
  e = edge_of new

  abbrev g : Network
  g = before new

  abbrev g' : Network
  g' = after new

  abbrev t₄ : List ℕ
  t₄ = hung k

  abbrev old : ForestValid t limits n m g
  old = valid.forest

  edges' : edge_count g' ≡ suc m
  edges' = edge_count_more g e ∙ ap suc (edge_count_lem limits n m t)

  old_edge_is : (s : ℕ) → s < m → edge g' s ≡ edge g s
  old_edge_is s h = edge_old g e s (rw (edge_count_lem limits n m t) h)

  new_edge_is : edge g' m ≡ e
  new_edge_is = subst (λ j. edge g' j ≡ e) (edge_count_lem limits n m t) (edge_new g e)

  -- the vertex above a block is in the component of those below
  above_within : (x s : ℕ) → x < n → up_of t limits x ≡ suc s → component g x (above_edge t limits s) ≡ true
  above_within x s h q =
      joined-component g _ x (above_edge t limits s)
      (block_vertices_joined_within g s x (above_edge t limits s) (old.up_on x s h q) (old.top_on s (old.up_known x s h q)))

  -- so it is in u's component if they are
  alike : (x s : ℕ) → x < n → up_of t limits x ≡ suc s → component g u (above_edge t limits s) ≡ component g u x
  alike x s h q =
      component_swap g u (above_edge t limits s)
      ∙ sym (group-same (component g) (component_groups g) x (above_edge t limits s) (above_within x s h q) u)
      ∙ component_swap g x u

  falls : (x s : ℕ) → x < n → up_of t limits x ≡ suc s → (component g u x ≡ true) ⊎ (component g u x ≡ false)
      → depth_of t₄ limits (above_edge t limits s) < depth_of t₄ limits x
  falls x s h q (inl c) =
      rw
      (depth_raised k x h c, depth_raised k (above_edge t limits s) (old.top_known s (old.up_known x s h q)) (alike x s h q ∙ c))
      (omega (arith, old.depth_falls x s h q))
  falls x s h q (inr c) =
      rw
      (depth-kept k x h c, depth-kept k (above_edge t limits s) (old.top_known s (old.up_known x s h q)) (alike x s h q ∙ c))
      (old.depth_falls x s h q)

  bound : (x : ℕ) → x < n → (component g u x ≡ true) ⊎ (component g u x ≡ false)
      → depth_of t₄ limits x < size n (component g') x * size n (component g') x
  bound x h (inl c) = rw (depth_raised k x h c) (raised_bound k x h c)
  bound x h (inr c) = rw (depth-kept k x h c) (kept_bound k x h)

  old_up : (x s : ℕ) → x < n → up_of t₄ limits x ≡ suc s → up_of t limits x ≡ suc s
  old_up x s h q = sym (up_kept k x h) ∙ q

  covers_old : (s y : ℕ) → s < m → touches (edge g s) y ≡ true → (y ≡ above_edge t₄ limits s) ⊎ HangsBelow t₄ limits g' s y
  unfolding edge_in_duct network_of
  covers_old s y h q =
      ⊎_elim
      (λ i. inl (i ∙ sym (above_kept k s h)))
      (λ b. inr (record {
        by = b.by;
        is_up = up_kept k y (touched_known g valid.proper s y (rw (edge_count_lem limits n m t) h) q) ∙ b.is_up;
        in_block = block-edge_between g e k.apart s b.by ∙ b.in_block;
      }))
      (old.covers s y h q)

  -- an edge is an old one or the new one
  each_edge : (P : ℕ → Type 0) → ((s : ℕ) → s < m → P s) → P m → (s : ℕ) → s < suc m → P s
  each_edge P f p s h = ⊎_elim (f s) (λ q. subst P (sym q) p) (below_or_last m s h)

  touched : (s y : ℕ) → s < suc m → touches (edge g' s) y ≡ true → y < n
  unfolding network_of add_edge
  touched s y h q = touched_known g' (proper_after new) s y (rw edges' h) q

  loser_on : on_block g' m u ≡ true
  loser_on = end_on_block g' m u (rw edges' (le_refl (suc m))) (rw new_edge_is k.at_loser)

  winner_on : on_block g' m v ≡ true
  winner_on = end_on_block g' m v (rw edges' (le_refl (suc m))) (rw new_edge_is k.at_winner)

  covers_new : (y : ℕ) → touches (edge g' m) y ≡ true → ((y ≡ u) × (block g' m m ≡ true) → ⊥)
      → (y ≡ above_edge t₄ limits m) ⊎ HangsBelow t₄ limits g' m y
  covers_new y q but =
      ⊎_elim
      (λ i. absurd (but (i, block_refl g' m)))
      (λ i. inl (i ∙ sym (above_new k)))
      (k.ends y (rw new_edge_is at q))

  -- the forest of both components, but that u is not yet below the new edge's block
  forest_but_u : ForestBut t₄ limits n (suc m) g' (λ s y. (y ≡ u) × (block g' s m ≡ true))
  forest_but_u =
      record {
        up_known = λ x s h q. omega (arith, old.up_known x s h (old_up x s h q));
        up_on = λ x s h q. on_block_grows g e s x (old.up_on x s h (old_up x s h q));
        touched_known = touched;
        top_known =
            each_edge
            (λ s. above_edge t₄ limits s < n)
            (λ s h. rw (above_kept k s h) (old.top_known s h))
            (rw (above_new k) k.winner_known);
        top_on =
            each_edge
            (λ s. on_block g' s (above_edge t₄ limits s) ≡ true)
            (λ s h. rw (above_kept k s h) (on_block_grows g e s (above_edge t limits s) (old.top_on s h)))
            (rw (above_new k) winner_on);
        one_top = (one_above t₄ limits (suc m) g' (blocks k));
        covers = λ s y h.
            each_edge
            (λ s.
            touches (edge g' s) y ≡ true
            → ((y ≡ u) × (block g' s m ≡ true) → ⊥)
            → (y ≡ above_edge t₄ limits s) ⊎ HangsBelow t₄ limits g' s y)
            (λ s l q but. covers_old s y l (rw (old_edge_is s l) at q))
            (covers_new y)
            s
            h;
        depth_falls = λ x s h q.
            rw
            (above_kept k s (old.up_known x s h (old_up x s h q)))
            (falls x s h (old_up x s h q) (true_or_false (component g u x)));
        depth_bound = λ x h. bound x h (true_or_false (component g u x));
      }

  loser_self : component g u u ≡ true
  loser_self = component_refl g u

  -- u dangles from the new edge's block
  dangling : Dangling t₄ limits n (suc m) g' u m (suc (depth_of t limits v))
  dangling =
      record {
        forest = forest_but_u;
        vertex_known = k.loser_known;
        edge_known = le_refl (suc m);
        on = loser_on;
        not_below = λ s q. block_swap g' s m ∙ new_alone k s (old.up_known u s k.loser_known (old_up u s k.loser_known q));
        not_above = λ q. not_both loser_self (ap (component g u) (sym q ∙ above_new k) ∙ k.parted);
        deeper = rw (above_new k, depth-kept k v k.winner_known k.parted) (le_refl _);
        shallow = rw (depth_raised k u k.loser_known loser_self) (omega arith);
      }

  -- the ways up in u's component
  way : (j x : ℕ) → x < n → component g u x ≡ true → depth_of t limits x < j → Way t₄ limits (by k) j x
  way zero x h c l = absurd (omega arith)
  way (suc j) x h c l = (
    rw (depth_raised k x h c) (omega arith),
    λ s q.
        let up : up_of t limits x ≡ suc s = old_up x s h q in
        let known : s < m = old.up_known x s h up in
        rw
        (above_kept k s known)
        (way j (above_edge t limits s) (old.top_known s known) (alike x s h up ∙ c) (omega (arith, old.depth_falls x s h up))),
  )

  frame₄ : Frame limits (Column.depth ∷ []) (group_columns ++ Column.top ∷ []) t₃ t₄
  frame₄ = hung_frame k _ _ refl refl refl

  -- with u's way up turned round, u's component hangs below v
  after_turn : Turned limits n (suc m) g' t₄ (turn_from (suc (depth_of t limits u)) t₄ limits u (suc m) (suc (depth_of t limits v)))
  after_turn =
      turned
      limits
      n
      (suc m)
      g'
      valid.vertices_fit
      room
      (suc (depth_of t limits u))
      t₄
      (omega (arith, frame₄.same_length, k.frame.same_length, valid.long))
      (blocks k)
      u
      m
      (suc (depth_of t limits v))
      (by k)
      dangling
      (way (suc (depth_of t limits u)) u k.loser_known loser_self (le_refl _))
      (omega arith)
      (omega (arith, raised_fits k u k.loser_known loser_self))

  hang_is : hang_table t₃ limits m u v count ≡ turn_from (suc (depth_of t limits u)) t₄ limits u (suc m) (suc (depth_of t limits v))
  unfolding hang_table hung grouped raised
  hang_is =
      rw (
        word₃ k Column.depth u (omega arith) k.loser_known refl,
        word₃ k Column.depth v (omega arith) k.winner_known refl,
        start_is,
        mod-eq_of_lt by_fits,
      )
    where
      by_fits : by k < 2 ^ 32
      by_fits = omega (arith, raised_fits k u k.loser_known loser_self)

      start_is : (depth_of t limits v + 1) % 2 ^ 32 ≡ suc (depth_of t limits v)
      start_is = omega (arith, by_fits)

  frame₅ : (vs es : List ℕ) → among vs Column.up ≡ true → among vs Column.depth ≡ true → among es Column.top ≡ true → Frame limits vs es t₄ (hang_table t₃ limits m u v count)
  frame₅ = rw hang_is after_turn.frame

  -- the forest is valid with the new edge
  pub linked_forest : ForestValid (hang_table t₃ limits m u v count) limits n (suc m) (after new)
  linked_forest = rw hang_is after_turn.forest

  -- only ways up, depths, and the words of the new block and of the vertices above blocks are stored
  pub linked_frame : (vs es : List ℕ) → among vs Column.up ≡ true → among vs Column.depth ≡ true
      → within group_columns es ≡ true → among es Column.top ≡ true
      → Frame limits vs es t₃ (hang_table t₃ limits m u v count)
  linked_frame vs es p q r o = hung_frame k vs es q r o then frame₅ vs es p q o

  same_after : SameWords t₄ (hang_table t₃ limits m u v count) (edge_area limits) (suc m)
  same_after = same_blocks (frame₅ (Column.up ∷ Column.depth ∷ []) (Column.top ∷ []) refl refl refl) (suc m) room refl

  -- the words of blocks are valid with the new one
  pub linked_blocks : KindValid (hang_table t₃ limits m u v count) (edge_area limits) (suc m) (block (after new))
  linked_blocks = kind_same same_after (blocks k)

  -- and their names are the old ones and its number
  pub linked-block-names : names_in (hang_table t₃ limits m u v count) (edge_area limits) (suc m) ≡ names_in t (edge_area limits) m ++ m ∷ []
  linked-block-names = names_same t₄ (hang_table t₃ limits m u v count) (edge_area limits) (suc m) same_after ∙ block-names k
