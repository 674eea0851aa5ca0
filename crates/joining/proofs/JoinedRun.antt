-- The run of a result behind its first journal (request 9): the second's commands, raised, and then a span for each seam. None of them is
-- refused where both networks with the seams fit the capacities; else one of them meets 9.
use mathlib.Core.Bool.{Bool, true, false, cond, not, ◌&&◌}
use mathlib.Core.List.{List, [], ◌∷◌, map}
use mathlib.Core.Logic.{◌⊎◌, inl, inr}
use mathlib.Core.Option.{none, some}
use mathlib.Core.Path.{◌≡◌, refl, sym, ◌∙◌, ap}
use Prim.Native.Nat.{ℕ, suc, ◌+◌, ◌<◌, ◌≤◌}
use native.Mathlib.Omega.{arith}
use lib.Dec.{eqb, leb}
use lib.ListN.{length}
use Rattle.graph.specs.Lists.{all_in}
use Rattle.graph.specs.Network.{edge_in_duct, edge_count, add_vertex, add_edge}
use Rattle.graph.proofs.Truth.{true_or_false, and_left, and_right, and_both, and_not, or_right, not_of_false, not_both, ne_eqb, lt-ltb, leb_le, le-leb}
use Rattle.graph.proofs.Joined.{edge_count_more}
use Rattle.naming.specs.Book.{Addition, vertex, edge, neither, enter_vertex, enter_edge, feed}
use Rattle.naming.specs.State.{State, after_addition, after_recording}
use Rattle.naming.proofs.SideBySideBooks.{raise_addition}
use Rattle.commands.specs.Command.{Command, add_duct_span}
use Rattle.commands.specs.Facts.{differ, some_duct, facts, operands_of, demands_of, addition_of, addition, after, state_after}
use Rattle.commands.specs.Refusal.{Refusal, full, refusal_number, Capacities, cabinet_known, span_known, cabinets_known, spans_known, met, cause, meets, full_for, is_full, refusal_of}
use Rattle.commands.specs.Join.{Counts, counts_of, raise_command, Seam, seam_command, good_seam}
use Rattle.commands.proofs.Cases.{leb_gt, gt_leb}
use Rattle.commands.proofs.Causes.{full_exactly, not_refused_exactly}
use Rattle.commands.proofs.StateAfter.{rule_after}
use Rattle.commands.proofs.Report.{cabinets_after, spans_after_lem}
use Rattle.commands.proofs.RunBooks.{NoneRefused, kept_by_all, sound_after}
use Rattle.joining.proofs.CommandsRun.{refusal_in, refusal_goes_on, refusal_at_once}
use Rattle.joining.proofs.Raised.{raised_addition}
use Rattle.joining.proofs.GoodSeams.{good_seam_lem}
use Rattle.joining.proofs.BesideStates.{BesideState, BesideSound, beside_after}
use Rattle.joining.proofs.RaisedRefusals.{vertices_are, edges_are, accepted_raised, full_raised}

-- a network of so many cabinets and spans fits
unfoldable pub within : Capacities → ℕ → ℕ → Bool
within caps cabinets spans = leb cabinets caps.cabinets && leb spans caps.spans

-- the second's state after a command, beside the first's
pub sound_beside_after : (caps : Capacities) {one s : State} → BesideSound caps one s → (c : Command) → refusal_of caps s c ≡ none
    → BesideSound caps one (after s c)
sound_beside_after caps {one} {s} w c e =
    record {
      first_sound = w.first_sound;
      second_sound = sound_after caps s c w.second_sound e;
      one_rule = rule_after s c ∙ w.one_rule;
      raises = w.raises;
    }

-- and after all
pub sound_beside_all : (caps : Capacities) {one s : State} → BesideSound caps one s → (cs : List Command) → NoneRefused caps s cs
    → BesideSound caps one (state_after s cs)
sound_beside_all caps {one} {s} = kept_by_all caps (BesideSound caps one) (λ s c w e. sound_beside_after caps w c e) s

pub beside_all : (caps : Capacities) {one s s' : State} → BesideSound caps one s → BesideState one s s'
    → (cs : List Command) → NoneRefused caps s cs
    → BesideState one (state_after s cs) (state_after s' (map (raise_command (counts_of one)) cs))
unfolding state_after
beside_all caps w q [] n = q
beside_all caps {one = one} {s = s} {s' = s'} w q (c ∷ cs) n =
    beside_all caps {one = one} {s = after s c} {s' = after s' (raise_command (counts_of one) c)} (sound_beside_after caps w c n.0) (beside_after caps w q c n.0) cs n.1

module _ (caps : Capacities) (one : State) where
  abbrev by : Counts
  by = counts_of one

  abbrev m : ℕ
  m = one.book.network.vertices

  abbrev k : ℕ
  k = edge_count one.book.network

  -- both networks fit
  abbrev pub both_fit : State → Bool
  both_fit s = within caps (m + s.book.network.vertices) (k + edge_count s.book.network)

  -- there is room for what a command adds exactly if both networks still fit after it
  module _ {s s' : State} (w : BesideSound caps one s) (q : BesideState one s s') where
    -- what is added, and what the second's network then has
    record Adds (a : Addition) : Type 0 where
      room : full_for caps s'.book.network (raise_addition m a) ≡ false
          → m + s.book.network.vertices ≤ caps.cabinets → k + edge_count s.book.network ≤ caps.spans
          → (m + (feed s.book a).network.vertices ≤ caps.cabinets) × (k + edge_count (feed s.book a).network ≤ caps.spans)
      no_room_lem : full_for caps s'.book.network (raise_addition m a) ≡ true
          → (v e : ℕ) → (feed s.book a).network.vertices ≤ v → edge_count (feed s.book a).network ≤ e → within caps (m + v) (k + e) ≡ false

    adds : (a : Addition) → Adds a
    unfolding raise_addition full_for feed within
    adds vertex =
        unfold enter_vertex add_vertex in
        record {
          room = λ f c e. (omega (arith, leb_gt caps.cabinets s'.book.network.vertices f, vertices_are w q), unfold edge_count in e);
          no_room_lem = λ f v e l l'.
              ap (λ b. b && leb (k + e) caps.spans) (gt_leb (m + v) caps.cabinets (omega (arith, leb_le caps.cabinets s'.book.network.vertices f, vertices_are w q, l)));
        }
    adds (edge x) =
        unfold enter_edge add_edge in
        record {
          room = λ f c e. (c, omega (arith, leb_gt caps.spans (edge_count s'.book.network) f, edges_are w q, edge_count_more s.book.network x));
          no_room_lem = λ f v e l l'.
              and_not (leb (m + v) caps.cabinets)
              (gt_leb (k + e) caps.spans (omega (arith, leb_le caps.spans (edge_count s'.book.network) f, edges_are w q, edge_count_more s.book.network x, l')));
        }
    adds neither = record { room = λ f c e. (c, e); no_room_lem = λ f v e l l'. absurd (not_both f refl) }

  -- whether there is room for a raised command
  full_for_lem : (s' : State) (x : Command) → is_full caps s' (raise_command by x) ≡ full_for caps s'.book.network (raise_addition m (addition x))
  unfolding is_full counts_of
  full_for_lem s' x = ap (full_for caps s'.book.network) (raised_addition by x)

  -- The second's commands, raised, behind the first journal.
  pub second_refusal : {s s' : State} → BesideSound caps one s → BesideState one s s'
      → m + s.book.network.vertices ≤ caps.cabinets → k + edge_count s.book.network ≤ caps.spans
      → (cs : List Command) → NoneRefused caps s cs
      → refusal_in caps s' (map (raise_command by) cs) none ≡ cond (both_fit (state_after s cs)) none (some full)
  unfolding state_after within after after_addition after_recording
  second_refusal w q c e [] n = unfold refusal_in in rw (le-leb _ _ c, le-leb _ _ e)
  second_refusal {s} {s'} w q c e (x ∷ cs) n =
      go (true_or_false (is_full caps s' (raise_command by x)))
      (λ c' e'. second_refusal {s = after s x} {s' = after s' (raise_command by x)} (sound_beside_after caps w x n.0) (beside_after caps w q x n.0) c' e' cs n.1)
    where
      a : Adds w q (addition x)
      a = adds w q (addition x)

      goal : Type 0
      goal = refusal_in caps s' (raise_command by x ∷ map (raise_command by) cs) none ≡ cond (both_fit (state_after (after s x) cs)) none (some full)

      is_full_lem : (b : Bool) → is_full caps s' (raise_command by x) ≡ b → full_for caps s'.book.network (raise_addition m (addition x)) ≡ b
      is_full_lem b f = sym (full_for_lem s' x) ∙ f

      go : (is_full caps s' (raise_command by x) ≡ true) ⊎ (is_full caps s' (raise_command by x) ≡ false)
          → (m + (after s x).book.network.vertices ≤ caps.cabinets → k + edge_count (after s x).book.network ≤ caps.spans
          → refusal_in caps (after s' (raise_command by x)) (map (raise_command by) cs) none ≡ cond (both_fit (state_after (after s x) cs)) none (some full))
          → goal
      go (inl f) ih =
          refusal_at_once caps s' (raise_command by x) (map (raise_command by) cs) none full (full_raised w q x n.0 f)
          ∙ sym (ap (λ b. cond b none (some full)) (a.no_room_lem (is_full_lem true f) _ _ (omega (arith, cabinets_after (after s x) cs)) (omega (arith, spans_after_lem (after s x) cs))))
      go (inr f) ih =
          let fits = a.room (is_full_lem false f) c e in
          refusal_goes_on caps s' (raise_command by x) (map (raise_command by) cs) none (accepted_raised w q x n.0 f) ∙ ih fits.0 fits.1

-- A span between two different known cabinets in a duct other than 0.
record GoodSpan (t : State) (x y d : ℕ) : Type 0 where
  first_known : x < t.book.network.vertices
  second_known : y < t.book.network.vertices
  different : eqb x y ≡ false
  some_duct_lem : eqb d 0 ≡ false

module _ (caps : Capacities) {t : State} {x y d : ℕ} (good : GoodSpan t x y d) where
  known : cabinets_known t (add_duct_span x y d) ≡ true
  unfolding cabinets_known operands_of facts edge_in_duct all_in cabinet_known
  known = and_both (lt-ltb _ _ good.first_known) (and_both (lt-ltb _ _ good.second_known) refl)

  span_free : spans_known t (add_duct_span x y d) ≡ true
  unfolding spans_known operands_of facts edge_in_duct all_in span_known
  span_free = refl

  -- its demands are met
  all_met : (r : Refusal) → meets r t (add_duct_span x y d) ≡ true
  unfolding meets demands_of facts edge_in_duct all_in met
  all_met r =
      and_both (or_right (not (eqb (refusal_number (cause (differ x y))) (refusal_number r))) (not_of_false good.different))
      (and_both (or_right (not (eqb (refusal_number (cause (some_duct d))) (refusal_number r))) (not_of_false good.some_duct_lem)) refl)

  -- it is accepted where there is room, and meets 9 where there is none
  span_accepted : leb caps.spans (edge_count t.book.network) ≡ false → refusal_of caps t (add_duct_span x y d) ≡ none
  span_accepted room =
      (not_refused_exactly caps t (add_duct_span x y d)).1
      (record {
        cabinets_known_lem = known;
        spans_known_lem = span_free;
        different_cabinets = all_met _;
        no_exchange_lem = all_met _;
        some_duct_lem = all_met _;
        not_full = unfold is_full full_for addition addition_of facts in room;
        one_district = all_met _;
        one_ring = all_met _;
      })

  span_full : leb caps.spans (edge_count t.book.network) ≡ true → refusal_of caps t (add_duct_span x y d) ≡ some full
  span_full no_room_lem =
      (full_exactly caps t (add_duct_span x y d)).1
      (known, (span_free, (all_met _, (all_met _, (all_met _, unfold is_full full_for addition addition_of facts in no_room_lem)))))

-- after a seam there are as many cabinets and a span more
vertices_after_seam : (by : Counts) (t : State) (x : Seam) → (after t (seam_command by x)).book.network.vertices ≡ t.book.network.vertices
unfolding after after_addition after_recording seam_command addition addition_of facts feed enter_edge add_edge
vertices_after_seam by t x = refl

pub edges_after_seam : (by : Counts) (t : State) (x : Seam)
    → edge_count (after t (seam_command by x)).book.network ≡ suc (edge_count t.book.network)
unfolding after after_addition after_recording seam_command addition addition_of facts feed enter_edge
edges_after_seam by t x = edge_count_more t.book.network _

module _ (caps : Capacities) (by : Counts) (others : ℕ) where
  -- a good seam is such a span where all cabinets of both are known
  good_span : (t : State) → t.book.network.vertices ≡ by.cabinets + others → (x : Seam) → good_seam by.cabinets others x ≡ true
      → GoodSpan t x.first (by.cabinets + x.second) x.duct
  good_span t v x e =
      let good = good_seam_lem by.cabinets others x e in
      record {
        first_known = omega (arith, v, good.first_known);
        second_known = omega (arith, v, good.second_known);
        different = ne_eqb x.first (by.cabinets + x.second) (λ q. absurd (omega (arith, q, good.first_known)));
        some_duct_lem = good.some_duct_lem;
      }

  -- The seams' commands behind both networks.
  pub seams_refusal : (t : State) → t.book.network.vertices ≡ by.cabinets + others → edge_count t.book.network ≤ caps.spans
      → (xs : List Seam) → all_in (good_seam by.cabinets others) xs ≡ true
      → refusal_in caps t (map (seam_command by) xs) none ≡ cond (leb (edge_count t.book.network + length xs) caps.spans) none (some full)
  unfolding all_in
  seams_refusal t v h [] good = unfold refusal_in in rw (le-leb (edge_count t.book.network + 0) caps.spans (omega (arith, h)))
  seams_refusal t v h (x ∷ xs) good =
      go (true_or_false (leb caps.spans (edge_count t.book.network)))
      (λ r. seams_refusal (after t (seam_command by x)) (vertices_after_seam by t x ∙ v) r xs (and_right (good_seam by.cabinets others x) _ good))
    where
      span_is : GoodSpan t x.first (by.cabinets + x.second) x.duct
      span_is = good_span t v x (and_left (good_seam by.cabinets others x) _ good)

      n : ℕ
      n = edge_count t.book.network

      next : State
      next = after t (seam_command by x)

      go : (leb caps.spans n ≡ true) ⊎ (leb caps.spans n ≡ false)
          → (edge_count next.book.network ≤ caps.spans
          → refusal_in caps next (map (seam_command by) xs) none
          ≡ cond (leb (edge_count next.book.network + length xs) caps.spans) none (some full))
          → refusal_in caps t (seam_command by x ∷ map (seam_command by) xs) none ≡ cond (leb (n + suc (length xs)) caps.spans) none (some full)
      go (inl f) ih =
          refusal_at_once caps t (seam_command by x) (map (seam_command by) xs) none full (unfold seam_command in span_full caps span_is f)
          ∙ sym (ap (λ b. cond b none (some full)) (gt_leb (n + suc (length xs)) caps.spans (omega (arith, leb_le caps.spans n f))))
      go (inr f) ih =
          refusal_goes_on caps t (seam_command by x) (map (seam_command by) xs) none (unfold seam_command in span_accepted caps span_is f)
          ∙ ih (omega (arith, edges_after_seam by t x, leb_gt caps.spans n f))
          ∙ ap (λ (j : ℕ). cond (leb j caps.spans) none (some full)) (omega (arith, edges_after_seam by t x))
