-- The seams, one after another, in loops that look at them and that store them: what is left gives the whole answer.
--     LookedTo     the first i seams are good
--     StoredTo     the commands for the first i seams are stored, up to a place
use mathlib.Core.Bool.{Bool, true, false, ◌&&◌}
use mathlib.Core.List.{List, [], ◌∷◌, map}
use mathlib.Core.Path.{◌≡◌, refl, sym, ◌∙◌, ap, subst}
use Prim.Native.Nat.{ℕ, suc, ◌+◌, ◌*◌, ◌≤◌, ◌<◌}
use native.Mathlib.Omega.{arith}
use borrow.Author.Count.{below_more}
use lib.ListN.{length, drop, drop_of_length-le}
use lib.Seq.{sets, length-sets, drop-cons}
use Rattle.std.specs.Prelude.{Ok, Err}
use Rattle.graph.specs.Lists.{all_in}
use Rattle.graph.proofs.Truth.{and_both, lt-ltb}
use Rattle.commands.specs.Facts.{command_bytes}
use Rattle.commands.specs.Text.{journal_bytes}
use Rattle.commands.specs.Join.{good_seam, seam_command}
use Rattle.storing.proofs.Sets.{sets_behind}
use Rattle.refusals.specs.declared.Refusal.TheVariants.{BadSeam}
use Rattle.joining.specs.declared.seams.Counts.{Counts}
use Rattle.joining.specs.declared.seams.Seam.{Seam}
use Rattle.joining.specs.Inside.Seams.{seam_of, one_of, seam_at, look_at, seam_bytes, ducts_fit}
use Rattle.joining.proofs.JoinedText.{seam-length}

-- ducts that are numbers of two bytes, place by place
all_ducts : (seams : List Seam) → ((k : ℕ) → k < length seams → (seam_at seams k).duct < 65536) → ducts_fit seams ≡ true
unfolding ducts_fit all_in seam_at
all_ducts [] each = refl
all_ducts (seam ∷ later) each =
    and_both (lt-ltb seam.duct 65536 (each 0 (omega arith))) (all_ducts later (λ k h. each (suc k) (omega (arith, h))))

-- from place i on there is seam i, and then what is there from the next place on
from_here : (seams : List Seam) (i : ℕ) → i < length seams → drop i seams ≡ seam_at seams i ∷ drop (i + 1) seams
unfolding seam_at
from_here seams i h =
    let next : suc i ≡ i + 1 = omega arith in
    drop-cons seams i _ h ∙ ap (λ (k : ℕ). seam_at seams i ∷ drop k seams) next

module _ (c : Counts) (seams : List Seam) where
  abbrev good_from : ℕ → Bool
  good_from i = all_in (good_seam c.cabinets c.others) (map seam_of (drop i seams))

  -- All are good if those from place i on are; those before have ducts of two bytes.
  pub record LookedTo (i : ℕ) : Type 0 where
    pub left : good_from i ≡ good_from 0
    pub ducts : (k : ℕ) → k < i → (seam_at seams k).duct < 65536

  pub looked_at_none : LookedTo 0
  looked_at_none = record { left = refl; ducts = λ k h. absurd (omega (arith, h)) }

  module _ (i : ℕ) (h : i < length seams) (so_far : LookedTo i) where
    with_next : (good_seam c.cabinets c.others (seam_of (seam_at seams i)) && good_from (i + 1)) ≡ good_from 0
    unfolding all_in
    with_next = ap (λ xs. all_in (good_seam c.cabinets c.others) (map seam_of xs)) (sym (from_here seams i h)) ∙ so_far.left

    -- a good one is passed
    pub looked_at_one : {seam : Seam} → seam ≡ seam_at seams i → seam.duct < 65536 → {tested : Bool}
        → tested ≡ good_seam c.cabinets c.others (seam_of seam) → tested ≡ true → LookedTo (i + 1)
    looked_at_one is fits test good =
        record {
          left = ap (λ b. b && good_from (i + 1)) (sym good ∙ test ∙ ap (λ x. good_seam c.cabinets c.others (seam_of x)) is) ∙ with_next;
          ducts = below_more (λ k. (seam_at seams k).duct < 65536) i so_far.ducts (subst (λ (x : Seam). x.duct < 65536) is fits);
        }

    -- at one that is not good the join is refused
    pub not_good : {seam : Seam} → seam ≡ seam_at seams i → {tested : Bool} → tested ≡ good_seam c.cabinets c.others (seam_of seam)
        → tested ≡ false → Err BadSeam ≡ look_at c seams
    unfolding look_at
    not_good is test bad = rw (sym with_next, sym is, sym test, bad) refl

  -- and where none is, it goes on
  module _ {i : ℕ} (so_far : LookedTo i) (h : length seams ≤ i) where
    pub looked_at_all : Ok tt ≡ look_at c seams
    unfolding look_at all_in
    looked_at_all = rw (sym so_far.left, drop_of_length-le seams {i = i} h) refl

    pub ducts_looked_at : ducts_fit seams ≡ true
    ducts_looked_at = all_ducts seams (λ k l. so_far.ducts k (omega (arith, l, h)))

  -- With the commands for the seams from place i on stored too, they all are.
  pub record StoredTo (lent : List ℕ) (front i at : ℕ) (out : List ℕ) : Type 0 where
    pub place_is : at ≡ front + i * 7
    pub left : sets out at (seam_bytes c (drop i seams)) ≡ sets lent front (seam_bytes c seams)
    pub as_long : length out ≡ length lent

  pub stored_none : (lent : List ℕ) (front : ℕ) → StoredTo lent front 0 front lent
  stored_none lent front = record { place_is = omega arith; left = refl; as_long = refl }

  module _ {lent : List ℕ} {front i at : ℕ} {out : List ℕ} (so_far : StoredTo lent front i at out) where
    -- one more
    pub stored_one : i < length seams → {new : List ℕ}
        → {seam : Seam} → seam ≡ seam_at seams i
        → new ≡ sets out at (command_bytes (seam_command (one_of c) (seam_of seam)))
        → StoredTo lent front (i + 1) (at + 7) new
    unfolding seam_bytes journal_bytes
    stored_one h seam_is stored =
        let command = command_bytes (seam_command (one_of c) (seam_of (seam_at seams i))) in
        let is = stored ∙ ap (λ x. sets out at (command_bytes (seam_command (one_of c) (seam_of x)))) seam_is in
        record {
          place_is = omega (arith, so_far.place_is);
          left =
              rw is (sets_behind out at (at + 7) command (seam_bytes c (drop (i + 1) seams)) (omega (arith, seam-length (one_of c) (seam_of (seam_at seams i)))))
              ∙ ap (λ xs. sets out at (seam_bytes c xs)) (sym (from_here seams i h))
              ∙ so_far.left;
          as_long = ap length is ∙ length-sets out at command ∙ so_far.as_long;
        }

    -- and all
    pub stored_all : i ≡ length seams → (at ≡ front + length seams * 7) × (out ≡ sets lent front (seam_bytes c seams))
    unfolding seam_bytes journal_bytes
    stored_all h =
        (so_far.place_is ∙ ap (λ n. front + n * 7) h, ap (λ xs. sets out at (seam_bytes c xs)) (sym (drop_of_length-le seams {i = i} (omega (arith, h)))) ∙ so_far.left)
