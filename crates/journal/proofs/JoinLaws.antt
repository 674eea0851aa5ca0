-- The entry that joins: what is told and left is the joining, whose result is answered as is promised.
use mathlib.Core.Bool.{true}
use mathlib.Core.List.{List, map}
use mathlib.Core.Path.{◌≡◌, sym, ◌∙◌, ap, subst}
use Prim.Native.Nat.{ℕ}
use lib.Dec.{ltb}
use lib.ListN.{length, take}
use Rattle.graph.specs.Lists.{all_in}
use Rattle.graph.proofs.Truth.{or_neither_left, or_neither_right, ltb_ge}
use Rattle.graph.proofs.MappedLists.{all_in_mapped}
use Rattle.std.specs.Prelude.{Result}
use Rattle.refusals.specs.declared.Refusal.{Refusal}
use Rattle.commands.specs.Entry.{work_needed}
use Rattle.commands.specs.Join as Join
use Rattle.commands.specs.Join.{join_capacities, is_refused, joined_bytes, join, AnsweredJoined}
use Rattle.joining.proofs.JoinExactly.{join_nought_exactly, join_with_nought}
use Rattle.joining.proofs.JoinedAnswers.{Joinable, answered_joined}
use Rattle.joining.specs.declared.seams.Seam.{Seam}
use Rattle.joining.specs.Promise.{seam_of}
use Rattle.joining.specs.Told.{ducts_fit, tells_number, tells_length, Joined}
use Rattle.journal.specs.Promise.{JoinPromise}
use Rattle.journal.proofs.RewriteLaws.{front_of_over}

-- the ducts in the paper's words
ducts_of : (xs : List Seam) → ducts_fit xs ≡ true → all_in (λ x. ltb x.duct 65536) (map seam_of xs) ≡ true
unfolding ducts_fit seam_of
ducts_of xs e = all_in_mapped seam_of (λ x. ltb x.duct 65536) xs ∙ e

-- what is joined and told is promised
pub join_promised : (first second : List ℕ) (xs : List Seam) {table lent left_table left : List ℕ} {told : Result ℕ Refusal}
    → Joined first second xs told table left_table lent left
    → {returned room : ℕ} → (returned ≡ tells_number told) × (room ≡ tells_length told)
    → JoinPromise first second (map seam_of xs) table lent returned room left_table left
join_promised first second xs {table} {lent} {left_table} {left} {told} w {returned} {room} told_as =
    record {
      returned_is = number_is;
      length_is = length_is;
      work_is = w.work_is;
      output_is = w.output_is;
      answered_joined = λ accepted. subst (AnsweredJoined first second seams) (sym (front accepted)) (answered_joined (joinable accepted));
    }
  where
    seams : List Join.Seam
    seams = map seam_of xs

    number_is : returned ≡ (join (length table) (length lent) first second seams).number
    number_is = told_as.0 ∙ w.number_is

    length_is : room ≡ length (join (length table) (length lent) first second seams).result
    length_is = told_as.1 ∙ w.length_is

    nought : returned ≡ 0 → (join (length table) (length lent) first second seams).number ≡ 0
    nought accepted = sym number_is ∙ accepted

    joinable : returned ≡ 0 → Joinable first second seams
    joinable accepted =
        let n = (join_nought_exactly (length table) (length lent) first second seams).0 (nought accepted) in
        let bytes = w.are_bytes (ltb_ge (length table) (work_needed join_capacities) n.0) in
        record {
          first_bytes = bytes.0;
          second_bytes = bytes.1;
          first_accepted = or_neither_left (is_refused first) (is_refused second) n.1.0;
          second_accepted = or_neither_right (is_refused first) (is_refused second) n.1.0;
          good_seams = n.1.1.0;
          ducts_fit_lem = ducts_of xs (w.ducts_fit_lem (sym told_as.0 ∙ accepted));
        }

    -- the result stands at the front of the buffer
    front : returned ≡ 0 → take room left ≡ joined_bytes first second seams
    front accepted =
        ap (take room) w.output_is
        ∙ front_of_over (join (length table) (length lent) first second seams).result lent room (sym length_is)
        ∙ join_with_nought (length table) (length lent) first second seams (nought accepted)
