-- The run without room, and the run with room: which answers fit, and where the run is cut.
use mathlib.Core.List.{List, [], ◌∷◌}
use mathlib.Core.Logic.{◌⊎◌, inl, inr}
use mathlib.Core.Option.{Option, none, some}
use mathlib.Core.Path.{◌≡◌, refl, sym, ◌∙◌, ap}
use Prim.Native.Nat.{ℕ, zero, suc, ◌+◌, ◌-◌, ◌≤◌, ◌<◌, suc-le-suc}
use native.Mathlib.Omega.{arith}
use lib.ListN.{length, take, drop, length-append, length-drop}
use lib.Seq.{take-length, length-take-le}
use Rattle.graph.proofs.Truth.{le-leb}
use Rattle.commands.specs.Answer.{answer_bytes}
use Rattle.commands.specs.Refusal.{Refusal, no_room}
use Rattle.commands.specs.Run.{Accepted, Run, stop, and_then, fitting, bytes_of_answers}
use Rattle.commands.proofs.Cases.{le_or_gt, gt_leb, impossible}

-- the answers' bytes are the first answer's and the others', counted
pub bytes_of_more : (a : Accepted) (later : List Accepted)
    → length (bytes_of_answers (a ∷ later)) ≡ length (answer_bytes a.answer) + length (bytes_of_answers later)
unfolding bytes_of_answers
bytes_of_more a later = length-append (answer_bytes a.answer) (bytes_of_answers later)

-- the first answer fits: it is given, and the others have the room that is left
pub first_fits : (room : ℕ) (a : Accepted) (later : List Accepted) (end : Option Refusal) → length (answer_bytes a.answer) ≤ room
    → fitting room (a ∷ later) end ≡ and_then a (fitting (room - length (answer_bytes a.answer)) later end)
unfolding fitting
first_fits room a later end h = rw (le-leb (length (answer_bytes a.answer)) room h, fitting)

-- the first answer does not fit: the run is stopped
pub first_does_not_fit : (room : ℕ) (a : Accepted) (later : List Accepted) (end : Option Refusal)
    → room < length (answer_bytes a.answer) → fitting room (a ∷ later) end ≡ stop no_room
unfolding fitting
first_does_not_fit room a later end h = rw (gt_leb (length (answer_bytes a.answer)) room h, fitting)

-- there is room for all answers
abbrev pub RoomForAll : ℕ → List Accepted → Type 0
RoomForAll room l = length (bytes_of_answers l) ≤ room

-- the answers before an accepted command fit, and its own is longer than the room that they leave
pub record CutAt (room : ℕ) (l : List Accepted) : Type 0 where
  pub count : ℕ
  pub next : Accepted
  pub later : List Accepted
  pub splits : drop count l ≡ next ∷ later
  pub fits : RoomForAll room (take count l)
  pub no_room_lem : room < length (bytes_of_answers (take count l)) + length (answer_bytes next.answer)

-- there is room for all answers, or the run is cut
pub cut_where_no_room : (room : ℕ) (l : List Accepted) → RoomForAll room l ⊎ CutAt room l
unfolding bytes_of_answers
cut_where_no_room room [] = inl (omega arith)
cut_where_no_room room (a ∷ later) = go (le_or_gt size room) (cut_where_no_room (room - size) later)
  where
    size : ℕ
    size = length (answer_bytes a.answer)

    go : (size ≤ room) ⊎ (room < size) → RoomForAll (room - size) later ⊎ CutAt (room - size) later
        → RoomForAll room (a ∷ later) ⊎ CutAt room (a ∷ later)
    go (inl h) (inl w) = inl (rw (bytes_of_more a later) (omega arith))
    go (inl h) (inr c) =
        inr
        (record {
          count = suc c.count;
          next = c.next;
          later = c.later;
          splits = c.splits;
          fits = rw (bytes_of_more a (take c.count later)) (omega (arith, c.fits));
          no_room_lem = rw (bytes_of_more a (take c.count later)) (omega (arith, c.no_room_lem));
        })
    go (inr h) w = inr (record { count = 0; next = a; later = later; splits = refl; fits = omega arith; no_room_lem = omega arith })

-- with room for all answers, the run is the run without regard to room
pub all_fit_whole : (room : ℕ) (l : List Accepted) (end : Option Refusal) → RoomForAll room l
    → fitting room l end ≡ record { accepted = l; refusal = end }
unfolding fitting and_then
all_fit_whole room [] end h = refl
all_fit_whole room (a ∷ later) end h =
    first_fits room a later end (omega (arith, bytes_of_more a later))
    ∙ ap (and_then a) (all_fit_whole (room - length (answer_bytes a.answer)) later end (omega (arith, bytes_of_more a later)))

-- where an answer does not fit, the run stops before its command, for want of room
pub cut_at-stop : (room : ℕ) (l : List Accepted) (end : Option Refusal) (c : CutAt room l)
    → fitting room l end ≡ record { accepted = take c.count l; refusal = some no_room }
unfolding bytes_of_answers stop and_then
cut_at-stop room l end c = stops_before room l c.count c.splits c.fits c.no_room_lem
  where
    stops_before : (room : ℕ) (l : List Accepted) (count : ℕ) {next : Accepted} {later : List Accepted} → drop count l ≡ next ∷ later
        → RoomForAll room (take count l) → room < length (bytes_of_answers (take count l)) + length (answer_bytes next.answer)
        → fitting room l end ≡ record { accepted = take count l; refusal = some no_room }
    stops_before room [] zero e h n = impossible (cc)
    stops_before room [] (suc k) e h n = impossible (cc)
    stops_before room (a ∷ l) zero {next} e h n =
        let same : a ≡ next = cc in
        first_does_not_fit room a l end (omega (arith, ap (λ (b : Accepted). length (answer_bytes b.answer)) same))
    stops_before room (a ∷ l) (suc k) e h n =
        first_fits room a l end (omega (arith, bytes_of_more a (take k l)))
        ∙ ap
        (and_then a)
        (stops_before
        (room - length (answer_bytes a.answer))
        l
        k
        e
        (omega (arith, bytes_of_more a (take k l)))
        (omega (arith, bytes_of_more a (take k l))))

-- a run with room for all answers is not cut
pub not_cut : (room : ℕ) (l : List Accepted) → RoomForAll room l → CutAt room l → ⊥
not_cut room l all cut =
    let same : none ≡ some no_room = ap (λ (r : Run). r.refusal) (sym (all_fit_whole room l none all) ∙ cut_at-stop room l none cut) in
    impossible (cc)

-- the command that is not answered is one of the accepted ones
pub cut_before_end : (room : ℕ) (l : List Accepted) (c : CutAt room l) → c.count < length l
cut_before_end room l c = omega (arith, ap length c.splits, length-drop c.count l)

-- the answers that are given fit into the room
pub answers_fit : (room : ℕ) (l : List Accepted) (end : Option Refusal) → length (bytes_of_answers (fitting room l end).accepted) ≤ room
answers_fit room l end = go (cut_where_no_room room l)
  where
    go : RoomForAll room l ⊎ CutAt room l → length (bytes_of_answers (fitting room l end).accepted) ≤ room
    go (inl w) = rw (all_fit_whole room l end w) w
    go (inr c) = rw (cut_at-stop room l end c) c.fits

-- the one list begins the other
pub record Prefix {ℓ} {A : Type ℓ} (l m : List A) : Type ℓ where
  pub shorter : length l ≤ length m
  pub same : l ≡ take (length l) m

-- the first k of a list begin it
pub take_is_prefix {ℓ} : {A : Type ℓ} (k : ℕ) (l : List A) → k ≤ length l → Prefix (take k l) l
take_is_prefix k l h =
    record { shorter = rw (length-take-le k l h) h; same = ap (λ n. take n l) (sym (length-take-le k l h)) }

-- and still do behind one more element
pub cons_prefix {ℓ} : {A : Type ℓ} (a : A) {l m : List A} → Prefix l m → Prefix (a ∷ l) (a ∷ m)
cons_prefix {A = A} a p = record { shorter = suc-le-suc p.shorter; same = ap {B = List A} (λ r. a ∷ r) p.same }

-- the commands that are answered are the first of those accepted without regard to room
pub fitting_is_prefix : (room : ℕ) (l : List Accepted) (end : Option Refusal) → Prefix (fitting room l end).accepted l
fitting_is_prefix room l end = go (cut_where_no_room room l)
  where
    go : RoomForAll room l ⊎ CutAt room l → Prefix (fitting room l end).accepted l
    go (inl w) = rw (all_fit_whole room l end w) (record { shorter = omega arith; same = sym (take-length l) })
    go (inr c) = rw (cut_at-stop room l end c) (take_is_prefix c.count l (omega (arith, cut_before_end room l c)))

-- more room changes no earlier answer
pub more_room_changes_no_earlier_answer : (room room' : ℕ) (l : List Accepted) (end : Option Refusal) → room ≤ room'
    → Prefix (fitting room l end).accepted (fitting room' l end).accepted
unfolding fitting and_then stop
more_room_changes_no_earlier_answer room room' [] end h = record { shorter = omega arith; same = refl }
more_room_changes_no_earlier_answer room room' (a ∷ later) end h =
    go (le_or_gt size room) (more_room_changes_no_earlier_answer (room - size) (room' - size) later end (omega arith))
  where
    size : ℕ
    size = length (answer_bytes a.answer)

    go : (size ≤ room) ⊎ (room < size) → Prefix (fitting (room - size) later end).accepted (fitting (room' - size) later end).accepted
        → Prefix (fitting room (a ∷ later) end).accepted (fitting room' (a ∷ later) end).accepted
    go (inl e) p = rw (first_fits room a later end e, first_fits room' a later end (omega arith)) (cons_prefix a p)
    go (inr e) p = rw (first_does_not_fit room a later end e) (record { shorter = omega arith; same = refl })
