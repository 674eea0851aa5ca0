-- Places of a text: where it ends and what stands there, and where each of its commands stands.
use mathlib.Core.Bool.{true, false}
use mathlib.Core.List.{List, ◌∷◌}
use mathlib.Core.Logic.Iff
use mathlib.Core.Logic.{◌↔◌}
use mathlib.Core.Option.{Option, none, some}
use mathlib.Core.Path.{◌≡◌, refl, sym, ◌∙◌, ap}
use Prim.Native.Nat.{ℕ, zero, suc, ◌≤◌, ◌<◌}
use native.Mathlib.Nat.{zero-add, suc-add, not-suc-le-zero}
use native.Mathlib.Omega.{arith}
use lib.ListN.{length, take, drop, get_elem?, length-drop}
use lib.Seq.{drop-drop}
use Rattle.commands.specs.Command.{form, Reading, unknown_byte, cut_off, command, read_command}
use Rattle.commands.specs.Refusal.{Refusal, bad_byte, cut_operands}
use Rattle.commands.specs.Text.{Read, text_of, place_behind}
use Rattle.commands.proofs.Reading.{is_command, width_of, no_command_exactly, cut_off_exactly, operands_fit}
use Rattle.commands.proofs.Table.{stage}
use Rattle.commands.proofs.Placed.{Stands, stands_in_journal, stands_exactly, text_placed, placed_behind}
use Rattle.commands.proofs.TextSteps.{Unreadable, bad_byte_lem, cut_operands_lem, Spells, no_more, unreadable, one_more_lem, text_steps}

-- behind a command the place counts on from the end of its operands
stands_behind : (r : Read) (later : List Read) (byte : ℕ) (bytes : List ℕ) {Is : ℕ → List ℕ → Type 0}
    → Stands (place_behind later) (drop r.width bytes) Is → Stands (place_behind (r ∷ later)) (byte ∷ bytes) Is
unfolding place_behind
stands_behind r later byte bytes at =
    record {
      byte = at.byte;
      bytes = at.bytes;
      at_place =
          rw
          (suc-add r.width (place_behind later))
          (sym (drop-drop (place_behind later) r.width bytes) ∙ at.at_place);
      is_so = at.is_so;
    }

-- what is read is unreadable for one refusal
pub unreadable_for_one : {read : Reading} {r q : Refusal} → Unreadable read r → Unreadable read q → r ≡ q
unreadable_for_one bad_byte_lem bad_byte_lem = refl
unreadable_for_one cut_operands_lem cut_operands_lem = refl

-- and it is one of the stage where no command can be read
pub unreadable_stage : {read : Reading} {r : Refusal} → Unreadable read r → stage r ≡ 1
unfolding stage
unreadable_stage bad_byte_lem = refl
unreadable_stage cut_operands_lem = refl

-- a bad byte is an unknown one
unreadable_byte : {read : Reading} → Unreadable read bad_byte ↔ (read ≡ unknown_byte)
unreadable_byte = (go, λ e. rw e bad_byte_lem)
  where
    go : {read : Reading} → Unreadable read bad_byte → read ≡ unknown_byte
    go bad_byte_lem = refl

-- and cut operands are operands cut off
unreadable_operands : {read : Reading} → Unreadable read cut_operands ↔ (read ≡ cut_off)
unreadable_operands = (go, λ e. rw e cut_operands_lem)
  where
    go : {read : Reading} → Unreadable read cut_operands → read ≡ cut_off
    go cut_operands_lem = refl

-- the commands take no more bytes than the journal has
pub spelled_in_journal : {journal : List ℕ} {l : List Read} {end : Option Refusal} → Spells journal l end → place_behind l ≤ length journal
unfolding place_behind
spelled_in_journal no_more = omega arith
spelled_in_journal (unreadable u) = omega arith
spelled_in_journal (one_more_lem {byte = byte} {bytes = bytes} {r = r} e rest) =
    omega (arith, operands_fit byte bytes r.command r.width e, simp length-drop at (spelled_in_journal rest))

-- where the commands end stands what cannot be read, with this refusal
abbrev pub UnreadableAt : List ℕ → List Read → Refusal → Type 0
UnreadableAt journal l q = Stands (place_behind l) journal (λ byte bytes. Unreadable (read_command byte bytes) q)

-- the journal ends where the commands end, or what stands there cannot be read
abbrev pub TextEndsAt : List ℕ → List Read → Option Refusal → Type 0
TextEndsAt journal l none = place_behind l ≡ length journal
TextEndsAt journal l (some q) = UnreadableAt journal l q

-- every text ends in one of these two ways
pub ends_at_place : {journal : List ℕ} {l : List Read} (end : Option Refusal) → Spells journal l end → TextEndsAt journal l end
unfolding place_behind
ends_at_place none no_more = refl
ends_at_place (some q) (unreadable u) = record { byte = _; bytes = _; at_place = refl; is_so = u }
ends_at_place none (one_more_lem {byte = byte} {bytes = bytes} {r = r} e rest) =
    omega (arith, operands_fit byte bytes r.command r.width e, simp length-drop at (ends_at_place none rest))
ends_at_place (some q) (one_more_lem {byte = byte} {bytes = bytes} {r = r} {later = later} e rest) =
    stands_behind r later byte bytes (ends_at_place (some q) rest)

-- command k of a text is read where those before it end
kth_is_read : {journal : List ℕ} {l : List Read} {end : Option Refusal} → Spells journal l end → (k : ℕ) → k < length l
    → (r : Read)
    × ((get_elem? l k ≡ some r)
    × Stands (place_behind (take k l)) journal (λ byte bytes. read_command byte bytes ≡ command r.command r.width))
unfolding place_behind
kth_is_read no_more k h = absurd (not-suc-le-zero h)
kth_is_read (unreadable u) k h = absurd (not-suc-le-zero h)
kth_is_read (one_more_lem {r = r} e rest) zero h = (r, (refl, record { byte = _; bytes = _; at_place = refl; is_so = e }))
kth_is_read (one_more_lem {byte = byte} {bytes = bytes} {r = r} {later = later} e rest) (suc k) h =
    let (this, (is_kth, at)) = kth_is_read rest k (omega arith) in
    (this, (is_kth, stands_behind r (take k later) byte bytes at))

-- command k of the text stands at its place, which is where those before it end
pub record ReadAt (journal : List ℕ) (l : List Read) (k : ℕ) : Type 0 where
  pub this : Read
  pub is_kth : get_elem? l k ≡ some this
  pub its_place : this.place ≡ place_behind (take k l)
  pub is_read : Stands this.place journal (λ byte bytes. read_command byte bytes ≡ command this.command this.width)

-- the text of a journal
module _ (journal : List ℕ) where
  -- its commands end in the journal, or at its end
  pub text_in_journal : place_behind (text_of journal).commands ≤ length journal
  text_in_journal = spelled_in_journal (text_steps journal)

  -- a text without a refusal is of the whole journal
  pub text_read_whole : (text_of journal).refusal ≡ none → place_behind (text_of journal).commands ≡ length journal
  text_read_whole e = ends_at_place none (rw e at (text_steps journal))

  -- one with a refusal ends where its cause stands
  pub text_stops : {r : Refusal} → (text_of journal).refusal ≡ some r → UnreadableAt journal (text_of journal).commands r
  text_stops {r} e = ends_at_place (some r) (rw e at (text_steps journal))

  -- and if what stands there cannot be read, that is its refusal
  pub text_stops_exactly : (r : Refusal) → ((text_of journal).refusal ≡ some r) ↔ UnreadableAt journal (text_of journal).commands r
  text_stops_exactly r = (text_stops, λ at. go at (text_of journal).refusal (text_steps journal))
    where
      go : UnreadableAt journal (text_of journal).commands r → (end : Option Refusal) → Spells journal (text_of journal).commands end
          → end ≡ some r
      go at none steps = absurd (omega (arith, stands_in_journal _ journal _ at, ends_at_place none steps))
      go at (some q) steps =
          let there = ends_at_place (some q) steps in
          let same : there.byte ∷ there.bytes ≡ at.byte ∷ at.bytes = sym there.at_place ∙ at.at_place in
          let read : read_command there.byte there.bytes ≡ read_command at.byte at.bytes = cc in
          ap some (unreadable_for_one (rw read at there.is_so) at.is_so)

  -- a text's refusal is one of the stage where no command can be read
  pub text_stage : (r : Refusal) → (text_of journal).refusal ≡ some r → stage r ≡ 1
  text_stage r e = unreadable_stage (text_stops e).is_so

  -- bad byte: where the text ends stands a byte that is no command's
  pub text_bad_byte_exactly : ((text_of journal).refusal ≡ some bad_byte)
      ↔ Stands (place_behind (text_of journal).commands) journal (λ byte bytes. is_command byte ≡ false)
  text_bad_byte_exactly =
      Iff.trans
      (text_stops_exactly bad_byte)
      (stands_exactly _ journal _ _ (λ byte bytes. Iff.trans unreadable_byte (no_command_exactly byte bytes)))

  -- cut operands: a command's byte stands there, and its operands are longer than what follows
  pub text_cut_operands_exactly : ((text_of journal).refusal ≡ some cut_operands)
      ↔ Stands
      (place_behind (text_of journal).commands)
      journal
      (λ byte bytes. (is_command byte ≡ true) × (length bytes < width_of (form byte)))
  text_cut_operands_exactly =
      Iff.trans
      (text_stops_exactly cut_operands)
      (stands_exactly _ journal _ _ (λ byte bytes. Iff.trans unreadable_operands (cut_off_exactly byte bytes)))

  -- every command of the text stands where those before it end
  pub each_read_at_its_place : (k : ℕ) → k < length (text_of journal).commands → ReadAt journal (text_of journal).commands k
  unfolding text_of
  each_read_at_its_place k h =
      let (this, (is_kth, at)) = kth_is_read (text_steps journal) k h in
      let place = placed_behind 0 k (text_of journal).commands this (text_placed 0 0 journal) is_kth ∙ zero-add _ in
      record { this = this; is_kth = is_kth; its_place = place; is_read = rw place at }
