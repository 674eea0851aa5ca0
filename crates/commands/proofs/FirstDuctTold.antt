-- The first 0B of commands that were read: its place is found, and none exactly where no command is 0B.
use mathlib.Core.Bool.{Bool, true, false, not}
use mathlib.Core.List.{List, [], ◌∷◌, ◌++◌, map}
use mathlib.Core.Logic.{◌↔◌, ◌⊎◌, inl, inr}
use mathlib.Core.Option.{none, some}
use mathlib.Core.Path.{◌≡◌, refl, sym, ◌∙◌, ap, subst}
use Prim.Native.Nat.{ℕ, ◌<◌}
use native.Mathlib.Omega.{arith}
use lib.Dec.{eqb}
use lib.ListN.{length, get_elem?}
use Rattle.graph.specs.Lists.{all_in}
use Rattle.graph.proofs.Truth.{true_or_false, not_both, not_of_false, false_of_not_true, and_left, and_right, and_both, eqb_eq, eq-eqb}
use Rattle.commands.specs.Command.{command, read_command, command_byte}
use Rattle.commands.specs.Text.{Read, text_of}
use Rattle.commands.specs.Ducts.{ductless}
use Rattle.commands.specs.Rewrite.{first_duct_told}
use Rattle.commands.proofs.Cases.{impossible}
use Rattle.commands.proofs.Placed.{Stands}
use Rattle.commands.proofs.TextPlaces.{each_read_at_its_place}
use Rattle.commands.proofs.ReadFront.{byte_of_read}

-- the command that was read is 0B
abbrev is_told : Read → Bool
is_told r = eqb (command_byte r.command) 0x0B

-- none of the commands that were read is
abbrev NoneTold : List Read → Type 0
NoneTold reads = ductless (map (λ r. r.command) reads) ≡ true

-- a first command 0B is found at its place
told_here : (r : Read) (later : List Read) → is_told r ≡ true → first_duct_told (r ∷ later) ≡ some r.place
unfolding first_duct_told
told_here r later e = rw e

-- another is passed over
told_later : (r : Read) (later : List Read) → is_told r ≡ false → first_duct_told (r ∷ later) ≡ first_duct_told later
unfolding first_duct_told
told_later r later e = rw e

-- none of some commands is 0B exactly if the first is not and none behind it
none_told_more : (r : Read) (later : List Read) → is_told r ≡ false → NoneTold later → NoneTold (r ∷ later)
unfolding ductless all_in
none_told_more r later other free = and_both (not_of_false other) free

none_told_first : (r : Read) (later : List Read) → NoneTold (r ∷ later) → is_told r ≡ false
unfolding ductless all_in
none_told_first r later free = false_of_not_true (is_told r) (and_left (not (is_told r)) _ free)

none_told_behind : (r : Read) (later : List Read) → NoneTold (r ∷ later) → NoneTold later
unfolding ductless all_in
none_told_behind r later free = and_right (not (is_told r)) _ free

-- No place is found exactly if none of the commands is 0B.
pub first_duct_told_none : (reads : List Read) → (first_duct_told reads ≡ none) ↔ (ductless (map (λ r. r.command) reads) ≡ true)
first_duct_told_none [] = unfold first_duct_told ductless all_in in (λ e. refl, λ e. refl)
first_duct_told_none (r ∷ later) = go (first_duct_told_none later) (true_or_false (is_told r))
  where
    go : (first_duct_told later ≡ none) ↔ NoneTold later → (is_told r ≡ true) ⊎ (is_told r ≡ false)
        → (first_duct_told (r ∷ later) ≡ none) ↔ NoneTold (r ∷ later)
    go rest (inl told) = (
      λ e. impossible (cc (told_here r later told)),
      λ free. absurd (not_both told (none_told_first r later free)),
    )
    go rest (inr other) = (
      λ e. none_told_more r later other (rest.0 (sym (told_later r later other) ∙ e)),
      λ free. told_later r later other ∙ rest.1 (none_told_behind r later free),
    )

-- One of the commands is 0B and stands at the place, and none before it is 0B.
pub record FirstDuctTold (reads : List Read) (place : ℕ) : Type 0 where
  pub before : List Read
  pub this : Read
  pub later : List Read
  pub in_order : reads ≡ before ++ this ∷ later
  pub none_before : ductless (map (λ r. r.command) before) ≡ true
  pub is_told_lem : command_byte this.command ≡ 0x0B
  pub its_place : this.place ≡ place

-- so it is of the place that is found
first_duct_told_is : (reads : List Read) (place : ℕ) → first_duct_told reads ≡ some place → FirstDuctTold reads place
first_duct_told_is [] place e = unfold first_duct_told in impossible (cc)
first_duct_told_is (r ∷ later) place e = go (first_duct_told_is later place) (true_or_false (is_told r))
  where
    go : (first_duct_told later ≡ some place → FirstDuctTold later place) → (is_told r ≡ true) ⊎ (is_told r ≡ false) → FirstDuctTold (r ∷ later) place
    go rest (inl told) =
        record {
          before = [];
          this = r;
          later = later;
          in_order = refl;
          none_before = unfold ductless all_in in refl;
          is_told_lem = eqb_eq (command_byte r.command) 0x0B told;
          its_place = cc (told_here r later told);
        }
    go rest (inr other) =
        let there = rest (sym (told_later r later other) ∙ e) in
        record {
          before = r ∷ there.before;
          this = there.this;
          later = there.later;
          in_order = ap (λ l. r ∷ l) there.in_order;
          none_before = none_told_more r there.before other there.none_before;
          is_told_lem = there.is_told_lem;
          its_place = there.its_place;
        }

-- and it is found behind commands none of which is 0B
found_behind : (before : List Read) (this : Read) (later : List Read) → NoneTold before → is_told this ≡ true
    → first_duct_told (before ++ this ∷ later) ≡ some this.place
found_behind [] this later free told = told_here this later told
found_behind (r ∷ before) this later free told =
    told_later r (before ++ this ∷ later) (none_told_first r before free)
    ∙ found_behind before this later (none_told_behind r before free) told

-- A place is found exactly if the first 0B stands there.
pub first_duct_told_exactly : (reads : List Read) (place : ℕ) → (first_duct_told reads ≡ some place) ↔ FirstDuctTold reads place
first_duct_told_exactly reads place = (
  first_duct_told_is reads place,
  λ f.
      ap first_duct_told f.in_order
      ∙ found_behind f.before f.this f.later f.none_before (eq-eqb (command_byte f.this.command) 0x0B f.is_told_lem)
      ∙ ap some f.its_place,
)

-- what stands behind so many
behind_so_many : (before : List Read) (this : Read) (later : List Read) → get_elem? (before ++ this ∷ later) (length before) ≡ some this
behind_so_many [] this later = refl
behind_so_many (r ∷ before) this later = behind_so_many before this later

within_so_many : (before : List Read) (this : Read) (later : List Read) → length before < length (before ++ this ∷ later)
within_so_many [] this later = omega arith
within_so_many (r ∷ before) this later = omega (arith, within_so_many before this later)

-- what is read at a place, and is 0B, stands there with its byte
told_stands : (journal : List ℕ) (r : Read) → command_byte r.command ≡ 0x0B
    → Stands r.place journal (λ byte bytes. read_command byte bytes ≡ command r.command r.width)
    → Stands r.place journal (λ byte bytes. byte ≡ 0x0B)
told_stands journal r told at =
    record {
      byte = at.byte;
      bytes = at.bytes;
      at_place = at.at_place;
      is_so = sym (byte_of_read at.byte at.bytes r.command r.width at.is_so) ∙ told;
    }

-- In the journal the byte 0B stands at the place that is found.
pub told_in_journal : (journal : List ℕ) (place : ℕ) → first_duct_told (text_of journal).commands ≡ some place
    → Stands place journal (λ byte bytes. byte ≡ 0x0B)
told_in_journal journal place e = go (first_duct_told_is (text_of journal).commands place e)
  where
    reads : List Read
    reads = (text_of journal).commands

    go : FirstDuctTold reads place → Stands place journal (λ byte bytes. byte ≡ 0x0B)
    go f =
        let k = length f.before in
        let split = sym f.in_order in
        let few = subst (λ l. k < length l) split (within_so_many f.before f.this f.later) in
        let at = each_read_at_its_place journal k few in
        let here = subst (λ l. get_elem? l k ≡ some f.this) split (behind_so_many f.before f.this f.later) in
        let kth = at.is_kth in
        let same : at.this ≡ f.this = cc in
        subst (λ p. Stands p journal (λ byte bytes. byte ≡ 0x0B)) (ap (λ (r : Read). r.place) same ∙ f.its_place)
        (told_stands journal at.this (ap (λ (r : Read). command_byte r.command) same ∙ f.is_told_lem) at.is_read)
