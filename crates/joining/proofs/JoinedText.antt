-- The bytes of a result (request 9): how many they are, that they are bytes, and that its commands are read back from them.
use mathlib.Core.Bool.{Bool, true, false, false≢true}
use mathlib.Core.List.{List, [], ◌∷◌, ◌++◌, map, append_assoc}
use mathlib.Core.Option.{Option, none}
use mathlib.Core.Path.{◌≡◌, refl, sym, ◌∙◌, ap, ap₂, subst}
use Prim.Native.Nat.{ℕ, ◌+◌, ◌*◌, ◌/◌, ◌%◌, ◌<◌, ◌≤◌}
use native.Mathlib.Omega.{arith}
use lib.Dec.{ltb}
use lib.ListN.{length, length-append}
use Rattle.graph.specs.Lists.{all_in}
use Rattle.graph.specs.Network.{Network, edge_in_duct, edge_count}
use Rattle.graph.proofs.Truth.{and_left, and_right, and_both, ltb_lt, lt-ltb}
use Rattle.graph.proofs.Members.{all_in-append}
use Rattle.naming.specs.State.{State}
use Rattle.commands.specs.Bytes.{two_bytes, all_bytes}
use Rattle.commands.specs.Field.{Field, cabinet, span, name, number, byte, field_bytes, fields_bytes}
use Rattle.commands.specs.Command.{Command, add_cabinet, add_span, district_name, ring_name, shared_mesh, sole_spans, cut_cabinets, is_sole, mark_exchange, holds_exchange, add_duct_span, routes_between, record_length, span_length, exchange_share, command_byte}
use Rattle.commands.specs.Facts.{facts, asks, operands_of, command_bytes, after}
use Rattle.commands.specs.Refusal.{Refusal, Capacities, cabinet_known, span_known, cabinets_known, spans_known}
use Rattle.commands.specs.Text.{Read, text_of, commands_in, place_behind, journal_bytes}
use Rattle.commands.specs.Join.{Counts, raise_field, raise_fields, raise_command, Seam, seam_command, counts_in, good_seam, joined_bytes}
use Rattle.commands.proofs.Bytes.{FieldsFit}
use Rattle.commands.proofs.Causes.{not_refused_exactly}
use Rattle.commands.proofs.Spelled.{AllSpelled}
use Rattle.commands.proofs.SpelledBack.{length_of_read}
use Rattle.commands.proofs.TextSteps.{Spells, no_more, unreadable, one_more_lem, text_steps}
use Rattle.commands.proofs.TextPlaces.{text_read_whole}
use Rattle.commands.proofs.RunBooks.{NoneRefused, Sound, sound_after}
use Rattle.joining.proofs.Raised.{raised_operands, raised_as_long}
use Rattle.joining.proofs.GoodSeams.{good_seam_lem}

-- the field is a cabinet, a span or another number of two bytes
unfoldable two_byte_field : Field → Bool
two_byte_field (cabinet n) = true
two_byte_field (span n) = true
two_byte_field (name kind n) = false
two_byte_field (number n) = true
two_byte_field (byte n) = false

-- a command is a byte and such operands
command_is : (c : Command) → (command_byte c < 256) × (all_in two_byte_field (operands_of (facts c)) ≡ true)
unfolding command_byte operands_of facts asks all_in two_byte_field
command_is add_cabinet = (omega arith, refl)
command_is (add_span a b) = (omega arith, refl)
command_is (district_name a) = (omega arith, refl)
command_is (ring_name a) = (omega arith, refl)
command_is (shared_mesh a b) = (omega arith, refl)
command_is (sole_spans a b) = (omega arith, refl)
command_is (cut_cabinets a b) = (omega arith, refl)
command_is (is_sole x) = (omega arith, refl)
command_is (mark_exchange a) = (omega arith, refl)
command_is (holds_exchange a) = (omega arith, refl)
command_is (add_duct_span a b d) = (omega arith, refl)
command_is (routes_between a b) = (omega arith, refl)
command_is (record_length x day metres) = (omega arith, refl)
command_is (span_length x) = (omega arith, refl)
command_is exchange_share = (omega arith, refl)

-- bytes behind bytes are bytes
pub all_bytes_both : (xs ys : List ℕ) → all_bytes xs ≡ true → all_bytes ys ≡ true → all_bytes (xs ++ ys) ≡ true
unfolding all_bytes
all_bytes_both = all_in-append (λ b. ltb b 256)

two_bytes_are : (n : ℕ) → all_bytes (two_bytes n) ≡ true
unfolding all_bytes all_in two_bytes
two_bytes_are n = and_both (lt-ltb (n / 256 % 256) 256 (omega arith)) (and_both (lt-ltb (n % 256) 256 (omega arith)) refl)

fields_bytes_are : (fs : List Field) → all_in two_byte_field fs ≡ true → all_bytes (fields_bytes fs) ≡ true
unfolding fields_bytes field_bytes all_in two_byte_field
fields_bytes_are [] e = unfold all_bytes in refl
fields_bytes_are (cabinet n ∷ fs) e = all_bytes_both (two_bytes n) (fields_bytes fs) (two_bytes_are n) (fields_bytes_are fs e)
fields_bytes_are (span n ∷ fs) e = all_bytes_both (two_bytes n) (fields_bytes fs) (two_bytes_are n) (fields_bytes_are fs e)
fields_bytes_are (name kind n ∷ fs) e = all_bytes_both (two_bytes n) (fields_bytes fs) (two_bytes_are n) (fields_bytes_are fs (and_right false _ e))
fields_bytes_are (number n ∷ fs) e = all_bytes_both (two_bytes n) (fields_bytes fs) (two_bytes_are n) (fields_bytes_are fs e)
fields_bytes_are (byte n ∷ fs) e = absurd (false≢true e)

-- a command's bytes are bytes
pub command_bytes_are : (c : Command) → all_bytes (command_bytes c) ≡ true
unfolding command_bytes fields_bytes field_bytes all_bytes all_in
command_bytes_are c = and_both (lt-ltb _ _ (command_is c).0) (fields_bytes_are (operands_of (facts c)) (command_is c).1)

-- and those of many
pub journal_bytes_are : (cs : List Command) → all_bytes (journal_bytes cs) ≡ true
unfolding journal_bytes
journal_bytes_are [] = unfold all_bytes all_in in refl
journal_bytes_are (c ∷ cs) = all_bytes_both (command_bytes c) (journal_bytes cs) (command_bytes_are c) (journal_bytes_are cs)

-- the bytes of commands one list after another
pub journal_bytes_behind : (cs ds : List Command) → journal_bytes (cs ++ ds) ≡ journal_bytes cs ++ journal_bytes ds
unfolding journal_bytes
journal_bytes_behind [] ds = refl
journal_bytes_behind (c ∷ cs) ds =
    ap (λ l. command_bytes c ++ l) (journal_bytes_behind cs ds) ∙ sym (append_assoc (command_bytes c) (journal_bytes cs) (journal_bytes ds))

-- commands, raised, have as many bytes
pub journal_length_raised : (by : Counts) (cs : List Command) → length (journal_bytes (map (raise_command by) cs)) ≡ length (journal_bytes cs)
unfolding journal_bytes
journal_length_raised by [] = refl
journal_length_raised by (c ∷ cs) =
    length-append (command_bytes (raise_command by c)) _ ∙ ap₂ ◌+◌ (raised_as_long by c) (journal_length_raised by cs)
    ∙ sym (length-append (command_bytes c) (journal_bytes cs))

-- the command for a seam has seven, and so for each
pub seam-length : (by : Counts) (x : Seam) → length (command_bytes (seam_command by x)) ≡ 7
unfolding seam_command command_bytes fields_bytes field_bytes two_bytes operands_of facts edge_in_duct
seam-length by x = refl

seams_length : (by : Counts) (xs : List Seam) → length (journal_bytes (map (seam_command by) xs)) ≡ length xs * 7
unfolding journal_bytes
seams_length by [] = refl
seams_length by (x ∷ xs) =
    omega (
      arith,
      length-append (command_bytes (seam_command by x)) (journal_bytes (map (seam_command by) xs)),
      seam-length by x,
      seams_length by xs,
    )

-- What is asked of what the first network has, so that raised numbers are spelled by two bytes.
pub record FewCounts (by : Counts) : Type 0 where
  pub few_cabinets : by.cabinets ≤ 4096
  pub few_spans : by.spans ≤ 8192

-- raised operands of known cabinets and spans do
fields_fit_raised : (by : Counts) → FewCounts by → (g : Network) → g.vertices ≤ 4096 → edge_count g ≤ 8192 → (fs : List Field)
    → all_in two_byte_field fs ≡ true → all_in (cabinet_known g) fs ≡ true → all_in (span_known g) fs ≡ true → FieldsFit fs → FieldsFit (raise_fields by fs)
unfolding all_in two_byte_field cabinet_known span_known raise_fields raise_field
fields_fit_raised by few g v e [] t c s fit = tt
fields_fit_raised by few g v e (cabinet n ∷ fs) t c s fit = (
  omega (arith, ltb_lt n g.vertices (and_left (ltb n g.vertices) _ c), v, few.few_cabinets),
  fields_fit_raised by few g v e fs t (and_right (ltb n g.vertices) _ c) s fit.1,
)
fields_fit_raised by few g v e (span n ∷ fs) t c s fit = (
  omega (arith, ltb_lt n (edge_count g) (and_left (ltb n (edge_count g)) _ s), e, few.few_spans),
  fields_fit_raised by few g v e fs t c (and_right (ltb n (edge_count g)) _ s) fit.1,
)
fields_fit_raised by few g v e (name kind n ∷ fs) t c s fit = absurd (false≢true t)
fields_fit_raised by few g v e (number n ∷ fs) t c s fit = (fit.0, fields_fit_raised by few g v e fs t c s fit.1)
fields_fit_raised by few g v e (byte n ∷ fs) t c s fit = absurd (false≢true t)

-- so commands that are not refused are spelled once they are raised
pub raised_spelled : (caps : Capacities) → caps.cabinets ≤ 4096 → caps.spans ≤ 8192 → (by : Counts) → FewCounts by
    → (s : State) → Sound caps s → (cs : List Command) → NoneRefused caps s cs → AllSpelled cs → AllSpelled (map (raise_command by) cs)
unfolding cabinets_known spans_known
raised_spelled caps c e by few s sound [] n fit = tt
raised_spelled caps c e by few s sound (x ∷ cs) n fit =
    let known = (not_refused_exactly caps s x).0 n.0 in (
      subst FieldsFit (sym (raised_operands by x))
          (fields_fit_raised by few s.book.network (omega (arith, sound.fits.cabinets_fit, c)) (omega (arith, sound.fits.spans_fit, e))
          (operands_of (facts x)) (command_is x).1 known.cabinets_known_lem known.spans_known_lem fit.0),
      raised_spelled caps c e by few (after s x) (sound_after caps s x sound n.0) cs n.1 fit.1,
    )

-- and good seams whose ducts are numbers of two bytes
pub seams_spelled : (by : Counts) → FewCounts by → (others : ℕ) → others ≤ 4096 → (xs : List Seam)
    → all_in (good_seam by.cabinets others) xs ≡ true → all_in (λ x. ltb x.duct 65536) xs ≡ true → AllSpelled (map (seam_command by) xs)
unfolding all_in seam_command operands_of facts edge_in_duct
seams_spelled by few others o [] good fit = tt
seams_spelled by few others o (x ∷ xs) good fit =
    let this = good_seam_lem by.cabinets others x (and_left (good_seam by.cabinets others x) _ good) in (
      (
        omega (arith, this.first_known, few.few_cabinets),
        (
          omega (arith, this.second_known, few.few_cabinets, o),
          (ltb_lt x.duct 65536 (and_left (ltb x.duct 65536) _ fit), tt),
        ),
      ),
      seams_spelled by few others o xs (and_right (good_seam by.cabinets others x) _ good) (and_right (ltb x.duct 65536) _ fit),
    )

-- commands that bytes spell have as many bytes
spelled_length : {journal : List ℕ} {l : List Read} {end : Option Refusal} → Spells journal l end
    → length (journal_bytes (map (λ r. r.command) l)) ≡ place_behind l
unfolding journal_bytes place_behind
spelled_length no_more = refl
spelled_length (unreadable u) = refl
spelled_length (one_more_lem {byte = head} {bytes = bytes} {r = r} q rest) =
    length-append (command_bytes r.command) _
    ∙ ap₂ ◌+◌ (length_of_read head bytes r.command r.width q) (spelled_length rest)

-- so those of a journal that is read to its end have as many as it
pub length_of_commands : (journal : List ℕ) → (text_of journal).refusal ≡ none → length (journal_bytes (commands_in journal)) ≡ length journal
length_of_commands journal whole = spelled_length (text_steps journal) ∙ text_read_whole journal whole

-- The result has as many bytes as both journals, and seven for each seam.
pub length_of-joined : (first second : List ℕ) (xs : List Seam) → (text_of second).refusal ≡ none
    → length (joined_bytes first second xs) ≡ length first + length second + length xs * 7
unfolding joined_bytes
length_of-joined first second xs whole =
    let by = counts_in first in
    length-append (first ++ journal_bytes (map (raise_command by) (commands_in second))) _
    ∙ ap₂ ◌+◌ (length-append first _ ∙ ap (λ n. length first + n) (journal_length_raised by (commands_in second) ∙ length_of_commands second whole))
    (seams_length by xs)
