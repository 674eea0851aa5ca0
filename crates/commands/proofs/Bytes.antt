-- Numbers and fields as bytes: two bytes give back the number they stand for, every byte is below 256, and the bytes of fields.
use mathlib.Core.Bool.{true}
use mathlib.Core.List.{List, [], ◌∷◌, ◌++◌, map, map-append, append_assoc}
use mathlib.Core.Logic.{◌↔◌}
use mathlib.Core.Path.{◌≡◌, refl, sym, ◌∙◌, ap, ap₂}
use Prim.Native.Nat.{ℕ, zero, suc, ◌*◌, ◌/◌, ◌%◌, ◌<◌}
use native.Mathlib.Omega.{arith}
use lib.Dec.{ltb}
use lib.ListN.{length, get_or, take, drop, take-append-drop}
use Rattle.graph.specs.Lists.{all_in}
use Rattle.graph.proofs.Members.{all_in_behind}
use Rattle.graph.proofs.Truth.{and_left, and_right, and_both, ltb_lt, lt-ltb}
use Rattle.commands.specs.Bytes.{number as number_of_bytes, two_bytes, all_bytes}
use Rattle.commands.specs.Field.{Kind, district, ring, mesh, Field, cabinet, span, name, number, byte, field_bytes, fields_bytes}
use Rattle.commands.specs.Answer.{item_field}

-- the two bytes of a number below 65,536 give the number
pub number_of-two_bytes : (n : ℕ) → n < 65536 → number_of_bytes (n / 256 % 256) (n % 256) ≡ n
unfolding number_of_bytes
number_of-two_bytes n h = omega arith

-- two bytes give a number below 65,536
pub number_below : (high low : ℕ) → high < 256 → low < 256 → number_of_bytes high low < 65536
unfolding number_of_bytes
number_below high low h l = omega arith

-- the number that two bytes give has those two bytes
pub two_bytes_of_number : (high low : ℕ) → high < 256 → low < 256 → two_bytes (number_of_bytes high low) ≡ high ∷ low ∷ []
unfolding number_of_bytes two_bytes
two_bytes_of_number high low h l = ap₂ (λ (x y : ℕ). x ∷ y ∷ []) (omega arith) (omega arith)

-- the first of them is one
pub first_is_byte : (x : ℕ) (xs : List ℕ) → all_bytes (x ∷ xs) ≡ true → x < 256
unfolding all_bytes all_in
first_is_byte x xs p = ltb_lt x 256 (and_left (ltb x 256) (all_bytes xs) p)

-- and those behind are
pub all_bytes_behind : (xs ys : List ℕ) → all_bytes (xs ++ ys) ≡ true → all_bytes ys ≡ true
unfolding all_bytes
all_bytes_behind xs ys p = all_in_behind (λ b. ltb b 256) xs ys p

-- and those from any place on
pub all_bytes_from : (k : ℕ) (l : List ℕ) → all_bytes l ≡ true → all_bytes (drop k l) ≡ true
all_bytes_from k l p = all_bytes_behind (take k l) (drop k l) (rw (take-append-drop k l) p)

-- and so is that at every place, beyond the last 0
pub byte_at : (l : List ℕ) → all_bytes l ≡ true → (i : ℕ) → get_or l i 0 < 256
unfolding all_bytes all_in
byte_at [] p i = omega arith
byte_at (x ∷ xs) p zero = first_is_byte x xs p
byte_at (x ∷ xs) p (suc i) = byte_at xs (and_right (ltb x 256) (all_bytes xs) p) i

-- numbers that are bytes at every place are bytes
pub bytes_by_place : (l : List ℕ) → ((i : ℕ) → i < length l → get_or l i 0 < 256) → all_bytes l ≡ true
unfolding all_bytes all_in
bytes_by_place [] f = refl
bytes_by_place (x ∷ xs) f = and_both (lt-ltb x 256 (f 0 (omega arith))) (bytes_by_place xs (λ i h. f (suc i) (omega (arith, h))))

-- the number fits into two bytes
abbrev pub Small : ℕ → Type 0
Small n = n < 65536

-- the field's number fits into its two bytes; a byte is what it is
abbrev pub FieldFits : Field → Type 0
FieldFits (cabinet n) = Small n
FieldFits (span n) = Small n
FieldFits (name kind n) = Small n
FieldFits (number n) = Small n
FieldFits (byte n) = Unit

abbrev pub FieldsFit : List Field → Type 0
FieldsFit [] = Unit
FieldsFit (f ∷ fs) = FieldFits f × FieldsFit fs

-- the bytes of two lists of fields, one after the other
pub fields_append : (fs gs : List Field) → fields_bytes (fs ++ gs) ≡ fields_bytes fs ++ fields_bytes gs
unfolding fields_bytes
fields_append [] gs = refl
fields_append (f ∷ fs) gs =
    ap (λ l. field_bytes f ++ l) (fields_append fs gs) ∙ sym (append_assoc (field_bytes f) (fields_bytes fs) (fields_bytes gs))

-- two lists fit, one after the other, exactly if each does
pub both_fit_lem : (fs gs : List Field) → FieldsFit (fs ++ gs) ↔ (FieldsFit fs × FieldsFit gs)
both_fit_lem [] gs = (λ h. (tt, h), λ h. h.1)
both_fit_lem (f ∷ fs) gs =
    let rest = both_fit_lem fs gs in
    (λ h. ((h.0, (rest.0 h.1).0), (rest.0 h.1).1), λ h. (h.0.0, rest.1 (h.0.1, h.1)))

-- fields of this sort have two bytes
pub record InTwoBytes (f : ℕ → Field) : Type 0 where
  pub bytes : (n : ℕ) → field_bytes (f n) ≡ two_bytes n
  pub fits : (n : ℕ) → FieldFits (f n) ↔ Small n

-- cabinets, spans and the items of notices are such
pub cabinets_in_two_bytes : InTwoBytes cabinet
unfolding field_bytes
cabinets_in_two_bytes = record { bytes = λ n. refl; fits = λ n. (λ h. h, λ h. h) }

pub spans_in_two_bytes : InTwoBytes span
unfolding field_bytes
spans_in_two_bytes = record { bytes = λ n. refl; fits = λ n. (λ h. h, λ h. h) }

pub items_in_two_bytes : (kind : Kind) → InTwoBytes (item_field kind)
unfolding item_field
items_in_two_bytes district = cabinets_in_two_bytes
items_in_two_bytes ring = cabinets_in_two_bytes
items_in_two_bytes mesh = spans_in_two_bytes

-- A list of such fields: two bytes each, one after another.
module _ (f : ℕ → Field) (two : InTwoBytes f) where
  pub bytes_of_first : (n : ℕ) (ns : List ℕ) → fields_bytes (map f (n ∷ ns)) ≡ two_bytes n ++ fields_bytes (map f ns)
  unfolding fields_bytes
  bytes_of_first n ns = ap (λ l. l ++ fields_bytes (map f ns)) (two.bytes n)

  pub bytes_of-one_more : (ns : List ℕ) (n : ℕ) → fields_bytes (map f (ns ++ n ∷ [])) ≡ fields_bytes (map f ns) ++ two_bytes n
  unfolding fields_bytes two_bytes
  bytes_of-one_more ns n =
      rw (map-append f ns (n ∷ []), fields_append (map f ns) (f n ∷ []))
      (ap (λ l. fields_bytes (map f ns) ++ l) (bytes_of_first n []))

  -- with a counted list behind them
  pub bytes_then_counted : (ns ms : List ℕ)
      → fields_bytes (map f ns ++ number (length ms) ∷ map f ms) ≡ fields_bytes (map f ns) ++ (two_bytes (length ms) ++ fields_bytes (map f ms))
  unfolding fields_bytes field_bytes
  bytes_then_counted ns ms = fields_append (map f ns) (number (length ms) ∷ map f ms)

  pub length_two_bytes_each : (ns : List ℕ) → length (fields_bytes (map f ns)) ≡ 2 * length ns
  unfolding fields_bytes two_bytes
  length_two_bytes_each [] = refl
  length_two_bytes_each (n ∷ ns) = rw (bytes_of_first n ns) (omega (arith, length_two_bytes_each ns))
