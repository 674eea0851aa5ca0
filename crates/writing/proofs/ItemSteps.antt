-- Items that are written one behind another: one item more, how many bytes they have, and what they are in the paper's words.
use mathlib.Core.List.{List, map}
use mathlib.Core.Path.{◌≡◌, refl, sym, ◌∙◌, ap}
use Prim.Native.Nat.{ℕ, zero, suc, ◌+◌, ◌*◌}
use native.Mathlib.Numerals.{add-one}
use native.Mathlib.Omega.{arith}
use lib.ListN.{length, length-append}
use lib.Seq.{sets}
use Rattle.graph.specs.Below.{tabulate}
use Rattle.commands.specs.Bytes.{two_bytes}
use Rattle.commands.specs.Field.{Field, fields_bytes}
use Rattle.commands.specs.Answer.{Notice, notice_fields, notices_fields}
use Rattle.commands.proofs.Bytes.{InTwoBytes, bytes_of-one_more}
use Rattle.commands.proofs.NoticeBytes.{bytes_of-one_more-notice}
use Rattle.storing.proofs.Sets.{sets_behind}
use Rattle.writing.specs.Inside.Items.{each_bytes}

-- The first i items are stored, and have as many bytes as their width says.
pub record ItemsTo (f : ℕ → List ℕ) (width at i : ℕ) (old new : List ℕ) : Type 0 where
  pub stored : new ≡ sets old at (each_bytes f i)
  pub counted : length (each_bytes f i) ≡ width * i

-- at first none is
pub items_first : (f : ℕ → List ℕ) (width at : ℕ) (old : List ℕ) → ItemsTo f width at 0 old old
unfolding each_bytes
items_first f width at old = record { stored = refl; counted = omega arith }

-- then one more
pub items_next : (f : ℕ → List ℕ) {width at i next : ℕ} {old new then : List ℕ} {item : List ℕ} → ItemsTo f width at i old new
    → next ≡ at + width * i → item ≡ f i → length item ≡ width → then ≡ sets new next item → ItemsTo f width at (i + 1) old then
unfolding each_bytes
items_next f {width} {at} {i} {next} {old} {item = item} w e is many s =
    rw (add-one i)
    (record {
      stored = s ∙ rw (w.stored, is) (sets_behind old at next (each_bytes f i) (f i) (omega (arith, e, w.counted)));
      counted = omega (arith, length-append (each_bytes f i) (f i), w.counted, many, ap length is);
    })

-- numbers in two bytes are the fields of a kind that has two bytes
pub each_number : (field : ℕ → Field) → InTwoBytes field → (f : ℕ → ℕ) (n : ℕ)
    → each_bytes (λ i. two_bytes (f i)) n ≡ fields_bytes (map field (tabulate n f))
unfolding each_bytes tabulate fields_bytes
each_number field two f zero = refl
each_number field two f (suc n) = rw (each_number field two f n) (sym (bytes_of-one_more field two (tabulate n f) (f n)))

-- and notices their fields
pub each_notice : (f : ℕ → Notice) (n : ℕ)
    → each_bytes (λ i. fields_bytes (notice_fields (f i))) n ≡ fields_bytes (notices_fields (tabulate n f))
unfolding each_bytes tabulate fields_bytes notices_fields
each_notice f zero = refl
each_notice f (suc n) = rw (each_notice f n) (sym (bytes_of-one_more-notice (tabulate n f) (f n)))
