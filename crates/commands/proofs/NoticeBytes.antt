-- The bytes of notices: five each, one notice after another.
use mathlib.Core.List.{List, [], ◌∷◌, ◌++◌, append_assoc, append-nil}
use mathlib.Core.Path.{◌≡◌, refl, sym, ◌∙◌, ap}
use Prim.Native.Nat.{◌*◌}
use native.Mathlib.Omega.{arith}
use lib.ListN.{length}
use Rattle.commands.specs.Bytes.{two_bytes}
use Rattle.commands.specs.Field.{field_bytes, fields_bytes}
use Rattle.commands.specs.Answer.{Notice, kind_byte, notice_fields, notices_fields}
use Rattle.commands.proofs.Bytes.{fields_append, items_in_two_bytes}

-- a notice: its kind, its item and its name
pub notice_bytes : (t : Notice) → fields_bytes (notice_fields t) ≡ kind_byte t.kind ∷ two_bytes t.item ++ two_bytes t.name
unfolding notice_fields fields_bytes field_bytes two_bytes
notice_bytes t = ap (λ item. kind_byte t.kind ∷ item ++ two_bytes t.name) ((items_in_two_bytes t.kind).bytes t.item)

-- one notice, and then the others
pub bytes_of_first_notice : (t : Notice) (ts : List Notice)
    → fields_bytes (notices_fields (t ∷ ts)) ≡ fields_bytes (notice_fields t) ++ fields_bytes (notices_fields ts)
unfolding notices_fields
bytes_of_first_notice t ts = fields_append (notice_fields t) (notices_fields ts)

-- notices of two lists, one after the other
fields_of_notices : (ts us : List Notice) → notices_fields (ts ++ us) ≡ notices_fields ts ++ notices_fields us
unfolding notices_fields
fields_of_notices [] us = refl
fields_of_notices (t ∷ ts) us =
    ap (λ l. notice_fields t ++ l) (fields_of_notices ts us) ∙ sym (append_assoc (notice_fields t) (notices_fields ts) (notices_fields us))

pub notices_bytes_append : (ts us : List Notice)
    → fields_bytes (notices_fields (ts ++ us)) ≡ fields_bytes (notices_fields ts) ++ fields_bytes (notices_fields us)
notices_bytes_append ts us = rw (fields_of_notices ts us) (fields_append (notices_fields ts) (notices_fields us))

-- the last notice stands behind the others
pub bytes_of-one_more-notice : (ts : List Notice) (t : Notice)
    → fields_bytes (notices_fields (ts ++ t ∷ [])) ≡ fields_bytes (notices_fields ts) ++ fields_bytes (notice_fields t)
unfolding notices_fields
bytes_of-one_more-notice ts t =
    notices_bytes_append ts (t ∷ []) ∙ ap (λ l. fields_bytes (notices_fields ts) ++ fields_bytes l) (append-nil (notice_fields t))

-- a notice has five bytes
pub length_notices_bytes : (ts : List Notice) → length (fields_bytes (notices_fields ts)) ≡ 5 * length ts
unfolding notices_fields fields_bytes two_bytes
length_notices_bytes [] = refl
length_notices_bytes (t ∷ ts) =
    rw (bytes_of_first_notice t ts, notice_bytes t) (omega (arith, length_notices_bytes ts))
