-- The answers read back from bytes, as a planner reads them. Bytes that are no answer end the reading.
use Rattle.std.specs.Prelude.{true, false, List, [], ◌∷◌, ℕ, zero, suc, ◌-◌, get_or}
use Rattle.std.proofs.Math.Option.{Option, none, some}
use Rattle.naming.specs.Lookup.{Group}
use Rattle.commands.specs.Bytes.{number}
use Rattle.commands.specs.Field.{Kind, district, ring, mesh}
use Rattle.commands.specs.Answer.{Notice, Answer, cabinet_added, span_added, plain, district_is, ring_is, mesh_shared, no_mesh_shared, sole_spans_are, cut_cabinets_are, sole_is, exchange_marked, exchange_held, routes_are, length_recorded, length_is, no_length, share_is}

-- An answer and the bytes that follow it.
pub data Decoded : Type 0 where
  malformed : Decoded
  decoded : Answer → List ℕ → Decoded

-- What is made of the bytes that follow something read.
abbrev pub Then : Type 0 → Type 0
Then A = A → List ℕ → Decoded

unfoldable pub byte_then : Then ℕ → List ℕ → Decoded
byte_then k [] = malformed
byte_then k (byte ∷ bytes) = k byte bytes

unfoldable pub field_then : Then ℕ → List ℕ → Decoded
field_then k = byte_then (λ high. byte_then (λ low. k (number high low)))

-- So many fields, one after another.
unfoldable pub fields_then : ℕ → Then (List ℕ) → List ℕ → Decoded
fields_then zero k = k []
fields_then (suc n) k = field_then (λ x. fields_then n (λ xs. k (x ∷ xs)))

unfoldable pub kind_of : ℕ → Option Kind
kind_of byte = get_or (none ∷ some district ∷ some ring ∷ some mesh ∷ []) byte none

unfoldable pub kind_then : Then Kind → List ℕ → Decoded
kind_then k = byte_then (λ byte bytes. elim (kind_of byte) [ none ↦ malformed | some kind ↦ k kind bytes ])

unfoldable pub notice_then : Then Notice → List ℕ → Decoded
notice_then k =
    kind_then (λ kind. field_then (λ item. field_then (λ name. k (record { kind = kind; item = item; name = name }))))

-- So many notices, one after another.
unfoldable pub notices_then : ℕ → Then (List Notice) → List ℕ → Decoded
notices_then zero k = k []
notices_then (suc n) k = notice_then (λ t. notices_then n (λ ts. k (t ∷ ts)))

-- A byte that is 1 or 0 chooses.
unfoldable pub flag_then : (List ℕ → Decoded) → (List ℕ → Decoded) → List ℕ → Decoded
flag_then one none' = byte_then (λ byte. get_or (none' ∷ one ∷ []) byte (λ bytes. malformed))

-- Two bytes that are 0.
unfoldable pub nought_then : (List ℕ → Decoded) → List ℕ → Decoded
nought_then k = field_then (λ n. get_or (k ∷ []) n (λ bytes. malformed))

-- A group: its name, then its size.
unfoldable pub group_then : Then Group → List ℕ → Decoded
group_then k = field_then (λ name. field_then (λ size. k (record { name = name; size = size })))

-- What follows the byte of an answer, by that byte from 80 on: 81 to 8A, and 8C to 8F.
unfoldable pub bodies : List (List ℕ → Decoded)
bodies =
    (λ bytes. malformed)
    ∷ field_then (λ k. decoded (cabinet_added k))
    ∷ field_then (λ s. field_then (λ name. field_then (λ n. notices_then n (λ ts. decoded (span_added s name ts)))))
    ∷ group_then (λ g. decoded (plain (district_is g)))
    ∷ group_then (λ g. decoded (plain (ring_is g)))
    ∷ flag_then (field_then (λ name. decoded (plain (mesh_shared name)))) (nought_then (decoded (plain no_mesh_shared)))
    ∷ field_then (λ n. fields_then n (λ ss. decoded (plain (sole_spans_are ss))))
    ∷ field_then (λ n. fields_then n (λ cs. decoded (plain (cut_cabinets_are cs))))
    ∷ flag_then (decoded (plain (sole_is true))) (decoded (plain (sole_is false)))
    ∷ decoded (plain exchange_marked)
    ∷ flag_then (decoded (plain (exchange_held true))) (decoded (plain (exchange_held false)))
    ∷ (λ bytes. malformed)
    ∷ field_then (λ n. fields_then n (λ ss. field_then (λ m. fields_then m (λ ts. decoded (plain (routes_are ss ts))))))
    ∷ decoded (plain length_recorded)
    ∷ flag_then (field_then (λ metres. decoded (plain (length_is metres)))) (nought_then (decoded (plain no_length)))
    ∷ field_then (λ n. decoded (plain (share_is n)))
    ∷ []

-- Every other byte is malformed.
unfoldable pub decode_body : ℕ → List ℕ → Decoded
decode_body byte = get_or bodies (byte - 0x80) (λ bytes. malformed)

unfoldable pub decode : List ℕ → Decoded
decode = byte_then decode_body

-- The first k answers that the bytes hold.
unfoldable pub decode_first : ℕ → List ℕ → List Answer
decode_first zero bytes = []
decode_first (suc k) bytes = elim (decode bytes) [ malformed ↦ [] | decoded a rest ↦ a ∷ decode_first k rest ]
