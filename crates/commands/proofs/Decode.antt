-- Reading answers back from their bytes: every answer whose numbers fit into two bytes is read back whole.
use mathlib.Core.Bool.{true, false}
use mathlib.Core.List.{List, [], ◌∷◌, ◌++◌, map, append_assoc}
use mathlib.Core.Path.{◌≡◌, refl, ◌∙◌, ap}
use Prim.Native.Nat.{ℕ, zero, suc, ◌≤◌}
use native.Mathlib.Nat.{not-suc-le-zero}
use native.Mathlib.Omega.{arith}
use lib.ListN.{length, take, get_or}
use Rattle.naming.specs.Lookup.{Group}
use Rattle.commands.specs.Bytes.{two_bytes}
use Rattle.commands.specs.Field.{Kind, district, ring, mesh, Field, cabinet, span, field_bytes, fields_bytes}
use Rattle.commands.specs.Answer.{kind_byte, bool_byte, Notice, notice_fields, notices_fields, Answer, cabinet_added, span_added, plain, district_is, ring_is, mesh_shared, no_mesh_shared, sole_spans_are, cut_cabinets_are, sole_is, exchange_marked, exchange_held, routes_are, length_recorded, length_is, no_length, share_is, plain_fields, answer_fields, answer_bytes}
use Rattle.commands.specs.Run.{Accepted, bytes_of_answers}
use Rattle.commands.specs.Decode.{malformed, decoded, Then, byte_then, field_then, fields_then, kind_of, kind_then, notice_then, notices_then, flag_then, nought_then, group_then, bodies, decode_body, decode, decode_first}
use Rattle.commands.proofs.Bytes.{number_of-two_bytes, Small, FieldsFit, InTwoBytes, cabinets_in_two_bytes, spans_in_two_bytes, items_in_two_bytes, both_fit_lem, bytes_of_first, bytes_then_counted}
use Rattle.commands.proofs.NoticeBytes.{notice_bytes, bytes_of_first_notice}

-- every number that the answer's bytes hold fits into two bytes: items, names, entries and the lengths of lists
abbrev pub Fits : Answer → Type 0
Fits a = FieldsFit (answer_fields a)

abbrev pub NoticeFits : Notice → Type 0
NoticeFits t = FieldsFit (notice_fields t)

-- a field is read back
field_read : (n : ℕ) → Small n → (k : Then ℕ) (rest : List ℕ) → field_then k (two_bytes n ++ rest) ≡ k n rest
unfolding field_then byte_then two_bytes
field_read n h k rest = rw (number_of-two_bytes n h)

-- a list of fields is read back
fields_read : (f : ℕ → Field) → InTwoBytes f → (ns : List ℕ) → FieldsFit (map f ns) → (k : Then (List ℕ)) (rest : List ℕ)
    → fields_then (length ns) k (fields_bytes (map f ns) ++ rest) ≡ k ns rest
unfolding fields_then fields_bytes
fields_read f two [] h k rest = refl
fields_read f two (n ∷ ns) h k rest =
    rw (bytes_of_first f two n ns, append_assoc (two_bytes n) (fields_bytes (map f ns)) rest)
    (field_read n ((two.fits n).0 h.0) (λ x. fields_then (length ns) (λ xs. k (x ∷ xs))) (fields_bytes (map f ns) ++ rest)
    ∙ fields_read f two ns h.1 (λ xs. k (n ∷ xs)) rest)

kind_read : (kind : Kind) (k : Then Kind) (rest : List ℕ) → kind_then k (kind_byte kind ∷ rest) ≡ k kind rest
unfolding kind_then byte_then kind_byte kind_of
kind_read district k rest = refl
kind_read ring k rest = refl
kind_read mesh k rest = refl

notice_read : (t : Notice) → NoticeFits t → (k : Then Notice) (rest : List ℕ)
    → notice_then k (fields_bytes (notice_fields t) ++ rest) ≡ k t rest
unfolding notice_then notice_fields two_bytes
notice_read t h k rest =
    rw (notice_bytes t)
    (kind_read
    t.kind
    (λ kind. field_then (λ item. field_then (λ name. k (record { kind = kind; item = item; name = name }))))
    (two_bytes t.item ++ (two_bytes t.name ++ rest))
    ∙ field_read
    t.item
    (((items_in_two_bytes t.kind).fits t.item).0 h.1.0)
    (λ item. field_then (λ name. k (record { kind = t.kind; item = item; name = name })))
    (two_bytes t.name ++ rest)
    ∙ field_read t.name h.1.1.0 (λ name. k (record { kind = t.kind; item = t.item; name = name })) rest)

notices_read : (ts : List Notice) → FieldsFit (notices_fields ts) → (k : Then (List Notice)) (rest : List ℕ)
    → notices_then (length ts) k (fields_bytes (notices_fields ts) ++ rest) ≡ k ts rest
unfolding notices_then notices_fields notice_fields fields_bytes
notices_read [] h k rest = refl
notices_read (t ∷ ts) h k rest =
    rw (bytes_of_first_notice t ts, append_assoc (fields_bytes (notice_fields t)) (fields_bytes (notices_fields ts)) rest)
    (notice_read
    t
    (h.0, (h.1.0, (h.1.1.0, tt)))
    (λ x. notices_then (length ts) (λ xs. k (x ∷ xs)))
    (fields_bytes (notices_fields ts) ++ rest)
    ∙ notices_read ts h.1.1.1 (λ xs. k (t ∷ xs)) rest)

-- the number of list entries, then the entries, are read back
counted_read : (f : ℕ → Field) → InTwoBytes f → (ns : List ℕ) → Small (length ns) → FieldsFit (map f ns) → (k : Then (List ℕ)) (rest : List ℕ)
    → field_then (λ n. fields_then n k) (two_bytes (length ns) ++ (fields_bytes (map f ns) ++ rest)) ≡ k ns rest
counted_read f two ns h each k rest =
    field_read (length ns) h (λ n. fields_then n k) (fields_bytes (map f ns) ++ rest) ∙ fields_read f two ns each k rest

-- two such lists, one behind the other
two_counted_read : (f : ℕ → Field) → InTwoBytes f → (ns ms : List ℕ) → Small (length ns) → FieldsFit (map f ns) → Small (length ms)
    → FieldsFit (map f ms) → (k : List ℕ → Then (List ℕ)) (rest : List ℕ)
    → field_then
    (λ n. fields_then n (λ xs. field_then (λ m. fields_then m (k xs))))
    (two_bytes (length ns) ++ (fields_bytes (map f ns) ++ (two_bytes (length ms) ++ (fields_bytes (map f ms) ++ rest))))
    ≡ k ns ms rest
two_counted_read f two ns ms h each h' each' k rest =
    counted_read f two ns h each (λ xs. field_then (λ m. fields_then m (k xs))) (two_bytes (length ms) ++ (fields_bytes (map f ms) ++ rest))
    ∙ counted_read f two ms h' each' (k ns) rest

-- a group is read back, its name and its size
group_read : (g : Group) → Small g.name → Small g.size → (k : Then Group) (rest : List ℕ)
    → group_then k (two_bytes g.name ++ (two_bytes g.size ++ rest)) ≡ k g rest
unfolding group_then
group_read g h h' k rest =
    field_read g.name h (λ name. field_then (λ size. k (record { name = name; size = size }))) (two_bytes g.size ++ rest)
    ∙ field_read g.size h' (λ size. k (record { name = g.name; size = size })) rest

-- an answer that fits is read back from its bytes, whatever follows them
pub decode-answer : (a : Answer) → Fits a → (rest : List ℕ) → decode (answer_bytes a ++ rest) ≡ decoded a rest
unfolding decode byte_then bodies decode_body flag_then nought_then answer_bytes answer_fields plain_fields fields_bytes field_bytes bool_byte two_bytes
decode-answer (cabinet_added k) h rest = field_read k h.1.0 (λ x. decoded (cabinet_added x)) rest
decode-answer (span_added s name ts) h rest =
    rw (
      field_read s h.1.0,
      field_read name h.1.1.0,
      field_read (length ts) h.1.1.1.0,
      notices_read ts h.1.1.1.1,
    )
decode-answer (plain (district_is g)) h rest = group_read g h.1.0 h.1.1.0 (λ x. decoded (plain (district_is x))) rest
decode-answer (plain (ring_is g)) h rest = group_read g h.1.0 h.1.1.0 (λ x. decoded (plain (ring_is x))) rest
decode-answer (plain (mesh_shared name)) h rest = field_read name h.1.1.0 (λ x. decoded (plain (mesh_shared x))) rest
decode-answer (plain no_mesh_shared) h rest =
    field_read 0 (omega arith) (λ n. get_or (decoded (plain no_mesh_shared) ∷ []) n (λ bytes. malformed)) rest
decode-answer (plain (sole_spans_are ss)) h rest =
    counted_read span spans_in_two_bytes ss h.1.0 h.1.1 (λ ns. decoded (plain (sole_spans_are ns))) rest
decode-answer (plain (cut_cabinets_are cs)) h rest =
    counted_read cabinet cabinets_in_two_bytes cs h.1.0 h.1.1 (λ ns. decoded (plain (cut_cabinets_are ns))) rest
decode-answer (plain (sole_is true)) h rest = refl
decode-answer (plain (sole_is false)) h rest = refl
decode-answer (plain exchange_marked) h rest = refl
decode-answer (plain (exchange_held true)) h rest = refl
decode-answer (plain (exchange_held false)) h rest = refl
decode-answer (plain (routes_are ss ts)) h rest =
    let fit = (both_fit_lem (map span ss) _).0 h.1.1 in
    rw (
      bytes_then_counted span spans_in_two_bytes ss ts,
      append_assoc (fields_bytes (map span ss)) (two_bytes (length ts) ++ fields_bytes (map span ts)) rest,
    )
    (two_counted_read
    span
    spans_in_two_bytes
    ss
    ts
    h.1.0
    fit.0
    fit.1.0
    fit.1.1
    (λ ns ms. decoded (plain (routes_are ns ms)))
    rest)
decode-answer (plain length_recorded) h rest = refl
decode-answer (plain (length_is metres)) h rest = field_read metres h.1.1.0 (λ x. decoded (plain (length_is x))) rest
decode-answer (plain no_length) h rest =
    field_read 0 (omega arith) (λ n. get_or (decoded (plain no_length) ∷ []) n (λ bytes. malformed)) rest
decode-answer (plain (share_is n)) h rest = field_read n h.1.0 (λ x. decoded (plain (share_is x))) rest

-- the answers of all of the accepted commands fit
abbrev pub AllFit : List Accepted → Type 0
AllFit [] = Unit
AllFit (a ∷ later) = Fits a.answer × AllFit later

abbrev pub answers_in : List Accepted → List Answer
answers_in = map (λ a. a.answer)

-- one answer read, and then the others from what follows it
read_one : (k : ℕ) (bytes : List ℕ) (a : Answer) (rest : List ℕ) → decode bytes ≡ decoded a rest
    → decode_first (suc k) bytes ≡ a ∷ decode_first k rest
unfolding decode_first
read_one k bytes a rest e = rw (e, decode_first)

-- the first answers are read back from the bytes of all, whatever follows those
pub decode_first_lem : (l : List Accepted) → AllFit l → (k : ℕ) → k ≤ length l → (rest : List ℕ)
    → decode_first k (bytes_of_answers l ++ rest) ≡ take k (answers_in l)
unfolding bytes_of_answers
decode_first_lem l fit zero h rest = unfold decode_first in refl
decode_first_lem [] fit (suc k) h rest = absurd (not-suc-le-zero h)
decode_first_lem (a ∷ later) fit (suc k) h rest =
    rw (append_assoc (answer_bytes a.answer) (bytes_of_answers later) rest)
    (read_one
    k
    (answer_bytes a.answer ++ (bytes_of_answers later ++ rest))
    a.answer
    (bytes_of_answers later ++ rest)
    (decode-answer a.answer fit.0 (bytes_of_answers later ++ rest))
    ∙ ap {B = List Answer} (λ as'. a.answer ∷ as') (decode_first_lem later fit.1 k (omega arith) rest))
