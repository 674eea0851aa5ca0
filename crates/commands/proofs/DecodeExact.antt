-- Reading is exact: from bytes an answer is read exactly where they begin with that answer's bytes.
use mathlib.Core.Bool.{Bool, true, false}
use mathlib.Core.List.{List, [], ◌∷◌, ◌++◌, map, append_assoc, append-nil}
use mathlib.Core.Logic.{◌↔◌, ◌⊎◌, inl, inr}
use mathlib.Core.Option.{Option, none, some}
use mathlib.Core.Path.{◌≡◌, refl, sym, ◌∙◌, ap, subst, subst₂}
use Prim.Native.Nat.{ℕ, zero, suc, ◌+◌, ◌-◌, ◌≤◌, ◌<◌}
use native.Mathlib.Omega.{arith}
use lib.ListN.{length, get_or}
use Rattle.naming.specs.Lookup.{Group}
use Rattle.commands.specs.Bytes.{all_bytes, number, two_bytes}
use Rattle.commands.specs.Field.{Kind, district, ring, mesh, Field, cabinet, span, field_bytes, fields_bytes}
use Rattle.commands.specs.Answer.{kind_byte, bool_byte, Notice, notice_fields, notices_fields, Plain, Answer, cabinet_added, span_added, plain, district_is, ring_is, mesh_shared, no_mesh_shared, sole_spans_are, cut_cabinets_are, sole_is, exchange_marked, exchange_held, routes_are, length_recorded, length_is, no_length, share_is, plain_fields, answer_fields, answer_bytes}
use Rattle.commands.specs.Decode.{Decoded, malformed, decoded, Then, byte_then, field_then, fields_then, kind_of, kind_then, notice_then, notices_then, flag_then, nought_then, group_then, bodies, decode_body, decode}
use Rattle.commands.proofs.Cases.{le_or_gt, impossible}
use Rattle.commands.proofs.ByPlace.{each_at, ◌also◌}
use Rattle.commands.proofs.Bytes.{all_bytes_behind, first_is_byte, number_below, number_of-two_bytes, two_bytes_of_number, Small, FieldsFit, InTwoBytes, cabinets_in_two_bytes, spans_in_two_bytes, items_in_two_bytes, both_fit_lem, bytes_of_first, bytes_then_counted}
use Rattle.commands.proofs.NoticeBytes.{notice_bytes, bytes_of_first_notice}
use Rattle.commands.proofs.Decode.{NoticeFits, Fits, decode-answer}

-- what was read so far, and the bytes that follow it
record Read (all front more : List ℕ) : Type 0 where
  is : all ≡ front ++ more
  bytes : all_bytes more ≡ true

-- more of them read
read_on : (all front taken more : List ℕ) → Read all front (taken ++ more) → Read all (front ++ taken) more
read_on all front taken more r =
    record { is = r.is ∙ sym (append_assoc front taken more); bytes = all_bytes_behind taken more r.bytes }

kind_byte_lem : (byte : ℕ) (kind : Kind) → kind_of byte ≡ some kind → byte ≡ kind_byte kind
unfolding kind_of kind_byte
kind_byte_lem zero kind e = impossible (cc)
kind_byte_lem (suc zero) kind e = let same : district ≡ kind = cc in ap kind_byte same
kind_byte_lem (suc (suc zero)) kind e = let same : ring ≡ kind = cc in ap kind_byte same
kind_byte_lem (suc (suc (suc zero))) kind e = let same : mesh ≡ kind = cc in ap kind_byte same
kind_byte_lem (suc (suc (suc (suc byte)))) kind e = impossible (cc)

-- In this part: what holds of malformed bytes and of whatever is made of the things read holds of the whole reading.
module _ (all : List ℕ) (P : Decoded → Type 0) (m : P malformed) where
  then_byte : (k : Then ℕ) (front more : List ℕ) → Read all front more
      → ((byte : ℕ) (rest : List ℕ) → Read all (front ++ byte ∷ []) rest → P (k byte rest)) → P (byte_then k more)
  unfolding byte_then
  then_byte k front [] r f = m
  then_byte k front (byte ∷ rest) r f = f byte rest (read_on all front (byte ∷ []) rest r)

  then_field : (k : Then ℕ) (front more : List ℕ) → Read all front more
      → ((n : ℕ) (rest : List ℕ) → Small n → Read all (front ++ two_bytes n) rest → P (k n rest)) → P (field_then k more)
  unfolding field_then byte_then
  then_field k front [] r f = m
  then_field k front (high ∷ []) r f = m
  then_field k front (high ∷ low ∷ rest) r f =
      let h = first_is_byte high (low ∷ rest) r.bytes in
      let l = first_is_byte low rest (all_bytes_behind (high ∷ []) (low ∷ rest) r.bytes) in
      f
      (number high low)
      rest
      (number_below high low h l)
      (rw (two_bytes_of_number high low h l) (read_on all front (high ∷ low ∷ []) rest r))

  then_fields : (field : ℕ → Field) → InTwoBytes field → (n : ℕ) (k : Then (List ℕ)) (front more : List ℕ) → Read all front more
      → ((ns rest : List ℕ) → length ns ≡ n → FieldsFit (map field ns) → Read all (front ++ fields_bytes (map field ns)) rest → P (k ns rest))
      → P (fields_then n k more)
  unfolding fields_then fields_bytes
  then_fields field two zero k front more r f = f [] more refl tt (rw append-nil r)
  then_fields field two (suc n) k front more r f =
      then_field
      (λ x. fields_then n (λ xs. k (x ∷ xs)))
      front
      more
      r
      (λ x rest s r'.
      then_fields field two n (λ xs. k (x ∷ xs)) (front ++ two_bytes x) rest r'
      (λ ns rest' d fit r''.
      f (x ∷ ns) rest' (ap suc d) ((two.fits x).1 s, fit) (rw (bytes_of_first field two x ns) (rw append_assoc at r''))))

  then_kind : (k : Then Kind) (front more : List ℕ) → Read all front more
      → ((kind : Kind) (rest : List ℕ) → Read all (front ++ kind_byte kind ∷ []) rest → P (k kind rest)) → P (kind_then k more)
  unfolding kind_then
  then_kind k front more r f =
      then_byte
      (λ byte rest. elim (kind_of byte) [ none ↦ malformed | some kind ↦ k kind rest ])
      front
      more
      r
      (λ byte rest r'. go byte rest r' (kind_of byte) refl)
    where
      go : (byte : ℕ) (rest : List ℕ) → Read all (front ++ byte ∷ []) rest → (o : Option Kind) → kind_of byte ≡ o
          → P (elim o [ none ↦ malformed | some kind ↦ k kind rest ])
      go byte rest r' none e = m
      go byte rest r' (some kind) e = f kind rest (rw (kind_byte_lem byte kind e) at r')

  then_notice : (k : Then Notice) (front more : List ℕ) → Read all front more
      → ((t : Notice) (rest : List ℕ) → NoticeFits t → Read all (front ++ fields_bytes (notice_fields t)) rest → P (k t rest))
      → P (notice_then k more)
  unfolding notice_then notice_fields
  then_notice k front more r f =
      then_kind _ front more r
      (λ kind rest r₁.
      then_field _ (front ++ kind_byte kind ∷ []) rest r₁
      (λ item rest₁ s₁ r₂.
      then_field _ ((front ++ kind_byte kind ∷ []) ++ two_bytes item) rest₁ r₂
      (λ name rest₂ s₂ r₃.
      let t : Notice = record { kind = kind; item = item; name = name } in
      f t rest₂ (tt, (((items_in_two_bytes kind).fits item).1 s₁, (s₂, tt))) (rw (notice_bytes t) (simp append_assoc at r₃)))))

  then_notices : (n : ℕ) (k : Then (List Notice)) (front more : List ℕ) → Read all front more
      → ((ts : List Notice) (rest : List ℕ) → length ts ≡ n → FieldsFit (notices_fields ts) → Read all (front ++ fields_bytes (notices_fields ts)) rest → P (k ts rest))
      → P (notices_then n k more)
  unfolding notices_then notices_fields notice_fields fields_bytes
  then_notices zero k front more r f = f [] more refl tt (rw append-nil r)
  then_notices (suc n) k front more r f =
      then_notice
      (λ t. notices_then n (λ ts. k (t ∷ ts)))
      front
      more
      r
      (λ t rest s r'.
      then_notices n (λ ts. k (t ∷ ts)) (front ++ fields_bytes (notice_fields t)) rest r'
      (λ ts rest' d fit r''.
      f (t ∷ ts) rest' (ap suc d) (s.0, (s.1.0, (s.1.1.0, fit))) (rw (bytes_of_first_notice t ts) (rw append_assoc at r''))))

  then_flag : (one none' : List ℕ → Decoded) (front more : List ℕ) → Read all front more
      → ((rest : List ℕ) → Read all (front ++ 1 ∷ []) rest → P (one rest))
      → ((rest : List ℕ) → Read all (front ++ 0 ∷ []) rest → P (none' rest))
      → P (flag_then one none' more)
  unfolding flag_then
  then_flag one none' front more r f g = then_byte (λ byte. get_or (none' ∷ one ∷ []) byte (λ bytes. malformed)) front more r go
    where
      go : (byte : ℕ) (rest : List ℕ) → Read all (front ++ byte ∷ []) rest → P (get_or (none' ∷ one ∷ []) byte (λ bytes. malformed) rest)
      go zero rest r' = g rest r'
      go (suc zero) rest r' = f rest r'
      go (suc (suc byte)) rest r' = m

  then_nought : (k : List ℕ → Decoded) (front more : List ℕ) → Read all front more
      → ((rest : List ℕ) → Read all (front ++ two_bytes 0) rest → P (k rest))
      → P (nought_then k more)
  unfolding nought_then
  then_nought k front more r f = then_field (λ n. get_or (k ∷ []) n (λ bytes. malformed)) front more r (λ n rest s. go n rest)
    where
      go : (n : ℕ) (rest : List ℕ) → Read all (front ++ two_bytes n) rest → P (get_or (k ∷ []) n (λ bytes. malformed) rest)
      go zero rest r' = f rest r'
      go (suc n) rest r' = m

module _ (all : List ℕ) where
  -- the bytes are those of the answer and then the rest, and the answer's numbers fit into them
  pub record Spells (a : Answer) (rest : List ℕ) : Type 0 where
    pub bytes_are : all ≡ answer_bytes a ++ rest
    pub fits : Fits a

  abbrev Spelled : Decoded → Type 0
  Spelled d = (a : Answer) (rest : List ℕ) → d ≡ decoded a rest → Spells a rest

  bad : Spelled malformed
  bad a rest e = impossible (cc)

  spelled : (b : Answer) (more : List ℕ) → Read all (answer_bytes b) more → Fits b → Spelled (decoded b more)
  spelled b more r fits a rest e =
      let same_answer : b ≡ a = cc in
      let same_rest : more ≡ rest = cc in
      subst₂ Spells same_answer same_rest (record { bytes_are = r.is; fits = fits })

  one_field : (byte : ℕ) (f : ℕ → Answer) → ((n : ℕ) → byte ∷ two_bytes n ≡ answer_bytes (f n)) → ((n : ℕ) → Small n → Fits (f n))
      → (more : List ℕ) → Read all (byte ∷ []) more → Spelled (field_then (λ n. decoded (f n)) more)
  one_field byte f are fit more r =
      then_field all Spelled bad (λ n. decoded (f n)) (byte ∷ []) more r (λ n rest s r'. spelled (f n) rest (rw (are n) at r') (fit n s))

  one_group : (byte : ℕ) (f : Group → Plain) → ((g : Group) → byte ∷ two_bytes g.name ++ two_bytes g.size ≡ answer_bytes (plain (f g)))
      → ((g : Group) → Small g.name → Small g.size → Fits (plain (f g)))
      → (more : List ℕ) → Read all (byte ∷ []) more → Spelled (group_then (λ g. decoded (plain (f g))) more)
  unfolding group_then
  one_group byte f are fit more r =
      then_field all Spelled bad _ (byte ∷ []) more r
      (λ name rest s r₁.
      then_field all Spelled bad _ (byte ∷ two_bytes name) rest r₁
      (λ size rest₁ s' r₂.
      let g : Group = record { name = name; size = size } in
      spelled (plain (f g)) rest₁ (rw (are g) at r₂) (fit g s s')))

  counted : (byte : ℕ) (field : ℕ → Field) → InTwoBytes field → (f : List ℕ → Answer)
      → ((ns : List ℕ) → byte ∷ two_bytes (length ns) ++ fields_bytes (map field ns) ≡ answer_bytes (f ns))
      → ((ns : List ℕ) → Small (length ns) → FieldsFit (map field ns) → Fits (f ns))
      → (more : List ℕ) → Read all (byte ∷ []) more → Spelled (field_then (λ n. fields_then n (λ ns. decoded (f ns))) more)
  unfolding two_bytes
  counted byte field two f are fit more r =
      then_field all Spelled bad _ (byte ∷ []) more r
      (λ n rest s r₁.
      then_fields all Spelled bad field two n (λ ns. decoded (f ns)) (byte ∷ two_bytes n) rest r₁
      (λ ns rest₁ d small r₂. spelled (f ns) rest₁ (rw (are ns) at (rw (sym d) at r₂)) (fit ns (rw (sym d) at s) small)))

  added : (more : List ℕ) → Read all (0x82 ∷ []) more
      → Spelled (field_then (λ s. field_then (λ name. field_then (λ n. notices_then n (λ ts. decoded (span_added s name ts))))) more)
  unfolding answer_bytes answer_fields fields_bytes field_bytes two_bytes
  added more r =
      then_field all Spelled bad _ (0x82 ∷ []) more r
      (λ s rest small r₁.
      then_field all Spelled bad _ (0x82 ∷ two_bytes s) rest r₁
      (λ name rest₁ small₁ r₂.
      then_field all Spelled bad _ (0x82 ∷ two_bytes s ++ two_bytes name) rest₁ r₂
      (λ n rest₂ small₂ r₃.
      then_notices all Spelled bad n (λ ts. decoded (span_added s name ts)) (0x82 ∷ two_bytes s ++ two_bytes name ++ two_bytes n) rest₂ r₃
      (λ ts rest₃ d fit r₄. spelled (span_added s name ts) rest₃ (rw (sym d) at r₄) (tt, (small, (small₁, (rw (sym d) at small₂, fit))))))))

  -- whatever follows the byte of an answer
  abbrev BodySpelled : ℕ → (List ℕ → Decoded) → Type 0
  BodySpelled i d = (more : List ℕ) → Read all ((0x80 + i) ∷ []) more → Spelled (d more)

  -- an answer with a number, or with 0 where there is none
  one_or_none : (byte : ℕ) (f : ℕ → Plain) (none' : Plain) → ((n : ℕ) → byte ∷ 1 ∷ two_bytes n ≡ answer_bytes (plain (f n)))
      → byte ∷ 0 ∷ two_bytes 0 ≡ answer_bytes (plain none')
      → ((n : ℕ) → Small n → Fits (plain (f n)))
      → Fits (plain none')
      → (more : List ℕ) → Read all (byte ∷ []) more → Spelled (flag_then (field_then (λ n. decoded (plain (f n)))) (nought_then (decoded (plain none'))) more)
  unfolding two_bytes
  one_or_none byte f none' are none_is fit none_fits more r =
      then_flag all Spelled bad _ _ (byte ∷ []) more r
      (λ rest r₁.
      then_field all Spelled bad (λ n. decoded (plain (f n))) (byte ∷ 1 ∷ []) rest r₁
      (λ n rest₁ s r₂. spelled (plain (f n)) rest₁ (rw (are n) at r₂) (fit n s)))
      (λ rest r₁.
      then_nought all Spelled bad (decoded (plain none')) (byte ∷ 0 ∷ []) rest r₁ (λ rest₁ r₂. spelled (plain none') rest₁ (rw none_is at r₂) none_fits))

  routes : BodySpelled
      0x0C
      (field_then (λ n. fields_then n (λ ss. field_then (λ m. fields_then m (λ ts. decoded (plain (routes_are ss ts)))))))
  unfolding answer_bytes answer_fields plain_fields fields_bytes field_bytes two_bytes
  routes more r =
      then_field all Spelled bad _ (0x8C ∷ []) more r
      (λ n rest s r₁.
      then_fields all Spelled bad span spans_in_two_bytes n _ (0x8C ∷ two_bytes n) rest r₁
      (λ ss rest₁ d small r₂.
      then_field all Spelled bad _ (0x8C ∷ two_bytes n ++ fields_bytes (map span ss)) rest₁ r₂
      (λ m rest₂ s' r₃.
      then_fields all Spelled bad span spans_in_two_bytes m _ ((0x8C ∷ two_bytes n ++ fields_bytes (map span ss)) ++ two_bytes m) rest₂ r₃
      (λ ts rest₃ d' small' r₄.
      spelled
      (plain (routes_are ss ts))
      rest₃
      (rw (bytes_then_counted span spans_in_two_bytes ss ts)
      (rw
      (append_assoc (fields_bytes (map span ss)) (two_bytes (length ts)) (fields_bytes (map span ts)))
      at (rw (sym d, sym d') at r₄)))
      (tt, (rw (sym d) at s, (both_fit_lem (map span ss) _).1 (small, (rw (sym d') at s', small'))))))))

  yes_or_no : (byte : ℕ) (f : Bool → Plain) → ((b : Bool) → byte ∷ bool_byte b ∷ [] ≡ answer_bytes (plain (f b))) → ((b : Bool) → Fits (plain (f b)))
      → (more : List ℕ) → Read all (byte ∷ []) more → Spelled (flag_then (decoded (plain (f true))) (decoded (plain (f false))) more)
  unfolding bool_byte
  yes_or_no byte f are fit more r =
      then_flag all Spelled bad _ _ (byte ∷ []) more r
      (λ rest r₁. spelled (plain (f true)) rest (rw (are true) at r₁) (fit true))
      (λ rest r₁. spelled (plain (f false)) rest (rw (are false) at r₁) (fit false))

  each_body : (i : ℕ) → BodySpelled i (get_or bodies i (λ bytes. malformed))
  unfolding bodies answer_bytes answer_fields plain_fields fields_bytes field_bytes two_bytes
  each_body =
      each_at
      BodySpelled
      bodies
      (λ bytes. malformed)
      ((λ more r. bad)
      also one_field 0x81 cabinet_added (λ n. refl) (λ n s. (tt, (s, tt)))
      also added
      also one_group 0x83 district_is (λ g. refl) (λ g s s'. (tt, (s, (s', tt))))
      also one_group 0x84 ring_is (λ g. refl) (λ g s s'. (tt, (s, (s', tt))))
      also one_or_none 0x85 mesh_shared no_mesh_shared (λ n. refl) refl (λ n s. (tt, (tt, (s, tt)))) (tt, (tt, (omega arith, tt)))
      also counted 0x86 span spans_in_two_bytes (λ ns. plain (sole_spans_are ns)) (λ ns. refl) (λ ns s f. (tt, (s, f)))
      also counted 0x87 cabinet cabinets_in_two_bytes (λ ns. plain (cut_cabinets_are ns)) (λ ns. refl) (λ ns s f. (tt, (s, f)))
      also yes_or_no 0x88 sole_is (λ b. refl) (λ b. (tt, (tt, tt)))
      also (λ more r. spelled (plain exchange_marked) more r (tt, tt))
      also yes_or_no 0x8A exchange_held (λ b. refl) (λ b. (tt, (tt, tt)))
      also (λ more r. bad)
      also routes
      also (λ more r. spelled (plain length_recorded) more r (tt, tt))
      also one_or_none 0x8E length_is no_length (λ n. refl) refl (λ n s. (tt, (tt, (s, tt)))) (tt, (tt, (omega arith, tt)))
      also one_field 0x8F (λ n. plain (share_is n)) (λ n. refl) (λ n s. (tt, (s, tt)))
      also tt)
      (λ i h more r. bad)

  body : (byte : ℕ) (more : List ℕ) → Read all (byte ∷ []) more → Spelled (decode_body byte more)
  unfolding decode_body bodies
  body byte more r = go (le_or_gt 0x80 byte)
    where
      go : (0x80 ≤ byte) ⊎ (byte < 0x80) → Spelled (get_or bodies (byte - 0x80) (λ bytes. malformed) more)
      go (inl h) =
          let e : byte ≡ 0x80 + (byte - 0x80) = omega arith in
          each_body (byte - 0x80) more (subst (λ (b : ℕ). Read all (b ∷ []) more) e r)
      go (inr h) = let e : byte - 0x80 ≡ 0 = omega arith in rw e bad

  -- of bytes, an answer is read exactly where they are that answer's bytes and then the rest
  pub read_exactly : all_bytes all ≡ true → (a : Answer) (rest : List ℕ) → (decode all ≡ decoded a rest) ↔ Spells a rest
  unfolding decode
  read_exactly b a rest = (
    then_byte all Spelled bad decode_body [] all (record { is = refl; bytes = b }) body a rest,
    λ s. ap decode s.bytes_are ∙ decode-answer a s.fits rest,
  )

  -- the count in an 82 is the number of notices read after it
  pub read_span_added : all_bytes all ≡ true → (s name : ℕ) (ts : List Notice) (rest : List ℕ)
      → decode all ≡ decoded (span_added s name ts) rest → number (get_or all 5 0) (get_or all 6 0) ≡ length ts
  unfolding answer_bytes answer_fields fields_bytes field_bytes two_bytes
  read_span_added b s name ts rest e =
      let spelt = (read_exactly b (span_added s name ts) rest).0 e in
      rw spelt.bytes_are (number_of-two_bytes (length ts) spelt.fits.1.1.1.0)
