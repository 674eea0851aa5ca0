-- Laws of the writers: the bytes of one item more, how many bytes there are, and the answers that they are.
use mathlib.Core.Bool.{Bool, true, false}
use mathlib.Core.List.{List, [], ◌∷◌, ◌++◌, map}
use mathlib.Core.Path.{◌≡◌, refl, ◌∙◌, ap}
use mir.Val as Machine
use Prim.Native.Nat.{ℕ, ◌+◌, ◌*◌, ◌≤◌}
use native.Mathlib.Omega.{arith}
use lib.ListN.{length}
use lib.Seq.{sets}
use Rattle.std.specs.Prelude.{Option, None, Some}
use Rattle.graph.specs.Below.{tabulate, length_tabulate}
use Rattle.commands.specs.Bytes.{two_bytes}
use Rattle.commands.specs.Field.{Field, Kind, cabinet, span, district, ring, mesh, field_bytes, fields_bytes}
use Rattle.commands.specs.Answer.{notices_fields, bool_byte, plain_fields, span_added, plain, answer_fields, answer_bytes}
use Rattle.commands.specs.Entry.{over}
use Rattle.commands.proofs.Bytes.{InTwoBytes, cabinets_in_two_bytes, spans_in_two_bytes}
use Rattle.commands.proofs.NoticeBytes.{length_notices_bytes, notices_bytes_append}
use Rattle.numbers.specs.declared.Edge.{Edge}
use Rattle.numbers.specs.declared.Shape.{Shape}
use Rattle.forest.specs.declared.Growth.{Growth}
use Rattle.step.specs.declared.Listed.TheVariants as L
use Rattle.step.specs.declared.Reply.{Reply}
use Rattle.step.specs.Promise.{notice_at, notices_of, notice_count, growth_notices, shared_answer, list_answer, length_told, reply_answer, reply_size}
use Rattle.step.proofs.Replies.{count_notices_lem, reply_counted}
use Rattle.writing.specs.Inside.Writes.{list_bytes, number_of, option_bytes}
use Rattle.storing.specs.Numbers.{number_bytes}
use Rattle.storing.proofs.Sets.{sets_four, sets_front}
use Rattle.writing.proofs.ItemSteps.{each_number}

-- a test as a byte
pub flag_byte : (b : Bool) → Machine.bool_byte b ≡ bool_byte b
unfolding bool_byte
flag_byte true = refl
flag_byte false = refl

-- the answers to 06 and 07 are their code, their count and their items
pub list_bytes_lem : (field : ℕ → Field) → InTwoBytes field → (code : ℕ) (f : ℕ → ℕ) (n : ℕ)
    → list_bytes code f n ≡ code ∷ two_bytes (length (tabulate n f)) ++ fields_bytes (map field (tabulate n f))
unfolding list_bytes
list_bytes_lem field two code f n = rw (each_number field two f n, length_tabulate n f) refl

pub spans_listed : (f : ℕ → ℕ) (n : ℕ) → list_bytes 0x86 f n ≡ answer_bytes (plain (list_answer L.Spans (tabulate n f)))
unfolding list_answer answer_bytes answer_fields plain_fields fields_bytes field_bytes two_bytes
spans_listed f n = list_bytes_lem span spans_in_two_bytes 0x86 f n

pub cabinets_listed : (f : ℕ → ℕ) (n : ℕ) → list_bytes 0x87 f n ≡ answer_bytes (plain (list_answer L.Cabinets (tabulate n f)))
unfolding list_answer answer_bytes answer_fields plain_fields fields_bytes field_bytes two_bytes
cabinets_listed f n = list_bytes_lem cabinet cabinets_in_two_bytes 0x87 f n

-- how many bytes the first n notices of a kind have
length_told_lem : (kind : Kind) (shape : Shape) (t : List ℕ) (n : ℕ)
    → length (fields_bytes (notices_fields (notices_of kind shape t n))) ≡ 5 * n
length_told_lem kind shape t n =
    length_notices_bytes (notices_of kind shape t n) ∙ ap (λ (k : ℕ). 5 * k) (length_tabulate n (notice_at kind shape t))

-- the answers to 05 and 0E are a byte and a number, if there is one
pub shared_bytes : (shared : Option Edge) → answer_bytes (plain (shared_answer shared)) ≡ option_bytes 0x85 (number_of shared)
unfolding shared_answer option_bytes answer_bytes answer_fields plain_fields fields_bytes field_bytes two_bytes
shared_bytes (Some name) = refl
shared_bytes None = refl

pub length_bytes : (kept : Option ℕ) → answer_bytes (plain (length_told kept)) ≡ option_bytes 0x8E kept
unfolding length_told option_bytes answer_bytes answer_fields plain_fields fields_bytes field_bytes two_bytes
length_bytes (Some metres) = refl
length_bytes None = refl

-- The answer to an added span.
module _ (shape : Shape) (t : List ℕ) (growth : Growth) where
  abbrev told : Kind → ℕ → List ℕ
  told kind n = fields_bytes (notices_fields (notices_of kind shape t n))

  abbrev districts : List ℕ
  districts = told district growth.components

  abbrev rings : List ℕ
  rings = told ring growth.bridge_blocks

  abbrev meshes : List ℕ
  meshes = told mesh growth.blocks

  abbrev head : ℕ → List ℕ
  head number = 0x82 ∷ number_bytes (number ∷ growth.block.0 ∷ notice_count growth ∷ [])

  -- its head and the notices of each kind
  span_bytes_lem : (number : ℕ) → head number ++ districts ++ rings ++ meshes ≡ answer_bytes (span_added number growth.block.0 (growth_notices shape t growth))
  unfolding answer_bytes answer_fields fields_bytes field_bytes two_bytes
  span_bytes_lem number =
      rw (
        count_notices_lem shape t growth,
        notices_bytes_append
            (notices_of district shape t growth.components ++ notices_of ring shape t growth.bridge_blocks)
            (notices_of mesh shape t growth.blocks),
        notices_bytes_append (notices_of district shape t growth.components) (notices_of ring shape t growth.bridge_blocks),
      )

  -- written one behind another they are the answer
  pub span_written : (l : List ℕ) (number p q : ℕ) → p ≡ 7 + 5 * growth.components → q ≡ p + 5 * growth.bridge_blocks
      → sets (sets (sets (sets l 0 (head number)) 7 districts) p rings) q meshes
      ≡ sets l 0 (answer_bytes (span_added number growth.block.0 (growth_notices shape t growth)))
  unfolding two_bytes
  span_written l number p q first second =
      sets_four l (head number) districts rings meshes 7 p q
      refl
      (omega (arith, first, length_told_lem district shape t growth.components))
      (omega (arith, second, length_told_lem ring shape t growth.bridge_blocks))
      ∙ ap (λ (b : List ℕ). sets l 0 b) (span_bytes_lem number)

-- an answer that fits is written over the front of the buffer
pub reply_written : (shape : Shape) (t : List ℕ) (reply : Reply) (out : List ℕ) → reply_size reply ≤ length out
    → (new : List ℕ) → new ≡ sets out 0 (answer_bytes (reply_answer shape t reply)) → new ≡ over (answer_bytes (reply_answer shape t reply)) out
reply_written shape t reply out h new e = e ∙ sets_front out _ (omega (arith, reply_counted shape t reply))
