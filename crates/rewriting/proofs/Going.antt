-- How a result goes on, command by command: what stands at a place of the journal, rewritten, and then what is behind it.
use mathlib.Core.Bool.{Bool, true, false, not, cond}
use mathlib.Core.List.{List, ◌∷◌, ◌++◌}
use mathlib.Core.Logic.{◌⊎◌, inl, inr, ◌≢◌}
use mathlib.Core.Option.{none, some}
use mathlib.Core.Path.{◌≡◌, refl, sym, ◌∙◌, ap}
use Prim.Native.Nat.{ℕ, suc, ◌+◌, ◌≤◌, ◌<◌}
use native.Mathlib.Numerals.{add-one}
use native.Mathlib.Omega.{arith}
use lib.Dec.{eqb}
use lib.ListN.{length, get_or, take, drop, length-append}
use lib.Seq.{slice, slice-cons, length-slice}
use Rattle.graph.specs.Network.{edge_between, edge_in_duct}
use Rattle.graph.proofs.Truth.{true_or_false, eq-eqb, ne_eqb}
use Rattle.commands.specs.Bytes.{two_bytes, all_bytes}
use Rattle.commands.specs.Field.{field_bytes, fields_bytes}
use Rattle.commands.specs.Command.{Command, add_span, add_duct_span, command_byte}
use Rattle.commands.specs.Facts.{facts, addition_of, addition, operands_of, command_bytes}
use Rattle.commands.specs.Text.{followed_by, journal_bytes}
use Rattle.commands.specs.Forecast.{is_span}
use Rattle.commands.specs.Rewrite.{rewrite_command, rewrite_from, first_duct_told}
use Rattle.commands.proofs.Bytes.{all_bytes_from}
use Rattle.commands.proofs.ReadFront.{behind_of_front}
use Rattle.commands.proofs.SpelledBack.{command_spelled}
use Rattle.commands.proofs.EachRewritten.{Is02, Unchanged, each_rewritten}
use Rattle.commands.proofs.RewrittenText.{span_rewritten}
use Rattle.commands.proofs.TextAt.{text_here}
use Rattle.std.specs.Prelude.{Result, Ok, Err}
use Rattle.std.specs.Result.{result_unwrap_or}
use Rattle.reading.specs.declared.read.Taken.{Taken}
use Rattle.reading.specs.declared.read.Unread.{Unread}
use Rattle.reading.specs.declared.read.Unread.TheVariants as U
use Rattle.reading.specs.Inside.Reads.{whole, passing_of}
use Rattle.reading.proofs.PassedAt.{no_unknown_passed, no_cut_passed, passing_here, command_here, its_own_byte, operands_here, text_goes_on_behind}
use Rattle.reading.specs.Inside.Places.{reads_at, commands_at}
use Rattle.rewriting.specs.Inside.Measures.{size_of}
use Rattle.rewriting.specs.Inside.Writes.{spans_behind, rewritten_at}

-- where a journal is read to its end, what is passed over is a command
pub one_passed : (journal : List ℕ) (place : ℕ) (at_byte : place < length journal) → (text_here journal place).refusal ≡ none
    → (passed : Result (Taken ℕ) Unread) → passing_of passed ≡ passing_here journal place at_byte → (never : Taken ℕ)
    → let head = result_unwrap_or passed never in whole head.command head.width ≡ passing_here journal place at_byte
unfolding passing_of
one_passed journal place at_byte read (Ok taken) e never = e
one_passed journal place at_byte read (Err U.BadByte) e never = absurd (no_unknown_passed journal place at_byte read e)
one_passed journal place at_byte read (Err U.CutOperands) e never = absurd (no_cut_passed journal place at_byte read e)

-- a 02 adds a span
span_added_lem : (x y : ℕ) → is_span (addition (add_span x y)) ≡ true
unfolding addition addition_of facts is_span
span_added_lem x y = refl

-- rewritten, a command has at most two bytes more
pub size_at_most : (byte width : ℕ) → size_of byte width ≤ 3 + width
unfolding size_of
size_at_most byte width = go (eqb byte 2)
  where
    go : (b : Bool) → cond b (3 + width) (1 + width) ≤ 3 + width
    go true = omega arith
    go false = omega arith

-- and behind it there is at most one span more
pub spans_at_most : (byte spans : ℕ) → spans_behind byte spans ≤ spans + 1
unfolding spans_behind
spans_at_most byte spans = go (eqb byte 2)
  where
    go : (b : Bool) → cond b (spans + 1) spans ≤ spans + 1
    go true = omega arith
    go false = omega arith

-- A journal of bytes, and a command that stands at a place of it.
module _ (journal : List ℕ) (are : all_bytes journal ≡ true) (place : ℕ) (at_byte : place < length journal) (byte width : ℕ)
    (passed : whole byte width ≡ passing_here journal place at_byte) where
  abbrev this : Command
  this = (command_here journal place at_byte byte width passed).this

  abbrev behind : ℕ
  behind = place + 1 + width

  own : command_byte this ≡ byte
  own = its_own_byte journal place at_byte byte width passed

  in_journal : behind ≤ length journal
  in_journal = operands_here journal place at_byte byte width passed

  -- the commands are this one and those behind it
  reads_here : reads_at journal place ≡ record { command = this; place = place; width = width } ∷ reads_at journal behind
  unfolding followed_by
  reads_here = ap (λ t. t.commands) (text_goes_on_behind journal place at_byte byte width passed)

  -- a 0B is the first one
  pub told_here : byte ≡ 11 → first_duct_told (reads_at journal place) ≡ some place
  unfolding first_duct_told
  told_here e = rw (reads_here, own, e)

  -- and any other command is none
  pub not_told_here : byte ≢ 11 → first_duct_told (reads_at journal place) ≡ first_duct_told (reads_at journal behind)
  unfolding first_duct_told
  not_told_here n = rw (reads_here, own, ne_eqb byte 11 n)

  -- the operands' bytes
  operands : slice (place + 1) behind journal ≡ take width (drop (place + 1) journal)
  operands = behind_of_front (place + 1) width journal (omega (arith, in_journal))

  bytes_spelled : command_bytes this ≡ get_or journal place 0 ∷ slice (place + 1) behind journal
  bytes_spelled =
      rw operands
      (command_spelled (get_or journal place 0) (drop (place + 1) journal) this width
      (all_bytes_from (place + 1) journal are)
      (command_here journal place at_byte byte width passed).is_read)

  -- the command's bytes stand there
  bytes_stand : command_bytes this ≡ slice place behind journal
  bytes_stand = bytes_spelled ∙ sym (slice-cons place behind journal 0 (omega arith) in_journal ∙ rw (← add-one place) refl)

  -- of a 02, rewritten, the operands do
  span_stands : (x y spans : ℕ) → this ≡ add_span x y
      → command_bytes (add_duct_span x y (spans + 1)) ≡ 0x0B ∷ slice (place + 1) behind journal ++ two_bytes (spans + 1)
  unfolding command_bytes fields_bytes field_bytes two_bytes facts operands_of edge_between edge_in_duct command_byte
  span_stands x y spans e =
      let tail : two_bytes x ++ two_bytes y ≡ slice (place + 1) behind journal = ap (drop 1) (sym (ap command_bytes e) ∙ bytes_spelled) in
      ap (λ l. 0x0B ∷ l ++ two_bytes (spans + 1)) tail

  module _ (other : byte ≢ 11) where
    not_0b : not (eqb (command_byte this) 0x0B) ≡ true
    not_0b = rw (own, ne_eqb byte 11 other)

    -- its byte is 2 if it is 02, and else it is not
    byte_of_02 : Is02 this → eqb byte 2 ≡ true
    unfolding command_byte
    byte_of_02 w = eq-eqb byte 2 (sym own ∙ ap command_byte w.is)

    byte_of_unchanged : Unchanged this → eqb byte 2 ≡ false
    byte_of_unchanged left = rw own at left.not_02

    -- the command, rewritten, is what stands there, rewritten
    rewritten_stands : (spans : ℕ) → command_bytes (rewrite_command spans this) ≡ rewritten_at journal place byte width spans
    unfolding rewritten_at
    rewritten_stands spans = go (each_rewritten this not_0b)
      where
        go : Is02 this ⊎ Unchanged this → command_bytes (rewrite_command spans this) ≡ rewritten_at journal place byte width spans
        go (inl w) =
            ap (λ c. command_bytes (rewrite_command spans c)) w.is
            ∙ ap command_bytes (span_rewritten spans w.from w.to)
            ∙ span_stands w.from w.to spans w.is
            ∙ rw (byte_of_02 w) refl
        go (inr left) = ap command_bytes (left.as_it_is spans) ∙ bytes_stand ∙ rw (byte_of_unchanged left) refl

    -- and counts as a span if it is 02
    spans_go_on : (spans : ℕ) → cond (is_span (addition this)) (suc spans) spans ≡ spans_behind byte spans
    unfolding spans_behind
    spans_go_on spans = go (each_rewritten this not_0b)
      where
        go : Is02 this ⊎ Unchanged this → cond (is_span (addition this)) (suc spans) spans ≡ spans_behind byte spans
        go (inl w) =
            ap (λ c. cond (is_span (addition c)) (suc spans) spans) w.is
            ∙ ap (λ b. cond b (suc spans) spans) (span_added_lem w.from w.to)
            ∙ rw (byte_of_02 w) (sym (add-one spans))
        go (inr left) = rw (left.adds_none, byte_of_unchanged left) refl

    -- so the result goes on
    pub bytes_go_on : (spans : ℕ) → journal_bytes (rewrite_from spans (commands_at journal place))
        ≡ rewritten_at journal place byte width spans ++ journal_bytes (rewrite_from (spans_behind byte spans) (commands_at journal behind))
    unfolding rewrite_from journal_bytes
    bytes_go_on spans = rw (reads_here, rewritten_stands spans, spans_go_on spans) refl

  -- what is stored for a command has its size
  pub size_stands : (spans : ℕ) → length (rewritten_at journal place byte width spans) ≡ size_of byte width
  unfolding rewritten_at size_of two_bytes
  size_stands spans = go (true_or_false (eqb byte 2))
    where
      go : (eqb byte 2 ≡ true) ⊎ (eqb byte 2 ≡ false) → length (rewritten_at journal place byte width spans) ≡ size_of byte width
      go (inl e) =
          rw e
          (omega (
            arith,
            length-append (slice (place + 1) behind journal) (two_bytes (spans + 1)),
            length-slice (place + 1) behind journal in_journal,
          ))
      go (inr e) = rw e (omega (arith, length-slice place behind journal in_journal))
