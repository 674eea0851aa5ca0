-- How the second journal is stored, raised: what stands at a place of it, and then what is behind that.
use mathlib.Core.Bool.{true}
use mathlib.Core.List.{List, ◌∷◌, ◌++◌, map}
use mathlib.Core.Option.{none}
use mathlib.Core.Path.{◌≡◌, refl, sym, ◌∙◌, ap, subst}
use Prim.Native.Nat.{ℕ, suc, ◌+◌, ◌≤◌, ◌<◌}
use native.Mathlib.Numerals.{add-one}
use native.Mathlib.Omega.{arith}
use lib.ListN.{length, get_or, drop}
use lib.Seq.{sets, length-sets, drop-cons}
use Rattle.commands.specs.Bytes.{all_bytes}
use Rattle.commands.specs.Command.{Command, command}
use Rattle.commands.specs.Facts.{facts, operands_of, command_bytes}
use Rattle.commands.specs.Text.{text_from, ends_with, followed_by, text_of, commands_in, journal_bytes}
use Rattle.commands.specs.Join.{Counts, raise_command}
use Rattle.commands.proofs.Bytes.{all_bytes_from, FieldsFit}
use Rattle.commands.proofs.Steps.{text_goes_on}
use Rattle.commands.proofs.Spelled.{AllSpelled}
use Rattle.commands.proofs.SpelledBack.{length_of_read}
use Rattle.commands.proofs.ReadFits.{text_spelled}
use Rattle.joining.proofs.Raised.{raised_as_long}
use Rattle.commands.proofs.TextAt.{reading_here, not_unknown, not_cut_off, text_at_end, text_at_command, operands_stand, whole_behind}
use Rattle.storing.proofs.Sets.{sets_behind}
use Rattle.std.specs.Prelude.{Err}
use Rattle.reading.specs.declared.read.Unread.{Unread}
use Rattle.reading.specs.declared.read.Unread.TheVariants.{BadByte, CutOperands}
use Rattle.reading.specs.Inside.Reads.{reading_of}
use Rattle.reading.specs.Inside.Places.{Readable}
use Rattle.joining.specs.Inside.Raising.{raised_from, RaisableAt, RaisedOn, RaisedTo}

-- where a journal is read to its end, at each place a command can be read
pub never_unread : (journal : List ℕ) (place : ℕ) → place < length journal → (text_from place 0 (drop place journal)).refusal ≡ none
    → (unread : Unread) → reading_of (Err unread) ≡ reading_here journal place → ⊥
unfolding reading_of
never_unread journal place h whole BadByte e = not_unknown journal place h whole (sym e)
never_unread journal place h whole CutOperands e = not_cut_off journal place h whole (sym e)

-- A place of a journal.
module _ (journal : List ℕ) (place : ℕ) (at_byte : place < length journal) where
  -- A command that stands there.
  module _ (c : Command) (width : ℕ) (reads : command c width ≡ reading_here journal place) where
    abbrev behind : ℕ
    behind = place + 1 + width

    -- so do its operands
    pub stands_whole : behind ≤ length journal
    stands_whole = operands_stand journal place at_byte c width (sym reads)

    -- from there on the journal is the command's byte and what is behind it
    from_here : drop place journal ≡ get_or journal place 0 ∷ drop (place + 1) journal
    from_here = drop-cons journal place 0 at_byte ∙ rw (add-one place) refl

    -- where the journal is bytes, the operands fit into two each
    pub read_fits : all_bytes journal ≡ true → FieldsFit (operands_of (facts c))
    unfolding text_of followed_by
    read_fits are =
        (subst (λ t. AllSpelled (map (λ r. r.command) t.commands))
        (text_goes_on 0 (get_or journal place 0) (drop (place + 1) journal) (sym reads))
        (text_spelled (get_or journal place 0 ∷ drop (place + 1) journal) (rw from_here at (all_bytes_from place journal are)))
        ).0

    module _ (by : Counts) where
      abbrev here : List ℕ
      here = command_bytes (raise_command by c)

      -- raised, it has as many bytes
      as_many : length here ≡ suc width
      as_many = raised_as_long by c ∙ length_of_read (get_or journal place 0) (drop (place + 1) journal) c width (sym reads)

      -- and then those behind it come
      goes_on : raised_from by journal place ≡ here ++ raised_from by journal behind
      unfolding followed_by journal_bytes
      goes_on =
          ap (λ t. journal_bytes (map (raise_command by) (map (λ r. r.command) t.commands)))
          (text_at_command journal place at_byte c width (sym reads))

      module _ {out : List ℕ} {at : ℕ} (can : RaisableAt journal place out at) where
        -- there is room for it
        pub room_raised : at + place + length here ≤ length out
        room_raised = omega (arith, as_many, stands_whole, can.room)

        -- and with its bytes stored, what is left is stored behind them
        pub raised_on : RaisedOn journal place at by out behind (sets out (at + place) here)
        raised_on =
            record {
              further = omega arith;
              in_journal = stands_whole;
              whole_there = whole_behind journal place at_byte c width (sym reads) can.whole_here;
              leads =
                  sets_behind out (at + place) (at + behind) here (raised_from by journal behind) (omega (arith, as_many))
                  ∙ ap (sets out (at + place)) (sym goes_on);
              as_long = length-sets out (at + place) here;
            }

-- A journal and a place of a buffer.
module _ (journal : List ℕ) (at : ℕ) (by : Counts) where
  -- a journal that is read to its end is stored up to its start
  pub raised_at_start : (lent : List ℕ) → Readable journal → {place : ℕ} → place ≡ 0 → RaisedTo journal at by lent lent place
  unfolding text_of
  raised_at_start lent read e =
      rw e
      (record {
        in_journal = omega arith;
        whole_here = read.whole;
        leads = ap (λ (k : ℕ). sets lent k (raised_from by journal 0)) (let h : at + 0 ≡ at = omega arith in h);
        as_long = refl;
      })

  module _ {lent out : List ℕ} {place : ℕ} (so_far : RaisedTo journal at by lent out place) where
    -- the next command can be stored
    pub raisable_here : Readable journal → place < length journal → at + length journal ≤ length lent → RaisableAt journal place out at
    raisable_here read h room =
        record { in_journal = h; short = read.short; whole_here = so_far.whole_here; room = omega (arith, room, so_far.as_long) }

    -- and with it the journal is stored up to the one behind it
    pub raised_behind : {next : ℕ} {new : List ℕ} → RaisedOn journal place at by out next new → RaisedTo journal at by lent new next
    raised_behind on =
        record {
          in_journal = on.in_journal;
          whole_here = on.whole_there;
          leads = on.leads ∙ so_far.leads;
          as_long = on.as_long ∙ so_far.as_long;
        }

    -- at its end the whole of it is stored
    pub raised_to_end : length journal ≤ place → out ≡ sets lent at (journal_bytes (map (raise_command by) (commands_in journal)))
    unfolding ends_with text_of journal_bytes
    raised_to_end h =
        sym
        (ap (λ t. sets out (at + place) (journal_bytes (map (raise_command by) (map (λ r. r.command) t.commands))))
        (text_at_end journal place h))
        ∙ so_far.leads
