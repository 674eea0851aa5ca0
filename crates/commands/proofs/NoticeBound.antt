-- The notices of commands that are not refused: each moves its item into a group at least twice the size, and there are few of each kind.
use mathlib.Core.List.{List, [], ◌∷◌}
use mathlib.Core.Option.{none}
use mathlib.Core.Path.{◌≡◌, sym}
use Prim.Native.Nat.{ℕ, zero, suc, ◌+◌, ◌*◌, ◌≤◌, ◌<◌}
use native.Mathlib.Nat.{not-suc-le-zero}
use native.Mathlib.Omega.{arith}
use lib.ListN.{length, take, get_or}
use Rattle.graph.specs.Below.{count}
use Rattle.graph.specs.Route.{Choice}
use Rattle.graph.proofs.Truth.{not_both, eq-eqb}
use Rattle.naming.specs.Rename.{name_of}
use Rattle.naming.specs.Book.{feed}
use Rattle.naming.specs.State.{State, after_addition, after_recording}
use Rattle.naming.specs.Total.{total}
use Rattle.naming.specs.Log.{whole_log2}
use Rattle.naming.proofs.Book.{NamesAdvance}
use Rattle.naming.proofs.Bound.{Bounded, bounded_total, bounded_start, counted, bounded_advance, total_counted}
use Rattle.commands.specs.Field.{Kind}
use Rattle.commands.specs.Command.{Command}
use Rattle.commands.specs.Answer.{Notice, notices, no_mesh_shared, plain}
use Rattle.commands.specs.Facts.{Facts, adds_cabinet, adds_span, adds_nothing, facts, addition_of, addition, after, span_answer, answer_to, answer, state_after}
use Rattle.commands.specs.Refusal.{Capacities, refusal_of}
use Rattle.commands.specs.WholeRun.{groups_of, items_of, group_size, notices_in, count_notices, count_kind, Doubles, EachNotice}
use Rattle.commands.proofs.SizedBook.{names_in}
use Rattle.commands.proofs.Notices.{differs, each_notice}
use Rattle.commands.proofs.NoticeOrder.{count_notices_lem}
use Rattle.commands.proofs.NameList.{answers_from}
use Rattle.commands.proofs.EachKind.{kind_laws, kind_advances, sized_by_laws}
use Rattle.commands.proofs.RunBooks.{Sound, command_advances, sound_after, NoneRefused}

-- an answer holds no notices, or those of the command
in_answer : (choice : Choice) (P : List Notice → Type 0) (s : State) (c : Command) → P [] → P (notices s.book (after s c).book)
    → P (notices_in (answer choice s c))
unfolding answer after after_addition after_recording addition
in_answer choice P s c p q = go (facts c) q
  where
    go : (f : Facts) → P (notices s.book (feed s.book (addition_of f))) → P (notices_in (answer_to choice s f))
    go adds_cabinet q = unfold notices_in answer_to in p
    go (adds_span e operands demands) q = unfold notices_in answer_to span_answer addition_of in q
    go (adds_nothing question) q = unfold notices_in answer_to in p

module _ (choice : Choice) (caps : Capacities) where
  -- each notice of a command moves its item into a group at least twice the size of the one it left
  pub each_doubles : (s : State) (c : Command) → Sound caps s → refusal_of caps s c ≡ none
      → EachNotice (Doubles s.book.network (after s c).book.network) (notices_in (answer choice s c))
  unfolding group_size
  each_doubles s c sound e =
      let b = s.book in
      let b' = (after s c).book in
      in_answer choice (EachNotice (Doubles b.network b'.network)) s c tt
      (each_notice (Doubles b.network b'.network) b b' (sized_by_laws sound.laws)
      (λ kind x h d.
      (kind_advances (command_advances caps s c sound e) kind).doubles x h
      (λ q. not_both (eq-eqb (name_of (names_in kind b) x) (name_of (names_in kind b') x) (sym q)) d)))

  -- an answer has no more notices of a kind than items of before have another name
  few_at_once : (s : State) (c : Command) → Sound caps s → (kind : Kind)
      → count_notices kind (notices_in (answer choice s c))
      ≤ count (items_of kind s.book.network) (differs (names_in kind s.book) (names_in kind (after s c).book))
  few_at_once s c sound kind =
      in_answer
      choice
      (λ ts.
      count_notices kind ts
      ≤ count (items_of kind s.book.network) (differs (names_in kind s.book) (names_in kind (after s c).book)))
      s
      c
      (unfold count_notices in omega arith)
      (omega (arith, count_notices_lem s.book (after s c).book (sized_by_laws sound.laws) kind))

  -- with the changes that came before, the notices of a kind are at most n log2 n for the n items that there are in the end
  few_with_earlier : (kind : Kind) (s : State) (cs : List Command) → Sound caps s → NoneRefused caps s cs
      → (changes : ℕ → ℕ) → Bounded (items_of kind s.book.network) (groups_of kind s.book.network) changes
      → let items = items_of kind (state_after s cs).book.network in
      count_kind kind (answers_from choice s cs) + total (items_of kind s.book.network) changes ≤ items * whole_log2 items
  unfolding count_kind answers_from state_after
  few_with_earlier kind s [] sound n changes f =
      omega (arith, bounded_total (items_of kind s.book.network) (groups_of kind s.book.network) changes f)
  few_with_earlier kind s (c ∷ later) sound n changes f =
      omega (
        arith,
        few_with_earlier kind (after s c) later (sound_after caps s c sound n.0) n.1 changes'
            (bounded_advance advance ((kind_laws kind).equivalent (after s c).book.network) changes f),
        total_counted
            (items_of kind s.book.network)
            (items_of kind (after s c).book.network)
            (names_in kind s.book)
            (names_in kind (after s c).book)
            changes
            advance.no_fewer,
        few_at_once s c sound kind,
      )
    where
      changes' : ℕ → ℕ
      changes' = counted (items_of kind s.book.network) (names_in kind s.book) (names_in kind (after s c).book) changes

      advance : NamesAdvance (items_of kind) (groups_of kind) (names_in kind) s.book (after s c).book
      advance = kind_advances (command_advances caps s c sound n.0) kind

  -- the notices of a kind are at most n log2 n for the n items that there are in the end
  pub few_in_all : (kind : Kind) (s : State) (cs : List Command) → Sound caps s → NoneRefused caps s cs
      → let items = items_of kind (state_after s cs).book.network in
      count_kind kind (answers_from choice s cs) ≤ items * whole_log2 items
  few_in_all kind s cs sound n =
      omega (
        arith,
        few_with_earlier kind s cs sound n (λ x. 0)
            (bounded_start
            (items_of kind s.book.network)
            (groups_of kind s.book.network)
            ((kind_laws kind).equivalent s.book.network)),
      )

  -- each notice of answer i moves its item into a group at least twice the size of the one it left
  pub each_doubles_at : (s : State) (cs : List Command) → Sound caps s → NoneRefused caps s cs → (i : ℕ) → i < length cs
      → EachNotice
      (Doubles (state_after s (take i cs)).book.network (state_after s (take (suc i) cs)).book.network)
      (notices_in (get_or (answers_from choice s (take (suc i) cs)) i (plain no_mesh_shared)))
  unfolding state_after answers_from
  each_doubles_at s [] sound n i h = absurd (not-suc-le-zero h)
  each_doubles_at s (c ∷ later) sound n zero h = each_doubles s c sound n.0
  each_doubles_at s (c ∷ later) sound n (suc i) h =
      each_doubles_at (after s c) later (sound_after caps s c sound n.0) n.1 i (omega arith)
