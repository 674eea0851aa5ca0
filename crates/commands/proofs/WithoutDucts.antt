-- Under the rule of request 3, by which a span of 02 has no mate, a journal without 0B is run as document 01 has it: whether a span is lost
-- with the spans of its duct or no span with another, everything that is returned and left is the same. (Under the rule of request 7 it is
-- so with a journal that is rewritten: RewrittenRun.)
use mathlib.Core.Bool.{true, not}
use mathlib.Core.Logic.{◌⊎◌, inl, inr}
use mathlib.Core.List.{List, [], ◌∷◌, map}
use mathlib.Core.Option.{Option}
use mathlib.Core.Path.{◌≡◌, refl, ap₂}
use Prim.Native.Nat.{ℕ}
use lib.Dec.{eqb}
use Rattle.graph.specs.Lists.{all_in}
use Rattle.graph.specs.Network.{never, same_duct, edge_between, edge_in_duct}
use Rattle.graph.specs.Route.{Choice}
use Rattle.graph.proofs.Truth.{and_left, and_right}
use Rattle.graph.proofs.Never.{never-mates}
use Rattle.graph.proofs.Ducts.{same_duct-mates, no_duct_no_mate}
use Rattle.ways.proofs.RoutesAlike.{alike_routes}
use Rattle.naming.specs.Book.{Book, feed, feed_all}
use Rattle.naming.specs.State.{State}
use Rattle.naming.proofs.AlikeBooks.{AlikeBooks}
use Rattle.commands.specs.Command.{Command, command_byte}
use Rattle.commands.specs.Facts.{after, facts, addition}
use Rattle.commands.specs.Refusal.{Refusal, Capacities}
use Rattle.commands.specs.Text.{Read, Text, followed_by, text_of}
use Rattle.commands.specs.Run.{and_then, accepted_in, run_over, run_text, run_within}
use Rattle.commands.specs.Entry.{Whole, refused_at_start, ran, Buffers, whole_run, book_after, outcome, entry_under}
use Rattle.commands.specs.NameList.{names_of}
use Rattle.commands.specs.Register.{register_routes}
use Rattle.commands.specs.Ducts.{ductless, ductless_journal}
use Rattle.commands.proofs.EachRewritten.{Is02, Unchanged, each_rewritten}
use Rattle.commands.proofs.AlikeStates.{SameRoutes}
use Rattle.commands.proofs.RunBooks.{Sound, empty_sound}
use Rattle.commands.proofs.Report.{report_is}
use Rattle.commands.proofs.Simulated.{Apart, StandsFor, itself, in_duct_lem, spans_after, PairedBooks, Paired, books_empty, states_empty, books_after, with_one_more_lem}

-- The first run's spans are each lost alone, and the second's with those of their duct; and no duct is told in either.
abbrev untold : Apart
untold =
    record {
      rule = never;
      rule' = same_duct;
      duct_of = λ number. 0;
      mates = never-mates;
      mates' = same_duct-mates;
      alone = λ e f none. unfold never in refl;
      alone' = λ t n before e f none none'. no_duct_no_mate e f none';
    }

-- every command but 0B stands for itself
for_itself : (spans : ℕ) (c : Command) → not (eqb (command_byte c) 0x0B) ≡ true → StandsFor untold spans c c
unfolding facts edge_between edge_in_duct
for_itself spans c other = go (each_rewritten c other)
  where
    go : Is02 c ⊎ Unchanged c → StandsFor untold spans c c
    go (inl w) = rw w.is (in_duct_lem refl (λ caps s. refl))
    go (inr left) = itself left.adds_none

-- so after any commands without 0B the two books are alike
alike_after : {spans : ℕ} {b b' : Book} → PairedBooks untold spans b b' → (cs : List Command) → ductless cs ≡ true
    → AlikeBooks (feed_all b (map addition cs)) (feed_all b' (map addition cs))
unfolding ductless all_in feed_all
alike_after {spans} {b} {b'} p [] free = p.alike
alike_after {spans} {b} {b'} p (c ∷ later) free =
    let this = not (eqb (command_byte c) 0x0B) in
    alike_after {spans = spans_after spans c} {b = feed b (addition c)} {b' = feed b' (addition c)}
    (books_after p (for_itself spans c (and_left this _ free))) later (and_right this _ free)

-- and they hold the same names
pub names_without_ducts : (cs : List Command) → ductless cs ≡ true → names_of (book_after same_duct cs) ≡ names_of (book_after never cs)
unfolding book_after names_of
names_without_ducts cs free =
    let a = alike_after (books_empty untold) cs free in
    rw (a.networks.as_many_vertices, a.networks.as_many_edges, a.same_components, a.same_bridge_blocks, a.same_blocks)

-- from two such states texts without 0B run alike, under a choice that gives networks alike the same routes
run_without_ducts : (choice : Choice) → SameRoutes choice → (caps : Capacities) {spans : ℕ} {s s' : State} → Paired untold spans s s' → Sound caps s
    → (rs : List Read) (end : Option Refusal)
    → ductless (map (λ r. r.command) rs) ≡ true
    → run_text choice caps s' (record { commands = rs; refusal = end }) ≡ run_text choice caps s (record { commands = rs; refusal = end })
unfolding ductless all_in followed_by accepted_in
run_without_ducts choice same caps {spans} {s} {s'} p sound [] end free = unfold run_text run_over in refl
run_without_ducts choice same caps {spans} {s} {s'} p sound (r ∷ later) end free =
    let this = not (eqb (command_byte r.command) 0x0B) in
    let t : Text = record { commands = later; refusal = end } in
    with_one_more_lem p choice choice caps sound r r (for_itself spans r.command (and_left this _ free)) t t (λ run run'. run' ≡ run) (λ q. refl)
    (λ answered next still.
    ap₂ (λ told. and_then (record { command = r.command; answer = told; width = r.width }))
    (answered (λ asks. same _ _ p.books.alike.networks))
    (run_without_ducts choice same caps {spans = spans_after spans r.command} {s = after s r.command} {s' = after s' r.command}
    next still later end (and_right this _ free)))

-- A journal without 0B: the whole run is that where no span is lost with another,
pub whole_run_without_ducts : (choice : Choice) → SameRoutes choice
    → (caps : Capacities) (journal : List ℕ) (work_length answers_length report_length : ℕ) → ductless_journal journal ≡ true
    → whole_run same_duct choice caps journal work_length answers_length report_length
    ≡ whole_run never choice caps journal work_length answers_length report_length
unfolding whole_run ductless_journal run_within
whole_run_without_ducts choice same caps journal work_length answers_length report_length free =
    rw
    (run_without_ducts choice same caps (states_empty untold) (empty_sound caps never never-mates) (text_of journal).commands (text_of journal).refusal
    free)

-- and so whatever the capacities and the buffers, the same is returned and left.
pub without_ducts : (choice : Choice) → SameRoutes choice → (caps : Capacities) (journal : List ℕ) (lent : Buffers)
    → ductless_journal journal ≡ true → entry_under same_duct choice caps journal lent ≡ entry_under never choice caps journal lent
unfolding entry_under
without_ducts choice same caps journal lent free = rw (whole_run_without_ducts choice same caps journal _ _ _ free) (same_outcome _)
  where
    same_outcome : (w : Whole) → outcome same_duct caps lent w ≡ outcome never caps lent w
    same_outcome (refused_at_start r) = unfold outcome in refl
    same_outcome (ran run) = unfold outcome in rw (report_is same_duct run, report_is never run)

-- The register's choice is such a one: networks alike are searched alike.
pub register_same_routes : SameRoutes register_routes
unfolding register_routes
register_same_routes g h a = alike_routes a
